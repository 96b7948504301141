-- What is known while a text is read, and what follows when reading stops.
use Rattle.std.proofs.Common.{◌≡◌, ℕ, ◌+◌, ◌-◌, ◌<◌, ◌≤◌, List, [], ◌∷◌, ◌++◌, length, take, refl, sym, ap, ◌∙◌, subst, append_assoc, append-nil, length-append, arith, inl, inr}
use Rattle.std.specs.Prelude.{Option, Some, None, IfSome, Result, Ok, Err, IfOk, OnErr}
use Rattle.std.proofs.lemmas.List.{take_all}
use Rattle.std.specs.Io.KnownBytes.{Appends, Consumes, Keeps, IsAtEnd}
use Rattle.std.proofs.KnownBytes.{Appends-trans, Consumes-nil, Consumes-trans, Consumes-kept}
use Rattle.nq_io.specs.Told.{AppendsPart}
use Rattle.nq_log.specs.States.{Claim}
use Rattle.nq_log.specs.Logs.{Reason, Ending, Right, Wrong, Reading, reading_by, wrong}
use Rattle.nq_log.specs.Laws.{ClaimsHold}
use Rattle.nq_log.specs.Growing.{with_claims}
use Rattle.nq_log.specs.Streams.{Place, AtStart, Between, AtEnd, reading_after, reading_at_end}
use Rattle.nq_log.specs.Logs.{step}
use Rattle.nq_log.proofs.Streams.{text_ends_law}
use Rattle.nq_check.specs.declared.checker.Checker.{Checker}
use Rattle.nq_check.specs.declared.checker.Spot.{Spot}
use Rattle.nq_check.specs.declared.checker.Spot.TheVariants as spot
use Rattle.nq_check.specs.declared.verdict.Checked.{Checked}
use Rattle.nq_check.specs.declared.verdict.Checked.TheVariants as checked
use Rattle.nq_check.specs.declared.verdict.Refusal.{Refusal}
use Rattle.nq_check.specs.Contexts.{state_of}
use Rattle.nq_check.specs.Texts.{claims_text, verdict_text}
use Rattle.nq_check.specs.Outcomes.{log_limit, reason_of, Answers, answer_text, IsUnfinished, IsChecked, IsUnread, IsTooLong, IsCutInClaims, IsCutInVerdict, IsCutOff, Checks}
use Rattle.nq_check.specs.Passing.{place_at, place_of, reading_from, IsReady, Passed, Stopped, Interrupted, Waits}
use Rattle.nq_check.specs.Checking.{Progress, EndsSo, IsJudged, Breaks}
use Rattle.nq_check.specs.declared.verdict.CheckFault.{CheckFault}
use Rattle.nq_check.specs.declared.verdict.CheckFault.TheVariants as fault
use Rattle.nq_check.proofs.PassingLemmas.{take_past, no_part, Passed-start, Passed-trans, Passed-more, Passed-reading, Stopped-after, Interrupted-after}

-- a reader at the start reads the text
module _ (start : Checker) (first : place_of start ≡ AtStart) where
  pub whole : (text : List ℕ) → reading_by step text ≡ reading_from start text
  whole text = ap (λ (p : Place). reading_after step p text) (sym first)

  -- the claims of any text that is read hold
  abbrev Sound : Type 0
  Sound = (text : List ℕ) → ClaimsHold [] (reading_by step text).claims

  -- ---- the bytes taken are a first part of the text

  of_text : (left now : Option (List ℕ)) (taken : List ℕ) (P : List ℕ → Type 0) → Consumes left now taken → ((rest : List ℕ) → P (taken ++ rest)) → IfSome left P
  of_text None now taken P c h = tt
  of_text (Some text) None taken P c h = absurd c
  of_text (Some text) (Some rest) taken P c h = subst P (sym c) (h rest)

  take_front : (taken rest : List ℕ) → length taken ≤ log_limit → take log_limit (taken ++ rest) ≡ taken ++ take (log_limit - length taken) rest
  take_front taken rest within =
      let e : log_limit ≡ length taken + (log_limit - length taken) = omega (arith, within) in
      ap (λ n. take n (taken ++ rest)) e ∙ take_past taken rest (log_limit - length taken)

  -- ---- a wrong line

  pub stopped_judged : (c : Checker) (taken : List ℕ) (why : Refusal) (left now held written : Option (List ℕ)) → Sound → Consumes left now taken → length taken ≤ log_limit →
      Stopped start c taken why held written → IsJudged left held written (checked.Refused c.line why)
  stopped_judged c taken why left now held written sound consumed within s =
      let reading = with_claims s.claims (wrong c.line (reason_of why)) in
      let reads : (more : List ℕ) → reading_by step (taken ++ more) ≡ reading = λ more. whole (taken ++ more) ∙ s.reads more in
      let same : s.claims ++ [] ≡ s.claims = append-nil s.claims in
      record {
        reading = reading;
        read = of_text left now taken (λ text. reading_by step text ≡ reading) consumed reads;
        within = of_text left now taken (λ text. reading_by step (take log_limit text) ≡ reading) consumed
            (λ rest. ap (reading_by step) (take_front taken rest within) ∙ reads (take (log_limit - length taken) rest));
        answers = (refl, refl);
        text = subst (λ (cs : List Claim). Appends held written (claims_text cs)) (sym same) s.text;
        sound = subst (λ (r : Reading). ClaimsHold [] r.claims) (reads []) (sound (taken ++ []));
      }

  -- ---- where no whole line is in hand

  module _ (c : Checker) (hand : List ℕ) (count : ℕ) (left now held written : Option (List ℕ)) (p : Progress start c hand count left now held written) where
    here : Reading
    here = with_claims p.passed.claims (reading_at_end (place_of c) hand)

    pub reads_so : reading_by step p.taken ≡ with_claims p.passed.claims (reading_at_end (place_of c) hand)
    reads_so = whole p.taken ∙ Passed-reading start c p.taken hand held written p.passed ∙ ap (with_claims p.passed.claims) (text_ends_law step (place_of c) hand p.waits.free)

    no_claims : (place : Place) (hand : List ℕ) → (reading_at_end place hand).claims ≡ []
    no_claims AtStart hand = refl
    no_claims (Between n s) hand = refl
    no_claims (AtEnd n) [] = refl
    no_claims (AtEnd n) (b ∷ hand) = refl

    pub these_claims : (with_claims p.passed.claims (reading_at_end (place_of c) hand)).claims ≡ p.passed.claims
    these_claims = ap (λ (cs : List Claim). p.passed.claims ++ cs) (no_claims (place_of c) hand) ∙ append-nil p.passed.claims

    pub text_so : Appends held written (claims_text (with_claims p.passed.claims (reading_at_end (place_of c) hand)).claims)
    text_so = subst (λ (cs : List Claim). Appends held written (claims_text cs)) (sym these_claims) p.passed.text

    unfinished_at : (s : Spot) → (s ≡ spot.End → hand ≡ []) → IsUnfinished (reading_at_end (place_at s c.line (state_of c.context)) hand).ending
    unfinished_at spot.Start none = tt
    unfinished_at spot.Between none = tt
    unfinished_at spot.End none = subst (λ (h : List ℕ). IsUnfinished (reading_at_end (AtEnd c.line) h).ending) (sym (none refl)) tt

    pub unfinished_so : IsUnfinished (reading_at_end (place_of c) hand).ending
    unfinished_so = unfinished_at c.spot p.waits.end

    sound_so : Sound → ClaimsHold [] (with_claims p.passed.claims (reading_at_end (place_of c) hand)).claims
    sound_so sound = subst (λ (r : Reading). ClaimsHold [] r.claims) reads_so (sound p.taken)

    -- the source failed
    pub unread : (later : Option (List ℕ)) → Sound → Keeps now later → IsUnread step left held written
    unread later sound kept = record {
      reading = with_claims p.passed.claims (reading_at_end (place_of c) hand);
      read = of_text left later p.taken _ (Consumes-kept left now later p.taken p.consumed kept) (λ rest. (p.taken, rest, refl, reads_so));
      unfinished = unfinished_so;
      text = text_so;
      sound = sound_so sound;
    }

    -- the text ends
    all_taken : (left now : Option (List ℕ)) (taken : List ℕ) (P : List ℕ → Type 0) → Consumes left now taken → IsAtEnd now → P taken → IfSome left P
    all_taken None now taken P c end h = tt
    all_taken (Some text) None taken P c end h = absurd c
    all_taken (Some text) (Some rest) taken P c end h = subst P (sym (c ∙ ap (λ (r : List ℕ). taken ++ r) end ∙ append-nil taken)) h

    pub ended : (later : Option (List ℕ)) (answer : Checked) → Sound → start.claims ≡ 0 → EndsSo c answer → Consumes now later [] → IsAtEnd later → IsJudged left held written answer
    ended later answer sound none ends last end =
        let within : length p.taken ≤ log_limit = let e = p.count_is in let f = p.within in omega (arith, e, f) in
        let gone : Consumes left later p.taken = subst (Consumes left later) (append-nil p.taken) (Consumes-trans left now later p.taken [] p.consumed last) in
        let claims : c.claims ≡ length p.passed.claims = let e = p.passed.count in omega (arith, e, none) in
        let count : length (with_claims p.passed.claims (reading_at_end (place_of c) hand)).claims ≡ c.claims = ap length these_claims ∙ sym claims in
        record {
          reading = with_claims p.passed.claims (reading_at_end (place_of c) hand);
          read = all_taken left later p.taken _ gone end reads_so;
          within = all_taken left later p.taken _ gone end (ap (reading_by step) (take_all log_limit p.taken within) ∙ reads_so);
          answers = subst (λ n. Answers n (reading_at_end (place_of c) hand).ending answer) (sym count) (ends.answers hand p.waits);
          text = text_so;
          sound = sound_so sound;
        }

    -- the limit is reached, and more is there
    more_than : (left now : Option (List ℕ)) (taken piece : List ℕ) → Consumes left now (taken ++ piece) → length taken ≡ log_limit → 0 < length piece → IfSome left (λ text. log_limit < length text)
    more_than None now taken piece c e some = tt
    more_than (Some text) None taken piece c e some = absurd c
    more_than (Some text) (Some rest) taken piece c e some =
        let f : length text ≡ length ((taken ++ piece) ++ rest) = ap length c in
        let g : length ((taken ++ piece) ++ rest) ≡ length (taken ++ piece) + length rest = length-append (taken ++ piece) rest in
        let h : length (taken ++ piece) ≡ length taken + length piece = length-append taken piece in
        omega (arith, e, some, f, g, h)

    pub too_long : (later : Option (List ℕ)) (piece : List ℕ) → Sound → Consumes now later piece → 0 < length piece → count ≡ log_limit → IsTooLong step left held written
    too_long later piece sound more some full =
        let gone : Consumes left later (p.taken ++ piece) = Consumes-trans left now later p.taken piece p.consumed more in
        let long : length p.taken ≡ log_limit = sym p.count_is ∙ full in
        record {
          reading = with_claims p.passed.claims (reading_at_end (place_of c) hand);
          long = more_than left later p.taken piece gone long some;
          read = of_text left later (p.taken ++ piece) _ gone
              (λ rest. ap (λ (t : List ℕ). reading_by step (take log_limit t)) (append_assoc p.taken piece rest)
              ∙ ap (reading_by step) (exactly (piece ++ rest) long) ∙ reads_so);
          unfinished = unfinished_so;
          text = text_so;
          sound = sound_so sound;
        }
      where
        exactly : (rest : List ℕ) → length p.taken ≡ log_limit → take log_limit (p.taken ++ rest) ≡ p.taken
        exactly rest long =
            let e : log_limit ≡ length p.taken + 0 = omega (arith, long) in
            ap (λ n. take n (p.taken ++ rest)) e ∙ take_past p.taken rest 0 ∙ append-nil p.taken

    -- writing failed, or memory was wanting, in the lines of a piece
    pub cut_off : (later : Option (List ℕ)) (piece : List ℕ) (after : Option (List ℕ)) → Sound → Consumes now later piece → Interrupted c (hand ++ piece) written after → IsCutOff step left held after
    cut_off later piece after sound more i =
        let all = Passed-more start c p.taken hand piece held written p.passed in
        let gone : Consumes left later (p.taken ++ piece) = Consumes-trans left now later p.taken piece p.consumed more in
        let part = Interrupted-after start c (p.taken ++ piece) (hand ++ piece) held written after all i in
        let cut : IsCutInClaims step left held after = record {
          reading = reading_by step (p.taken ++ piece);
          read = of_text left later (p.taken ++ piece) _ gone (λ rest. (p.taken ++ piece, rest, refl, refl));
          text = subst (λ (r : Reading). AppendsPart held after (claims_text r.claims)) (sym (whole (p.taken ++ piece))) part.text;
          sound = sound (p.taken ++ piece);
        } in
        inl cut

    -- the next piece goes on
    pub goes_on : (later : Option (List ℕ)) (d : Checker) (rest piece : List ℕ) (after : Option (List ℕ)) → Consumes now later piece → count + length piece ≤ log_limit →
        Passed c d (hand ++ piece) rest written after → Waits d rest → Progress start d rest (count + length piece) left later held after
    goes_on later d rest piece after more within q waits = record {
      taken = p.taken ++ piece;
      passed = Passed-trans start c d (p.taken ++ piece) (hand ++ piece) rest held written after (Passed-more start c p.taken hand piece held written p.passed) q;
      waits = waits;
      consumed = Consumes-trans left now later p.taken piece p.consumed more;
      count_is = let e : length (p.taken ++ piece) ≡ length p.taken + length piece = length-append p.taken piece in let f = p.count_is in omega (arith, e, f);
      within = within;
    }

    pub stops : (later : Option (List ℕ)) (d : Checker) (piece : List ℕ) (why : Refusal) (after : Option (List ℕ)) → Sound → Consumes now later piece → count + length piece ≤ log_limit →
        Stopped c d (hand ++ piece) why written after → IsJudged left held after (checked.Refused d.line why)
    stops later d piece why after sound more within q =
        let e : length (p.taken ++ piece) ≡ length p.taken + length piece = length-append p.taken piece in
        let f = p.count_is in
        stopped_judged d (p.taken ++ piece) why left later held after sound (Consumes-trans left now later p.taken piece p.consumed more) (omega (arith, e, f, within))
        (Stopped-after start c d (p.taken ++ piece) (hand ++ piece) why held written after (Passed-more start c p.taken hand piece held written p.passed) q)

  pub begins : (left held : Option (List ℕ)) → IsReady start → Progress start start [] 0 left left held held
  begins left held ready = record {
    taken = [];
    passed = Passed-start start [] held ready;
    waits = record { free = tt; end = λ e. refl };
    consumed = Consumes-nil left;
    count_is = refl;
    within = omega arith;
  }

-- ---- the verdict

verdict_is : (n : ℕ) (ending : Ending) (answer : Checked) → Answers n ending answer → verdict_text n ending ≡ answer_text answer
verdict_is n Right (checked.Accepted k) a = ap (λ m. answer_text (checked.Accepted m)) (sym a)
verdict_is n Right (checked.Refused line why) a = absurd a
verdict_is n (Wrong line reason) (checked.Accepted k) a = absurd a
verdict_is n (Wrong line reason) (checked.Refused l why) a =
    ap (λ m. verdict_text n (Wrong m reason)) (sym a.0) ∙ ap (λ (r : Reason). verdict_text n (Wrong l r)) (sym a.1)

pub judged_checked : (left held now after : Option (List ℕ)) (answer : Checked) → IsJudged left held now answer → Appends now after (answer_text answer) → IsChecked step left held after answer
judged_checked left held now after answer j wrote = record {
  reading = j.reading;
  read = j.read;
  within = j.within;
  answers = j.answers;
  text = Appends-trans held now after (claims_text j.reading.claims) (verdict_text (length j.reading.claims) j.reading.ending) j.text
      (subst (Appends now after) (sym (verdict_is (length j.reading.claims) j.reading.ending answer j.answers)) wrote);
  sound = j.sound;
}

pub judged_cut : (left held now after : Option (List ℕ)) (answer : Checked) → IsJudged left held now answer → AppendsPart now after (answer_text answer) → IsCutOff step left held after
judged_cut left held now after answer j wrote =
    let verdict = verdict_text (length j.reading.claims) j.reading.ending in
    let part : AppendsPart now after verdict = subst (AppendsPart now after) (sym (verdict_is (length j.reading.claims) j.reading.ending answer j.answers)) wrote in
    let cut : IsCutInVerdict step left held after = record {
      reading = j.reading;
      read = j.read;
      within = j.within;
      part = part.0;
      text = Appends-trans held now after (claims_text j.reading.claims) (take part.0 verdict) j.text part.1;
      sound = j.sound;
    } in
    inr cut

-- what is cut off broke neither in the source nor at the limit
pub broken : {T : Type 0} (left held after : Option (List ℕ)) (r : Result T CheckFault) (e : CheckFault) → r ≡ Err e → (r ≡ Err fault.Read → ⊥) → (r ≡ Err fault.TooLong → ⊥) → IsCutOff step left held after → Breaks left held after e
broken left held after r fault.Read is no_read no_length cut = absurd (no_read is)
broken left held after r fault.Write is no_read no_length cut = cut
broken left held after r fault.TooLong is no_read no_length cut = absurd (no_length is)
broken left held after r fault.Memory is no_read no_length cut = cut

-- nothing was read, and nothing written
pub nothing_yet : (left held : Option (List ℕ)) → ((text : List ℕ) → ClaimsHold [] (reading_by step text).claims) → IsCutOff step left held held
nothing_yet left held sound =
    let cut : IsCutInClaims step left held held = record {
      reading = reading_by step [];
      read = any left;
      text = no_part held (claims_text (reading_by step []).claims);
      sound = sound [];
    } in
    inl cut
  where
    any : (left : Option (List ℕ)) → IfSome left (λ text. (taken : List ℕ) × (more : List ℕ) × (text ≡ taken ++ more) × (reading_by step taken ≡ reading_by step []))
    any None = tt
    any (Some text) = ([], text, refl, refl)

-- the verdict was written, or a first part of it
pub verdict_checks : (left held now after : Option (List ℕ)) (answer : Checked) (r : Result Checked CheckFault) → IsJudged left held now answer →
    IfOk r (λ given. (given ≡ answer) × Appends now after (answer_text answer)) → OnErr r (AppendsPart now after (answer_text answer)) →
    (r ≡ Err fault.Read → ⊥) → (r ≡ Err fault.TooLong → ⊥) → Checks step left held after r
verdict_checks left held now after answer (Ok given) j ok err no_read no_length =
    subst (λ (a : Checked). IsChecked step left held after a) (sym ok.0) (judged_checked left held now after answer j ok.1)
verdict_checks left held now after answer (Err fault.Read) j ok err no_read no_length = absurd (no_read refl)
verdict_checks left held now after answer (Err fault.Write) j ok err no_read no_length = judged_cut left held now after answer j err
verdict_checks left held now after answer (Err fault.TooLong) j ok err no_read no_length = absurd (no_length refl)
verdict_checks left held now after answer (Err fault.Memory) j ok err no_read no_length = judged_cut left held now after answer j err
