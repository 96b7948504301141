-- Readers that go on.
use Rattle.std.proofs.Common.{◌≡◌, ℕ, zero, suc, ◌+◌, ◌-◌, ◌<◌, ◌≤◌, true, false, nat_eq, get_or, drop, add-one, List, [], ◌∷◌, ◌++◌, length, take, refl, sym, ap, ◌∙◌, subst, append_assoc, append-nil, length-append, arith}
use Rattle.std.specs.Prelude.{Option, Some, None, Result, Ok, Err, IfOk, IfSome, IfNone, is_ok, is_err, if◌then◌else◌}
use Rattle.std.specs.Option.{option_map}
use Rattle.std.specs.List.{All, AllByRecursion}
use Rattle.std.specs.declared.alloc.AllocError.{AllocError}
use Rattle.std.proofs.Math.Seq.{drop-cons}
use Rattle.std.proofs.lemmas.List.{get_or-take, take-append-drop, take_rest, length-take}
use Rattle.std.proofs.lemmas.List.Elements.{All-from_get_or}
use Rattle.std.proofs.lemmas.Bool.{eqb-true}
use Rattle.memchr.specs.Find.{IsFirstByte, is_byte}
use Rattle.nq_logtext.proofs.Cuts.{is_false}
use Rattle.nq_logtext.specs.Lines.{Line, IsSpellable, spelling}
use Rattle.nq_logtext.specs.Views.{view}
use Rattle.nq_logtext.specs.declared.line.LogLine.{LogLine}
use Rattle.nq_bank.proofs.NodesLemmas.{All-head, All-tail}
use Rattle.std.specs.Io.KnownBytes.{Appends}
use Rattle.std.proofs.KnownBytes.{Appends-nil, Appends-trans}
use Rattle.nq_io.specs.Told.{AppendsPart}
use Rattle.nq_logtext.specs.Reading.{line_of}
use Rattle.nq_log.specs.States.{Claim, State, Step, Ends, start_of}
use Rattle.nq_log.specs.Logs.{Malformed, NotAllowed, Reading, wrong, is_header}
use Rattle.nq_log.specs.Blocks.{HasNoLineFeed}
use Rattle.nq_log.specs.Growing.{with_claims}
use Rattle.nq_log.specs.Streams.{Between, AtEnd, next_line, reading_after, Move, Moves, Fails, move_at, move_by, reading_moved}
use Rattle.nq_log.specs.Logs.{step}
use Rattle.nq_log.proofs.Streams.{line_moves_law, nothing_follows_law, line_is_read_law, no_line_is_read_law}
use Rattle.nq_check.specs.declared.checker.Checker.{Checker}
use Rattle.nq_check.specs.declared.checker.Spot.{Spot}
use Rattle.nq_check.specs.declared.checker.Spot.TheVariants as spot
use Rattle.nq_check.specs.declared.verdict.Refusal.{Refusal}
use Rattle.nq_check.specs.declared.verdict.Refusal.TheVariants as refusal
use Rattle.nq_check.specs.Contexts.{state_of}
use Rattle.nq_check.specs.Texts.{claim_text, claims_text}
use Rattle.nq_check.specs.Outcomes.{reason_of}
use Rattle.nq_check.specs.Passing.{place_at, place_of, reading_from, IsReady, IsMoved, IsEstablished, IsWrong, Passed, Stopped, Interrupted}

-- ---- claims and their lines, one after the other

pub with_claims-append : (cs ds : List Claim) (r : Reading) → with_claims cs (with_claims ds r) ≡ with_claims (cs ++ ds) r
with_claims-append cs ds r = ap (λ (all : List Claim). record r { claims = all }) (sym (append_assoc cs ds r.claims))

pub claims_text-append : (cs ds : List Claim) → claims_text (cs ++ ds) ≡ claims_text cs ++ claims_text ds
claims_text-append [] ds = refl
claims_text-append (c ∷ cs) ds =
    ap (λ (t : List ℕ). (claim_text c ++ (10 ∷ [])) ++ t) (claims_text-append cs ds) ∙ sym (append_assoc (claim_text c ++ (10 ∷ [])) (claims_text cs) (claims_text ds))

-- ---- a first part of a text

pub take_past : (xs ys : List ℕ) (n : ℕ) → take (length xs + n) (xs ++ ys) ≡ xs ++ take n ys
take_past [] ys n = let e : 0 + n ≡ n = omega arith in ap (λ k. take k ys) e
take_past (x ∷ xs) ys n =
    let e : length (x ∷ xs) + n ≡ suc (length xs + n) = omega arith in
    ap (λ k. take k (x ∷ (xs ++ ys))) e ∙ ap (λ (t : List ℕ). x ∷ t) (take_past xs ys n)

pub part_after : (a b c : Option (List ℕ)) (front text : List ℕ) → Appends a b front → AppendsPart b c text → AppendsPart a c (front ++ text)
part_after a b c front text first part =
    (length front + part.0, subst (Appends a c) (sym (take_past front text part.0)) (Appends-trans a b c front (take part.0 text) first part.1))

take_within : (n : ℕ) (xs ys : List ℕ) → (k : ℕ) × (take k (xs ++ ys) ≡ take n xs)
take_within zero xs ys = (0, refl)
take_within (suc n) [] ys = (0, refl)
take_within (suc n) (x ∷ xs) ys = let r = take_within n xs ys in (suc r.0, ap (λ (t : List ℕ). x ∷ t) r.1)

pub part_of_longer : (a b : Option (List ℕ)) (text more : List ℕ) → AppendsPart a b text → AppendsPart a b (text ++ more)
part_of_longer a b text more part = let r = take_within part.0 text more in (r.0, subst (Appends a b) (sym r.1) part.1)

pub no_part : (a : Option (List ℕ)) (text : List ℕ) → AppendsPart a a text
no_part a text = (0, Appends-nil a)

-- ---- one reader after another

pub Passed-start : (c : Checker) (hand : List ℕ) (u : Option (List ℕ)) → IsReady c → Passed c c hand hand u u
Passed-start c hand u ready = record { claims = []; reads = λ more. refl; text = Appends-nil u; ready = ready; count = omega arith; lines = omega arith }

pub Passed-trans : (a b c : Checker) (hand mid rest : List ℕ) (u v w : Option (List ℕ)) → Passed a b hand mid u v → Passed b c mid rest v w → Passed a c hand rest u w
Passed-trans a b c hand mid rest u v w p q = record {
  claims = p.claims ++ q.claims;
  reads = λ more. p.reads more ∙ ap (with_claims p.claims) (q.reads more) ∙ with_claims-append p.claims q.claims (reading_from c (rest ++ more));
  text = subst (Appends u w) (sym (claims_text-append p.claims q.claims)) (Appends-trans u v w (claims_text p.claims) (claims_text q.claims) p.text q.text);
  ready = q.ready;
  count = let both : length (p.claims ++ q.claims) ≡ length p.claims + length q.claims = length-append p.claims q.claims in omega (arith, p.count, q.count, both);
  lines = omega (arith, p.lines, q.lines);
}

pub Passed-more : (a b : Checker) (hand rest piece : List ℕ) (u v : Option (List ℕ)) → Passed a b hand rest u v → Passed a b (hand ++ piece) (rest ++ piece) u v
Passed-more a b hand rest piece u v p = record {
  claims = p.claims;
  reads = λ more. ap (reading_from a) (append_assoc hand piece more) ∙ p.reads (piece ++ more)
      ∙ ap (λ (t : List ℕ). with_claims p.claims (reading_from b t)) (sym (append_assoc rest piece more));
  text = p.text;
  ready = p.ready;
  count = p.count;
  lines = let one : length (hand ++ piece) ≡ length hand + length piece = length-append hand piece in
      let two : length (rest ++ piece) ≡ length rest + length piece = length-append rest piece in omega (arith, p.lines, one, two);
}

pub Stopped-after : (a b c : Checker) (hand mid : List ℕ) (why : Refusal) (u v w : Option (List ℕ)) → Passed a b hand mid u v → Stopped b c mid why v w → Stopped a c hand why u w
Stopped-after a b c hand mid why u v w p q = record {
  claims = p.claims ++ q.claims;
  reads = λ more. p.reads more ∙ ap (with_claims p.claims) (q.reads more) ∙ with_claims-append p.claims q.claims (wrong c.line (reason_of why));
  text = subst (Appends u w) (sym (claims_text-append p.claims q.claims)) (Appends-trans u v w (claims_text p.claims) (claims_text q.claims) p.text q.text);
}

-- the reading of just what is in hand
pub Passed-reading : (a b : Checker) (hand rest : List ℕ) (u v : Option (List ℕ)) (p : Passed a b hand rest u v) → reading_from a hand ≡ with_claims p.claims (reading_from b rest)
Passed-reading a b hand rest u v p =
    ap (reading_from a) (sym (append-nil hand)) ∙ p.reads [] ∙ ap (λ (t : List ℕ). with_claims p.claims (reading_from b t)) (append-nil rest)

pub Interrupted-after : (a b : Checker) (hand mid : List ℕ) (u v w : Option (List ℕ)) → Passed a b hand mid u v → Interrupted b mid v w → Interrupted a hand u w
Interrupted-after a b hand mid u v w p q =
    let all : claims_text (reading_from a hand).claims ≡ claims_text p.claims ++ claims_text (reading_from b mid).claims =
    ap (λ (r : Reading). claims_text r.claims) (Passed-reading a b hand mid u v p) ∙ claims_text-append p.claims (reading_from b mid).claims in
    record { text = subst (AppendsPart u w) (sym all) (part_after u v w (claims_text p.claims) (claims_text (reading_from b mid).claims) p.text q.text) }

pub Interrupted-none : (a : Checker) (hand : List ℕ) (u : Option (List ℕ)) → Interrupted a hand u u
Interrupted-none a hand u = record { text = no_part u (claims_text (reading_from a hand).claims) }

-- ---- one line

module _ (old : Checker) (bytes : List ℕ) (free : HasNoLineFeed bytes) where
  the_move : Move
  the_move = move_at step (place_of old) (line_of bytes)

  moved : (m : Move) (rest : List ℕ) → move_at step (place_of old) (line_of bytes) ≡ m → reading_from old (bytes ++ (10 ∷ rest)) ≡ reading_moved step (place_of old) m rest
  moved m rest e = line_moves_law step (place_of old) bytes rest free ∙ ap (λ (m : Move). reading_moved step (place_of old) m rest) e

  along : (m : Move) (rest more : List ℕ) → move_at step (place_of old) (line_of bytes) ≡ m → reading_from old ((bytes ++ (10 ∷ rest)) ++ more) ≡ reading_moved step (place_of old) m (rest ++ more)
  along m rest more e = ap (reading_from old) (append_assoc bytes (10 ∷ rest) more) ∙ moved m (rest ++ more) e

  longer : (rest : List ℕ) → length rest + 1 ≤ length (bytes ++ (10 ∷ rest))
  longer rest = let e : length (bytes ++ (10 ∷ rest)) ≡ length bytes + length (10 ∷ rest) = length-append bytes (10 ∷ rest) in
      let f : length (10 ∷ rest) ≡ length rest + 1 = omega arith in omega (arith, e, f)

  pub line_moves : (new : Checker) (rest : List ℕ) (u : Option (List ℕ)) → IsMoved (move_at step (place_of old) (line_of bytes)) old new → Passed old new (bytes ++ (10 ∷ rest)) rest u u
  line_moves new rest u m = record {
    claims = [];
    reads = λ more. along _ rest more m.is;
    text = Appends-nil u;
    ready = m.step.ready;
    count = let e = m.step.claims in omega (arith, e);
    lines = let e = m.step.line in let f = longer rest in omega (arith, e, f);
  }

  pub line_claims : (new : Checker) (rest text : List ℕ) (u v : Option (List ℕ)) → IsReady old → IsEstablished (move_at step (place_of old) (line_of bytes)) text old new → Appends u v text →
      Passed old (record new { claims = new.claims + 1 }) (bytes ++ (10 ∷ rest)) rest u v
  line_claims new rest text u v ready m wrote = record {
    claims = m.claim ∷ [];
    reads = λ more. along _ rest more m.is;
    text = subst (Appends u v) (m.text_is ∙ sym (append-nil (claim_text m.claim ++ (10 ∷ [])))) wrote;
    ready = record { context = m.step.ready.context; line = m.step.ready.line; few = let e = m.step.claims in let f = m.step.line in let g = ready.few in omega (arith, e, f, g) };
    count = let e = m.step.claims in omega (arith, e);
    lines = let e = m.step.line in let f = longer rest in omega (arith, e, f);
  }

  pub line_cut : (new : Checker) (rest text : List ℕ) (u v : Option (List ℕ)) → IsEstablished (move_at step (place_of old) (line_of bytes)) text old new → AppendsPart u v text →
      Interrupted old (bytes ++ (10 ∷ rest)) u v
  line_cut new rest text u v m wrote =
      let all : claims_text (reading_from old (bytes ++ (10 ∷ rest))).claims ≡ text ++ claims_text (reading_from new rest).claims =
      ap (λ (r : Reading). claims_text r.claims) (moved _ rest m.is) ∙ ap (λ (t : List ℕ). t ++ claims_text (reading_from new rest).claims) (sym m.text_is) in
      record { text = subst (AppendsPart u v) (sym all) (part_of_longer u v text (claims_text (reading_from new rest).claims) wrote) }

  pub line_stops : (new : Checker) (rest : List ℕ) (why : Refusal) (u : Option (List ℕ)) → IsReady old → IsWrong (move_at step (place_of old) (line_of bytes)) why old new → Stopped old new (bytes ++ (10 ∷ rest)) why u u
  line_stops new rest why u ready m = record {
    claims = [];
    reads = λ more. along _ rest more m.is ∙ ap (λ n. wrong n (reason_of why)) (sym (m.line ∙ ready.line));
    text = Appends-nil u;
  }

-- ---- bytes after the last line

past_last : (c : Checker) (hand more : List ℕ) → (hand ≡ [] → ⊥) → reading_after step (AtEnd c.line) (hand ++ more) ≡ wrong c.line Malformed
past_last c [] more some = absurd (some refl)
past_last c (b ∷ hand) more some = nothing_follows_law step c.line b (hand ++ more)

pub Stopped-past : (c : Checker) (hand : List ℕ) (u : Option (List ℕ)) → c.spot ≡ spot.End → (hand ≡ [] → ⊥) → Stopped c c hand refusal.Malformed u u
Stopped-past c hand u end some = record {
  claims = [];
  reads = λ more. ap (λ (s : Spot). reading_after step (place_at s c.line (state_of c.context)) (hand ++ more)) end ∙ past_last c hand more some;
  text = Appends-nil u;
}

-- ---- a line feed in hand

all_recursion : (P : ℕ → Type 0) (xs : List ℕ) → All P xs → AllByRecursion P xs
all_recursion P [] h = tt
all_recursion P (x ∷ xs) h = (All-head P x xs h, all_recursion P xs (All-tail P x xs h))

pub feed_found : (bytes : List ℕ) (k : ℕ) → IsFirstByte (is_byte 10) bytes (Some k) →
    HasNoLineFeed (take k bytes) × (bytes ≡ take k bytes ++ (10 ∷ take (length bytes - (k + 1)) (drop (k + 1) bytes)))
feed_found bytes k h =
    let P : ℕ → Type 0 = λ x. nat_eq x 10 ≡ false in
    let within : k < length bytes = h.0.high in
    let before : All P (take k bytes) = All-from_get_or P (take k bytes) 0 (λ i lt.
    let below : i < k = omega (arith, length-take k bytes) in
    rw (get_or-take k bytes i 0 below) (is_false _ (h.0.before i (omega arith) below))) in
    let parts : bytes ≡ take k bytes ++ get_or bytes k 0 ∷ drop (suc k) bytes = sym (take-append-drop k bytes) ∙ ap (λ (r : List ℕ). take k bytes ++ r) (drop-cons bytes k 0 within) in
    let last : drop (suc k) bytes ≡ take (length bytes - (k + 1)) (drop (k + 1) bytes) = rw take_rest (rw add-one refl) in
    (all_recursion P (take k bytes) before, parts ∙ ap (λ b. take k bytes ++ (b ∷ drop (suc k) bytes)) (eqb-true (get_or bytes k 0) 10 h.1) ∙ ap (λ (r : List ℕ). take k bytes ++ (10 ∷ r)) last)

pub no_feed : (bytes : List ℕ) → IsFirstByte (is_byte 10) bytes None → HasNoLineFeed bytes
no_feed bytes h =
    let P : ℕ → Type 0 = λ x. nat_eq x 10 ≡ false in
    all_recursion P bytes (All-from_get_or P bytes 0 (λ i lt. is_false _ (h i (omega arith) lt)))

-- ---- the line that a text spells

pub line_read : (bytes : List ℕ) (r : Result (Option LogLine) AllocError) → IfOk r (λ o. IfSome o (λ line. IsSpellable (view line) × (bytes ≡ spelling (view line)))) →
    IfOk r (λ o. IfNone o ((line : Line) → IsSpellable line → bytes ≡ spelling line → ⊥)) → IfOk r (λ o. option_map view o ≡ line_of bytes)
line_read bytes (Ok (Some line)) found none = sym (line_is_read_law bytes (view line) found.0 found.1)
line_read bytes (Ok None) found none = sym (no_line_is_read_law bytes none)
line_read bytes (Err e) found none = tt

-- ---- the moves of a place between two lines

pub moves_between : (old : Checker) (line : Line) (o : Option Step) → old.spot ≡ spot.Between → step (state_of old.context) line ≡ o →
    move_at step (place_of old) (Some line) ≡ move_by old.line (state_of old.context) o
moves_between old line o e f =
    ap (λ (s : Spot). move_at step (place_at s old.line (state_of old.context)) (Some line)) e ∙ ap (move_by old.line (state_of old.context)) f

pub header : (old : Checker) (line : Line) → old.spot ≡ spot.Start → is_header line.word ≡ true → move_at step (place_of old) (Some line) ≡ Moves (Between 2 (start_of []))
header old line e f =
    ap (λ (s : Spot). move_at step (place_at s old.line (state_of old.context)) (Some line)) e
    ∙ ap (λ b. if b then Moves (Between 2 (start_of [])) else Fails NotAllowed) f

pub no_move : (s : Spot) (n : ℕ) (state : State) → move_at step (place_at s n state) None ≡ Fails Malformed
no_move spot.Start n state = refl
no_move spot.Between n state = refl
no_move spot.End n state = refl

pub end_move : (s : Spot) (n : ℕ) (state : State) (line : Option Line) → s ≡ spot.End → move_at step (place_at s n state) line ≡ Fails Malformed
end_move s n state line e = ap (λ (s : Spot). move_at step (place_at s n state) line) e

pub at_start : (old : Checker) → IsReady old → old.spot ≡ spot.Start → old.line ≡ 1
at_start old ready e = ready.line ∙ ap (λ (s : Spot). next_line (place_at s old.line (state_of old.context))) e

-- ---- a line of what is in hand

pub mid_is : (unfinished rest line after new slice : List ℕ) → rest ≡ line ++ (10 ∷ after) → new ≡ unfinished ++ line → slice ≡ new → unfinished ++ rest ≡ slice ++ (10 ∷ after)
mid_is unfinished rest line after new slice cut grown same =
    ap (λ (r : List ℕ). unfinished ++ r) cut ∙ sym (append_assoc unfinished line (10 ∷ after)) ∙ ap (λ (u : List ℕ). u ++ (10 ∷ after)) (sym grown ∙ sym same)

-- what an append that did not fail leaves
pub extended : {T E : Type 0} (r : Result T E) (new whole other : List ℕ) → new ≡ (if is_ok r then whole else other) → is_err r ≡ false → new ≡ whole
extended (Ok x) new whole other e ok = e
extended (Err x) new whole other e ok = absurd cc

pub ends_place : (old : Checker) (line : Line) → old.spot ≡ spot.Between → step (state_of old.context) line ≡ Some Ends →
    move_at step (place_of old) (Some line) ≡ Moves (AtEnd (old.line + 1))
ends_place old line e f =
    let one : suc old.line ≡ old.line + 1 = omega arith in moves_between old line (Some Ends) e f ∙ ap (λ n. Moves (AtEnd n)) one
