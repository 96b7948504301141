-- A form that is being read: the machine's state is that of the text that was taken.
use Rattle.std.proofs.Common.{◌≡◌, ℕ, ◌+◌, ◌-◌, ◌^◌, ◌<◌, ◌≤◌, true, false, List, [], ◌∷◌, ◌++◌, length, refl, ap, sym, ◌∙◌, subst, arith, append_assoc, append-nil, inl, inr}
use Rattle.std.specs.Prelude.{Option, None, Some, Err, IfSome, IsTrue, ◌⊎◌}
use Rattle.std.specs.Io.KnownBytes.{Consumes, prepend_known}
use Rattle.std.proofs.lemmas.Grind.{common_steps}
use Rattle.nq_form.specs.Form.{Form, Forms, end, push}
use Rattle.nq_form.specs.Bytes.{is_closed}
use Rattle.nq_form.specs.Grammar.{none, Seen, bare, Holds, Ending, done, fault, too_long, Reads, past}
use Rattle.nq_form.specs.Kinds.{kind_of}
use Rattle.nq_form.specs.Machine.{Frame, Stack, Mode, word, sharp, line, block, string, State, live, stopped, outer, outer_of, first_list, levels_of, mark_end, end_of, cut_off, finish}
use Rattle.nq_form.proofs.Built.{bottom, After}
use Rattle.nq_form.proofs.Settling.{Faulty}
use Rattle.nq_form.proofs.Stepping.{Standing, IsRight, closed-standing}
use Rattle.nq_form.proofs.Stopping.{Comes, is_token, end-right, finish-right, standing-holds}
use Rattle.nq_sexp.specs.Held.{Held, behind, ahead, IsNext, Begins, Taken}
use Rattle.nq_sexp.specs.Halt.{IsLookFault, IsFaultAt, IsMet, IsApart, IsPrompt, IsFound}
use Rattle.nq_sexp.specs.Stacks.{StopsAs, EndsAs}
use Rattle.nq_sexp.specs.Modes.{IsWord, is_whole_word, nested_in, ends_token, settled, stepped}
use Rattle.nq_sexp.specs.declared.fault.ReadFault.{ReadFault}
use Rattle.nq_sexp.specs.declared.fault.ReadFault.TheVariants.{Unbalanced, BadToken, NumeralTooWide, TooDeep, FileTooLong, Read, Memory}
use Rattle.nq_sexp.proofs.Reading.{behind-end, not_told, none_in_hand, taken-more, taken-looked, taken-one, prompt-open}
use Rattle.nq_sexp.proofs.Growing.{Grown, Ended, settled-grown, stepped-grown}
use Rattle.nq_sexp.proofs.Readying.{RestIs, rest_of, Ready, between, inside, settled-ready, settled-fault, settled-open, stepped-right, push-some, none-whole, some-whole, items-whole, standing-after, standing-word, ready-levels}

pub ahead_rest : (bytes : List ℕ) (left : Option (List ℕ)) (rest : List ℕ) → prepend_known bytes left ≡ Some rest → (xs : List ℕ) × (left ≡ Some xs) × (rest ≡ bytes ++ xs)
ahead_rest bytes None rest e = cc
ahead_rest bytes (Some xs) rest e = (xs, refl, cc)

-- what comes next begins the rest of the text
pub coming-rest : (held : Held) (left : Option (List ℕ)) (following : Option ℕ) (r : List ℕ) → IsNext held following → ahead held left ≡ Some r → RestIs following r
coming-rest held left None r n e =
    let told = ahead_rest held.bytes (behind held.told left) r e in
    let at_end : told.0 ≡ [] = behind-end held.told left told.0 n.1 told.1 in
    told.2 ∙ ap (λ (z : List ℕ). z ++ told.0) n.0 ∙ at_end
coming-rest held left (Some b) r n e = let told = ahead_rest held.bytes (behind held.told left) r e in ((n.0).0 ++ told.0, told.2 ∙ ap (λ (z : List ℕ). z ++ told.0) (n.0).1)

-- what holds of the text ahead holds of what was taken and the rest
at-rest : (a b : Option (List ℕ)) (t : List ℕ) (P : List ℕ → Type 0) → Consumes a b t → ((r : List ℕ) → b ≡ Some r → P (t ++ r)) → IfSome a P
at-rest None b t P c f = tt
at-rest (Some x) None t P c f = absurd c
at-rest (Some x) (Some y) t P c f = subst P (sym c) (f y refl)

fault-met : (base code place : ℕ) (text : List ℕ) (fs : Forms) → fs ≡ end → Faulty base 500 (2 ^ 25 - base) text fs (fault code place) → IsFaultAt base text code place
fault-met base code place text fs e f = (f.0, f.1, subst (λ (z : Forms). Reads 500 (2 ^ 25 - base) text z (fault code f.0)) e f.2)

stops-met : (old : Held) (text : List ℕ) (new : Held) (left : Option (List ℕ)) (s : State) (fs : Forms) (why : ReadFault) → StopsAs s fs why → fs ≡ end → ((e : Ending) → s ≡ stopped fs e → Faulty old.at 500 (2 ^ 25 - old.at) text fs e) → IsMet old text new left why
stops-met old text new left s fs (Unbalanced place) h e f = fault-met old.at 1 place text fs e (f (fault 1 place) h)
stops-met old text new left s fs (BadToken place) h e f = fault-met old.at 2 place text fs e (f (fault 2 place) h)
stops-met old text new left s fs (NumeralTooWide place) h e f = fault-met old.at 3 place text fs e (f (fault 3 place) h)
stops-met old text new left s fs (TooDeep place) h e f = fault-met old.at 4 place text fs e (f (fault 4 place) h)
stops-met old text new left s fs FileTooLong h e f = absurd h
stops-met old text new left s fs Read h e f = absurd h
stops-met old text new left s fs Memory h e f = tt

ends-met : (A : Type 0) (old : Held) (text : List ℕ) (new : Held) (left : Option (List ℕ)) (fs : Forms) (e : Ending) (why : ReadFault) → EndsAs {A = A} e (Err why) → fs ≡ end → Comes old.at 500 (2 ^ 25 - old.at) text fs e → IsMet old text new left why
ends-met A old text new left fs e (Unbalanced place) h q c = fault-met old.at 1 place text fs q (subst (λ (z : Ending). Comes old.at 500 (2 ^ 25 - old.at) text fs z) h c)
ends-met A old text new left fs e (BadToken place) h q c = fault-met old.at 2 place text fs q (subst (λ (z : Ending). Comes old.at 500 (2 ^ 25 - old.at) text fs z) h c)
ends-met A old text new left fs e (NumeralTooWide place) h q c = fault-met old.at 3 place text fs q (subst (λ (z : Ending). Comes old.at 500 (2 ^ 25 - old.at) text fs z) h c)
ends-met A old text new left fs e (TooDeep place) h q c = fault-met old.at 4 place text fs q (subst (λ (z : Ending). Comes old.at 500 (2 ^ 25 - old.at) text fs z) h c)
ends-met A old text new left fs e FileTooLong h q c = absurd h
ends-met A old text new left fs e Read h q c = absurd h
ends-met A old text new left fs e Memory h q c = tt

mark_end-forms : (frames : List Frame) (fs : Forms) → (mark_end frames fs).forms ≡ outer frames fs
mark_end-forms [] fs = refl
mark_end-forms (f ∷ frames) fs = refl

end-forms : (o : Option ℕ) (k : Stack) → (end_of o k).forms ≡ outer_of k
end-forms None k = mark_end-forms k.frames k.forms
end-forms (Some place) k = refl

cut-forms : (o : Option ℕ) (p : ℕ) (k : Stack) → (cut_off o p k).forms ≡ outer_of k
cut-forms None p k = refl
cut-forms (Some place) p k = refl

finish-forms : (k : Stack) (m : Mode) → is_token m ≡ false → (finish kind_of (live k m)).forms ≡ outer_of k
finish-forms k (word p w) e = cc
finish-forms k (sharp p) e = refl
finish-forms k line e = end-forms (first_list k.frames) k
finish-forms k (block p n q) e = cut-forms (first_list k.frames) p k
finish-forms k (string p bytes x) e = cut-forms (first_list k.frames) p k

no_word : (m : Mode) → is_token m ≡ false → is_whole_word m ≡ false
no_word (word p w) e = cc
no_word (sharp p) e = refl
no_word line e = refl
no_word (block p n q) e = refl
no_word (string p bytes x) e = refl

pub ready-whole_word : (base : ℕ) (k : Stack) (t : List ℕ) (m : Mode) → Ready base k t None m → is_whole_word m ≡ false
ready-whole_word base k t m (between a e) = refl
ready-whole_word base k t m (inside s (inl e)) = no_word m e
ready-whole_word base k t m (inside s (inr e)) = cc

-- the end of the text
ready-comes : (base limit : ℕ) (k : Stack) (t : List ℕ) (m : Mode) → Ready base k t None m → outer_of k ≡ end → length t ≤ limit → Comes base 500 limit t end (finish kind_of (live k m)).ending
ready-comes base limit k t m (between a e) o room =
    let short : length (t ++ []) ≤ limit = subst (λ (z : List ℕ). length z ≤ limit) (sym (append-nil t)) room in
    let c : Comes base 500 limit (t ++ []) (end_of (first_list k.frames) k).forms (end_of (first_list k.frames) k).ending = end-right base 500 limit (first_list k.frames) k t [] refl a bare short in
    subst (λ (z : List ℕ). Comes base 500 limit z end (end_of (first_list k.frames) k).ending) (append-nil t)
    (subst (λ (z : Forms). Comes base 500 limit (t ++ []) z (end_of (first_list k.frames) k).ending) (end-forms (first_list k.frames) k ∙ o) c)
ready-comes base limit k t m (inside s (inl e)) o room =
    subst (λ (z : Forms). Comes base 500 limit t z (finish kind_of (live k m)).ending) (finish-forms k m e ∙ o) (finish-right base 500 limit k m t s e room)
ready-comes base limit k t m (inside s (inr e)) o room = cc

module _ {S : Type 0} (left : S → Option (List ℕ)) where
  -- between two bytes
  pub record Parsing (old : Held) (before : S) (new : Held) (after : S) (k : Stack) (m : Mode) (following : Option ℕ) : Type 0 where
    pub text : List ℕ
    pub taken : Taken left old before new after text
    pub coming : IsNext new following
    pub standing : Standing old.at 500 k m text
    pub outside : outer_of k ≡ end
    pub nested : nested_in m ≤ length text

  -- a token that is over was taken
  pub record Settled (old : Held) (before : S) (new : Held) (after : S) (k : Stack) (m : Mode) (following : Option ℕ) : Type 0 where
    pub text : List ℕ
    pub taken : Taken left old before new after text
    pub coming : IsNext new following
    pub ready : Ready old.at k text following m
    pub grown : (outer_of k ≡ end) ⊎ Ended end k m
    pub nested : nested_in m ≤ length text
    pub unended : (outer_of k ≡ end) ⊎ (IsTrue (is_closed text) → ⊥)

  -- the next byte was taken
  pub record Stepped (old : Held) (before : S) (new : Held) (after : S) (k : Stack) (m : Mode) : Type 0 where
    pub text : List ℕ
    pub taken : Taken left old before new after text
    pub standing : Standing old.at 500 k m text
    pub grown : (outer_of k ≡ end) ⊎ Ended end k m
    pub nested : nested_in m ≤ length text
    pub prompt : IsPrompt before after old.bytes text

  room-of : (old new : Held) (before after : S) (t : List ℕ) → Taken left old before new after t → length t ≤ 2 ^ 25 - old.at
  room-of old new before after t x = omega (arith, x.count, x.within)

  below-of : (old new : Held) (before after : S) (t : List ℕ) → Taken left old before new after t → new.at < 2 ^ 25 → length t < 2 ^ 25 - old.at
  below-of old new before after t x h = omega (arith, x.count, h)

  seen-of : (old new : Held) (before after : S) (t r : List ℕ) (following : Option ℕ) → Taken left old before new after t → IsNext new following → RestIs following r → Seen (2 ^ 25 - old.at) t r
  seen-of old new before after t r None x n e = (room-of old new before after t x, inl e)
  seen-of old new before after t r (Some b) x n e = (room-of old new before after t x, inr (below-of old new before after t x n.1))

  rest-first : (following : Option ℕ) → RestIs following (rest_of following)
  rest-first None = refl
  rest-first (Some b) = ([], refl)

  standing-start : (old : Held) (k : Stack) (m : Mode) → k ≡ record { frames = []; forms = end; depth = 500 } → m ≡ word 0 [] → Standing old.at 500 k m []
  standing-start old k m e h =
      subst (λ (z : Stack). Standing old.at 500 z m []) (sym e) (subst (λ (z : Mode). Standing old.at 500 (record { frames = []; forms = end; depth = 500 }) z []) (sym h)
      (closed-standing old.at 500 0 (record { frames = []; forms = end; depth = 500 }) 0 [] (record { built = bottom none; all = omega arith }) refl))

  pub parsing-start : (old new : Held) (before after : S) (k : Stack) (m : Mode) (following : Option ℕ) → Taken left old before new after [] → IsNext new following → k ≡ record { frames = []; forms = end; depth = 500 } → m ≡ word 0 []
      → Parsing old before new after k m following
  parsing-start old new before after k m following x n e h = record {
    text = [];
    taken = x;
    coming = n;
    standing = standing-start old k m e h;
    outside = ap outer_of e;
    nested = subst (λ (z : Mode). nested_in z ≤ 0) (sym h) (omega arith);
  }

  pub parsing-settled : (old new : Held) (before after : S) (k j : Stack) (m n : Mode) (following : Option ℕ) → Parsing old before new after k m following → settled (ends_token following) k m ≡ live j n → Settled old before new after j n following
  parsing-settled old new before after k j m n following p e =
      let grew : Grown (outer_of k) (nested_in m) (live j n) = subst (λ (z : State). Grown (outer_of k) (nested_in m) z) e (settled-grown (ends_token following) k m) in
      let more : nested_in m ≤ length p.text = p.nested in
      record {
        text = p.text;
        taken = p.taken;
        coming = p.coming;
        ready = settled-ready old.at (2 ^ 25 - old.at) p.text following (ends_token following) k j m n refl p.standing (seen-of old new before after p.text (rest_of following) following p.taken p.coming (rest-first following)) e;
        grown = subst (λ (z : Forms). (outer_of j ≡ z) ⊎ Ended z j n) p.outside grew.0;
        nested = omega (arith, grew.1, more);
        unended = elim (settled-open old.at (2 ^ 25 - old.at) p.text following (ends_token following) k j m n p.standing e) [ inl same ↦ inl (ap outer_of (sym same) ∙ p.outside) | inr unclosed ↦ inr unclosed ];
      }

  apart-of : (text : List ℕ) (following : Option ℕ) → ends_token following ≡ true → IsApart text following
  apart-of text None e = tt
  apart-of text (Some b) e = inr e

  pub settled-found : (old new : Held) (before after : S) (k : Stack) (m : Mode) (following : Option ℕ) (f : Form) (gs : Forms) → Settled old before new after k m following → k.frames ≡ [] → k.forms ≡ push gs f
      → IsFound left old before new after f
  settled-found old new before after k m following f gs s o h =
      let whole = some-whole end gs k m f s.grown refl o h in
      let is = form_of s.ready whole.1 in
      record {
        text = s.text;
        is = record { spelled = items-whole old.at k s.text f is.0 o whole.0; ended = is.1 };
        taken = s.taken;
        prompt = elim s.unended [
          | inl same ↦ absurd (push-some gs f (sym h ∙ sym (ap (λ (z : List Frame). outer z k.forms) o) ∙ same))
          | inr unclosed ↦ prompt-open before after old.bytes new.bytes s.text (s.taken).asked unclosed
        ];
      }
    where
      form_of : {m : Mode} → Ready old.at k s.text following m → m ≡ word 0 [] → After old.at 500 k s.text × (IsTrue (is_closed s.text) ⊎ ((following : Option ℕ) × IsNext new following × IsApart s.text following))
      form_of (between a e) i = (a, inr (following, s.coming, apart-of s.text following e))
      form_of {m = n} (inside x c) i = let known = standing-after old.at k n s.text x i in (known.0, inl known.1)

  pub settled-none : (old new : Held) (before after : S) (k : Stack) (m : Mode) (following : Option ℕ) → Settled old before new after k m following → (k.frames ≡ [] → k.forms ≡ end) → outer_of k ≡ end
  settled-none old new before after k m following s h = none-whole end k m s.grown refl h

  pub settled-stepped : (old new mid : Held) (before after : S) (k j : Stack) (m n : Mode) (b : ℕ) → Settled old before new after k m (Some b) → outer_of k ≡ end → stepped new.at k m b ≡ live j n
      → (Begins new b → new.bytes ≡ b ∷ mid.bytes) → mid.at ≡ new.at + 1 → mid.told ≡ new.told → Stepped old before mid after j n
  settled-stepped old new mid before after k j m n b s o e moved count same =
      let here : new.at ≡ old.at + length s.text = (s.taken).count in
      let below = below-of old new before after s.text s.taken (s.coming).1 in
      let stepped_is : stepped (old.at + length s.text) k m b ≡ live j n = ap (λ (z : ℕ). stepped z k m b) (sym here) ∙ e in
      let right : IsRight old.at 500 (2 ^ 25 - old.at) (s.text ++ b ∷ []) (live j n) =
      subst (λ (z : State). IsRight old.at 500 (2 ^ 25 - old.at) (s.text ++ b ∷ []) z) stepped_is (stepped-right old.at (2 ^ 25 - old.at) k s.text b below m s.ready) in
      let grew : Grown (outer_of k) (nested_in m + 1) (live j n) = subst (λ (z : State). Grown (outer_of k) (nested_in m + 1) z) e (stepped-grown new.at k m b) in
      let one : Taken left new after mid after (b ∷ []) = taken-one left new mid after b (moved (s.coming).0) count same (s.coming).1 in
      let longer : length (s.text ++ b ∷ []) ≡ length s.text + 1 = grind (arith, common_steps) in
      record {
        text = s.text ++ b ∷ [];
        taken = taken-more left old new mid before after after s.text (b ∷ []) s.taken one;
        standing = right;
        grown = subst (λ (z : Forms). (outer_of j ≡ z) ⊎ Ended z j n) o grew.0;
        nested = omega (arith, grew.1, s.nested, longer);
        prompt = elim (s.taken).asked [
          | inl same ↦ inl same.0
          | inr more ↦ inr (more.0 ++ b ∷ [], ap (λ (z : List ℕ). z ++ b ∷ []) more.1 ∙ append_assoc old.bytes more.0 (b ∷ []), λ c. some more.0)
        ];
      }
    where
      some : (x : List ℕ) → 0 < length (x ++ b ∷ [])
      some x = grind (arith, common_steps)

  pub stepped-found : (old new : Held) (before after : S) (k : Stack) (m : Mode) (f : Form) (gs : Forms) → Stepped old before new after k m → k.frames ≡ [] → k.forms ≡ push gs f → IsFound left old before new after f
  stepped-found old new before after k m f gs s o h =
      let whole = some-whole end gs k m f s.grown refl o h in
      let known = standing-after old.at k m s.text s.standing whole.1 in
      record { text = s.text; is = record { spelled = items-whole old.at k s.text f known.0 o whole.0; ended = inl known.1 }; taken = s.taken; prompt = s.prompt }

  pub stepped-none : (old new : Held) (before after : S) (k : Stack) (m : Mode) → Stepped old before new after k m → (k.frames ≡ [] → k.forms ≡ end) → outer_of k ≡ end
  stepped-none old new before after k m s h = none-whole end k m s.grown refl h

  pub stepped-parsing : (old new last : Held) (before after later : S) (k : Stack) (m : Mode) (following : Option ℕ) → Stepped old before new after k m → outer_of k ≡ end → Taken left new after last later [] → IsNext last following
      → Parsing old before last later k m following
  stepped-parsing old new last before after later k m following s o x n =
      record { text = s.text; taken = taken-looked left old new last before after later s.text s.taken x; coming = n; standing = s.standing; outside = o; nested = s.nested }

  -- the source failed, or the file is too long
  look-met : (old new : Held) (before after : S) (t : List ℕ) (k : Stack) (m : Mode) (why : ReadFault) → Taken left old before new after t → Standing old.at 500 k m t → outer_of k ≡ end → IsLookFault new why
      → IfSome (ahead old (left before)) (λ rest. IsMet old rest new (left after) why)
  look-met old new before after t k m (Unbalanced place) x s o f = absurd f
  look-met old new before after t k m (BadToken place) x s o f = absurd f
  look-met old new before after t k m (NumeralTooWide place) x s o f = absurd f
  look-met old new before after t k m (TooDeep place) x s o f = absurd f
  look-met old new before after t k m Memory x s o f = absurd f
  look-met old new before after t k m Read x s o f =
      let held : Holds 500 t end = subst (λ (z : Forms). Holds 500 t z) o (standing-holds old.at 500 0 k m t s) in
      at-rest (ahead old (left before)) (ahead new (left after)) t (λ (z : List ℕ). IsMet old z new (left after) Read) x.known
      (λ r e. record {
        text = t;
        holds = held;
        none = f.0;
        untold = not_told old.told new.told (λ h. (x.kept h).0) f.1;
        taken = subst (λ (z : Option (List ℕ)). Consumes (Some (t ++ r)) z t) (sym e ∙ none_in_hand new (left after) f.0 f.1) refl;
        first = elim x.asked [
          | inl same ↦ ([], sym (same.1 ∙ ap (λ (z : List ℕ). t ++ z) f.0 ∙ append-nil t) ∙ sym (append-nil old.bytes))
          | inr more ↦ more
        ];
      })
  look-met old new before after t k m FileTooLong x s o f =
      let held : Holds 500 t end = subst (λ (z : Forms). Holds 500 t z) o (standing-holds old.at 500 0 k m t s) in
      let full : length t ≡ 2 ^ 25 - old.at = omega (arith, x.count, f.0) in
      at-rest (ahead old (left before)) (ahead new (left after)) t (λ (z : List ℕ). IsMet old z new (left after) FileTooLong) x.known
      (λ r e.
      let told = ahead_rest new.bytes (behind new.told (left after)) r e in
      let begun : r ≡ (f.1).0 ∷ (((f.1).1).0 ++ told.0) = told.2 ∙ ap (λ (z : List ℕ). z ++ told.0) ((f.1).1).1 in
      subst (λ (z : List ℕ). Reads 500 (2 ^ 25 - old.at) (t ++ z) end too_long) (sym begun) (past (f.1).0 (((f.1).1).0 ++ told.0) held full))

  pub start-met : (old new : Held) (before after : S) (why : ReadFault) → Taken left old before new after [] → IsLookFault new why → IfSome (ahead old (left before)) (λ rest. IsMet old rest new (left after) why)
  start-met old new before after why x f =
      let k : Stack = record { frames = []; forms = end; depth = 500 } in look-met old new before after [] k (word 0 []) why x (standing-start old k (word 0 []) refl refl) refl f

  pub stepped-met : (old new last : Held) (before after later : S) (k : Stack) (m : Mode) (why : ReadFault) → Stepped old before new after k m → outer_of k ≡ end → Taken left new after last later [] → IsLookFault last why
      → IfSome (ahead old (left before)) (λ rest. IsMet old rest last (left later) why)
  stepped-met old new last before after later k m why s o x f = look-met old last before later s.text k m why (taken-looked left old new last before after later s.text s.taken x) s.standing o f

  -- a token is a fault
  pub settle-met : (old new : Held) (before after : S) (k : Stack) (m : Mode) (following : Option ℕ) (why : ReadFault) → Parsing old before new after k m following → StopsAs (settled (ends_token following) k m) (outer_of k) why
      → IfSome (ahead old (left before)) (λ rest. IsMet old rest new (left after) why)
  settle-met old new before after k m following why p h =
      at-rest (ahead old (left before)) (ahead new (left after)) p.text (λ (z : List ℕ). IsMet old z new (left after) why) (p.taken).known
      (λ r e.
      let is = coming-rest new (left after) following r p.coming e in
      stops-met old (p.text ++ r) new (left after) (settled (ends_token following) k m) (outer_of k) why h p.outside
      (λ f g. settled-fault old.at (2 ^ 25 - old.at) p.text following (ends_token following) k m r (outer_of k) f refl p.standing is (seen-of old new before after p.text r following p.taken p.coming is) g))

  -- the next byte shows a fault
  pub step-met : (old new : Held) (before after : S) (k : Stack) (m : Mode) (b : ℕ) (why : ReadFault) → Settled old before new after k m (Some b) → outer_of k ≡ end → StopsAs (stepped new.at k m b) (outer_of k) why
      → IfSome (ahead old (left before)) (λ rest. IsMet old rest new (left after) why)
  step-met old new before after k m b why s o h =
      let below = below-of old new before after s.text s.taken (s.coming).1 in
      at-rest (ahead old (left before)) (ahead new (left after)) s.text (λ (z : List ℕ). IsMet old z new (left after) why) (s.taken).known
      (λ r e.
      let is = coming-rest new (left after) (Some b) r s.coming e in
      let joined : (s.text ++ b ∷ []) ++ is.0 ≡ s.text ++ r = append_assoc s.text (b ∷ []) is.0 ∙ ap (λ (z : List ℕ). s.text ++ z) (sym is.1) in
      subst (λ (z : List ℕ). IsMet old z new (left after) why) joined
      (stops-met old ((s.text ++ b ∷ []) ++ is.0) new (left after) (stepped new.at k m b) (outer_of k) why h o
      (λ f g. stopped-fault (stepped (old.at + length s.text) k m b) f is.0 (stepped-right old.at (2 ^ 25 - old.at) k s.text b below m s.ready) (ap (λ (z : ℕ). stepped z k m b) (sym (s.taken).count) ∙ g))))
    where
      stopped-fault : (x : State) (f : Ending) (more : List ℕ) → IsRight old.at 500 (2 ^ 25 - old.at) (s.text ++ b ∷ []) x → x ≡ stopped (outer_of k) f → Faulty old.at 500 (2 ^ 25 - old.at) ((s.text ++ b ∷ []) ++ more) (outer_of k) f
      stopped-fault x f more r e = (subst (λ (z : State). IsRight old.at 500 (2 ^ 25 - old.at) (s.text ++ b ∷ []) z) e r) more

  -- the end is a fault, or not
  pub finish-met : (A : Type 0) (old new : Held) (before after : S) (k : Stack) (m : Mode) (why : ReadFault) → Settled old before new after k m None → outer_of k ≡ end → EndsAs {A = A} (finish kind_of (live k m)).ending (Err why)
      → IfSome (ahead old (left before)) (λ rest. IsMet old rest new (left after) why)
  finish-met A old new before after k m why s o h =
      at-rest (ahead old (left before)) (ahead new (left after)) s.text (λ (z : List ℕ). IsMet old z new (left after) why) (s.taken).known
      (λ r e.
      let none_left : s.text ≡ s.text ++ r = sym (append-nil s.text) ∙ ap (λ (z : List ℕ). s.text ++ z) (sym (coming-rest new (left after) None r s.coming e)) in
      subst (λ (z : List ℕ). IsMet old z new (left after) why) none_left
      (ends-met A old s.text new (left after) end (finish kind_of (live k m)).ending why h refl (ready-comes old.at (2 ^ 25 - old.at) k s.text m s.ready o (room-of old new before after s.text s.taken))))

  pub finish-none : (old new : Held) (before after : S) (k : Stack) (m : Mode) → Settled old before new after k m None → outer_of k ≡ end → (finish kind_of (live k m)).ending ≡ done
      → IfSome (ahead old (left before)) (λ rest. Reads 500 (2 ^ 25 - old.at) rest end done)
  finish-none old new before after k m s o h =
      at-rest (ahead old (left before)) (ahead new (left after)) s.text (λ (z : List ℕ). Reads 500 (2 ^ 25 - old.at) z end done) (s.taken).known
      (λ r e.
      let none_left : s.text ≡ s.text ++ r = sym (append-nil s.text) ∙ ap (λ (z : List ℕ). s.text ++ z) (sym (coming-rest new (left after) None r s.coming e)) in
      let comes = ready-comes old.at (2 ^ 25 - old.at) k s.text m s.ready o (room-of old new before after s.text s.taken) in
      subst (λ (z : List ℕ). Reads 500 (2 ^ 25 - old.at) z end done) none_left (subst (λ (z : Ending). Comes old.at 500 (2 ^ 25 - old.at) s.text end z) h comes))

  -- the same stack, in which no form stands whole
  pub settled-kept : (old new : Held) (before after : S) (k j : Stack) (m : Mode) (following : Option ℕ) → Settled old before new after k m following → (j ≡ k) × (k.frames ≡ [] → k.forms ≡ end) → Settled old before new after j m following × (outer_of j ≡ end)
  settled-kept old new before after k j m following s e =
      (subst (λ (z : Stack). Settled old before new after z m following) (sym e.0) s, ap outer_of e.0 ∙ settled-none old new before after k m following s e.1)

  pub stepped-kept : (old new : Held) (before after : S) (k j : Stack) (m : Mode) → Stepped old before new after k m → (j ≡ k) × (k.frames ≡ [] → k.forms ≡ end) → Stepped old before new after j m × (outer_of j ≡ end)
  stepped-kept old new before after k j m s e = (subst (λ (z : Stack). Stepped old before new after z m) (sym e.0) s, ap outer_of e.0 ∙ stepped-none old new before after k m s e.1)

  pub parsing-levels : (old new : Held) (before after : S) (k : Stack) (m : Mode) (following : Option ℕ) → Parsing old before new after k m following → k.depth + levels_of k.frames ≤ 500
  parsing-levels old new before after k m following p = omega (arith, ((p.standing).after).all)

  pub parsing-word : (old new : Held) (before after : S) (k : Stack) (m : Mode) (following : Option ℕ) → Parsing old before new after k m following → IsWord m
  parsing-word old new before after k m following p = standing-word old.at k m p.text p.standing

  pub settled-levels : (old new : Held) (before after : S) (k : Stack) (m : Mode) (following : Option ℕ) → Settled old before new after k m following → k.depth + levels_of k.frames ≤ 500
  settled-levels old new before after k m following s = let all = ready-levels old.at k s.text following m s.ready in omega (arith, all)

  pub settled-nested : (old new : Held) (before after : S) (k : Stack) (m : Mode) (following : Option ℕ) → Settled old before new after k m following → nested_in m < 2 ^ 62
  settled-nested old new before after k m following s =
      let count : new.at ≡ old.at + length s.text = (s.taken).count in
      let within : new.at ≤ 2 ^ 25 = (s.taken).within in
      omega (arith, s.nested, count, within)
