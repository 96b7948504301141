-- The forms that were read, call by call, are those of the whole text.
use Rattle.std.proofs.Common.{true, false, ◌≡◌, ℕ, ◌+◌, ◌-◌, ◌^◌, ◌<◌, ◌≤◌, List, [], ◌∷◌, ◌++◌, length, refl, ap, sym, ◌∙◌, subst, arith, append_assoc, append-nil, inl, inr}
use Rattle.std.specs.Prelude.{◌⊎◌, Option, None, Some, IfSome, IsTrue, Bool}
use Rattle.std.specs.Io.KnownBytes.{Consumes}
use Rattle.std.proofs.lemmas.Grind.{common_steps}
use Rattle.nq_form.specs.Form.{Form, Forms, end, next, append, push}
use Rattle.nq_sexp.specs.Held.{Held, behind, ahead, Begins, IsNext}
use Rattle.nq_form.specs.Bytes.{is_closed, begins_apart}
use Rattle.nq_form.specs.Kinds.{kind_of}
use Rattle.nq_form.specs.Grammar.{shifted, Items, none, Holds, holds, Seam, Reads, Ending, done, fault, too_long, past}
use Rattle.nq_sexp.specs.Halt.{IsApart, IsCut, IsMet, IsFound}
use Rattle.nq_sexp.specs.Whole.{IsSeen, Split, SoFar, IsEnding, OneListWhereReadsFail}
use Rattle.nq_sexp.specs.declared.fault.ReadFault.{ReadFault}
use Rattle.nq_sexp.specs.declared.fault.ReadFault.TheVariants.{Unbalanced, BadToken, NumeralTooWide, TooDeep, FileTooLong, Read, Memory}
use Rattle.std.proofs.lemmas.List.{append_cancel_right}
use Rattle.nq_form.proofs.OneReading.{one_reading}
use Rattle.nq_form.proofs.Forms.{append-end, append-push}
use Rattle.nq_form.proofs.Naming.{named, dot_kind}
use Rattle.nq_form.proofs.Seams.{joins, open-join, reads-join}
use Rattle.nq_form.proofs.Standing.{items-nothing}
use Rattle.nq_form.proofs.Spelling.{closed-append, apart-front}
use Rattle.nq_sexp.proofs.Reading.{behind-end, none_in_hand}
use Rattle.nq_sexp.proofs.Parsing.{ahead_rest}

consumed_rest : (now later : Option (List ℕ)) (rest u : List ℕ) → now ≡ Some rest → Consumes now later u → (r : List ℕ) × (later ≡ Some r) × (rest ≡ u ++ r)
consumed_rest None later rest u e c = cc
consumed_rest (Some x) None rest u e c = absurd c
consumed_rest (Some x) (Some y) rest u e c = (y, refl, cc)

plain : {A B C : Type 0} → A ⊎ (B × C) → A ⊎ B
plain (inl h) = inl h
plain (inr h) = inr h.0

told_and_not : (told : Bool) → IsTrue told → told ≡ false → ⊥
told_and_not told h e = let same : true ≡ false = sym h ∙ e in cc

-- what stands behind a form
form_ended : (held : Held) (left : Option (List ℕ)) (u rest : List ℕ) → ahead held left ≡ Some rest → IsTrue (is_closed u) ⊎ ((following : Option ℕ) × IsNext held following × IsApart u following)
    → IsTrue (is_closed u) ⊎ (IsTrue (begins_apart rest) × IsSeen held rest)
form_ended held left u rest e (inl k) = inl k
form_ended held left u rest e (inr k) = ended_by k.0 k.1 k.2
  where
    told : (xs : List ℕ) × (behind held.told left ≡ Some xs) × (rest ≡ held.bytes ++ xs)
    told = ahead_rest held.bytes (behind held.told left) rest e

    in_hand : (b : ℕ) → Begins held b → 0 < length held.bytes
    in_hand b h = subst (λ (z : List ℕ). 0 < length z) (sym h.1) (omega arith)

    ended_by : (following : Option ℕ) → IsNext held following → IsApart u following → IsTrue (is_closed u) ⊎ (IsTrue (begins_apart rest) × IsSeen held rest)
    ended_by None n a =
        let at_end : told.0 ≡ [] = behind-end held.told left told.0 n.1 told.1 in
        let no_rest : rest ≡ [] = told.2 ∙ ap (λ (z : List ℕ). z ++ told.0) n.0 ∙ at_end in
        inr (subst (λ (z : List ℕ). IsTrue (begins_apart z)) (sym no_rest) refl, inl (no_rest, n.1))
    ended_by (Some b) n (inl k) = inl k
    ended_by (Some b) n (inr k) =
        let begun : rest ≡ b ∷ (n.0.0 ++ told.0) = told.2 ∙ ap (λ (z : List ℕ). z ++ told.0) n.0.1 in
        inr (subst (λ (z : List ℕ). IsTrue (begins_apart z)) (sym begun) k, inr (n.1, in_hand b n.0))

seam-more : (t u r : List ℕ) (new : Held) → (u ≡ [] → ⊥) → IsTrue (is_closed u) ⊎ (IsTrue (begins_apart r) × IsSeen new r)
    → IsTrue (is_closed (t ++ u)) ⊎ (IsTrue (begins_apart r) × IsSeen new r)
seam-more t [] r new some h = absurd (some refl)
seam-more t (b ∷ u) r new some (inl h) = inl (closed-append t u b h)
seam-more t (b ∷ u) r new some (inr h) = inr h

-- the text of a form is not empty
form_some : (u : List ℕ) (form : Form) → Items 500 u (next form end) → u ≡ [] → ⊥
form_some u form q e =
    let no_form : next form end ≡ end = items-nothing kind_of 0 named dot_kind 500 (next form end) (subst (λ (z : List ℕ). Items 500 z (next form end)) e q) in cc

one_more : (fs : Forms) (f : Form) → append fs (next f end) ≡ push fs f
one_more fs f = append-push fs end f ∙ ap (λ (z : Forms). push z f) (append-end fs)

split-more : (all : List ℕ) (old new : Held) (now then : Option (List ℕ)) (u : List ℕ) (fs : Forms) (f : Form) → Split all old now fs → Consumes now then u → Items 500 u (next f end) → new.at ≡ old.at + length u → new.at ≤ 2 ^ 25
    → ((r : List ℕ) → then ≡ Some r → IsTrue (is_closed u) ⊎ (IsTrue (begins_apart r) × IsSeen new r)) → Split all new then (push fs f)
split-more all old new now then u fs f s c q e h ended =
    let after = consumed_rest now then s.rest u s.known c in
    let seam : IsTrue (is_closed s.text) ⊎ IsTrue (begins_apart (u ++ after.0)) = subst (λ (z : List ℕ). IsTrue (is_closed s.text) ⊎ IsTrue (begins_apart z)) after.2 (plain s.seam) in
    record {
      text = s.text ++ u;
      rest = after.0;
      known = after.1;
      whole = s.whole ∙ ap (λ (z : List ℕ). s.text ++ z) after.2 ∙ sym (append_assoc s.text u after.0);
      spelled = subst (λ (z : Forms). Items 500 (s.text ++ u) z) (one_more fs f) (joins 500 s.text u fs (next f end) s.spelled q (apart-front s.text u after.0 seam));
      count = grind (arith, common_steps, e, s.count);
      within = h;
      seam = seam-more s.text u after.0 new (form_some u f q) (ended after.0 after.1);
    }

-- before the first form
pub so_far-start : (start : Option (List ℕ)) (held : Held) (left : Option (List ℕ)) → held.bytes ≡ [] → held.at ≡ 0 → held.told ≡ false → left ≡ start → SoFar start held left end
so_far-start None held left b a untold e = tt
so_far-start (Some all) held left b a untold e = record {
  text = [];
  rest = all;
  known = none_in_hand held left b untold ∙ e;
  whole = refl;
  spelled = none;
  count = a;
  within = omega (arith, a);
  seam = inl refl;
}

module _ {S : Type 0} (left : S → Option (List ℕ)) (start : Option (List ℕ)) (old new : Held) (before after : S) where
  -- a form was read
  pub so_far-next : (fs : Forms) (form : Form) → SoFar start old (left before) fs → IsFound left old before new after form → SoFar start new (left after) (push fs form)
  so_far-next fs form s f = grown start s
    where
      grown : (start : Option (List ℕ)) → SoFar start old (left before) fs → SoFar start new (left after) (push fs form)
      grown None s = tt
      grown (Some all) s =
          split-more all old new (ahead old (left before)) (ahead new (left after)) f.text fs form s (f.taken).known (f.is).spelled (f.taken).count (f.taken).within
          (λ r e. form_ended new (left after) f.text r e (f.is).ended)

  -- a form takes at least one byte
  pub found-longer : (form : Form) → IsFound left old before new after form → old.at < new.at
  found-longer form f = longer f.text (f.is).spelled (f.taken).count
    where
      longer : (text : List ℕ) → Items 500 text (next form end) → new.at ≡ old.at + length text → old.at < new.at
      longer [] p e = let no_form : next form end ≡ end = items-nothing kind_of 0 named dot_kind 500 (next form end) p in cc
      longer (b ∷ text) p e = grind (arith, common_steps, e)

read_more : (all : List ℕ) (held : Held) (now : Option (List ℕ)) (fs : Forms) (e : Ending) → Split all held now fs → IfSome now (λ rest. Reads 500 (2 ^ 25 - held.at) rest end e) → Reads 500 (2 ^ 25) all fs (shifted held.at e)
read_more all held now fs e s r =
    let rest_reads : Reads 500 (2 ^ 25 - held.at) s.rest end e = subst (λ (z : Option (List ℕ)). IfSome z (λ rest. Reads 500 (2 ^ 25 - held.at) rest end e)) s.known r in
    let room : length s.text + (2 ^ 25 - held.at) ≡ 2 ^ 25 = omega (arith, s.count, s.within) in
    let joined = reads-join 500 (2 ^ 25) (2 ^ 25 - held.at) s.text s.rest fs end e s.spelled rest_reads room (room_seam s.text s.rest s.seam) in
    subst (λ (z : ℕ). Reads 500 (2 ^ 25) all fs (shifted z e)) (sym s.count)
    (subst (λ (z : List ℕ). Reads 500 (2 ^ 25) z fs (shifted (length s.text) e)) (sym s.whole) (subst (λ (z : Forms). Reads 500 (2 ^ 25) (s.text ++ s.rest) z (shifted (length s.text) e)) (append-end fs) joined))
  where
    room_seam : (t r : List ℕ) → IsTrue (is_closed t) ⊎ (IsTrue (begins_apart r) × IsSeen held r) → IsTrue (is_closed t) ⊎ (IsTrue (begins_apart r) × ((r ≡ []) ⊎ (0 < 2 ^ 25 - held.at)))
    room_seam t r (inl h) = inl h
    room_seam t r (inr h) = inr (h.0, elim h.1 [ inl e ↦ inl e.0 | inr seen ↦ let below = seen.0 in inr (omega (arith, below)) ])

-- the end was met
pub so_far-end : (start : Option (List ℕ)) (held : Held) (left : Option (List ℕ)) (fs : Forms) → SoFar start held left fs → IfSome (ahead held left) (λ rest. Reads 500 (2 ^ 25 - held.at) rest end done)
    → IfSome start (λ all. Reads 500 (2 ^ 25) all fs done)
so_far-end None held left fs s r = tt
so_far-end (Some all) held left fs s r = read_more all held (ahead held left) fs done s r

seam-holds : (t v x : List ℕ) → Seam v x → IsTrue (is_closed t) ⊎ (IsTrue (begins_apart (v ++ x)) × (0 < length (v ++ x))) → Seam (t ++ v) x
seam-holds t (b ∷ v) x (inl c) k = inl (closed-append t v b c)
seam-holds t v x (inr a) k = inr a
seam-holds t [] x (inl c) (inl k) = inl (subst (λ (z : List ℕ). IsTrue (is_closed z)) (sym (append-nil t)) k)
seam-holds t [] x (inl c) (inr k) = inr k

holds-join : (levels : ℕ) (t u : List ℕ) (fs gs : Forms) → Items levels t fs → Holds levels u gs → IsTrue (is_closed t) ⊎ (IsTrue (begins_apart u) × (0 < length u)) → Holds levels (t ++ u) (append fs gs)
holds-join levels t u fs gs p (holds {s = s} {o = o} {d = d} {n = n} {t = v} {v = x} q m i g) k =
    subst (λ (z : List ℕ). Holds levels z (append fs gs)) (append_assoc t v x)
    (holds (open-join s o d n levels t v fs gs p q m (apart-front t v x (plain k))) m (seam-holds t v x i k) g)

read_cut : (all : List ℕ) (held new : Held) (now after : Option (List ℕ)) (fs : Forms) → (s : Split all held now fs) → IsCut held s.rest new after → IsEnding all fs after Read
read_cut all held new now after fs s cut = go after cut.text cut.holds cut.untold cut.taken cut.first
  where
    whole_end : (more : List ℕ) → s.rest ≡ more → all ≡ (s.text ++ []) ++ more
    whole_end more e = s.whole ∙ ap (λ (z : List ℕ). s.text ++ z) e ∙ ap (λ (z : List ℕ). z ++ more) (sym (append-nil s.text))

    -- no byte was taken
    alone : (more : List ℕ) → s.rest ≡ more → Holds 500 [] end → held.told ≡ false → held.bytes ≡ [] → IsTrue (is_closed s.text) ⊎ (IsTrue (begins_apart s.rest) × IsSeen held s.rest) → IsEnding all fs (Some more) Read
    alone more e h untold empty (inl k) = (s.text ++ [], more, whole_end more e, refl, subst (λ (z : Forms). Holds 500 (s.text ++ []) z) (append-end fs) (holds-join 500 s.text [] fs end s.spelled h (inl k)))
    alone more e h untold empty (inr (k, inl at_end)) = absurd (told_and_not held.told at_end.1 untold)
    alone more e h untold empty (inr (k, inr in_hand)) = absurd (let some = in_hand.1 in omega (arith, some, ap length empty))

    nothing_before : (xs ys : List ℕ) → [] ≡ xs ++ ys → xs ≡ []
    nothing_before [] ys e = refl
    nothing_before (x ∷ xs) ys e = cc

    go : (after : Option (List ℕ)) (u : List ℕ) → Holds 500 u end → held.told ≡ false → Consumes (Some s.rest) after u → (more : List ℕ) × (u ≡ held.bytes ++ more) → IsEnding all fs after Read
    go None u h untold c first = absurd c
    go (Some more) [] h untold c first = alone more c h untold (nothing_before held.bytes first.0 first.1) s.seam
    go (Some more) (b ∷ u) h untold c first =
        let seam : IsTrue (is_closed s.text) ⊎ IsTrue (begins_apart (b ∷ u)) = apart-front s.text (b ∷ u) more (subst (λ (z : List ℕ). IsTrue (is_closed s.text) ⊎ IsTrue (begins_apart z)) c (plain s.seam)) in (
          s.text ++ b ∷ u,
          more,
          s.whole ∙ ap (λ (z : List ℕ). s.text ++ z) c ∙ sym (append_assoc s.text (b ∷ u) more),
          refl,
          subst (λ (z : Forms). Holds 500 (s.text ++ b ∷ u) z) (append-end fs) (holds-join 500 s.text (b ∷ u) fs end s.spelled h (elim seam [ inl k ↦ inl k | inr k ↦ inr (k, omega arith) ])),
        )

fault_at : (all : List ℕ) (held : Held) (code place : ℕ) (now : Option (List ℕ)) (fs : Forms) → Split all held now fs → IfSome now (λ rest. (k : ℕ) × (place ≡ held.at + k) × Reads 500 (2 ^ 25 - held.at) rest end (fault code k))
    → Reads 500 (2 ^ 25) all fs (fault code place)
fault_at all held code place now fs s r =
    let met : (k : ℕ) × (place ≡ held.at + k) × Reads 500 (2 ^ 25 - held.at) s.rest end (fault code k) =
    subst (λ (z : Option (List ℕ)). IfSome z (λ rest. (k : ℕ) × (place ≡ held.at + k) × Reads 500 (2 ^ 25 - held.at) rest end (fault code k))) s.known r in
    subst (λ (z : ℕ). Reads 500 (2 ^ 25) all fs (fault code z)) (sym met.1)
    (read_more all held now fs (fault code met.0) s (subst (λ (z : Option (List ℕ)). IfSome z (λ rest. Reads 500 (2 ^ 25 - held.at) rest end (fault code met.0))) (sym s.known) met.2))

-- a fault was met
pub so_far-fault : (start : Option (List ℕ)) (held new : Held) (left after : Option (List ℕ)) (fs : Forms) (e : ReadFault) → SoFar start held left fs
    → IfSome (ahead held left) (λ rest. IsMet held rest new after e) → IfSome start (λ all. IsEnding all fs after e)
so_far-fault None held new left after fs e s r = tt
so_far-fault (Some all) held new left after fs (Unbalanced place) s r = fault_at all held 1 place (ahead held left) fs s r
so_far-fault (Some all) held new left after fs (BadToken place) s r = fault_at all held 2 place (ahead held left) fs s r
so_far-fault (Some all) held new left after fs (NumeralTooWide place) s r = fault_at all held 3 place (ahead held left) fs s r
so_far-fault (Some all) held new left after fs (TooDeep place) s r = fault_at all held 4 place (ahead held left) fs s r
so_far-fault (Some all) held new left after fs FileTooLong s r = read_more all held (ahead held left) fs too_long s r
so_far-fault (Some all) held new left after fs Read s r =
    read_cut all held new (ahead held left) after fs s (subst (λ (z : Option (List ℕ)). IfSome z (λ rest. IsMet held rest new after Read)) s.known r)
so_far-fault (Some all) held new left after fs Memory s r = tt

-- what was taken is known, and so are the forms in it
pub one_list_law : OneListWhereReadsFail
one_list_law all fs gs left p q =
    let lefts : Some p.1 ≡ Some q.1 = sym p.3 ∙ q.3 in
    let rests : q.1 ≡ p.1 = cc in
    let two : all ≡ q.0 ++ p.1 = q.2 ∙ ap (λ (z : List ℕ). q.0 ++ z) rests in
    let same : q.0 ≡ p.0 = append_cancel_right q.0 p.0 p.1 (sym two ∙ p.2) in
    let second : Holds 500 p.0 gs = subst (λ (z : List ℕ). Holds 500 z gs) same q.4 in
    (one_reading 500 (length p.0) (p.0 ++ 0 ∷ []) fs gs too_long too_long (past 0 [] p.4 refl) (past 0 [] second refl)).0

pub some_forms : (start left : Option (List ℕ)) (fs : Forms) (e : ReadFault) → IfSome start (λ all. IsEnding all fs left e) → IfSome start (λ all. (forms : Forms) × IsEnding all forms left e)
some_forms None left fs e h = tt
some_forms (Some all) left fs e h = (fs, h)

pub memory_ends : (start left : Option (List ℕ)) → IfSome start (λ all. (forms : Forms) × IsEnding all forms left Memory)
memory_ends None left = tt
memory_ends (Some all) left = (end, tt)
