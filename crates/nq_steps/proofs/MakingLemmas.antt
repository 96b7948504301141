-- Steps taken over a bank.
use Rattle.std.proofs.Common.{◌≡◌, ◌<◌, ◌≤◌, ◌+◌, ◌-◌, ◌/◌, ◌%◌, ℕ, zero, suc, Bool, true, false, List, [], ◌∷◌, ◌++◌, append_assoc, length, get_or, take, drop, reverse, refl, sym, ap, subst, ◌∙◌, inl, inr, arith}
use Rattle.std.specs.Prelude.{All, ◌⊎◌, nat_lt, if◌then◌else◌}
use Rattle.std.proofs.lemmas.List.{map_push, reverse-append, length-reverse, reverse-reverse, length-map, length-drop, length-take, get_or-take, take-map, drop-map, take-append-drop, take_all, drop_all, at_drop_more}
use Rattle.std.proofs.lemmas.Bool.{ltb-true, ltb-false, le-ltb}
use Rattle.nq_logic.specs.Terms.{Name, Term, Variable, Function, call}
use Rattle.nq_logic.specs.Shells.{digits_of}
use Rattle.nq_bank.specs.declared.node.TermId.{TermId}
use Rattle.nq_bank.specs.Content.{Content, text_at, term_at, terms_at, term_from, Stands, Grows, IsIdOf}
use Rattle.nq_bank.proofs.Growth.{term_at-grown, terms_at-grown, text_at-grown}
use Rattle.nq_bank.specs.Soundness.{IsSound}
use Rattle.nq_bank.proofs.NodesLemmas.{All-head, All-tail}
use Rattle.nq_bank.proofs.Standing.{All-push, stand_grown}
use Rattle.nq_bank.proofs.DeepLemmas.{deep_argument}
use Rattle.nq_steps.specs.declared.steps.Leaf.{Leaf}
use Rattle.nq_steps.specs.declared.steps.Leaf.TheVariants.{Letter, Name as Named, Part, Number, Known}
use Rattle.nq_steps.specs.declared.steps.Step.{Step}
use Rattle.nq_steps.specs.declared.steps.Step.TheVariants.{Leaf as LeafStep, Call}
use Rattle.nq_steps.specs.Steps.{called, leaf_term, step_taken, steps_taken, stack_of, IsDeep, HasDeep, LeafStands, StepStands}
use Rattle.nq_steps.proofs.StackLemmas.{called_of}

-- one more digit
pub digits_more : (places rest n : ℕ) → places ≡ suc rest → 10 ≤ n → digits_of places n ≡ digits_of rest (n / 10) ++ ((48 + n % 10) ∷ [])
digits_more places rest n is ten =
    let shown : digits_of (suc rest) n ≡ digits_of rest (n / 10) ++ ((48 + n % 10) ∷ []) = pick (nat_lt n 10) (le-ltb n 10 ten) in
    ap (λ p. digits_of p n) is ∙ shown
  where
    pick : (b : Bool) → b ≡ false → (if b then (48 + n) ∷ [] else digits_of rest (n / 10) ++ ((48 + n % 10) ∷ [])) ≡ digits_of rest (n / 10) ++ ((48 + n % 10) ∷ [])
    pick true h = cc
    pick false h = refl

-- the text before, the digits before the last, and the last digit
pub digits_put : (places n : ℕ) (old mid new : List ℕ) → 10 ≤ n → n ≤ places → ((p : ℕ) → 1 ≤ p → n / 10 ≤ p → mid ≡ old ++ digits_of p (n / 10)) → new ≡ mid ++ ((48 + n % 10) ∷ []) → new ≡ old ++ digits_of places n
digits_put zero n old mid new ten h before is = absurd (omega arith)
digits_put (suc rest) n old mid new ten h before is =
    let small : n / 10 ≤ rest = omega arith in
    is ∙ ap (λ xs. xs ++ ((48 + n % 10) ∷ [])) (before rest (omega arith) small) ∙ append_assoc old (digits_of rest (n / 10)) ((48 + n % 10) ∷ []) ∙ ap (λ xs. old ++ xs) (sym (digits_more (suc rest) rest n refl ten))

-- one more id
pub stack_more : (old new : Content) (ids : List TermId) (id : TermId) (term : Term) → Grows old new → All (Stands old) ids → IsIdOf new id term → reverse (terms_at new (ids ++ id ∷ [])) ≡ term ∷ reverse (terms_at old ids)
stack_more old new ids id term grows stand is =
    ap reverse (map_push (term_from new.terms) ids id) ∙
    reverse-append (terms_at new ids) (term_at new id ∷ []) ∙
    ap (λ t. t ∷ reverse (terms_at new ids)) is.denotes ∙
    ap (λ ts. term ∷ reverse ts) (terms_at-grown old new ids grows stand)

pub stand_more : (old new : Content) (ids : List TermId) (id : TermId) (term : Term) → Grows old new → All (Stands old) ids → IsIdOf new id term → All (Stands new) (ids ++ id ∷ [])
stand_more old new ids id term grows stand is = All-push (Stands new) ids id (stand_grown old new ids grows stand) is.stands

-- the call of the last terms
called_few : (f : Name) (ts : List Term) (count : ℕ) → count ≤ length ts → called f count (reverse ts) ≡ call f (drop (length ts - count) ts) ∷ reverse (take (length ts - count) ts)
called_few f ts count few =
    let r : ℕ = length ts - count in
    let split : reverse ts ≡ reverse (drop r ts) ++ reverse (take r ts) = ap reverse (sym (take-append-drop r ts)) ∙ reverse-append (take r ts) (drop r ts) in
    let dropped = length-drop r ts in
    let size : length (reverse (drop r ts)) ≡ count = length-reverse (drop r ts) ∙ (omega (arith, dropped, few)) in
    ap (called f count) split ∙ called_of f (reverse (drop r ts)) (drop r ts) (reverse (take r ts)) count size (reverse-reverse (drop r ts))

called_many : (f : Name) (ts : List Term) (count : ℕ) → length ts < count → called f count (reverse ts) ≡ call f (drop (length ts - count) ts) ∷ reverse (take (length ts - count) ts)
called_many f ts count many =
    let none : length ts - count ≡ 0 = omega (arith, many) in
    let size = length-reverse ts in
    let all : take count (reverse ts) ≡ reverse ts = take_all count (reverse ts) (omega (arith, size, many)) in
    let gone : drop count (reverse ts) ≡ [] = drop_past count (reverse ts) (omega (arith, size, many)) in
    rw (all, gone, none, reverse-reverse ts) refl
  where
    drop_past : (n : ℕ) (xs : List Term) → length xs ≤ n → drop n xs ≡ []
    drop_past n [] h = drop-none n
      where
        drop-none : (n : ℕ) → ◌≡◌ {A = List Term} (drop n []) []
        drop-none zero = refl
        drop-none (suc n) = refl
    drop_past zero (x ∷ xs) h = absurd (omega arith)
    drop_past (suc n) (x ∷ xs) h = drop_past n xs (omega arith)

called_back : (f : Name) (ts : List Term) (count : ℕ) (b : Bool) → nat_lt (length ts) count ≡ b → called f count (reverse ts) ≡ call f (drop (length ts - count) ts) ∷ reverse (take (length ts - count) ts)
called_back f ts count true h = called_many f ts count (ltb-true (length ts) count h)
called_back f ts count false h = called_few f ts count (ltb-false (length ts) count h)

pub called_last : (bank : Content) (ids : List TermId) (f : Name) (count : ℕ) → called f count (reverse (terms_at bank ids)) ≡ call f (terms_at bank (drop (length ids - count) ids)) ∷ reverse (terms_at bank (take (length ids - count) ids))
called_last bank ids f count =
    let ts : List Term = terms_at bank ids in
    let size : length ts ≡ length ids = length-map ids (term_from bank.terms) in
    let kept : ℕ = length ids - count in
    called_back f ts count (nat_lt (length ts) count) refl ∙
    ap (λ n. call f (drop (n - count) ts) ∷ reverse (take (n - count) ts)) size ∙
    ap (λ us. call f us ∷ reverse (take kept ts)) (drop-map (term_from bank.terms) kept ids) ∙
    ap (λ us. call f (terms_at bank (drop kept ids)) ∷ reverse us) (take-map (term_from bank.terms) kept ids)

-- a term that is too deep stays on the stack, or within a term of it
deep_before : (ts us : List Term) → HasDeep ts → HasDeep (ts ++ us)
deep_before [] us h = absurd h
deep_before (t ∷ ts) us (inl h) = inl h
deep_before (t ∷ ts) us (inr h) = inr (deep_before ts us h)

deep_after : (ts us : List Term) → HasDeep us → HasDeep (ts ++ us)
deep_after [] us h = h
deep_after (t ∷ ts) us h = inr (deep_after ts us h)

pub deep_reversed : (ts : List Term) → HasDeep ts → HasDeep (reverse ts)
deep_reversed [] h = absurd h
deep_reversed (t ∷ ts) (inl h) = subst HasDeep (sym (reverse-append (t ∷ []) ts)) (deep_after (reverse ts) (t ∷ []) (inl h))
deep_reversed (t ∷ ts) (inr h) = subst HasDeep (sym (reverse-append (t ∷ []) ts)) (deep_before (reverse ts) (t ∷ []) (deep_reversed ts h))

deep_at : (ts : List Term) → HasDeep ts → (i : ℕ) × (i < length ts) × IsDeep (get_or ts i (Function []))
deep_at [] h = absurd h
deep_at (t ∷ ts) (inl h) = (0, omega arith, h)
deep_at (t ∷ ts) (inr h) = let at = deep_at ts h in (suc at.0, omega (arith, at.1), at.2)

deep_call : (f : Name) (ts : List Term) → HasDeep ts → IsDeep (call f ts)
deep_call f ts h = let at = deep_at ts h in deep_argument f ts at.0 (Function []) at.1 at.2

deep_split : (n : ℕ) (ts : List Term) → HasDeep ts → HasDeep (take n ts) ⊎ HasDeep (drop n ts)
deep_split n [] h = absurd h
deep_split zero (t ∷ ts) h = inr h
deep_split (suc n) (t ∷ ts) (inl h) = inl (inl h)
deep_split (suc n) (t ∷ ts) (inr h) = elim (deep_split n ts h) [ inl first ↦ inl (inr first) | inr last ↦ inr last ]

pub deep_called : (f : Name) (n : ℕ) (ts : List Term) → HasDeep ts → HasDeep (called f n ts)
deep_called f n ts h =
    elim (deep_split n ts h) [
      | inl first ↦ inl (deep_call f (reverse (take n ts)) (deep_reversed (take n ts) first))
      | inr last ↦ inr last
    ]

deep_taken : (bank : Content) (step : Step) (ts : List Term) → HasDeep ts → HasDeep (step_taken bank step ts)
deep_taken bank (LeafStep leaf) ts h = inr h
deep_taken bank (Call f n) ts h = deep_called (text_at bank f) n ts h

pub deep_kept : (bank : Content) (steps : List Step) (ts : List Term) → HasDeep ts → HasDeep (steps_taken bank steps ts)
deep_kept bank [] ts h = h
deep_kept bank (step ∷ steps) ts h = deep_kept bank steps (step_taken bank step ts) (deep_taken bank step ts h)

-- a leaf and a step mean the same in a bank that grew
leaf_grown : (old new : Content) (leaf : Leaf) → Grows old new → LeafStands old leaf → leaf_term new leaf ≡ leaf_term old leaf
leaf_grown old new (Letter b) grows stands = refl
leaf_grown old new (Named s) grows stands = ap Variable (text_at-grown old new s grows stands)
leaf_grown old new (Part k) grows stands = refl
leaf_grown old new (Number n) grows stands = refl
leaf_grown old new (Known t) grows stands = term_at-grown old new t grows stands

pub step_grown : (old new : Content) (step : Step) (ts : List Term) → Grows old new → StepStands old step → step_taken new step ts ≡ step_taken old step ts
step_grown old new (LeafStep leaf) ts grows stands = ap (λ t. t ∷ ts) (leaf_grown old new leaf grows stands)
step_grown old new (Call f n) ts grows stands = ap (λ text. called text n ts) (text_at-grown old new f grows stands)

pub all_take : (bank : Content) (ids : List TermId) (n : ℕ) → All (Stands bank) ids → All (Stands bank) (take n ids)
all_take bank ids n h = λ k d below.
    let size = length-take n ids in
    subst (Stands bank) (sym (get_or-take n ids k d (omega (arith, size, below)))) (h k d (omega (arith, size, below)))

-- one more step is taken
pub step_more : (old bank : Content) (steps : List Step) (i : ℕ) (d : Step) (ts : List Term) → Grows old bank → All (StepStands old) steps → i < length steps → steps_taken old (drop i steps) ts ≡ stack_of old steps → steps_taken old (drop (i + 1) steps) (step_taken bank (get_or steps i d) ts) ≡ stack_of old steps
step_more old bank steps i d ts grows stand below was =
    ap (steps_taken old (drop (i + 1) steps)) (step_grown old bank (get_or steps i d) ts grows (stand i d below)) ∙
    sym (at_drop_more (λ rest. steps_taken old rest ts) steps i d below) ∙
    was

pub deep_step : (old bank : Content) (steps : List Step) (i : ℕ) (d : Step) (ts : List Term) → Grows old bank → All (StepStands old) steps → i < length steps → steps_taken old (drop i steps) ts ≡ stack_of old steps → HasDeep (step_taken bank (get_or steps i d) ts) → HasDeep (stack_of old steps)
deep_step old bank steps i d ts grows stand below was h =
    subst HasDeep (step_more old bank steps i d ts grows stand below was) (deep_kept old (drop (i + 1) steps) (step_taken bank (get_or steps i d) ts) h)

not_deep : (bank : Content) (ids : List TermId) → IsSound bank → All (Stands bank) ids → HasDeep (terms_at bank ids) → ⊥
not_deep bank [] sound stand h = absurd h
not_deep bank (id ∷ ids) sound stand (inl h) =
    let here = sound.shallow id.0 (Function []) (All-head (Stands bank) id ids stand) in
    absurd (omega (arith, here, h))
not_deep bank (id ∷ ids) sound stand (inr h) = not_deep bank ids sound (All-tail (Stands bank) id ids stand) h

-- terms that stand in a bank, made by all steps, are not too deep
pub none_deep : (old bank : Content) (ids : List TermId) (steps : List Step) (i : ℕ) → IsSound bank → All (Stands bank) ids → length steps ≤ i → steps_taken old (drop i steps) (reverse (terms_at bank ids)) ≡ stack_of old steps → HasDeep (stack_of old steps) → ⊥
none_deep old bank ids steps i sound stand past is h =
    let ts : List Term = terms_at bank ids in
    let last : reverse ts ≡ stack_of old steps = ap (λ rest. steps_taken old rest (reverse ts)) (sym (drop_all i steps past)) ∙ is in
    not_deep bank ids sound stand (subst HasDeep (reverse-reverse ts) (deep_reversed (reverse ts) (subst HasDeep (sym last) h)))
