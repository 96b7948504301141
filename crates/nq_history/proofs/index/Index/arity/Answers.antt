use Rattle.std.proofs.Common.{◌≡◌, ◌<◌, ◌≤◌, ℕ, zero, suc, List, [], ◌∷◌, Option, Some, None, length, get_or, nat_lt, is_some, option_copied, slice_get, Bor, refl, sym, ap, ◌∙◌, arith}
use Rattle.std.proofs.lemmas.Bool.{ltb-true, ltb-false}
use Rattle.std.specs.Prelude.{IfSome}
use Rattle.nq_history.specs.Functions.{functions_of}
use Rattle.nq_history.specs.Places.{place_in}
use Rattle.nq_history.proofs.FunctionLemmas.{some_arity, no_arity}
use Rattle.nq_history.proofs.index.Index.arity.Goals as goal

past_end : (xs : List ℕ) (i : ℕ) → length xs ≤ i → None ≡ slice_get xs i
past_end [] i h = refl
past_end (x ∷ xs) zero h = absurd (omega (arith, h))
past_end (x ∷ xs) (suc i) h = past_end xs i (omega (arith, h))

within : (xs : List ℕ) (i d : ℕ) → i < length xs → d ≡ get_or xs i d → Some d ≡ slice_get xs i
within [] i d h k = absurd (omega (arith, h))
within (x ∷ xs) zero d h k = ap Some k
within (x ∷ xs) (suc i) d h k = within xs i d (omega (arith, h)) k

-- what is got by a place
got : (r : Option (Bor ℕ)) (xs : List ℕ) (i : ℕ) → is_some r ≡ nat_lt i (length xs) → IfSome r (λ x. x.now ≡ get_or xs i x.now) → option_copied r ≡ slice_get xs i
got None xs i h k = past_end xs i (ltb-false i (length xs) (sym h))
got (Some x) xs i h k = within xs i x.now (ltb-true i (length xs) (sym h)) k

pub returns-in-Some : goal.returns-in-Some
returns-in-Some c =
    λ entries h.
    let name = c.args.name in
    c.copied.ensures ∙
    got c.get.result c.deref.result.now c.in-Some.i c.get.ensures.lookup.0 c.get.ensures.lookup.1 ∙
    ap (λ xs. slice_get xs c.in-Some.i) (c.deref.ensures.value ∙ h.arities) ∙
    sym (some_arity name (functions_of entries) c.in-Some.i (ap (place_in name) (sym h.functions) ∙ sym c.place.ensures ∙ c.in-Some.is))

pub returns-in-None : goal.returns-in-None
returns-in-None c =
    λ entries h.
    let name = c.args.name in
    sym (no_arity name (functions_of entries) (ap (place_in name) (sym h.functions) ∙ sym c.place.ensures ∙ c.in-None.is))
