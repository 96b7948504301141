-- What is called, and its arguments.
use Rattle.std.proofs.Common.{◌≡◌, Bool, true, false, Option, List, [], ◌∷◌, ◌++◌, refl, ap, ◌∙◌}
use Rattle.std.specs.Prelude.{codes, bytes_eq}
use Rattle.nq_logic.specs.Terms.{Name, Term, Function, Applied, applied, call}
use Rattle.nq_logic.specs.Histories.{History}
use Rattle.nq_logic.specs.Names.{looked_up}
use Rattle.nq_fragments.specs.Openings.{Opening, called, arguments_and, arguments_of, event_opening, count_opening, opening_of}

called_applied : (t : Term) (ts : List Term) → called (applied t ts) ≡ called t
called_applied t [] = refl
called_applied t (u ∷ ts) = called_applied (Applied t u) ts

arguments_applied : (t : Term) (ts others : List Term) → arguments_and (applied t ts) others ≡ arguments_and t (ts ++ others)
arguments_applied t [] others = refl
arguments_applied t (u ∷ ts) others = arguments_applied (Applied t u) ts others

none_after : (ts : List Term) → ts ++ [] ≡ ts
none_after [] = refl
none_after (t ∷ ts) = ap (λ us. t ∷ us) (none_after ts)

arguments_call : (f : Name) (ts : List Term) → arguments_of (call f ts) ≡ ts
arguments_call f ts = arguments_applied (Function f) ts [] ∙ none_after ts

abbrev opening_if : History → Bool → List Term → Name → Option Opening
opening_if h b vs f = elim b as (λ b. Option Opening) [ true ↦ count_opening vs | false ↦ event_opening vs (looked_up f h) ]

-- a call of COUNT
pub count_call : (h : History) (ts : List Term) → opening_of h (call (codes "COUNT") ts) ≡ count_opening ts
count_call h ts =
    ap (λ f. opening_if h (bytes_eq f (codes "COUNT")) (arguments_of (call (codes "COUNT") ts)) f) (called_applied (Function (codes "COUNT")) ts) ∙
    ap count_opening (arguments_call (codes "COUNT") ts)

-- a call of another function
pub other_call : (h : History) (f : Name) (ts : List Term) → bytes_eq f (codes "COUNT") ≡ false → opening_of h (call f ts) ≡ event_opening ts (looked_up f h)
other_call h f ts e =
    ap (λ g. opening_if h (bytes_eq g (codes "COUNT")) (arguments_of (call f ts)) g) (called_applied (Function f) ts) ∙
    ap (λ b. opening_if h b (arguments_of (call f ts)) f) e ∙
    ap (λ vs. event_opening vs (looked_up f h)) (arguments_call f ts)
