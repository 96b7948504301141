-- What the tests on shapes tell, and the first names that fail a test.
use Rattle.std.proofs.Common.{◌≡◌, Bool, true, false, List, [], ◌∷◌, ◌++◌, refl}
use Rattle.std.specs.Prelude.{◌↔◌, not}
use Rattle.nq_logic.specs.Terms.{Name, Term, Variable, Function, Applied, IsAmong, Each}
use Rattle.nq_logic.specs.Values.{is_value}
use Rattle.nq_logic.specs.Histories.{Rewrite, Elim, Generalize}
use Rattle.nq_logic.specs.Admissible.{HasVariables}
use Rattle.nq_logic.specs.RuleShapes.{is_call, left_side, and_parts, rule_parts, is_rewritable, are_rewritable, variables_of}
use Rattle.nq_logic.specs.Tests.{FirstRepeated, FirstOutside, FirstFree, ShapesTold}
use Rattle.nq_logic.proofs.Lists.{each_append}
use Rattle.nq_logic.proofs.Tests.{both_told}
use Rattle.nq_logic.proofs.ShellTests.{distinct, known_in}

pub first_repeated_law : FirstRepeated
first_repeated_law = distinct

pub first_outside_law : FirstOutside
first_outside_law = known_in

-- what holds of each variable of a term holds of those of its parts
each_left : (xs a b : List Name) → Each (λ x. IsAmong x xs) (a ++ b) → Each (λ x. IsAmong x xs) a
each_left xs [] b h = tt
each_left xs (x ∷ a) b h = (h.0, each_left xs a b h.1)

each_right : (xs a b : List Name) → Each (λ x. IsAmong x xs) (a ++ b) → Each (λ x. IsAmong x xs) b
each_right xs [] b h = h
each_right xs (x ∷ a) b h = each_right xs a b h.1

variables_listed : (xs : List Name) (t : Term) → Each (λ x. IsAmong x xs) (variables_of t) ↔ HasVariables xs t
variables_listed xs (Variable x) = ((λ h. h.0), (λ h. (h, tt)))
variables_listed xs (Function f) = ((λ h. tt), (λ h. tt))
variables_listed xs (Applied t u) =
    let first = variables_listed xs t in
    let second = variables_listed xs u in (
      (λ h. (first.0 (each_left xs (variables_of t) (variables_of u) h), second.0 (each_right xs (variables_of t) (variables_of u) h))),
      (λ h. each_append (λ x. IsAmong x xs) (variables_of t) (variables_of u) (first.1 h.0) (second.1 h.1)),
    )

pub first_free_law : FirstFree
first_free_law xs t =
    let outside = known_in xs (variables_of t) in
    let listed = variables_listed xs t in
    ((λ h. listed.0 (outside.0 h)), (λ h. outside.1 (listed.1 h)))

not_is : (b : Bool) → not b ≡ true ↔ (b ≡ false)
not_is true = ((λ h. cc), (λ h. cc))
not_is false = ((λ h. refl), (λ h. refl))

rewritable_told : (parts : List Term) → are_rewritable parts ≡ true ↔ Each (λ part. (is_call (left_side part) ≡ true) × (is_value (left_side part) ≡ false)) parts
rewritable_told [] = ((λ h. tt), (λ h. refl))
rewritable_told (part ∷ parts) =
    both_told (is_rewritable part) (are_rewritable parts)
    (both_told (is_call (left_side part)) (not (is_value (left_side part))) ((λ h. h), (λ h. h)) (not_is (is_value (left_side part)))) (rewritable_told parts)

pub shapes_told_law : ShapesTold
shapes_told_law Rewrite t = rewritable_told (and_parts (rule_parts t).conclusion)
shapes_told_law Elim t = ((λ h. h), (λ h. h))
shapes_told_law Generalize t = ((λ h. h), (λ h. h))
