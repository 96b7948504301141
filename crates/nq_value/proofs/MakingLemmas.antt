-- The terms that are made are not deep, and they are values.
use Rattle.std.proofs.Common.{◌≡◌, ◌<◌, ◌≤◌, Bool, true, false, refl, sym, ap, ◌∙◌, subst, arith}
use Rattle.std.specs.Prelude.{if◌then◌else◌, codes, List, ℕ}
use Rattle.nq_logic.specs.Terms.{Term, Function, Applied}
use Rattle.nq_logic.specs.Words.{zero_term, numeral, call1}
use Rattle.nq_logic.specs.Numerals.{number_of, is_numeral, numeral_limit}
use Rattle.nq_logic.specs.Values.{is_value, is_tree_value}
use Rattle.nq_bank.specs.declared.node.TermId.{TermId}
use Rattle.nq_bank.specs.Content.{Content, IsIdOf}
use Rattle.nq_bank.proofs.Numerals.{is_value-number, number_of-numeral}
use Rattle.nq_proof.specs.Values.{truth}
use Rattle.nq_value.specs.Objects.{DenotesValue}
use Rattle.nq_logic.specs.Sizes.{tree_depth, depth_of, depth_limit}

either_way : (b : Bool) → (if b then 1 else 1) ≤ depth_limit
either_way true = omega arith
either_way false = omega arith

pub constant_shallow : (f : List ℕ) → depth_of (Function f) ≤ depth_limit
unfolding tree_depth
constant_shallow f = either_way (is_numeral (Function f))

pub zero_is : zero_term ≡ numeral 0
unfolding numeral
zero_is = refl

minus_zero_depth : depth_of (call1 "MINUS" zero_term) ≡ 2
unfolding number_of tree_depth
minus_zero_depth = refl

pub minus_shallow : (t : Term) → t ≡ numeral 0 → depth_of (Applied (Function (codes "MINUS")) t) ≤ depth_limit
minus_shallow t is =
    subst (λ u. depth_of (call1 "MINUS" u) ≤ depth_limit) (zero_is ∙ sym is) (let e = minus_zero_depth in omega (arith, e))

-- and they are values
pub truth_value : (bank : Content) (t : TermId) (b : Bool) → IsIdOf bank t (truth b) → DenotesValue bank t
unfolding number_of is_tree_value
truth_value bank t true id = record { stands = id.stands; value = ap is_value id.denotes }
truth_value bank t false id = record { stands = id.stands; value = ap is_value id.denotes }

pub minus_zero_value : (bank : Content) (t : TermId) → IsIdOf bank t (call1 "MINUS" zero_term) → DenotesValue bank t
unfolding number_of is_tree_value
minus_zero_value bank t id = record { stands = id.stands; value = ap is_value id.denotes }

pub numeral_value : (bank : Content) (t : TermId) (n : ℕ) → n < numeral_limit → IsIdOf bank t (numeral n) → DenotesValue bank t
numeral_value bank t n below id =
    record { stands = id.stands; value = ap is_value id.denotes ∙ is_value-number (numeral n) n (number_of-numeral n below) }
