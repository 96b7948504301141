-- Calls whose function lets them be generalized.
use Rattle.std.proofs.Common.{◌≡◌, ◌<◌, ℕ, Bool, true, false, ◌&&◌, List, refl, sym, ap, ◌∙◌}
use Rattle.std.specs.Prelude.{not}
use Rattle.nq_logic.specs.Terms.{Term, Variable, call}
use Rattle.nq_logic.specs.Histories.{History}
use Rattle.nq_logic.specs.Names.{has_name}
use Rattle.nq_logic.specs.Numerals.{numeral_limit}
use Rattle.nq_logic.specs.Words.{numeral}
use Rattle.nq_logic.specs.Values.{is_value}
use Rattle.nq_logic.specs.RuleShapes.{is_call}
use Rattle.nq_goals.specs.Functions.{is_call_among}
use Rattle.nq_goals.specs.Generalizing.{kept_functions}
use Rattle.nq_stuck.specs.Common.{is_general}
use Rattle.nq_stuck.proofs.CallLemmas.{numeral_value}
use Rattle.nq_stuck.proofs.GeneralLemmas.{among_by_head, call_is}

pub general_variable : (h : History) (t : Term) (x : List ℕ) → t ≡ Variable x → false ≡ is_general h t
general_variable h t x is = sym (ap (is_general h) is)

value_is_not : (a b c : Bool) → b ≡ true → (a && not b && c) ≡ false
value_is_not true true c e = refl
value_is_not false true c e = refl
value_is_not a false c e = absurd (cc)

pub general_numeral : (h : History) (t : Term) (n : ℕ) → n < numeral_limit → t ≡ numeral n → false ≡ is_general h t
general_numeral h t n small is = sym (value_is_not (is_call t) (is_value t) (not (is_call_among (kept_functions h) t)) (ap is_value is ∙ numeral_value n small))

pub general_call : (h : History) (t : Term) (f : List ℕ) (us : List Term) (value kept free : Bool) → t ≡ call f us → value ≡ is_value t → kept ≡ has_name f (kept_functions h) → free ≡ (not value && not kept) → free ≡ is_general h t
general_call h t f us value kept free is valued named told =
    told
    ∙ (ap (λ b. not b && not kept) valued
    ∙ (ap (λ b. not (is_value t) && not b) (named ∙ sym (among_by_head (kept_functions h) t f us is))
    ∙ sym (ap (λ b. b && not (is_value t) && not (is_call_among (kept_functions h) t)) (call_is t f us is))))
