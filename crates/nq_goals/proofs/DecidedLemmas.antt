-- Lemmas that are decided, and some that are not.
use Rattle.std.proofs.Common.{◌≡◌, Bool, true, false, List, [], ◌∷◌, refl, ap, arith}
use Rattle.std.specs.Prelude.{codes}
use Rattle.nq_logic.specs.Shapes.{chosen}
use Rattle.nq_logic.specs.Words.{call1}
use Rattle.nq_logic.specs.RuleShapes.{is_call}
use Rattle.nq_proof.specs.Clauses.{same_term}
use Rattle.nq_fragments.specs.Propositions.{proposition_of}
use Rattle.nq_events.specs.Events.{Instance}
use Rattle.nq_goals.specs.NormalExamples.{p, q}
use Rattle.nq_goals.specs.DecidedExamples.{DecidedExamples, a}

false_is_true : false ≡ true → ⊥
false_is_true e = cc

true_is_false : true ≡ false → ⊥
true_is_false e = cc

-- two steps make the whole
chained : (p q r : Bool) → chosen (chosen (chosen p q true) false true) true (chosen (chosen (chosen q r true) false true) true (chosen p r true)) ≡ true
chained true true true = refl
chained true true false = refl
chained true false r = refl
chained false true true = refl
chained false true false = refl
chained false false r = refl

implied : (b : Bool) → chosen b b true ≡ false → ⊥
implied true e = cc
implied false e = cc

some_instance : (i : Instance) (is : List Instance) → i ∷ is ≡ [] → ⊥
some_instance i is e = cc

pub decided_examples : DecidedExamples
unfolding proposition_of
decided_examples = record {
  first = refl;
  tautology = record { few_nodes = omega arith; few_others = omega arith; always_true = λ values. chained (values (call1 "P1" a)) (values (call1 "Q1" a)) (values (call1 "R1" a)) };
  no_tautology = λ t. false_is_true (t.always_true (λ u. same_term u (call1 "P1" a)));
  falsehood = record {
    few_nodes = omega arith;
    few_others = omega arith;
    variables = (record { name = codes "P"; is = refl }, (record { name = codes "Q"; is = refl }, tt));
    values = λ u. same_term u p;
    is_false = refl;
  };
  no_falsehood = λ f. implied (f.values p) f.is_false;
  no_variables = λ f. true_is_false (ap is_call f.variables.1.0.is);
  free = record { instances = refl; enable = refl; disable = refl; expand = refl; induct = refl; hands_off = refl; no_induct = refl; no_generalize = refl; no_arith = refl };
  hinted = λ n. some_instance _ _ n.instances;
}
