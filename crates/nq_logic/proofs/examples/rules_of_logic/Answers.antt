use Rattle.std.proofs.Common.{[], ◌∷◌, inl, refl}
use Rattle.std.specs.Prelude.{codes}
use Rattle.nq_logic.specs.Words.{variable, call2}
use Rattle.nq_logic.specs.Derivations.{excluded_middle, reflexive, congruent, equal_ends, expansion, contraction, associativity, cut, instantiation, induction, truth_is_not_falsity, equal_of_same, equal_of_different, if_false, if_true, size_is_number, one_less_is_less, definition, shell, added}
use Rattle.nq_logic.specs.Ground.{ground_shells, ground_definitions, pairs, atoms, negatives, defines1, defines2}
use Rattle.nq_logic.specs.Histories.{Definition, events_shells, events_definitions}
use Rattle.nq_logic.specs.Shells.{made_is_recognized, kinds_differ}
use Rattle.nq_logic.proofs.Lists.{among_left, among_right, among_at}
use Rattle.nq_logic.proofs.examples.rules_of_logic.Goals as goal

pub returns-clause-rules : goal.returns-clause-rules
returns-clause-rules c = λ h. record {
  excluded_middle = excluded_middle;
  reflexivity = reflexive;
  equal_arguments = λ a b c d. congruent (codes "CONS") ((a, b) ∷ (c, d) ∷ []);
  equal_ends = equal_ends;
  expansion = expansion;
  contraction = contraction;
  associativity = associativity;
  cut = cut;
  instantiation = λ t. instantiation _ ((codes "X", t) ∷ []);
  induction = λ p q1 q2 m s1 s2 s3. induction p m (record { test = q1; substitutions = s1 ∷ s2 ∷ [] } ∷ record { test = q2; substitutions = s3 ∷ [] } ∷ []);
}

greater : Definition
greater = defines2 "GREATERP" "X" "Y" (call2 "LESSP" (variable "Y") (variable "X"))

double : Definition
double = defines1 "DOUBLE" "X" (call2 "PLUS" (variable "X") (variable "X"))

pub returns-clause-axioms : goal.returns-clause-axioms
unfolding greater double
returns-clause-axioms c = λ h. record {
  truth = truth_is_not_falsity;
  equal = equal_of_same;
  unequal = equal_of_different;
  if_false = if_false;
  if_true = if_true;
  size = size_is_number;
  one_less = one_less_is_less;
  ground_definition = definition greater (among_left greater ground_definitions (events_definitions h) (among_at greater ground_definitions 15 refl));
  ground_shell = shell [] (pairs ∷ atoms ∷ negatives ∷ events_shells h) _ 2 0 _ refl made_is_recognized;
  definition = definition double (among_right double ground_definitions (double ∷ events_definitions h) (inl refl));
  shell_apart = shell ground_shells (events_shells h) _ 13 4 _ refl (kinds_differ 3 negatives refl);
  added = λ t. added (codes "A") [] t (inl refl);
}
