use Rattle.std.proofs.Common.{refl, ◌≡◌, ℕ, List, [], ◌∷◌, inl, inr}
use Rattle.std.specs.Prelude.{codes}
use Rattle.nq_logic.specs.Terms.{Term, Variable, Function, Applied}
use Rattle.nq_logic.specs.Words.{variable, numeral}
use Rattle.nq_logic.specs.Numerals.{number_of}
use Rattle.nq_logic.specs.Values.{is_tree_value}
use Rattle.nq_logic.proofs.Tests.{names_apart, only_name_apart}
use Rattle.nq_logic.proofs.examples.rules.Goals as goal

pub returns-clause-rewrite : goal.returns-clause-rewrite
unfolding numeral number_of is_tree_value
returns-clause-rewrite c = record {
  parts = refl;
  equation = ((refl, refl), tt);
  truth = ((refl, refl), tt);
  falsity = ((refl, refl), tt);
  several = ((refl, refl), ((refl, refl), ((refl, refl), tt)));
  variable_alone = λ h. absurd cc;
  variable_side = λ h. absurd cc;
  variable_denied = λ h. absurd cc;
  numeral_side = λ h. absurd cc;
  value_side = λ h. absurd cc;
  value_alone = λ h. absurd cc;
  one_part_wrong = λ h. absurd cc;
}

pub returns-clause-elim : goal.returns-clause-elim
unfolding numeral
returns-clause-elim c = record { pair = refl; parts_alone = refl; stands_apart = refl; no_destructor = refl; other_side = refl }

pub returns-clause-generalize : goal.returns-clause-generalize
unfolding numeral
returns-clause-generalize c = record { others = refl; plain = refl }

swapped : List (List ℕ × Term)
swapped = (codes "X", variable "Y") ∷ (codes "Y", variable "X") ∷ []

-- one term in both places of a call stands for one variable
same_place : (f x y : List ℕ) (a : Term) → Applied (Applied (Function f) a) a ≡ Applied (Applied (Function f) (Variable x)) (Variable y) → x ≡ y
same_place f x y a e = cc

pub returns-clause-permutative : goal.returns-clause-permutative
unfolding swapped
returns-clause-permutative c = record {
  exchanged = record { there = swapped; back = swapped; becomes = refl; returns = refl; own = ((tt, inr (inl refl)), inl refl) };
  same = record { there = []; back = []; becomes = refl; returns = refl; own = ((tt, inl refl), inr (inl refl)) };
  merged = λ h. names_apart (codes "X") (codes "Y") refl (same_place (codes "PLUS") (codes "X") (codes "Y") _ h.returns);
  split = λ h. names_apart (codes "X") (codes "Y") refl (same_place (codes "PLUS") (codes "X") (codes "Y") _ h.becomes);
  foreign = λ h. only_name_apart (codes "Y") (codes "X") refl h.own.1;
  larger = λ h. let e = h.returns in cc;
}
