use Rattle.std.proofs.Common.{refl, inl, inr, [], ◌∷◌}
use Rattle.nq_logic.specs.Numerals.{number_of}
use Rattle.nq_logic.specs.Values.{is_tree_value}
use Rattle.nq_logic.specs.Words.{numeral}
use Rattle.nq_goals.specs.Replacing.{AreReplacedOnce}
use Rattle.nq_goals.specs.NormalExamples.{x, y, plus}
use Rattle.nq_goals.specs.MoveExamples.{z}
use Rattle.nq_goals.proofs.examples.fertilizings.Goals as goal

no : AreReplacedOnce (plus x y) z (x ∷ []) (x ∷ []) → ⊥
no (inl (inl (e, d), u)) = absurd cc
no (inl (inr none, u)) = absurd none
no (inr (r, none)) = absurd none

pub returns : goal.returns
unfolding number_of is_tree_value numeral
returns c = record { left = refl; right = refl; value = refl; elsewhere = refl; variable_side = refl; one_place = inl (inr (inl (inr (refl, inl (refl, refl)), inr ((refl, inr refl), inr refl))), tt); no_place = no }
