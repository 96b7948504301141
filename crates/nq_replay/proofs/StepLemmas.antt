-- Steps that name ground functions only.
use Rattle.std.proofs.Common.{◌≡◌, true, List, [], ◌∷◌, arith, inl, inr}
use Rattle.std.specs.Prelude.{IsTrue, nat_le, All, get_or}
use Rattle.std.specs.List.{list_all}
use Rattle.std.proofs.lemmas.Bool.{ltb-true, leb-true}
use Rattle.nq_logic.specs.Terms.{Term}
use Rattle.nq_logic.specs.Sizes.{depth_of, depth_limit}
use Rattle.nq_bank.specs.Content.{Content}
use Rattle.nq_bank.specs.Soundness.{IsSound}
use Rattle.nq_proof.proofs.Tests.{and_left, and_right}
use Rattle.nq_steps.specs.declared.steps.Leaf.{Leaf}
use Rattle.nq_steps.specs.declared.steps.Leaf.TheVariants.{Letter, Name, Part, Number, Known}
use Rattle.nq_steps.specs.declared.steps.Step.{Step}
use Rattle.nq_steps.specs.declared.steps.Step.TheVariants.{Leaf as LeafStep, Call}
use Rattle.nq_steps.specs.Steps.{stack_of, LeafStands, StepStands, HasDeep}
use Rattle.nq_axiom.specs.Steps.{ground_content}
use Rattle.nq_axiom.proofs.StepLemmas.{ground_grows, steps_same, steps_stand}
use Rattle.nq_replay.specs.Replaying.{is_leaf, is_step, are_low}
use Rattle.nq_replay.proofs.PlaceLemmas.{all_at}

leaf_ground : (leaf : Leaf) → is_leaf leaf ≡ true → LeafStands ground_content leaf
leaf_ground (Letter b) e = e
leaf_ground (Name s) e = absurd cc
leaf_ground (Part k) e = tt
leaf_ground (Number n) e = tt
leaf_ground (Known t) e = absurd cc

step_ground : (step : Step) → is_step step ≡ true → StepStands ground_content step
step_ground (LeafStep leaf) e = leaf_ground leaf e
step_ground (Call f n) e = ltb-true f.0 48 e

steps_ground : (steps : List Step) → list_all is_step steps ≡ true → All (StepStands ground_content) steps
steps_ground steps e = λ k d below. step_ground (get_or steps k d) (all_at is_step steps k d e below)

pub steps_here : (bank : Content) (steps : List Step) → IsSound bank → IsTrue (list_all is_step steps) → All (StepStands bank) steps
steps_here bank steps sound e = steps_stand ground_content bank steps (ground_grows bank sound) (steps_ground steps e)

pub stack_here : (bank : Content) (steps : List Step) → IsSound bank → IsTrue (list_all is_step steps) → stack_of bank steps ≡ stack_of ground_content steps
stack_here bank steps sound e = steps_same ground_content bank steps [] (ground_grows bank sound) (steps_ground steps e)

pub none_deep : (ts : List Term) → IsTrue (are_low ts) → HasDeep ts → ⊥
none_deep [] e h = h
none_deep (t ∷ ts) e (inl h) = let low = leb-true (depth_of t) depth_limit (and_left (nat_le (depth_of t) depth_limit) (are_low ts) e) in omega (arith, low, h)
none_deep (t ∷ ts) e (inr h) = none_deep ts (and_right (nat_le (depth_of t) depth_limit) (are_low ts) e) h
