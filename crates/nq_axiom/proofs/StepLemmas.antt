-- Steps that use only the ground names mean the same over every bank.
use Rattle.std.proofs.Common.{◌≡◌, List, [], ◌∷◌, refl, ap, ◌∙◌}
use Rattle.std.specs.Prelude.{All}
use Rattle.nq_logic.specs.Terms.{Term}
use Rattle.nq_bank.specs.Content.{Content, Grows}
use Rattle.nq_bank.specs.Soundness.{IsSound}
use Rattle.nq_bank.proofs.Growth.{IsNamed-grown, Stands-grown}
use Rattle.nq_bank.proofs.NodesLemmas.{All-head, All-tail}
use Rattle.nq_steps.specs.declared.steps.Leaf.{Leaf}
use Rattle.nq_steps.specs.declared.steps.Leaf.TheVariants.{Letter, Name, Part, Number, Known}
use Rattle.nq_steps.specs.declared.steps.Step.{Step}
use Rattle.nq_steps.specs.declared.steps.Step.TheVariants.{Leaf as LeafStep, Call}
use Rattle.nq_steps.specs.Steps.{step_taken, steps_taken, LeafStands, StepStands}
use Rattle.nq_steps.proofs.MakingLemmas.{step_grown}
use Rattle.std.specs.Prelude.{get_or}
use Rattle.nq_axiom.specs.Steps.{ground_content}

pub ground_grows : (bank : Content) → IsSound bank → Grows ground_content bank
ground_grows bank sound = record { names = sound.ground.first; terms = refl }

leaf_stands : (old new : Content) (leaf : Leaf) → Grows old new → LeafStands old leaf → LeafStands new leaf
leaf_stands old new (Letter b) grows h = h
leaf_stands old new (Name s) grows h = IsNamed-grown old new s grows h
leaf_stands old new (Part k) grows h = tt
leaf_stands old new (Number n) grows h = tt
leaf_stands old new (Known t) grows h = Stands-grown old new t grows h

step_stands : (old new : Content) (step : Step) → Grows old new → StepStands old step → StepStands new step
step_stands old new (LeafStep leaf) grows h = leaf_stands old new leaf grows h
step_stands old new (Call f n) grows h = IsNamed-grown old new f grows h

pub steps_stand : (old new : Content) (steps : List Step) → Grows old new → All (StepStands old) steps → All (StepStands new) steps
steps_stand old new steps grows h = λ k d below. step_stands old new (get_or steps k d) grows (h k d below)

pub steps_same : (old new : Content) (steps : List Step) (ts : List Term) → Grows old new → All (StepStands old) steps → steps_taken new steps ts ≡ steps_taken old steps ts
steps_same old new [] ts grows h = refl
steps_same old new (step ∷ steps) ts grows h =
    ap (steps_taken new steps) (step_grown old new step ts grows (All-head (StepStands old) step steps h)) ∙
    steps_same old new steps (step_taken old step ts) grows (All-tail (StepStands old) step steps h)
