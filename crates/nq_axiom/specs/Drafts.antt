-- The literals that steps make.
use Rattle.std.specs.Prelude.{Option, Some, None, reverse, All, Vec}
use Rattle.std.specs.declared.alloc.Global.{Global}
use Rattle.nq_bank.specs.Content.{Content}
use Rattle.nq_proof.specs.Clauses.{Clause}
use Rattle.nq_steps.specs.declared.steps.Step.{Step}
use Rattle.nq_steps.specs.Steps.{stack_of, StepStands}

-- the clause whose literals the steps make, where there are steps
abbrev pub draft_at : Content → Option (Vec Step Global) → Option Clause
draft_at bank None = None
draft_at bank (Some steps) = Some (reverse (stack_of bank steps.items))

-- the names and terms of the steps stand in the bank
abbrev pub DraftStands : Content → Option (Vec Step Global) → Type 0
DraftStands bank None = Unit {0}
DraftStands bank (Some steps) = All (StepStands bank) steps.items
