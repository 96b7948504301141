-- Definitions that lines tell.
use Rattle.std.specs.Prelude.{◌≡◌, ◌^◌, Bool, true, false, ◌&&◌, not, nat_lt, List, length, Option, Some, None}
use Rattle.nq_logic.specs.Terms.{Name, Term}
use Rattle.nq_logic.specs.Admissible.{has_variables, mentions}
use Rattle.nq_logic.specs.Names.{are_distinct, is_in_use}
use Rattle.nq_logic.specs.Histories.{Defines}
use Rattle.nq_bank.specs.declared.node.TermId.{TermId}
use Rattle.nq_log.specs.Sizes.{is_small}
use Rattle.nq_log.specs.States.{Adds, Block, State, Step, is_empty, only_when}
use Rattle.nq_log.specs.Logs.{claimed}
use Rattle.nq_log.specs.ClosingLines.{introduces, is_measured, new_definition}
use Rattle.nq_check.specs.declared.context.Context.{Context}
use Rattle.nq_check.specs.Claims.{has_place}
use Rattle.nq_check.specs.Contexts.{state_of}
use Rattle.nq_check.specs.Measures.{IsMeasuredBy}

-- whether the block may end in the definition, as far as the function does not tell
abbrev pub may_define : Block → List Name → Term → Bool
may_define block xs t = is_empty block.parts && is_empty block.cases && nat_lt (length xs) (2 ^ 32) && is_small t && are_distinct xs && has_variables xs t

-- whether the function may have this name, and its measure is shown where one is wanted
abbrev pub is_admitted : State → Name → List Name → Term → Bool
is_admitted s f xs body = not (is_in_use f s.history) && introduces s.block.introduced f (length xs) && is_measured s.block f xs body (mentions f body) s.block.measure

-- what the definition leads to where the rest of its condition holds
abbrev pub defined : State → Name → List Name → Term → Option Step
defined s f xs body = claimed (only_when (has_place s.history f && is_admitted s f xs body) (Adds (Defines (new_definition s.block f xs body))))

-- the definition is admitted, with this measure
pub record IsAdmittedBy (c : Context) (f : Name) (xs : List Name) (body : Term) (m : Option TermId) : Type 0 where
  pub admitted : is_admitted (state_of c) f xs body ≡ true
  pub measure : IsMeasuredBy c f xs body m

-- what was found of a definition
abbrev pub Admits : Context → Name → List Name → Term → Option (Option TermId) → Type 0
Admits c f xs body None = is_admitted (state_of c) f xs body ≡ false
Admits c f xs body (Some m) = IsAdmittedBy c f xs body m
