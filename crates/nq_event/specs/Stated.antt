-- What an instance is one of.
use Rattle.nq_logic.specs.Terms.{Term}
use Rattle.nq_bank.specs.Content.{Content, Stands, term_at}
use Rattle.nq_events.specs.HintRefusals.{defining_equation}
use Rattle.nq_event.specs.declared.large.Stated.{Stated}
use Rattle.nq_event.specs.declared.large.Stated.TheVariants.{Term as TermOf, Equation}
use Rattle.nq_event.specs.Definitions.{definition_at, DefinitionStands}

-- a term, or a defining equation
abbrev pub stated_term : Content → Stated → Term
stated_term bank (TermOf t) = term_at bank t
stated_term bank (Equation d) = defining_equation (definition_at bank d)

abbrev pub StatedStands : Content → Stated → Type 0
StatedStands bank (TermOf t) = Stands bank t
StatedStands bank (Equation d) = DefinitionStands bank d
