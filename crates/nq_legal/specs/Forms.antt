-- Of what form a goal is.
use Rattle.std.specs.Prelude.{Bool, true, false, List, ⊤}
use Rattle.nq_bank.specs.declared.node.TermId.{TermId}
use Rattle.nq_bank.specs.Content.{Content, terms_at}
use Rattle.nq_history.specs.declared.entry.Entry.{Entry}
use Rattle.nq_history.specs.declared.hints.Hints.{Hints}
use Rattle.nq_history.specs.Events.{events_at}
use Rattle.nq_kernel.specs.declared.verdict.Cause.TheVariants as causes
use Rattle.nq_goals.specs.Spent.{IsFalse}
use Rattle.nq_waterfall.specs.declared.trail.Ancestor.{Ancestor}
use Rattle.nq_waterfall.specs.Turns.{SpentAt}
use Rattle.nq_legal.specs.declared.form.Form.{Form}
use Rattle.nq_legal.specs.declared.form.Form.TheVariants.{Falsity, Normal, Other}
use Rattle.nq_legal.specs.Legal.{NormalAt}

-- the form, by whether the goal is false, in normal form, and a first one
abbrev pub told_form : Bool → Bool → Bool → Form
told_form true true first = Falsity
told_form true false true = Falsity
told_form true false false = Other
told_form false true first = Normal
told_form false false first = Other

-- it is left over as false, or is in normal form and not false
abbrev pub IsForm : Content → List Entry → Hints → List Ancestor → List TermId → Form → Type 0
IsForm bank history hints path goal Falsity = SpentAt bank history hints path goal causes.False
IsForm bank history hints path goal Normal = NormalAt bank history hints goal × (IsFalse (events_at bank history) (terms_at bank goal) → ⊥)
IsForm bank history hints path goal Other = ⊤
