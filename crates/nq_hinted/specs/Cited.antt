-- Events that define a function, and lines without what a hint denies.
use Rattle.std.specs.Prelude.{ℕ, Bool, true, false, List, Option, None, Some}
use Rattle.nq_logic.specs.Terms.{Term}
use Rattle.nq_logic.specs.Histories.{Event, AddShell, Declaration, Defines, Axiom, Lemma, Toggle}
use Rattle.nq_kernel.specs.declared.work.Work.{Work}
use Rattle.nq_lines.specs.Lines.{LineHasOnly}
use Rattle.nq_goals.specs.Hints.{denied_before}

-- whether the event is a definition
abbrev pub is_defining : Event → Bool
is_defining (AddShell s) = false
is_defining (Declaration f n) = false
is_defining (Defines d) = true
is_defining (Axiom n classes t) = false
is_defining (Lemma n classes t) = false
is_defining (Toggle n old disabled) = false

abbrev pub is_definition : Option Event → Bool
is_definition None = false
is_definition (Some e) = is_defining e

-- line n is another without the denial of a term, if there is one
abbrev pub CutsAway : Work → Work → Option Term → ℕ → ℕ → Type 0
CutsAway old new o line n = (these : List Term) → LineHasOnly old line (denied_before o these) → LineHasOnly new n these
