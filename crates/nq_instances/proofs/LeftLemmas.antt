-- Left sides of parts of rules.
use Rattle.std.proofs.Common.{◌≡◌, Bool, true, false, List, sym, subst}
use Rattle.std.specs.Prelude.{bytes_eq, codes, if◌then◌else◌}
use Rattle.nq_logic.specs.Terms.{Name, Symbol, Term, Variable, Function, Applied}
use Rattle.nq_logic.specs.Ground.{symbols_of}
use Rattle.nq_logic.specs.RuleShapes.{is_function_named, left_side}
use Rattle.nq_bank.specs.declared.node.TermId.{TermId}
use Rattle.nq_bank.specs.Content.{Stands, term_at}
use Rattle.nq_history.specs.declared.entry.Entry.{Entry}
use Rattle.nq_history.specs.Events.{events_at}
use Rattle.nq_kernel.specs.declared.work.Work.{Work}
use Rattle.nq_kernel.specs.Over.{IsVariable, IsTermOf}
use Rattle.nq_lines.specs.Lines.{IsTermIn}

-- the left side of a part that is in
left_over : (P : Name → Type 0) (symbols : List Symbol) (t : Term) → IsTermOf P symbols t → IsTermOf P symbols (left_side t)
left_over P symbols (Variable x) h = h
left_over P symbols (Function f) h = h
left_over P symbols (Applied (Variable x) u) h = h
left_over P symbols (Applied (Function f) u) h = by_test (bytes_eq f (codes "NOT"))
  where
    by_test : (b : Bool) → IsTermOf P symbols (if b then u else Applied (Function f) u)
    by_test true = record { over = h.over.1; variables = h.variables.1 }
    by_test false = h
left_over P symbols (Applied (Applied f t) u) h = by_test (is_function_named (codes "EQUAL") f)
  where
    by_test : (b : Bool) → IsTermOf P symbols (if b then t else Applied (Applied f t) u)
    by_test true = record { over = h.over.0.1; variables = h.variables.0.1 }
    by_test false = h

pub left_in : (history : List Entry) (work : Work) (part left : TermId) → IsTermIn history work part → Stands work.bank left → term_at work.bank left ≡ left_side (term_at work.bank part) → IsTermIn history work left
left_in history work part left h stands is =
    let symbols : List Symbol = symbols_of (events_at work.bank history) in
    record { stands = stands; over = subst (IsTermOf IsVariable symbols) (sym is) (left_over IsVariable symbols (term_at work.bank part) h.over) }
