use Rattle.std.proofs.Common.{◌≡◌, Option, sym, subst}
use Rattle.std.specs.Prelude.{IsSome, IfOk}
use Rattle.nq_proof.specs.Clauses.{Clause}
use Rattle.nq_kernel.specs.Meaning.{clause_at}
use Rattle.nq_eval.specs.Lines.{IsShallow}
use Rattle.nq_eval.proofs.RowLemmas.{row_given}
use Rattle.nq_eval.proofs.rows.add_row.Goals as goal

pub add_line-requires-clause-allowed : goal.add_line-requires-clause-allowed
add_line-requires-clause-allowed c = subst IsSome (sym (row_given c.args.history.now c.args.work.now c.args.name c.args.row)) c.requires.row.there

pub add_line-requires-clause-shallow : goal.add_line-requires-clause-shallow
add_line-requires-clause-shallow c = subst IsShallow (sym (row_given c.args.history.now c.args.work.now c.args.name c.args.row)) c.requires.row.shallow

pub add_line-requires-clause-over : goal.add_line-requires-clause-over
add_line-requires-clause-over c = record { terms = tt; names = tt }

pub returns-clause-line : goal.returns-clause-line
returns-clause-line c =
    let P : Option Clause → Type 0 = λ o. IfOk c.add_line.result (λ n. clause_at c.add_line.new.work.bank c.add_line.new.work.log n ≡ o) in
    subst P (row_given c.args.history.now c.args.work.now c.args.name c.args.row) c.add_line.ensures.line
