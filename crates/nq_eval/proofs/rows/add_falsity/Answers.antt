use Rattle.std.proofs.Common.{◌≡◌, Option, ap, subst}
use Rattle.std.specs.Prelude.{is_some, IfOk}
use Rattle.nq_proof.specs.Clauses.{Clause}
use Rattle.nq_kernel.specs.Meaning.{clause_at}
use Rattle.nq_eval.proofs.RowLemmas.{falsity_given, falsity_row_shallow}
use Rattle.nq_eval.proofs.rows.add_falsity.Goals as goal

pub add_line-requires-clause-allowed : goal.add_line-requires-clause-allowed
add_line-requires-clause-allowed c = ap is_some (falsity_given c.args.history.now c.args.work.now c.ground_name-name.result c.ground_name-name.ensures.reads)

pub add_line-requires-clause-shallow : goal.add_line-requires-clause-shallow
add_line-requires-clause-shallow c = falsity_row_shallow c.args.history.now c.args.work.now c.ground_name-name.result c.ground_name-name.ensures.reads

pub returns-clause-line : goal.returns-clause-line
returns-clause-line c =
    let P : Option Clause → Type 0 = λ o. IfOk c.add_line.result (λ n. clause_at c.add_line.new.work.bank c.add_line.new.work.log n ≡ o) in
    subst P (falsity_given c.args.history.now c.args.work.now c.ground_name-name.result c.ground_name-name.ensures.reads) c.add_line.ensures.line

pub add_line-requires-clause-over : goal.add_line-requires-clause-over
add_line-requires-clause-over c = record { terms = tt; names = tt }
