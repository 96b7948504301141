use Rattle.std.proofs.Common.{◌≡◌, Option, sym, subst}
use Rattle.std.specs.Prelude.{IsSome, IfOk}
use Rattle.nq_clause.specs.Substitution.{substitution_at}
use Rattle.nq_proof.specs.Clauses.{Clause}
use Rattle.nq_kernel.specs.Meaning.{clause_at}
use Rattle.nq_eval.specs.Lines.{IsShallow}
use Rattle.nq_eval.proofs.LineLemmas.{grown_trans}
use Rattle.nq_eval.proofs.RowLemmas.{instance_given, instance_stands, instance_in, instance_there}
use Rattle.nq_eval.proofs.rows.add_row_instance.Goals as goal

pub add_line-requires-clause-rule : goal.add_line-requires-clause-rule
add_line-requires-clause-rule c =
    instance_stands c.args.history.now c.args.work.now.bank c.add_row.new.work c.args.name c.args.row c.in_ok-line.line c.args.pairs c.add_row.ensures.grows.grows.bank c.requires.stands.history c.requires.pairs c.in_ok-line.ensures.line

pub add_line-requires-clause-over : goal.add_line-requires-clause-over
add_line-requires-clause-over c =
    instance_in c.args.history.now c.args.work.now.bank c.add_row.new.work c.args.name c.args.row c.in_ok-line.line c.args.pairs c.add_row.ensures.grows.grows.bank c.requires.stands.history c.requires.pairs c.in_ok-line.ensures.line

pub add_line-requires-clause-allowed : goal.add_line-requires-clause-allowed
add_line-requires-clause-allowed c =
    let e = instance_given c.args.history.now c.args.work.now.bank c.add_row.new.work c.args.name c.args.row c.in_ok-line.line c.args.pairs c.add_row.ensures.grows.grows.bank c.requires.stands.history c.requires.pairs c.in_ok-line.ensures.line in
    subst IsSome (sym e) (instance_there c.args.work.now.bank c.args.history.now c.args.name c.args.row (substitution_at c.args.work.now.bank c.args.pairs.items) c.requires.row.there)

pub add_line-requires-clause-shallow : goal.add_line-requires-clause-shallow
add_line-requires-clause-shallow c =
    let e = instance_given c.args.history.now c.args.work.now.bank c.add_row.new.work c.args.name c.args.row c.in_ok-line.line c.args.pairs c.add_row.ensures.grows.grows.bank c.requires.stands.history c.requires.pairs c.in_ok-line.ensures.line in
    subst IsShallow (sym e) c.requires.row.instance

pub returns-clause-line : goal.returns-clause-line
returns-clause-line c =
    let e = instance_given c.args.history.now c.args.work.now.bank c.add_row.new.work c.args.name c.args.row c.in_ok-line.line c.args.pairs c.add_row.ensures.grows.grows.bank c.requires.stands.history c.requires.pairs c.in_ok-line.ensures.line in
    let P : Option Clause → Type 0 = λ o. IfOk c.add_line.result (λ n. clause_at c.add_line.new.work.bank c.add_line.new.work.log n ≡ o) in
    subst P e c.add_line.ensures.line

pub returns-clause-grows : goal.returns-clause-grows
returns-clause-grows c = grown_trans c.args.history.now c.args.work.now c.add_row.new.work c.add_line.new.work c.add_row.ensures.grows c.add_line.ensures.grows
