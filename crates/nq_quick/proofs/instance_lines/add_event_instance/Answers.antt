use Rattle.std.proofs.Common.{◌≡◌, Option, ap, subst}
use Rattle.std.specs.Prelude.{is_some, IfOk}
use Rattle.nq_proof.specs.Clauses.{Clause}
use Rattle.nq_kernel.specs.Meaning.{clause_at}
use Rattle.nq_quick.proofs.EventLemmas.{event_instance_given, event_instance_shallow, event_instance_in}
use Rattle.nq_quick.proofs.instance_lines.add_event_instance.Goals as goal

pub add_line-requires-clause-rule : goal.add_line-requires-clause-rule
add_line-requires-clause-rule c = c.requires.instance.pairs_stand

pub add_line-requires-clause-allowed : goal.add_line-requires-clause-allowed
add_line-requires-clause-allowed c = ap is_some (event_instance_given c.args.history.now c.args.work.now c.args.line c.args.t c.args.goal c.args.pairs c.requires.instance c.requires.line)

pub add_line-requires-clause-shallow : goal.add_line-requires-clause-shallow
add_line-requires-clause-shallow c = event_instance_shallow c.args.history.now c.args.work.now c.args.line c.args.t c.args.goal c.args.pairs c.requires.instance c.is_sound.ensures c.requires.line

pub add_line-requires-clause-over : goal.add_line-requires-clause-over
add_line-requires-clause-over c = event_instance_in c.args.history.now c.args.work.now c.args.line c.args.t c.args.goal c.args.pairs c.requires.instance

pub returns-clause-line : goal.returns-clause-line
returns-clause-line c =
    let P : Option Clause → Type 0 = λ o. IfOk c.add_line.result (λ n. clause_at c.add_line.new.work.bank c.add_line.new.work.log n ≡ o) in
    subst P (event_instance_given c.args.history.now c.args.work.now c.args.line c.args.t c.args.goal c.args.pairs c.requires.instance c.requires.line) c.add_line.ensures.line
