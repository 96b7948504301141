use Rattle.nq_bank.specs.Content.{term_at}
use Rattle.nq_part_lines.proofs.TermLemmas.{size_shallow}
use Rattle.nq_part_lines.proofs.terms.size_term.Goals as goal

pub ground_call-requires-clause-shallow : goal.ground_call-requires-clause-shallow
ground_call-requires-clause-shallow c = size_shallow (term_at c.args.work.now.bank c.args.t) c.requires.room
