use Rattle.std.proofs.Common.{refl}
use Rattle.nq_bank.specs.Content.{term_at, terms_at}
use Rattle.nq_reduce.proofs.RewritingLemmas.{assumed_known}
use Rattle.nq_reduce.proofs.knowledge.known_by_assumption.Goals as goal

pub returns-then-is_assumed-clause-known : goal.returns-then-is_assumed-clause-known
returns-then-is_assumed-clause-known c = assumed_known c.opposites.new.work (terms_at c.args.work.now.bank c.args.assumed.now) (term_at c.args.work.now.bank c.args.t) c.in_ok-line.line (c.if-is_assumed.ensures refl) c.in_ok-line.ensures.line
