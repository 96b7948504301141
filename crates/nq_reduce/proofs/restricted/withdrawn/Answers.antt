use Rattle.nq_kernel.proofs.GrowingLemmas.{WorkGrows-refl}
use Rattle.nq_lines.proofs.LineLemmas.{only_stands}
use Rattle.nq_bank.specs.Content.{term_at, terms_at}
use Rattle.nq_reduce.proofs.ShellLemmas.{withdrawn_known}
use Rattle.nq_reduce.proofs.restricted.withdrawn.Goals as goal

pub undeny-requires-clause-line : goal.undeny-requires-clause-line
undeny-requires-clause-line c = only_stands c.args.work.now c.args.known.line _ c.requires.known.shown

pub returns-else-known-clause-grows : goal.returns-else-known-clause-grows
returns-else-known-clause-grows c = WorkGrows-refl c.args.history.now c.args.work.now c.requires.can.stands

pub returns-in_ok-line-clause-known : goal.returns-in_ok-line-clause-known
returns-in_ok-line-clause-known c = withdrawn_known c.args.work.now c.undeny.new.work (terms_at c.args.work.now.bank c.args.assumed.now) (term_at c.args.work.now.bank c.args.t) (term_at c.args.work.now.bank c.args.denied) c.args.known c.in_ok-line.line c.requires.denied.denotes c.if-known.true c.requires.known c.in_ok-line.ensures.line
