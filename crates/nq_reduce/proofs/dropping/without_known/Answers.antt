use Rattle.nq_bank.specs.Content.{term_at, terms_at}
use Rattle.nq_kernel.proofs.GrowingLemmas.{WorkGrows-refl}
use Rattle.nq_lines.proofs.LineLemmas.{only_stands}
use Rattle.nq_reduce.proofs.DroppingLemmas.{dropped_false}
use Rattle.nq_reduce.proofs.dropping.without_known.Goals as goal

pub returns-then-known-clause-grows : goal.returns-then-known-clause-grows
returns-then-known-clause-grows c = WorkGrows-refl c.args.history.now c.args.work.now c.requires.can.stands

pub cut-requires-clause-second : goal.cut-requires-clause-second
cut-requires-clause-second c = only_stands c.args.work.now c.args.known.line _ c.requires.known.shown

pub returns-in_ok-n-clause-line : goal.returns-in_ok-n-clause-line
returns-in_ok-n-clause-line c = dropped_false c.args.work.now c.cut.new.work (terms_at c.args.work.now.bank c.args.assumed.now) (term_at c.args.work.now.bank c.args.t) c.args.known c.args.line c.in_ok-n.n c.if-known.false c.requires.known c.in_ok-n.ensures.line
