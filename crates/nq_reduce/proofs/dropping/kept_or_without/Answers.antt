use Rattle.std.proofs.Common.{refl, ap}
use Rattle.nq_bank.specs.Content.{term_at, terms_at}
use Rattle.nq_kernel.proofs.GrowingLemmas.{WorkGrows-refl}
use Rattle.nq_reduce.specs.Rewriting.{denials}
use Rattle.nq_reduce.proofs.DroppingLemmas.{dropped_kept, dropped_more}
use Rattle.nq_reduce.proofs.dropping.kept_or_without.Goals as goal

pub returns-then-is_same-clause-line : goal.returns-then-is_same-clause-line
returns-then-is_same-clause-line c = dropped_kept c.args.work.now (term_at c.args.work.now.bank c.args.kept) (term_at c.args.work.now.bank c.args.t) (terms_at c.args.work.now.bank c.args.assumed.now) c.args.line (ap (term_at c.args.work.now.bank) (c.if-is_same.ensures refl))

pub returns-then-is_same-clause-grows : goal.returns-then-is_same-clause-grows
returns-then-is_same-clause-grows c = WorkGrows-refl c.args.history.now c.args.work.now c.requires.can.stands

pub returns-else-is_same-clause-line : goal.returns-else-is_same-clause-line
returns-else-is_same-clause-line c = dropped_more c.args.work.now c.without.new.work (term_at c.args.work.now.bank c.args.kept) (denials (terms_at c.args.work.now.bank c.args.assumed.now)) (term_at c.args.work.now.bank c.args.t) c.args.line c.without.result c.without.ensures.line
