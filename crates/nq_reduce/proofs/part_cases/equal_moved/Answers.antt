use Rattle.nq_kernel.proofs.GrowingLemmas.{WorkGrows-refl}
use Rattle.std.proofs.Common.{subst, sym, refl}
use Rattle.nq_bank.specs.Content.{term_at, terms_at}
use Rattle.nq_reduce.specs.Rewriting.{IsRewritten}
use Rattle.nq_reduce.proofs.part_cases.equal_moved.Goals as goal

pub congruent-requires-clause-new : goal.congruent-requires-clause-new
congruent-requires-clause-new c = subst (λ i. IsRewritten c.args.history.now c.args.work.now (terms_at c.args.work.now.bank c.args.assumed.now) (term_at c.args.work.now.bank i) c.args.moved) (sym (c.if-is_same.ensures refl)) c.requires.moved

pub returns-else-is_same-clause-grows : goal.returns-else-is_same-clause-grows
returns-else-is_same-clause-grows c = WorkGrows-refl c.args.history.now c.args.work.now c.requires.can.stands

pub returns-in-None-clause-grows : goal.returns-in-None-clause-grows
returns-in-None-clause-grows c = WorkGrows-refl c.args.history.now c.args.work.now c.requires.can.stands
