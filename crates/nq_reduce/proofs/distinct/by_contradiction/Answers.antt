use Rattle.std.proofs.Common.{◌∷◌, subst}
use Rattle.nq_bank.specs.Content.{term_at, terms_at}
use Rattle.nq_kernel.proofs.GrowingLemmas.{WorkGrows-refl}
use Rattle.nq_reduce.specs.Rewriting.{IsShown}
use Rattle.nq_reduce.proofs.distinct.by_contradiction.Goals as goal

pub by_contradicted-requires-clause-end : goal.by_contradicted-requires-clause-end
by_contradicted-requires-clause-end c = c.requires.new.new

pub by_contradicted-requires-clause-new : goal.by_contradicted-requires-clause-new
by_contradicted-requires-clause-new c = subst (IsShown c.args.work.now ((term_at c.args.work.now.bank c.args.t) ∷ (terms_at c.args.work.now.bank c.args.assumed.now)) (term_at c.args.work.now.bank c.args.fact.term) (term_at c.args.work.now.bank c.args.new.term)) c.in-Some.is c.requires.new.shown

pub returns-in-None-clause-grows : goal.returns-in-None-clause-grows
returns-in-None-clause-grows c = WorkGrows-refl c.args.history.now c.args.work.now c.requires.can.stands
