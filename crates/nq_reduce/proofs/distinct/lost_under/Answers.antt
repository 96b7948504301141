use Rattle.std.proofs.Common.{◌∷◌, List, sym, subst}
use Rattle.nq_bank.specs.Content.{term_at, terms_at}
use Rattle.nq_bank.specs.declared.node.TermId.{TermId}
use Rattle.nq_kernel.proofs.GrowingLemmas.{WorkGrows-trans}
use Rattle.nq_reduce.specs.Rewriting.{CanRewrite, IsRewritten}
use Rattle.nq_reduce.specs.Equations.{IsAssumed}
use Rattle.nq_reduce.proofs.StepLemmas.{first_assumed}
use Rattle.nq_reduce.proofs.RewritingLemmas.{can_grown, can_term, rewritten_now, told_before, can_more}
use Rattle.nq_reduce.proofs.HeldLemmas.{held_after}
use Rattle.nq_reduce.proofs.distinct.lost_under.Goals as goal

pub lost_kind-requires-clause-can : goal.lost_kind-requires-clause-can
lost_kind-requires-clause-can c = subst (λ ts. CanRewrite c.args.history.now c.args.work.now ts c.args.fact.term) (sym c.requires.all) (can_more c.args.history.now c.args.assumed.now c.args.work.now c.args.t c.args.fact.term (can_term c.args.history.now c.args.work.now c.args.assumed.now c.args.t c.args.fact.term c.requires.can c.requires.fact.term) c.requires.can.term)

pub lost_kind-requires-clause-equation : goal.lost_kind-requires-clause-equation
lost_kind-requires-clause-equation c = subst (λ ts. IsAssumed c.args.history.now c.args.work.now ts c.args.t) (sym c.requires.all) (first_assumed c.args.history.now c.args.work.now c.args.assumed.now c.args.t c.requires.can)

pub by_contradiction-requires-clause-can : goal.by_contradiction-requires-clause-can
by_contradiction-requires-clause-can c = can_grown c.args.history.now c.args.work.now c.lost_kind.new.work c.lost_kind.ensures.grows c.args.assumed.now c.args.t c.requires.can

pub by_contradiction-requires-clause-fact : goal.by_contradiction-requires-clause-fact
by_contradiction-requires-clause-fact c = held_after c.args.history.now c.args.work.now c.lost_kind.new.work c.lost_kind.ensures.grows c.args.assumed.now c.args.t c.requires.can c.args.fact c.requires.fact

pub by_contradiction-requires-clause-new : goal.by_contradiction-requires-clause-new
by_contradiction-requires-clause-new c = rewritten_now c.args.history.now (c.args.t ∷ c.args.assumed.now) c.args.work.now c.lost_kind.new.work c.args.fact.term c.in_ok-new.new c.lost_kind.ensures.grows (can_more c.args.history.now c.args.assumed.now c.args.work.now c.args.t c.args.fact.term (can_term c.args.history.now c.args.work.now c.args.assumed.now c.args.t c.args.fact.term c.requires.can c.requires.fact.term) c.requires.can.term) (subst (λ (ts : List TermId). IsRewritten c.args.history.now c.lost_kind.new.work (terms_at c.args.work.now.bank ts) (term_at c.args.work.now.bank c.args.fact.term) c.in_ok-new.new) c.requires.all c.in_ok-new.ensures.ok)

pub returns-clause-ok : goal.returns-clause-ok
returns-clause-ok c = told_before c.args.history.now c.args.assumed.now c.args.work.now c.lost_kind.new.work c.by_contradiction.new.work c.args.t c.by_contradiction.result c.lost_kind.ensures.grows c.requires.can c.by_contradiction.ensures.ok

pub returns-clause-grows : goal.returns-clause-grows
returns-clause-grows c = (WorkGrows-trans c.args.history.now c.args.work.now c.lost_kind.new.work c.by_contradiction.new.work c.lost_kind.ensures.grows c.by_contradiction.ensures.grows)
