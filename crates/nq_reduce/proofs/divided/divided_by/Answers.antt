use Rattle.std.specs.Prelude.{None}
use Rattle.nq_reduce.proofs.RewritingLemmas.{itself}
use Rattle.nq_kernel.proofs.GrowingLemmas.{WorkGrows-trans}
use Rattle.std.proofs.Common.{subst, ◌∷◌, refl}
use Rattle.nq_bank.specs.Content.{term_at, terms_at}
use Rattle.nq_reduce.specs.Rewriting.{IsRewritten}
use Rattle.nq_reduce.proofs.RewritingLemmas.{can_grown, can_term, rewritten_now, rewritten_after, told_before}
use Rattle.nq_reduce.proofs.divided.divided_by.Goals as goal

pub join-requires-clause-can : goal.join-requires-clause-can
join-requires-clause-can c = (can_term c.args.history.now c.args.work.now c.args.assumed.now c.args.t c.args.whole.term c.requires.can c.requires.whole.new)

pub join-requires-clause-test : goal.join-requires-clause-test
join-requires-clause-test c = itself c.args.history.now c.args.work.now c.args.assumed.now c.args.p (record { term = c.args.p; line = None }) (can_term c.args.history.now c.args.work.now c.args.assumed.now c.args.t c.args.p c.requires.can c.requires.test) refl refl

pub join-requires-clause-second : goal.join-requires-clause-second
join-requires-clause-second c = subst (λ u. IsRewritten c.args.history.now c.args.work.now (u ∷ terms_at c.args.work.now.bank c.args.assumed.now) (term_at c.args.work.now.bank c.args.t) c.args.second) c.requires.denied.denotes c.requires.second

pub follow-requires-clause-can : goal.follow-requires-clause-can
follow-requires-clause-can c = can_grown c.args.history.now c.args.work.now c.join.new.work c.join.ensures.grows c.args.assumed.now c.args.t c.requires.can

pub follow-requires-clause-first : goal.follow-requires-clause-first
follow-requires-clause-first c = rewritten_after c.args.history.now c.args.work.now c.join.new.work c.join.ensures.grows c.args.assumed.now c.args.t c.args.whole c.requires.can c.requires.whole

pub follow-requires-clause-second : goal.follow-requires-clause-second
follow-requires-clause-second c = rewritten_now c.args.history.now c.args.assumed.now c.args.work.now c.join.new.work c.args.whole.term c.in_ok-joined.joined c.join.ensures.grows (can_term c.args.history.now c.args.work.now c.args.assumed.now c.args.t c.args.whole.term c.requires.can c.requires.whole.new) c.in_ok-joined.ensures.ok

pub returns-clause-ok : goal.returns-clause-ok
returns-clause-ok c = told_before c.args.history.now c.args.assumed.now c.args.work.now c.join.new.work c.follow.new.work c.args.t c.follow.result c.join.ensures.grows c.requires.can c.follow.ensures.ok

pub returns-clause-grows : goal.returns-clause-grows
returns-clause-grows c = WorkGrows-trans c.args.history.now c.args.work.now c.join.new.work c.follow.new.work c.join.ensures.grows c.follow.ensures.grows
