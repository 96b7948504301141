use Rattle.std.proofs.Common.{subst, rules, ◌≤◌}
use Rattle.nq_waterfall.proofs.SameLemmas.{entered}
use Rattle.nq_follow.proofs.following.enter.Goals as goal

pub returns-clause-grows : goal.returns-clause-grows
returns-clause-grows c =
    entered c.args.history.now c.args.work.now c.enter.new.self c.enter.result c.requires.stands c.enter.ensures.same c.enter.ensures.out c.enter.ensures.not_memory (search rules) c.enter.ensures.limit (subst (λ n. n ≤ c.args.work.now.counter.limit) c.used.ensures.value c.used.ensures.within)
