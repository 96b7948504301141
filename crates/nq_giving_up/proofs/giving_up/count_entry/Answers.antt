use Rattle.std.proofs.Common.{subst, rules, ◌≤◌}
use Rattle.nq_waterfall.proofs.SameLemmas.{entered}
use Rattle.nq_giving_up.proofs.giving_up.count_entry.Goals as goal

pub returns-in-Ok-clause-grows : goal.returns-in-Ok-clause-grows
returns-in-Ok-clause-grows c =
    entered c.args.history.now c.args.work.now c.enter.new.self c.enter.result c.requires.stands c.enter.ensures.same c.enter.ensures.out c.enter.ensures.not_memory (search rules) c.enter.ensures.limit (subst (λ n. n ≤ c.args.work.now.counter.limit) c.used.ensures.value c.used.ensures.within)

pub returns-in-Err-clause-grows : goal.returns-in-Err-clause-grows
returns-in-Err-clause-grows c =
    entered c.args.history.now c.args.work.now c.enter.new.self c.enter.result c.requires.stands c.enter.ensures.same c.enter.ensures.out c.enter.ensures.not_memory (search rules) c.enter.ensures.limit (subst (λ n. n ≤ c.args.work.now.counter.limit) c.used.ensures.value c.used.ensures.within)
