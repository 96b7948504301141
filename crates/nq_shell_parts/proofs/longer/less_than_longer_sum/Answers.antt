use Rattle.nq_kernel.proofs.GrowingLemmas.{LineHolds-grown}
use Rattle.nq_replay.specs.LawClauses.{less_is_transitive_clause, size_falls_clause}
use Rattle.nq_replay.proofs.UncountedLemmas.{grown_trans}
use Rattle.nq_shell_parts.proofs.longer.less_than_longer_sum.Goals as goal

pub longer_by-requires-clause-falls : goal.longer_by-requires-clause-falls
longer_by-requires-clause-falls c =
    let later = grown_trans c.args.history.now c.size_falls.new.work c.less_is_transitive.new.work c.less_than_one_more.new.work c.less_is_transitive.ensures.grows c.less_than_one_more.ensures.grows in
    LineHolds-grown c.args.history.now c.size_falls.new.work c.less_than_one_more.new.work c.in_ok-falls.falls size_falls_clause c.size_falls.ensures.grows.grows.stands later.grows c.in_ok-falls.ensures.line

pub longer_by-requires-clause-transitive : goal.longer_by-requires-clause-transitive
longer_by-requires-clause-transitive c =
    LineHolds-grown c.args.history.now c.less_is_transitive.new.work c.less_than_one_more.new.work c.in_ok-transitive.transitive less_is_transitive_clause c.less_is_transitive.ensures.grows.grows.stands c.less_than_one_more.ensures.grows.grows c.in_ok-transitive.ensures.line

pub returns-in_err-transitive-clause-grows : goal.returns-in_err-transitive-clause-grows
returns-in_err-transitive-clause-grows c = grown_trans c.args.history.now c.args.work.now c.size_falls.new.work c.less_is_transitive.new.work c.size_falls.ensures.grows c.less_is_transitive.ensures.grows

pub returns-in_err-one-clause-grows : goal.returns-in_err-one-clause-grows
returns-in_err-one-clause-grows c =
    grown_trans c.args.history.now c.args.work.now c.size_falls.new.work c.less_than_one_more.new.work c.size_falls.ensures.grows
    (grown_trans c.args.history.now c.size_falls.new.work c.less_is_transitive.new.work c.less_than_one_more.new.work c.less_is_transitive.ensures.grows c.less_than_one_more.ensures.grows)

pub returns-clause-grows : goal.returns-clause-grows
returns-clause-grows c =
    let later = grown_trans c.args.history.now c.size_falls.new.work c.less_is_transitive.new.work c.less_than_one_more.new.work c.less_is_transitive.ensures.grows c.less_than_one_more.ensures.grows in
    grown_trans c.args.history.now c.args.work.now c.size_falls.new.work c.longer_by.new.work c.size_falls.ensures.grows
    (grown_trans c.args.history.now c.size_falls.new.work c.less_than_one_more.new.work c.longer_by.new.work later c.longer_by.ensures.grows)
