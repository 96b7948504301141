use Rattle.nq_log_tests.proofs.ClosedLemmas.{is_one, is_two}
use Rattle.nq_log_tests.proofs.closed.closed.Goals as goal

pub closed_by_one-requires-clause-only : goal.closed_by_one-requires-clause-only
closed_by_one-requires-clause-only c = is_one c.as_slice.result.now c.args.moved.now.children.items _ c.as_slice.ensures.value c.in-len1.len_at_least c.in-len1.len_below c.only-item.is

pub closed_by_two-requires-clause-both : goal.closed_by_two-requires-clause-both
closed_by_two-requires-clause-both c = is_two c.as_slice.result.now c.args.moved.now.children.items _ _ c.as_slice.ensures.value c.in-len2.len_at_least c.in-len2.len_below c.first-item.is c.second-item.is
