use Rattle.nq_kernel.proofs.GrowingLemmas.{WorkGrows-refl}
use Rattle.nq_log_tests.proofs.ClosedLemmas.{first_of, first_only}
use Rattle.nq_log_tests.proofs.closed.first_line.Goals as goal

pub quick-requires-clause-goal : goal.quick-requires-clause-goal
quick-requires-clause-goal c = (first_of c.as_slice.result.now c.args.goal.now.items c.as_slice.ensures.value _ c.in-len1-up.len_at_least c.args.history.now c.args.work.now c.requires.goal).stands

pub quick-requires-clause-over : goal.quick-requires-clause-over
quick-requires-clause-over c = (first_of c.as_slice.result.now c.args.goal.now.items c.as_slice.ensures.value _ c.in-len1-up.len_at_least c.args.history.now c.args.work.now c.requires.goal).over

pub returns-in-Ok-Some-clause-line : goal.returns-in-Ok-Some-clause-line
returns-in-Ok-Some-clause-line c =
    let proof = rw c.in-Ok-Some.field-0-is at c.in-Ok-Some.ensures.answer in
    first_only c.as_slice.result.now c.args.goal.now.items c.as_slice.ensures.value _ c.in-len1-up.len_at_least c.quick.new.work _ c.args.work.now.bank proof.holds

pub returns-in-empty-clause-grows : goal.returns-in-empty-clause-grows
returns-in-empty-clause-grows c = WorkGrows-refl c.args.history.now c.args.work.now c.requires.stands
