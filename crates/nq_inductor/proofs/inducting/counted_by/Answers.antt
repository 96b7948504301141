use Rattle.nq_steps.proofs.NameLemmas.{no_names}
use Rattle.nq_kernel.proofs.GrowingLemmas.{bank_grows, uncounted}
use Rattle.nq_inductor.proofs.CountedLemmas.{call_later, counted_grows, literals_stand}
use Rattle.nq_inductor.proofs.inducting.counted_by.Goals as goal

pub found_by-requires-clause-history : goal.found_by-requires-clause-history
found_by-requires-clause-history c = c.requires.stands.history

pub found_by-requires-clause-goal : goal.found_by-requires-clause-goal
found_by-requires-clause-goal c = literals_stand c.args.history.now c.args.work.now c.args.goal.now c.requires.goal

pub found_by-requires-clause-call : goal.found_by-requires-clause-call
found_by-requires-clause-call c = c.requires.call.stands

pub found_by-requires-clause-over : goal.found_by-requires-clause-over
found_by-requires-clause-over c = c.requires.call.over

pub returns-in_ok-count_made-in-Ok-clause-leads : goal.returns-in_ok-count_made-in-Ok-clause-leads
returns-in_ok-count_made-in-Ok-clause-leads c =
    call_later c.args.history.now c.args.work.now c.found_by.new.bank c.count_made.new.work c.requires.stands c.found_by.ensures.grows c.count_made.ensures.same c.args.goal.now c.requires.goal c.args.call c.in-Ok.found c.requires.call c.in-Ok.ensures.leads

pub returns-in_ok-count_made-in-Ok-clause-grows : goal.returns-in_ok-count_made-in-Ok-clause-grows
returns-in_ok-count_made-in-Ok-clause-grows c = counted_grows c.args.history.now c.args.work.now c.found_by.new.bank c.count_made.new.work c.requires.stands c.found_by.ensures.grows c.count_made.ensures.same c.found_by.ensures.names c.count_made.ensures.rises

pub returns-in_err-count_made-in-Ok-clause-grows : goal.returns-in_err-count_made-in-Ok-clause-grows
returns-in_err-count_made-in-Ok-clause-grows c = counted_grows c.args.history.now c.args.work.now c.found_by.new.bank c.count_made.new.work c.requires.stands c.found_by.ensures.grows c.count_made.ensures.same c.found_by.ensures.names c.count_made.ensures.rises

pub returns-in-Err-clause-grows : goal.returns-in-Err-clause-grows
returns-in-Err-clause-grows c =
    bank_grows c.args.history.now c.args.work.now c.found_by.new.bank c.args.work.now.counter c.requires.stands c.found_by.ensures.grows (no_names c.args.work.now.bank c.found_by.new.bank c.found_by.ensures.names) (uncounted c.args.work.now.counter)
