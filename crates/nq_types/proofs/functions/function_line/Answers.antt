use Rattle.nq_bank.proofs.Growth.{IsNamed-grown}
use Rattle.nq_kernel.proofs.GrowingLemmas.{WorkGrows-trans}
use Rattle.nq_lines.proofs.TermLemmas.{term_grown}
use Rattle.nq_types.proofs.TypeLemmas.{ready_grown}
use Rattle.nq_types.proofs.functions.function_line.Goals as goal

pub truth_value_if-requires-clause-term : goal.truth_value_if-requires-clause-term
truth_value_if-requires-clause-term c = term_grown c.args.history.now c.args.work.now c.test_line.new.work c.args.t c.requires.stands c.test_line.ensures.grows c.requires.term

pub returns-in_err-found-clause-grows : goal.returns-in_err-found-clause-grows
returns-in_err-found-clause-grows c = (WorkGrows-trans c.args.history.now c.args.work.now c.test_line.new.work c.truth_value_if.new.work c.test_line.ensures.grows c.truth_value_if.ensures.grows)

pub returns-in-Some-clause-grows : goal.returns-in-Some-clause-grows
returns-in-Some-clause-grows c = (WorkGrows-trans c.args.history.now c.args.work.now c.test_line.new.work c.truth_value_if.new.work c.test_line.ensures.grows c.truth_value_if.ensures.grows)

pub given_line-requires-clause-ready : goal.given_line-requires-clause-ready
given_line-requires-clause-ready c = ready_grown c.args.history.now c.args.work.now c.truth_value_if.new.work c.requires.stands (WorkGrows-trans c.args.history.now c.args.work.now c.test_line.new.work c.truth_value_if.new.work c.test_line.ensures.grows c.truth_value_if.ensures.grows) c.requires.ready

pub given_line-requires-clause-function : goal.given_line-requires-clause-function
given_line-requires-clause-function c = IsNamed-grown c.args.work.now.bank c.truth_value_if.new.work.bank c.args.f (WorkGrows-trans c.args.history.now c.args.work.now c.test_line.new.work c.truth_value_if.new.work c.test_line.ensures.grows c.truth_value_if.ensures.grows).bank c.requires.function

pub given_line-requires-clause-term : goal.given_line-requires-clause-term
given_line-requires-clause-term c = term_grown c.args.history.now c.args.work.now c.truth_value_if.new.work c.args.t c.requires.stands (WorkGrows-trans c.args.history.now c.args.work.now c.test_line.new.work c.truth_value_if.new.work c.test_line.ensures.grows c.truth_value_if.ensures.grows) c.requires.term

pub returns-in-None-clause-grows : goal.returns-in-None-clause-grows
returns-in-None-clause-grows c = (WorkGrows-trans c.args.history.now c.args.work.now c.test_line.new.work c.given_line.new.work c.test_line.ensures.grows (WorkGrows-trans c.args.history.now c.test_line.new.work c.truth_value_if.new.work c.given_line.new.work c.truth_value_if.ensures.grows c.given_line.ensures.grows))
