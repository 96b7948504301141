use Rattle.nq_bank.specs.Content.{terms_at}
use Rattle.nq_kernel.proofs.GrowingLemmas.{WorkGrows-trans}
use Rattle.nq_lines.proofs.TermLemmas.{term_grown}
use Rattle.nq_reduce.proofs.ShellLemmas.{doubled_to, doubled_parts}
use Rattle.nq_reduce.proofs.divided.doubled.Goals as goal

pub returns-in_err-same-clause-grows : goal.returns-in_err-same-clause-grows
returns-in_err-same-clause-grows c = WorkGrows-trans c.args.history.now c.args.work.now c.condition.new.work c.if_same.new.work c.condition.ensures.grows c.if_same.ensures.grows

pub symmetric-requires-clause-left : goal.symmetric-requires-clause-left
symmetric-requires-clause-left c = term_grown c.args.history.now c.condition.new.work c.if_same.new.work c.in_ok-whole.whole c.condition.ensures.grows.stands c.if_same.ensures.grows c.in_ok-whole.ensures.over

pub symmetric-requires-clause-right : goal.symmetric-requires-clause-right
symmetric-requires-clause-right c = term_grown c.args.history.now c.args.work.now c.if_same.new.work c.args.t c.requires.can.stands (WorkGrows-trans c.args.history.now c.args.work.now c.condition.new.work c.if_same.new.work c.condition.ensures.grows c.if_same.ensures.grows) c.requires.can.term

pub returns-in_err-line-clause-grows : goal.returns-in_err-line-clause-grows
returns-in_err-line-clause-grows c = WorkGrows-trans c.args.history.now c.args.work.now c.if_same.new.work c.symmetric.new.work (WorkGrows-trans c.args.history.now c.args.work.now c.condition.new.work c.if_same.new.work c.condition.ensures.grows c.if_same.ensures.grows) c.symmetric.ensures.grows

pub returns-clause-ok : goal.returns-clause-ok
returns-clause-ok c = doubled_to c.args.history.now c.args.work.now c.condition.new.work c.if_same.new.work c.symmetric.new.work (terms_at c.args.work.now.bank c.args.assumed.now) c.args.t c.args.p c.in_ok-whole.whole c.in_ok-same.same c.in_ok-line.line c.condition.ensures.grows c.if_same.ensures.grows c.symmetric.ensures.grows c.requires.can.term c.requires.test c.in_ok-whole.ensures.over c.in_ok-whole.ensures.condition c.in_ok-same.ensures.line c.in_ok-line.ensures.line

pub returns-clause-grows : goal.returns-clause-grows
returns-clause-grows c = WorkGrows-trans c.args.history.now c.args.work.now c.if_same.new.work c.symmetric.new.work (WorkGrows-trans c.args.history.now c.args.work.now c.condition.new.work c.if_same.new.work c.condition.ensures.grows c.if_same.ensures.grows) c.symmetric.ensures.grows

pub returns-clause-parts : goal.returns-clause-parts
returns-clause-parts c = doubled_parts c.args.history.now c.args.work.now c.condition.new.work c.symmetric.new.work c.in_ok-whole.whole c.args.p c.args.t c.requires.can.stands c.condition.ensures.grows (WorkGrows-trans c.args.history.now c.condition.new.work c.if_same.new.work c.symmetric.new.work c.if_same.ensures.grows c.symmetric.ensures.grows) c.requires.test c.requires.can.term c.in_ok-whole.ensures.over c.in_ok-whole.ensures.condition
