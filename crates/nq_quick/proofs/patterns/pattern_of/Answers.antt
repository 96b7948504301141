use Rattle.nq_bank.proofs.Growth.{Grows-trans}
use Rattle.nq_bank.proofs.Standing.{id_grown}
use Rattle.nq_quick.proofs.LineLemmas.{grown_trans}
use Rattle.nq_quick.proofs.patterns.pattern_of.Goals as goal

pub connect-requires-clause-left : goal.connect-requires-clause-left
connect-requires-clause-left c = id_grown c.variable.new.work.bank c.variable-2.new.work.bank c.in_ok-left.left _ c.variable-2.ensures.grows.grows.bank c.in_ok-left.ensures.term

pub returns-clause-pattern : goal.returns-clause-pattern
returns-clause-pattern c =
    let second = c.variable-2.ensures.grows.grows.bank in
    let third = c.connect.ensures.grows.grows.bank in
    record {
      left = id_grown c.variable.new.work.bank c.connect.new.work.bank c.in_ok-left.left _ (Grows-trans c.variable.new.work.bank c.variable-2.new.work.bank c.connect.new.work.bank second third) c.in_ok-left.ensures.term;
      right = id_grown c.variable-2.new.work.bank c.connect.new.work.bank c.in_ok-right.right _ third c.in_ok-right.ensures.term;
      whole = c.in_ok-whole.ensures.whole;
    }

pub returns-clause-grows : goal.returns-clause-grows
returns-clause-grows c =
    grown_trans c.args.history.now c.args.work.now c.variable.new.work c.connect.new.work c.variable.ensures.grows (grown_trans c.args.history.now c.variable.new.work c.variable-2.new.work c.connect.new.work c.variable-2.ensures.grows c.connect.ensures.grows)

pub returns-in_err-right-clause-grows : goal.returns-in_err-right-clause-grows
returns-in_err-right-clause-grows c = grown_trans c.args.history.now c.args.work.now c.variable.new.work c.variable-2.new.work c.variable.ensures.grows c.variable-2.ensures.grows

pub returns-in_err-whole-clause-grows : goal.returns-in_err-whole-clause-grows
returns-in_err-whole-clause-grows c =
    grown_trans c.args.history.now c.args.work.now c.variable.new.work c.connect.new.work c.variable.ensures.grows (grown_trans c.args.history.now c.variable.new.work c.variable-2.new.work c.connect.new.work c.variable-2.ensures.grows c.connect.ensures.grows)
