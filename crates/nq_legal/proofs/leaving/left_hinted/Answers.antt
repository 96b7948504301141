use Rattle.nq_legal.proofs.LeavingLemmas.{hint_forbidden, to_hint}
use Rattle.nq_legal.proofs.leaving.left_hinted.Goals as goal

pub returns-then-hints : goal.returns-then-hints
returns-then-hints c =
    hint_forbidden c.args.bank.now c.args.history.now c.args.hints.now c.args.path.now c.args.goal.now c.args.call c.requires.hinted (c.in_ok-suggested.ensures c.if-not-suggested.false) c.requires.stuck c.if-hints.true

pub returns : goal.returns
returns c =
    to_hint c.args.bank.now c.args.history.now c.args.hints.now c.args.path.now c.args.goal.now c.args.call c.requires.hinted (c.in_ok-suggested.ensures c.if-not-suggested.false) c.requires.stuck c.requires.hint c.if-hints.false
