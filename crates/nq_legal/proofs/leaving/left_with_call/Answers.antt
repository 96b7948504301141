use Rattle.nq_bank.specs.Content.{terms_at}
use Rattle.nq_goals.specs.Moves.{IsSubsumed}
use Rattle.nq_waterfall.specs.Trails.{above_at}
use Rattle.nq_legal.proofs.LeavingLemmas.{left_in_loop, left_forbidden, left_deep, to_induct, not_told}
use Rattle.nq_legal.proofs.leaving.left_with_call.Goals as goal

pub returns-then-branch : goal.returns-then-branch
returns-then-branch c =
    left_in_loop c.args.bank.now c.args.history.now c.args.hints.now c.args.path.now c.args.goal.now c.requires.free c.requires.stuck c.requires.suggested (c.in_ok-is_subsumed.ensures.0 c.if-branch.true)

pub returns-then-hints : goal.returns-then-hints
returns-then-hints c =
    let bank = c.args.bank.now in
    let new = not_told c.in_ok-is_subsumed.field-0 (IsSubsumed (above_at bank c.args.path.now) (terms_at bank c.args.goal.now)) c.if-branch.false c.in_ok-is_subsumed.ensures in
    left_forbidden bank c.args.history.now c.args.hints.now c.args.path.now c.args.goal.now c.requires.free c.requires.stuck c.requires.suggested new c.if-hints.true

pub returns-then-is_deep : goal.returns-then-is_deep
returns-then-is_deep c =
    let bank = c.args.bank.now in
    let new = not_told c.in_ok-is_subsumed.field-0 (IsSubsumed (above_at bank c.args.path.now) (terms_at bank c.args.goal.now)) c.if-branch.false c.in_ok-is_subsumed.ensures in
    left_deep bank c.args.history.now c.args.hints.now c.args.path.now c.args.goal.now c.requires.free c.requires.stuck c.requires.suggested new c.if-hints.false (c.is_deep.ensures.deep bank c.if-is_deep.true)

pub returns : goal.returns
returns c =
    let bank = c.args.bank.now in
    let new = not_told c.in_ok-is_subsumed.field-0 (IsSubsumed (above_at bank c.args.path.now) (terms_at bank c.args.goal.now)) c.if-branch.false c.in_ok-is_subsumed.ensures in
    to_induct bank c.args.history.now c.args.hints.now c.args.path.now c.args.goal.now c.requires.free c.requires.stuck c.requires.suggested new c.if-hints.false (c.is_deep.ensures.shallow bank c.if-is_deep.false)
