use Rattle.std.proofs.Common.{sym, subst}
use Rattle.nq_bank.proofs.Standing.{stand_grown}
use Rattle.nq_logic.specs.Histories.{History}
use Rattle.nq_events.specs.Events as model
use Rattle.nq_goals.specs.Paths.{Above}
use Rattle.nq_proof.specs.Clauses.{Clause}
use Rattle.nq_waterfall.proofs.SameLemmas.{goal_stands, hints_grown, scene_grown}
use Rattle.nq_legal.specs.Forms.{IsForm}
use Rattle.nq_legal.proofs.FormLemmas.{FalseIs, FalseTold, form_told, literals_in}
use Rattle.nq_legal.proofs.form.form_of.Goals as goal

pub is_false-requires-clause-literals : goal.is_false-requires-clause-literals
is_false-requires-clause-literals c = literals_in c.args.history.now c.args.work.now c.args.goal.now c.requires.goal

pub is_normal-requires-clause-history : goal.is_normal-requires-clause-history
is_normal-requires-clause-history c = c.is_false.ensures.grows.grows.stands.history

pub is_normal-requires-clause-hints : goal.is_normal-requires-clause-hints
is_normal-requires-clause-hints c = hints_grown c.args.work.now.bank c.is_false.new.work.bank c.is_false.ensures.grows.grows.bank c.args.hints.now c.requires.ready.hints_stand

pub is_normal-requires-clause-goal : goal.is_normal-requires-clause-goal
is_normal-requires-clause-goal c = stand_grown c.args.work.now.bank c.is_false.new.work.bank c.args.goal.now c.is_false.ensures.grows.grows.bank (goal_stands c.args.history.now c.args.work.now c.args.goal.now c.requires.goal)

pub returns-clause-form : goal.returns-clause-form
returns-clause-form c =
    let h = c.args.history.now in
    let hints = c.args.hints.now in
    let old = c.args.work.now in
    let new = c.is_false.new.work in
    let ids = c.args.goal.now in
    let told : FalseTold c.in_ok-falsity.falsity new.bank h ids = scene_grown h hints old new c.args.path.now ids (λ (es : History) (hs : model.Hints) (a : Above) (g : Clause). FalseIs c.in_ok-falsity.falsity es g) c.requires.ready c.is_false.ensures.grows.grows c.requires.path (goal_stands h old ids c.requires.goal) c.in_ok-falsity.ensures.answer in
    subst (IsForm new.bank h hints c.args.path.now ids) (sym c.told_form.ensures)
    (form_told new.bank h hints c.args.path.now ids c.in_ok-falsity.falsity c.in_ok-normal.normal c.is_first.result told c.in_ok-normal.ensures.tells c.is_first.ensures)

pub returns-clause-grows : goal.returns-clause-grows
returns-clause-grows c = c.is_false.ensures.grows.grows
