use Rattle.std.proofs.Common.{◌∙◌, map, sym, ap, subst}
use Rattle.std.specs.Prelude.{All, Vec}
use Rattle.std.specs.declared.alloc.Global.{Global}
use Rattle.nq_bank.specs.declared.node.TermId.{TermId}
use Rattle.nq_bank.specs.Content.{terms_at}
use Rattle.nq_bank.proofs.Standing.{All-push}
use Rattle.nq_lines.specs.Lines.{IsTermIn}
use Rattle.nq_goals.specs.Eliminating.{hypothesis_goal}
use Rattle.nq_moves.specs.Eliminated.{made_goal}
use Rattle.nq_moves.specs.Found.{goals_at}
use Rattle.nq_moves.proofs.EliminatedLemmas.{children_last, elimination_grown, hypothesis_goals_same}
use Rattle.nq_moves.proofs.SwappedLemmas.{goal_in_grown}
use Rattle.nq_moves.proofs.eliminating.children_of.Goals as goal

pub hypothesis_children-requires-clause-goal : goal.hypothesis_children-requires-clause-goal
hypothesis_children-requires-clause-goal c = goal_in_grown c.args.history.now c.args.work.now c.child_of.new.work c.requires.stands c.child_of.ensures.grows c.args.goal.now c.requires.goal

pub hypothesis_children-requires-clause-hypotheses : goal.hypothesis_children-requires-clause-hypotheses
hypothesis_children-requires-clause-hypotheses c =
    let h = c.args.history.now in
    let new = c.child_of.new.work in
    subst (All (IsTermIn h new)) (sym c.as_slice.ensures.value) (elimination_grown h c.args.work.now new c.requires.stands c.child_of.ensures.grows c.args.goal.now c.requires.goal c.args.e.now c.requires.serves).hypotheses

pub returns-clause-children : goal.returns-clause-children
returns-clause-children c =
    let h = c.args.history.now in
    let old = c.args.work.now in
    let new = c.child_of.new.work in
    let e = c.args.e.now in
    let g = c.args.goal.now in
    let before = c.in_ok-children.ensures.children ∙ ap (λ ids. map (hypothesis_goal (terms_at new.bank g)) (terms_at new.bank ids)) c.as_slice.ensures.value ∙ hypothesis_goals_same h old new c.requires.stands c.child_of.ensures.grows g c.requires.goal e c.requires.serves in
    ap (goals_at new.bank) c.in_ok-push_goal.ensures.ok
    ∙ children_last new.bank c.in_ok-children.children.items c.in_ok-last.last (map (hypothesis_goal (terms_at old.bank g)) (terms_at old.bank e.hypotheses.items)) (made_goal old.bank e) before c.in_ok-last.ensures.child

pub returns-clause-over : goal.returns-clause-over
returns-clause-over c =
    let P : Vec TermId Global → Type 0 = λ v. All (IsTermIn c.args.history.now c.child_of.new.work) v.items in
    subst (All P) (sym c.in_ok-push_goal.ensures.ok) (All-push P c.in_ok-children.children.items c.in_ok-last.last c.in_ok-children.ensures.over c.in_ok-last.ensures.over)
