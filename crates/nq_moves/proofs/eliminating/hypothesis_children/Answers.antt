use Rattle.std.proofs.Common.{◌∙◌, map, sym, ap, subst}
use Rattle.std.specs.Prelude.{All, Vec}
use Rattle.std.specs.declared.alloc.Global.{Global}
use Rattle.std.proofs.lemmas.List.{take_all}
use Rattle.nq_bank.specs.declared.node.TermId.{TermId}
use Rattle.nq_bank.specs.Content.{terms_at}
use Rattle.nq_bank.proofs.Standing.{All-push}
use Rattle.nq_lines.specs.Lines.{IsTermIn}
use Rattle.nq_goals.specs.Eliminating.{hypothesis_goal}
use Rattle.nq_moves.specs.Found.{goals_at}
use Rattle.nq_moves.proofs.EliminatedLemmas.{children_more, no_children}
use Rattle.nq_moves.proofs.eliminating.hypothesis_children.Goals as goal

pub loop-hypothesis-init : goal.loop-hypothesis-init
loop-hypothesis-init c =
    let w = c.args.work.now in
    record {
      told = ap (goals_at w.bank) c.new-children.ensures.items;
      over = subst (All (λ (child : Vec TermId Global). All (IsTermIn c.args.history.now w) child.items)) (sym c.new-children.ensures.items) (no_children c.args.history.now w);
    }

pub loop-hypothesis-preserved : goal.loop-hypothesis-preserved
loop-hypothesis-preserved c =
    let none : TermId = record { 0 = 0 } in
    let h = c.args.history.now in
    let w = c.args.work.now in
    let child = c.in_ok-child.child in
    record {
      told =
          ap (goals_at w.bank) c.in_ok-push_goal.ensures.ok
          ∙ children_more w.bank (terms_at w.bank c.args.goal.now) c.loop-hypothesis.children.items child c.args.hypotheses.now c.loop-hypothesis.hypothesis-index none c.loop-hypothesis-test.true c.loop-hypothesis.invariant.told c.in_ok-child.ensures.child;
      over =
          subst (All (λ (g : Vec TermId Global). All (IsTermIn h w) g.items)) (sym c.in_ok-push_goal.ensures.ok)
          (All-push (λ (g : Vec TermId Global). All (IsTermIn h w) g.items) c.loop-hypothesis.children.items child c.loop-hypothesis.invariant.over c.in_ok-child.ensures.over);
    }

pub returns-clause-children : goal.returns-clause-children
returns-clause-children c =
    let w = c.args.work.now in
    c.loop-hypothesis.invariant.told ∙ ap (λ ids. map (hypothesis_goal (terms_at w.bank c.args.goal.now)) (terms_at w.bank ids)) (take_all c.loop-hypothesis.hypothesis-index c.args.hypotheses.now c.loop-hypothesis-test.false)
