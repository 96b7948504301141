use Rattle.std.proofs.Common.{◌≡◌, sym, ap, subst, ◌∙◌}
use Rattle.std.specs.Prelude.{All, Vec}
use Rattle.std.specs.declared.alloc.Global.{Global}
use Rattle.std.proofs.lemmas.List.Elements.{All-nil}
use Rattle.nq_bank.specs.declared.node.TermId.{TermId}
use Rattle.nq_bank.specs.Content.{Stands, terms_at}
use Rattle.nq_proof.specs.Clauses.{distinct}
use Rattle.nq_waterfall.specs.Ready.{IsGoalIn}
use Rattle.nq_waterfall.specs.Trails.{goals_at}
use Rattle.nq_waterfall.proofs.SolvingLemmas.{found_in, get_at}
use Rattle.nq_waterfall.proofs.SameLemmas.{goal_stands}
use Rattle.nq_legal.proofs.ThinningLemmas.{inside_more, thin_inside, thin_pushed, thin_whole}
use Rattle.nq_legal.proofs.thinning.without_copies.Goals as goal

pub loop-goal-init : goal.loop-goal-init
loop-goal-init c =
    let P : Vec TermId Global → Type 0 = λ (g : Vec TermId Global). IsGoalIn c.args.history.now c.args.work.now g.items in
    record {
      goals = ap (goals_at c.args.work.now.bank) c.new-thin.ensures.items;
      inside = subst (All P) (sym c.new-thin.ensures.items) (All-nil P);
    }

pub distinct_clause-requires : goal.distinct_clause-requires
distinct_clause-requires c =
    let here = get_at c.args.goals.now c.loop-goal.goal-index c.goal-item.result c.loop-goal-test.true c.goal-item.is in
    subst (All (Stands c.args.work.now.bank)) (sym c.as_slice.ensures.value)
    (goal_stands c.args.history.now c.args.work.now c.goal-item.result.items (found_in (λ goal. IsGoalIn c.args.history.now c.args.work.now goal.items) c.args.goals.now c.loop-goal.goal-index c.goal-item.result c.requires here))

pub loop-goal-preserved : goal.loop-goal-preserved
loop-goal-preserved c =
    let history = c.args.history.now in
    let work = c.args.work.now in
    let here = get_at c.args.goals.now c.loop-goal.goal-index c.goal-item.result c.loop-goal-test.true c.goal-item.is in
    let inside : IsGoalIn history work c.goal-item.result.items = found_in (λ goal. IsGoalIn history work goal.items) c.args.goals.now c.loop-goal.goal-index c.goal-item.result c.requires here in
    let same : terms_at work.bank c.in_ok-literals.literals.items ≡ distinct (terms_at work.bank c.goal-item.result.items) = c.in_ok-literals.ensures.clause ∙ ap (λ ids. distinct (terms_at work.bank ids)) c.as_slice.ensures.value in
    record {
      goals = thin_pushed work c.args.goals.now c.loop-goal.thin.items c.add_goal.new.goals.items c.loop-goal.goal-index c.goal-item.result c.in_ok-literals.literals here same c.in_ok-add_goal.ensures.more c.loop-goal.invariant.goals;
      inside = inside_more history work c.loop-goal.thin.items c.add_goal.new.goals.items c.in_ok-literals.literals c.in_ok-add_goal.ensures.more c.loop-goal.invariant.inside (thin_inside history work c.goal-item.result.items c.in_ok-literals.literals.items inside c.in_ok-literals.ensures.stand same);
    }

pub returns-clause-goals : goal.returns-clause-goals
returns-clause-goals c = thin_whole c.args.work.now c.args.goals.now c.loop-goal.thin.items c.loop-goal.goal-index c.loop-goal-test.false c.loop-goal.invariant.goals

pub returns-clause-inside : goal.returns-clause-inside
returns-clause-inside c = c.loop-goal.invariant.inside
