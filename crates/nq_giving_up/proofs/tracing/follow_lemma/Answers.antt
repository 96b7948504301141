use Rattle.std.proofs.Common.{◌∙◌, List, Option, sym, subst}
use Rattle.std.specs.Prelude.{All, IfSome, Vec}
use Rattle.std.specs.declared.alloc.Global.{Global}
use Rattle.nq_bank.specs.declared.node.TermId.{TermId}
use Rattle.nq_bank.specs.Content.{Content, Grows, Stands, term_at, terms_at}
use Rattle.nq_bank.specs.Marks.{CanRelease}
use Rattle.nq_bank.proofs.Growth.{Grows-trans}
use Rattle.nq_history.specs.Events.{events_at}
use Rattle.nq_history.specs.Hints.{HintsStand}
use Rattle.nq_event.specs.EventsAt.{hints_at}
use Rattle.nq_comment.specs.declared.step.ShownStep.{ShownStep}
use Rattle.nq_comment.specs.ReportViews.{steps_of}
use Rattle.nq_answers.specs.Shown.{ShowsTrace}
use Rattle.nq_goals.specs.Hints.{first_goal}
use Rattle.nq_waterfall.specs.Ready.{IsGoalIn}
use Rattle.nq_giving_up.proofs.Begun.{can_move, first_made, goal_in, history_stands, with_first}
use Rattle.nq_giving_up.proofs.TracingLemmas.{trace_told}
use Rattle.nq_giving_up.proofs.tracing.follow_lemma.Goals as goal

pub follow_over-requires-clause-ready : goal.follow_over-requires-clause-ready
follow_over-requires-clause-ready c =
    can_move c.args.bank c.first_goal.new.bank c.args.history.now c.args.hints.now c.new-work.result c.new-work.ensures.bank (c.new-work.ensures.log ∙ c.new-2.ensures) c.new-work.ensures.known c.requires.history c.in-Ok.ensures.grows c.in-Ok.ensures.names
    c.holding.ensures c.held_work.ensures.none c.requires.ready c.requires.hints c.requires.hint_terms

pub follow_over-requires-clause-goal : goal.follow_over-requires-clause-goal
follow_over-requires-clause-goal c =
    let middle =
    with_first c.args.bank c.first_goal.new.bank c.args.history.now c.args.hints.now c.new-work.result c.new-work.ensures.bank (c.new-work.ensures.log ∙ c.new-2.ensures) c.new-work.ensures.known c.requires.history c.in-Ok.ensures.grows c.in-Ok.ensures.names in
    subst (IsGoalIn c.args.history.now middle) (sym c.as_slice.ensures.value)
    (goal_in c.args.bank c.first_goal.new.bank c.args.history.now c.args.hints.now c.new-work.result c.new-work.ensures.bank (c.new-work.ensures.log ∙ c.new-2.ensures) c.new-work.ensures.known c.requires.history c.in-Ok.ensures.grows c.in-Ok.ensures.names
    c.args.goal c.in-Ok.first.items c.requires.ready c.requires.hint_terms c.requires.over c.in-Ok.ensures.stand c.in-Ok.ensures.are)

pub given_back-requires : goal.given_back-requires
given_back-requires c =
    let given = c.in_ok-followed.ensures in
    let grew = Grows-trans c.new-work.result.bank c.first_goal.new.bank given.later.bank c.in-Ok.ensures.grows given.grows.bank in
    subst (λ (b : Content). CanRelease b c.mark-mark.result) (sym given.bank_is)
    (c.mark-mark.ensures.can given.later.bank (subst (λ (b : Content). Grows b given.later.bank) c.new-work.ensures.bank grew))

pub returns-clause-told : goal.returns-clause-told
returns-clause-told c =
    let history = c.args.history.now in
    let hints = c.args.hints.now in
    let begun = c.new-work.result in
    let given = c.in_ok-followed.ensures in
    let empty = c.new-work.ensures.log ∙ c.new-2.ensures in
    let middle = with_first c.args.bank c.first_goal.new.bank history hints begun c.new-work.ensures.bank empty c.new-work.ensures.known c.requires.history c.in-Ok.ensures.grows c.in-Ok.ensures.names in
    let made = first_made c.args.bank c.first_goal.new.bank history hints begun c.new-work.ensures.bank empty c.new-work.ensures.known c.requires.history c.in-Ok.ensures.grows c.in-Ok.ensures.names in
    let stands = history_stands c.args.bank c.first_goal.new.bank history hints begun c.new-work.ensures.bank empty c.new-work.ensures.known c.requires.history c.in-Ok.ensures.grows c.in-Ok.ensures.names in
    let hints_stand = subst (λ (b : Content). HintsStand b hints) (sym c.new-work.ensures.bank) c.requires.hints in
    let tells = subst (λ (ids : List TermId). IfSome c.in_ok-followed.followed.steps (λ steps. ShowsTrace (events_at given.later.bank history) (hints_at given.later.bank hints) (terms_at given.later.bank ids) (steps_of steps.items))) c.as_slice.ensures.value given.told in
    let told = trace_told history hints c.args.goal begun middle given.later stands hints_stand made given.grows c.in-Ok.first.items c.in_ok-followed.followed.steps c.in-Ok.ensures.stand c.in-Ok.ensures.are tells in
    subst (λ (o : Option (Vec ShownStep Global)). IfSome o (λ steps. ShowsTrace (events_at c.args.bank history) (hints_at c.args.bank hints) (first_goal (events_at c.args.bank history) (hints_at c.args.bank hints) (term_at c.args.bank c.args.goal)) (steps_of steps.items))) (sym c.given_back.ensures.steps)
    (subst (λ (b : Content). IfSome c.in_ok-followed.followed.steps (λ steps. ShowsTrace (events_at b history) (hints_at b hints) (first_goal (events_at b history) (hints_at b hints) (term_at b c.args.goal)) (steps_of steps.items))) c.new-work.ensures.bank told)
