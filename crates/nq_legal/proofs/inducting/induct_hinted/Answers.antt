use Rattle.std.proofs.Common.{[], ◌∷◌, Option, subst}
use Rattle.std.specs.Prelude.{IfSome, Vec}
use Rattle.std.specs.declared.alloc.Global.{Global}
use Rattle.nq_bank.specs.declared.node.TermId.{TermId}
use Rattle.nq_bank.specs.Content.{term_at, terms_at}
use Rattle.nq_history.specs.Events.{events_at}
use Rattle.nq_event.specs.EventsAt.{hints_at}
use Rattle.nq_goals.specs.Inducting.{scheme_calls}
use Rattle.nq_lines.specs.Lines.{IsTermIn}
use Rattle.nq_waterfall.specs.Trails.{above_at, goals_at}
use Rattle.nq_legal.specs.Inducting.{IsInductionBy}
use Rattle.nq_legal.specs.Leaving.{IsToHint}
use Rattle.nq_legal.proofs.InductingLemmas.{by_calls, hint_grown, hint_in}
use Rattle.nq_legal.proofs.MovingLemmas.{normal_grown}
use Rattle.nq_legal.proofs.inducting.induct_hinted.Goals as goal

pub induct_by-requires-clause-call : goal.induct_by-requires-clause-call
induct_by-requires-clause-call g c = hint_in c.args.history.now c.args.hints.now c.args.work.now c.args.call c.requires.ready c.requires.starts.hint

pub lead_to-requires-clause-normal : goal.lead_to-requires-clause-normal
lead_to-requires-clause-normal g c = normal_grown c.args.history.now c.args.hints.now c.args.work.now c.induct_by.new.work c.requires.ready c.induct_by.ensures.grows c.args.goal.now c.requires.goal c.requires.normal

pub lead_to-requires-clause-starts : goal.lead_to-requires-clause-starts
lead_to-requires-clause-starts g c =
    let in_work : IsTermIn c.args.history.now c.args.work.now c.args.call = hint_in c.args.history.now c.args.hints.now c.args.work.now c.args.call c.requires.ready c.requires.starts.hint in
    let there : IsToHint c.induct_by.new.work.bank c.args.history.now c.args.hints.now c.args.path.now c.args.goal.now c.args.call =
    hint_grown c.args.history.now c.args.hints.now c.args.work.now c.induct_by.new.work c.args.path.now c.args.goal.now c.args.call c.requires.ready c.induct_by.ensures.grows c.requires.path c.requires.goal in_work.stands c.requires.starts in
    there.starts

pub lead_to-requires-clause-leads : goal.lead_to-requires-clause-leads
lead_to-requires-clause-leads g c =
    let bank = c.induct_by.new.work.bank in
    let h = events_at bank c.args.history.now in
    let here = terms_at bank c.args.goal.now in
    let in_work : IsTermIn c.args.history.now c.args.work.now c.args.call = hint_in c.args.history.now c.args.hints.now c.args.work.now c.args.call c.requires.ready c.requires.starts.hint in
    let there : IsToHint bank c.args.history.now c.args.hints.now c.args.path.now c.args.goal.now c.args.call =
    hint_grown c.args.history.now c.args.hints.now c.args.work.now c.induct_by.new.work c.args.path.now c.args.goal.now c.args.call c.requires.ready c.induct_by.ensures.grows c.requires.path c.requires.goal in_work.stands c.requires.starts in
    let told : IsInductionBy h (term_at bank c.args.call ∷ []) here (goals_at bank c.in-Some.nexts.items) =
    subst (λ (o : Option (Vec (Vec TermId Global) Global)). IfSome o (λ nexts. IsInductionBy h (term_at bank c.args.call ∷ []) here (goals_at bank nexts.items))) c.in-Some.is c.in_ok-found.ensures.leads in
    by_calls h (term_at bank c.args.call ∷ []) (scheme_calls h (hints_at bank c.args.hints.now) (above_at bank c.args.path.now) here) here (goals_at bank c.in-Some.nexts.items) there.calls told
