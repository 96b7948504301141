use Rattle.nq_bank.specs.Content.{terms_at}
use Rattle.nq_history.specs.Events.{events_at}
use Rattle.nq_event.specs.EventsAt.{hints_at}
use Rattle.std.specs.Prelude.{Vec}
use Rattle.std.specs.declared.alloc.Global.{Global}
use Rattle.nq_bank.specs.declared.node.TermId.{TermId}
use Rattle.nq_kernel.proofs.GrowingLemmas.{WorkGrows-refl}
use Rattle.nq_moves.proofs.NumberingLemmas.{some_is}
use Rattle.nq_generalize.specs.Found.{AreChosen}
use Rattle.nq_generalize.proofs.MoveLemmas.{chosen_some}
use Rattle.nq_generalize.proofs.moving.generalize_move.Goals as goal

pub returns-in_err-terms-clause-grows : goal.returns-in_err-terms-clause-grows
returns-in_err-terms-clause-grows c = WorkGrows-refl c.args.history.now c.args.work.now c.requires.stands

pub returns-in-None-clause-grows : goal.returns-in-None-clause-grows
returns-in-None-clause-grows c = WorkGrows-refl c.args.history.now c.args.work.now c.requires.stands

pub returns-in_err-moved-in-Some-clause-candidate : goal.returns-in_err-moved-in-Some-clause-candidate
returns-in_err-moved-in-Some-clause-candidate c =
    let bank = c.args.work.now.bank in
    let h = events_at bank c.args.history.now in
    let hints = hints_at bank c.args.hints.now in
    λ e none. chosen_some bank h hints c.args.goal.now c.in-Some.terms.items (some_is _ (λ (v : Vec TermId Global). AreChosen bank h hints c.args.goal.now v.items) c.in_ok-terms.field-0 c.in-Some.terms c.in_ok-terms.ensures.chosen c.in-Some.is) none
