use Rattle.std.proofs.Common.{[], ◌∷◌, sym, subst}
use Rattle.std.specs.Prelude.{IfOk}
use Rattle.nq_logtext.specs.Fields.{name, number}
use Rattle.nq_logic.specs.Terms.{Name}
use Rattle.nq_log.specs.States.{State}
use Rattle.nq_log.specs.Logs.{claimed}
use Rattle.nq_log.specs.ClosingLines.{toggle_claim}
use Rattle.nq_check.specs.Contexts.{state_of}
use Rattle.nq_check.specs.Judging.{Leads}
use Rattle.nq_check.proofs.ContextLemmas.{whole_grown, state_grown}
use Rattle.nq_check.proofs.context.Context.toggle_line.Goals as goal

pub toggle_event-requires-clause-whole : goal.toggle_event-requires-clause-whole
toggle_event-requires-clause-whole c = whole_grown c.args.self.now c.name.new.self c.in_ok-s.ensures.ok.grows c.requires

pub returns : goal.returns
returns c =
    let old = c.args.self.now in
    let mid = record old { bank = c.name.new.self } in
    subst (λ (s : State). IfOk c.toggle_event.result (λ judged. Leads s (claimed (toggle_claim s (name c.args.toggle.now ∷ name c.args.old.now ∷ number c.args.disables ∷ []))) judged c.toggle_event.new.self))
    (sym (state_grown old c.name.new.self c.in_ok-s.ensures.ok.grows c.requires))
    (subst (λ (n : Name). IfOk c.toggle_event.result (λ judged. Leads (state_of mid) (claimed (toggle_claim (state_of mid) (name c.args.toggle.now ∷ name n ∷ number c.args.disables ∷ []))) judged c.toggle_event.new.self))
    c.in_ok-s.ensures.ok.reads c.toggle_event.ensures)
