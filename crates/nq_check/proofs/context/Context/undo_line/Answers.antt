use Rattle.std.proofs.Common.{[], ◌∷◌, ◌++◌, ap, sym, ◌∙◌, subst}
use Rattle.nq_logtext.specs.Fields.{name}
use Rattle.nq_logic.specs.Terms.{Name}
use Rattle.nq_log.specs.States.{State, Undoes}
use Rattle.nq_log.specs.Logs.{claimed}
use Rattle.nq_log.specs.ClosingLines.{undo_claim}
use Rattle.nq_check.specs.Contexts.{state_of}
use Rattle.nq_check.specs.Judging.{Leads}
use Rattle.nq_check.specs.Texts.{claim_text}
use Rattle.nq_check.proofs.ContextLemmas.{whole_grown, state_grown}
use Rattle.nq_check.proofs.context.Context.undo_line.Goals as goal

pub undo_event-requires-clause-whole : goal.undo_event-requires-clause-whole
undo_event-requires-clause-whole c = whole_grown c.args.self.now c.name.new.self c.in_ok-s.ensures.ok.grows c.requires

pub undo_event-requires-clause-text : goal.undo_event-requires-clause-text
undo_event-requires-clause-text c = c.in_ok-text.ensures ∙ ap (λ (n : Name). claim_text (Undoes n) ++ (10 ∷ [])) (sym c.in_ok-s.ensures.ok.reads)

pub returns : goal.returns
returns c =
    let old = c.args.self.now in
    let mid = record old { bank = c.name.new.self } in
    subst (λ (s : State). Leads s (claimed (undo_claim s (name c.args.event.now ∷ []))) c.undo_event.result c.undo_event.new.self)
    (sym (state_grown old c.name.new.self c.in_ok-s.ensures.ok.grows c.requires))
    (subst (λ (n : Name). Leads (state_of mid) (claimed (undo_claim (state_of mid) (name n ∷ []))) c.undo_event.result c.undo_event.new.self) c.in_ok-s.ensures.ok.reads c.undo_event.ensures)
