use Rattle.std.proofs.Common.{◌++◌, ◌∷◌, [], sym, ap, ◌∙◌, subst}
use Rattle.std.specs.Prelude.{IfOk}
use Rattle.nq_logic.specs.Terms.{Name}
use Rattle.nq_logic.specs.Histories.{Event}
use Rattle.nq_history.specs.Events.{event_of}
use Rattle.nq_log.specs.States.{State, Adds, only_when}
use Rattle.nq_log.specs.Logs.{claimed}
use Rattle.nq_check.specs.Claims.{event_named, has_place}
use Rattle.nq_check.specs.Contexts.{state_of}
use Rattle.nq_check.specs.Judging.{Leads}
use Rattle.nq_check.specs.Texts.{claim_text}
use Rattle.nq_check.proofs.ContextLemmas.{whole_grown, state_grown}
use Rattle.nq_check.proofs.ClaimLemmas.{event_is, entry_stands, marked_now}
use Rattle.nq_check.proofs.context.Context.add_event.Goals as goal

pub add_entry-requires-clause-whole : goal.add_entry-requires-clause-whole
add_entry-requires-clause-whole c = whole_grown c.args.self.now c.name.new.self c.in_ok-s.ensures.ok.grows c.requires.whole

pub add_entry-requires-clause-entry : goal.add_entry-requires-clause-entry
add_entry-requires-clause-entry c = entry_stands c.args.self.now.bank c.name.new.self c.in_ok-s.ensures.ok.grows _ c.in_ok-s.ensures.ok.named (c.requires.kind c.in_ok-s.s)

pub add_entry-requires-clause-mark : goal.add_entry-requires-clause-mark
add_entry-requires-clause-mark c = marked_now c.args.self.now.bank c.name.new.self c.args.self.now.history _ c.in_ok-s.ensures.ok.grows c.requires.whole.history c.mark-mark.ensures

pub add_entry-requires-clause-text : goal.add_entry-requires-clause-text
add_entry-requires-clause-text c =
    c.requires.text
    ∙ ap (λ (e : Event). claim_text (Adds e) ++ (10 ∷ []))
    (sym (event_is c.args.self.now.bank c.name.new.self c.in_ok-s.ensures.ok.grows c.args.name.now c.in_ok-s.s c.args.kind c.in_ok-s.ensures.ok.reads (c.requires.kind c.in_ok-s.s)))

pub returns : goal.returns
returns c =
    let old = c.args.self.now in
    let bank = c.name.new.self in
    let names = c.in_ok-s.ensures.ok in
    let r = c.add_entry.result in
    let new = c.add_entry.new.self in
    let name : Name = c.args.name.now in
    let event : Event = event_named old.bank name c.args.kind in
    let is = event_is old.bank bank names.grows name c.in_ok-s.s c.args.kind names.reads (c.requires.kind c.in_ok-s.s) in
    subst (λ (s : State). IfOk r (λ judged. Leads s (claimed (only_when (has_place s.history name) (Adds event))) judged new))
    (sym (state_grown old bank names.grows c.requires.whole))
    (subst (λ (e : Event). IfOk r (λ judged. Leads (state_of (record old { bank = bank })) (claimed (only_when (has_place (state_of (record old { bank = bank })).history name) (Adds e))) judged new)) is
    (subst (λ (n : Name). IfOk r (λ judged. Leads (state_of (record old { bank = bank })) (claimed (only_when (has_place (state_of (record old { bank = bank })).history n) (Adds (event_of bank c.in_ok-s.s c.args.kind)))) judged new)) names.reads
    c.add_entry.ensures))
