use Rattle.std.proofs.Common.{List, ℕ, sym, ap, ◌∙◌}
use Rattle.nq_logic.specs.Names.{looked_up}
use Rattle.nq_history.specs.Events.{events_at}
use Rattle.nq_event.proofs.NameLemmas.{unnamed_event}
use Rattle.nq_event.proofs.named.event_named.Goals as goal

pub returns-in-Some : goal.returns-in-Some
returns-in-Some c =
    c.lookup.ensures.event c.args.bank.now c.is_sound.ensures c.requires c.in-Some.ensures.named
    ∙ ap (λ (x : List ℕ). looked_up x (events_at c.args.bank.now c.args.history.now)) c.in-Some.ensures.reads

pub returns-in-None : goal.returns-in-None
returns-in-None c = sym (unnamed_event c.args.bank.now c.args.name.now c.args.history.now c.in-None.ensures c.requires)
