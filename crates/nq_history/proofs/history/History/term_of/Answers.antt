use Rattle.std.proofs.Common.{sym, ap, ◌∙◌, subst, map}
use Rattle.std.specs.Prelude.{All}
use Rattle.nq_bank.specs.Content.{text_at}
use Rattle.nq_proof.specs.Rules.{event_term}
use Rattle.nq_history.specs.Events.{event_at, ground_length, EntryStands}
use Rattle.nq_history.proofs.Lists.{All-drop}
use Rattle.nq_history.proofs.history.History.term_of.Goals as goal

pub term_among-requires-clause-entries : goal.term_among-requires-clause-entries
term_among-requires-clause-entries c =
    let stands = EntryStands c.args.bank.now in
    subst (All stands) (sym c.past_ground.ensures) (All-drop stands ground_length c.args.self.now c.requires.entries)

pub returns-clause-term : goal.returns-clause-term
returns-clause-term c =
    c.term_among.ensures.term ∙ ap (λ es. event_term (text_at c.args.bank.now c.args.name) (map (event_at c.args.bank.now) es)) c.past_ground.ensures
