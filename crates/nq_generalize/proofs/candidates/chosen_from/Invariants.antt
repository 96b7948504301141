-- What is kept is chosen from the terms so far.
use Rattle.std.proofs.Common.{◌≡◌, take}
use Rattle.std.specs.Prelude.{All}
use Rattle.nq_bank.specs.Content.{Stands, terms_at}
use Rattle.nq_history.specs.Events.{events_at}
use Rattle.nq_goals.specs.Generalizing.{can_generalize, chosen_from}
use Rattle.nq_generalize.proofs.candidates.chosen_from.Given as goal

abbrev pub invariant-loop-t : goal.invariant-loop-t
invariant-loop-t l =
    record {
      chosen : terms_at l.bank l.kept.items ≡ chosen_from (can_generalize (events_at l.bank l.history) (terms_at l.bank l.goal)) (terms_at l.bank (take l.t-index l.terms));
      stand : All (Stands l.bank) l.kept.items;
    }
