use Rattle.std.proofs.Common.{false, refl, sym, subst}
use Rattle.std.specs.Prelude.{None}
use Rattle.nq_bank.proofs.Growth.{Grows-refl}
use Rattle.nq_history.specs.Events.{events_at}
use Rattle.nq_event.specs.Hints.{kind_if}
use Rattle.nq_event.specs.HintSums.{IsAdded}
use Rattle.nq_event.proofs.HintSumLemmas.{nothing_added}
use Rattle.nq_event.proofs.hint_terms.add_hint.Goals as goal

pub returns-in-None-clause-added : goal.returns-in-None-clause-added
returns-in-None-clause-added c =
    let bank = c.args.bank.now in
    let h = events_at bank c.args.history.now in
    subst (λ k. IsAdded h bank bank (kind_if k) c.args.hints.now c.args.hints.now false) (sym c.in-None.is) (nothing_added h bank bank (Grows-refl bank) c.args.hints.now c.requires.hints None false refl refl refl)
