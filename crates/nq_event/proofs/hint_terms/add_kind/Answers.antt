use Rattle.std.proofs.Common.{true, refl, sym, subst}
use Rattle.std.specs.Prelude.{Some}
use Rattle.nq_bank.proofs.Growth.{Grows-refl}
use Rattle.nq_history.specs.Events.{events_at}
use Rattle.nq_events.specs.WrittenHints.{Time}
use Rattle.nq_event.specs.Hints.{kind_at}
use Rattle.nq_event.specs.HintSums.{IsAdded}
use Rattle.nq_event.proofs.HintSumLemmas.{no_induct_added, no_generalize_added, no_arith_added, nothing_added}
use Rattle.nq_event.proofs.hint_terms.add_kind.Goals as goal

pub returns-in-DoNotInduct-clause-added : goal.returns-in-DoNotInduct-clause-added
returns-in-DoNotInduct-clause-added c =
    let bank = c.args.bank.now in
    let hints = c.args.hints.now in
    let h = events_at bank c.args.history.now in
    subst (λ k. IsAdded h bank bank (Some (kind_at k)) hints (record { instances = hints.instances; enable = hints.enable; disable = hints.disable; expand = hints.expand; induct = hints.induct; hands_off = hints.hands_off; no_induct = true; no_generalize = hints.no_generalize; no_arith = hints.no_arith }) true) (sym c.in-DoNotInduct.is) (no_induct_added h bank bank (Grows-refl bank) hints c.requires.hints)

pub returns-in-DoNotGeneralize-clause-added : goal.returns-in-DoNotGeneralize-clause-added
returns-in-DoNotGeneralize-clause-added c =
    let bank = c.args.bank.now in
    let hints = c.args.hints.now in
    let h = events_at bank c.args.history.now in
    subst (λ k. IsAdded h bank bank (Some (kind_at k)) hints (record { instances = hints.instances; enable = hints.enable; disable = hints.disable; expand = hints.expand; induct = hints.induct; hands_off = hints.hands_off; no_induct = hints.no_induct; no_generalize = true; no_arith = hints.no_arith }) true) (sym c.in-DoNotGeneralize.is) (no_generalize_added h bank bank (Grows-refl bank) hints c.requires.hints)

pub returns-in-NoArithmetic-clause-added : goal.returns-in-NoArithmetic-clause-added
returns-in-NoArithmetic-clause-added c =
    let bank = c.args.bank.now in
    let hints = c.args.hints.now in
    let h = events_at bank c.args.history.now in
    subst (λ k. IsAdded h bank bank (Some (kind_at k)) hints (record { instances = hints.instances; enable = hints.enable; disable = hints.disable; expand = hints.expand; induct = hints.induct; hands_off = hints.hands_off; no_induct = hints.no_induct; no_generalize = hints.no_generalize; no_arith = true }) true) (sym c.in-NoArithmetic.is) (no_arith_added h bank bank (Grows-refl bank) hints c.requires.hints)

pub returns-in-Time-clause-added : goal.returns-in-Time-clause-added
returns-in-Time-clause-added c =
    let bank = c.args.bank.now in
    let h = events_at bank c.args.history.now in
    subst (λ k. IsAdded h bank bank (Some (kind_at k)) c.args.hints.now c.args.hints.now true) (sym c.in-Time.is) (nothing_added h bank bank (Grows-refl bank) c.args.hints.now c.requires.hints (Some Time) true refl refl refl)
