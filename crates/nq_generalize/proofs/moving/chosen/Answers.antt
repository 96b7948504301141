use Rattle.std.proofs.Common.{◌∙◌, sym, ap, subst}
use Rattle.std.specs.Prelude.{All}
use Rattle.nq_logic.specs.Terms.{IsAmong}
use Rattle.nq_bank.specs.declared.node.TermId.{TermId}
use Rattle.nq_bank.specs.Content.{Stands, terms_at}
use Rattle.nq_history.specs.Events.{events_at}
use Rattle.nq_event.specs.EventsAt.{hints_at}
use Rattle.nq_proof.specs.Clauses.{distinct}
use Rattle.nq_goals.specs.Generalizing.{can_generalize}
use Rattle.nq_goals.specs.Replacing.{parts_in_all}
use Rattle.nq_stuck.proofs.GeneralLemmas.{apart}
use Rattle.nq_generalize.specs.Candidates.{IsAllOf}
use Rattle.nq_generalize.proofs.MoveLemmas.{chosen_are, no_ids, none_found, rest_stands}
use Rattle.nq_generalize.proofs.moving.chosen.Goals as goal

pub returns-in-empty-clause-chosen : goal.returns-in-empty-clause-chosen
returns-in-empty-clause-chosen c =
    let bank = c.args.bank.now in
    let h = events_at bank c.args.history.now in
    let whole = terms_at bank c.args.goal.now in
    let none = no_ids c.in_ok-candidates.candidates.items c.as_slice.result.now c.as_slice.ensures.value c.in-empty.len_below in
    none_found h (hints_at bank c.args.hints.now) whole c.if-hints.false (subst (λ ids. IsAllOf (can_generalize h whole) (parts_in_all whole) (terms_at bank ids)) none c.in_ok-candidates.ensures.all)

pub least_of-requires-clause-others : goal.least_of-requires-clause-others
least_of-requires-clause-others c = rest_stands c.args.bank.now c.as_slice.result.now (subst (All (Stands c.args.bank.now)) (sym c.as_slice.ensures.value) c.in_ok-candidates.ensures.stand)

pub returns-clause-chosen : goal.returns-clause-chosen
returns-clause-chosen c =
    let bank = c.args.bank.now in
    let told = c.as_slice.result.now in
    let none : TermId = record { 0 = 0 } in
    chosen_are bank (events_at bank c.args.history.now) (hints_at bank c.args.hints.now) c.args.goal.now c.in_ok-candidates.candidates.items c.in_ok-least-in-len1-up.least.items c.in_ok-terms-in-len1-up.terms.items c.if-hints.false
    c.in_ok-candidates.ensures.all (λ t m. subst (IsAmong t) (sym (apart bank (events_at bank c.args.history.now) told none c.in-len1-up.len_at_least) ∙ ap (terms_at bank) c.as_slice.ensures.value) (c.in_ok-least-in-len1-up.ensures.within t m)) c.in_ok-least-in-len1-up.ensures.some
    (c.in_ok-terms-in-len1-up.ensures.clause ∙ ap (λ ids. distinct (terms_at bank ids)) c.as_slice-in-len1-up.ensures.value) c.in_ok-terms-in-len1-up.ensures.stand
