use Rattle.std.proofs.Common.{◌≡◌, Some, sym, ap, ◌∙◌}
use Rattle.std.proofs.lemmas.Bool.{eqb-true, eq-eqb}
use Rattle.std.specs.Option.{option_map}
use Rattle.nq_proof.specs.Rules.{event_term}
use Rattle.nq_proof.proofs.Tests.{some_same}
use Rattle.nq_bank.specs.Content.{text_at, term_at}
use Rattle.nq_history.specs.Events.{events_at}
use Rattle.nq_quick.proofs.earlier.has_term.Goals as goal

pub returns-in-Some : goal.returns-in-Some
returns-in-Some c =
    let bank = c.args.bank.now in
    let event = event_term (text_at bank c.args.name) (events_at bank c.args.history.now) in
    let found : event ≡ Some (term_at bank c.in-Some.u) = sym c.term_of.ensures.term ∙ ap (option_map (term_at bank)) c.in-Some.is in (
      (λ same. found ∙ ap (λ n. Some (term_at bank (record { 0 = n }))) (eqb-true c.in-Some.u.0 c.args.t.0 same)),
      (λ e. eq-eqb c.in-Some.u.0 c.args.t.0 ((c.is_sound.ensures.terms c.args.t c.requires.term).only c.in-Some.u c.in-Some.ensures.stands (some_same (term_at bank c.in-Some.u) (term_at bank c.args.t) (sym found ∙ e)))),
    )
