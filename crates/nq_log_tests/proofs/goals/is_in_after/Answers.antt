use Rattle.std.proofs.Common.{◌≡◌, ◌∙◌, Some, ap, sym}
use Rattle.std.proofs.lemmas.Bool.{eqb-true}
use Rattle.nq_logic.specs.Terms.{call}
use Rattle.nq_logic.specs.Ground.{symbols_of}
use Rattle.nq_language.specs.Arities.{arity_in}
use Rattle.nq_bank.specs.Content.{text_at}
use Rattle.nq_history.specs.Events.{events_at}
use Rattle.nq_log_tests.proofs.CheckedLemmas.{call_in, numeral_in}
use Rattle.nq_log_tests.proofs.goals.is_in_after.Goals as goal

pub returns-in-Some : goal.returns-in-Some
returns-in-Some c =
    λ h.
    let f = text_at c.args.bank.now c.in-App.f in
    let named = c.in-App.ensures.head.0 in
    let arity : arity_in (symbols_of (events_at c.args.bank.now c.args.history.now)) f ≡ Some c.in-Some.n = sym (c.arity.ensures.events c.args.bank.now c.is_sound.ensures c.requires.history named) ∙ c.in-Some.is in
    call_in c.args.bank.now c.args.history.now c.args.t f c.in-Some.n c.args-in-Some.result.now (c.in-App.ensures.head.1 ∙ ap (call f) (sym c.args-in-Some.ensures.parts)) arity (eqb-true _ _ h) c.args-in-Some.ensures.earlier c.requires.before

pub returns-in-Num : goal.returns-in-Num
returns-in-Num c = λ _. numeral_in c.args.bank.now c.args.history.now c.args.t _ c.in-Num.ensures.head.1
