use Rattle.std.proofs.Common.{sym, ap, ◌∙◌, subst}
use Rattle.std.specs.Prelude.{Option, IfOk}
use Rattle.std.specs.Option.{option_map}
use Rattle.nq_bank.specs.Content.{term_at}
use Rattle.nq_log.specs.States.{Step}
use Rattle.nq_check.specs.Contexts.{state_of}
use Rattle.nq_check.specs.Judging.{Leads}
use Rattle.nq_check.proofs.ClosingLemmas.{axiom_unknown, axiom_denied, axiom_led}
use Rattle.nq_check.proofs.context.Context.axiomatize_line.Goals as goal

pub returns-in_default : goal.returns-in_default
returns-in_default c =
    axiom_unknown (state_of c.args.self.now) c.args.event.now c.args.term (sym c.term.ensures.term ∙ ap (option_map (term_at c.args.self.now.bank)) c.in_default.is)

pub returns-then-not-is_claimable : goal.returns-then-not-is_claimable
returns-then-not-is_claimable c =
    axiom_denied (state_of c.args.self.now) c.args.event.now c.args.term (term_at c.args.self.now.bank c.in-Some.t) (sym c.term.ensures.term ∙ ap (option_map (term_at c.args.self.now.bank)) c.in-Some.is)
    (sym c.is_claimable.ensures ∙ c.if-not-is_claimable.true)

pub returns : goal.returns
returns c =
    let led = axiom_led (state_of c.args.self.now) c.args.event.now c.args.term (term_at c.args.self.now.bank c.in-Some.t) (sym c.term.ensures.term ∙ ap (option_map (term_at c.args.self.now.bank)) c.in-Some.is)
    (sym c.is_claimable.ensures ∙ c.if-not-is_claimable.false) in
    subst (λ (o : Option Step). IfOk c.claim_axiom.result (λ judged. Leads (state_of c.args.self.now) o judged c.claim_axiom.new.self)) (sym led) c.claim_axiom.ensures
