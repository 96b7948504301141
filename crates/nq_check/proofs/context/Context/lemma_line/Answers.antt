use Rattle.std.proofs.Common.{sym, ap, ◌∙◌, subst}
use Rattle.std.specs.Prelude.{Option, IfOk}
use Rattle.std.specs.Option.{option_map}
use Rattle.nq_bank.specs.Content.{term_at}
use Rattle.nq_log.specs.States.{Step}
use Rattle.nq_check.specs.Contexts.{state_of}
use Rattle.nq_check.specs.Judging.{Leads}
use Rattle.nq_check.proofs.ClosingLemmas.{lemma_unknown, lemma_denied, lemma_led}
use Rattle.nq_check.proofs.context.Context.lemma_line.Goals as goal

pub returns-in_default : goal.returns-in_default
returns-in_default c =
    lemma_unknown (state_of c.args.self.now) c.args.lemma.now c.args.term c.args.line (sym c.term.ensures.term ∙ ap (option_map (term_at c.args.self.now.bank)) c.in_default.is)

pub returns-then-not-is_shown : goal.returns-then-not-is_shown
returns-then-not-is_shown c =
    lemma_denied (state_of c.args.self.now) c.args.lemma.now c.args.term c.args.line (term_at c.args.self.now.bank c.in-Some.t) (sym c.term.ensures.term ∙ ap (option_map (term_at c.args.self.now.bank)) c.in-Some.is)
    (sym c.is_shown.ensures ∙ c.if-not-is_shown.true)

pub returns : goal.returns
returns c =
    let led = lemma_led (state_of c.args.self.now) c.args.lemma.now c.args.term c.args.line (term_at c.args.self.now.bank c.in-Some.t) (sym c.term.ensures.term ∙ ap (option_map (term_at c.args.self.now.bank)) c.in-Some.is)
    (sym c.is_shown.ensures ∙ c.if-not-is_shown.false) in
    subst (λ (o : Option Step). IfOk c.claim_lemma.result (λ judged. Leads (state_of c.args.self.now) o judged c.claim_lemma.new.self)) (sym led) c.claim_lemma.ensures
