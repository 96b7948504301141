use Rattle.std.proofs.Common.{sym, ◌∙◌}
use Rattle.nq_logic.specs.Terms.{call}
use Rattle.nq_bank.specs.Content.{text_at, term_at}
use Rattle.nq_bank.specs.Parts.{parts_of}
use Rattle.nq_bank.specs.Soundness.{ground_text}
use Rattle.nq_bank.proofs.Texts.{eq-bytes_eq}
use Rattle.nq_bank.proofs.CallLemmas.{variable_is_no_call}
use Rattle.nq_clause.proofs.InstanceLemmas.{call_parts, no_numeral}
use Rattle.nq_rule.proofs.induction.arguments_of.Goals as goal

pub returns-else-is_ground-clause-none : goal.returns-else-is_ground-clause-none
returns-else-is_ground-clause-none c =
    λ ts none e.
    let parts = call_parts (text_at c.args.bank.now c.in-App.f) (ground_text c.args.known) (parts_of (term_at c.args.bank.now c.args.t)) ts (sym c.in-App.ensures.head.1 ∙ e) in
    sym c.if-is_ground.false ∙ c.is_ground.ensures ∙ eq-bytes_eq (text_at c.args.bank.now c.in-App.f) (ground_text c.args.known) parts.0

pub returns-in-Num-clause-none : goal.returns-in-Num-clause-none
returns-in-Num-clause-none c = λ ts none e. absurd (no_numeral (call (ground_text c.args.known) ts) c.in-Num.field-0 c.in-Num.ensures.head.0 none (sym e ∙ c.in-Num.ensures.head.1))

pub returns-in-Var-clause-none : goal.returns-in-Var-clause-none
returns-in-Var-clause-none c = λ ts none e. absurd (variable_is_no_call (text_at c.args.bank.now c.in-Var.field-0) (ground_text c.args.known) ts (sym c.in-Var.ensures.head.1 ∙ e))
