use Rattle.std.proofs.Common.{◌∷◌, [], ◌||◌, false, length, ap, ◌∙◌}
use Rattle.std.specs.Prelude.{codes}
use Rattle.nq_logic.specs.Terms.{Term}
use Rattle.nq_logic.specs.Words.{call1}
use Rattle.nq_bank.specs.Content.{term_at}
use Rattle.nq_bank.proofs.Numerals.{number_of-call}
use Rattle.nq_rule.proofs.InductionLemmas.{false_same, one_told, not_one, none_is_not}
use Rattle.nq_rule.proofs.induction.is_ordinal.Goals as goal

pub returns-else-parts-eq1 : goal.returns-else-parts-eq1
returns-else-parts-eq1 c =
    let m : Term = term_at c.args.bank.now c.args.measure in
    not_one (length c.in-Some.parts.now) c.if-parts-eq1.false ∙
    ap (λ b. b || false) (false_same (term_at c.args.bank.now c.args.literal) (call1 "ORDINALP" m) (λ e. c.if-parts-eq1.false (one_told c.args.bank.now (codes "ORDINALP") c.in-Some.parts.now (term_at c.args.bank.now c.args.literal) m c.in-Some.ensures.call e)))

pub returns-in-None : goal.returns-in-None
returns-in-None c =
    let m : Term = term_at c.args.bank.now c.args.measure in
    ap (λ b. b || false) (false_same (term_at c.args.bank.now c.args.literal) (call1 "ORDINALP" m)
    (λ e. none_is_not c.arguments_of.result c.in-None.is (c.arguments_of.ensures.none (m ∷ []) (number_of-call (codes "ORDINALP") (m ∷ [])) e)))
