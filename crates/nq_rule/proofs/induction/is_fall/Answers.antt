use Rattle.std.proofs.Common.{◌∷◌, [], sym, ◌∙◌}
use Rattle.std.specs.Prelude.{codes}
use Rattle.nq_logic.specs.Terms.{Term, substituted}
use Rattle.nq_logic.specs.Words.{call2}
use Rattle.nq_bank.specs.declared.node.TermId.{TermId}
use Rattle.nq_bank.specs.Content.{term_at}
use Rattle.nq_bank.proofs.Numerals.{number_of-call}
use Rattle.nq_clause.specs.Substitution.{substitution_at}
use Rattle.nq_clause.proofs.InstanceLemmas.{false_true}
use Rattle.nq_rule.proofs.LiteralLemmas.{true_same}
use Rattle.nq_rule.proofs.InductionLemmas.{false_same, two_told, none_is_not}
use Rattle.nq_rule.proofs.induction.is_fall.Goals as goal
use Rattle.nq_rule.proofs.induction.is_fall.Goals.{then-parts-ne2-via-then-parts-ne2, then-parts-ne2-via-else-parts-ne2+then-not-is_same}

pub returns-then-parts-ne2 : goal.returns-then-parts-ne2
returns-then-parts-ne2 c =
    let first : TermId = record { 0 = 0 } in
    let m : Term = term_at c.args.bank.now c.args.measure in
    let x : Term = substituted (substitution_at c.args.bank.now c.args.pairs.now) m in
    let l : Term = term_at c.args.bank.now c.args.literal in
    false_same l (call2 "ORD-LESSP" x m)
    (λ e.
    let told = two_told c.args.bank.now (codes "ORD-LESSP") c.in-Some.parts.now first l x m c.in-Some.ensures.call e in
    elim c.then-parts-ne2.branch [
      | then-parts-ne2-via-then-parts-ne2 w ↦ w.if-parts-ne2.true told.0
      | then-parts-ne2-via-else-parts-ne2+then-not-is_same w ↦ false_true (sym w.if-not-is_same.true ∙ w.is_same.ensures ∙ true_same _ m told.1)
    ])

pub returns-in-None : goal.returns-in-None
returns-in-None c =
    let m : Term = term_at c.args.bank.now c.args.measure in
    let x : Term = substituted (substitution_at c.args.bank.now c.args.pairs.now) m in
    false_same (term_at c.args.bank.now c.args.literal) (call2 "ORD-LESSP" x m)
    (λ e. none_is_not c.arguments_of.result c.in-None.is (c.arguments_of.ensures.none (x ∷ m ∷ []) (number_of-call (codes "ORD-LESSP") (x ∷ m ∷ [])) e))
