use Rattle.std.proofs.Common.{◌≡◌, ◌⊎◌, ap, sym, ◌∙◌, inl, inr, length}
use Rattle.std.specs.Prelude.{codes}
use Rattle.std.proofs.lemmas.List.{length-map}
use Rattle.nq_logic.specs.Terms.{substituted}
use Rattle.nq_logic.specs.Words.{numeral}
use Rattle.nq_bank.specs.Parts.{parts_of}
use Rattle.nq_bank.specs.Content.{term_at, text_at, term_from}
use Rattle.nq_bank.specs.declared.node.TermId.{TermId}
use Rattle.nq_bank.proofs.Texts.{eq-bytes_eq, bytes_eq-true}
use Rattle.nq_clause.specs.Substitution.{substitution_at}
use Rattle.nq_clause.proofs.SubstitutionLemmas.{substituted-numeral}
use Rattle.nq_clause.proofs.InstanceLemmas.{tells_not, tells_same, not_number, number_step, false_true}
use Rattle.nq_clause.proofs.instance.+is_number.Goals as goal
use Rattle.nq_clause.proofs.instance.+is_number.Goals.{then-n-eq0-via-then-n-eq0, then-n-eq0-via-else-n-eq0+then-arguments-ne1, then-n-eq0-via-else-n-eq0+else-arguments-ne1+then-not-is_ground}

pub returns-then-n-eq0 : goal.returns-then-n-eq0
returns-then-n-eq0 t c =
    let count : length c.args-arguments.result.now ≡ length (parts_of (term_at c.args.bank.now c.args.pattern)) = sym (length-map c.args-arguments.result.now (term_from c.args.bank.now.terms)) ∙ ap length c.args-arguments.ensures.parts in
    let why : (c.args.n ≡ 0) ⊎ (((length (parts_of (term_at c.args.bank.now c.args.pattern)) ≡ 1) → ⊥) ⊎ ((text_at c.args.bank.now c.in-App.f ≡ codes "ADD1") → ⊥)) = elim c.then-n-eq0.branch [
      | then-n-eq0-via-then-n-eq0 w ↦ inl w.if-n-eq0.true
      | then-n-eq0-via-else-n-eq0+then-arguments-ne1 w ↦ inr (inl (λ e. w.if-arguments-ne1.true (count ∙ e)))
      | then-n-eq0-via-else-n-eq0+else-arguments-ne1+then-not-is_ground w ↦ inr (inr (λ e. false_true (sym w.if-not-is_ground.true ∙ w.is_ground.ensures ∙ eq-bytes_eq (text_at c.args.bank.now c.in-App.f) (codes "ADD1") e)))
    ] in
    tells_not (substituted (substitution_at c.args.bank.now c.args.pairs.now) (term_at c.args.bank.now c.args.pattern) ≡ numeral c.args.n)
    (not_number (substitution_at c.args.bank.now c.args.pairs.now) (text_at c.args.bank.now c.in-App.f) (term_at c.args.bank.now c.args.pattern) c.args.n c.in-App.ensures.head.1 c.in-App.ensures.head.3 why)

pub returns-in-Num : goal.returns-in-Num
returns-in-Num t c =
    tells_same c.is_numeral_of-in-Num.result (term_at c.args.bank.now c.args.pattern) (substituted (substitution_at c.args.bank.now c.args.pairs.now) (term_at c.args.bank.now c.args.pattern)) (numeral c.args.n)
    (c.in-Num.ensures.head.1 ∙ sym (ap (substituted (substitution_at c.args.bank.now c.args.pairs.now)) c.in-Num.ensures.head.1 ∙ substituted-numeral (substitution_at c.args.bank.now c.args.pairs.now) c.in-Num.field-0)) c.is_numeral_of-in-Num.ensures

pub returns-else-not-is_ground : goal.returns-else-not-is_ground
returns-else-not-is_ground t c =
    let first : TermId = record { 0 = 0 } in
    number_step (substitution_at c.args.bank.now c.args.pairs.now) c.args.bank.now (text_at c.args.bank.now c.in-App.f) (term_at c.args.bank.now c.args.pattern) c.args-arguments.result.now first c.args.n c.is_number.result c.in-App.ensures.head.1 c.args-arguments.ensures.parts c.if-arguments-ne1.false
    (bytes_eq-true (text_at c.args.bank.now c.in-App.f) (codes "ADD1") (sym c.is_ground.ensures ∙ c.if-not-is_ground.false)) c.if-n-eq0.false c.is_number.ensures
