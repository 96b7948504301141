use Rattle.std.proofs.Common.{List, ℕ, ap, ap₂, subst, ◌∙◌}
use Rattle.nq_bank.specs.Content.{term_at}
use Rattle.nq_proof.specs.Rules as tree
use Rattle.nq_rule.specs.declared.induction.CaseOfInduction.{CaseOfInduction}
use Rattle.nq_rule.specs.Inductions.{cases_at}
use Rattle.nq_kernel.specs.declared.rule.Rule.TheVariants.{Induct}
use Rattle.nq_needed.specs.Renumbering.{number_in, AreRenumberedCases}
use Rattle.nq_needed.proofs.RenumberingLemmas.{cases_stand, renumbered_by, same_cases}
use Rattle.nq_needed.proofs.renumbering.renumbered.Goals as goal

pub returns-in_ok-made-in-Induct : goal.returns-in_ok-made-in-Induct
returns-in_ok-made-in-Induct c =
    let f = number_in c.args.numbers.now in
    let w = c.in-Induct in
    let made = c.in_ok-made-in-Induct.made in
    let are : AreRenumberedCases f w.cases.items made.items = subst (λ (cases : List CaseOfInduction). AreRenumberedCases f cases made.items) c.as_slice-in-Induct.ensures.value c.in_ok-made-in-Induct.ensures in
    renumbered_by f c.args.rule.now (Induct w.claim w.measure w.ordinal w.base w.cases) (Induct w.claim w.measure c.number_at-first.result c.number_at-in-Induct.result made) w.is
    (λ bank.
    ap₂ (λ (n m : ℕ). tree.Induct (term_at bank w.claim) (term_at bank w.measure) n m (cases_at bank made.items)) c.number_at-first.ensures c.number_at-in-Induct.ensures ∙
    ap (tree.Induct (term_at bank w.claim) (term_at bank w.measure) (f w.ordinal) (f w.base)) (same_cases bank f w.cases.items made.items are))
    (λ bank h. record { claim = h.claim; measure = h.measure; cases = cases_stand bank f w.cases.items made.items are h.cases })
