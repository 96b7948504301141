use Rattle.std.proofs.Common.{List, ◌∙◌, take, sym, ap, subst}
use Rattle.nq_logic.specs.Terms.{Term, Substitution, substituted}
use Rattle.nq_logic.specs.Words.{not_term}
use Rattle.nq_logic.specs.Laws.{denied}
use Rattle.nq_rule.specs.Inductions.{substitutions_at}
use Rattle.nq_bank.specs.Content.{IsIdOf, term_at, terms_at}
use Rattle.nq_bank.specs.declared.node.TermId.{TermId}
use Rattle.nq_clause.specs.Substitution.{substitution_at}
use Rattle.nq_kernel.specs.declared.work.Work.{Work}
use Rattle.nq_kernel.specs.Growing.{WorkGrows}
use Rattle.nq_kernel.proofs.GrowingLemmas.{WorkGrows-trans, WorkGrows-refl}
use Rattle.nq_rule.specs.declared.induction.InductionStep.{InductionStep}
use Rattle.nq_lines.specs.Instances.{ArePairsIn}
use Rattle.nq_lines.specs.Lines.{IsTermIn}
use Rattle.nq_lines.proofs.InstanceLemmas.{pairs_in_grown}
use Rattle.nq_lines.proofs.TermLemmas.{term_grown, same_term_grown}
use Rattle.nq_induct.specs.Goals.{AreTermsIn}
use Rattle.nq_induct.proofs.GrownLemmas.{same_pairs}
use Rattle.nq_induct.proofs.GoalLemmas.{terms_push, over_push, denied_next, item_in}
use Rattle.nq_induct.proofs.CaseLemmas.{none_all}
use Rattle.nq_induct.proofs.goals.hypotheses_of.Goals as goal

pub hypothesis_of-requires-clause-stands : goal.hypothesis_of-requires-clause-stands
hypothesis_of-requires-clause-stands c = c.loop-step.invariant.grows.stands

pub hypothesis_of-requires-clause-claim : goal.hypothesis_of-requires-clause-claim
hypothesis_of-requires-clause-claim c = term_grown c.args.history.now c.args.work.now c.loop-step.work c.args.claim c.requires.stands c.loop-step.invariant.grows c.requires.claim

pub hypothesis_of-requires-clause-pairs : goal.hypothesis_of-requires-clause-pairs
hypothesis_of-requires-clause-pairs c =
    let s : InductionStep = c.step-item.result in
    let h = c.args.history.now in
    let w0 : Work = c.args.work.now in
    pairs_in_grown h w0 c.loop-step.work s.pairs.items c.requires.stands c.loop-step.invariant.grows (item_in h w0 c.args.steps.now c.loop-step.step-index s c.requires.steps c.loop-step-test.true c.step-item.is)

pub loop-step-init : goal.loop-step-init
loop-step-init c = record { grows = WorkGrows-refl c.args.history.now c.args.work.now c.requires.stands; over = none_all (IsTermIn c.args.history.now c.args.work.now) c.new-literals.result.items c.new-literals.ensures.items; terms = ap (terms_at c.args.work.now.bank) c.new-literals.ensures.items }

pub loop-step-preserved : goal.loop-step-preserved
loop-step-preserved c =
    let s : InductionStep = c.step-item.result in
    let h = c.args.history.now in
    let w0 : Work = c.args.work.now in
    let w1 : Work = c.loop-step.work in
    let w2 : Work = c.hypothesis_of.new.work in
    let i = c.loop-step.step-index in
    let inv = c.loop-step.invariant in
    let g12 : WorkGrows h w1 w2 = c.hypothesis_of.ensures.grows in
    let literal : TermId = c.in_ok-literal.literal in
    let so_far : List Term = denied (term_at w0.bank c.args.claim) (substitutions_at w0.bank (take i c.args.steps.now)) in
    let there : ArePairsIn h w0 s.pairs.items = item_in h w0 c.args.steps.now i s c.requires.steps c.loop-step-test.true c.step-item.is in
    let is : IsIdOf w2.bank literal (not_term (substituted (substitution_at w0.bank s.pairs.items) (term_at w0.bank c.args.claim))) =
    subst (λ (u : Term). IsIdOf w2.bank literal (not_term u))
    (ap (λ (r : Substitution). substituted r (term_at w1.bank c.args.claim)) (same_pairs h w0 w1 c.requires.stands inv.grows s.pairs.items there) ∙
    ap (substituted (substitution_at w0.bank s.pairs.items)) (same_term_grown h w0 w1 c.args.claim inv.grows c.requires.claim)) c.in_ok-literal.ensures.hypothesis in
    record {
      grows = WorkGrows-trans h w0 w1 w2 inv.grows g12;
      over = subst (AreTermsIn h w2) (sym c.in_ok-add_literal.ensures.more) (over_push h w1 w2 inv.grows.stands g12 c.loop-step.literals.items literal inv.over c.in_ok-literal.ensures.over);
      terms =
          ap (terms_at w2.bank) c.in_ok-add_literal.ensures.more ∙
          terms_push h w1 w2 inv.grows.stands g12 c.loop-step.literals.items literal so_far _ inv.over inv.terms is ∙
          sym (denied_next w0.bank (term_at w0.bank c.args.claim) c.args.steps.now i s c.loop-step-test.true c.step-item.is);
    }

pub returns-in_err-literal-clause-grows : goal.returns-in_err-literal-clause-grows
returns-in_err-literal-clause-grows c = WorkGrows-trans c.args.history.now c.args.work.now c.loop-step.work c.hypothesis_of.new.work c.loop-step.invariant.grows c.hypothesis_of.ensures.grows

pub returns-in_err-add_literal-clause-grows : goal.returns-in_err-add_literal-clause-grows
returns-in_err-add_literal-clause-grows c = WorkGrows-trans c.args.history.now c.args.work.now c.loop-step.work c.hypothesis_of.new.work c.loop-step.invariant.grows c.hypothesis_of.ensures.grows
