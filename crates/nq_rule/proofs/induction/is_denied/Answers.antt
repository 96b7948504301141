use Rattle.std.proofs.Common.{ap, ◌∙◌, sym, subst}
use Rattle.std.specs.Prelude.{All}
use Rattle.nq_logic.specs.Terms.{substituted}
use Rattle.nq_logic.specs.Words.{not_term}
use Rattle.nq_bank.specs.Content.{term_at}
use Rattle.nq_clause.specs.Substitution.{substitution_at, PairStands}
use Rattle.nq_proof.specs.Clauses.{same_term}
use Rattle.nq_rule.specs.Inductions.{HypothesisStands}
use Rattle.nq_rule.proofs.InductionLemmas.{denied_more}
use Rattle.nq_rule.proofs.induction.is_denied.Goals as goal

pub is_denied_at-requires-clause-pairs : goal.is_denied_at-requires-clause-pairs
is_denied_at-requires-clause-pairs c = subst (All (PairStands c.args.bank.now)) (sym c.as_slice.ensures.value) (subst (HypothesisStands c.args.bank.now) (sym c.s-item.is) (c.requires.steps c.loop-s.s-index c.s-item.result c.loop-s-test.true)).pairs

pub loop-s-preserved : goal.loop-s-preserved
loop-s-preserved c =
    denied_more c.args.bank.now (term_at c.args.bank.now c.args.claim) (term_at c.args.bank.now c.args.literal) c.args.steps.now c.loop-s.s-index c.s-item.result c.loop-s.found c.in_ok-here.here c.is_either-found.result c.loop-s-test.true (sym c.s-item.is) c.loop-s.invariant
    (c.in_ok-here.ensures ∙ ap (λ ps. same_term (term_at c.args.bank.now c.args.literal) (not_term (substituted (substitution_at c.args.bank.now ps) (term_at c.args.bank.now c.args.claim)))) c.as_slice.ensures.value) c.is_either-found.ensures
