use Rattle.std.proofs.Common.{◌∷◌, [], subst}
use Rattle.nq_bank.specs.Content.{terms_at}
use Rattle.nq_kernel.specs.Meaning.{clause_at}
use Rattle.nq_linear.specs.Refuting.{AnswersRightly}
use Rattle.nq_lines.specs.Lines.{LineHasOnly}
use Rattle.nq_lines.proofs.OnlyLemmas.{only_of}
use Rattle.nq_lines.proofs.TermLemmas.{same_term_grown}
use Rattle.nq_reduce.proofs.irreflexive.line_of_literal.Goals as goal

pub returns-in-Refuted-clause-line : goal.returns-in-Refuted-clause-line
returns-in-Refuted-clause-line c =
    subst (λ u. LineHasOnly c.refute.new.work c.in-Refuted.line (u ∷ [])) (same_term_grown c.args.history.now c.args.work.now c.refute.new.work c.args.literal c.refute.ensures.grows c.requires.literal)
    (only_of (clause_at c.refute.new.work.bank c.refute.new.work.log c.in-Refuted.line) (terms_at c.refute.new.work.bank (c.args.literal ∷ []))
    (subst (AnswersRightly c.refute.new.work (c.args.literal ∷ [])) c.in-Refuted.is c.in_ok-line.ensures.right))
