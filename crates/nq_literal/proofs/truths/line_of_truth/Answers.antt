use Rattle.std.proofs.Common.{◌∷◌, []}
use Rattle.nq_logic.specs.Words.{equal_term, true_term}
use Rattle.nq_bank.specs.Content.{term_at}
use Rattle.nq_rule.proofs.Made.{for_ok}
use Rattle.nq_kernel.specs.declared.work.Work.{Work}
use Rattle.nq_kernel.proofs.GrowingLemmas.{WorkGrows-trans}
use Rattle.nq_lines.specs.Lines.{LineHasOnly, MakesOf}
use Rattle.nq_lines.proofs.LineLemmas.{only_stands, leads_only}
use Rattle.nq_lines.proofs.TermLemmas.{term_grown}
use Rattle.nq_reduce.proofs.HeldLemmas.{truth_known}
use Rattle.nq_literal.proofs.truths.line_of_truth.Goals as goal

pub from_equal_true-requires-clause-term : goal.from_equal_true-requires-clause-term
from_equal_true-requires-clause-term c = term_grown c.args.history.now c.args.work.now c.reflexive.new.work c.args.yes c.requires.stands c.reflexive.ensures.grows c.requires.truth

pub from_equal_true-requires-clause-line : goal.from_equal_true-requires-clause-line
from_equal_true-requires-clause-line c = only_stands c.reflexive.new.work c.in_ok-same.same (equal_term (term_at c.args.work.now.bank c.args.yes) (term_at c.args.work.now.bank c.args.yes) ∷ []) (leads_only c.reflexive.new.work c.in_ok-same.same (equal_term (term_at c.args.work.now.bank c.args.yes) (term_at c.args.work.now.bank c.args.yes)) [] c.in_ok-same.ensures.line)

pub returns-clause-line : goal.returns-clause-line
returns-clause-line c =
    let one : Work = c.reflexive.new.work in
    let two : Work = c.from_equal_true.new.work in
    for_ok c.from_equal_true.result (λ n. MakesOf one two (equal_term (term_at one.bank c.args.yes) true_term) (term_at one.bank c.args.yes) c.in_ok-same.same n) (λ n. LineHasOnly two n (term_at c.args.work.now.bank c.args.yes ∷ []))
    (λ n makes. (truth_known c.args.history.now c.args.work.now one two [] c.args.yes c.in_ok-same.same n c.reflexive.ensures.grows c.requires.truth c.in_ok-same.ensures.line c.requires.is makes).shown) c.from_equal_true.ensures.line

pub returns-clause-grows : goal.returns-clause-grows
returns-clause-grows c = WorkGrows-trans c.args.history.now c.args.work.now c.reflexive.new.work c.from_equal_true.new.work c.reflexive.ensures.grows c.from_equal_true.ensures.grows
