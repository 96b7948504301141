use Rattle.std.proofs.Common.{[], ◌∷◌}
use Rattle.nq_logic.specs.Words.{not_term, equal_term}
use Rattle.nq_bank.specs.Content.{term_at}
use Rattle.nq_rule.proofs.Made.{for_ok}
use Rattle.nq_kernel.specs.declared.work.Work.{Work}
use Rattle.nq_kernel.proofs.GrowingLemmas.{WorkGrows-trans}
use Rattle.nq_lines.specs.Lines.{LineHasOnly, MakesOf}
use Rattle.nq_lines.proofs.LineLemmas.{line_grown, only_stands, leads_only}
use Rattle.nq_lines.proofs.TermLemmas.{term_grown}
use Rattle.nq_simplify.proofs.DenyingLemmas.{same_denied}
use Rattle.nq_simplify.proofs.denying.same_denied_twice.Goals as goal

pub equate-requires-clause-left : goal.equate-requires-clause-left
equate-requires-clause-left c = term_grown c.args.history.now c.args.work.now c.reflexive.new.work c.args.t c.requires.stands c.reflexive.ensures.grows c.requires.term

pub equate-requires-clause-right : goal.equate-requires-clause-right
equate-requires-clause-right c = term_grown c.args.history.now c.args.work.now c.reflexive.new.work c.args.t c.requires.stands c.reflexive.ensures.grows c.requires.term

pub returns-in_err-equation-clause-grows : goal.returns-in_err-equation-clause-grows
returns-in_err-equation-clause-grows c = WorkGrows-trans c.args.history.now c.args.work.now c.reflexive.new.work c.equate.new.work c.reflexive.ensures.grows c.equate.ensures.grows

pub deny_twice-requires-clause-line : goal.deny_twice-requires-clause-line
deny_twice-requires-clause-line c =
    line_grown c.args.history.now c.reflexive.new.work c.equate.new.work c.in_ok-line.line c.reflexive.ensures.grows.stands c.equate.ensures.grows (only_stands c.reflexive.new.work c.in_ok-line.line _ (leads_only c.reflexive.new.work c.in_ok-line.line _ _ c.in_ok-line.ensures.line))

pub returns-clause-grows : goal.returns-clause-grows
returns-clause-grows c =
    WorkGrows-trans c.args.history.now c.args.work.now c.equate.new.work c.deny_twice.new.work (WorkGrows-trans c.args.history.now c.args.work.now c.reflexive.new.work c.equate.new.work c.reflexive.ensures.grows c.equate.ensures.grows) c.deny_twice.ensures.grows

pub returns-clause-line : goal.returns-clause-line
returns-clause-line c =
    let w2 : Work = c.equate.new.work in
    let w3 : Work = c.deny_twice.new.work in
    let e = c.in_ok-equation.equation in
    for_ok c.deny_twice.result (MakesOf w2 w3 (term_at w2.bank e) (not_term (not_term (term_at w2.bank e))) c.in_ok-line.line) (λ n. LineHasOnly w3 n (not_term (not_term (equal_term (term_at c.args.work.now.bank c.args.t) (term_at c.args.work.now.bank c.args.t))) ∷ []))
    (λ n makes. same_denied c.args.history.now c.args.work.now c.reflexive.new.work w2 w3 c.args.t e c.in_ok-line.line n c.reflexive.ensures.grows.stands c.reflexive.ensures.grows c.equate.ensures.grows c.requires.term c.in_ok-line.ensures.line c.in_ok-equation.ensures.equation makes) c.deny_twice.ensures.line
