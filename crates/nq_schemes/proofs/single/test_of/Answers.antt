use Rattle.std.proofs.Common.{◌≡◌, ◌∷◌, ◌∙◌, sym, ap, subst}
use Rattle.nq_logic.specs.Terms.{Term}
use Rattle.nq_logic.specs.Words.{not_term}
use Rattle.nq_bank.specs.Content.{term_at}
use Rattle.nq_kernel.specs.declared.work.Work.{Work}
use Rattle.nq_kernel.proofs.GrowingLemmas.{WorkGrows-trans}
use Rattle.nq_lines.specs.Lines.{LineHasOnly}
use Rattle.nq_lines.proofs.LineLemmas.{only_grown}
use Rattle.nq_lines.proofs.TermLemmas.{term_grown, same_term_grown}
use Rattle.nq_schemes.proofs.single.test_of.Goals as goal

pub deny-requires-clause-term : goal.deny-requires-clause-term
deny-requires-clause-term c = term_grown c.args.history.now c.args.work.now c.deny_twice.new.work c.args.claim.term c.requires.stands c.deny_twice.ensures.grows c.requires.term

pub returns-in_err-term-clause-grows : goal.returns-in_err-term-clause-grows
returns-in_err-term-clause-grows c = WorkGrows-trans c.args.history.now c.args.work.now c.deny_twice.new.work c.deny.new.work c.deny_twice.ensures.grows c.deny.ensures.grows

pub returns-clause-grows : goal.returns-clause-grows
returns-clause-grows c = WorkGrows-trans c.args.history.now c.args.work.now c.deny_twice.new.work c.deny.new.work c.deny_twice.ensures.grows c.deny.ensures.grows

pub returns-clause-line : goal.returns-clause-line
returns-clause-line c =
    let h = c.args.history.now in
    let w0 : Work = c.args.work.now in
    let w1 : Work = c.deny_twice.new.work in
    let w2 : Work = c.deny.new.work in
    let p : Term = term_at w0.bank c.args.claim.term in
    let is : term_at w2.bank c.in_ok-term.term ≡ not_term p = c.in_ok-term.ensures.denied.denotes ∙ ap (λ (t : Term). not_term t) (same_term_grown h w0 w1 c.args.claim.term c.deny_twice.ensures.grows c.requires.term) in
    λ these had.
    subst (λ (u : Term). LineHasOnly w2 c.in_ok-line.line (not_term u ∷ these)) (sym is)
    (only_grown h w1 w2 c.in_ok-line.line (not_term (not_term p) ∷ these) c.deny_twice.ensures.grows.stands c.deny.ensures.grows (c.in_ok-line.ensures.line these had))
