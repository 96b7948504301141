use Rattle.std.proofs.Common.{◌∷◌, [], ◌∙◌, List, sym, ap, subst}
use Rattle.std.specs.Prelude.{All, IfSome}
use Rattle.nq_bank.specs.declared.node.TermId.{TermId}
use Rattle.nq_bank.specs.Content.{terms_at}
use Rattle.nq_kernel.proofs.GrowingLemmas.{WorkGrows-refl}
use Rattle.nq_lines.specs.Lines.{IsTermIn, LineHasOnly}
use Rattle.nq_elim.proofs.ListLemmas.{all_cons}
use Rattle.nq_elim.proofs.FactLemmas.{fact_beside_later}
use Rattle.nq_elim.proofs.equating.fact_beside.Goals as goal

pub returns-in_err-more-clause-grows : goal.returns-in_err-more-clause-grows
returns-in_err-more-clause-grows c = WorkGrows-refl c.args.history.now c.args.work.now c.requires.stands

pub arithmetic_line-requires-clause-goal : goal.arithmetic_line-requires-clause-goal
arithmetic_line-requires-clause-goal c =
    let P : TermId → Type 0 = IsTermIn c.args.history.now c.args.work.now in
    subst (All P) (sym (c.as_slice.ensures.value ∙ c.in_ok-more.ensures.ok)) (all_cons P c.args.t c.args.goal.now c.requires.term c.requires.goal)

pub returns-in-Some-clause-fact : goal.returns-in-Some-clause-fact
returns-in-Some-clause-fact c =
    let old = c.args.work.now in
    let new = c.arithmetic_line.new.work in
    let says : IfSome c.in_ok-line.field-0 (λ n. LineHasOnly new n (terms_at old.bank (c.args.t ∷ c.args.goal.now))) =
    subst (λ (ids : List TermId). IfSome c.in_ok-line.field-0 (λ n. LineHasOnly new n (terms_at old.bank ids))) (c.as_slice.ensures.value ∙ c.in_ok-more.ensures.ok) c.in_ok-line.ensures.line in
    fact_beside_later c.args.history.now old new c.requires.stands c.arithmetic_line.ensures.grows c.args.t _ c.args.goal.now c.requires.term c.requires.goal (subst (λ o. IfSome o (λ n. LineHasOnly new n (terms_at old.bank (c.args.t ∷ c.args.goal.now)))) c.in-Some.is says)
