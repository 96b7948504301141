use Rattle.std.proofs.Common.{◌∷◌, ◌++◌, [], ◌∙◌, List, sym, ap, subst}
use Rattle.std.specs.Prelude.{All}
use Rattle.nq_bank.specs.declared.node.TermId.{TermId}
use Rattle.nq_bank.specs.Content.{term_at, terms_at}
use Rattle.nq_kernel.proofs.GrowingLemmas.{WorkGrows-refl}
use Rattle.nq_lines.specs.declared.facts.Fact.{Fact}
use Rattle.nq_lines.specs.Lines.{IsTermIn, LineHasOnly}
use Rattle.nq_lines.proofs.TermLemmas.{term_grown}
use Rattle.nq_elim.specs.Reasons.{FactHolds}
use Rattle.nq_elim.proofs.ListLemmas.{all_none, all_cons, all_append}
use Rattle.nq_elim.proofs.DenialLemmas.{fact_later}
use Rattle.nq_elim.proofs.reasons.reason_with.Goals as goal

pub returns-in_err-rest-clause-grows : goal.returns-in_err-rest-clause-grows
returns-in_err-rest-clause-grows c = WorkGrows-refl c.args.history.now c.args.work.now c.requires.stands

pub has_only-requires-clause-rest : goal.has_only-requires-clause-rest
has_only-requires-clause-rest c =
    let P : TermId → Type 0 = IsTermIn c.args.history.now c.args.work.now in
    subst (All P) (sym (c.as_slice.ensures.value ∙ c.in_ok-rest.ensures.ok)) (all_append P c.args.more.now c.args.goal.now c.requires.more c.requires.goal)

pub returns-in_err-has_only-clause-grows : goal.returns-in_err-has_only-clause-grows
returns-in_err-has_only-clause-grows c = WorkGrows-refl c.args.history.now c.args.work.now c.requires.stands

pub returns-then-not-branch-clause-grows : goal.returns-then-not-branch-clause-grows
returns-then-not-branch-clause-grows c = WorkGrows-refl c.args.history.now c.args.work.now c.requires.stands

pub returns-clause-reason : goal.returns-clause-reason
returns-clause-reason c =
    let h = c.args.history.now in
    let old = c.args.work.now in
    let new = c.cases_of.new.work in
    let up = c.cases_of.ensures.grows in
    let P : TermId → Type 0 = IsTermIn h old in
    let rest : List TermId = c.in_ok-rest.rest.items in
    let fact : Fact = record { term = c.args.equation; line = c.args.line } in
    let over : All P rest = subst (All P) (sym c.in_ok-rest.ensures.ok) (all_append P c.args.more.now c.args.goal.now c.requires.more c.requires.goal) in
    let says : LineHasOnly old c.args.line (term_at old.bank c.args.equation ∷ terms_at old.bank rest) =
    subst (λ (xs : List TermId). LineHasOnly old c.args.line (term_at old.bank c.args.equation ∷ terms_at old.bank xs)) c.as_slice.ensures.value (c.in_ok-has_only.ensures.only c.if-not-branch.false) in
    let Q : Fact → Type 0 = FactHolds h new (terms_at new.bank rest) in
    record {
      equation = term_grown h old new c.args.equation c.requires.stands up c.requires.equation;
      cases = c.in_ok-cases.ensures.cases;
      rest_is = c.in_ok-rest.ensures.ok ∙ ap (λ xs. xs ++ c.args.goal.now) (sym c.in_ok-cases.ensures.literals);
      facts = subst (All Q) (sym c.in_ok-facts.ensures.ok) (all_cons Q fact [] (fact_later h old new c.requires.stands up c.args.equation c.args.line rest c.requires.equation over says) (all_none Q));
    }
