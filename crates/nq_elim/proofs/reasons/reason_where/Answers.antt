use Rattle.std.proofs.Common.{◌∷◌, ◌++◌, [], ◌∙◌, List, sym, ap, subst}
use Rattle.std.specs.Prelude.{All}
use Rattle.nq_bank.specs.declared.node.TermId.{TermId}
use Rattle.nq_bank.specs.Content.{term_at, terms_at}
use Rattle.nq_kernel.proofs.GrowingLemmas.{WorkGrows-refl}
use Rattle.nq_lines.proofs.TermLemmas.{term_grown}
use Rattle.nq_lines.specs.declared.facts.Fact.{Fact}
use Rattle.nq_lines.specs.Lines.{IsTermIn, LineHasOnly}
use Rattle.nq_elim.specs.Reasons.{FactHolds}
use Rattle.nq_elim.proofs.ListLemmas.{all_none, all_cons, all_append}
use Rattle.nq_elim.proofs.DenialLemmas.{fact_later}
use Rattle.nq_elim.proofs.reasons.reason_where.Goals as goal

pub returns-in_err-rest-clause-grows : goal.returns-in_err-rest-clause-grows
returns-in_err-rest-clause-grows c = WorkGrows-refl c.args.history.now c.args.work.now c.requires.stands

pub returns-clause-reason : goal.returns-clause-reason
returns-clause-reason c =
    let h = c.args.history.now in
    let old = c.args.work.now in
    let new = c.cases_of.new.work in
    let up = c.cases_of.ensures.grows in
    let P : TermId → Type 0 = IsTermIn h old in
    let rest : List TermId = c.in_ok-rest.rest.items in
    let over : All P rest = subst (All P) (sym c.in_ok-rest.ensures.ok) (all_append P c.args.more.now c.args.goal.now c.requires.more c.requires.goal) in
    let says : LineHasOnly old c.args.fact.line (term_at old.bank c.args.fact.term ∷ terms_at old.bank rest) =
    subst (λ (xs : List TermId). LineHasOnly old c.args.fact.line (term_at old.bank c.args.fact.term ∷ terms_at old.bank xs)) (sym c.in_ok-rest.ensures.ok) c.requires.fact.says in
    let Q : Fact → Type 0 = FactHolds h new (terms_at new.bank rest) in
    record {
      equation = term_grown h old new c.args.fact.term c.requires.stands up c.requires.fact.term;
      cases = c.in_ok-cases.ensures.cases;
      rest_is = c.in_ok-rest.ensures.ok ∙ ap (λ xs. xs ++ c.args.goal.now) (sym c.in_ok-cases.ensures.literals);
      facts = subst (All Q) (sym c.in_ok-facts.ensures.ok) (all_cons Q c.args.fact [] (fact_later h old new c.requires.stands up c.args.fact.term c.args.fact.line rest c.requires.fact.term over says) (all_none Q));
    }
