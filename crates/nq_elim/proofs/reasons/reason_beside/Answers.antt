use Rattle.std.proofs.Common.{◌∷◌, ◌++◌, [], ◌∙◌, List, sym, ap, subst}
use Rattle.std.specs.Prelude.{All, map}
use Rattle.nq_bank.specs.declared.node.TermId.{TermId}
use Rattle.nq_bank.specs.Content.{terms_at}
use Rattle.nq_lines.specs.declared.facts.Fact.{Fact}
use Rattle.nq_elim.specs.Cases.{CaseStands}
use Rattle.nq_elim.specs.Reasons.{FactHolds}
use Rattle.nq_elim.proofs.ListLemmas.{all_none, all_cons}
use Rattle.nq_elim.proofs.reasons.reason_beside.Goals as goal

pub returns-clause-reason : goal.returns-clause-reason
returns-clause-reason c =
    let h = c.args.history.now in
    let w = c.args.work.now in
    let Q : List TermId → Fact → Type 0 = λ ids. FactHolds h w (terms_at w.bank ids) in
    let rest : List TermId = c.in_ok-rest.rest.items in
    record {
      equation = c.requires.fact.term;
      cases = subst (All (CaseStands h w)) (sym c.new-cases.ensures.items) (all_none (CaseStands h w));
      rest_is = c.in_ok-rest.ensures.ok ∙ ap (λ xs. map (λ x. x.literal) xs ++ c.args.goal.now) (sym c.new-cases.ensures.items);
      facts = subst (All (Q rest)) (sym c.in_ok-facts.ensures.ok) (all_cons (Q rest) c.args.fact [] (subst (λ ids. Q ids c.args.fact) (sym c.in_ok-rest.ensures.ok) c.requires.fact) (all_none (Q rest)));
    }
