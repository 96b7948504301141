use Rattle.std.proofs.Common.{List, subst, sym}
use Rattle.std.specs.Prelude.{All}
use Rattle.nq_bank.specs.declared.node.TermId.{TermId}
use Rattle.nq_bank.specs.Content.{terms_at}
use Rattle.nq_elim.specs.Reasons.{FactHolds}
use Rattle.nq_elim.proofs.kinds.with_facts.Goals as goal

pub add_facts-requires-clause-facts : goal.add_facts-requires-clause-facts
add_facts-requires-clause-facts c =
    let w = c.args.work.now in
    subst (λ (ids : List TermId). All (FactHolds c.args.history.now w (terms_at w.bank ids)) c.args.reason.facts.items) (sym c.as_slice.ensures.value) c.requires.reason.facts

pub returns-clause-reason : goal.returns-clause-reason
returns-clause-reason c =
    let w = c.args.work.now in
    record {
      equation = c.requires.reason.equation;
      cases = c.requires.reason.cases;
      rest_is = c.requires.reason.rest_is;
      facts = subst (λ (ids : List TermId). All (FactHolds c.args.history.now w (terms_at w.bank ids)) c.add_facts.new.facts.items) c.as_slice.ensures.value c.in_ok-add_facts.ensures.facts;
    }
