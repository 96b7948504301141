use Rattle.std.proofs.Common.{◌∷◌, [], ◌∙◌, ap, get_or}
use Rattle.nq_logic.specs.Terms.{Name, call}
use Rattle.nq_bank.specs.declared.node.TermId.{TermId}
use Rattle.nq_bank.specs.Content.{terms_at}
use Rattle.nq_rule.proofs.Made.{given_id}
use Rattle.nq_tracer.proofs.ClaimLemmas.{claim_made}
use Rattle.nq_tracer.proofs.claims.+claim_of.Goals as goal

pub returns-clause-ok : goal.returns-clause-ok
returns-clause-ok t c =
    let d : TermId = record { 0 = 0 } in
    given_id c.claim_of.new.bank c.app.new.self c.app.result _ _
    (ap (λ (f : Name). call f (terms_at c.claim_of.new.bank (get_or c.args.goal.now 0 d ∷ c.in_ok-rest.rest ∷ []))) c.ground_name-name.ensures.reads ∙ claim_made c.args.bank.now c.claim_of.new.bank c.args.goal.now c.in_ok-rest.rest d c.claim_of.ensures.grows c.requires.stand c.requires.some c.if-goal-eq1.false c.in_ok-rest.ensures.ok)
    c.app.ensures.ok
