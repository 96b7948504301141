use Rattle.std.proofs.Common.{◌∷◌, ◌∙◌, List, subst}
use Rattle.std.specs.Prelude.{All}
use Rattle.nq_logic.specs.Terms.{IsAmong}
use Rattle.nq_bank.specs.declared.node.TermId.{TermId}
use Rattle.nq_bank.specs.Content.{term_at, terms_at}
use Rattle.nq_elim.proofs.ReasonLemmas.{has_only_these}
use Rattle.nq_elim.proofs.reasons.has_only.Goals as goal

pub returns-clause-only : goal.returns-clause-only
returns-clause-only c = λ so.
    let w = c.args.work.now in
    has_only_these c.args.history.now w c.args.line c.args.literals.now (term_at w.bank c.args.equation ∷ terms_at w.bank c.args.rest.now) c.requires.literals
    (subst (λ (xs : List TermId). All (λ t. IsAmong (term_at w.bank t) (terms_at w.bank xs)) c.args.literals.now) (c.as_slice.ensures.value ∙ c.in_ok-these.ensures.ok) (c.are_among.ensures so))
