use Rattle.std.proofs.Common.{◌∙◌, ◌&&◌, ap}
use Rattle.nq_logic.specs.Admissible.{has_variables}
use Rattle.nq_bank.specs.Content.{term_at}
use Rattle.nq_bank.specs.Shells.{texts_at}
use Rattle.nq_admit.proofs.TermLemmas.{closed_told, is_none_told}
use Rattle.nq_admit.proofs.admission.is_good_measure.Goals as goal

pub returns : goal.returns
returns c =
    λ names is.
    let known = texts_at c.args.bank.now names in
    let t = term_at c.args.bank.now c.args.measure.term in
    is_none_told c.first_free.result c.is_none.result c.is_none.ensures ∙ closed_told c.args.bank.now known t c.first_free.result (c.first_free.ensures.is names is) ∙ ap (λ b. b && has_variables known t) c.if-not-is_relation.ensures
