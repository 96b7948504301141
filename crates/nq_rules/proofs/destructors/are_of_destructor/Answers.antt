use Rattle.std.proofs.Common.{◌&&◌, ap, sym, ◌∙◌}
use Rattle.nq_bank.specs.Content.{text_at, terms_at}
use Rattle.nq_rules.specs.Variables.{has_variable}
use Rattle.nq_rules.proofs.DestructorLemmas.{destructor_call}
use Rattle.nq_rules.proofs.destructors.are_of_destructor.Goals as goal

pub returns-then-distinct : goal.returns-then-distinct
returns-then-distinct c f =
    let x = text_at c.args.bank.now c.args.x in
    let us = terms_at c.args.bank.now c.args.arguments.now in
    c.has_variable-among.ensures ∙ ap (λ b. b && has_variable x us) (sym c.if-distinct.true ∙ c.are_distinct_variables-distinct.ensures) ∙ destructor_call x f us

pub returns-else-distinct : goal.returns-else-distinct
returns-else-distinct c f =
    let x = text_at c.args.bank.now c.args.x in
    let us = terms_at c.args.bank.now c.args.arguments.now in
    c.if-distinct.false ∙ ap (λ b. b && has_variable x us) (sym c.if-distinct.false ∙ c.are_distinct_variables-distinct.ensures) ∙ destructor_call x f us
