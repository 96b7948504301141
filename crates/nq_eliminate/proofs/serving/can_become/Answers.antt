use Rattle.std.proofs.Common.{◌∙◌, sym}
use Rattle.std.proofs.lemmas.List.{length-map}
use Rattle.nq_bank.specs.Content.{term_at, terms_at, text_at}
use Rattle.nq_eliminate.proofs.ServingLemmas.{not_many, not_variables}
use Rattle.nq_eliminate.proofs.serving.can_become.Goals as goal

pub can_become_variables-requires-clause-variables : goal.can_become_variables-requires-clause-variables
can_become_variables-requires-clause-variables c = sym c.are_variables.ensures ∙ c.if-are_variables.true

pub can_become_variables-requires-clause-many : goal.can_become_variables-requires-clause-many
can_become_variables-requires-clause-many c = c.are_as_many.ensures.yes c.if-are_as_many.true

pub returns-else-are_as_many-clause-no : goal.returns-else-are_as_many-clause-no
returns-else-are_as_many-clause-no c =
    let bank = c.args.bank.now in
    λ fails.
    not_many (text_at bank c.args.rule.name) (terms_at bank c.args.destructors.now) (terms_at bank c.args.from.now) (terms_at bank c.args.to.now)
    (λ e. c.are_as_many.ensures.no c.if-are_as_many.false (sym (length-map c.args.from.now (term_at bank)) ∙ (e ∙ length-map c.args.to.now (term_at bank))))

pub returns-else-are_variables-clause-no : goal.returns-else-are_variables-clause-no
returns-else-are_variables-clause-no c =
    let bank = c.args.bank.now in
    λ fails.
    not_variables (text_at bank c.args.rule.name) (terms_at bank c.args.destructors.now) (terms_at bank c.args.from.now) (terms_at bank c.args.to.now) c.are_variables.result c.are_variables.ensures c.if-are_variables.false
