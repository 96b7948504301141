use Rattle.std.proofs.Common.{◌≡◌, ◌∙◌, sym, true}
use Rattle.nq_logic.specs.Values.{is_value}
use Rattle.nq_bank.specs.Content.{term_at}
use Rattle.nq_eliminate.proofs.serving.stands_in_goal.Goals as goal

pub stands_in_these-requires-clause-other : goal.stands_in_these-requires-clause-other
stands_in_these-requires-clause-other c = sym c.is_value.ensures ∙ c.if-is_value.false

pub returns-then-is_value-clause-no : goal.returns-then-is_value-clause-no
returns-then-is_value-clause-no c = λ fails other.
    let value : is_value (term_at c.args.bank.now c.args.u) ≡ true = sym c.is_value.ensures ∙ c.if-is_value.true in
    absurd (cc)

pub returns-in-Ok-clause-yes : goal.returns-in-Ok-clause-yes
returns-in-Ok-clause-yes c = λ holds. sym c.in-Ok.ensures ∙ holds

pub returns-in-Ok-clause-no : goal.returns-in-Ok-clause-no
returns-in-Ok-clause-no c = λ fails other. sym c.in-Ok.ensures ∙ fails
