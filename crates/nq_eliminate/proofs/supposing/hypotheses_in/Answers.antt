use Rattle.std.proofs.Common.{◌∙◌, ◌++◌, List, ap}
use Rattle.nq_bank.specs.declared.node.TermId.{TermId}
use Rattle.nq_bank.specs.Content.{term_at, terms_at}
use Rattle.nq_logic.specs.RuleShapes.{rule_parts}
use Rattle.nq_eliminate.proofs.supposing.hypotheses_in.Goals as goal

pub returns-clause-are : goal.returns-clause-are
returns-clause-are c =
    let bank = c.args.bank.now in
    c.in_ok-put_hypotheses.ensures.more ∙ ap (λ (ids : List TermId). terms_at bank ids ++ (rule_parts (term_at bank c.args.t)).hypotheses) c.new-found.ensures.items
