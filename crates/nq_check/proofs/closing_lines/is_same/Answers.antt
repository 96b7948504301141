use Rattle.std.proofs.Common.{◌∙◌}
use Rattle.nq_bank.specs.Content.{term_at}
use Rattle.nq_proof.specs.Clauses.{same_term}
use Rattle.nq_rule.proofs.LiteralLemmas.{eqb-terms}
use Rattle.nq_history.proofs.LookupLemmas.{once}
use Rattle.nq_check.proofs.closing_lines.is_same.Goals as goal

pub returns : goal.returns
returns c =
    eqb-terms c.args.bank.now c.args.literal c.args.t c.is_sound.ensures c.requires.literal c.requires.term
    ∙ once (same_term (term_at c.args.bank.now c.args.literal) (term_at c.args.bank.now c.args.t))
