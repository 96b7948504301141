use Rattle.std.proofs.Common.{sym, ◌∙◌}
use Rattle.nq_logic.specs.RuleShapes.{rule_parts}
use Rattle.nq_bank.specs.Content.{text_at, term_at, terms_at}
use Rattle.nq_history.specs.Events.{events_at}
use Rattle.nq_goals.specs.Hints.{is_enabled_for}
use Rattle.nq_goals.specs.Normal.{plain_parts, rewrites}
use Rattle.nq_normal.specs.Definitions.{hints_at}
use Rattle.nq_normal.proofs.PartLemmas.{none_kept}
use Rattle.nq_normal.proofs.rules.enabled_rewrites.Goals as goal

pub returns-else-branch : goal.returns-else-branch
returns-else-branch c =
    let bank = c.args.bank.now in
    none_kept (rewrites (terms_at bank c.args.goal.now)) (is_enabled_for (events_at bank c.args.history.now) (hints_at bank c.args.hints.now) (text_at bank c.args.name)) (plain_parts (rule_parts (term_at bank c.args.t)))
    (sym c.in_ok-term_rewrites.ensures ∙ c.if-branch.false)
