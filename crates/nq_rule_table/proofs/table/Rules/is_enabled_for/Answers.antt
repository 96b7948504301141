use Rattle.std.proofs.Common.{◌≡◌, ◌∙◌, rules}
use Rattle.std.specs.Prelude.{not}
use Rattle.nq_rule_table.specs.Enabled.{is_enabled_after}
use Rattle.nq_rule_table.proofs.EnabledLemmas.{enabled_texts}
use Rattle.nq_rule_table.proofs.table.Rules.is_enabled_for.Goals as goal

pub returns-then-enabled-clause-events : goal.returns-then-enabled-clause-events
returns-then-enabled-clause-events c =
    λ bank entries taught sound stands hinted named.
    let value : c.is_among-enabled.result ≡ is_enabled_after c.args.hints.now c.args.name entries = search rules in
    value ∙ enabled_texts bank c.args.hints.now c.args.name entries sound stands hinted named

pub returns-else-enabled-clause-events : goal.returns-else-enabled-clause-events
returns-else-enabled-clause-events c =
    λ bank entries taught sound stands hinted named.
    let value : c.is_enabled-before.result ≡ is_enabled_after c.args.hints.now c.args.name entries = search rules in
    value ∙ enabled_texts bank c.args.hints.now c.args.name entries sound stands hinted named

pub returns-else-not-disabled-clause-events : goal.returns-else-not-disabled-clause-events
returns-else-not-disabled-clause-events c =
    λ bank entries taught sound stands hinted named.
    let value : not c.is_among-disabled.result ≡ is_enabled_after c.args.hints.now c.args.name entries = search rules in
    value ∙ enabled_texts bank c.args.hints.now c.args.name entries sound stands hinted named
