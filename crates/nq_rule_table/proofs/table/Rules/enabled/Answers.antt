use Rattle.std.proofs.Common.{length, sym, ap, ◌∙◌}
use Rattle.std.specs.Prelude.{slice_get}
use Rattle.std.proofs.lemmas.Bool.{ltb-true, ltb-false}
use Rattle.nq_rule_table.specs.Enabled.{if_enabled}
use Rattle.nq_rule_table.proofs.EnabledLemmas.{enabled_rule, disabled_rule, no_rule}
use Rattle.nq_rule_table.proofs.table.Rules.enabled.Goals as goal

pub returns-then-is_enabled_for : goal.returns-then-is_enabled_for
returns-then-is_enabled_for c =
    λ entries taught.
    let rs = c.rewrites.result.now in
    enabled_rule c.args.hints.now entries rs c.args.at c.in-Some.rule.now c.is_enabled_for.result (ltb-true c.args.at (length rs) (sym c.in-Some.ensures.lookup.0)) c.in-Some.ensures.lookup.1 (c.is_enabled_for.ensures.value entries taught) c.if-is_enabled_for.true
    ∙ ap (λ l. if_enabled c.args.hints.now entries (slice_get l c.args.at)) c.rewrites.ensures.value

pub returns-else-is_enabled_for : goal.returns-else-is_enabled_for
returns-else-is_enabled_for c =
    λ entries taught.
    let rs = c.rewrites.result.now in
    disabled_rule c.args.hints.now entries rs c.args.at c.in-Some.rule.now c.is_enabled_for.result (ltb-true c.args.at (length rs) (sym c.in-Some.ensures.lookup.0)) c.in-Some.ensures.lookup.1 (c.is_enabled_for.ensures.value entries taught) c.if-is_enabled_for.false
    ∙ ap (λ l. if_enabled c.args.hints.now entries (slice_get l c.args.at)) c.rewrites.ensures.value

pub returns-in-None : goal.returns-in-None
returns-in-None c =
    λ entries taught.
    let rs = c.rewrites.result.now in
    no_rule c.args.hints.now entries rs c.args.at (ltb-false c.args.at (length rs) (sym c.in-None.ensures.lookup.0))
    ∙ ap (λ l. if_enabled c.args.hints.now entries (slice_get l c.args.at)) c.rewrites.ensures.value
