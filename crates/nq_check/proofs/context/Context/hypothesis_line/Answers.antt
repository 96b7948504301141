use Rattle.std.proofs.Common.{sym, ◌∙◌}
use Rattle.nq_check.proofs.CaseLemmas.{hypothesis_denied, hypothesis_goes_on}
use Rattle.nq_check.proofs.context.Context.hypothesis_line.Goals as goal

pub returns-then-not-stand : goal.returns-then-not-stand
returns-then-not-stand c = hypothesis_denied c.args.self.now c.args.line c.args.bindings.now (sym c.stand.ensures ∙ c.if-not-stand.true)

pub returns : goal.returns
returns c =
    hypothesis_goes_on c.args.self.now c.args.line c.args.bindings.now c.push.new.self c.in_ok-kept.kept c.requires (sym c.stand.ensures ∙ c.if-not-stand.false) c.in_ok-kept.ensures.items c.in_ok-push.ensures.items
