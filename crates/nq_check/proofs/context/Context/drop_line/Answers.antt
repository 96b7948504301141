use Rattle.std.proofs.Common.{sym, ◌∙◌}
use Rattle.nq_check.proofs.DropLemmas.{drop_denied, drop_goes_on}
use Rattle.nq_check.proofs.context.Context.drop_line.Goals as goal

pub returns-then-not-stands : goal.returns-then-not-stands
returns-then-not-stands c = drop_denied c.args.self.now c.args.line (sym c.stands.ensures ∙ c.if-not-stands.true)

pub returns : goal.returns
returns c =
    drop_goes_on c.args.self.now c.drop_line.new.self c.args.line c.requires (sym c.stands.ensures ∙ c.if-not-stands.false) c.drop_line.ensures.count c.drop_line.ensures.gone c.drop_line.ensures.others
    (c.drop_line.ensures.over c.args.self.now.bank c.requires.lines)
