use Rattle.nq_check.proofs.ShellLemmas.{part_goes_on}
use Rattle.nq_check.proofs.context.Context.part_line.Goals as goal

pub returns : goal.returns
returns c =
    part_goes_on c.args.self.now c.part_of.new.bank c.push.new.self c.in_ok-part.part c.args.accessor.now c.args.kind c.args.default.now c.args.recognizers.now c.requires c.in_ok-part.ensures.grows
    c.in_ok-part.ensures.stands c.in_ok-part.ensures.part c.in_ok-push.ensures.items
