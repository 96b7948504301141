use Rattle.nq_logic.specs.Words.{numeral}
use Rattle.nq_check.proofs.ContextLemmas.{term_goes_on}
use Rattle.nq_check.proofs.context.Context.numeral_line.Goals as goal

pub returns : goal.returns
returns c =
    term_goes_on c.args.self.now c.num.new.self _ c.in_ok-t.t (numeral c.args.value) c.requires c.in_ok-t.ensures.ok.grows c.in_ok-t.ensures.ok.id c.in_ok-push.ensures.items
