use Rattle.nq_legal.proofs.InductingLemmas.{induction_leads}
use Rattle.nq_legal.proofs.inducting.lead_to.Goals as goal

pub returns : goal.returns
returns c =
    induction_leads c.args.history.now c.args.hints.now c.args.work.now c.args.path.now c.args.goal.now c.args.nexts c.requires.normal c.requires.starts c.requires.leads c.requires.inside
