use Rattle.std.proofs.Common.{◌∙◌, sym, subst}
use Rattle.nq_kernel.proofs.GrowingLemmas.{WorkGrows-trans}
use Rattle.nq_lines.specs.Instances.{ArePairsIn}
use Rattle.nq_lines.proofs.InstanceLemmas.{pairs_in_grown}
use Rattle.nq_tactic.proofs.uses.used_at.Goals as goal

pub returns-in_ok-pairs-in-Some-clause-grows : goal.returns-in_ok-pairs-in-Some-clause-grows
returns-in_ok-pairs-in-Some-clause-grows c = WorkGrows-trans c.args.history.now c.args.work.now c.named.new.work c.instance_fact.new.work c.named.ensures.grows c.instance_fact.ensures.grows

pub instance_fact-requires-clause-pairs : goal.instance_fact-requires-clause-pairs
instance_fact-requires-clause-pairs c =
    subst (ArePairsIn c.args.history.now c.named.new.work) (sym (c.in_ok-pairs-in-Some.ensures.copy ∙ c.as_slice.ensures.value)) (pairs_in_grown c.args.history.now c.args.work.now c.named.new.work c.args.instance.now.pairs.items c.requires.stands c.named.ensures.grows c.requires.pairs)
