use Rattle.std.proofs.Common.{subst}
use Rattle.std.specs.Prelude.{IfSome}
use Rattle.nq_kernel.proofs.GrowingLemmas.{WorkGrows-trans}
use Rattle.nq_lines.specs.Instances.{ArePairsIn}
use Rattle.nq_lines.proofs.LineLemmas.{line_grown}
use Rattle.nq_rewrite.proofs.true_calls.instance_at.Goals as goal

pub add_instance-requires-clause-line : goal.add_instance-requires-clause-line
add_instance-requires-clause-line c = line_grown c.args.history.now c.args.work.now c.match_pairs.new.work c.args.line c.requires.stands c.match_pairs.ensures.grows c.requires.line

pub add_instance-requires-clause-pairs : goal.add_instance-requires-clause-pairs
add_instance-requires-clause-pairs c = subst (λ o. IfSome o (λ ps. ArePairsIn c.args.history.now c.match_pairs.new.work ps.items)) c.in-Some.is c.in_ok-pairs.ensures.pairs

pub returns-in_err-made-in-Some-clause-grows : goal.returns-in_err-made-in-Some-clause-grows
returns-in_err-made-in-Some-clause-grows c = WorkGrows-trans c.args.history.now c.args.work.now c.match_pairs.new.work c.add_instance.new.work c.match_pairs.ensures.grows c.add_instance.ensures.grows

pub returns-in_ok-made-in-Some-clause-grows : goal.returns-in_ok-made-in-Some-clause-grows
returns-in_ok-made-in-Some-clause-grows c = WorkGrows-trans c.args.history.now c.args.work.now c.match_pairs.new.work c.add_instance.new.work c.match_pairs.ensures.grows c.add_instance.ensures.grows
