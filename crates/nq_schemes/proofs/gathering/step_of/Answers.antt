use Rattle.std.proofs.Common.{◌∙◌, sym, subst}
use Rattle.nq_lines.specs.Instances.{ArePairsIn}
use Rattle.nq_lines.proofs.InstanceLemmas.{pairs_in_grown}
use Rattle.nq_lines.proofs.TermLemmas.{term_grown}
use Rattle.nq_schemes.proofs.GrownLemmas.{basis_grown}
use Rattle.nq_schemes.proofs.gathering.step_of.Goals as goal

pub tested-requires-clause-basis : goal.tested-requires-clause-basis
tested-requires-clause-basis c = basis_grown c.args.history.now c.args.work.now c.gathered.new.work c.requires.stands c.gathered.ensures.grows c.args.basis.now c.requires.basis

pub tested-requires-clause-test : goal.tested-requires-clause-test
tested-requires-clause-test c = term_grown c.args.history.now c.args.work.now c.gathered.new.work c.args.test c.requires.stands c.gathered.ensures.grows c.requires.test

pub tested-requires-clause-step : goal.tested-requires-clause-step
tested-requires-clause-step c = record { line = c.in_ok-line.ensures.line; pairs = subst (ArePairsIn c.args.history.now c.gathered.new.work) (sym (c.in_ok-pairs.ensures.copy ∙ c.as_slice.ensures.value)) (pairs_in_grown c.args.history.now c.args.work.now c.gathered.new.work c.args.start.now.pairs.items c.requires.stands c.gathered.ensures.grows c.requires.start.pairs) }
