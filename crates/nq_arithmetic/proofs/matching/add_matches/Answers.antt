use Rattle.std.proofs.Common.{subst, sym}
use Rattle.std.specs.Prelude.{All}
use Rattle.nq_bank.proofs.Growth.{IsNamed-grown}
use Rattle.nq_kernel.proofs.GrowingLemmas.{WorkGrows-trans}
use Rattle.nq_lines.proofs.FactLemmas.{own_terms_grown}
use Rattle.nq_lines.proofs.TermLemmas.{term_grown}
use Rattle.nq_lines.specs.Lines.{IsTermIn}
use Rattle.nq_arithmetic.proofs.Lemmas.{instances_grown}
use Rattle.nq_arithmetic.proofs.matching.add_matches.Goals as goal

pub add_targets-requires-clause-ready : goal.add_targets-requires-clause-ready
add_targets-requires-clause-ready c = own_terms_grown c.args.history.now c.args.work.now c.targets_of.new.work c.targets_of.ensures.grows c.requires.stands c.requires.ready

pub add_targets-requires-clause-name : goal.add_targets-requires-clause-name
add_targets-requires-clause-name c = IsNamed-grown c.args.work.now.bank c.targets_of.new.work.bank c.args.name c.targets_of.ensures.grows.bank c.requires.name

pub add_targets-requires-clause-found : goal.add_targets-requires-clause-found
add_targets-requires-clause-found c = instances_grown c.args.history.now c.args.work.now c.targets_of.new.work c.requires.stands c.targets_of.ensures.grows c.args.found.now.items c.requires.found

pub add_targets-requires-clause-pattern : goal.add_targets-requires-clause-pattern
add_targets-requires-clause-pattern c = term_grown c.args.history.now c.args.work.now c.targets_of.new.work c.args.trigger.pattern c.requires.stands c.targets_of.ensures.grows c.requires.trigger

pub add_targets-requires-clause-targets : goal.add_targets-requires-clause-targets
add_targets-requires-clause-targets c = subst (All (IsTermIn c.args.history.now c.targets_of.new.work)) (sym c.as_slice.ensures.value) c.in_ok-targets.ensures.targets

pub returns-clause-grows : goal.returns-clause-grows
returns-clause-grows c = WorkGrows-trans c.args.history.now c.args.work.now c.targets_of.new.work c.add_targets.new.work c.targets_of.ensures.grows c.add_targets.ensures.grows
