use Rattle.nq_bank.proofs.Growth.{IsNamed-grown}
use Rattle.nq_kernel.proofs.GrowingLemmas.{WorkGrows-trans}
use Rattle.nq_lines.proofs.FactLemmas.{own_terms_grown}
use Rattle.nq_arithmetic.proofs.Lemmas.{all_grown, instances_grown}
use Rattle.nq_arithmetic.proofs.bounding.add_bound.Goals as goal

pub add_matches-requires-clause-ready : goal.add_matches-requires-clause-ready
add_matches-requires-clause-ready c = own_terms_grown c.args.history.now c.args.work.now c.trigger_of.new.work c.trigger_of.ensures.grows c.requires.stands c.requires.ready

pub add_matches-requires-clause-name : goal.add_matches-requires-clause-name
add_matches-requires-clause-name c = IsNamed-grown c.args.work.now.bank c.trigger_of.new.work.bank c.args.name c.trigger_of.ensures.grows.bank c.requires.name

pub add_matches-requires-clause-found : goal.add_matches-requires-clause-found
add_matches-requires-clause-found c = instances_grown c.args.history.now c.args.work.now c.trigger_of.new.work c.requires.stands c.trigger_of.ensures.grows c.args.found.now.items c.requires.found

pub add_matches-requires-clause-terms : goal.add_matches-requires-clause-terms
add_matches-requires-clause-terms c = all_grown c.args.history.now c.args.work.now c.trigger_of.new.work c.requires.stands c.trigger_of.ensures.grows c.args.terms.now c.requires.terms

pub returns-in-Some-clause-grows : goal.returns-in-Some-clause-grows
returns-in-Some-clause-grows c = WorkGrows-trans c.args.history.now c.args.work.now c.trigger_of.new.work c.add_matches.new.work c.trigger_of.ensures.grows c.add_matches.ensures.grows

pub returns-in-None-clause-found : goal.returns-in-None-clause-found
returns-in-None-clause-found c = instances_grown c.args.history.now c.args.work.now c.trigger_of.new.work c.requires.stands c.trigger_of.ensures.grows c.args.found.now.items c.requires.found
