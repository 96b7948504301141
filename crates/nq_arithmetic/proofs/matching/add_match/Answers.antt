use Rattle.nq_bank.proofs.Growth.{IsNamed-grown}
use Rattle.nq_kernel.proofs.GrowingLemmas.{WorkGrows-refl, WorkGrows-trans}
use Rattle.nq_lines.proofs.FactLemmas.{own_terms_grown}
use Rattle.nq_arithmetic.proofs.Lemmas.{instances_grown}
use Rattle.nq_arithmetic.proofs.matching.add_match.Goals as goal

pub returns-then-not-are_alike-clause-grows : goal.returns-then-not-are_alike-clause-grows
returns-then-not-are_alike-clause-grows c = WorkGrows-refl c.args.history.now c.args.work.now c.requires.stands

pub add_named-requires-clause-ready : goal.add_named-requires-clause-ready
add_named-requires-clause-ready c = own_terms_grown c.args.history.now c.args.work.now c.match_pairs.new.work c.match_pairs.ensures.grows c.requires.stands c.requires.ready

pub add_named-requires-clause-name : goal.add_named-requires-clause-name
add_named-requires-clause-name c = IsNamed-grown c.args.work.now.bank c.match_pairs.new.work.bank c.args.name c.match_pairs.ensures.grows.bank c.requires.name

pub add_named-requires-clause-found : goal.add_named-requires-clause-found
add_named-requires-clause-found c = instances_grown c.args.history.now c.args.work.now c.match_pairs.new.work c.requires.stands c.match_pairs.ensures.grows c.args.found.now.items c.requires.found

pub returns-in-Some-clause-grows : goal.returns-in-Some-clause-grows
returns-in-Some-clause-grows c = WorkGrows-trans c.args.history.now c.args.work.now c.match_pairs.new.work c.add_named.new.work c.match_pairs.ensures.grows c.add_named.ensures.grows

pub returns-in-None-clause-found : goal.returns-in-None-clause-found
returns-in-None-clause-found c = instances_grown c.args.history.now c.args.work.now c.match_pairs.new.work c.requires.stands c.match_pairs.ensures.grows c.args.found.now.items c.requires.found
