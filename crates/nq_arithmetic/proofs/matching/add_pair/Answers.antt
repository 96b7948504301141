use Rattle.nq_kernel.proofs.GrowingLemmas.{WorkGrows-refl}
use Rattle.nq_arithmetic.proofs.Lemmas.{all_grown, pushed}
use Rattle.nq_arithmetic.proofs.matching.add_pair.Goals as goal

pub returns-then-not-are_alike-clause-grows : goal.returns-then-not-are_alike-clause-grows
returns-then-not-are_alike-clause-grows c = WorkGrows-refl c.args.history.now c.args.work.now c.requires.stands

pub returns-clause-pairs : goal.returns-clause-pairs
returns-clause-pairs c = pushed c.args.history.now c.call_two.new.work c.args.pairs.now.items c.push_term.new.terms.items c.in_ok-pair.pair c.in_ok-push_term.ensures.ok (all_grown c.args.history.now c.args.work.now c.call_two.new.work c.requires.stands c.call_two.ensures.grows c.args.pairs.now.items c.requires.pairs) c.in_ok-pair.ensures.term
