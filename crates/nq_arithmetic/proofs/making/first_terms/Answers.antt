use Rattle.nq_kernel.proofs.GrowingLemmas.{WorkGrows-trans}
use Rattle.nq_lines.proofs.TermLemmas.{term_grown}
use Rattle.nq_arithmetic.proofs.Lemmas.{terms_four}
use Rattle.nq_arithmetic.proofs.making.first_terms.Goals as goal

pub returns-in_err-true_term-clause-grows : goal.returns-in_err-true_term-clause-grows
returns-in_err-true_term-clause-grows c = WorkGrows-trans c.args.history.now c.args.work.now c.zero.new.work c.truth.new.work c.zero.ensures.grows c.truth.ensures.grows

pub returns-in-Ok-clause-terms : goal.returns-in-Ok-clause-terms
returns-in-Ok-clause-terms c = let grows = WorkGrows-trans c.args.history.now c.args.work.now c.zero.new.work c.truth.new.work c.zero.ensures.grows c.truth.ensures.grows in terms_four c.args.history.now c.truth.new.work c.in-Ok.terms.items c.args.x c.args.y c.in_ok-none.none c.in_ok-true_term.true_term c.in-Ok.ensures.items (term_grown c.args.history.now c.args.work.now c.truth.new.work c.args.x c.requires.stands grows c.requires.first) (term_grown c.args.history.now c.args.work.now c.truth.new.work c.args.y c.requires.stands grows c.requires.second) (term_grown c.args.history.now c.zero.new.work c.truth.new.work c.in_ok-none.none c.zero.ensures.grows.stands c.truth.ensures.grows c.in_ok-none.ensures.term) c.in_ok-true_term.ensures.term

pub returns-in-Ok-clause-grows : goal.returns-in-Ok-clause-grows
returns-in-Ok-clause-grows c = WorkGrows-trans c.args.history.now c.args.work.now c.zero.new.work c.truth.new.work c.zero.ensures.grows c.truth.ensures.grows

pub returns-in-Err-clause-grows : goal.returns-in-Err-clause-grows
returns-in-Err-clause-grows c = WorkGrows-trans c.args.history.now c.args.work.now c.zero.new.work c.truth.new.work c.zero.ensures.grows c.truth.ensures.grows
