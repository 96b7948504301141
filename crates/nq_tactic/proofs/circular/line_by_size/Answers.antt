use Rattle.std.proofs.Common.{subst}
use Rattle.std.specs.Prelude.{IfSome}
use Rattle.nq_kernel.specs.Growing.{LineStands}
use Rattle.nq_kernel.proofs.GrowingLemmas.{WorkGrows-trans}
use Rattle.nq_lines.specs.Lines.{IsTermIn}
use Rattle.nq_lines.proofs.FactLemmas.{own_terms_grown}
use Rattle.nq_lines.proofs.TermLemmas.{term_grown}
use Rattle.nq_tactic.proofs.circular.line_by_size.Goals as goal

pub line_by_sizes-requires-clause-ready : goal.line_by_sizes-requires-clause-ready
line_by_sizes-requires-clause-ready c = own_terms_grown c.args.history.now c.args.work.now c.equal_size.new.work c.equal_size.ensures.grows c.requires.stands c.requires.ready

pub line_by_sizes-requires-clause-size : goal.line_by_sizes-requires-clause-size
line_by_sizes-requires-clause-size c = term_grown c.args.history.now c.args.work.now c.equal_size.new.work c.args.size c.requires.stands c.equal_size.ensures.grows c.requires.size

pub line_by_sizes-requires-clause-other : goal.line_by_sizes-requires-clause-other
line_by_sizes-requires-clause-other c = subst (λ o. IfSome o (λ r. IsTermIn c.args.history.now c.equal_size.new.work r.term)) c.in-Some.is c.in_ok-other.ensures.term

pub line_by_sizes-requires-clause-equal : goal.line_by_sizes-requires-clause-equal
line_by_sizes-requires-clause-equal c = subst (λ o. IfSome o (λ r. LineStands c.equal_size.new.work r.line)) c.in-Some.is c.in_ok-other.ensures.line

pub returns-in-Some-clause-grows : goal.returns-in-Some-clause-grows
returns-in-Some-clause-grows c = WorkGrows-trans c.args.history.now c.args.work.now c.equal_size.new.work c.line_by_sizes.new.work c.equal_size.ensures.grows c.line_by_sizes.ensures.grows
