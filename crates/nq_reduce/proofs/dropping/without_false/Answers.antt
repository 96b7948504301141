use Rattle.std.proofs.Common.{◌∙◌, sym, ap, subst}
use Rattle.std.specs.Prelude.{IfSome}
use Rattle.nq_logic.specs.Words.{equal_term, false_term}
use Rattle.nq_bank.specs.Content.{term_at, terms_at}
use Rattle.nq_kernel.proofs.GrowingLemmas.{WorkGrows-trans}
use Rattle.nq_lines.proofs.LineLemmas.{line_grown}
use Rattle.nq_lines.proofs.TermLemmas.{term_grown, same_term_grown}
use Rattle.nq_reduce.specs.Rewriting.{IsKnown}
use Rattle.nq_reduce.proofs.DroppingLemmas.{drops_before}
use Rattle.nq_reduce.proofs.RewritingLemmas.{can_grown, can_term, known_now}
use Rattle.nq_reduce.proofs.dropping.without_false.Goals as goal

pub settled-requires : goal.settled-requires
settled-requires c = record { can = can_term c.args.history.now c.args.work.now c.args.assumed.now c.args.t c.args.p c.requires.can c.requires.part }

pub without_false_of-requires-clause-can : goal.without_false_of-requires-clause-can
without_false_of-requires-clause-can c = can_grown c.args.history.now c.args.work.now c.settled.new.work c.settled.ensures.grows c.args.assumed.now c.args.t c.requires.can

pub without_false_of-requires-clause-line : goal.without_false_of-requires-clause-line
without_false_of-requires-clause-line c = line_grown c.args.history.now c.args.work.now c.settled.new.work c.args.line c.requires.can.stands c.settled.ensures.grows c.requires.line

pub without_false_of-requires-clause-known : goal.without_false_of-requires-clause-known
without_false_of-requires-clause-known c = known_now c.args.history.now c.args.assumed.now c.args.work.now c.settled.new.work c.args.p c.in-Some.known c.settled.ensures.grows (can_term c.args.history.now c.args.work.now c.args.assumed.now c.args.t c.args.p c.requires.can c.requires.part) (subst (λ o. IfSome o (IsKnown c.settled.new.work (terms_at c.args.work.now.bank c.args.assumed.now) (term_at c.args.work.now.bank c.args.p))) c.in-Some.is c.in_ok-known.ensures.known)

pub without_false_of-requires-clause-says : goal.without_false_of-requires-clause-says
without_false_of-requires-clause-says c = same_term_grown c.args.history.now c.args.work.now c.settled.new.work c.args.t c.settled.ensures.grows c.requires.can.term ∙ c.requires.says ∙ ap (λ u. equal_term u false_term) (sym (same_term_grown c.args.history.now c.args.work.now c.settled.new.work c.args.p c.settled.ensures.grows c.requires.part))

pub without_false_of-requires-clause-part : goal.without_false_of-requires-clause-part
without_false_of-requires-clause-part c = term_grown c.args.history.now c.args.work.now c.settled.new.work c.args.p c.requires.can.stands c.settled.ensures.grows c.requires.part

pub returns-in-Some-clause-line : goal.returns-in-Some-clause-line
returns-in-Some-clause-line c = drops_before c.args.history.now c.args.work.now c.settled.new.work c.without_false_of.new.work c.settled.ensures.grows c.args.assumed.now c.args.t c.args.line c.without_false_of.result c.requires.can c.without_false_of.ensures.line

pub returns-in-Some-clause-grows : goal.returns-in-Some-clause-grows
returns-in-Some-clause-grows c = (WorkGrows-trans c.args.history.now c.args.work.now c.settled.new.work c.without_false_of.new.work c.settled.ensures.grows c.without_false_of.ensures.grows)
