use Rattle.std.proofs.Common.{◌∙◌, sym, subst}
use Rattle.std.specs.Prelude.{All}
use Rattle.nq_bank.proofs.Standing.{All-push}
use Rattle.nq_kernel.proofs.GrowingLemmas.{WorkGrows-trans}
use Rattle.nq_lines.proofs.FactLemmas.{own_terms_grown}
use Rattle.nq_lines.specs.Lines.{IsTermIn}
use Rattle.nq_lines.proofs.TermLemmas.{term_grown}
use Rattle.nq_schemes.proofs.GrownLemmas.{terms_grown}
use Rattle.nq_schemes.proofs.starting.further_line.Goals as goal

pub line_at_hand-requires-clause-own : goal.line_at_hand-requires-clause-own
line_at_hand-requires-clause-own c = own_terms_grown c.args.history.now c.args.work.now c.falls_at.new.work c.falls_at.ensures.grows c.requires.stands c.requires.basis.own

pub line_at_hand-requires-clause-goal : goal.line_at_hand-requires-clause-goal
line_at_hand-requires-clause-goal c = subst (All (IsTermIn c.args.history.now c.falls_at.new.work)) (sym (c.as_slice-2.ensures.value ∙ c.in_ok-goal.ensures.all)) (All-push (IsTermIn c.args.history.now c.falls_at.new.work) c.as_slice.result.now c.in_ok-falls.falls (subst (All (IsTermIn c.args.history.now c.falls_at.new.work)) (sym c.as_slice.ensures.value) (terms_grown c.args.history.now c.args.work.now c.falls_at.new.work c.requires.stands c.falls_at.ensures.grows c.args.literals.now.items c.requires.literals)) c.in_ok-falls.ensures.over)

pub fall_line-requires-clause-literals : goal.fall_line-requires-clause-literals
fall_line-requires-clause-literals c = terms_grown c.args.history.now c.args.work.now c.line_at_hand.new.work c.requires.stands (WorkGrows-trans c.args.history.now c.args.work.now c.falls_at.new.work c.line_at_hand.new.work c.falls_at.ensures.grows c.line_at_hand.ensures.grows) c.args.literals.now.items c.requires.literals

pub fall_line-requires-clause-falls : goal.fall_line-requires-clause-falls
fall_line-requires-clause-falls c = term_grown c.args.history.now c.falls_at.new.work c.line_at_hand.new.work c.in_ok-falls.falls c.falls_at.ensures.grows.stands c.line_at_hand.ensures.grows c.in_ok-falls.ensures.over

pub returns-in_err-found-clause-grows : goal.returns-in_err-found-clause-grows
returns-in_err-found-clause-grows c = WorkGrows-trans c.args.history.now c.args.work.now c.falls_at.new.work c.line_at_hand.new.work c.falls_at.ensures.grows c.line_at_hand.ensures.grows

pub returns-in-Some-clause-grows : goal.returns-in-Some-clause-grows
returns-in-Some-clause-grows c = WorkGrows-trans c.args.history.now c.args.work.now c.falls_at.new.work c.line_at_hand.new.work c.falls_at.ensures.grows c.line_at_hand.ensures.grows

pub returns-in-Some-clause-literals : goal.returns-in-Some-clause-literals
returns-in-Some-clause-literals c = terms_grown c.args.history.now c.args.work.now c.line_at_hand.new.work c.requires.stands (WorkGrows-trans c.args.history.now c.args.work.now c.falls_at.new.work c.line_at_hand.new.work c.falls_at.ensures.grows c.line_at_hand.ensures.grows) c.args.literals.now.items c.requires.literals

pub returns-clause-grows : goal.returns-clause-grows
returns-clause-grows c = WorkGrows-trans c.args.history.now c.args.work.now c.line_at_hand.new.work c.fall_line.new.work (WorkGrows-trans c.args.history.now c.args.work.now c.falls_at.new.work c.line_at_hand.new.work c.falls_at.ensures.grows c.line_at_hand.ensures.grows) c.fall_line.ensures.grows
