use Rattle.std.proofs.Common.{sym, subst}
use Rattle.std.specs.Prelude.{All}
use Rattle.nq_bank.proofs.Standing.{All-push}
use Rattle.nq_lines.proofs.FactLemmas.{own_terms_grown}
use Rattle.nq_lines.specs.Lines.{IsTermIn}
use Rattle.nq_schemes.proofs.GrownLemmas.{terms_grown}
use Rattle.nq_kernel.proofs.GrowingLemmas.{WorkGrows-trans}
use Rattle.nq_schemes.proofs.owed.owed_fall.Goals as goal

pub owed_goal-requires-clause-own : goal.owed_goal-requires-clause-own
owed_goal-requires-clause-own c = own_terms_grown c.args.history.now c.args.work.now c.falls_at.new.work c.falls_at.ensures.grows c.requires.stands c.requires.basis.own

pub owed_goal-requires-clause-goal : goal.owed_goal-requires-clause-goal
owed_goal-requires-clause-goal c = subst (All (IsTermIn c.args.history.now c.falls_at.new.work)) (sym c.in_ok-goal.ensures.all) (All-push (IsTermIn c.args.history.now c.falls_at.new.work) c.args.literals.now c.in_ok-falls.falls (terms_grown c.args.history.now c.args.work.now c.falls_at.new.work c.requires.stands c.falls_at.ensures.grows c.args.literals.now c.requires.literals) c.in_ok-falls.ensures.over)

pub returns-clause-grows : goal.returns-clause-grows
returns-clause-grows c = WorkGrows-trans c.args.history.now c.args.work.now c.falls_at.new.work c.owed_goal.new.work c.falls_at.ensures.grows c.owed_goal.ensures.grows
