use Rattle.std.proofs.Common.{subst, sym}
use Rattle.std.specs.Prelude.{All}
use Rattle.nq_kernel.proofs.GrowingLemmas.{WorkGrows-refl, WorkGrows-trans}
use Rattle.nq_lines.specs.Lines.{IsTermIn}
use Rattle.nq_elim.proofs.GrownLemmas.{terms_grown}
use Rattle.nq_elim.proofs.eliminating.by_reason.Goals as goal

pub returns-then-is_futile-clause-grows : goal.returns-then-is_futile-clause-grows
returns-then-is_futile-clause-grows c = WorkGrows-refl c.args.history.now c.args.work.now c.requires.stands

pub returns-in_err-calls-clause-grows : goal.returns-in_err-calls-clause-grows
returns-in_err-calls-clause-grows c = WorkGrows-refl c.args.history.now c.args.work.now c.requires.stands

pub eliminated-requires-clause-goal : goal.eliminated-requires-clause-goal
eliminated-requires-clause-goal c = terms_grown c.args.history.now c.args.work.now c.with_kinds.new.work c.requires.stands c.with_kinds.ensures.grows c.args.goal.now c.requires.goal

pub eliminated-requires-clause-calls : goal.eliminated-requires-clause-calls
eliminated-requires-clause-calls c =
    terms_grown c.args.history.now c.args.work.now c.with_kinds.new.work c.requires.stands c.with_kinds.ensures.grows c.as_slice-2.result.now
    (subst (All (IsTermIn c.args.history.now c.args.work.now)) (sym c.as_slice-2.ensures.value) c.in_ok-calls.ensures.calls)

pub returns-clause-grows : goal.returns-clause-grows
returns-clause-grows c = WorkGrows-trans c.args.history.now c.args.work.now c.with_kinds.new.work c.eliminated.new.work c.with_kinds.ensures.grows c.eliminated.ensures.grows
