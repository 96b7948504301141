use Rattle.std.proofs.Common.{subst}
use Rattle.std.specs.Prelude.{IfSome}
use Rattle.nq_kernel.proofs.GrowingLemmas.{WorkGrows-refl}
use Rattle.nq_legal.specs.Legal.{IsLegal}
use Rattle.nq_legal.proofs.simplifying.simplify_below.Goals as goal

pub returns-then-not-is_eliminated-clause-grows : goal.returns-then-not-is_eliminated-clause-grows
returns-then-not-is_eliminated-clause-grows g c = WorkGrows-refl c.args.history.now c.args.work.now c.requires.ready.stands

pub returns-else-is_idle-clause-legal : goal.returns-else-is_idle-clause-legal
returns-else-is_idle-clause-legal g c =
    subst (λ o. IfSome o (IsLegal c.args.history.now c.args.hints.now c.simplify.new.work c.args.goal.now)) c.in-Some.is c.in_ok-lead.ensures.legal
