use Rattle.std.proofs.Common.{ap₂, subst}
use Rattle.std.specs.Prelude.{IfOk}
use Rattle.nq_logic.specs.Terms.{Term}
use Rattle.nq_logic.specs.Words.{call2}
use Rattle.nq_bank.specs.Content.{IsIdOf}
use Rattle.nq_kernel.proofs.GrowingLemmas.{WorkGrows-trans}
use Rattle.nq_lines.proofs.TermLemmas.{term_grown, same_term_grown}
use Rattle.nq_schemes.proofs.single.fall_at.Goals as goal

pub below-requires-clause-right : goal.below-requires-clause-right
below-requires-clause-right c = term_grown c.args.history.now c.args.work.now c.instance_of.new.work c.args.measure c.requires.stands c.instance_of.ensures.grows c.requires.measure

pub returns-clause-falls : goal.returns-clause-falls
returns-clause-falls c =
    subst (λ (t : Term). IfOk c.below.result (λ s. IsIdOf c.below.new.work.bank s t))
    (ap₂ (λ (t u : Term). call2 "ORD-LESSP" t u) c.in_ok-smaller.ensures.term.denotes (same_term_grown c.args.history.now c.args.work.now c.instance_of.new.work c.args.measure c.instance_of.ensures.grows c.requires.measure)) c.below.ensures.below

pub returns-clause-grows : goal.returns-clause-grows
returns-clause-grows c = WorkGrows-trans c.args.history.now c.args.work.now c.instance_of.new.work c.below.new.work c.instance_of.ensures.grows c.below.ensures.grows
