use Rattle.std.proofs.Common.{subst}
use Rattle.nq_kernel.proofs.GrowingLemmas.{WorkGrows-refl}
use Rattle.nq_legal.specs.Forms.{IsForm}
use Rattle.nq_legal.proofs.legal.Legal.lead_by_form.Goals as goal

pub returns-in-Falsity-clause-grows : goal.returns-in-Falsity-clause-grows
returns-in-Falsity-clause-grows g c = WorkGrows-refl c.args.history.now c.args.work.now c.requires.ready.stands

pub returns-in-Falsity-clause-turn : goal.returns-in-Falsity-clause-turn
returns-in-Falsity-clause-turn g c = subst (IsForm c.args.work.now.bank c.args.history.now c.args.hints.now c.args.path.now c.args.goal.now) c.in-Falsity.is c.requires.form
