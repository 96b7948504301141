use Rattle.std.proofs.Common.{◌∷◌, []}
use Rattle.nq_logic.specs.Words.{not_term}
use Rattle.nq_bank.specs.Content.{term_at, terms_at}
use Rattle.nq_kernel.proofs.GrowingLemmas.{WorkGrows-trans}
use Rattle.nq_lines.proofs.LineLemmas.{leads_only, line_grown, only_stands}
use Rattle.nq_lines.proofs.TermLemmas.{term_grown}
use Rattle.nq_reduce.proofs.StepLemmas.{turned_false}
use Rattle.nq_reduce.proofs.settling.turned_denied.Goals as goal

pub symmetric-requires-clause-left : goal.symmetric-requires-clause-left
symmetric-requires-clause-left c = term_grown c.args.history.now c.args.work.now c.opposites.new.work c.args.sides.left c.requires.can.stands c.opposites.ensures.grows c.requires.sides.left

pub symmetric-requires-clause-right : goal.symmetric-requires-clause-right
symmetric-requires-clause-right c = term_grown c.args.history.now c.args.work.now c.opposites.new.work c.args.sides.right c.requires.can.stands c.opposites.ensures.grows c.requires.sides.right

pub symmetric-requires-clause-line : goal.symmetric-requires-clause-line
symmetric-requires-clause-line c = only_stands c.opposites.new.work c.in_ok-either.either _ (leads_only c.opposites.new.work c.in_ok-either.either (term_at c.args.work.now.bank c.args.t) (not_term (term_at c.args.work.now.bank c.args.t) ∷ []) c.in_ok-either.ensures.line)

pub cut-requires-clause-second : goal.cut-requires-clause-second
cut-requires-clause-second c = line_grown c.args.history.now c.args.work.now c.symmetric.new.work c.args.known.line c.requires.can.stands (WorkGrows-trans c.args.history.now c.args.work.now c.opposites.new.work c.symmetric.new.work c.opposites.ensures.grows c.symmetric.ensures.grows) (only_stands c.args.work.now c.args.known.line _ c.requires.known.shown)

pub cut-requires-clause-term : goal.cut-requires-clause-term
cut-requires-clause-term c = term_grown c.args.history.now c.args.work.now c.symmetric.new.work c.args.turned c.requires.can.stands (WorkGrows-trans c.args.history.now c.args.work.now c.opposites.new.work c.symmetric.new.work c.opposites.ensures.grows c.symmetric.ensures.grows) c.requires.turned.there

pub returns-in_err-other-clause-grows : goal.returns-in_err-other-clause-grows
returns-in_err-other-clause-grows c = (WorkGrows-trans c.args.history.now c.args.work.now c.opposites.new.work c.symmetric.new.work c.opposites.ensures.grows c.symmetric.ensures.grows)

pub returns-in_err-line-clause-grows : goal.returns-in_err-line-clause-grows
returns-in_err-line-clause-grows c = (WorkGrows-trans c.args.history.now c.args.work.now c.opposites.new.work c.cut.new.work c.opposites.ensures.grows (WorkGrows-trans c.args.history.now c.opposites.new.work c.symmetric.new.work c.cut.new.work c.symmetric.ensures.grows c.cut.ensures.grows))

pub returns-clause-known : goal.returns-clause-known
returns-clause-known c = turned_false c.args.history.now c.args.work.now c.opposites.new.work c.symmetric.new.work c.cut.new.work (terms_at c.args.work.now.bank c.args.assumed.now) c.args.t c.args.sides c.args.turned c.args.known c.in_ok-either.either c.in_ok-other.other c.in_ok-line.line c.requires.can.stands c.opposites.ensures.grows c.symmetric.ensures.grows c.requires.sides c.requires.turned c.requires.denied c.requires.known c.in_ok-either.ensures.line c.in_ok-other.ensures.line c.in_ok-line.ensures.line

pub returns-clause-grows : goal.returns-clause-grows
returns-clause-grows c = (WorkGrows-trans c.args.history.now c.args.work.now c.opposites.new.work c.cut.new.work c.opposites.ensures.grows (WorkGrows-trans c.args.history.now c.opposites.new.work c.symmetric.new.work c.cut.new.work c.symmetric.ensures.grows c.cut.ensures.grows))
