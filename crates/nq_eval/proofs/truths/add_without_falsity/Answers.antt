use Rattle.std.proofs.Common.{◌∷◌, []}
use Rattle.nq_logic.specs.Words.{false_term}
use Rattle.nq_eval.proofs.LineLemmas.{grown_trans, held_after}
use Rattle.nq_eval.proofs.TruthLemmas.{truth_after, falsity_after}
use Rattle.nq_eval.proofs.truths.add_without_falsity.Goals as goal

pub cut_falsity-requires-clause-truth : goal.cut_falsity-requires-clause-truth
cut_falsity-requires-clause-truth c = truth_after c.args.history.now c.args.work.now c.add_falsity.new.work c.requires.stands c.add_falsity.ensures.grows c.args.v c.requires.truth

pub cut_falsity-requires-clause-falsity : goal.cut_falsity-requires-clause-falsity
cut_falsity-requires-clause-falsity c = falsity_after c.args.history.now c.args.work.now c.add_falsity.new.work c.requires.stands c.add_falsity.ensures.grows c.args.f c.requires.falsity

pub cut_falsity-requires-clause-first : goal.cut_falsity-requires-clause-first
cut_falsity-requires-clause-first c = held_after c.args.history.now c.args.work.now c.add_falsity.new.work c.args.line c.args.v c.args.v (λ t u. t ∷ false_term ∷ []) c.requires.stands c.add_falsity.ensures.grows c.requires.truth.usable.stands c.requires.truth.usable.stands c.requires.line

pub returns-clause-grows : goal.returns-clause-grows
returns-clause-grows c = grown_trans c.args.history.now c.args.work.now c.add_falsity.new.work c.cut_falsity.new.work c.add_falsity.ensures.grows c.cut_falsity.ensures.grows
