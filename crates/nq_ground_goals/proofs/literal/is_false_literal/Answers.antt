use Rattle.std.proofs.Common.{◌≤◌, arith}
use Rattle.nq_logic.specs.Sizes.{depth_of}
use Rattle.nq_bank.specs.Content.{term_at}
use Rattle.nq_history.specs.Events.{events_at}
use Rattle.nq_fragments.specs.Outcomes.{term_depth}
use Rattle.nq_eval.proofs.LineLemmas.{grown_refl}
use Rattle.nq_ground_goals.proofs.FalseLemmas.{literal_told, value_back}
use Rattle.nq_ground_goals.proofs.literal.is_false_literal.Goals as goal

pub returns-then-depth-gt-TERM_DEPTH-clause-grows : goal.returns-then-depth-gt-TERM_DEPTH-clause-grows
returns-then-depth-gt-TERM_DEPTH-clause-grows c = grown_refl c.args.history.now c.args.work.now c.requires.stands

pub returns-clause-answer : goal.returns-clause-answer
returns-clause-answer c =
    let h = c.args.history.now in
    let bank = c.args.work.now.bank in
    let t = c.args.t in
    let shallow : depth_of (term_at bank t) ≤ term_depth = omega (arith, c.depth.ensures.depth, c.if-depth-gt-TERM_DEPTH.false) in
    literal_told (events_at bank h) (term_at bank t) c.in_ok-answer.answer c.requires.no_variable shallow (
    value_back h bank c.has_value_false.new.work.bank c.has_value_false.ensures.grows.grows.bank c.requires.stands.history t c.in_ok-answer.answer c.requires.literal.stands c.in_ok-answer.ensures.answer)
