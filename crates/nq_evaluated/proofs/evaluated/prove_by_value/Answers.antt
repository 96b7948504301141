use Rattle.std.proofs.Common.{◌<◌, ◌≤◌, arith}
use Rattle.nq_logic.specs.Sizes.{depth_of}
use Rattle.nq_bank.specs.Content.{term_at}
use Rattle.nq_history.specs.Events.{events_at}
use Rattle.nq_fragments.specs.Outcomes.{term_depth}
use Rattle.nq_eval.proofs.LineLemmas.{grown_refl}
use Rattle.nq_evaluated.proofs.ValueLemmas.{deep_without, variable_without}
use Rattle.nq_evaluated.proofs.evaluated.prove_by_value.Goals as goal

pub returns-then-depth-gt-TERM_DEPTH-clause-answer : goal.returns-then-depth-gt-TERM_DEPTH-clause-answer
returns-then-depth-gt-TERM_DEPTH-clause-answer c =
    let bank = c.args.work.now.bank in
    let deep : term_depth < depth_of (term_at bank c.args.goal) = omega (arith, c.depth.ensures.depth, c.if-depth-gt-TERM_DEPTH.true) in
    deep_without (events_at bank c.args.history.now) (term_at bank c.args.goal) deep

pub returns-then-depth-gt-TERM_DEPTH-clause-grows : goal.returns-then-depth-gt-TERM_DEPTH-clause-grows
returns-then-depth-gt-TERM_DEPTH-clause-grows c = grown_refl c.args.history.now c.args.work.now c.requires.stands

pub returns-in_err-is_ground-clause-grows : goal.returns-in_err-is_ground-clause-grows
returns-in_err-is_ground-clause-grows c = grown_refl c.args.history.now c.args.work.now c.requires.stands

pub prove_ground-requires : goal.prove_ground-requires
prove_ground-requires c =
    let shallow : depth_of (term_at c.args.work.now.bank c.args.goal) ≤ term_depth = omega (arith, c.depth.ensures.depth, c.if-depth-gt-TERM_DEPTH.false) in
    record {
      stands = c.requires.stands;
      goal = record { stands = c.requires.goal; over = c.requires.over; shallow = shallow };
      ground = c.in_ok-is_ground.ensures.0 c.if-branch.true;
      ready = c.requires.ready;
    }

pub returns-else-branch-clause-answer : goal.returns-else-branch-clause-answer
returns-else-branch-clause-answer c =
    let bank = c.args.work.now.bank in
    variable_without (events_at bank c.args.history.now) (term_at bank c.args.goal) c.in_ok-is_ground.field-0 c.in_ok-is_ground.ensures c.if-branch.false

pub returns-else-branch-clause-grows : goal.returns-else-branch-clause-grows
returns-else-branch-clause-grows c = grown_refl c.args.history.now c.args.work.now c.requires.stands
