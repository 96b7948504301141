-- The goals so far are those of the hypotheses so far.
use Rattle.std.proofs.Common.{◌≡◌, map, take}
use Rattle.std.specs.Prelude.{All}
use Rattle.nq_bank.specs.Content.{terms_at}
use Rattle.nq_lines.specs.Lines.{IsTermIn}
use Rattle.nq_goals.specs.Eliminating.{hypothesis_goal}
use Rattle.nq_moves.specs.Found.{goals_at}
use Rattle.nq_moves.proofs.eliminating.hypothesis_children.Given as goal

abbrev pub invariant-loop-hypothesis : goal.invariant-loop-hypothesis
invariant-loop-hypothesis l =
    record {
      told : goals_at l.work.bank l.children.items ≡ map (hypothesis_goal (terms_at l.work.bank l.goal)) (terms_at l.work.bank (take l.hypothesis-index l.hypotheses));
      over : All (λ child. All (IsTermIn l.history l.work) child.items) l.children.items;
    }
