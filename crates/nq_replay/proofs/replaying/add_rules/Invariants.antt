-- The lines so far stand, and the rules that are left give after them what all rules give.
use Rattle.std.proofs.Common.{◌≡◌, drop}
use Rattle.std.specs.Prelude.{All}
use Rattle.nq_bank.specs.Content.{terms_at}
use Rattle.nq_bank.specs.Shells.{texts_at}
use Rattle.nq_kernel.specs.Growing.{LineStands}
use Rattle.nq_replay.specs.Uncounted.{GrowsUncounted}
use Rattle.nq_replay.specs.Replaying.{after_rules}
use Rattle.nq_replay.specs.Parts.{lines_held}
use Rattle.nq_replay.proofs.replaying.add_rules.Given as goal

abbrev pub invariant-loop-rule : goal.invariant-loop-rule
invariant-loop-rule l =
    record {
      grows : GrowsUncounted l.history l.fn.work l.work;
      lines : All (LineStands l.work) l.numbers.items;
      rest : after_rules (texts_at l.fn.work.bank l.parts.names.items) (terms_at l.fn.work.bank l.parts.terms.items) (lines_held l.work l.numbers.items) (drop l.rule-index l.rules) ≡ after_rules (texts_at l.fn.work.bank l.parts.names.items) (terms_at l.fn.work.bank l.parts.terms.items) (lines_held l.fn.work l.fn.numbers.items) l.rules;
    }
