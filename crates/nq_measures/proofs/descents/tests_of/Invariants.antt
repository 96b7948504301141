-- The tests so far are made.
use Rattle.std.proofs.Common.{◌≡◌, take}
use Rattle.std.specs.Prelude.{All}
use Rattle.nq_bank.specs.Content.{Stands, terms_at}
use Rattle.nq_replay.specs.Uncounted.{GrowsUncounted}
use Rattle.nq_calls.specs.Calls.{guards_at}
use Rattle.nq_measures.proofs.descents.tests_of.Given as goal

abbrev pub invariant-loop-guard : goal.invariant-loop-guard
invariant-loop-guard l =
    record {
      grows : GrowsUncounted l.history l.fn.work l.work;
      tests : terms_at l.work.bank l.tests.items ≡ guards_at l.fn.work.bank (take l.guard-index l.guards);
      stand : All (Stands l.work.bank) l.tests.items;
    }
