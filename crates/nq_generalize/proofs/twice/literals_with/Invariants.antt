-- The count so far is that of the literals so far.
use Rattle.std.proofs.Common.{◌≡◌, ◌≤◌, take}
use Rattle.nq_bank.specs.Content.{term_at, terms_at}
use Rattle.nq_goals.specs.Generalizing.{literals_with}
use Rattle.nq_generalize.proofs.twice.literals_with.Given as goal

abbrev pub invariant-loop-literal : goal.invariant-loop-literal
invariant-loop-literal l =
    record {
      so_far : l.count ≡ literals_with (term_at l.bank l.a) (terms_at l.bank (take l.literal-index l.goal));
      most : l.count ≤ l.literal-index;
    }
