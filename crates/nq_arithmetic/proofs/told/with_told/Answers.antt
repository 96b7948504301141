use Rattle.std.proofs.Common.{subst, sym, arith}
use Rattle.std.specs.Prelude.{All}
use Rattle.nq_instances.specs.Parts.{IsLine}
use Rattle.nq_arithmetic.proofs.told.with_told.Goals as goal

pub add_facts-requires-clause-facts : goal.add_facts-requires-clause-facts
add_facts-requires-clause-facts c = subst (All (IsLine c.args.history.now c.args.work.now)) (sym c.new-facts.ensures.items) (λ k d below. absurd (omega (arith, below)))
