use Rattle.std.proofs.Common.{◌∷◌, [], ℕ}
use Rattle.nq_logic.specs.Words.{true_term}
use Rattle.nq_rule.proofs.Made.{for_ok}
use Rattle.nq_kernel.specs.Growing.{LineHolds}
use Rattle.nq_quick.specs.Decisions.{Decides}
use Rattle.nq_quick.proofs.ClosingLemmas.{closed_truth}
use Rattle.nq_quick.proofs.closings.decide_truth.Goals as goal

pub returns-clause-line : goal.returns-clause-line
returns-clause-line c =
    let P : ℕ → Type 0 = λ n. LineHolds c.add_truth.new.work n (true_term ∷ []) in
    let Q : ℕ → Type 0 = λ n. Decides c.add_truth.new.work n c.args.assignment.now c.args.t in
    for_ok c.add_truth.result P Q (λ n h. closed_truth c.args.work.now c.add_truth.new.work n c.args.assignment.now c.args.t c.add_truth.ensures.grows.grows.bank c.requires.can c.requires.head h) c.add_truth.ensures.line
