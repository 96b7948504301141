use Rattle.std.proofs.Common.{◌∷◌, [], ℕ}
use Rattle.nq_logic.specs.Words.{not_term, false_term}
use Rattle.nq_rule.proofs.Made.{for_ok}
use Rattle.nq_kernel.specs.Growing.{LineHolds}
use Rattle.nq_quick.specs.Decisions.{Decides}
use Rattle.nq_quick.proofs.ClosingLemmas.{closed_falsity}
use Rattle.nq_quick.proofs.closings.decide_falsity.Goals as goal

pub returns-clause-line : goal.returns-clause-line
returns-clause-line c =
    let P : ℕ → Type 0 = λ n. LineHolds c.add_falsity.new.work n (not_term false_term ∷ []) in
    let Q : ℕ → Type 0 = λ n. Decides c.add_falsity.new.work n c.args.assignment.now c.args.t in
    for_ok c.add_falsity.result P Q (λ n h. closed_falsity c.args.work.now c.add_falsity.new.work n c.args.assignment.now c.args.t c.add_falsity.ensures.grows.grows.bank c.requires.can c.requires.head h) c.add_falsity.ensures.line
