use Rattle.std.proofs.Common.{◌∷◌, [], ℕ}
use Rattle.nq_logic.specs.Words.{not_term}
use Rattle.nq_bank.specs.Content.{term_at}
use Rattle.nq_proof.specs.Clauses.{distinct}
use Rattle.nq_rule.proofs.Made.{for_ok}
use Rattle.nq_kernel.specs.Growing.{LineHolds}
use Rattle.nq_quick.specs.Decisions.{Decides}
use Rattle.nq_quick.proofs.ClosingLemmas.{closed_other, other_room}
use Rattle.nq_quick.proofs.closings.decide_other.Goals as goal

pub add_either-requires-clause-room : goal.add_either-requires-clause-room
add_either-requires-clause-room c = other_room c.args.work.now.bank c.args.assignment.now c.args.t c.requires.can c.requires.head c.is_sound.ensures

pub returns-clause-line : goal.returns-clause-line
returns-clause-line c =
    let u = term_at c.args.work.now.bank c.args.t in
    let P : ℕ → Type 0 = λ n. LineHolds c.add_either.new.work n (distinct (u ∷ not_term u ∷ [])) in
    let Q : ℕ → Type 0 = λ n. Decides c.add_either.new.work n c.args.assignment.now c.args.t in
    for_ok c.add_either.result P Q (λ n h. closed_other c.args.work.now c.add_either.new.work n c.args.assignment.now c.args.t c.add_either.ensures.grows.grows.bank c.requires.can c.requires.head h) c.add_either.ensures.line

pub add_either-requires-clause-over : goal.add_either-requires-clause-over
add_either-requires-clause-over c = c.requires.can.over.over
