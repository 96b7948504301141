use Rattle.std.proofs.Common.{◌≡◌, ◌∷◌, ℕ, List}
use Rattle.nq_logic.specs.Terms.{Term}
use Rattle.nq_logic.specs.Words.{not_term}
use Rattle.nq_bank.specs.Content.{term_at}
use Rattle.nq_rule.proofs.Made.{for_ok}
use Rattle.nq_kernel.specs.declared.rule.Rule.TheVariants.{Join}
use Rattle.nq_kernel.specs.Meaning.{clause_at, conclusion_at}
use Rattle.nq_quick.specs.Lines.{LineHasOnly, if_at}
use Rattle.nq_quick.proofs.LineLemmas.{join_allowed, join_only, join_shallow, only_same}
use Rattle.nq_quick.proofs.InLemmas.{choice_over}
use Rattle.nq_quick.proofs.lines.add_join.Goals as goal

pub add_line-requires-clause-allowed : goal.add_line-requires-clause-allowed
add_line-requires-clause-allowed c = join_allowed c.args.history.now c.args.work.now c.args.first c.args.second c.args.parts c.requires.first c.requires.second

pub add_line-requires-clause-shallow : goal.add_line-requires-clause-shallow
add_line-requires-clause-shallow c = join_shallow c.args.history.now c.args.work.now c.args.first c.args.second c.args.parts c.args.t c.is_sound.ensures c.requires.stands c.requires.first c.requires.second c.requires.whole

pub returns-clause-line : goal.returns-clause-line
returns-clause-line c =
    let p : Term = term_at c.args.work.now.bank c.args.parts.test in
    let x : Term = term_at c.args.work.now.bank c.args.parts.first in
    let y : Term = term_at c.args.work.now.bank c.args.parts.second in
    let P : ℕ → Type 0 = λ n. clause_at c.add_line.new.work.bank c.add_line.new.work.log n ≡ conclusion_at c.args.work.now.bank c.args.history.now c.args.work.now.log (Join c.args.first c.args.second c.args.parts) in
    let Q : ℕ → Type 0 = λ n. (these : List Term) → LineHasOnly c.args.work.now c.args.first (not_term p ∷ x ∷ these) → LineHasOnly c.args.work.now c.args.second (p ∷ y ∷ these) → LineHasOnly c.add_line.new.work n (if_at c.args.work.now.bank c.args.parts ∷ these) in
    for_ok c.add_line.result P Q (λ n e these h k. only_same _ _ (if_at c.args.work.now.bank c.args.parts ∷ these) e (join_only c.args.history.now c.args.work.now c.args.first c.args.second c.args.parts these h k)) c.add_line.ensures.line

pub add_line-requires-clause-over : goal.add_line-requires-clause-over
add_line-requires-clause-over c =
    let parts = choice_over c.args.work.now.bank c.args.history.now c.args.t (term_at c.args.work.now.bank c.args.parts.test) (term_at c.args.work.now.bank c.args.parts.first) (term_at c.args.work.now.bank c.args.parts.second) c.requires.whole.denotes c.requires.over in
    record { terms = (parts.0, (parts.1, (parts.2, tt))); names = tt }
