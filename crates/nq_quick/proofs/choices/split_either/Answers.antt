use Rattle.std.proofs.Common.{◌≡◌, ℕ, Bool, true, false, ap, sym, subst}
use Rattle.std.specs.Prelude.{is_some, IfOk}
use Rattle.nq_logic.specs.Words.{not_term}
use Rattle.nq_bank.specs.Content.{term_at}
use Rattle.nq_rule.proofs.Made.{for_ok}
use Rattle.nq_kernel.specs.declared.rule.Rule.TheVariants.{SplitFirst, SplitSecond}
use Rattle.nq_kernel.specs.Meaning.{clause_at, conclusion_at}
use Rattle.nq_quick.specs.Lines.{LineHasOnly, HasOnly, if_at}
use Rattle.nq_quick.proofs.LineLemmas.{only_same}
use Rattle.nq_quick.proofs.ChoiceLemmas.{split_of}
use Rattle.nq_quick.proofs.SplitLemmas.{first_split_given, second_split_given, split_only, split_shallow}
use Rattle.nq_quick.proofs.choices.split_either.Goals as goal

pub add_line-requires-clause-allowed : goal.add_line-requires-clause-allowed
add_line-requires-clause-allowed c = ap is_some (first_split_given c.args.history.now c.args.work.now c.args.either c.args.parts c.requires.either)

pub add_line-requires-clause-shallow : goal.add_line-requires-clause-shallow
add_line-requires-clause-shallow c =
    let o = conclusion_at c.args.work.now.bank c.args.history.now c.args.work.now.log (SplitFirst c.args.either 1) in
    let only : HasOnly o (split_of c.args.work.now.bank c.args.parts true) = split_only c.args.history.now c.args.work.now o (if_at c.args.work.now.bank c.args.parts) (not_term (term_at c.args.work.now.bank c.args.parts.test)) (term_at c.args.work.now.bank c.args.parts.first) (first_split_given c.args.history.now c.args.work.now c.args.either c.args.parts c.requires.either) in
    split_shallow c.args.history.now c.args.work.now o c.args.either c.args.parts true c.is_sound.ensures c.requires.stands c.requires.parts c.requires.either only

pub add_line-requires-else-test-clause-allowed : goal.add_line-requires-else-test-clause-allowed
add_line-requires-else-test-clause-allowed c = ap is_some (second_split_given c.args.history.now c.args.work.now c.args.either c.args.parts c.requires.either)

pub add_line-requires-else-test-clause-shallow : goal.add_line-requires-else-test-clause-shallow
add_line-requires-else-test-clause-shallow c =
    let o = conclusion_at c.args.work.now.bank c.args.history.now c.args.work.now.log (SplitSecond c.args.either 1) in
    let only : HasOnly o (split_of c.args.work.now.bank c.args.parts false) = split_only c.args.history.now c.args.work.now o (if_at c.args.work.now.bank c.args.parts) (term_at c.args.work.now.bank c.args.parts.test) (term_at c.args.work.now.bank c.args.parts.second) (second_split_given c.args.history.now c.args.work.now c.args.either c.args.parts c.requires.either) in
    split_shallow c.args.history.now c.args.work.now o c.args.either c.args.parts false c.is_sound.ensures c.requires.stands c.requires.parts c.requires.either only

pub returns-then-test-clause-line : goal.returns-then-test-clause-line
returns-then-test-clause-line c =
    let o = conclusion_at c.args.work.now.bank c.args.history.now c.args.work.now.log (SplitFirst c.args.either 1) in
    let P : ℕ → Type 0 = λ n. clause_at c.add_line.new.work.bank c.add_line.new.work.log n ≡ o in
    let Q : Bool → ℕ → Type 0 = λ b n. LineHasOnly c.add_line.new.work n (split_of c.args.work.now.bank c.args.parts b) in
    let only : HasOnly o (split_of c.args.work.now.bank c.args.parts true) = split_only c.args.history.now c.args.work.now o (if_at c.args.work.now.bank c.args.parts) (not_term (term_at c.args.work.now.bank c.args.parts.test)) (term_at c.args.work.now.bank c.args.parts.first) (first_split_given c.args.history.now c.args.work.now c.args.either c.args.parts c.requires.either) in
    subst (λ b. IfOk c.add_line.result (Q b)) (sym c.if-test.true) (for_ok c.add_line.result P (Q true) (λ n e. only_same _ o (split_of c.args.work.now.bank c.args.parts true) e only) c.add_line.ensures.line)

pub returns-else-test-clause-line : goal.returns-else-test-clause-line
returns-else-test-clause-line c =
    let o = conclusion_at c.args.work.now.bank c.args.history.now c.args.work.now.log (SplitSecond c.args.either 1) in
    let P : ℕ → Type 0 = λ n. clause_at c.add_line-else-test.new.work.bank c.add_line-else-test.new.work.log n ≡ o in
    let Q : Bool → ℕ → Type 0 = λ b n. LineHasOnly c.add_line-else-test.new.work n (split_of c.args.work.now.bank c.args.parts b) in
    let only : HasOnly o (split_of c.args.work.now.bank c.args.parts false) = split_only c.args.history.now c.args.work.now o (if_at c.args.work.now.bank c.args.parts) (term_at c.args.work.now.bank c.args.parts.test) (term_at c.args.work.now.bank c.args.parts.second) (second_split_given c.args.history.now c.args.work.now c.args.either c.args.parts c.requires.either) in
    subst (λ b. IfOk c.add_line-else-test.result (Q b)) (sym c.if-test.false) (for_ok c.add_line-else-test.result P (Q false) (λ n e. only_same _ o (split_of c.args.work.now.bank c.args.parts false) e only) c.add_line-else-test.ensures.line)

pub add_line-requires-clause-over : goal.add_line-requires-clause-over
add_line-requires-clause-over c = record { terms = tt; names = tt }

pub add_line-requires-else-test-clause-over : goal.add_line-requires-else-test-clause-over
add_line-requires-else-test-clause-over c = record { terms = tt; names = tt }
