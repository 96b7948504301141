use Rattle.std.proofs.Common.{◌≡◌, ◌∙◌, ℕ, ap}
use Rattle.std.specs.Prelude.{is_some, IsSome}
use Rattle.nq_bank.specs.Content.{term_at}
use Rattle.nq_rule.proofs.Made.{for_ok}
use Rattle.nq_kernel.specs.declared.rule.Rule.TheVariants.{Cut}
use Rattle.nq_kernel.specs.Meaning.{clause_at, conclusion_at}
use Rattle.nq_kernel.specs.Growing.{LineStands}
use Rattle.nq_lines.specs.Lines.{CutsTo}
use Rattle.nq_lines.proofs.LineLemmas.{cut_allowed, cut_only, only_same}
use Rattle.nq_part_lines.proofs.LineLemmas.{cut_shallow}
use Rattle.nq_part_lines.proofs.lines.cut.Goals as goal

pub add_line-requires-clause-rule : goal.add_line-requires-clause-rule
add_line-requires-clause-rule c = c.requires.term.stands

pub add_line-requires-clause-over : goal.add_line-requires-clause-over
add_line-requires-clause-over c = record { terms = (c.requires.term.over, tt); names = tt }

pub add_line-requires-clause-allowed : goal.add_line-requires-clause-allowed
add_line-requires-clause-allowed c = cut_allowed c.args.history.now c.args.work.now c.args.a c.args.b c.args.t c.requires.first c.requires.second

pub add_line-requires-clause-shallow : goal.add_line-requires-clause-shallow
add_line-requires-clause-shallow c = cut_shallow c.args.history.now c.args.work.now c.args.a c.args.b c.args.t c.is_sound.ensures c.requires.stands c.requires.first c.requires.second

pub returns-clause-line : goal.returns-clause-line
returns-clause-line c =
    let P : ℕ → Type 0 = λ n. clause_at c.add_line.new.work.bank c.add_line.new.work.log n ≡ conclusion_at c.args.work.now.bank c.args.history.now c.args.work.now.log (Cut c.args.a c.args.b c.args.t) in
    for_ok c.add_line.result P (CutsTo c.args.work.now c.add_line.new.work (term_at c.args.work.now.bank c.args.t) c.args.a c.args.b) (λ n e these h k. only_same _ _ these e (cut_only c.args.history.now c.args.work.now c.args.a c.args.b c.args.t these h k)) c.add_line.ensures.line

pub returns-clause-stands : goal.returns-clause-stands
returns-clause-stands c =
    let o = conclusion_at c.args.work.now.bank c.args.history.now c.args.work.now.log (Cut c.args.a c.args.b c.args.t) in
    let P : ℕ → Type 0 = λ n. clause_at c.add_line.new.work.bank c.add_line.new.work.log n ≡ o in
    let some : IsSome o = cut_allowed c.args.history.now c.args.work.now c.args.a c.args.b c.args.t c.requires.first c.requires.second in
    for_ok c.add_line.result P (LineStands c.add_line.new.work) (λ n e. ap is_some e ∙ some) c.add_line.ensures.line
