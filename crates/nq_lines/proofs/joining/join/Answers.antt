use Rattle.std.proofs.Common.{◌≡◌, ◌∙◌, ℕ, ap}
use Rattle.std.specs.Prelude.{is_some}
use Rattle.nq_bank.specs.Content.{term_at}
use Rattle.nq_rule.proofs.Made.{for_ok}
use Rattle.nq_kernel.specs.declared.rule.Rule.TheVariants.{Join}
use Rattle.nq_kernel.specs.Meaning.{clause_at, conclusion_at}
use Rattle.nq_kernel.specs.Growing.{LineStands}
use Rattle.nq_lines.specs.Branches.{JoinsIf}
use Rattle.nq_lines.proofs.LineLemmas.{only_same}
use Rattle.nq_lines.proofs.BranchLemmas.{join_allowed, join_only}
use Rattle.nq_lines.proofs.joining.join.Goals as goal

pub add-requires-clause-allowed : goal.add-requires-clause-allowed
add-requires-clause-allowed c = join_allowed c.args.history.now c.args.work.now c.args.first c.args.second c.args.parts c.requires.first c.requires.second

pub returns-clause-line : goal.returns-clause-line
returns-clause-line c =
    let w = c.args.work.now in
    let h = c.args.history.now in
    let o = conclusion_at w.bank h w.log (Join c.args.first c.args.second c.args.parts) in
    let P : ℕ → Type 0 = λ n. clause_at c.add.new.self.bank c.add.new.self.log n ≡ o in
    for_ok c.add.result P (JoinsIf w c.add.new.self (term_at w.bank c.args.parts.test) (term_at w.bank c.args.parts.first) (term_at w.bank c.args.parts.second) c.args.first c.args.second)
    (λ n e these one two. only_same (clause_at c.add.new.self.bank c.add.new.self.log n) o _ e (join_only h w c.args.first c.args.second c.args.parts these one two)) c.add.ensures.line

pub returns-clause-stands : goal.returns-clause-stands
returns-clause-stands c =
    let w = c.args.work.now in
    let o = conclusion_at w.bank c.args.history.now w.log (Join c.args.first c.args.second c.args.parts) in
    let P : ℕ → Type 0 = λ n. clause_at c.add.new.self.bank c.add.new.self.log n ≡ o in
    for_ok c.add.result P (LineStands c.add.new.self) (λ n e. ap is_some e ∙ join_allowed c.args.history.now w c.args.first c.args.second c.args.parts c.requires.first c.requires.second) c.add.ensures.line
