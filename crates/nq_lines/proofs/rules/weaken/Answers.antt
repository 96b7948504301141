use Rattle.std.proofs.Common.{◌≡◌, ◌∙◌, ℕ}
use Rattle.nq_bank.specs.Content.{term_at}
use Rattle.nq_rule.proofs.Made.{for_ok}
use Rattle.nq_kernel.specs.declared.rule.Rule.TheVariants.{Weaken}
use Rattle.nq_kernel.specs.Meaning.{clause_at, conclusion_at}
use Rattle.nq_kernel.proofs.GrowingLemmas.{WorkGrows-refl}
use Rattle.nq_lines.specs.Weakening.{WeakensTo}
use Rattle.nq_lines.proofs.WeakenLemmas.{weaken_given, weaken_allowed}
use Rattle.nq_lines.proofs.rules.weaken.Goals as goal

pub add-requires-clause-allowed : goal.add-requires-clause-allowed
add-requires-clause-allowed c = weaken_allowed c.args.history.now c.args.work.now c.in-Ok.terms c.args.line c.args.t c.in-Ok.ensures.items c.requires.line

pub returns-in-Ok-clause-line : goal.returns-in-Ok-clause-line
returns-in-Ok-clause-line c =
    let w = c.args.work.now in
    let P : ℕ → Type 0 = λ n. clause_at c.add.new.self.bank c.add.new.self.log n ≡ conclusion_at w.bank c.args.history.now w.log (Weaken c.args.line c.in-Ok.terms) in
    for_ok c.add.result P (WeakensTo w c.add.new.self c.args.line (term_at w.bank c.args.t)) (λ n e clause holds. e ∙ weaken_given c.args.history.now w c.in-Ok.terms c.args.line c.args.t c.in-Ok.ensures.items clause holds) c.add.ensures.line

pub returns-in-Err-clause-grows : goal.returns-in-Err-clause-grows
returns-in-Err-clause-grows c = WorkGrows-refl c.args.history.now c.args.work.now c.requires.stands
