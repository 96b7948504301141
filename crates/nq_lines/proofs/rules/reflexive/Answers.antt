use Rattle.std.proofs.Common.{◌≡◌, [], ◌∙◌, ℕ, ap}
use Rattle.std.specs.Prelude.{is_some}
use Rattle.nq_logic.specs.Words.{equal_term}
use Rattle.nq_bank.specs.Content.{term_at}
use Rattle.nq_rule.proofs.Made.{for_ok}
use Rattle.nq_kernel.specs.declared.rule.Rule.TheVariants.{Reflexive}
use Rattle.nq_kernel.specs.Meaning.{clause_at, conclusion_at}
use Rattle.nq_lines.specs.Lines.{LineLeads}
use Rattle.nq_lines.proofs.LineLemmas.{reflexive_given, leads_distinct}
use Rattle.nq_lines.proofs.rules.reflexive.Goals as goal

pub find_or_add-requires-clause-allowed : goal.find_or_add-requires-clause-allowed
find_or_add-requires-clause-allowed c = ap is_some (reflexive_given c.args.history.now c.args.work.now c.args.t)

pub returns-clause-line : goal.returns-clause-line
returns-clause-line c =
    let u = term_at c.args.work.now.bank c.args.t in
    let P : ℕ → Type 0 = λ n. clause_at c.find_or_add.new.self.bank c.find_or_add.new.self.log n ≡ conclusion_at c.args.work.now.bank c.args.history.now c.args.work.now.log (Reflexive c.args.t) in
    for_ok c.find_or_add.result P (λ n. LineLeads c.find_or_add.new.self n (equal_term u u) []) (λ n e. leads_distinct c.find_or_add.new.self n (equal_term u u) [] [] (e ∙ reflexive_given c.args.history.now c.args.work.now c.args.t) (λ t m. m)) c.find_or_add.ensures.line
