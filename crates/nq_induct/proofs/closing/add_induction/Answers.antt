use Rattle.std.proofs.Common.{◌≡◌, ◌∷◌, [], ◌∙◌, ℕ, ap}
use Rattle.std.specs.Prelude.{is_some}
use Rattle.nq_bank.specs.Content.{term_at}
use Rattle.nq_rule.proofs.Made.{for_ok}
use Rattle.nq_kernel.specs.declared.rule.Rule.TheVariants.{Induct}
use Rattle.nq_kernel.specs.Meaning.{clause_at, conclusion_at}
use Rattle.nq_lines.specs.Lines.{LineHasOnly}
use Rattle.nq_induct.proofs.ClosingLemmas.{induction_given, induction_over, induction_stands}
use Rattle.nq_induct.proofs.closing.add_induction.Goals as goal

pub add-requires-clause-rule : goal.add-requires-clause-rule
add-requires-clause-rule c = induction_stands c.args.history.now c.args.work.now c.args.scheme.now c.args.claim c.args.base c.args.cases c.requires.scheme c.requires.claim c.requires.cases

pub add-requires-clause-over : goal.add-requires-clause-over
add-requires-clause-over c = induction_over c.args.history.now c.args.work.now c.args.scheme.now c.args.claim c.args.base c.args.cases c.requires.scheme c.requires.claim c.requires.cases

pub add-requires-clause-allowed : goal.add-requires-clause-allowed
add-requires-clause-allowed c = ap is_some (induction_given c.args.history.now c.args.work.now c.args.scheme.now c.args.claim c.args.base c.args.cases c.requires.scheme c.requires.cases c.requires.base)

pub returns-clause-line : goal.returns-clause-line
returns-clause-line c =
    let w = c.args.work.now in
    let rule = Induct c.args.claim c.args.scheme.now.measure c.args.scheme.now.ordinal c.args.base c.args.cases in
    let P : ℕ → Type 0 = λ n. clause_at c.add.new.self.bank c.add.new.self.log n ≡ conclusion_at w.bank c.args.history.now w.log rule in
    for_ok c.add.result P (λ n. LineHasOnly c.add.new.self n (term_at w.bank c.args.claim ∷ [])) (λ n e. record {
      literals = term_at w.bank c.args.claim ∷ [];
      stands = e ∙ induction_given c.args.history.now w c.args.scheme.now c.args.claim c.args.base c.args.cases c.requires.scheme c.requires.cases c.requires.base;
      only = λ t m. m;
    }) c.add.ensures.line
