use Rattle.std.proofs.Common.{◌≡◌, ap, sym, ◌∙◌, arith}
use Rattle.std.proofs.lemmas.Bool.{eqb-true, eq-eqb}
use Rattle.nq_logic.specs.Words.{numeral}
use Rattle.nq_logic.specs.Numerals.{number_of}
use Rattle.nq_bank.specs.Content.{term_at, text_at}
use Rattle.nq_clause.proofs.InstanceLemmas.{tells_not, numeral_only, no_numeral, no_variable_number}
use Rattle.nq_clause.proofs.instance.is_numeral_of.Goals as goal

pub returns-in-Num : goal.returns-in-Num
returns-in-Num c =
    (λ h. c.in-Num.ensures.head.1 ∙ ap numeral (eqb-true c.in-Num.m c.args.n h), λ e. eq-eqb c.in-Num.m c.args.n (numeral_only c.in-Num.m c.args.n c.in-Num.ensures.head.0 (omega (arith, c.ranges.n.fits)) (sym c.in-Num.ensures.head.1 ∙ e)))

pub returns-in-App : goal.returns-in-App
returns-in-App c = tells_not (term_at c.args.bank.now c.args.t ≡ numeral c.args.n) (no_numeral (term_at c.args.bank.now c.args.t) c.args.n (omega (arith, c.ranges.n.fits)) c.in-App.ensures.head.3)

pub returns-in-Var : goal.returns-in-Var
returns-in-Var c = tells_not (term_at c.args.bank.now c.args.t ≡ numeral c.args.n) (no_numeral (term_at c.args.bank.now c.args.t) c.args.n (omega (arith, c.ranges.n.fits)) (ap number_of c.in-Var.ensures.head.1 ∙ no_variable_number (text_at c.args.bank.now c.in-Var.field-0)))
