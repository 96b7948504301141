use Rattle.std.proofs.Common.{sym, ap, ◌∙◌, arith}
use Rattle.nq_logic.specs.Numerals.{number_of}
use Rattle.nq_bank.specs.Content.{term_at}
use Rattle.nq_language.specs.Quotations.{codes_of, with_code}
use Rattle.nq_print.proofs.AtomLemmas.{names_same, codes-end, codes-number, codes-variable, codes-constant, codes-single, codes-longer, codes-pair, codes-other, codes-numberless, codes-wide}
use Rattle.nq_print.proofs.atoms.next_code.Goals as goal

pub returns-then-not-is_ground : goal.returns-then-not-is_ground
returns-then-not-is_ground c = names_same _ _ c.in-Pair.ensures.4 (codes-other _ _ _ (sym c.is_ground.ensures ∙ c.if-not-is_ground.true))

pub returns-then-n-eq0 : goal.returns-then-n-eq0
returns-then-n-eq0 c = ap codes_of c.in-Number.ensures.1 ∙ codes-end c.in-Number.n c.if-n-eq0.true

pub returns-else-n-eq0 : goal.returns-else-n-eq0
returns-else-n-eq0 c = names_same _ _ c.in-Number.ensures.1 (codes-number c.in-Number.n (omega (arith, c.if-n-eq0.false)))

pub returns-in-Some : goal.returns-in-Some
returns-in-Some c = (c.in-Pair.ensures.3, ap codes_of c.in-Pair.ensures.4 ∙ codes-pair _ _ _ (sym c.is_ground.ensures ∙ c.if-not-is_ground.false) ∙ ap (λ n. with_code n (codes_of (term_at c.args.bank.now c.in-Pair.rest))) (sym c.number_at.ensures ∙ c.in-Some.is))

pub returns-in-Some-2 : goal.returns-in-Some-2
returns-in-Some-2 c = names_same _ _ c.in-Pair.ensures.4 (codes-wide _ _ _ c.in-Some.n (sym c.is_ground.ensures ∙ c.if-not-is_ground.false) (sym c.number_at.ensures ∙ c.in-Some.is) c.if-n-lt256.false)

pub returns-in-None : goal.returns-in-None
returns-in-None c = names_same _ _ c.in-Pair.ensures.4 (codes-numberless _ _ _ (sym c.is_ground.ensures ∙ c.if-not-is_ground.false) (sym c.number_at.ensures ∙ c.in-None.is))

pub returns-in-Variable : goal.returns-in-Variable
returns-in-Variable c = names_same _ _ c.in-Variable.ensures.1 (codes-variable _)

pub returns-in-Constant : goal.returns-in-Constant
returns-in-Constant c =
    let none = sym (ap number_of c.in-Constant.ensures.2) ∙ c.in-Constant.ensures.1 in
    names_same _ _ c.in-Constant.ensures.2 (codes-constant _ none)

pub returns-in-Single : goal.returns-in-Single
returns-in-Single c = names_same _ _ c.in-Single.ensures.3 (codes-single _ _)

pub returns-in-Longer : goal.returns-in-Longer
returns-in-Longer c =
    let is = c.in-Longer.ensures.2 in
    names_same _ _ is.4 (codes-longer _ is.0 is.1 is.2 is.3)
