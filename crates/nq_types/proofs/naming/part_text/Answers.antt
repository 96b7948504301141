use Rattle.std.proofs.Common.{◌+◌, ◌∙◌, ap, sym, subst, IsTrue, arith, ◌++◌, ◌∷◌, []}
use Rattle.nq_logtext.specs.Symbols.{is_symbol}
use Rattle.nq_logic.specs.Shells.{digits_of}
use Rattle.nq_steps.proofs.NameLemmas.{part_symbol}
use Rattle.nq_types.proofs.naming.part_text.Goals as goal

pub returns-clause-symbol : goal.returns-clause-symbol
returns-clause-symbol c =
    let n = c.from.result + 1 in
    let first = c.in_ok-push.ensures.items ∙ ap (λ xs. xs ++ 88 ∷ []) c.new-text.ensures.items in
    let text = c.in_ok-put_digits.ensures n (omega arith) (omega arith) ∙ ap (λ xs. xs ++ digits_of n n) first in
    subst (λ w. IsTrue (is_symbol w)) (sym text) (part_symbol c.from.result (omega (arith, c.from.ensures, c.ranges.place.fits)))
