use Rattle.std.proofs.Common.{◌++◌, ◌∷◌, [], ◌∙◌, ap, arith}
use Rattle.nq_logic.specs.Shells.{digits_of}
use Rattle.nq_moves.proofs.numbering.variable_text.Goals as goal

pub returns : goal.returns
returns c =
    let n = c.args.number in
    let first = c.in_ok-push.ensures.items ∙ ap (λ xs. xs ++ 86 ∷ []) c.new-text.ensures.items in
    c.in_ok-put_digits.ensures n c.requires (omega arith) ∙ ap (λ xs. xs ++ digits_of n n) first
