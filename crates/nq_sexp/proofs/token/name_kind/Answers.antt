use Rattle.std.proofs.Common.{◌∙◌, sym}
use Rattle.nq_form.proofs.Naming.{symbol-of, is_dot-back, bad-of}
use Rattle.nq_sexp.proofs.token.name_kind.Goals as goal

pub returns-then-has_symbol_shape : goal.returns-then-has_symbol_shape
returns-then-has_symbol_shape c = symbol-of c.args.word.now c.requires.constituents (sym c.has_symbol_shape.ensures ∙ c.if-has_symbol_shape.true)

pub returns-then-is_dot : goal.returns-then-is_dot
returns-then-is_dot c = is_dot-back c.args.word.now (sym c.is_dot.ensures ∙ c.if-is_dot.true)

pub returns : goal.returns
returns c =
    bad-of c.args.word.now c.requires.constituents c.requires.some c.requires.unsigned c.requires.signed (sym c.has_symbol_shape.ensures ∙ c.if-has_symbol_shape.false) (sym c.is_dot.ensures ∙ c.if-is_dot.false)
