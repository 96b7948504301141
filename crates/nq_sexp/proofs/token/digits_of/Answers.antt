use Rattle.std.proofs.Common.{get_or, refl, sym, ◌∙◌, arith}
use Rattle.std.specs.Prelude.{IsTrue}
use Rattle.std.proofs.lemmas.Int.Digits.{digits_more}
use Rattle.nq_form.specs.Bytes.{is_digit}
use Rattle.nq_sexp.proofs.Digits.{no_numeral, digit-below, counted-more}
use Rattle.nq_sexp.proofs.token.digits_of.Goals as goal

pub returns-then-not-is_digit : goal.returns-then-not-is_digit
returns-then-not-is_digit c = λ n. no_numeral c.args.bytes.now c.loop-count.count c.loop-count-test.true (sym c.is_digit.ensures ∙ c.if-not-is_digit.true) n

pub loop-count-preserved : goal.loop-count-preserved
loop-count-preserved c =
    let inv = c.loop-count.invariant in
    let digit : IsTrue (is_digit (get_or c.args.bytes.now c.loop-count.count 0)) = sym c.is_digit.ensures ∙ c.if-not-is_digit.false in (
      inv.0,
      omega (arith, c.loop-count-test.true),
      digits_more 10 c.args.bytes.now c.loop-count.count c.loop-count-test.true inv.2 (digit-below (get_or c.args.bytes.now c.loop-count.count 0) digit),
      counted-more c.args.bytes.now c.loop-count.count c.loop-count.number _ (get_or c.args.bytes.now c.loop-count.count 0) _ c.loop-count-test.true refl digit refl inv.3 c.with_digit-number.ensures,
    )
