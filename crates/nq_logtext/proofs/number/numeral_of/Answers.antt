use Rattle.std.proofs.Common.{◌≡◌, ◌^◌, ◌<◌, ℕ, sym, ap, ◌∙◌, arith}
use Rattle.std.specs.Prelude.{decimal}
use Rattle.std.proofs.lemmas.Fmt.{parse-decimal_wide}
use Rattle.std.proofs.lemmas.Slice.Eq.{bytes_eq-Decides}
use Rattle.nq_logtext.specs.Reading.{number_of}
use Rattle.nq_logtext.proofs.Numbers.{number_none, number_again, decimal_utf8, spelled_other}
use Rattle.nq_logtext.proofs.number.numeral_of.Goals as goal

small : (n : ℕ) → n < 2 ^ 128 → n < 10 ^ 64
small n lt = omega arith

pub returns-in_default : goal.returns-in_default
returns-in_default c = number_none (2 ^ 128) c.args.word.now (λ n lt e. c.in_default.ensures.cases.0 (decimal_utf8 n c.args.word.now (small n lt) e))

pub returns-in_default-parse : goal.returns-in_default-parse
returns-in_default-parse c = number_none (2 ^ 128) c.args.word.now (λ n lt e.
    c.in_default-parse.not-Ok n (parse-decimal_wide 128 n c.in-Ok.text.now c.parse.result lt (small n lt) (c.in-Ok.ensures.cases.0 ∙ e) c.parse.ensures.value.0))

pub returns-then-eq : goal.returns-then-eq
returns-then-eq c =
    let same : decimal c.in-Ok-parse.number ≡ c.args.word.now = sym c.format.ensures.text ∙ sym c.as_bytes.ensures.value ∙ (bytes_eq-Decides c.as_bytes.result.now c.args.word.now).0 (sym c.eq.ensures ∙ c.if-eq.true) in
    let lt : c.in-Ok-parse.number < 2 ^ 128 = omega arith in
    sym (ap (number_of (2 ^ 128)) (sym same) ∙ number_again (2 ^ 128) c.in-Ok-parse.number (small _ lt) lt)

pub returns-else-eq : goal.returns-else-eq
returns-else-eq c =
    let text-is = c.in-Ok.ensures.cases.0 in
    let other : decimal c.in-Ok-parse.number ≡ c.args.word.now → ⊥ = λ e.
    let yes = (bytes_eq-Decides c.as_bytes.result.now c.args.word.now).1 (c.as_bytes.ensures.value ∙ c.format.ensures.text ∙ e) in cc in
    number_none (2 ^ 128) c.args.word.now (spelled_other 128 c.args.word.now c.in-Ok-parse.number c.parse.result small (rw text-is at c.parse.ensures.value.0) c.in-Ok-parse.is other)
