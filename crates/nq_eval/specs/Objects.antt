-- The kinds of values.
use Rattle.std.specs.Prelude.{◌≡◌, ◌<◌}
use Rattle.nq_logic.specs.Terms.{Term}
use Rattle.nq_logic.specs.Words.{call1, call2, true_term, false_term, numeral}
use Rattle.nq_logic.specs.Numerals.{numeral_limit}
use Rattle.nq_bank.specs.Content.{Content, term_at}
use Rattle.nq_value.specs.Objects.{DenotesValue}
use Rattle.nq_eval.specs.declared.object.Object.{Object}
use Rattle.nq_eval.specs.declared.object.Object.TheVariants.{True, False, Number, Pair, Atom, Negative}

-- the term is the value of this kind with these parts
abbrev pub IsObject : Content → Object → Term → Type 0
IsObject bank True t = t ≡ true_term
IsObject bank False t = t ≡ false_term
IsObject bank (Number n) t = (n < numeral_limit) × (t ≡ numeral n)
IsObject bank (Pair a b) t = DenotesValue bank a × DenotesValue bank b × (t ≡ call2 "CONS" (term_at bank a) (term_at bank b))
IsObject bank (Atom a) t = DenotesValue bank a × (t ≡ call1 "PACK" (term_at bank a))
IsObject bank (Negative a) t = DenotesValue bank a × (t ≡ call1 "MINUS" (term_at bank a))
