-- Answers for calls on values.
use Rattle.std.specs.Prelude.{◌≡◌, ℕ, Bool, true, false, Option, Some, None}
use Rattle.std.specs.Option.{option_map}
use Rattle.nq_logic.specs.Terms.{Term}
use Rattle.nq_logic.specs.Words.{call1, zero_term, numeral}
use Rattle.nq_bank.specs.declared.node.TermId.{TermId}
use Rattle.nq_bank.specs.Content.{Content, term_at}
use Rattle.nq_proof.specs.Values.{value_of, truth}
use Rattle.nq_value.specs.Passing.{passes}
use Rattle.nq_value.specs.Objects.{DenotesValue}
use Rattle.nq_value.specs.declared.found.Found.{Found}
use Rattle.nq_value.specs.declared.found.Found.TheVariants as found
use Rattle.nq_value.specs.declared.making.ValueAnswer.{ValueAnswer}
use Rattle.nq_value.specs.declared.making.ValueAnswer.TheVariants.{Value, Passes, NotBuiltIn}

-- the term of an answer, if it is a value
abbrev pub value_in : Content → ValueAnswer → Option Term
value_in bank (Value t) = Some (term_at bank t)
value_in bank Passes = None
value_in bank NotBuiltIn = None

abbrev pub is_passes : ValueAnswer → Bool
is_passes (Value t) = false
is_passes Passes = true
is_passes NotBuiltIn = false

-- the id of an answer stands, and denotes a value
abbrev pub AnswerStands : Content → ValueAnswer → Type 0
AnswerStands bank (Value t) = DenotesValue bank t
AnswerStands bank Passes = Unit {0}
AnswerStands bank NotBuiltIn = Unit {0}

-- The answer for a call: its value by the table; or else that a number would reach 2^128, or that the table has no row.
pub record IsAnswer (bank : Content) (answer : ValueAnswer) (t : Term) : Type 0 where
  pub stands : AnswerStands bank answer
  pub value : value_of t ≡ value_in bank answer
  pub passes_is : passes t ≡ is_passes answer

-- the same of what is found before it stands in the bank
abbrev pub found_value : Content → Found → Option Term
found_value bank (found.Truth b) = Some (truth b)
found_value bank (found.Number n) = Some (numeral n)
found_value bank (found.Known t) = Some (term_at bank t)
found_value bank found.MinusZero = Some (call1 "MINUS" zero_term)
found_value bank found.Passes = None
found_value bank found.NotBuiltIn = None

abbrev pub finds_passes : Found → Bool
finds_passes (found.Truth b) = false
finds_passes (found.Number n) = false
finds_passes (found.Known t) = false
finds_passes found.MinusZero = false
finds_passes found.Passes = true
finds_passes found.NotBuiltIn = false

abbrev pub FoundStands : Content → Found → Type 0
FoundStands bank (found.Truth b) = Unit {0}
FoundStands bank (found.Number n) = Unit {0}
FoundStands bank (found.Known t) = DenotesValue bank t
FoundStands bank found.MinusZero = Unit {0}
FoundStands bank found.Passes = Unit {0}
FoundStands bank found.NotBuiltIn = Unit {0}

pub record IsFound (bank : Content) (what : Found) (t : Term) : Type 0 where
  pub stands : FoundStands bank what
  pub value : value_of t ≡ found_value bank what
  pub passes_is : passes t ≡ finds_passes what

-- the part of a value, or 0
abbrev pub part_or_zero : Content → Option TermId → Term
part_or_zero bank None = zero_term
part_or_zero bank (Some t) = term_at bank t

-- the value is a numeral, unless its number would reach 2^128
abbrev pub numeral_if : Option ℕ → Option Term
numeral_if n = option_map numeral n

abbrev pub is_none : Option ℕ → Bool
is_none None = true
is_none (Some n) = false
