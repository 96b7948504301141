-- Summands over ids, and the clause that LINEAR gives.
use Rattle.std.specs.Prelude.{◌≡◌, ℕ, Bool, true, false, All, IfSome, List, Option, map, pos}
use Rattle.nq_logic.specs.Terms.{Term}
use Rattle.nq_bank.specs.Content.{Content, Stands, term_at}
use Rattle.nq_proof.specs.Clauses.{Clause, distinct}
use Rattle.nq_proof.specs.Linear.{Form, and_then, scaled, expression_of}
use Rattle.nq_proof.specs.Rules as tree
use Rattle.nq_proof.specs.Rules.{when, is_refuted}
use Rattle.nq_linear_rule.specs.declared.form.LinearForm.{LinearForm}
use Rattle.nq_linear_rule.specs.declared.summand.Summand.{Summand}
use Rattle.nq_linear_rule.specs.Forms.{form_if, FormStands}

abbrev pub side_if : Bool → tree.Side
side_if true = tree.Forwards
side_if false = tree.Backwards

-- the summand, with its term in place of the id
abbrev pub summand_at : Content → Summand → tree.Summand
summand_at bank s = record { factor = s.factor; literal = term_at bank s.literal; side = side_if s.forwards }

abbrev pub summands_at : Content → List Summand → List tree.Summand
summands_at bank ss = map (summand_at bank) ss

abbrev pub LiteralStands : Content → Summand → Type 0
LiteralStands bank s = Stands bank s.literal

-- the ids of the literals stand in the bank
abbrev pub LiteralsStand : Content → List Summand → Type 0
LiteralsStand bank ss = All (LiteralStands bank) ss

-- the form is the literal's expression, in this order
pub record IsExpressionOf (bank : Content) (forwards : Bool) (literal : Term) (a : Option LinearForm) : Type 0 where
  pub form : form_if bank a ≡ expression_of forwards literal
  pub stands : IfSome a (FormStands bank)

-- so many times the expression
abbrev pub multiple_of : ℕ → Option Form → Option Form
multiple_of factor e = and_then e (λ e. scaled (pos factor) e)

-- the literals, where they cannot all be false since their expressions' sum is negative; else none
abbrev pub linear_clause : List tree.Summand → Option Clause
linear_clause summands = when (is_refuted summands) (distinct (map (λ s. s.literal) summands))
