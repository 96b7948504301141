-- What the lines of a block show of a measure.
use Rattle.std.specs.Prelude.{◌≡◌, ℕ, Bool, true, false, ◌&&◌, not, IfSome, List, [], ◌∷◌, Option, Some, None}
use Rattle.std.specs.Option.{option_map}
use Rattle.nq_logic.specs.Terms.{Name, Term}
use Rattle.nq_logic.specs.Admissible.{Call, mentions}
use Rattle.nq_bank.specs.declared.node.TermId.{TermId}
use Rattle.nq_bank.specs.Content.{Stands, term_at}
use Rattle.nq_proof.specs.Rules.{has_only}
use Rattle.nq_log.specs.States.{Block, clause_at}
use Rattle.nq_log.specs.ClosingLines.{given_measure, is_measured}
use Rattle.nq_calls.specs.Falls.{is_in_used, obligation_at}
use Rattle.nq_check.specs.declared.context.Context.{Context}
use Rattle.nq_check.specs.Contexts.{state_of}

-- the function stands in no argument of a formal that is used
abbrev pub are_older : Name → List Bool → List Call → Bool
are_older f uses [] = true
are_older f uses (c ∷ calls) = not (is_in_used f uses c.arguments) && are_older f uses calls

-- each call has its line
abbrev pub are_shown : Block → List Name → Term → List Call → List ℕ → Bool
are_shown block xs m [] [] = true
are_shown block xs m [] (r ∷ rs) = false
are_shown block xs m (c ∷ calls) [] = false
are_shown block xs m (c ∷ calls) (r ∷ rs) = has_only (clause_at block r) (obligation_at xs m c) && are_shown block xs m calls rs

-- the definition is measured, by the measure that the block gives, or by none
pub record IsMeasuredBy (c : Context) (f : Name) (xs : List Name) (body : Term) (m : Option TermId) : Type 0 where
  pub measured : is_measured (state_of c).block f xs body (mentions f body) (state_of c).block.measure ≡ true
  pub measure : option_map (term_at c.bank) m ≡ given_measure (state_of c).block (state_of c).block.measure
  pub stands : IfSome m (λ t. Stands c.bank t)

-- what was found of a definition's measure
abbrev pub FindsMeasure : Context → Name → List Name → Term → Option (Option TermId) → Type 0
FindsMeasure c f xs body None = is_measured (state_of c).block f xs body (mentions f body) (state_of c).block.measure ≡ false
FindsMeasure c f xs body (Some m) = IsMeasuredBy c f xs body m
