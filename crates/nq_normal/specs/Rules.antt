-- The AND parts of a rule's conclusion over ids, and whether a rule has hypotheses.
use Rattle.std.specs.Prelude.{◌≡◌, ◌<◌, Bool, if◌then◌else◌, [], ◌∷◌, ◌++◌, Option, MatchOption}
use Rattle.nq_logic.specs.Terms.{Term}
use Rattle.nq_logic.specs.RuleShapes.{and_parts, rule_parts}
use Rattle.nq_bank.specs.declared.node.TermId.{TermId}
use Rattle.nq_bank.specs.Content.{Content, Stands, term_at}
use Rattle.nq_goals.specs.Normal.{plain_parts}
use Rattle.nq_normal.specs.declared.rules.Sides.{Sides}

-- the AND parts of the whole are those of the two sides, which stand before it
pub record IsSplit (bank : Content) (t : TermId) (whole : Term) (sides : Sides) : Type 0 where
  pub parts : and_parts whole ≡ and_parts (term_at bank sides.left) ++ and_parts (term_at bank sides.right)
  pub left : Stands bank sides.left
  pub right : Stands bank sides.right
  pub left_earlier : sides.left.0 < t.0
  pub right_earlier : sides.right.0 < t.0

-- the two sides of an AND; any other term is its own part
abbrev pub TellsSides : Content → TermId → Term → Option Sides → Type 0
TellsSides bank t whole found = MatchOption found (and_parts whole ≡ whole ∷ []) (IsSplit bank t whole)

-- a rule has hypotheses where it is an IMPLIES, and then no parts without; any other has its AND parts
abbrev pub TellsImplication : Term → Bool → Type 0
TellsImplication t implies = plain_parts (rule_parts t) ≡ (if implies then [] else and_parts t)
