-- How a reader goes through a text, from one place to the next, and what it writes.
use Rattle.std.specs.Prelude.{◌≡◌, ℕ, ◌+◌, ◌≤◌, List, [], ◌∷◌, ◌++◌, length, Option}
use Rattle.std.specs.Io.KnownBytes.{Appends}
use Rattle.nq_io.specs.Told.{AppendsPart}
use Rattle.nq_log.specs.States.{State, Claim}
use Rattle.nq_log.specs.Logs.{Reading, wrong}
use Rattle.nq_log.specs.Blocks.{HasNoLineFeed}
use Rattle.nq_log.specs.Growing.{with_claims}
use Rattle.nq_log.specs.Streams.{Place, AtStart, Between, AtEnd, next_line, reading_after, Move, Moves, Establishes, Fails}
use Rattle.nq_log.specs.Logs.{step}
use Rattle.nq_check.specs.declared.checker.Spot.{Spot}
use Rattle.nq_check.specs.declared.checker.Spot.TheVariants as spot
use Rattle.nq_check.specs.declared.checker.Moved.{Moved}
use Rattle.nq_check.specs.declared.checker.Moved.TheVariants as moved
use Rattle.nq_check.specs.declared.checker.Checker.{Checker}
use Rattle.nq_check.specs.declared.verdict.Refusal.{Refusal}
use Rattle.nq_check.specs.Contexts.{state_of, IsWhole}
use Rattle.nq_check.specs.Texts.{claim_text, claims_text}
use Rattle.nq_check.specs.Outcomes.{reason_of}

abbrev pub place_at : Spot → ℕ → State → Place
place_at spot.Start n s = AtStart
place_at spot.Between n s = Between n s
place_at spot.End n s = AtEnd n

-- the place that a checker stands at
abbrev pub place_of : Checker → Place
place_of c = place_at c.spot c.line (state_of c.context)

-- its context is whole, its line is that of the place, and no two claims ended one line
pub record IsReady (c : Checker) : Type 0 where
  pub context : IsWhole c.context
  pub line : c.line ≡ next_line (place_of c)
  pub few : c.claims ≤ c.line

-- the reading of a text from the checker's place
abbrev pub reading_from : Checker → List ℕ → Reading
reading_from c text = reading_after step (place_of c) text

-- the checker stands at the next line
pub record StepsTo (old new : Checker) : Type 0 where
  pub ready : IsReady new
  pub line : new.line ≡ old.line + 1
  pub claims : new.claims ≡ old.claims

-- a line moved the place
pub record IsMoved (m : Move) (old new : Checker) : Type 0 where
  pub is : m ≡ Moves (place_of new)
  pub step : StepsTo old new

-- it established a claim, whose line this is
pub record IsEstablished (m : Move) (text : List ℕ) (old new : Checker) : Type 0 where
  pub claim : Claim
  pub is : m ≡ Establishes claim (place_of new)
  pub step : StepsTo old new
  pub text_is : text ≡ claim_text claim ++ (10 ∷ [])

-- it is wrong
pub record IsWrong (m : Move) (why : Refusal) (old new : Checker) : Type 0 where
  pub is : m ≡ Fails (reason_of why)
  pub line : new.line ≡ old.line

-- the move that a line leads to is what was answered
abbrev pub IsMove : Move → Moved → Checker → Checker → Type 0
IsMove m moved.Moves old new = IsMoved m old new
IsMove m (moved.Establishes text) old new = IsEstablished m text.items old new
IsMove m (moved.Fails why) old new = IsWrong m why old new

-- The bytes in hand were read but for the rest: whatever follows, their claims are these, whose lines were written.
pub record Passed (old new : Checker) (hand rest : List ℕ) (held now : Option (List ℕ)) : Type 0 where
  pub claims : List Claim
  pub reads : (more : List ℕ) → reading_from old (hand ++ more) ≡ with_claims claims (reading_from new (rest ++ more))
  pub text : Appends held now (claims_text claims)
  pub ready : IsReady new
  pub count : new.claims ≡ old.claims + length claims
  pub lines : new.line + length rest ≤ old.line + length hand

-- The bytes in hand hold a wrong line: whatever follows, the claims before it are these, whose lines were written.
pub record Stopped (old new : Checker) (hand : List ℕ) (why : Refusal) (held now : Option (List ℕ)) : Type 0 where
  pub claims : List Claim
  pub reads : (more : List ℕ) → reading_from old (hand ++ more) ≡ with_claims claims (wrong new.line (reason_of why))
  pub text : Appends held now (claims_text claims)

-- a first part of the lines of the claims of the bytes in hand was written
pub record Interrupted (old : Checker) (hand : List ℕ) (held now : Option (List ℕ)) : Type 0 where
  pub text : AppendsPart held now (claims_text (reading_from old hand).claims)

-- no whole line is in hand, and nothing at all after the last line
pub record Waits (c : Checker) (hand : List ℕ) : Type 0 where
  pub free : HasNoLineFeed hand
  pub end : c.spot ≡ spot.End → hand ≡ []
