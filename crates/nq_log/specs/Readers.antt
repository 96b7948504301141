-- What a reader of a log knows that has taken a part of it: the claims so far, and the place that it stands at.
use Rattle.std.specs.Prelude.{◌≡◌, ℕ, List, [], ◌∷◌, ◌++◌, Option}
use Rattle.nq_logtext.specs.Reading.{line_of}
use Rattle.nq_logtext.specs.Lines.{Line}
use Rattle.nq_log.specs.States.{State, Claim, Step}
use Rattle.nq_log.specs.Logs.{Reason, wrong, reading_by}
use Rattle.nq_log.specs.Blocks.{HasNoLineFeed}
use Rattle.nq_log.specs.Growing.{with_claims}
use Rattle.nq_log.specs.Streams.{Place, AtStart, next_line, reading_after, Moves, Establishes, Fails, move_at, reading_at_end}

-- Of the bytes taken these are in hand, the claims so far are those of the lines before them, and the rest is read from the
-- place, whatever follows.
abbrev pub IsAt : (State → Line → Option Step) → (taken hand : List ℕ) → List Claim → Place → Type 0
IsAt next taken hand claims place = (more : List ℕ) → reading_by next (taken ++ more) ≡ with_claims claims (reading_after next place (hand ++ more))

abbrev pub ReaderBegins : Type 0
ReaderBegins = (next : State → Line → Option Step) → IsAt next [] [] [] AtStart

abbrev pub ReaderTakes : Type 0
ReaderTakes = (next : State → Line → Option Step) (taken hand bytes : List ℕ) (claims : List Claim) (place : Place) →
    IsAt next taken hand claims place → IsAt next (taken ++ bytes) (hand ++ bytes) claims place

-- a whole line in hand moves the place
abbrev pub ReaderMoves : Type 0
ReaderMoves = (next : State → Line → Option Step) (taken bytes hand : List ℕ) (claims : List Claim) (place after : Place) → HasNoLineFeed bytes →
    IsAt next taken (bytes ++ (10 ∷ hand)) claims place → move_at next place (line_of bytes) ≡ Moves after → IsAt next taken hand claims after

-- or establishes a claim
abbrev pub ReaderClaims : Type 0
ReaderClaims = (next : State → Line → Option Step) (taken bytes hand : List ℕ) (claims : List Claim) (place after : Place) (c : Claim) → HasNoLineFeed bytes →
    IsAt next taken (bytes ++ (10 ∷ hand)) claims place → move_at next place (line_of bytes) ≡ Establishes c after → IsAt next taken hand (claims ++ (c ∷ [])) after

-- or is wrong, whatever follows
abbrev pub ReaderStops : Type 0
ReaderStops = (next : State → Line → Option Step) (taken bytes hand : List ℕ) (claims : List Claim) (place : Place) (why : Reason) → HasNoLineFeed bytes →
    IsAt next taken (bytes ++ (10 ∷ hand)) claims place → move_at next place (line_of bytes) ≡ Fails why →
    (more : List ℕ) → reading_by next (taken ++ more) ≡ with_claims claims (wrong (next_line place) why)

-- where no whole line is in hand, the bytes taken are read so
abbrev pub ReaderEnds : Type 0
ReaderEnds = (next : State → Line → Option Step) (taken hand : List ℕ) (claims : List Claim) (place : Place) → HasNoLineFeed hand →
    IsAt next taken hand claims place → reading_by next taken ≡ with_claims claims (reading_at_end place hand)
