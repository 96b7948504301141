-- A log read from its front: where a reader stands, and what the next line leads to. A checker keeps one place.
use Rattle.std.specs.Prelude.{◌≡◌, ℕ, suc, List, [], ◌∷◌, ◌++◌, Option, Some, None, if◌then◌else◌}
use Rattle.nq_logtext.specs.Reading.{line_of}
use Rattle.nq_logtext.specs.Lines.{Line, IsSpellable, spelling}
use Rattle.nq_log.specs.States.{State, Claim, after_claim, start_of, Step, Continues, Claims, Ends}
use Rattle.nq_log.specs.Logs.{Reason, Malformed, NotAllowed, UnexpectedEnd, Right, Reading, ends, wrong, with_claim, is_header, read_end, read_lines, read_log, cut_lines}
use Rattle.nq_log.specs.Blocks.{HasNoLineFeed}

-- before the first line, before line n in a state, or after the last line, before a line n that must not be there
pub data Place : Type 0 where
  AtStart : Place
  Between : (line : ℕ) (state : State) → Place
  AtEnd : (line : ℕ) → Place

-- the number of the next line
abbrev pub next_line : Place → ℕ
next_line AtStart = 1
next_line (Between n s) = n
next_line (AtEnd n) = n

-- the reading of the text that follows a place
abbrev pub read_from : (State → Line → Option Step) → Place → List (List ℕ) → List ℕ → Reading
read_from next AtStart lines rest = read_log next lines rest
read_from next (Between n s) lines rest = read_lines next n s lines rest
read_from next (AtEnd n) lines rest = read_end n lines rest

abbrev pub reading_after : (State → Line → Option Step) → Place → List ℕ → Reading
reading_after next place text = read_from next place (cut_lines text).0 (cut_lines text).1

-- what a line leads to: the place after it, perhaps with a claim, or it is wrong
pub data Move : Type 0 where
  Moves : (place : Place) → Move
  Establishes : (claim : Claim) (place : Place) → Move
  Fails : (reason : Reason) → Move

abbrev pub move_by : ℕ → State → Option Step → Move
move_by n s None = Fails NotAllowed
move_by n s (Some (Continues block)) = Moves (Between (suc n) (record s { block = block }))
move_by n s (Some (Claims c)) = Establishes c (Between (suc n) (start_of (after_claim s.history c)))
move_by n s (Some Ends) = Moves (AtEnd (suc n))

-- the move by a line, or by a text that spells none
abbrev pub move_at : (State → Line → Option Step) → Place → Option Line → Move
move_at next AtStart None = Fails Malformed
move_at next AtStart (Some line) = if is_header line.word then Moves (Between 2 (start_of [])) else Fails NotAllowed
move_at next (Between n s) None = Fails Malformed
move_at next (Between n s) (Some line) = move_by n s (next s line)
move_at next (AtEnd n) line = Fails Malformed

-- the reading after a move
abbrev pub reading_moved : (State → Line → Option Step) → Place → Move → List ℕ → Reading
reading_moved next place (Moves after) text = reading_after next after text
reading_moved next place (Establishes c after) text = with_claim c (reading_after next after text)
reading_moved next place (Fails why) text = wrong (next_line place) why

-- the reading of what follows the last line feed
abbrev pub reading_at_end : Place → List ℕ → Reading
reading_at_end AtStart rest = wrong 1 UnexpectedEnd
reading_at_end (Between n s) rest = wrong n UnexpectedEnd
reading_at_end (AtEnd n) [] = ends Right
reading_at_end (AtEnd n) (b ∷ rest) = wrong n Malformed

-- a line that its line feed ends leads to one move
abbrev pub LineMoves : Type 0
LineMoves = (next : State → Line → Option Step) (place : Place) (bytes text : List ℕ) → HasNoLineFeed bytes →
    reading_after next place (bytes ++ (10 ∷ text)) ≡ reading_moved next place (move_at next place (line_of bytes)) text

-- a text without a line feed is an unfinished line, or nothing after the last line
abbrev pub TextEnds : Type 0
TextEnds = (next : State → Line → Option Step) (place : Place) (rest : List ℕ) → HasNoLineFeed rest → reading_after next place rest ≡ reading_at_end place rest

-- whatever stands after the last line is wrong at its first byte
abbrev pub NothingFollows : Type 0
NothingFollows = (next : State → Line → Option Step) (n b : ℕ) (text : List ℕ) → reading_after next (AtEnd n) (b ∷ text) ≡ wrong n Malformed

-- which line a text spells
abbrev pub LineIsRead : Type 0
LineIsRead = (bytes : List ℕ) (line : Line) → IsSpellable line → bytes ≡ spelling line → line_of bytes ≡ Some line

abbrev pub NoLineIsRead : Type 0
NoLineIsRead = (bytes : List ℕ) → ((line : Line) → IsSpellable line → bytes ≡ spelling line → ⊥) → line_of bytes ≡ None
