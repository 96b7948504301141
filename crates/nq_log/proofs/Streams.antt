-- How a log is read from its front, a line at a time.
use Rattle.std.proofs.Common.{◌≡◌, ℕ, Bool, true, false, nat_eq, List, [], ◌∷◌, refl, ap, ◌∙◌}
use Rattle.std.specs.Prelude.{Option, Some, None, if◌then◌else◌}
use Rattle.nq_logtext.specs.Reading.{line_of}
use Rattle.nq_logtext.specs.Lines.{Line}
use Rattle.nq_log.specs.States.{State, Step, Continues, Claims, Ends, start_of}
use Rattle.nq_log.specs.Logs.{Malformed, NotAllowed, wrong, Reading, is_header, read_end, Cut, with_byte, cut_lines}
use Rattle.nq_log.specs.Streams.{Place, AtStart, Between, AtEnd, read_from, Moves, Fails, move_by, move_at, reading_moved, reading_at_end, LineMoves, TextEnds, NothingFollows, LineIsRead, NoLineIsRead}
use Rattle.nq_log.proofs.Blocks.{by_taken, by_line, by_header, by_first, read_again, not_read}
use Rattle.nq_log.proofs.Texts.{cut_line, no_cut}

-- the first line, and any other, by what it is
first_move : (next : State → Line → Option Step) (text : List ℕ) (b : Bool) →
    by_header next (cut_lines text).0 (cut_lines text).1 b ≡ reading_moved next AtStart (if b then Moves (Between 2 (start_of [])) else Fails NotAllowed) text
first_move next text true = refl
first_move next text false = refl

start_move : (next : State → Line → Option Step) (text : List ℕ) (o : Option Line) →
    by_first next (cut_lines text).0 (cut_lines text).1 o ≡ reading_moved next AtStart (move_at next AtStart o) text
start_move next text None = refl
start_move next text (Some line) = first_move next text (is_header line.word)

step_move : (next : State → Line → Option Step) (n : ℕ) (s : State) (text : List ℕ) (o : Option Step) →
    by_taken next n s (cut_lines text).0 (cut_lines text).1 o ≡ reading_moved next (Between n s) (move_by n s o) text
step_move next n s text None = refl
step_move next n s text (Some (Continues block)) = refl
step_move next n s text (Some (Claims c)) = refl
step_move next n s text (Some Ends) = refl

line_move : (next : State → Line → Option Step) (n : ℕ) (s : State) (text : List ℕ) (o : Option Line) →
    by_line next n s (cut_lines text).0 (cut_lines text).1 o ≡ reading_moved next (Between n s) (move_at next (Between n s) o) text
line_move next n s text None = refl
line_move next n s text (Some line) = step_move next n s text (next s line)

-- the reading of a cut text
abbrev read_cut : (State → Line → Option Step) → Place → Cut → Reading
read_cut next place c = read_from next place c.0 c.1

pub line_moves_law : LineMoves
line_moves_law next AtStart bytes text free = ap (read_cut next AtStart) (cut_line bytes text free) ∙ start_move next text (line_of bytes)
line_moves_law next (Between n s) bytes text free = ap (read_cut next (Between n s)) (cut_line bytes text free) ∙ line_move next n s text (line_of bytes)
line_moves_law next (AtEnd n) bytes text free = ap (read_cut next (AtEnd n)) (cut_line bytes text free)

nothing_more : (next : State → Line → Option Step) (place : Place) (rest : List ℕ) → read_from next place [] rest ≡ reading_at_end place rest
nothing_more next AtStart rest = refl
nothing_more next (Between n s) rest = refl
nothing_more next (AtEnd n) [] = refl
nothing_more next (AtEnd n) (b ∷ rest) = refl

pub text_ends_law : TextEnds
text_ends_law next place rest free = ap (read_cut next place) (no_cut rest free) ∙ nothing_more next place rest

byte_is_wrong : (n b : ℕ) (c : Cut) → read_end n (with_byte b c).0 (with_byte b c).1 ≡ wrong n Malformed
byte_is_wrong n b ([], rest) = refl
byte_is_wrong n b (line ∷ lines, rest) = refl

pub nothing_follows_law : NothingFollows
nothing_follows_law next n b text = by_byte (nat_eq b 10)
  where
    by_byte : (t : Bool) → read_cut next (AtEnd n) (elim t as (λ b. List (List ℕ) × List ℕ) [ true ↦ ([] ∷ (cut_lines text).0, (cut_lines text).1) | false ↦ with_byte b (cut_lines text) ]) ≡ wrong n Malformed
    by_byte true = refl
    by_byte false = byte_is_wrong n b (cut_lines text)

pub line_is_read_law : LineIsRead
line_is_read_law bytes line w e = read_again bytes line w e

pub no_line_is_read_law : NoLineIsRead
no_line_is_read_law bytes none = not_read bytes none
