-- A machine that takes a text byte by byte. A program reads as it does, and by it a text is seen to have no more than one reading.
use Rattle.std.specs.Prelude.{ℕ, zero, suc, ◌+◌, Bool, true, false, List, [], ◌∷◌, ◌++◌, nat_eq, Option, None, Some, ◌&&◌, nat_le}
use Rattle.nq_form.specs.Form.{Form, Forms, text, quoted, listed, end, dotted, next, push, append}
use Rattle.nq_form.specs.Bytes.{is_separator, is_constituent, is_opening}
use Rattle.nq_form.specs.Kinds.{Kind, form, single_dot, too_wide, no_token}
use Rattle.nq_form.specs.Grammar.{Spot, outermost, past_mark, takes_form, takes_dot, spot_in, spot_past, first_place, Ending, done, fault, too_long}

pub data Opened : Type 0 where
  list : Opened
  dot : Opened
  mark : Opened

-- what was opened, the forms before it, and its place
pub record Frame : Type 0 where
  pub opened : Opened
  pub forms : Forms
  pub place : ℕ

pub record Stack : Type 0 where
  pub frames : List Frame
  pub forms : Forms
  pub depth : ℕ

-- a token so far (or none), a sharp sign, a comment, or a string, each with its place
pub data Mode : Type 0 where
  word : ℕ → List ℕ → Mode
  sharp : ℕ → Mode
  line : Mode
  block : ℕ → ℕ → ℕ → Mode
  string : ℕ → List ℕ → Bool → Mode

pub data State : Type 0 where
  live : Stack → Mode → State
  stopped : Forms → Ending → State

abbrev pub idle : Stack → State
idle k = live k (word 0 [])

-- the forms outside all that is open
abbrev pub outer : List Frame → Forms → Forms
outer [] fs = fs
outer (f ∷ frames) fs = outer frames f.forms

abbrev pub outer_of : Stack → Forms
outer_of k = outer k.frames k.forms

abbrev pub list_place : Opened → Option ℕ → ℕ → Option ℕ
list_place list o at = Some (first_place o at)
list_place dot o at = o
list_place mark o at = o

-- the place of the outermost list
abbrev pub first_list : List Frame → Option ℕ
first_list [] = None
first_list (f ∷ frames) = list_place f.opened (first_list frames) f.place

-- so many lists and quotes are open
abbrev pub levels_with : Opened → ℕ → ℕ
levels_with list n = suc n
levels_with dot n = n
levels_with mark n = suc n

abbrev pub levels_of : List Frame → ℕ
levels_of [] = 0
levels_of (f ∷ frames) = levels_with f.opened (levels_of frames)

abbrev pub spot_at : Opened → Forms → Spot
spot_at list fs = spot_in fs
spot_at dot fs = spot_past fs
spot_at mark fs = past_mark

abbrev pub spot_of : List Frame → Forms → Spot
spot_of [] fs = outermost
spot_of (f ∷ frames) fs = spot_at f.opened fs

abbrev pub top_place : List Frame → ℕ
top_place [] = 0
top_place (f ∷ frames) = f.place

-- a whole form in a list or behind a dot, or behind a quote mark, which it ends
abbrev pub put_at : Opened → Frame → List Frame → Forms → ℕ → Form → Stack → Stack
put_at list f frames fs d g under = record { frames = f ∷ frames; forms = push fs g; depth = d }
put_at dot f frames fs d g under = record { frames = f ∷ frames; forms = push fs g; depth = d }
put_at mark f frames fs d g under = under

abbrev pub put : List Frame → Forms → ℕ → Form → Stack
put [] fs d g = record { frames = []; forms = push fs g; depth = d }
put (f ∷ frames) fs d g = put_at f.opened f frames fs d g (put frames f.forms (suc d) (quoted g))

abbrev pub give : Stack → Form → Stack
give k g = put k.frames k.forms k.depth g

abbrev pub opened_on : Opened → ℕ → Stack → ℕ → Stack
opened_on what at k d = record { frames = record { opened = what; forms = k.forms; place = at } ∷ k.frames; forms = end; depth = d }

-- where a form may stand, or is the second one behind a dot
abbrev pub given : Bool → Stack → Form → State
given true k g = idle (give k g)
given false k g = stopped (outer_of k) (fault 2 (top_place k.frames))

abbrev pub dotted_at : Bool → ℕ → Stack → State
dotted_at true p k = idle (opened_on dot p k k.depth)
dotted_at false p k = stopped (outer_of k) (fault 2 p)

abbrev pub takes : Stack → Bool
takes k = takes_form (spot_of k.frames k.forms)

abbrev pub judged : Kind → ℕ → Stack → State
judged (form g) p k = given (takes k) k g
judged single_dot p k = dotted_at (takes_dot (spot_of k.frames k.forms)) p k
judged too_wide p k = stopped (outer_of k) (fault 3 p)
judged no_token p k = stopped (outer_of k) (fault 2 p)

abbrev pub deeper : ℕ → Opened → ℕ → Stack → State
deeper zero what at k = stopped (outer_of k) (fault 4 at)
deeper (suc d) what at k = idle (opened_on what at k d)

-- a quotation mark, a quote mark or an opening parenthesis
abbrev pub opening_kind : Bool → Bool → ℕ → Stack → State
opening_kind true m at k = live k (string at [] false)
opening_kind false true at k = deeper k.depth mark at k
opening_kind false false at k = deeper k.depth list at k

abbrev pub opening : Bool → ℕ → Stack → ℕ → State
opening true at k b = opening_kind (nat_eq b 34) (nat_eq b 39) at k
opening false at k b = stopped (outer_of k) (fault 2 (top_place k.frames))

abbrev pub tail_of : Forms → Forms → Forms
tail_of gs (next f fs) = append gs (dotted f)
tail_of gs _ = gs

abbrev pub close_dot : Forms → Frame → List Frame → ℕ → ℕ → State
close_dot fs p [] d at = stopped p.forms (fault 1 at)
close_dot end p (f ∷ frames) d at = stopped (outer (p ∷ f ∷ frames) end) (fault 2 p.place)
close_dot (dotted g) p (f ∷ frames) d at = stopped (outer (p ∷ f ∷ frames) end) (fault 2 p.place)
close_dot (next g gs) p (f ∷ frames) d at = idle (put frames f.forms (suc d) (listed (append p.forms (dotted g))))

-- a closing parenthesis behind a quote mark, in a list or not
abbrev pub close_mark : Option ℕ → List Frame → Forms → ℕ → State
close_mark None frames fs at = stopped (outer frames fs) (fault 1 at)
close_mark (Some place) frames fs at = stopped (outer frames fs) (fault 2 at)

abbrev pub close_at : Opened → Frame → List Frame → Forms → ℕ → ℕ → State
close_at list f frames fs d at = idle (put frames f.forms (suc d) (listed fs))
close_at dot f frames fs d at = close_dot fs f frames d at
close_at mark f frames fs d at = close_mark (first_list frames) (f ∷ frames) fs at

abbrev pub close : List Frame → Forms → ℕ → ℕ → State
close [] fs d at = stopped fs (fault 1 at)
close (f ∷ frames) fs d at = close_at f.opened f frames fs d at

-- a byte that is no constituent: a separator, an opening, a closing, a semicolon, a sharp sign, or none of these
abbrev pub apart_kind : Bool → Bool → Bool → Bool → Bool → ℕ → Stack → ℕ → State
apart_kind true o c l s at k b = idle k
apart_kind false true c l s at k b = opening (takes k) at k b
apart_kind false false true l s at k b = close k.frames k.forms k.depth at
apart_kind false false false true s at k b = live k line
apart_kind false false false false true at k b = live k (sharp at)
apart_kind false false false false false at k b = stopped (outer_of k) (fault 2 at)

abbrev pub apart_byte : ℕ → Stack → ℕ → State
apart_byte at k b = apart_kind (is_separator b) (is_opening b) (nat_eq b 41) (nat_eq b 59) (nat_eq b 35) at k b

abbrev pub apart : ℕ → State → ℕ → State
apart at (live k m) b = apart_byte at k b
apart at (stopped fs e) b = stopped fs e

abbrev pub grow : ℕ → ℕ → List ℕ → ℕ → Mode
grow at p [] b = word at (b ∷ [])
grow at p (c ∷ w) b = word p (c ∷ w ++ b ∷ [])

abbrev pub line_step : Bool → Stack → State
line_step true k = idle k
line_step false k = live k line

abbrev pub sharp_step : Bool → ℕ → Stack → State
sharp_step true p k = live k (block p 0 0)
sharp_step false p k = stopped (outer_of k) (fault 2 p)

abbrev pub block_end : ℕ → ℕ → Stack → State
block_end zero p k = idle k
block_end (suc n) p k = live k (block p n 0)

-- the end of a comment, the beginning of one, or neither
abbrev pub block_step : Bool → Bool → ℕ → ℕ → Stack → ℕ → State
block_step true o p n k b = block_end n p k
block_step false true p n k b = live k (block p (suc n) 0)
block_step false false p n k b = live k (block p n b)

-- behind a backslash, or a quotation mark, a backslash, or another byte
abbrev pub string_step : Bool → Bool → Bool → ℕ → List ℕ → Stack → ℕ → State
string_step true q e p bytes k b = live k (string p (bytes ++ b ∷ []) false)
string_step false true e p bytes k b = idle (give k (text bytes))
string_step false false true p bytes k b = live k (string p bytes true)
string_step false false false p bytes k b = live k (string p (bytes ++ b ∷ []) false)

pub record Outcome : Type 0 where
  pub forms : Forms
  pub ending : Ending

-- the end of the text where no list is open: behind a quote mark or not
abbrev pub mark_end : List Frame → Forms → Outcome
mark_end [] fs = record { forms = fs; ending = done }
mark_end (f ∷ frames) fs = record { forms = outer (f ∷ frames) fs; ending = fault 2 f.place }

abbrev pub end_of : Option ℕ → Stack → Outcome
end_of (Some place) k = record { forms = outer_of k; ending = fault 1 place }
end_of None k = mark_end k.frames k.forms

-- the end in a comment or a string
abbrev pub cut_off : Option ℕ → ℕ → Stack → Outcome
cut_off (Some place) p k = record { forms = outer_of k; ending = fault 1 place }
cut_off None p k = record { forms = outer_of k; ending = fault 1 p }

abbrev pub ended : State → Outcome
ended (live k m) = end_of (first_list k.frames) k
ended (stopped fs e) = record { forms = fs; ending = e }

module _ (kind_of : List ℕ → Kind) where
  abbrev pub judge : ℕ → Stack → List ℕ → State
  judge p k [] = idle k
  judge p k (b ∷ w) = judged (kind_of (b ∷ w)) p k

  abbrev pub word_step : Bool → ℕ → Stack → ℕ → List ℕ → ℕ → State
  word_step true at k p w b = live k (grow at p w b)
  word_step false at k p w b = apart at (judge p k w) b

  abbrev pub go : ℕ → Stack → Mode → ℕ → State
  go at k (word p w) b = word_step (is_constituent b) at k p w b
  go at k (sharp p) b = sharp_step (nat_eq b 124) p k
  go at k line b = line_step (nat_eq b 10) k
  go at k (block p n q) b = block_step (nat_eq q 124 && nat_eq b 35) (nat_eq q 35 && nat_eq b 124) p n k b
  go at k (string p bytes escaped) b = string_step escaped (nat_eq b 34) (nat_eq b 92) p bytes k b

  abbrev pub limited : Bool → ℕ → Stack → Mode → ℕ → State
  limited true at k m b = stopped (outer_of k) too_long
  limited false at k m b = go at k m b

  abbrev pub step : ℕ → ℕ → State → ℕ → State
  step limit at (live k m) b = limited (nat_le limit at) at k m b
  step limit at (stopped fs e) b = stopped fs e

  unfoldable pub run : ℕ → ℕ → State → List ℕ → State
  run limit at s [] = s
  run limit at s (b ∷ t) = run limit (at + 1) (step limit at s b) t

  -- how the end of the text is answered
  abbrev pub finish : State → Outcome
  finish (live k (word p w)) = ended (judge p k w)
  finish (live k (sharp p)) = record { forms = outer_of k; ending = fault 2 p }
  finish (live k line) = end_of (first_list k.frames) k
  finish (live k (block p n q)) = cut_off (first_list k.frames) p k
  finish (live k (string p bytes escaped)) = cut_off (first_list k.frames) p k
  finish (stopped fs e) = record { forms = fs; ending = e }
