-- What has begun, to the machine that reads byte by byte.
use Rattle.std.specs.Prelude.{◌≡◌, ℕ, Bool, true, false, ◌&&◌, not, nat_eq, IsTrue, List, [], ◌∷◌, Option, None, Some, Result, Ok, Err}
use Rattle.std.specs.List.{list_all}
use Rattle.nq_form.specs.Bytes.{is_constituent}
use Rattle.nq_form.specs.Kinds.{kind_of}
use Rattle.nq_form.specs.Machine.{Stack as StackPart, Mode as ModePart, word, sharp, line, block, string, State, live, judge, grow, apart_byte, sharp_step, line_step, block_step, string_step, outer_of}
use Rattle.nq_sexp.specs.Stacks.{StopsAs}
use Rattle.nq_sexp.specs.declared.scan.Mode.{Mode}
use Rattle.nq_sexp.specs.declared.scan.Mode.TheVariants.{Word, Sharp, Line, Block, Text}
use Rattle.nq_sexp.specs.declared.fault.ReadFault.{ReadFault}

abbrev pub mode_of : Mode → ModePart
mode_of (Word place bytes) = word place bytes.items
mode_of (Sharp place) = sharp place
mode_of Line = line
mode_of (Block place depth last) = block place depth last
mode_of (Text place bytes escaped) = string place bytes.items escaped

-- how many comments are open around the innermost one
abbrev pub nested_in : ModePart → ℕ
nested_in (block place depth last) = depth
nested_in (word place bytes) = 0
nested_in (sharp place) = 0
nested_in line = 0
nested_in (string place bytes escaped) = 0

-- a token is made of constituents
abbrev pub IsWord : ModePart → Type 0
IsWord (word place bytes) = IsTrue (list_all is_constituent bytes)
IsWord (sharp place) = Unit {0}
IsWord line = Unit {0}
IsWord (block place depth last) = Unit {0}
IsWord (string place bytes escaped) = Unit {0}

-- a token has begun
abbrev pub is_whole_word : ModePart → Bool
is_whole_word (word place []) = false
is_whole_word (word place (b ∷ bytes)) = true
is_whole_word (sharp place) = false
is_whole_word line = false
is_whole_word (block place depth last) = false
is_whole_word (string place bytes escaped) = false

-- a byte that is no constituent comes next, or the end
abbrev pub ends_token : Option ℕ → Bool
ends_token None = true
ends_token (Some byte) = not (is_constituent byte)

-- the state where a token that is over was taken
abbrev pub settled : Bool → StackPart → ModePart → State
settled false k m = live k m
settled true k (word place bytes) = judge kind_of place k bytes
settled true k (sharp place) = live k (sharp place)
settled true k line = live k line
settled true k (block place depth last) = live k (block place depth last)
settled true k (string place bytes escaped) = live k (string place bytes escaped)

abbrev pub word_stepped : Bool → ℕ → StackPart → ℕ → List ℕ → ℕ → State
word_stepped true at k place bytes byte = live k (grow at place bytes byte)
word_stepped false at k place bytes byte = apart_byte at k byte

-- the state after one byte more, where a token that it doesn't carry on was taken before
abbrev pub stepped : ℕ → StackPart → ModePart → ℕ → State
stepped at k (word place bytes) byte = word_stepped (is_constituent byte) at k place bytes byte
stepped at k (sharp place) byte = sharp_step (nat_eq byte 124) place k
stepped at k line byte = line_step (nat_eq byte 10) k
stepped at k (block place depth last) byte = block_step (nat_eq last 124 && nat_eq byte 35) (nat_eq last 35 && nat_eq byte 124) place depth k byte
stepped at k (string place bytes escaped) byte = string_step escaped (nat_eq byte 34) (nat_eq byte 92) place bytes k byte

-- The machine goes on with this stack and mode, or stops.
abbrev pub Turns : State → StackPart → StackPart → Result Mode ReadFault → Type 0
Turns s old new (Ok mode) = s ≡ live new (mode_of mode)
Turns s old new (Err why) = StopsAs s (outer_of old) why
