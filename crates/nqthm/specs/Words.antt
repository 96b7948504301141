-- Which command the words ask for.
use Rattle.std.specs.Prelude.{◌≤◌, ◌^◌, ◌-◌, ℕ, List, [], ◌∷◌, Option, Some, None, codes, if◌then◌else◌, ⊤}
use Rattle.std.specs.Option.{option_and_then, option_map, option_map_or}
use Rattle.std.specs.Str.{bytes_eq}
use Rattle.std.specs.Str.Parse.{digits_value, without_leading_plus}
use Rattle.clap.specs.ValueTests.{is_unsigned_in}
use Rattle.clap.specs.Words.{Row, Text, Kinds, fault_of, first_of, subcommand_of}
use Rattle.nqthm.specs.Line.{command_line}
use Rattle.nqthm.specs.declared.words.Command.{Command}
use Rattle.nqthm.specs.declared.words.Command.TheVariants.{Run, Log, Check, Sample}

-- a number as Rust reads a number of 64 bits, with a plus before it or none, in this range
abbrev pub number_in : (least most : ℕ) → Text → Option ℕ
number_in least most text = if is_unsigned_in least most text
    then Some (digits_value 10 (without_leading_plus text)) else None

-- a number of steps: from one to fifty million
abbrev pub steps_of : Text → Option ℕ
steps_of text = number_in 1 50000000 text

-- two million where no number is given
abbrev pub steps_at : List Row → Option ℕ
steps_at rows = option_map_or steps_of (first_of (codes "steps") rows) (Some 2000000)

-- the number that was given as this argument
abbrev pub number_at : Text → (least most : ℕ) → List Row → Option ℕ
number_at id least most rows = option_and_then (number_in least most) (first_of id rows)

-- any seed, and a size from one to two thousand
abbrev pub sample_at : List Row → Option Command
sample_at rows =
    option_and_then (λ seed. option_map (λ size. Sample seed size) (number_at (codes "size") 1 2000 rows)) (number_at (codes "seed") 0 (2 ^ 64 - 1) rows)

abbrev pub asked_by : Text → List Row → Option Command
asked_by name rows =
    if bytes_eq name (codes "run") then option_map Run (steps_at rows)
    else if bytes_eq name (codes "log") then option_map Log (steps_at rows)
    else if bytes_eq name (codes "check") then Some Check
    else if bytes_eq name (codes "sample") then sample_at rows
    else None

abbrev pub if_faultless : {A : Type 0} → Kinds → Option A → Option A
if_faultless [] value = value
if_faultless (k ∷ ks) value = None

-- the command that the words ask for, the program's name among them; none where `clap` doesn't take them, or the
-- number of steps is out of range
abbrev pub command_of : List Text → Option Command
command_of words = if_faultless (fault_of command_line words)
    (option_and_then (λ p. asked_by p.0 p.1) (subcommand_of command_line words))

abbrev pub IsStepLimit : ℕ → Type 0
IsStepLimit steps = (1 ≤ steps) × (steps ≤ 50000000)

-- the number of steps that a command gives each event, or of the events of a sample, is in its range
abbrev pub IsLimited : Command → Type 0
IsLimited (Run steps) = IsStepLimit steps
IsLimited (Log steps) = IsStepLimit steps
IsLimited Check = ⊤
IsLimited (Sample seed size) = (1 ≤ size) × (size ≤ 2000)
