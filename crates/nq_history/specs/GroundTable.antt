-- The ground history's table, read as events.
use Rattle.std.specs.Prelude.{◌≡◌, ◌<◌, ℕ, All, Bool, true, false, ◌&&◌, nat_lt, nat_le, List, [], ◌∷◌, map, Option, Some, None, codes}
use Rattle.std.specs.Option.{option_map}
use Rattle.nq_logic.specs.Terms.{Name, Term, Function}
use Rattle.nq_logic.specs.Histories.{OneOf, NoneOf, Part, Shell, Event, AddShell, Declaration, Defines}
use Rattle.nq_logic.specs.Sizes.{depth_of, depth_limit}
use Rattle.nq_bank.specs.GroundNames.{ground_names, ground_count}
use Rattle.nq_bank.specs.Content.{Content}
use Rattle.nq_bank.specs.Soundness.{ground_text}
use Rattle.nq_bank.specs.declared.node.Sym.{Sym}
use Rattle.nq_steps.specs.declared.steps.Leaf.{Leaf}
use Rattle.nq_steps.specs.declared.steps.Leaf.TheVariants.{Letter, Name as Named, Part as PartAt, Number as NumberOf, Known}
use Rattle.nq_steps.specs.declared.steps.Step.{Step}
use Rattle.nq_steps.specs.declared.steps.Step.TheVariants.{Leaf as LeafStep, Call}
use Rattle.nq_steps.specs.Steps.{is_letter, stack_of}
use Rattle.nq_history.specs.declared.ground_table.PartRow.{PartRow}
use Rattle.nq_history.specs.declared.ground_table.PartRow.TheVariants.{Number, Any}
use Rattle.nq_history.specs.declared.ground_table.Row.{Row}
use Rattle.nq_history.specs.declared.ground_table.Row.TheVariants as row

-- the name is a ground name
abbrev pub is_ground : Sym → Bool
is_ground s = nat_lt s.0 ground_count

-- the parts of a shell's row
abbrev pub number_part : Sym → Part
number_part accessor = record { accessor = ground_text accessor; restriction = OneOf (codes "NUMBERP" ∷ []); default = codes "ZERO" }

abbrev pub any_part : Sym → Part
any_part accessor = record { accessor = ground_text accessor; restriction = NoneOf []; default = codes "ZERO" }

abbrev pub row_part : PartRow → Part
row_part (Number accessor) = number_part accessor
row_part (Any accessor) = any_part accessor

abbrev pub row_shell : Sym → Option Sym → Sym → List PartRow → Shell
row_shell constructor base recognizer parts =
    record { constructor = ground_text constructor; base = option_map ground_text base; recognizer = ground_text recognizer; parts = map row_part parts }

abbrev pub is_part_row : PartRow → Bool
is_part_row (Number accessor) = is_ground accessor
is_part_row (Any accessor) = is_ground accessor

abbrev pub are_part_rows : List PartRow → Bool
are_part_rows [] = true
are_part_rows (part ∷ parts) = is_part_row part && are_part_rows parts

abbrev pub is_base : Option Sym → Bool
is_base None = true
is_base (Some s) = is_ground s

-- a bank of the ground names alone
abbrev pub ground_content : Content
ground_content = record { names = ground_names; terms = [] }

-- the first term of a stack
abbrev pub first_of : List Term → Term
first_of [] = Function []
first_of (t ∷ ts) = t

-- the term that the steps make
abbrev pub made_of : List Step → Term
made_of steps = first_of (stack_of ground_content steps)

-- the steps name variables by letters in upper case, and functions that are ground names
abbrev pub is_leaf : Leaf → Bool
is_leaf (Letter b) = is_letter b
is_leaf (Named s) = false
is_leaf (PartAt n) = false
is_leaf (NumberOf n) = true
is_leaf (Known t) = false

abbrev pub is_step : Step → Bool
is_step (LeafStep leaf) = is_leaf leaf
is_step (Call f n) = is_ground f

abbrev pub are_steps : List Step → Bool
are_steps [] = true
are_steps (step ∷ steps) = is_step step && are_steps steps

-- one term, which is not too deep for a bank
abbrev pub is_one : List Term → Bool
is_one [] = false
is_one (t ∷ []) = nat_le (depth_of t) depth_limit
is_one (t ∷ u ∷ ts) = false

-- the steps make one term
abbrev pub makes_one : List Step → Bool
makes_one steps = are_steps steps && is_one (stack_of ground_content steps)

-- the measure that the steps make; no steps make none
abbrev pub measure_of : List Step → Option Term
measure_of [] = None
measure_of (step ∷ steps) = Some (made_of (step ∷ steps))

abbrev pub is_measure : List Step → Bool
is_measure [] = true
is_measure (step ∷ steps) = makes_one (step ∷ steps)

-- the name of a variable of one letter
abbrev pub letter : ℕ → Name
letter b = b ∷ []

abbrev pub row_definition : Sym → List ℕ → List Step → List Step → Event
row_definition f letters body measure =
    Defines (record { function = ground_text f; formals = map letter letters; body = made_of body; measure = measure_of measure })

-- The event of a row.
abbrev pub row_event : Row → Event
row_event (row.Declared f n) = Declaration (ground_text f) n
row_event (row.Shell constructor base recognizer parts) = AddShell (row_shell constructor base recognizer parts.now)
row_event (row.Defined f letters body measure) = row_definition f letters.now body.now measure.now

-- The row has ground names, and each of its lists of steps makes one term.
abbrev pub is_row : Row → Bool
is_row (row.Declared f n) = is_ground f
is_row (row.Shell constructor base recognizer parts) = is_ground constructor && (is_base base && (is_ground recognizer && are_part_rows parts.now))
is_row (row.Defined f letters body measure) = is_ground f && (makes_one body.now && is_measure measure.now)

abbrev pub are_rows : List Row → Bool
are_rows [] = true
are_rows (row ∷ rows) = is_row row && are_rows rows

-- what the test of a shell's row says
pub record IsShellRow (constructor : Sym) (base : Option Sym) (recognizer : Sym) (parts : List PartRow) : Type 0 where
  pub makes : constructor.0 < ground_count
  pub base_is : is_base base ≡ true
  pub tells : recognizer.0 < ground_count
  pub parts_are : All (λ part. is_part_row part ≡ true) parts

-- what the test of a definition's row says
pub record IsDefinitionRow (f : Sym) (body measure : List Step) : Type 0 where
  pub function : f.0 < ground_count
  pub body_is : makes_one body ≡ true
  pub measure_is : is_measure measure ≡ true

-- what the test of a row says
abbrev pub IsRow : Row → Type 0
IsRow (row.Declared f n) = f.0 < ground_count
IsRow (row.Shell constructor base recognizer parts) = IsShellRow constructor base recognizer parts.now
IsRow (row.Defined f letters body measure) = IsDefinitionRow f body.now measure.now
