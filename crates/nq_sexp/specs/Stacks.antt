-- What the parts of a reader are to the machine that reads byte by byte.
use Rattle.std.specs.Prelude.{◌≡◌, ℕ, suc, ◌+◌, List, [], ◌∷◌, Option, None, Some, Result, Ok, Err, Bool, true, false}
use Rattle.nq_form.specs.Form.{Forms, end}
use Rattle.nq_form.specs.Grammar.{Ending, done, fault}
use Rattle.nq_form.specs.Machine.{Opened as OpenedPart, list, dot, mark, Frame as FramePart, Stack as StackPart, State, stopped, idle, levels_of, outer_of}
use Rattle.nq_sexp.specs.Tree.{trees}
use Rattle.nq_sexp.specs.declared.stack.Opened.{Opened}
use Rattle.nq_sexp.specs.declared.stack.Opened.TheVariants.{List as list_opened, Dot, Mark}
use Rattle.nq_sexp.specs.declared.stack.Frame.{Frame}
use Rattle.nq_sexp.specs.declared.stack.Stack.{Stack}
use Rattle.nq_sexp.specs.declared.fault.ReadFault.{ReadFault}
use Rattle.nq_sexp.specs.declared.fault.ReadFault.TheVariants.{Unbalanced, BadToken, NumeralTooWide, TooDeep, FileTooLong, Read, Memory}

abbrev pub opened_of : Opened → OpenedPart
opened_of list_opened = list
opened_of Dot = dot
opened_of Mark = mark

abbrev pub is_list_opened : Opened → Bool
is_list_opened list_opened = true
is_list_opened Dot = false
is_list_opened Mark = false

abbrev pub frame_of : Frame → FramePart
frame_of f = record { opened = opened_of f.opened; forms = trees f.forms.items end; place = f.place }

-- the last one is on top
abbrev pub frames_on : List FramePart → List Frame → List FramePart
frames_on under [] = under
frames_on under (f ∷ fs) = frames_on (frame_of f ∷ under) fs

abbrev pub frames_of : List Frame → List FramePart
frames_of fs = frames_on [] fs

abbrev pub stack_of : Stack → StackPart
stack_of s = record { frames = frames_of s.frames.items; forms = trees s.forms.items end; depth = s.depth }

-- the levels that are open, and those that are left
abbrev pub levels_in : StackPart → ℕ
levels_in k = k.depth + levels_of k.frames

-- what was opened last is left, one level up
abbrev pub left_level : List FramePart → StackPart → StackPart
left_level [] k = k
left_level (f ∷ under) k = record { frames = under; forms = f.forms; depth = suc k.depth }

abbrev pub is_mark : OpenedPart → Bool
is_mark mark = true
is_mark list = false
is_mark dot = false

abbrev pub is_marked : List FramePart → Bool
is_marked [] = false
is_marked (f ∷ under) = is_mark f.opened

-- a closing parenthesis behind a quote mark, in a list or not
abbrev pub IsMarkFault : Option ℕ → ℕ → ReadFault → Type 0
IsMarkFault None place why = why ≡ Unbalanced place
IsMarkFault (Some _) place why = why ≡ BadToken place

-- the end in a string or a comment
abbrev pub IsCutFault : Ending → ReadFault → Type 0
IsCutFault e (Unbalanced place) = e ≡ fault 1 place
IsCutFault e (BadToken place) = ⊥
IsCutFault e (NumeralTooWide place) = ⊥
IsCutFault e (TooDeep place) = ⊥
IsCutFault e FileTooLong = ⊥
IsCutFault e Read = ⊥
IsCutFault e Memory = ⊥

-- the answer at the end of a text that ends so
abbrev pub EndsAs : {A : Type 0} → Ending → Result A ReadFault → Type 0
EndsAs e (Ok _) = e ≡ done
EndsAs e (Err (Unbalanced place)) = e ≡ fault 1 place
EndsAs e (Err (BadToken place)) = e ≡ fault 2 place
EndsAs e (Err (NumeralTooWide place)) = e ≡ fault 3 place
EndsAs e (Err (TooDeep place)) = e ≡ fault 4 place
EndsAs e (Err FileTooLong) = ⊥
EndsAs e (Err Read) = ⊥
EndsAs e (Err Memory) = Unit {0}

abbrev pub TopIs : List FramePart → Option Opened → Type 0
TopIs frames None = frames ≡ []
TopIs frames (Some opened) = (f : FramePart) × (under : List FramePart) × (frames ≡ f ∷ under) × (f.opened ≡ opened_of opened)

abbrev pub IsListed : Opened → Bool → Type 0
IsListed opened listed = is_list_opened opened ≡ listed

-- The machine stops with this fault, and these forms before it. Want of memory may come at any time.
abbrev pub StopsAs : State → Forms → ReadFault → Type 0
StopsAs s fs (Unbalanced place) = s ≡ stopped fs (fault 1 place)
StopsAs s fs (BadToken place) = s ≡ stopped fs (fault 2 place)
StopsAs s fs (NumeralTooWide place) = s ≡ stopped fs (fault 3 place)
StopsAs s fs (TooDeep place) = s ≡ stopped fs (fault 4 place)
StopsAs s fs FileTooLong = ⊥
StopsAs s fs Read = ⊥
StopsAs s fs Memory = Unit {0}

-- The machine goes on with this stack, or stops with these forms before the fault.
abbrev pub Leads : {A : Type 0} → State → Forms → StackPart → Result A ReadFault → Type 0
Leads s fs new (Ok _) = s ≡ idle new
Leads s fs new (Err why) = StopsAs s fs why

-- The machine goes from one stack to another, or stops.
abbrev pub Follows : {A : Type 0} → State → StackPart → StackPart → Result A ReadFault → Type 0
Follows s old new result = Leads s (outer_of old) new result
