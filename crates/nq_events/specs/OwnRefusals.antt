-- The refusals of each event of its own, in their order, where a form was read.
use Rattle.std.specs.Prelude.{ℕ, nat_le, Bool, ◌&&◌, ◌||◌, not, true, is_some, if◌then◌else◌, List, [], ◌∷◌, length, Option, None, Some}
use Rattle.nq_logic.specs.Terms.{Name, Term}
use Rattle.nq_logic.specs.Histories.{History, Shell, RuleClass}
use Rattle.nq_logic.specs.Ground.{ground_history}
use Rattle.nq_logic.specs.Names.{has_name, constant_names, is_in_use, looked_up, event_in}
use Rattle.nq_logic.specs.Admissible.{has_variables}
use Rattle.nq_logic.specs.RuleShapes.{variables_of, is_of_shape}
use Rattle.nq_logic.specs.ShellPrinciple.{shells_of, shell_refusal, ShellRefusal, first_repeated, first_outside}
use Rattle.nq_language.specs.Abbreviations.{is_word}
use Rattle.nq_events.specs.Events.{Event, Measure, BootStrap, AddShell, Dcl, Defn, AddAxiom, ProveLemma, Toggle, Undo, Skipped}
use Rattle.nq_events.specs.Refusals.{Refusal, NoSuchEvent, GroundEvent, NameInUse, TooManyEvents, OfShell, NotOfShape, FunctionInUse, RepeatedFormal, FreeVariable, FormalIsConstant, BadMeasureHint}
use Rattle.nq_events.specs.TermRefusals.{first}

-- this refusal where the condition holds
abbrev pub refused_if : Bool → Refusal → Option Refusal
refused_if condition refusal = if condition then Some refusal else None

-- the refusal for this name, if there is one
abbrev pub refused_for : (Name → Refusal) → Option Name → Option Refusal
refused_for why None = None
refused_for why (Some name) = Some (why name)

-- 32, and 60 of a definition: the name is in use
abbrev pub in_use_refusal : (Name → Refusal) → History → Name → Option Refusal
in_use_refusal why h name = refused_if (is_in_use name h) (why name)

-- 30: no event has the name
abbrev pub unknown_refusal : History → Name → Option Refusal
unknown_refusal h name = refused_if (not (is_some (looked_up name h))) (NoSuchEvent name)

-- 31: the event is one of the ground history
abbrev pub ground_refusal : Name → Option Refusal
ground_refusal name = refused_if (is_some (event_in name ground_history)) (GroundEvent name)

-- the events past the ground history that may stand
abbrev pub event_limit : ℕ
event_limit = 10000

-- 33: as many events as may stand past the ground history stand
abbrev pub room_refusal : History → Option Refusal
room_refusal h = refused_if (nat_le event_limit (length h)) TooManyEvents

-- the first name that is T, F or NIL
abbrev pub first_constant : List Name → Option Name
first_constant [] = None
first_constant (x ∷ xs) = if has_name x constant_names then Some x else first_constant xs

-- 63: the first formal that is T, F or NIL
abbrev pub constant_refusal : List Name → Option Refusal
constant_refusal formals = refused_for FormalIsConstant (first_constant formals)

-- 61: the first formal that stands twice
abbrev pub repeated_refusal : List Name → Option Refusal
repeated_refusal formals = refused_for RepeatedFormal (first_repeated formals)

-- 62: the first variable of the body that is no formal
abbrev pub free_refusal : List Name → Term → Option Refusal
free_refusal formals body = refused_for FreeVariable (first_outside formals (variables_of body))

-- the relations under which a measure may fall
abbrev pub is_relation : Name → Bool
is_relation r = is_word "LESSP" r || is_word "ORD-LESSP" r

abbrev pub are_good_measures : List Name → List Measure → Bool
are_good_measures formals [] = true
are_good_measures formals (m ∷ measures) = is_relation m.relation && has_variables formals m.term && are_good_measures formals measures

-- 65: another relation, or a measure with a variable that is no formal
abbrev pub measures_refusal : List Name → List Measure → Option Refusal
measures_refusal formals measures = refused_if (not (are_good_measures formals measures)) BadMeasureHint

-- 50 to 52: the term lacks the shape of a class, in the order of the types
abbrev pub shape_refusal : List RuleClass → Term → Option Refusal
shape_refusal [] t = None
shape_refusal (class ∷ classes) t = if is_of_shape class t then shape_refusal classes t else Some (NotOfShape class)

abbrev pub of_shell : Option ShellRefusal → Option Refusal
of_shell None = None
of_shell (Some refusal) = Some (OfShell refusal)

-- 40 to 44
abbrev pub principle_refusal : History → Shell → Option Refusal
principle_refusal h shell = of_shell (shell_refusal (λ name. is_in_use name h) (shells_of h) shell)

-- of an axiom or a lemma: 32, 50 to 52, 33
abbrev pub formula_refusal : History → Name → List RuleClass → Term → Option Refusal
formula_refusal h name classes t = first (in_use_refusal NameInUse h name) (first (shape_refusal classes t) (room_refusal h))

-- of a definition: 60, 63, 61, 62, 65, 33; whether a measure is proved is not asked here
abbrev pub definition_refusal : History → Name → List Name → Term → List Measure → Option Refusal
definition_refusal h name formals body measures =
    first (in_use_refusal FunctionInUse h name) (first (constant_refusal formals) (first (repeated_refusal formals)
    (first (free_refusal formals body) (first (measures_refusal formals measures) (room_refusal h)))))

-- The first refusal of an event of its own.
unfoldable pub own_refusal : History → Event → Option Refusal
own_refusal h BootStrap = None
-- 40 to 44, 33
own_refusal h (AddShell shell) = first (principle_refusal h shell) (room_refusal h)
-- 32, 63, 61, 33
own_refusal h (Dcl name formals) = first (in_use_refusal NameInUse h name) (first (constant_refusal formals) (first (repeated_refusal formals) (room_refusal h)))
own_refusal h (Defn name formals body measures) = definition_refusal h name formals body measures
own_refusal h (AddAxiom name classes t) = formula_refusal h name classes t
own_refusal h (ProveLemma name classes t hints) = formula_refusal h name classes t
-- 32, 30, 33
own_refusal h (Toggle name old disabled) = first (in_use_refusal NameInUse h name) (first (unknown_refusal h old) (room_refusal h))
-- 30, 31
own_refusal h (Undo name) = first (unknown_refusal h name) (ground_refusal name)
own_refusal h Skipped = None
