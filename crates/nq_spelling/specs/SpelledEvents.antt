-- Events that a log can spell.
use Rattle.std.specs.Prelude.{◌≡◌, ◌<◌, ◌≤◌, ◌^◌, ◌++◌, ⊤, IfSome, IsTrue, None, true, List, [], ◌∷◌, length, nat_le}
use Rattle.nq_logic.specs.Terms.{Each, IsTerm, Name, Symbol, Term}
use Rattle.nq_logic.specs.Histories.{History, Shell}
use Rattle.nq_logic.specs.Histories as logic
use Rattle.nq_logic.specs.Ground.{symbols_of}
use Rattle.nq_logic.specs.Names.{before_event, event_names}
use Rattle.nq_logtext.specs.Symbols.{is_symbol}
use Rattle.nq_kernel.specs.Over.{IsTermOf, IsVariable}
use Rattle.nq_log.specs.ClosingLines.{are_short}
use Rattle.nq_log.specs.Sizes.{is_small}
use Rattle.nq_block.specs.Closings.{IsBaseSpelled, IsClaimable, IsPartSpelled}
use Rattle.nq_form.specs.Form.{Form}
use Rattle.nq_form.specs.Widths.{IsNarrow}
use Rattle.nq_events.specs.OwnRefusals.{event_limit, room_refusal}
use Rattle.nq_events.specs.Reading.{event_of, event_refusal}
use Rattle.nq_spelling.specs.Spelled.{IsSpelled}
use Rattle.nq_events.specs.Events.{Event, Hints, Measure, BootStrap, AddShell, Dcl, Defn, AddAxiom, ProveLemma, Toggle, Undo, Skipped}

-- The name of the axiom or lemma is a symbol in upper case. Its term is over the functions of the history and within the
-- limits, and its variables are such symbols, none of which is T, F or NIL.
pub record IsSpelledFormula (h : History) (name : Name) (t : Term) : Type 0 where
  pub symbol : IsTrue (is_symbol name)
  pub claimable : IsClaimable h t

-- the name and the formals of the function are symbols in upper case, and the formals are not too many
pub record IsSpelledFunction (name : Name) (formals : List Name) : Type 0 where
  pub symbol : IsTrue (is_symbol name)
  pub formals_spelled : Each (λ x. IsTrue (is_symbol x)) formals
  pub few : length formals < 2 ^ 32

-- So are those of a defined function. Its body is within the limits, and is over it and the functions of the history.
pub record IsSpelledDefinition (h : History) (name : Name) (formals : List Name) (body : Term) : Type 0 where
  pub function : IsSpelledFunction name formals
  pub over : IsTermOf IsVariable ((name, length formals) ∷ symbols_of h) body
  pub small : is_small body ≡ true

-- A measure that is hinted is within the limits, and over the defined function and those of the history.
pub record IsSpelledMeasure (symbols : List Symbol) (m : Measure) : Type 0 where
  pub over : IsTerm symbols m.term
  pub small : is_small m.term ≡ true

-- a definition and its hints
pub record IsSpelledRecursion (h : History) (name : Name) (formals : List Name) (body : Term) (measures : List Measure) : Type 0 where
  pub definition : IsSpelledDefinition h name formals body
  pub hinted : Each (IsSpelledMeasure ((name, length formals) ∷ symbols_of h)) measures

-- The shell's names are symbols in upper case, and its base is not NIL, which stands for none. It has at most 20 parts, and
-- each names at most 100 recognizers.
pub record IsSpelledShell (shell : Shell) : Type 0 where
  pub constructor_spelled : IsTrue (is_symbol shell.constructor)
  pub base_spelled : IsBaseSpelled shell.base
  pub recognizer_spelled : IsTrue (is_symbol shell.recognizer)
  pub parts_spelled : Each IsPartSpelled shell.parts
  pub few : nat_le (length shell.parts) 20 ≡ true
  pub short : are_short shell.parts ≡ true

-- the terms of hints are over the functions of the history, with variables that a log can spell; so are the variables in whose
-- place USE puts terms
pub record AreSpelledHints (h : History) (hints : Hints) : Type 0 where
  pub instances : Each (λ i. Each (λ p. IsVariable p.0 × IsTermOf IsVariable (symbols_of h) p.1) i.pairs) hints.instances
  pub expand : Each (IsTermOf IsVariable (symbols_of h)) hints.expand
  pub induct : IfSome hints.induct (IsTermOf IsVariable (symbols_of h))

-- A log can spell the event.
abbrev pub IsSpelledEvent : History → Event → Type 0
IsSpelledEvent h BootStrap = ⊤
IsSpelledEvent h (AddShell shell) = IsSpelledShell shell
IsSpelledEvent h (Dcl name formals) = IsSpelledFunction name formals
IsSpelledEvent h (Defn name formals body measures) = IsSpelledRecursion h name formals body measures
IsSpelledEvent h (AddAxiom name classes t) = IsSpelledFormula h name t
IsSpelledEvent h (ProveLemma name classes t hints) = IsSpelledFormula h name t × AreSpelledHints h hints
IsSpelledEvent h (Toggle name old disabled) = IsTrue (is_symbol name)
IsSpelledEvent h (Undo name) = ⊤
IsSpelledEvent h Skipped = ⊤

-- No more events stand than may, and each brings no more names than a shell with a base and 20 parts does; so the numeral of a
-- made-up name has few digits.
pub record HasFewNames (h : History) : Type 0 where
  pub events : length h ≤ event_limit
  pub names : Each (λ e. length (event_names e) ≤ 24) h

-- so it is at first
abbrev pub FewNamesBegin : Type 0
FewNamesBegin = HasFewNames []

-- an event that brings no more may be added where there is room
abbrev pub FewNamesGrow : Type 0
FewNamesGrow = (h : History) (e : logic.Event) → HasFewNames h → room_refusal h ≡ None → length (event_names e) ≤ 24 → HasFewNames (h ++ e ∷ [])

-- a spelled shell brings no more names; events of the other kinds bring two at most
abbrev pub ShellsBringFewNames : Type 0
ShellsBringFewNames = (shell : Shell) → IsSpelledShell shell → length (event_names (logic.AddShell shell)) ≤ 24

-- an undo leaves it so
abbrev pub FewNamesStay : Type 0
FewNamesStay = (h : History) (n : Name) → HasFewNames h → HasFewNames (before_event n h)

-- A log can spell the event of a form whose symbols are read of a text of an event file, where the form isn't refused.
abbrev pub EventsAreSpelled : Type 0
EventsAreSpelled = (h : History) (form : Form) → HasFewNames h → IsSpelled form → IsNarrow (2 ^ 25) form → event_refusal h form ≡ None → IsSpelledEvent h (event_of h form)
