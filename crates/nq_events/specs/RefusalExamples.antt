-- Refusals of definitions, declarations, shells, toggles and undos.
use Prim.Native.String.{String as Text}
use Rattle.std.specs.Prelude.{◌≡◌, ◌+◌, ℕ, zero, suc, nat_le, true, List, [], ◌∷◌, ◌++◌, length, codes, None, Some}
use Rattle.nq_logic.specs.Histories.{History, AddShell}
use Rattle.nq_language.specs.Refusals as language
use Rattle.nq_events.specs.Events as model
use Rattle.nq_events.specs.Refusals.{OfLanguage, TooManyEvents}
use Rattle.nq_events.specs.OwnRefusals.{own_refusal, room_refusal}
use Rattle.nq_events.specs.Told.{forms_in, IsRefused, IsRefusedFor, IsAllowed, refusals_of, history_of}

-- of definitions and declarations
pub record DefinitionsRefused : Type 0 where
  pub in_use : IsRefused [] "(DEFN PLUS (T T) Z)" 60 ("NameInUse" ∷ "PLUS" ∷ [])
  pub constant : IsRefused [] "(DEFN H (T T) Z)" 63 ("FormalIsConstant" ∷ "T" ∷ [])
  pub repeated : IsRefused [] "(DEFN H (X X) Z)" 61 ("RepeatedFormal" ∷ "X" ∷ [])
  pub free : IsRefused [] "(DEFN H (X) Z)" 62 ("FreeVariable" ∷ "Z" ∷ [])
  pub arity : IsRefusedFor [] "(DEFN H (X) (CAR X X))" (OfLanguage (language.WrongArity (codes "CAR") 2 1))
  pub relation : IsRefused [] "(DEFN H (X) (H X) ((GREATERP X)))" 65 ("BadMeasureHint" ∷ [])
  pub declared : IsRefused [] "(DCL PLUS (X))" 32 ("NameInUse" ∷ "PLUS" ∷ [])
  -- the first formal that stands twice
  pub first_repeated : IsRefused [] "(DCL H (X Y Y X))" 61 ("RepeatedFormal" ∷ "X" ∷ [])
  pub declared_constant : IsRefused [] "(DCL H (X X NIL))" 63 ("FormalIsConstant" ∷ "NIL" ∷ [])
  -- a measure is judged where there is no recursive call too
  pub needless : IsRefused [] "(DEFN H (X) X ((GREATERP X)))" 65 ("BadMeasureHint" ∷ [])
  pub foreign_measure : IsRefused [] "(DEFN H (X) X ((LESSP (COUNT Y))))" 65 ("BadMeasureHint" ∷ [])
  -- the term of the body tells which variable is the first, and not its form
  pub replaced : IsAllowed [] "(DEFN H (X) (LET ((Y X)) Y))"
  -- in its own terms a function has the arity of its formals
  pub own_arity : IsRefusedFor [] "(DEFN PLUS (X) (PLUS X Y))" (OfLanguage (language.WrongArity (codes "PLUS") 2 1))
  pub own_measure : IsAllowed [] "(DEFN G (X) (ADD1 (G X)) ((LESSP (G X))))"
  pub recursive : IsAllowed [] "(DEFN G (X) (ADD1 (G X)))"
  pub abbreviation : IsRefused [] "(DEFN CADR (X) (CADR X))" 60 ("NameInUse" ∷ "CADR" ∷ [])

-- a stack of numbers
abbrev pub stacks : History
stacks = history_of [] (forms_in "(ADD-SHELL PUSH EMPTY-STACK STACKP ((TOP (ONE-OF NUMBERP) ZERO) (POP (ONE-OF STACKP) EMPTY-STACK)))")

abbrev pub lettered : Text → ℕ → List ℕ
lettered word k = codes word ++ (65 + k) ∷ []

-- so many shells without parts
abbrev pub small_shells : ℕ → History
small_shells zero = []
small_shells (suc n) = AddShell (record { constructor = lettered "MAKE" n; base = None; recognizer = lettered "IS" n; parts = [] }) ∷ small_shells n

-- of shells
pub record ShellsRefused : Type 0 where
  pub accepted : length stacks ≡ 1
  pub used : IsAllowed stacks "(PROVE-LEMMA TOP-T NIL (EQUAL (TOP (PUSH T S)) 0))"
  pub name : IsRefused stacks "(ADD-SHELL PILE NIL PILEP ((TOP (NONE-OF) ZERO)))" 40 ("NameInUse" ∷ "TOP" ∷ [])
  pub twice : IsRefused stacks "(ADD-SHELL PILE NIL PILEP ((A (NONE-OF) ZERO) (PILEP (NONE-OF) ZERO) (A (NONE-OF) ZERO)))" 41 ("RepeatedName" ∷ "PILEP" ∷ [])
  pub recognizer : IsRefused stacks "(ADD-SHELL BOX NIL BOXP ((UNBOX (ONE-OF FOOP) ZERO)))" 42 ("UnknownRecognizer" ∷ "FOOP" ∷ [])
  pub restriction : IsRefused stacks "(ADD-SHELL BOX NIL BOXP ((UNBOX (ONE-OF LISTP) ZERO)))" 43 ("BadDefault" ∷ "ZERO" ∷ [])
  pub default : IsRefused stacks "(ADD-SHELL BOX NIL BOXP ((UNBOX (NONE-OF) BOX)))" 43 ("BadDefault" ∷ "BOX" ∷ [])
  pub room : IsAllowed (small_shells 25) "(ADD-SHELL LAST NIL LASTP ())"
  pub full : IsRefused (small_shells 26) "(ADD-SHELL LAST NIL LASTP ())" 44 ("TooManyShells" ∷ [])

-- of axioms and lemmas that are to be rules
pub record ClassesRefused : Type 0 where
  pub rewrite : IsRefused [] "(PROVE-LEMMA RULE1 (REWRITE) (IMPLIES P P))" 50 ("NotRewrite" ∷ [])
  pub elimination : IsRefused [] "(PROVE-LEMMA RULE1 (ELIM) (IMPLIES P P))" 51 ("NotElim" ∷ [])
  pub generalize : IsRefused [] "(ADD-AXIOM RULE1 (GENERALIZE) (IMPLIES P P))" 52 ("NotGeneralize" ∷ [])
  pub in_order : IsRefused [] "(PROVE-LEMMA RULE1 (ELIM REWRITE) (IMPLIES P P))" 51 ("NotElim" ∷ [])
  pub in_use : IsRefused [] "(PROVE-LEMMA PLUS (REWRITE) (IMPLIES P P))" 32 ("NameInUse" ∷ "PLUS" ∷ [])
  pub none : IsAllowed [] "(PROVE-LEMMA RULE1 NIL (IMPLIES P P))"
  -- a numeral is a call, of ADD1 or of ZERO
  pub of_numeral : IsAllowed [] "(PROVE-LEMMA RULE1 (GENERALIZE) (EQUAL X 0))"
  -- the left side may itself be the destructor call
  pub destructor : IsAllowed [] "(PROVE-LEMMA RULE1 (ELIM) (EQUAL (FIX X) X))"

-- a definition, a declaration and a toggle; then the declaration is undone, and the names are free again
abbrev pub undoing : Text
undoing = "(DEFN D (X) (PLUS X X)) (DCL E (X)) (TOGGLE OFF D T) (UNDO-BACK-THROUGH E) (DEFN E (X Y) X) (TOGGLE OFF D T)"

-- as many events as may stand: one more of any kind that adds an event is refused
pub record IsFull (h : History) : Type 0 where
  pub room : room_refusal h ≡ Some TooManyEvents
  pub undo : own_refusal h model.BootStrap ≡ None
  pub skipped : own_refusal h model.Skipped ≡ None

-- of toggles and undos
pub record TogglesRefused : Type 0 where
  pub none : refusals_of [] (forms_in undoing) ≡ (None ∷ None ∷ None ∷ None ∷ None ∷ None ∷ [])
  pub left : length (history_of [] (forms_in undoing)) ≡ 3
  pub ground : IsRefused [] "(UNDO-BACK-THROUGH PLUS)" 31 ("GroundEvent" ∷ "PLUS" ∷ [])
  pub no_event : IsRefused [] "(UNDO-BACK-THROUGH CAR)" 30 ("NoSuchEvent" ∷ "CAR" ∷ [])
  pub unknown : IsRefused [] "(TOGGLE K NONE T)" 30 ("NoSuchEvent" ∷ "NONE" ∷ [])
  pub in_use : IsRefused [] "(TOGGLE PLUS NONE T)" 32 ("NameInUse" ∷ "PLUS" ∷ [])
  pub disabled : IsRefused [] "(DISABLE NONE)" 30 ("NoSuchEvent" ∷ "NONE" ∷ [])
  pub full : (h : History) → nat_le 10000 (length h) ≡ true → IsFull h
