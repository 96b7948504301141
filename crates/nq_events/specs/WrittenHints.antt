-- Hints as they are written: their words, and the shapes of what stands behind them.
use Rattle.std.specs.Prelude.{ℕ, if◌then◌else◌, List, [], ◌∷◌, Option, None, Some}
use Rattle.std.specs.Option.{option_map, option_and_then}
use Rattle.nq_logic.specs.Terms.{Name}
use Rattle.nq_form.specs.Form.{Form, Forms, symbol, numeral, text, quoted, listed, end, dotted, next}
use Rattle.nq_language.specs.Abbreviations.{is_word}
use Rattle.nq_events.specs.Parts.{proper, elements, each, symbol_in}

-- a variable and the form of the term that replaces it
pub record WrittenPair : Type 0 where
  pub variable : List ℕ
  pub form : Form

pub record WrittenInstance : Type 0 where
  pub name : List ℕ
  pub pairs : List WrittenPair

-- what a hint of the right shape says
pub data HintKind : Type 0 where
  Use : (instances : List WrittenInstance) → HintKind
  Enable : (names : List (List ℕ)) → HintKind
  Disable : (names : List (List ℕ)) → HintKind
  Expand : (forms : List Form) → HintKind
  Induct : (form : Form) → HintKind
  DoNotInduct : HintKind
  DoNotGeneralize : HintKind
  HandsOff : (functions : List (List ℕ)) → HintKind
  NoArithmetic : HintKind
  Time : HintKind

-- a hint with its word; it has no kind where the word is unknown or what stands behind it has another shape
pub record WrittenHint : Type 0 where
  pub word : List ℕ
  pub kind : Option HintKind

abbrev pub pair_of : List Form → Option WrittenPair
pair_of (name ∷ value ∷ []) = option_map (λ x. record { variable = x; form = value }) (symbol_in name)
pair_of _ = None

-- (v t)
abbrev pub pair_in : Form → Option WrittenPair
pair_in form = option_and_then pair_of (elements form)

abbrev pub instance_by : Option Name → Option (List WrittenPair) → Option WrittenInstance
instance_by (Some event) (Some replaced) = Some (record { name = event; pairs = replaced })
instance_by (Some event) None = None
instance_by None replaced = None

abbrev pub instance_of : List Form → Option WrittenInstance
instance_of [] = None
instance_of (event ∷ replaced) = instance_by (symbol_in event) (each pair_in replaced)

-- (name (v t) ...)
abbrev pub instance_in : Form → Option WrittenInstance
instance_in form = option_and_then instance_of (elements form)

abbrev pub single : List Form → Option Form
single (f ∷ []) = Some f
single _ = None

-- the one argument, T, of a hint that is switched on
abbrev pub switched : HintKind → List Form → Option HintKind
switched kind (symbol x ∷ []) = if is_word "T" x then Some kind else None
switched kind _ = None

-- the hint of this word with these arguments
abbrev pub kind_of : Name → List Form → Option HintKind
kind_of word forms =
    if is_word "USE" word then option_map Use (each instance_in forms)
    else (if is_word "ENABLE" word then option_map Enable (each symbol_in forms)
    else (if is_word "DISABLE" word then option_map Disable (each symbol_in forms)
    else (if is_word "EXPAND" word then Some (Expand forms)
    else (if is_word "INDUCT" word then option_map Induct (single forms)
    else (if is_word "DO-NOT-INDUCT" word then switched DoNotInduct forms
    else (if is_word "DO-NOT-GENERALIZE" word then switched DoNotGeneralize forms
    else (if is_word "HANDS-OFF" word then option_map HandsOff (each symbol_in forms)
    else (if is_word "NO-BUILT-IN-ARITH" word then switched NoArithmetic forms
    else (if is_word "TIME" word then option_map (λ x. Time) (single forms) else None)))))))))

-- a dotted hint has no kind
abbrev pub hint_of : Forms → Option WrittenHint
hint_of end = None
hint_of (dotted f) = None
hint_of (next f fs) = option_map (λ w. record { word = w; kind = option_and_then (kind_of w) (proper fs) }) (symbol_in f)

-- a list that begins with a symbol
abbrev pub hint_in : Form → Option WrittenHint
hint_in (symbol name) = None
hint_in (numeral negative n) = None
hint_in (text bytes) = None
hint_in (quoted f) = None
hint_in (listed fs) = hint_of fs

-- a list of hints
abbrev pub hints_in : Form → Option (List WrittenHint)
hints_in form = option_and_then (each hint_in) (elements form)
