-- The forms that are refused, and the translation of the others.
use Prim.Native.String.{String as Text}
use Rattle.std.specs.Prelude.{ℕ, suc, Bool, true, false, ◌&&◌, ◌||◌, not, nat_eq, nat_lt, bytes_eq, is_some, if◌then◌else◌, Option, None, Some, Result, Ok, Err, List, [], ◌∷◌, codes}
use Rattle.std.specs.Fmt.{decimal}
use Rattle.nq_logic.specs.Terms.{Name, Term}
use Rattle.nq_form.specs.Form.{Form, Forms, symbol, numeral, text, quoted, listed, end, dotted, next}
use Rattle.nq_language.specs.Abbreviations.{Word, is_word, Listing, Conditional, Choice, Binding, Quotation, Nesting, Path, Outside, Plain, word_in}
use Rattle.nq_language.specs.Translation.{translated}
use Rattle.nq_language.specs.Limits.{is_too_large}

pub data Refusal : Type 0 where
  UnknownFunction : (function : Name) → Refusal
  WrongArity : (function : Name) → (given wanted : ℕ) → Refusal
  OutOfScope : (name : Name) → Refusal
  BadAbbreviation : (name : Name) → Refusal
  BadVariable : (name : Name) → Refusal
  TooLarge : Refusal

abbrev pub code_of : Refusal → ℕ
code_of (UnknownFunction f) = 10
code_of (WrongArity f given wanted) = 11
code_of (OutOfScope name) = 12
code_of (BadAbbreviation name) = 13
code_of (BadVariable name) = 14
code_of TooLarge = 15

-- the words of a refusal
abbrev pub words_of : Refusal → List (List ℕ)
words_of (UnknownFunction f) = codes "UnknownFunction" ∷ f ∷ []
words_of (WrongArity f given wanted) = codes "Arity" ∷ f ∷ decimal given ∷ decimal wanted ∷ []
words_of (OutOfScope name) = codes "OutOfScope" ∷ name ∷ []
words_of (BadAbbreviation name) = codes "BadAbbreviation" ∷ name ∷ []
words_of (BadVariable name) = codes "BadVariable" ∷ name ∷ []
words_of TooLarge = codes "TooLarge" ∷ []

abbrev pub Met : Type 0
Met = Option Refusal

abbrev pub out_of_scope : Text → Met
out_of_scope x = Some (OutOfScope (codes x))

abbrev pub bad : Text → Met
bad x = Some (BadAbbreviation (codes x))

-- the first that is met
abbrev pub first : Met → Met → Met
first None r = r
first (Some r) _ = Some r

-- a name that begins with *1*
abbrev pub is_escape : Name → Bool
is_escape (a ∷ b ∷ c ∷ rest) = nat_eq a 42 && nat_eq b 49 && nat_eq c 42
is_escape _ = false

abbrev mutual
  -- what is refused in a quoted object
  pub object_met : Form → Met
  object_met (symbol x) = if is_escape x then Some (OutOfScope x) else None
  object_met (numeral negative n) = None
  object_met (text bytes) = out_of_scope "STRING"
  object_met (quoted f) = object_met f
  object_met (listed fs) = objects_met fs

  pub objects_met : Forms → Met
  objects_met end = None
  objects_met (dotted f) = object_met f
  objects_met (next f fs) = first (object_met f) (objects_met fs)

abbrev pub is_dotted : Forms → Bool
is_dotted end = false
is_dotted (dotted f) = true
is_dotted (next f fs) = is_dotted fs

abbrev pub count : Forms → ℕ
count end = 0
count (dotted f) = 0
count (next f fs) = suc (count fs)

-- a list of two forms
abbrev pub is_pair : Form → Bool
is_pair (listed (next f (next g end))) = true
is_pair _ = false

-- a list of this symbol and a form
abbrev pub is_pair_of : Name → Form → Bool
is_pair_of w (listed (next (symbol k) (next g end))) = bytes_eq k w
is_pair_of w _ = false

-- clauses of two forms each, the last of which begins with this symbol
abbrev pub are_clauses : Name → Forms → Bool
are_clauses w end = false
are_clauses w (dotted f) = false
are_clauses w (next f end) = is_pair_of w f
are_clauses w (next f fs) = is_pair f && are_clauses w fs

-- lists of two forms each
abbrev pub all_pairs : Forms → Bool
all_pairs end = true
all_pairs (dotted f) = false
all_pairs (next f fs) = is_pair f && all_pairs fs

abbrev pub is_choice : Forms → Bool
is_choice (next x fs) = are_clauses (codes "OTHERWISE") fs
is_choice _ = false

abbrev pub is_single : Forms → Bool
is_single (next f end) = true
is_single _ = false

-- the variable of a binding, which is a list of a symbol and a form
abbrev pub bound_name : Form → Option Name
bound_name (listed (next (symbol x) (next t end))) = Some x
bound_name _ = None

abbrev pub are_bindings : Forms → Bool
are_bindings end = true
are_bindings (dotted f) = false
are_bindings (next f fs) = is_some (bound_name f) && are_bindings fs

abbrev pub is_same_name : Option Name → Option Name → Bool
is_same_name (Some x) (Some y) = bytes_eq x y
is_same_name _ _ = false

-- does one of the bindings have this variable?
abbrev pub is_bound_in : Option Name → Forms → Bool
is_bound_in x end = false
is_bound_in x (dotted f) = false
is_bound_in x (next f fs) = is_same_name x (bound_name f) || is_bound_in x fs

-- no variable stands twice
abbrev pub are_different : Forms → Bool
are_different end = true
are_different (dotted f) = true
are_different (next f fs) = not (is_bound_in (bound_name f) fs) && are_different fs

abbrev pub is_constant : Name → Bool
is_constant x = is_word "T" x || is_word "F" x || is_word "NIL" x

abbrev pub constant_met : Option Name → Met
constant_met None = None
constant_met (Some x) = if is_constant x then Some (BadVariable x) else None

-- the first constant that is bound
abbrev pub constants_met : Forms → Met
constants_met end = None
constants_met (dotted f) = None
constants_met (next f fs) = first (constant_met (bound_name f)) (constants_met fs)

abbrev pub bindings_met : Forms → Met
bindings_met fs = if are_bindings fs && are_different fs then constants_met fs else bad "LET"

abbrev pub binding_own : Forms → Met
binding_own (next (listed bindings) (next body end)) = bindings_met bindings
binding_own _ = bad "LET"

-- as many arguments as the arity, or two and more
abbrev pub counted : Name → ℕ → ℕ → Met
counted f wanted given = if nat_eq given wanted then None else Some (WrongArity f given wanted)

abbrev pub nested_counted : Name → ℕ → Met
nested_counted f given = if nat_lt given 2 then Some (WrongArity f given 2) else None

abbrev pub known : Name → Option ℕ → ℕ → Met
known f None given = Some (UnknownFunction f)
known f (Some wanted) given = counted f wanted given

abbrev pub unless : Bool → Met → Met
unless true r = None
unless false r = r

-- what is refused in a call of f by its meaning, apart from its parts
abbrev pub own_met : Word → Option ℕ → Name → Forms → Met
own_met Listing wanted f fs = None
own_met Conditional wanted f fs = unless (are_clauses (codes "T") fs) (bad "COND")
own_met Choice wanted f fs = unless (is_choice fs) (bad "CASE")
own_met Binding wanted f fs = binding_own fs
own_met Quotation wanted f fs = unless (is_single fs) (bad "QUOTE")
own_met Nesting wanted f fs = nested_counted f (count fs)
own_met (Path letters) wanted f fs = counted f 1 (count fs)
own_met Outside wanted f fs = Some (OutOfScope f)
own_met Plain wanted f fs = known f wanted (count fs)

module _ (arity : Name → Option ℕ) where
  unfoldable mutual
    -- the first refusal that is met from left to right, a form before its parts
    pub met : Form → Met
    met (symbol x) = None
    met (numeral negative n) = None
    met (text bytes) = out_of_scope "STRING"
    met (quoted f) = object_met f
    met (listed end) = None
    met (listed (next (symbol f) fs)) = if is_dotted fs then bad "FORM" else first (own_met (word_in arity f) (arity f) f fs) (elim (word_in arity f) [
      | Quotation ↦ objects_met fs
      | Conditional ↦ clauses_met fs
      | Choice ↦ choice_met fs
      | Binding ↦ binding_met fs
      | _ ↦ all_met fs
    ])
    met (listed fs) = bad "FORM"

    pub all_met : Forms → Met
    all_met end = None
    all_met (dotted f) = None
    all_met (next f fs) = first (met f) (all_met fs)

    pub clauses_met : Forms → Met
    clauses_met (next (listed (next t (next v end))) end) = met v
    clauses_met (next (listed (next t (next v end))) fs) = first (met t) (first (met v) (clauses_met fs))
    clauses_met _ = None

    pub choice_met : Forms → Met
    choice_met (next x fs) = first (met x) (keyed_met fs)
    choice_met _ = None

    pub keyed_met : Forms → Met
    keyed_met (next (listed (next k (next v end))) end) = met v
    keyed_met (next (listed (next k (next v end))) fs) = first (object_met k) (first (met v) (keyed_met fs))
    keyed_met _ = None

    pub binding_met : Forms → Met
    binding_met (next (listed bindings) (next body end)) = first (bound_met bindings) (met body)
    binding_met _ = None

    pub bound_met : Forms → Met
    bound_met (next (listed (next x (next t end))) fs) = first (met t) (bound_met fs)
    bound_met _ = None

  -- in the arguments of a call, by its meaning
  unfoldable pub parts_met : Word → Forms → Met
  parts_met w fs = elim w [
    | Quotation ↦ objects_met fs
    | Conditional ↦ clauses_met fs
    | Choice ↦ choice_met fs
    | Binding ↦ binding_met fs
    | _ ↦ all_met fs
  ]

-- the term, or the refusal of one that is too large
abbrev pub sized : Term → Result Term Refusal
sized t = if is_too_large t then Err TooLarge else Ok t

abbrev pub unless_met : Met → Result Term Refusal → Result Term Refusal
unless_met None r = r
unless_met (Some refusal) r = Err refusal

-- The term of a form, or its first refusal.
unfoldable pub translation : (Name → Option ℕ) → Form → Result Term Refusal
translation arity f = unless_met (met arity f) (sized (translated arity f))
