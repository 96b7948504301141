-- The names with a meaning of their own.
use Prim.Native.String.{String as Text}
use Rattle.std.specs.Prelude.{ℕ, Bool, ◌||◌, nat_eq, bytes_eq, if◌then◌else◌, Option, None, Some, List, [], ◌∷◌, codes}
use Rattle.nq_logic.specs.Terms.{Name}

pub data Word : Type 0 where
  Listing : Word
  Conditional : Word
  Choice : Word
  Binding : Word
  Quotation : Word
  -- AND, OR, PLUS, TIMES
  Nesting : Word
  -- a nest of CAR and CDR: its letters A and D, from the outside
  Path : (letters : List ℕ) → Word
  -- a function that this logic leaves out
  Outside : Word
  Plain : Word

abbrev pub is_word : Text → Name → Bool
is_word x f = bytes_eq f (codes x)

abbrev pub is_letter : ℕ → Bool
is_letter b = nat_eq b 65 || nat_eq b 68

abbrev pub after : ℕ → Option (List ℕ) → Option (List ℕ)
after b None = None
after b (Some bs) = Some (b ∷ bs)

-- the letters A and D before an R that ends the name
abbrev pub letters_of : List ℕ → Option (List ℕ)
letters_of [] = None
letters_of (b ∷ []) = if nat_eq b 82 then Some [] else None
letters_of (b ∷ c ∷ bs) = if is_letter b then after b (letters_of (c ∷ bs)) else None

-- two letters or more
abbrev pub at_least_two : Option (List ℕ) → Option (List ℕ)
at_least_two (Some (b ∷ c ∷ bs)) = Some (b ∷ c ∷ bs)
at_least_two _ = None

-- the letters of C, two or more of A and D, R
abbrev pub path_of : Name → Option (List ℕ)
path_of [] = None
path_of (b ∷ bs) = if nat_eq b 67 then at_least_two (letters_of bs) else None

abbrev pub is_nesting : Name → Bool
is_nesting f = is_word "AND" f || is_word "OR" f || is_word "PLUS" f || is_word "TIMES" f

abbrev pub is_outside : Name → Bool
is_outside f = is_word "V&C$" f || is_word "EVAL$" f || is_word "APPLY$" f || is_word "SUBRP" f || is_word "BODY" f || is_word "FORMALS" f || is_word "FOR" f

abbrev pub other_word : Name → Word
other_word f =
    if is_word "LIST" f then Listing
    else (if is_word "COND" f then Conditional
    else (if is_word "CASE" f then Choice
    else (if is_word "LET" f then Binding
    else (if is_word "QUOTE" f then Quotation
    else (if is_nesting f then Nesting
    else (if is_outside f then Outside else Plain))))))

-- a path where it has letters
abbrev pub path_or : Word → Option (List ℕ) → Word
path_or w None = w
path_or w (Some letters) = Path letters

unfoldable pub word_of : Name → Word
word_of f = path_or (other_word f) (path_of f)

-- AND, OR, PLUS and TIMES are nested where they take two arguments, as they do from the start
abbrev pub nesting_by : Option ℕ → Word
nesting_by None = Plain
nesting_by (Some n) = if nat_eq n 2 then Nesting else Plain

abbrev pub word_by : Word → Option ℕ → Word
word_by Nesting n = nesting_by n
word_by w n = w

-- the meaning of a name, where functions have these arities
unfoldable pub word_in : (Name → Option ℕ) → Name → Word
word_in arity f = word_by (word_of f) (arity f)
