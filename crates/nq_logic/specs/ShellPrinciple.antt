-- The Shell Principle: which shells are accepted after the shells that stand, and why the others are refused.
use Rattle.std.specs.Prelude.{◌≡◌, ℕ, Bool, false, not, bytes_eq, codes, nat_lt, if◌then◌else◌, List, [], ◌∷◌, map, length, Option, Some, None}
use Rattle.nq_logic.specs.Terms.{Name, IsAmong, Each}
use Rattle.nq_logic.specs.Histories.{Restriction, OneOf, NoneOf, Part, Shell, History, events_shells, shell_symbols}
use Rattle.nq_logic.specs.Ground.{all_events}
use Rattle.nq_logic.specs.Names.{has_name, symbol_names, is_in_use}
use Rattle.nq_logic.specs.Admissible.{AreDistinct}

-- the shells of the ground history and of h, oldest first
abbrev pub shells_of : History → List Shell
shells_of h = events_shells (all_events h)

-- the names that a shell brings into use: constructor, base, recognizer and accessors
abbrev pub shell_names : Shell → List Name
shell_names s = symbol_names (shell_symbols s)

abbrev pub recognizers : List Shell → List Name
recognizers shells = map (λ s. s.recognizer) shells

-- what a restriction of the shell s may name
abbrev pub known_recognizers : List Shell → Shell → List Name
known_recognizers earlier s = codes "TRUEP" ∷ codes "FALSEP" ∷ s.recognizer ∷ recognizers earlier

-- the recognizers that a restriction names
abbrev pub listed : Restriction → List Name
listed (OneOf rs) = rs
listed (NoneOf rs) = rs

abbrev pub is_base : Name → Option Name → Bool
is_base d None = false
is_base d (Some b) = bytes_eq d b

-- the recognizer of the first shell that has this base
abbrev pub kind_of_base : Name → List Shell → Option Name
kind_of_base d [] = None
kind_of_base d (s ∷ shells) = if is_base d s.base then Some s.recognizer else kind_of_base d shells

-- The recognizer that holds of the constant (d): TRUEP of TRUE, FALSEP of FALSE, and of a base its shell's. There is none
-- where d is no default.
abbrev pub kind_of_default : List Shell → Shell → Name → Option Name
kind_of_default earlier s d =
    if bytes_eq d (codes "TRUE")
    then Some (codes "TRUEP")
    else if bytes_eq d (codes "FALSE") then Some (codes "FALSEP") else kind_of_base d (s ∷ earlier)

-- an object of which just the recognizer r holds meets the restriction
abbrev pub Meets : Restriction → Name → Type 0
Meets (OneOf rs) r = IsAmong r rs
Meets (NoneOf rs) r = IsAmong r rs → ⊥

-- the default of the part is TRUE, FALSE or a base, and meets the restriction of the part
pub record IsDefault (earlier : List Shell) (s : Shell) (part : Part) : Type 0 where
  pub kind : List ℕ
  pub is : kind_of_default earlier s part.default ≡ Some kind
  pub meets : Meets part.restriction kind

-- The shell s may stand after the earlier shells, where a test tells which names are in use: its names are new and
-- distinct, the recognizers of its restrictions are known, and its defaults are such as their restrictions ask.
pub record IsShellAccepted (in_use : List ℕ → Bool) (earlier : List Shell) (s : Shell) : Type 0 where
  pub unused : Each (λ name. in_use name ≡ false) (shell_names s)
  pub distinct : AreDistinct (shell_names s)
  pub known : Each (λ part. Each (λ r. IsAmong r (known_recognizers earlier s)) (listed part.restriction)) s.parts
  pub defaults : Each (IsDefault earlier s) s.parts

-- the shell may be added to a history
abbrev pub IsShellAcceptedIn : History → Shell → Type 0
IsShellAcceptedIn h s = IsShellAccepted (λ name. is_in_use name h) (shells_of h) s

-- the four ground shells and 26 more
abbrev pub shell_limit : ℕ
shell_limit = 30

-- The first fault, by tests. The first name that is in use:
abbrev pub first_used : (Name → Bool) → List Name → Option Name
first_used in_use [] = None
first_used in_use (n ∷ names) = if in_use n then Some n else first_used in_use names

-- the first name that stands twice
abbrev pub first_repeated : List Name → Option Name
first_repeated [] = None
first_repeated (n ∷ names) = if has_name n names then Some n else first_repeated names

-- the first name that is not among those known
abbrev pub first_outside : List Name → List Name → Option Name
first_outside known [] = None
first_outside known (r ∷ rs) = if has_name r known then first_outside known rs else Some r

abbrev pub first_of : Option Name → Option Name → Option Name
first_of None other = other
first_of (Some n) other = Some n

abbrev pub first_unknown : List Name → List Part → Option Name
first_unknown known [] = None
first_unknown known (part ∷ parts) = first_of (first_outside known (listed part.restriction)) (first_unknown known parts)

abbrev pub meets : Restriction → Name → Bool
meets (OneOf rs) r = has_name r rs
meets (NoneOf rs) r = not (has_name r rs)

abbrev pub kind_meets : Restriction → Option Name → Bool
kind_meets restriction None = false
kind_meets restriction (Some r) = meets restriction r

abbrev pub is_default : List Shell → Shell → Part → Bool
is_default earlier s part = kind_meets part.restriction (kind_of_default earlier s part.default)

-- the first default that is none, or does not meet its restriction
abbrev pub first_bad_default : List Shell → Shell → List Part → Option Name
first_bad_default earlier s [] = None
first_bad_default earlier s (part ∷ parts) = if is_default earlier s part then first_bad_default earlier s parts else Some part.default

-- why a shell is refused, with the name that tells
pub data ShellRefusal : Type 0 where
  InUse : (name : List ℕ) → ShellRefusal
  Repeated : (name : List ℕ) → ShellRefusal
  Unknown : (name : List ℕ) → ShellRefusal
  Bad : (name : List ℕ) → ShellRefusal
  Full : ShellRefusal

-- a refusal for this name if there is one, and else the other
abbrev pub refused : (Name → ShellRefusal) → Option Name → Option ShellRefusal → Option ShellRefusal
refused why None other = other
refused why (Some name) other = Some (why name)

-- the first refusal, in the order of the tests
abbrev pub shell_refusal : (Name → Bool) → List Shell → Shell → Option ShellRefusal
shell_refusal in_use earlier s =
    refused InUse (first_used in_use (shell_names s))
    (refused Repeated (first_repeated (shell_names s))
    (refused Unknown (first_unknown (known_recognizers earlier s) s.parts)
    (refused Bad (first_bad_default earlier s s.parts) (if nat_lt (length earlier) shell_limit then None else Some Full))))
