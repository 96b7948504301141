-- Nests to the right, and what calls with arguments in hand stand for.
use Rattle.std.specs.Prelude.{◌≡◌, ℕ, nat_eq, Bool, true, false, if◌then◌else◌, Option, None, Some, List, [], ◌∷◌}
use Rattle.nq_logic.specs.Terms.{Name, Term, call}
use Rattle.nq_language.specs.Abbreviations.{Word, Listing, Conditional, Choice, Binding, Quotation, Nesting, Path, Outside, Plain, is_word, word_of, word_by, word_in}
use Rattle.nq_language.specs.Objects.{nil_term}
use Rattle.nq_language.specs.Translation.{list_term, nested_term, path_call}
use Rattle.nq_abbrev.specs.declared.arities.Nests.{Nests}

-- the last of these terms, with calls of the others before it
abbrev pub right_nest : Name → List Term → Term
right_nest f [] = call f []
right_nest f (t ∷ []) = t
right_nest f (t ∷ u ∷ ts) = call f (t ∷ right_nest f (u ∷ ts) ∷ [])

-- the term of a call whose arguments are terms; a form of another kind has none
abbrev pub applied_term : Word → Name → List Term → Term
applied_term Listing f ts = list_term ts
applied_term Conditional f ts = nil_term
applied_term Choice f ts = nil_term
applied_term Binding f ts = nil_term
applied_term Quotation f ts = nil_term
applied_term Nesting f ts = nested_term f ts
applied_term (Path letters) f ts = path_call letters ts
applied_term Outside f ts = nil_term
applied_term Plain f ts = call f ts

-- are the arguments of a call by this meaning terms?
abbrev pub takes_terms : Word → Bool
takes_terms Listing = true
takes_terms Nesting = true
takes_terms (Path letters) = true
takes_terms Plain = true
takes_terms w = false

abbrev pub two_if : Bool → Option ℕ
two_if true = Some 2
two_if false = None

abbrev pub is_two : Option ℕ → Bool
is_two None = false
is_two (Some n) = nat_eq n 2

-- the arity of AND, OR, PLUS or TIMES that is nested
abbrev pub nest_arity : Nests → Name → Option ℕ
nest_arity n f =
    if is_word "AND" f then two_if n.and
    else (if is_word "OR" f then two_if n.or
    else (if is_word "PLUS" f then two_if n.plus
    else (if is_word "TIMES" f then two_if n.times else None)))

-- names have the meaning that they have where functions have these arities
abbrev pub Agrees : Nests → (Name → Option ℕ) → Type 0
Agrees n arity = (f : Name) → word_by (word_of f) (nest_arity n f) ≡ word_in arity f
