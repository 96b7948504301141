-- The first shell that has a constructor or a base, and so the kind of a call.
use Rattle.std.specs.Prelude.{ℕ, suc, ◌==◌, ◌&&◌, Bool, Option, Some, None, List, [], ◌∷◌, length, bytes_eq, codes, if◌then◌else◌}
use Rattle.nq_logic.specs.Terms.{Name}
use Rattle.nq_logic.specs.Histories.{Shell}
use Rattle.nq_logic.specs.ShellPrinciple.{is_base}
use Rattle.nq_types.specs.declared.kinds.Kind.{Kind}
use Rattle.nq_types.specs.declared.kinds.Kind.TheVariants.{Truth, Falsity, Base, Made, Other}

-- is it the shell's constructor, with so many parts?
abbrev pub makes : Name → ℕ → Shell → Bool
makes f n s = bytes_eq f s.constructor && (length s.parts == n)

-- is it the shell's base?
abbrev pub has_base : Name → Shell → Bool
has_base f s = is_base f s.base

-- is it the shell's recognizer?
abbrev pub recognizes_by : Name → Shell → Bool
recognizes_by f s = bytes_eq f s.recognizer

-- the place of the first shell of which a test holds; the first of these stands at a place
abbrev pub first_from : (Shell → Bool) → ℕ → List Shell → Option ℕ
first_from test place [] = None
first_from test place (s ∷ shells) = if test s then Some place else first_from test (suc place) shells

abbrev pub kind_made : Option ℕ → Kind
kind_made None = Other
kind_made (Some place) = Made place

abbrev pub kind_based : Option ℕ → Kind → Kind
kind_based None kind = kind
kind_based (Some place) kind = Base place

-- the kind of (f)
abbrev pub kind_of_none : Name → List Shell → Kind
kind_of_none f shells =
    if bytes_eq f (codes "TRUE") then Truth else if bytes_eq f (codes "FALSE") then Falsity else kind_based (first_from (has_base f) 0 shells) (kind_made (first_from (makes f 0) 0 shells))

-- the kind of a call of f on n arguments
abbrev pub kind_of_call : Name → ℕ → List Shell → Kind
kind_of_call f n shells = if n == 0 then kind_of_none f shells else kind_made (first_from (makes f n) 0 shells)
