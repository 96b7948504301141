-- The terms that stand open in a goal: what simplification looks at. A value is left as it is, and so is all in it.
use Rattle.std.specs.Prelude.{if◌then◌else◌, List, [], ◌∷◌, ◌++◌, Option, None, Some}
use Rattle.nq_logic.specs.Terms.{Term, Variable, Function, Applied}
use Rattle.nq_logic.specs.Values.{is_value}
use Rattle.nq_proof.specs.Clauses.{Clause}
use Rattle.nq_proof.specs.Paths.{under_not}

-- the term and what stands open in it, where it is no value
abbrev pub unless_value : Term → List Term → List Term
unless_value t inner = if is_value t then [] else t ∷ inner

-- the open occurrences within the arguments of a call
abbrev pub open_inner : Term → List Term
open_inner (Variable x) = []
open_inner (Function f) = []
open_inner (Applied t u) = open_inner t ++ unless_value u (open_inner u)

-- The open occurrences in a term, itself among them: those that are no value and lie inside no value.
abbrev pub open_terms : Term → List Term
open_terms t = unless_value t (open_inner t)

abbrev pub atom_or : Term → Option Term → Term
atom_or literal None = literal
atom_or literal (Some t) = t

-- a literal without its outer NOT
abbrev pub atom_of : Term → Term
atom_of literal = atom_or literal (under_not literal)

-- the literals without their outer NOTs
abbrev pub atoms_of : Clause → List Term
atoms_of [] = []
atoms_of (l ∷ c) = atom_of l ∷ atoms_of c

abbrev pub open_terms_all : List Term → List Term
open_terms_all [] = []
open_terms_all (t ∷ ts) = open_terms t ++ open_terms_all ts

-- the open occurrences in a goal, the outer NOTs of its literals aside
abbrev pub open_in : Clause → List Term
open_in goal = open_terms_all (atoms_of goal)
