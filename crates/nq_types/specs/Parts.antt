-- Terms in the place of the variables of a shell's parts.
use Rattle.std.specs.Prelude.{◌+◌, ℕ, suc, List, [], ◌∷◌, ◌++◌, codes, Bool, true, false}
use Rattle.nq_logic.specs.Terms.{Name, Term, Substitution}
use Rattle.nq_logic.specs.Words.{true_term, false_term}
use Rattle.nq_logic.specs.Shells.{digits_of}

-- the name of the variable of the part at place k, counted from 0
abbrev pub part_name : ℕ → Name
part_name k = codes "X" ++ digits_of (k + 1) (k + 1)

-- terms for the variables of parts, of which the first stands at place k
abbrev pub part_bindings : ℕ → List Term → Substitution
part_bindings k [] = []
part_bindings k (t ∷ ts) = (part_name k, t) ∷ part_bindings (suc k) ts

-- T or F
abbrev pub constant_of : Bool → Term
constant_of true = true_term
constant_of false = false_term

-- and its recognizer
abbrev pub recognizer_of : Bool → Name
recognizer_of true = codes "TRUEP"
recognizer_of false = codes "FALSEP"
