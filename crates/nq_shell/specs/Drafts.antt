-- The terms of which the axioms of a shell are made, part by part.
use Rattle.std.specs.Prelude.{ℕ, suc, List, [], ◌∷◌, nat_eq, if◌then◌else◌}
use Rattle.nq_logic.specs.Terms.{Term}
use Rattle.nq_logic.specs.Words.{call1, if_term, zero_term}
use Rattle.nq_logic.specs.Histories.{Part}
use Rattle.nq_logic.specs.Shells.{part_variable, restricted}

-- the variable of the part at a place, or in one place another term
abbrev pub argument_at : ℕ → ℕ → Term → Term
argument_at here place t = if nat_eq here place then t else part_variable here

-- the variables of parts, with another term in one place
abbrev pub variables_with : ℕ → ℕ → Term → List Part → List Term
variables_with k place t [] = []
variables_with k place t (part ∷ parts) = argument_at k place t ∷ variables_with (suc k) place t parts

-- what the part at a place adds to the size
abbrev pub size_in : ℕ → Part → Term
size_in k part = if_term (restricted part.restriction (part_variable k)) (call1 "COUNT" (part_variable k)) zero_term
