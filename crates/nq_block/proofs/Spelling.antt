-- Runs of fields: they are spelled, and read back.
use Rattle.std.proofs.Common.{◌≡◌, ℕ, ◌<◌, ◌^◌, Some, List, [], ◌∷◌, map, refl}
use Rattle.std.specs.List.{flat_map}
use Rattle.nq_logic.specs.Terms.{Each}
use Rattle.nq_logtext.specs.Fields.{of_number}
use Rattle.nq_logtext.specs.Lines.{HasKinds}
use Rattle.nq_logtext.specs.Views.{one_number, of_binding}
use Rattle.nq_logtext.specs.declared.line.Binding.{Binding}
use Rattle.nq_log.specs.Fields.{numbers_in, pairs_in}

pub run_spelled : (ns : List ℕ) → Each (λ n. n < 2 ^ 64) ns → HasKinds (of_number ∷ []) [] (flat_map one_number ns)
run_spelled [] fit = tt
run_spelled (n ∷ ns) fit = (fit.0, run_spelled ns fit.1)

pub run_read : (ns : List ℕ) → numbers_in (flat_map one_number ns) ≡ Some ns
run_read [] = refl
run_read (n ∷ ns) = rw (run_read ns) refl

-- both numbers of a pair
pub record Fits (b : Binding) : Type 0 where
  pub variable : b.variable < 2 ^ 64
  pub term : b.term < 2 ^ 64

pub pairs_spelled : (bs : List Binding) → Each Fits bs → HasKinds (of_number ∷ of_number ∷ []) [] (flat_map of_binding bs)
pairs_spelled [] fit = tt
pairs_spelled (b ∷ bs) fit = (fit.0.variable, (fit.0.term, pairs_spelled bs fit.1))

abbrev pub pair_of : Binding → ℕ × ℕ
pair_of b = (b.variable, b.term)

pub pairs_read : (bs : List Binding) → pairs_in (flat_map of_binding bs) ≡ Some (map pair_of bs)
pairs_read [] = refl
pairs_read (b ∷ bs) = rw (pairs_read bs) refl
