-- Lines of parts of X.
use Rattle.std.specs.Prelude.{◌≡◌, ℕ, suc, ◌+◌, List, [], ◌∷◌, ◌++◌, Some, slice_get, bytes_eq, codes, false}
use Rattle.nq_logic.specs.Terms.{Name, Term, Function, Applied, Substitution}
use Rattle.nq_logic.specs.Words.{not_term, equal_term}
use Rattle.nq_logic.specs.Histories.{Part, Shell}
use Rattle.nq_logic.specs.Shells.{digits_of, is_base, recognizes, remade, whole}
use Rattle.nq_arith.specs.Nests.{accessor_of, is_smaller}
use Rattle.nq_kernel.specs.declared.work.Work.{Work}
use Rattle.nq_lines.specs.Lines.{LineHasOnly}

-- the name of the variable of the part at a place, counted from 0
abbrev pub part_name : ℕ → List ℕ
part_name k = codes "X" ++ digits_of (k + 1) (k + 1)

-- each part's variable, of which the first stands at place k, with that part of X
abbrev pub part_pairs : ℕ → List Part → Substitution
part_pairs k [] = []
part_pairs k (part ∷ parts) = (part_name k, accessor_of part whole) ∷ part_pairs (suc k) parts

-- what the accessor takes from the object that is made again of the parts of X is smaller than it
abbrev pub RemadeLine : Work → Shell → ℕ → ℕ → Type 0
RemadeLine work s place n = (part : Part) → slice_get s.parts place ≡ Some part → LineHasOnly work n (is_smaller (accessor_of part (remade s)) (remade s) ∷ [])

-- the same of X, where X is this object
abbrev pub WholeLine : Work → Shell → ℕ → ℕ → Type 0
WholeLine work s place n = (part : Part) → slice_get s.parts place ≡ Some part → LineHasOnly work n (is_smaller (accessor_of part whole) whole ∷ not_term (equal_term (remade s) whole) ∷ [])

-- that a part of X is smaller than X, where X is of the shell's kind and not its base
abbrev pub part_clause : Shell → Part → List Term
part_clause s part = is_smaller (accessor_of part whole) whole ∷ not_term (recognizes s whole) ∷ is_base s.base

abbrev pub IsPartLine : Work → Shell → ℕ → ℕ → Type 0
IsPartLine work s place n = (part : Part) → slice_get s.parts place ≡ Some part → LineHasOnly work n (part_clause s part)

-- the term says that what an accessor takes from a term is smaller than this; the accessor is not ADD1
pub record IsTakenFrom (t : Term) : Type 0 where
  pub accessor : Name
  pub object : Term
  pub other : bytes_eq accessor (codes "ADD1") ≡ false
  pub is : t ≡ is_smaller (Applied (Function accessor) object) object

-- the line says the same of x, or denies it of the object, or that the object is x
abbrev pub MovesTo : Work → Term → Term → ℕ → Type 0
MovesTo work smaller x n =
    (f : Name) (c : Term) → smaller ≡ is_smaller (Applied (Function f) c) c → LineHasOnly work n (is_smaller (Applied (Function f) x) x ∷ not_term smaller ∷ not_term (equal_term c x) ∷ [])
