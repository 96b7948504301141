-- Equations that are carried into terms.
use Rattle.std.specs.Prelude.{◌≡◌, ℕ, List, ◌∷◌, Some}
use Rattle.nq_logic.specs.Terms.{Term}
use Rattle.nq_logic.specs.Words.{equal_term}
use Rattle.nq_proof.specs.Paths.{replaced_at}
use Rattle.nq_kernel.specs.declared.work.Work.{Work}
use Rattle.nq_lines.specs.Lines.{LineHasOnly}

-- the term has this part at a path
pub record HasPart (path : List ℕ) (old new t : Term) : Type 0 where
  pub whole : Term
  pub changed : replaced_at path new t ≡ Some (old, whole)

-- line n says that t is equal to the term with `new` at the path in the place of `old`, where a line shows that these two are
abbrev pub CarriesInside : Work → Work → List ℕ → Term → Term → Term → ℕ → ℕ → Type 0
CarriesInside before after path t old new equation n =
    (whole : Term) (these : List Term) → replaced_at path new t ≡ Some (old, whole) → LineHasOnly before equation (equal_term old new ∷ these) →
    LineHasOnly after n (equal_term t whole ∷ these)
