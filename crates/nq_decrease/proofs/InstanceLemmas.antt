-- Instances of lines that stood before, and the laws of levels at a term.
use Rattle.std.proofs.Common.{ℕ, List, [], ◌∷◌, map, refl, inl, inr}
use Rattle.std.specs.Prelude.{codes}
use Rattle.nq_logic.specs.Terms.{Term, substituted}
use Rattle.nq_logic.specs.Words.{not_term}
use Rattle.nq_logic.specs.Ground.{symbols_of}
use Rattle.nq_logic.specs.Numerals.{number_of}
use Rattle.nq_logic.specs.Sizes.{tree_depth}
use Rattle.nq_proof.specs.Clauses.{Clause}
use Rattle.nq_kernel.specs.declared.work.Work.{Work}
use Rattle.nq_kernel.specs.Growing.{LineHolds}
use Rattle.nq_lines.specs.Lines.{LineHasOnly, AreAmong}
use Rattle.nq_lines.specs.Instances.{InstancesTo}
use Rattle.nq_lines.proofs.LineLemmas.{only_more}
use Rattle.nq_arith.specs.Nests.{accessor_of, is_smaller}
use Rattle.nq_decrease.specs.declared.level.Level.{Level}
use Rattle.nq_decrease.specs.declared.level.Level.TheVariants.{First, FirstByNoAtom, Rest, RestByNoAtom, AtomPart, NegativePart, OneLessByNoZero, OneLessOfNumber, OneLessOfNumberTurned}
use Rattle.nq_part_lines.specs.LawLines.{is_law, IsLaw}
use Rattle.nq_decrease.specs.Levels.{clause_of, part_of, tests_of}

-- the laws of levels are laws
pub level_law : (l : Level) → IsLaw (clause_of l)
unfolding is_law symbols_of number_of tree_depth
level_law First = refl
level_law FirstByNoAtom = refl
level_law Rest = refl
level_law RestByNoAtom = refl
level_law AtomPart = refl
level_law NegativePart = refl
level_law OneLessByNoZero = refl
level_law OneLessOfNumber = refl
level_law OneLessOfNumberTurned = refl

-- the literals of a level's law at y: that its part is smaller, and the NOTs of its tests
abbrev pub level_literals : Level → Term → List Term
level_literals l y = is_smaller (accessor_of (part_of l) y) y ∷ map not_term (tests_of l y)

exchanged : (t u : Term) → AreAmong (t ∷ u ∷ []) (u ∷ t ∷ [])
exchanged t u v (inl e) = inr (inl e)
exchanged t u v (inr (inl e)) = inl e
exchanged t u v (inr (inr none)) = absurd none

pub level_among : (l : Level) (y : Term) → AreAmong (map (substituted ((codes "X", y) ∷ [])) (clause_of l)) (level_literals l y)
level_among First y = exchanged _ _
level_among FirstByNoAtom y = λ v m. m
level_among Rest y = exchanged _ _
level_among RestByNoAtom y = λ v m. m
level_among AtomPart y = exchanged _ _
level_among NegativePart y = exchanged _ _
level_among OneLessByNoZero y = λ v m. m
level_among OneLessOfNumber y = λ v m. m
level_among OneLessOfNumberTurned y = λ v m. m

itself : (c : Clause) → AreAmong c c
itself c v m = m

-- the line of a level, from an instance of its law
pub level_made : (old new : Work) (l : Level) (y : Term) (line n : ℕ) → LineHolds old line (clause_of l) → InstancesTo old new ((codes "X", y) ∷ []) line n → LineHasOnly new n (level_literals l y)
level_made old new l y line n holds h =
    only_more new n (map (substituted ((codes "X", y) ∷ [])) (clause_of l)) (level_literals l y) (level_among l y) (h (clause_of l) (record { literals = clause_of l; stands = holds; only = itself (clause_of l) }))
