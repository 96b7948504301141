-- The line of a law by its table, from axioms alone or after one line that is known.
use Rattle.std.proofs.Common.{◌≡◌, ◌∙◌, ℕ, Some, List, [], ◌∷◌, ap, arith}
use Rattle.std.specs.Prelude.{All, IsSome, is_some, Result, IfOk}
use Rattle.std.specs.declared.alloc.AllocError.{AllocError}
use Rattle.nq_bank.proofs.Standing.{All-push}
use Rattle.nq_proof.specs.Clauses.{Clause}
use Rattle.nq_rule.proofs.Made.{for_ok}
use Rattle.nq_kernel.specs.declared.work.Work.{Work}
use Rattle.nq_kernel.specs.Meaning.{clause_at}
use Rattle.nq_kernel.specs.Growing.{LineStands, LineHolds}
use Rattle.nq_kernel.proofs.HeldLines.{holds_stands, holds_held}
use Rattle.nq_replay.specs.declared.table.Law.{Law}
use Rattle.nq_replay.specs.Parts.{lines_held}
use Rattle.nq_replay.specs.Replaying.{law_clause}

-- the last line holds what the table gives
pub by_table : (new : Work) (r : Result ℕ AllocError) (law : Law) (known : List Clause) (c : Clause) → law_clause law known ≡ Some c → IfOk r (λ n. clause_at new.bank new.log n ≡ law_clause law known) → IfOk r (λ n. LineHolds new n c)
by_table new r law known c e h = for_ok r (λ n. clause_at new.bank new.log n ≡ law_clause law known) (λ n. LineHolds new n c) (λ n f. f ∙ e) h

module _ (old : Work) (line : ℕ) where
  one_held : (c : Clause) → LineHolds old line c → lines_held old (line ∷ []) ≡ c ∷ []
  one_held c h = ap (λ d. d ∷ []) (holds_held old line c h)

  pub known_stands : (c : Clause) → LineHolds old line c → All (LineStands old) (line ∷ [])
  known_stands c h = All-push (LineStands old) [] line (λ i d below. absurd (omega (arith, below))) (holds_stands old line c h)

  pub known_law : (law : Law) (c d : Clause) → LineHolds old line c → law_clause law (c ∷ []) ≡ Some d → IsSome (law_clause law (lines_held old (line ∷ [])))
  known_law law c d h e = ap is_some (ap (law_clause law) (one_held c h) ∙ e)

pub by_table_of_one : (old new : Work) (r : Result ℕ AllocError) (line : ℕ) (law : Law) (c d : Clause) → LineHolds old line c → law_clause law (c ∷ []) ≡ Some d → IfOk r (λ n. clause_at new.bank new.log n ≡ law_clause law (lines_held old (line ∷ []))) → IfOk r (λ n. LineHolds new n d)
by_table_of_one old new r line law c d h e k = by_table new r law (lines_held old (line ∷ [])) d (ap (law_clause law) (one_held old line c h) ∙ e) k
