-- The line of a law by its table, after two lines that are known.
use Rattle.std.proofs.Common.{◌≡◌, ◌∙◌, ℕ, Some, List, [], ◌∷◌, ap, subst, sym, arith}
use Rattle.std.specs.Prelude.{All, IsSome, is_some, Result, IfOk}
use Rattle.std.specs.declared.alloc.AllocError.{AllocError}
use Rattle.nq_bank.proofs.Standing.{All-push}
use Rattle.nq_proof.specs.Clauses.{Clause}
use Rattle.nq_kernel.specs.declared.work.Work.{Work}
use Rattle.nq_kernel.specs.Meaning.{clause_at}
use Rattle.nq_kernel.specs.Growing.{LineStands, LineHolds}
use Rattle.nq_kernel.proofs.HeldLines.{holds_stands, holds_held}
use Rattle.nq_replay.specs.declared.table.Law.{Law}
use Rattle.nq_replay.specs.Parts.{lines_held}
use Rattle.nq_replay.specs.Replaying.{law_clause}
use Rattle.nq_replay.proofs.LawLemmas.{by_table, known_stands}

module _ (old : Work) (first second : ℕ) where
  two_held : (a b : Clause) → LineHolds old first a → LineHolds old second b → lines_held old (first ∷ second ∷ []) ≡ a ∷ b ∷ []
  two_held a b h k = ap (λ d. d ∷ lines_held old (second ∷ [])) (holds_held old first a h) ∙ ap (λ d. a ∷ d ∷ []) (holds_held old second b k)

  pub two_stand : (a b : Clause) → LineHolds old first a → LineHolds old second b → All (LineStands old) (first ∷ second ∷ [])
  two_stand a b h k = All-push (LineStands old) (first ∷ []) second (known_stands old first a h) (holds_stands old second b k)

  pub two_some : (law : Law) (a b : Clause) → LineHolds old first a → LineHolds old second b → IsSome (law_clause law (a ∷ b ∷ [])) → IsSome (law_clause law (lines_held old (first ∷ second ∷ [])))
  two_some law a b h k some = subst (λ cs. IsSome (law_clause law cs)) (sym (two_held a b h k)) some

  pub two_law : (law : Law) (a b d : Clause) → LineHolds old first a → LineHolds old second b → law_clause law (a ∷ b ∷ []) ≡ Some d → IsSome (law_clause law (lines_held old (first ∷ second ∷ [])))
  two_law law a b d h k e = ap is_some (ap (law_clause law) (two_held a b h k) ∙ e)

pub by_table_of_two : (old new : Work) (r : Result ℕ AllocError) (first second : ℕ) (law : Law) (a b d : Clause) → LineHolds old first a → LineHolds old second b → law_clause law (a ∷ b ∷ []) ≡ Some d → IfOk r (λ n. clause_at new.bank new.log n ≡ law_clause law (lines_held old (first ∷ second ∷ []))) → IfOk r (λ n. LineHolds new n d)
by_table_of_two old new r first second law a b d h k e g = by_table new r law (lines_held old (first ∷ second ∷ [])) d (ap (law_clause law) (two_held old first second a b h k) ∙ e) g
