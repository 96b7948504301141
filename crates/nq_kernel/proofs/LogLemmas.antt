-- Lines of a log that grew, and substitutions that are walked.
use Rattle.std.proofs.Common.{◌≡◌, ℕ, zero, suc, Bool, true, false, Option, Some, None, List, [], ◌∷◌, ◌++◌, get_or, refl, sym, subst}
use Rattle.std.specs.Prelude.{All, slice_get}
use Rattle.nq_bank.specs.declared.node.TermId.{TermId}
use Rattle.nq_bank.specs.Content.{Content, Stands, Grows}
use Rattle.nq_bank.proofs.NodesLemmas.{All-head, All-tail}
use Rattle.nq_bank.proofs.Standing.{All-push, stand_grown}
use Rattle.nq_kernel.specs.declared.rule.Line.{Line}
use Rattle.nq_kernel.specs.Lines.{ids_at, ids_of, ids_if}
use Rattle.nq_kernel.specs.Meaning.{IsOver}

-- what holds of each element holds of the one that is found
All-slice_get : {X : Type 0} (P : X → Type 0) (xs : List X) (k : ℕ) (x : X) → All P xs → slice_get xs k ≡ Some x → P x
All-slice_get P [] k x h e = absurd cc
All-slice_get P (y ∷ xs) zero x h e = let same : y ≡ x = cc in subst P same (All-head P y xs h)
All-slice_get P (y ∷ xs) (suc k) x h e = All-slice_get P xs k x (All-tail P y xs h) e

ids_of_stand : (bank : Content) (log : List Line) (k : ℕ) (o : Option Line) (ids : List TermId) → All (λ line. All (Stands bank) line.clause.items) log → slice_get log k ≡ o → ids_of o ≡ Some ids → All (Stands bank) ids
ids_of_stand bank log k None ids over at e = absurd cc
ids_of_stand bank log k (Some line) ids over at e = by_flag line.stands e
  where
    here : All (Stands bank) line.clause.items
    here = All-slice_get (λ line. All (Stands bank) line.clause.items) log k line over at

    by_flag : (b : Bool) → ids_if b line.clause.items ≡ Some ids → All (Stands bank) ids
    by_flag true e = let same : line.clause.items ≡ ids = cc in subst (All (Stands bank)) same here
    by_flag false e = absurd cc

-- the ids of a line's clause stand
pub ids_stand : (bank : Content) (log : List Line) (n : ℕ) (ids : List TermId) → IsOver bank log → ids_at log n ≡ Some ids → All (Stands bank) ids
ids_stand bank log zero ids over e = absurd cc
ids_stand bank log (suc k) ids over e = ids_of_stand bank log k (slice_get log k) ids over.stand refl e

pub over_grown : (old new : Content) (log : List Line) → Grows old new → IsOver old log → IsOver new log
over_grown old new log h over = record { stand = λ k d below. stand_grown old new (get_or log k d).clause.items h (over.stand k d below) }

pub over_pushed : (bank : Content) (log after : List Line) (line : Line) → IsOver bank log → All (Stands bank) line.clause.items → after ≡ log ++ line ∷ [] → IsOver bank after
over_pushed bank log after line over here whole =
    subst (IsOver bank) (sym whole) (record { stand = All-push (λ line. All (Stands bank) line.clause.items) log line over.stand here })
