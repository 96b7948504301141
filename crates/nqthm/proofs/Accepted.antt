-- What was written by `log` to its end, `check` accepts.
use Rattle.std.proofs.Common.{◌≡◌, ◌≤◌, ◌<◌, ◌^◌, ◌∙◌, ℕ, zero, suc, List, Option, length, true, inl, inr, refl, sym, subst, arith}
use Rattle.std.proofs.Math.Nat.{eq-or-lt_of_le}
use Rattle.std.specs.Prelude.{◌⊎◌, Some, Result, Ok, Err}
use Rattle.std.specs.Io.KnownBytes.{Appends}
use Rattle.nq_form.specs.Grammar.{done}
use Rattle.nq_log.specs.Logs.{Reading, step}
use Rattle.nq_log.specs.States.{Claim}
use Rattle.nq_comment.specs.Reports.{Report}
use Rattle.nq_check.specs.Outcomes.{Checks}
use Rattle.nq_check.specs.declared.verdict.Checked.{Checked}
use Rattle.nq_check.specs.declared.verdict.Checked.TheVariants as checked
use Rattle.nq_check.specs.declared.verdict.CheckFault.{CheckFault}
use Rattle.nq_check.specs.declared.verdict.CheckFault.TheVariants as fault
use Rattle.nq_block.specs.OpenLogs.{IsRightLog}
use Rattle.nq_run.specs.Outcome.{Finished, Held}
use Rattle.nqthm.specs.Commands.{HasChecked, check_status}
use Rattle.nqthm.specs.Statuses.{IsVerdictOf}
use Rattle.nqthm.specs.Accepted.{IsAccepted, WrittenLogs}

-- a text within the limit is not too long
not_too_long : (log : List ℕ) (held now : Option (List ℕ)) (status : ℕ) → length log < 2 ^ 62 → HasChecked (Some log) held now status → status ≡ 7 → ⊥
not_too_long log held now status small has is = go has.outcome has.status_is has.checks
  where
    go : (o : Result Checked CheckFault) → status ≡ check_status o → Checks step (Some log) held now o → ⊥
    go (Ok (checked.Accepted k)) told c = let two : 0 ≡ 7 = sym told ∙ is in absurd (cc)
    go (Ok (checked.Refused line why)) told c = let two : 1 ≡ 7 = sym told ∙ is in absurd (cc)
    go (Err fault.Read) told c = let two : 4 ≡ 7 = sym told ∙ is in absurd (cc)
    go (Err fault.Write) told c = let two : 5 ≡ 7 = sym told ∙ is in absurd (cc)
    go (Err fault.Memory) told c = let two : 6 ≡ 7 = sym told ∙ is in absurd (cc)
    go (Err fault.TooLong) told c = let long = c.long in absurd (omega (arith, long, small))

right_log_accepted : (claims : List Claim) (log : List ℕ) → length log < 2 ^ 62 → IsRightLog claims log → IsAccepted log
right_log_accepted claims log small right held now status has = elim told [
  | inl e ↦ inl e
  | inr range ↦ elim (eq-or-lt_of_le range.1) [
    | inl e ↦ absurd (not_too_long log held now status small has e)
    | inr below ↦ inr (range.0, omega (arith, below))
  ]
]
  where
    told : (status ≡ 0) ⊎ ((4 ≤ status) × (status ≤ 7))
    told = subst (λ (r : Reading). IsVerdictOf r.ending status) right.reads has.verdict

finished_accepted : (steps : ℕ) (start : Option (List ℕ)) (reports : List Report) (held now : Held) → Finished steps true start done reports held now → (log : List ℕ) × Appends held.log now.log log × IsAccepted log
finished_accepted steps start reports held now finished =
    let written = finished.log in (written.log, written.logs, right_log_accepted _ written.log (written.small refl) (written.log_is refl))

zero_or_one : (n : ℕ) → n ≤ 1 → (n ≡ 0) ⊎ (n ≡ 1)
zero_or_one zero low = inl refl
zero_or_one (suc zero) low = inr refl
zero_or_one (suc (suc n)) low = absurd (omega (arith, low))

pub written_logs_law : WrittenLogs
written_logs_law steps start left held now status run low = elim (zero_or_one status low) [
  | inl e ↦ let ended = run.success e in finished_accepted steps start ended.0 held now ended.1
  | inr e ↦ let ended = run.refused e in finished_accepted steps start ended.0 held now ended.1
]
