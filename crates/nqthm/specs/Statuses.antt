-- Which statuses a text of this ending may have.
use Rattle.std.specs.Prelude.{◌≡◌, ◌⊎◌, ◌≤◌, ℕ, Bool, true}
use Rattle.nq_form.specs.Grammar.{Ending, done, fault, too_long}
use Rattle.nq_log.specs.Logs.{Right, Wrong}
use Rattle.nq_log.specs.Logs as logs

-- The statuses that say nothing of the text: of failures, of want of memory, and, where a log is written, of a full log.
abbrev pub SaysNothing : Bool → ℕ → Type 0
SaysNothing logging status = ((4 ≤ status) × (status ≤ 6)) ⊎ ((logging ≡ true) × (status ≡ 7))

abbrev pub IsStatusOf : Bool → Ending → ℕ → Type 0
IsStatusOf logging done status = (status ≤ 1) ⊎ SaysNothing logging status
IsStatusOf logging (fault code offset) status = (status ≡ 3) ⊎ SaysNothing logging status
IsStatusOf logging too_long status = (status ≡ 7) ⊎ SaysNothing logging status

-- The statuses that a check of a text of this ending may have: those of the verdict, and those that say nothing of the text.
abbrev pub IsVerdictOf : logs.Ending → ℕ → Type 0
IsVerdictOf Right status = (status ≡ 0) ⊎ ((4 ≤ status) × (status ≤ 7))
IsVerdictOf (Wrong line reason) status = (status ≡ 1) ⊎ ((4 ≤ status) × (status ≤ 7))
