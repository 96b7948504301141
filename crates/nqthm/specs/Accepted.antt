-- What was written by `log` to its end, `check` accepts.
use Rattle.std.specs.Prelude.{◌≡◌, ◌⊎◌, ◌≤◌, ℕ, List, true, Option, Some}
use Rattle.std.specs.Io.KnownBytes.{Appends}
use Rattle.nq_run.specs.Outcome.{Held}
use Rattle.nqthm.specs.Commands.{HasChecked, HasRun}

-- A check of the text ends with status 0, or with one that says nothing of the text: a stream failed, or memory was wanting.
abbrev pub IsAccepted : List ℕ → Type 0
IsAccepted text = (held now : Option (List ℕ)) (status : ℕ) → HasChecked (Some text) held now status → (status ≡ 0) ⊎ ((4 ≤ status) × (status ≤ 6))

-- The sink of the log gained such a text, where `log` came to the end of its file: at status 0, and at 1. This holds also of a
-- source that doesn't tell its bytes, and whatever the number of steps.
abbrev pub WrittenLogs : Type 0
WrittenLogs = (steps : ℕ) (start left : Option (List ℕ)) (held now : Held) (status : ℕ) → HasRun steps true start left held now status → status ≤ 1 →
    (log : List ℕ) × Appends held.log now.log log × IsAccepted log
