-- What is known while a text is read from a source, and when it is judged.
use Rattle.std.specs.Prelude.{◌≡◌, ℕ, ◌≤◌, List, [], length, take, Option, IfSome, Result, Ok, Err}
use Rattle.std.specs.Io.KnownBytes.{Appends, Consumes}
use Rattle.nq_log.specs.Logs.{Reading, reading_by}
use Rattle.nq_log.specs.Laws.{ClaimsHold}
use Rattle.nq_log.specs.Streams.{reading_at_end}
use Rattle.nq_log.specs.Logs.{step}
use Rattle.nq_check.specs.declared.checker.Checker.{Checker}
use Rattle.nq_check.specs.declared.verdict.Checked.{Checked}
use Rattle.nq_check.specs.declared.verdict.CheckFault.{CheckFault}
use Rattle.nq_check.specs.declared.verdict.CheckFault.TheVariants as fault
use Rattle.nq_check.specs.Texts.{claims_text}
use Rattle.nq_check.specs.Outcomes.{log_limit, Answers, IsUnread, IsTooLong, IsCutOff}
use Rattle.nq_check.specs.Passing.{place_of, Passed, Waits}

-- so many bytes were taken from the source, and read but for those in hand, which end no line
pub record Progress (start c : Checker) (hand : List ℕ) (count : ℕ) (left now held written : Option (List ℕ)) : Type 0 where
  pub taken : List ℕ
  pub passed : Passed start c taken hand held written
  pub waits : Waits c hand
  pub consumed : Consumes left now taken
  pub count_is : count ≡ length taken
  pub within : count ≤ log_limit

-- the answer where the text ends here
pub record EndsSo (c : Checker) (answer : Checked) : Type 0 where
  pub answers : (hand : List ℕ) → Waits c hand → Answers c.claims (reading_at_end (place_of c) hand).ending answer

-- the text has this reading, which shows within the limit and gives the answer; the lines of its claims were written
pub record IsJudged (left held now : Option (List ℕ)) (answer : Checked) : Type 0 where
  pub reading : Reading
  pub read : IfSome left (λ text. reading_by step text ≡ reading)
  pub within : IfSome left (λ text. reading_by step (take log_limit text) ≡ reading)
  pub answers : Answers (length reading.claims) reading.ending answer
  pub text : Appends held now (claims_text reading.claims)
  pub sound : ClaimsHold [] reading.claims

-- what stands where no verdict was come to
abbrev pub Breaks : Option (List ℕ) → Option (List ℕ) → Option (List ℕ) → CheckFault → Type 0
Breaks left held now fault.Read = IsUnread step left held now
Breaks left held now fault.Write = IsCutOff step left held now
Breaks left held now fault.TooLong = IsTooLong step left held now
Breaks left held now fault.Memory = IsCutOff step left held now

-- what stands before the verdict is written
abbrev pub Judges : Option (List ℕ) → Option (List ℕ) → Option (List ℕ) → Result Checked CheckFault → Type 0
Judges left held now (Ok answer) = IsJudged left held now answer
Judges left held now (Err fault) = Breaks left held now fault
