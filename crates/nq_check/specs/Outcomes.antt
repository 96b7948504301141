-- What stands when checking ends. What a source has left and what a sink has written is said where they tell it.
use Rattle.std.specs.Prelude.{◌≡◌, ◌⊎◌, ⊤, ℕ, ◌^◌, ◌<◌, List, [], ◌++◌, length, take, Option, IfSome, Result, Ok, Err}
use Rattle.std.specs.Io.KnownBytes.{Appends}
use Rattle.nq_io.specs.Told.{AppendsPart}
use Rattle.nq_logtext.specs.Lines.{Line}
use Rattle.nq_log.specs.States.{State, Step}
use Rattle.nq_log.specs.Logs.{Reason, Ending, Right, Wrong, Reading, reading_by}
use Rattle.nq_log.specs.Logs as logs
use Rattle.nq_log.specs.Laws.{ClaimsHold}
use Rattle.nq_check.specs.Texts.{accepted_text, refused_text, claims_text, verdict_text, output_of}
use Rattle.nq_check.specs.declared.verdict.Refusal.{Refusal}
use Rattle.nq_check.specs.declared.verdict.Refusal.TheVariants as refusal
use Rattle.nq_check.specs.declared.verdict.Checked.{Checked}
use Rattle.nq_check.specs.declared.verdict.Checked.TheVariants as checked
use Rattle.nq_check.specs.declared.verdict.CheckFault.{CheckFault}
use Rattle.nq_check.specs.declared.verdict.CheckFault.TheVariants as fault

-- how many bytes of a log are read
abbrev pub log_limit : ℕ
log_limit = 2 ^ 62

-- the reason that a refusal gives
abbrev pub reason_of : Refusal → Reason
reason_of refusal.Malformed = logs.Malformed
reason_of refusal.NotAllowed = logs.NotAllowed
reason_of refusal.UnexpectedEnd = logs.UnexpectedEnd

-- the answer to a text with so many claims that ends so
abbrev pub Answers : ℕ → Ending → Checked → Type 0
Answers claims Right (checked.Accepted k) = k ≡ claims
Answers claims Right (checked.Refused line why) = ⊥
Answers claims (Wrong n reason) (checked.Accepted k) = ⊥
Answers claims (Wrong n reason) (checked.Refused line why) = (line ≡ n) × (reason_of why ≡ reason)

-- the verdict's line of an answer
abbrev pub answer_text : Checked → List ℕ
answer_text (checked.Accepted claims) = accepted_text claims
answer_text (checked.Refused line why) = refused_text line (reason_of why)

-- no line is wrong, unless by what is missing
abbrev pub IsUnfinished : Ending → Type 0
IsUnfinished Right = ⊤
IsUnfinished (Wrong n logs.Malformed) = ⊥
IsUnfinished (Wrong n logs.NotAllowed) = ⊥
IsUnfinished (Wrong n logs.UnexpectedEnd) = ⊤

module _ (next : State → Line → Option Step) (left held now : Option (List ℕ)) where
  -- The text has this reading, which shows within the limit. The lines of its claims and the verdict were written, and each
  -- claim holds in the history of the claims before it.
  pub record IsChecked (answer : Checked) : Type 0 where
    pub reading : Reading
    pub read : IfSome left (λ text. reading_by next text ≡ reading)
    pub within : IfSome left (λ text. reading_by next (take log_limit text) ≡ reading)
    pub answers : Answers (length reading.claims) reading.ending answer
    pub text : Appends held now (output_of reading)
    pub sound : ClaimsHold [] reading.claims

  -- the text is longer than the limit, and no line within it is wrong
  pub record IsTooLong : Type 0 where
    pub reading : Reading
    pub long : IfSome left (λ text. log_limit < length text)
    pub read : IfSome left (λ text. reading_by next (take log_limit text) ≡ reading)
    pub unfinished : IsUnfinished reading.ending
    pub text : Appends held now (claims_text reading.claims)
    pub sound : ClaimsHold [] reading.claims

  -- the source failed behind a first part of the text, in which no line is wrong
  pub record IsUnread : Type 0 where
    pub reading : Reading
    pub read : IfSome left (λ text. (taken : List ℕ) × (more : List ℕ) × (text ≡ taken ++ more) × (reading_by next taken ≡ reading))
    pub unfinished : IsUnfinished reading.ending
    pub text : Appends held now (claims_text reading.claims)
    pub sound : ClaimsHold [] reading.claims

  -- a first part of the lines of the claims before a wrong line, or before a place that was not read yet, was written
  pub record IsCutInClaims : Type 0 where
    pub reading : Reading
    pub read : IfSome left (λ text. (taken : List ℕ) × (more : List ℕ) × (text ≡ taken ++ more) × (reading_by next taken ≡ reading))
    pub text : AppendsPart held now (claims_text reading.claims)
    pub sound : ClaimsHold [] reading.claims

  -- The text has this reading, which shows within the limit. The lines of all its claims were written, and a first part of
  -- the verdict.
  pub record IsCutInVerdict : Type 0 where
    pub reading : Reading
    pub read : IfSome left (λ text. reading_by next text ≡ reading)
    pub within : IfSome left (λ text. reading_by next (take log_limit text) ≡ reading)
    pub part : ℕ
    pub text : Appends held now (claims_text reading.claims ++ take part (verdict_text (length reading.claims) reading.ending))
    pub sound : ClaimsHold [] reading.claims

  -- the lines of the claims were not all written, or the verdict was not
  abbrev pub IsCutOff : Type 0
  IsCutOff = IsCutInClaims ⊎ IsCutInVerdict

  -- what stands after each answer
  abbrev pub Checks : Result Checked CheckFault → Type 0
  Checks (Ok answer) = IsChecked answer
  Checks (Err fault.Read) = IsUnread
  Checks (Err fault.Write) = IsCutOff
  Checks (Err fault.TooLong) = IsTooLong
  Checks (Err fault.Memory) = IsCutOff
