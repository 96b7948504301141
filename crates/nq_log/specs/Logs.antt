-- Right logs, and what they claim.
use Rattle.std.specs.Prelude.{◌≡◌, ℕ, suc, nat_eq, Bool, true, false, ◌||◌, List, [], ◌∷◌, Option, Some, None, is_none}
use Rattle.nq_logtext.specs.Reading.{◌>>=◌, line_of}
use Rattle.nq_logtext.specs.Fields.{Field}
use Rattle.nq_logtext.specs.Lines.{Line}
use Rattle.nq_logtext.specs.declared.word.Word.{Word}
use Rattle.nq_logtext.specs.declared.word.Word.TheVariants as word
use Rattle.nq_log.specs.States.{Block, State, Claim, after_claim, start_of, Step, Continues, Claims, Ends, is_untouched, only_when}
use Rattle.nq_log.specs.TermLines.{function_line, variable_line, numeral_line, call_line}
use Rattle.nq_log.specs.RuleLines.{taut_rule, axiom_rule, event_rule, weaken_rule, cut_rule, instance_rule, reflexive_rule, replace_rule, join_rule, split_rule, not_not_rule, value_rule, linear_rule, rule_line, induct_line, drop_line, case_line, hypothesis_line}
use Rattle.nq_log.specs.ClosingLines.{part_line, measure_line, bootstrap_claim, shell_claim, declaration_claim, axiom_claim, lemma_claim, toggle_claim, undo_claim, definition_claim}

abbrev pub continued : Option Block → Option Step
continued None = None
continued (Some block) = Some (Continues block)

abbrev pub claimed : Option Claim → Option Step
claimed None = None
claimed (Some c) = Some (Claims c)

-- what a line with this first word and these fields leads to, where it is allowed
abbrev pub step_by : State → List Field → Word → Option Step
step_by s fields word.Header = None
step_by s fields word.End = only_when (is_untouched s.block) Ends
step_by s fields word.Function = continued (function_line s fields)
step_by s fields word.Variable = continued (variable_line s fields)
step_by s fields word.Numeral = continued (numeral_line s fields)
step_by s fields word.Call = continued (call_line s fields)
step_by s fields word.Taut = continued (rule_line s (taut_rule s.block fields))
step_by s fields word.Axiom = continued (rule_line s (axiom_rule fields))
step_by s fields word.Event = continued (rule_line s (event_rule fields))
step_by s fields word.Weaken = continued (rule_line s (weaken_rule s.block fields))
step_by s fields word.Cut = continued (rule_line s (cut_rule s.block fields))
step_by s fields word.Inst = continued (rule_line s (instance_rule s.block fields))
step_by s fields word.Refl = continued (rule_line s (reflexive_rule s.block fields))
step_by s fields word.Replace = continued (rule_line s (replace_rule s.block fields))
step_by s fields word.Join = continued (rule_line s (join_rule s.block fields))
step_by s fields word.Split = continued (rule_line s (split_rule fields))
step_by s fields word.NotNot = continued (rule_line s (not_not_rule fields))
step_by s fields word.Value = continued (rule_line s (value_rule s.block fields))
step_by s fields word.Linear = continued (rule_line s (linear_rule s.block fields))
step_by s fields word.Induct = continued (induct_line s fields)
step_by s fields word.Drop = continued (drop_line s fields)
step_by s fields word.Case = continued (case_line s fields)
step_by s fields word.Hyp = continued (hypothesis_line s fields)
step_by s fields word.BootStrap = claimed (bootstrap_claim s fields)
step_by s fields word.Shell = claimed (shell_claim s fields)
step_by s fields word.Part = continued (part_line s fields)
step_by s fields word.Dcl = claimed (declaration_claim s fields)
step_by s fields word.Axiomatize = claimed (axiom_claim s fields)
step_by s fields word.Lemma = claimed (lemma_claim s fields)
step_by s fields word.Defn = claimed (definition_claim s fields)
step_by s fields word.Measure = continued (measure_line s fields)
step_by s fields word.Toggle = claimed (toggle_claim s fields)
step_by s fields word.Undo = claimed (undo_claim s fields)

abbrev pub is_definition_word : Word → Bool
is_definition_word word.Defn = true
is_definition_word w = false

-- what a line leads to; a measure is followed by its definition
abbrev pub step : State → Line → Option Step
step s line = only_when (is_none s.block.measure || is_definition_word line.word) line >>= λ line. step_by s line.fields line.word

-- the state after a line, where the line is allowed and does not end the log
abbrev pub state_after : State → Step → Option State
state_after s (Continues block) = Some (record s { block = block })
state_after s (Claims claim) = Some (start_of (after_claim s.history claim))
state_after s Ends = None

abbrev pub after_line : State → Line → Option State
after_line s line = step s line >>= state_after s

-- why a line is wrong
pub data Reason : Type 0 where
  Malformed : Reason
  NotAllowed : Reason
  UnexpectedEnd : Reason

pub data Ending : Type 0 where
  Right : Ending
  Wrong : (line : ℕ) (reason : Reason) → Ending

-- the claims of a text before its first wrong line, and that line
pub record Reading : Type 0 where
  pub claims : List Claim
  pub ending : Ending

abbrev pub ends : Ending → Reading
ends ending = record { claims = []; ending = ending }

abbrev pub wrong : ℕ → Reason → Reading
wrong n reason = ends (Wrong n reason)

abbrev pub with_claim : Claim → Reading → Reading
with_claim c reading = record reading { claims = c ∷ reading.claims }

-- nothing follows the last line, whose number is one less
abbrev pub read_end : ℕ → List (List ℕ) → List ℕ → Reading
read_end n [] [] = ends Right
read_end n [] (b ∷ rest) = wrong n Malformed
read_end n (line ∷ lines) rest = wrong n Malformed

-- The lines from line n on, each without its LF, and what stands after the last LF. What an allowed line leads to is given.
abbrev pub read_lines : (State → Line → Option Step) → ℕ → State → List (List ℕ) → List ℕ → Reading
read_lines next n s [] rest = wrong n UnexpectedEnd
read_lines next n s (bytes ∷ lines) rest =
    elim (line_of bytes) as (λ o. Reading) [
      | None ↦ wrong n Malformed
      | Some line ↦ elim (next s line) as (λ o. Reading) [
        | None ↦ wrong n NotAllowed
        | Some taken ↦ elim taken as (λ t. Reading) [
          | Continues block ↦ read_lines next (suc n) (record s { block = block }) lines rest
          | Claims claim ↦ with_claim claim (read_lines next (suc n) (start_of (after_claim s.history claim)) lines rest)
          | Ends ↦ read_end (suc n) lines rest
        ]
      ]
    ]

abbrev pub is_header : Word → Bool
is_header word.Header = true
is_header w = false

abbrev pub read_log : (State → Line → Option Step) → List (List ℕ) → List ℕ → Reading
read_log next [] rest = wrong 1 UnexpectedEnd
read_log next (bytes ∷ lines) rest =
    elim (line_of bytes) as (λ o. Reading) [
      | None ↦ wrong 1 Malformed
      | Some line ↦ elim (is_header line.word) as (λ b. Reading) [ true ↦ read_lines next 2 (start_of []) lines rest | false ↦ wrong 1 NotAllowed ]
    ]

-- a text as its lines that are ended by LF, each without it, and what stands after the last LF
abbrev pub Cut : Type 0
Cut = List (List ℕ) × List ℕ

abbrev pub with_byte : ℕ → Cut → Cut
with_byte b ([], rest) = ([], b ∷ rest)
with_byte b (line ∷ lines, rest) = ((b ∷ line) ∷ lines, rest)

abbrev pub cut_lines : List ℕ → Cut
cut_lines [] = ([], [])
cut_lines (b ∷ bs) = elim (nat_eq b 10) as (λ b. List (List ℕ) × List ℕ) [ true ↦ ([] ∷ (cut_lines bs).0, (cut_lines bs).1) | false ↦ with_byte b (cut_lines bs) ]

-- the reading of a text, where it is given what an allowed line leads to
abbrev pub reading_by : (State → Line → Option Step) → List ℕ → Reading
reading_by next text = read_log next (cut_lines text).0 (cut_lines text).1

abbrev pub reading_of : List ℕ → Reading
reading_of text = reading_by step text

-- what the closing lines of a text claim, up to its first wrong line
abbrev pub claims_of : List ℕ → List Claim
claims_of text = (reading_of text).claims

abbrev pub first_wrong_line : List ℕ → Ending
first_wrong_line text = (reading_of text).ending

abbrev pub IsLog : List ℕ → Type 0
IsLog text = first_wrong_line text ≡ Right
