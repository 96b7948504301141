-- Each claim of a log holds.
use Rattle.std.proofs.Common.{◌≡◌, Bool, true, false, ℕ, suc, List, [], ◌∷◌, ◌||◌, refl, sym, subst}
use Rattle.std.specs.Prelude.{Option, Some, None, is_none, ⊤}
use Rattle.nq_proof.specs.Rules.{Rule, rule_terms}
use Rattle.nq_arith.specs.Laws.{FullSoundness}
use Rattle.nq_logic.specs.Terms.{IsTerm, Each}
use Rattle.nq_logtext.specs.Reading.{line_of}
use Rattle.nq_logtext.specs.Fields.{Field}
use Rattle.nq_logtext.specs.Lines.{Line}
use Rattle.nq_logtext.specs.declared.word.Word.{Word}
use Rattle.nq_logtext.specs.declared.word.Word.TheVariants as word
use Rattle.nq_logic.specs.Histories.{History}
use Rattle.nq_log.specs.States.{Block, State, block_symbols, Claim, after_claim, start_of, Step, Continues, Claims, Ends, is_untouched, only_when}
use Rattle.nq_log.specs.RuleLines.{taut_rule, axiom_rule, event_rule, weaken_rule, cut_rule, instance_rule, reflexive_rule, replace_rule, join_rule, split_rule, not_not_rule, value_rule, linear_rule}
use Rattle.nq_log.specs.TermLines.{function_line, variable_line, numeral_line, call_line}
use Rattle.nq_log.specs.RuleLines.{rule_line, induct_line, drop_line, case_line, hypothesis_line}
use Rattle.nq_log.specs.ClosingLines.{part_line, measure_line, bootstrap_claim, shell_claim, declaration_claim, axiom_claim, lemma_claim, toggle_claim, undo_claim, definition_claim}
use Rattle.nq_log.specs.Logs.{continued, claimed, step_by, is_definition_word, step, with_claim, wrong, Malformed, NotAllowed, Reading, read_end, read_lines, is_header, read_log, cut_lines}
use Rattle.nq_log.specs.Laws.{ClaimHolds, ClaimsHold, IsSound, RightClaims, Narrows, NarrowClaims}
use Rattle.nq_log.proofs.Options.{nothing_found, found_same, bound, allowed}
use Rattle.nq_log.proofs.Events.{sound_after}
use Rattle.nq_log.proofs.TermSteps.{IsRight, with_block, function_right, variable_right, numeral_right, call_right}
use Rattle.nq_log.proofs.RuleTerms.{taut_over, axiom_over, event_over, weaken_over, cut_over, instance_over, reflexive_over, replace_over, join_over, split_over, not_not_over, value_over, linear_over}
use Rattle.nq_log.proofs.RuleSteps.{rule_right, induct_right, drop_right, case_right, hypothesis_right}
use Rattle.nq_log.proofs.ClaimSteps.{part_right, measure_right, bootstrap_holds, shell_holds, declaration_holds, axiom_holds, lemma_holds, toggle_holds, undo_holds, definition_holds}

-- what a line leads to keeps the state right, or is a claim that holds
abbrev pub IsRightStep : State → Step → Type 0
IsRightStep s (Continues block) = IsRight (with_block s block)
IsRightStep s (Claims c) = ClaimHolds s.history c
IsRightStep s Ends = ⊤

continues : (s : State) (o : Option Block) (t : Step) → ((block : Block) → o ≡ Some block → IsRight (with_block s block)) → continued o ≡ Some t → IsRightStep s t
continues s None t f e = absurd (nothing_found t e)
continues s (Some block) t f e = subst (IsRightStep s) (found_same (Continues block) t e) (f block refl)

claims : (s : State) (o : Option Claim) (t : Step) → ((c : Claim) → o ≡ Some c → ClaimHolds s.history c) → claimed o ≡ Some t → IsRightStep s t
claims s None t f e = absurd (nothing_found t e)
claims s (Some c) t f e = subst (IsRightStep s) (found_same (Claims c) t e) (f c refl)

pub right_at_start : (h : History) → IsSound h → IsRight (start_of h)
right_at_start h w = record { sound = w; terms = tt; lines = tt }

-- the claims of the lines after line n hold from every right state
abbrev Onwards : (State → Line → Option Step) → ℕ → List (List ℕ) → List ℕ → Type 0
Onwards next n lines rest = (s : State) → IsRight s → ClaimsHold s.history (read_lines next (suc n) s lines rest).claims

-- the reading from a line on, by what it leads to
abbrev taken_reading : (State → Line → Option Step) → ℕ → State → List (List ℕ) → List ℕ → Step → Reading
taken_reading next n s lines rest (Continues block) = read_lines next (suc n) (record s { block = block }) lines rest
taken_reading next n s lines rest (Claims claim) = with_claim claim (read_lines next (suc n) (start_of (after_claim s.history claim)) lines rest)
taken_reading next n s lines rest Ends = read_end (suc n) lines rest

module _ (rules_hold : FullSoundness) (s : State) (w : IsRight s) (fields : List Field) (t : Step) where
  ruled : (rule : Option Rule) → ((r : Rule) → rule ≡ Some r → Each (IsTerm (block_symbols s)) (rule_terms r)) → continued (rule_line s rule) ≡ Some t → IsRightStep s t
  ruled rule over e = continues s (rule_line s rule) t (rule_right rules_hold s w rule over) e

  pub step_by_right : (first : Word) → step_by s fields first ≡ Some t → IsRightStep s t
  step_by_right word.Header e = absurd (nothing_found t e)
  step_by_right word.End e = subst (IsRightStep s) (allowed (is_untouched s.block) Ends t e).1 tt
  step_by_right word.Function e = continues s (function_line s fields) t (function_right s w fields) e
  step_by_right word.Variable e = continues s (variable_line s fields) t (variable_right s w fields) e
  step_by_right word.Numeral e = continues s (numeral_line s fields) t (numeral_right s w fields) e
  step_by_right word.Call e = continues s (call_line s fields) t (call_right s w fields) e
  step_by_right word.Taut e = ruled (taut_rule s.block fields) (taut_over s w fields) e
  step_by_right word.Axiom e = ruled (axiom_rule fields) (axiom_over s w fields) e
  step_by_right word.Event e = ruled (event_rule fields) (event_over s w fields) e
  step_by_right word.Weaken e = ruled (weaken_rule s.block fields) (weaken_over s w fields) e
  step_by_right word.Cut e = ruled (cut_rule s.block fields) (cut_over s w fields) e
  step_by_right word.Inst e = ruled (instance_rule s.block fields) (instance_over s w fields) e
  step_by_right word.Refl e = ruled (reflexive_rule s.block fields) (reflexive_over s w fields) e
  step_by_right word.Replace e = ruled (replace_rule s.block fields) (replace_over s w fields) e
  step_by_right word.Join e = ruled (join_rule s.block fields) (join_over s w fields) e
  step_by_right word.Split e = ruled (split_rule fields) (split_over s w fields) e
  step_by_right word.NotNot e = ruled (not_not_rule fields) (not_not_over s w fields) e
  step_by_right word.Value e = ruled (value_rule s.block fields) (value_over s w fields) e
  step_by_right word.Linear e = ruled (linear_rule s.block fields) (linear_over s w fields) e
  step_by_right word.Induct e = continues s (induct_line s fields) t (induct_right rules_hold s w fields) e
  step_by_right word.Drop e = continues s (drop_line s fields) t (drop_right s w fields) e
  step_by_right word.Case e = continues s (case_line s fields) t (case_right s w fields) e
  step_by_right word.Hyp e = continues s (hypothesis_line s fields) t (hypothesis_right s w fields) e
  step_by_right word.BootStrap e = claims s (bootstrap_claim s fields) t (bootstrap_holds s w fields) e
  step_by_right word.Shell e = claims s (shell_claim s fields) t (shell_holds s w fields) e
  step_by_right word.Part e = continues s (part_line s fields) t (part_right s w fields) e
  step_by_right word.Dcl e = claims s (declaration_claim s fields) t (declaration_holds s w fields) e
  step_by_right word.Axiomatize e = claims s (axiom_claim s fields) t (axiom_holds s w fields) e
  step_by_right word.Lemma e = claims s (lemma_claim s fields) t (lemma_holds s w fields) e
  step_by_right word.Defn e = claims s (definition_claim s fields) t (definition_holds s w fields) e
  step_by_right word.Measure e = continues s (measure_line s fields) t (measure_right s w fields) e
  step_by_right word.Toggle e = claims s (toggle_claim s fields) t (toggle_holds s w fields) e
  step_by_right word.Undo e = claims s (undo_claim s fields) t (undo_holds s w fields) e

-- an allowed line keeps the state right, or claims what holds
step_right : FullSoundness → (s : State) → IsRight s → (line : Line) (t : Step) → step s line ≡ Some t → IsRightStep s t
step_right rules_hold s w line t e =
    let may = is_none s.block.measure || is_definition_word line.word in
    let a = bound (only_when may line) (λ line. step_by s line.fields line.word) t e in
    step_by_right rules_hold s w a.0.fields t a.0.word a.2

ends_holds : (h : History) (n : ℕ) (lines : List (List ℕ)) (rest : List ℕ) → ClaimsHold h (read_end n lines rest).claims
ends_holds h n [] [] = tt
ends_holds h n [] (b ∷ rest) = tt
ends_holds h n (line ∷ lines) rest = tt

module _ (rules_hold : FullSoundness) (next : State → Line → Option Step) (narrows : Narrows next) where
  lines_right : (n : ℕ) (s : State) (lines : List (List ℕ)) (rest : List ℕ) → IsRight s → ClaimsHold s.history (read_lines next n s lines rest).claims
  lines_right n s [] rest w = tt
  lines_right n s (bytes ∷ lines) rest w = by_line (λ s w. lines_right (suc n) s lines rest w) (line_of bytes)
    where
      by_step : Onwards next n lines rest → (t : Step) → IsRightStep s t → ClaimsHold s.history (taken_reading next n s lines rest t).claims
      by_step on (Continues block) r = on (with_block s block) r
      by_step on (Claims c) r = (r, on (start_of (after_claim s.history c)) (right_at_start (after_claim s.history c) (sound_after s.history c w.sound r)))
      by_step on Ends r = ends_holds s.history (suc n) lines rest

      by_found : Onwards next n lines rest → (line : Line) (o : Option Step) → next s line ≡ o →
          ClaimsHold s.history (elim o as (λ o. Reading) [ None ↦ wrong n NotAllowed | Some taken ↦ taken_reading next n s lines rest taken ]).claims
      by_found on line None e = tt
      by_found on line (Some t) e = by_step on t (step_right rules_hold s w line t (narrows s line t e))

      by_line : Onwards next n lines rest → (o : Option Line) →
          ClaimsHold s.history (elim o as (λ o. Reading) [ None ↦ wrong n Malformed | Some line ↦ elim (next s line) as (λ o. Reading) [ None ↦ wrong n NotAllowed | Some taken ↦ taken_reading next n s lines rest taken ] ]).claims
      by_line on None = tt
      by_line on (Some line) = by_found on line (next s line) refl

  log_right : (lines : List (List ℕ)) (rest : List ℕ) → ClaimsHold [] (read_log next lines rest).claims
  log_right [] rest = tt
  log_right (bytes ∷ lines) rest = by_line (line_of bytes)
    where
      by_header : (b : Bool) → ClaimsHold [] (elim b as (λ b. Reading) [ true ↦ read_lines next 2 (start_of []) lines rest | false ↦ wrong 1 NotAllowed ]).claims
      by_header true = lines_right 2 (start_of []) lines rest (right_at_start [] tt)
      by_header false = tt

      by_line : (o : Option Line) → ClaimsHold [] (elim o as (λ o. Reading) [ None ↦ wrong 1 Malformed | Some line ↦ elim (is_header line.word) as (λ b. Reading) [ true ↦ read_lines next 2 (start_of []) lines rest | false ↦ wrong 1 NotAllowed ] ]).claims
      by_line None = tt
      by_line (Some line) = by_header (is_header line.word)

pub narrow_claims_law : FullSoundness → NarrowClaims
narrow_claims_law rules_hold next narrows text = log_right rules_hold next narrows (cut_lines text).0 (cut_lines text).1

pub right_claims_law : FullSoundness → RightClaims
right_claims_law rules_hold text = narrow_claims_law rules_hold step (λ s line taken e. e) text
