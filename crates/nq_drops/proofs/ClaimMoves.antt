-- A closing line claims the same where the lines that it uses stand.
use Rattle.std.proofs.Common.{◌≡◌, ◌^◌, ℕ, Bool, true, false, ◌++◌, ◌&&◌, Option, Some, None, List, [], ◌∷◌, length, refl, ap, ◌∙◌}
use Rattle.std.specs.Prelude.{not, nat_lt}
use Rattle.nq_logtext.specs.Reading.{◌>>=◌}
use Rattle.nq_logtext.specs.Fields.{Field, number, name}
use Rattle.nq_logtext.specs.declared.word.Word.{Word}
use Rattle.nq_logtext.specs.declared.word.Word.TheVariants as word
use Rattle.nq_logic.specs.Terms.{Name, Term, Each, substituted}
use Rattle.nq_logic.specs.Words.{call1}
use Rattle.nq_logic.specs.Histories.{Defines, Lemma}
use Rattle.nq_logic.specs.Names.{are_distinct, is_in_use}
use Rattle.nq_logic.specs.Admissible.{mentions, has_variables, Call, calls_of, matched, obligation}
use Rattle.nq_proof.specs.Clauses.{Clause}
use Rattle.nq_proof.specs.Rules.{has_only}
use Rattle.nq_proof.proofs.Tests.{and_left, and_right}
use Rattle.nq_proof.proofs.TermTests.{each_left, each_right}
use Rattle.nq_log.specs.Sizes.{is_small}
use Rattle.nq_log.specs.States.{MeasureLine, Block, State, Claim, Adds, Continues, Claims, Ends, is_empty, only_when, clause_at, term_at, variables_at, is_untouched}
use Rattle.nq_log.specs.Fields.{numbers_in}
use Rattle.nq_log.specs.TermLines.{function_line, variable_line, numeral_line, call_line}
use Rattle.nq_log.specs.RuleLines.{case_line, hypothesis_line}
use Rattle.nq_log.specs.ClosingLines.{part_line, measure_line, has_room, is_free, introduces, are_falls, is_measure, is_measured, given_measure, new_definition, is_definition, bootstrap_claim, shell_claim, declaration_claim, axiom_claim, lemma_claim, definition_claim, toggle_claim, undo_claim}
use Rattle.nq_log.specs.Logs.{continued, claimed, step_by}
use Rattle.nq_log.proofs.Options.{nothing_found, found_same, bound, allowed}
use Rattle.nq_drops.specs.Uses.{cited_by, is_rule}
use Rattle.nq_drops.specs.Drops.{is_drop}
use Rattle.nq_drops.proofs.Cited.{IsKept, only_kept}
use Rattle.nq_drops.proofs.SameTerms.{with_lines, variables_same, waiting_cited}
use Rattle.nq_drops.proofs.OtherMoves.{measure_waits, waits}

claim_found : (o : Option Claim) (c : Claim) → claimed o ≡ Some (Claims c) → o ≡ Some c
claim_found None c e = absurd (nothing_found (Claims c) e)
claim_found (Some d) c e = ap Some (same (found_same (Claims d) (Claims c) e))
  where
    same : Claims d ≡ Claims c → d ≡ c
    same e = cc

no_block : (o : Option Block) (c : Claim) → continued o ≡ Some (Claims c) → ⊥
no_block None c e = nothing_found (Claims c) e
no_block (Some b) c e = differ (found_same (Continues b) (Claims c) e)
  where
    differ : Continues b ≡ Claims c → ⊥
    differ e = cc

both : (a b : Bool) → a ≡ true → b ≡ true → a && b ≡ true
both true b e f = f
both false b e f = e

module _ (s : State) (lines : List (Option Clause)) where
  abbrev other : State
  other = record s { block = with_lines s.block lines }

  abbrev Kept : ℕ → Type 0
  Kept = IsKept (clause_at s.block) (clause_at other.block)

  falls_kept : (f : Name) (xs : List Name) (m : Term) (calls : List Call) (rs : List ℕ) → Each Kept rs → are_falls s.block f xs m calls rs ≡ true → are_falls other.block f xs m calls rs ≡ true
  falls_kept f xs m [] [] kept e = e
  falls_kept f xs m [] (r ∷ rs) kept e = e
  falls_kept f xs m (c ∷ calls) [] kept e = e
  falls_kept f xs m (c ∷ calls) (r ∷ rs) kept e =
      let older = not (mentions f (substituted (matched xs c.arguments) m)) in
      let these = obligation f xs m c.tests c.arguments in
      let less = has_only (clause_at s.block r) these in
      let first = and_left (older && less) (are_falls s.block f xs m calls rs) e in
      both (older && has_only (clause_at other.block r) these) (are_falls other.block f xs m calls rs)
      (both older (has_only (clause_at other.block r) these) (and_left older less first) (only_kept (clause_at s.block) (clause_at other.block) r these kept.0 (and_right older less first)))
      (falls_kept f xs m calls rs kept.1 (and_right (older && less) (are_falls s.block f xs m calls rs) e))

  measure_kept : (f : Name) (xs : List Name) (body : Term) (rs : List ℕ) (o : ℕ) (m : Option Term) → Each Kept (o ∷ rs) → is_measure s.block f xs body rs o m ≡ true → is_measure other.block f xs body rs o m ≡ true
  measure_kept f xs body rs o None kept e = e
  measure_kept f xs body rs o (Some m) kept e =
      let within = has_variables xs m && not (mentions f m) in
      let these = call1 "ORDINALP" m ∷ [] in
      let ordinal = has_only (clause_at s.block o) these in
      let falls = are_falls s.block f xs m (calls_of f body) rs in
      let first = and_left (within && ordinal) falls e in
      both (within && has_only (clause_at other.block o) these) (are_falls other.block f xs m (calls_of f body) rs)
      (both within (has_only (clause_at other.block o) these) (and_left within ordinal first) (only_kept (clause_at s.block) (clause_at other.block) o these kept.0 (and_right within ordinal first)))
      (falls_kept f xs m (calls_of f body) rs kept.1 (and_right (within && ordinal) falls e))

  measured_kept : (f : Name) (xs : List Name) (body : Term) (calls : Bool) (m : Option MeasureLine) (ls : List ℕ) → Each Kept (measure_waits m ls ++ []) → is_measured s.block f xs body calls m ≡ true → is_measured other.block f xs body calls m ≡ true
  measured_kept f xs body false None ls kept e = e
  measured_kept f xs body false (Some m) ls kept e = e
  measured_kept f xs body true None ls kept e = e
  measured_kept f xs body true (Some m) ls kept e =
      measure_kept f xs body m.falls m.ordinal (term_at s.block m.measure) (each_right Kept ls (m.ordinal ∷ m.falls) (each_left Kept (ls ++ (m.ordinal ∷ m.falls)) [] kept)) e

  given_same : (m : Option MeasureLine) → given_measure other.block m ≡ given_measure s.block m
  given_same None = refl
  given_same (Some m) = refl

  lemma_kept : (fields : List Field) (c : Claim) → Each Kept (waits s.block ++ cited_by fields word.Lemma) → claimed (lemma_claim s fields) ≡ Some (Claims c) → claimed (lemma_claim other fields) ≡ Some (Claims c)
  lemma_kept (name n ∷ number t ∷ number l ∷ []) c kept e =
      let when = λ (b : Block) (t : Term). only_when (is_free s n && is_small t && has_only (clause_at b l) (t ∷ [])) (Adds (Lemma n [] t)) in
      let a = bound (term_at s.block t) (when s.block) c (claim_found (term_at s.block t >>= when s.block) c e) in
      let free = is_free s n && is_small a.0 in
      let only = has_only (clause_at s.block l) (a.0 ∷ []) in
      let b = allowed (free && only) (Adds (Lemma n [] a.0)) c a.2 in
      let there = both free (has_only (clause_at other.block l) (a.0 ∷ [])) (and_left free only b.0) (only_kept (clause_at s.block) (clause_at other.block) l (a.0 ∷ []) (each_right Kept (waits s.block) (l ∷ []) kept).0 (and_right free only b.0)) in
      ap (λ (o : Option Term). claimed (o >>= when other.block)) a.1 ∙ ap (λ b. claimed (only_when b (Adds (Lemma n [] a.0)))) there ∙ ap (λ c. Some (Claims c)) b.1
  lemma_kept fields c kept e = absurd (nothing_found (Claims c) e)

  definition_kept : (fields : List Field) (c : Claim) → Each Kept (waits s.block ++ []) → claimed (definition_claim s fields) ≡ Some (Claims c) → claimed (definition_claim other fields) ≡ Some (Claims c)
  definition_kept (name f ∷ number b ∷ fields) c kept e =
      let when = λ (state : State) (body : Term) (xs : List Name).
      only_when (is_empty s.block.parts && is_empty s.block.cases && has_room s.history && not (is_in_use f s.history) && nat_lt (length xs) (2 ^ 32) && is_small body && is_definition state f xs body)
      (Adds (Defines (new_definition state.block f xs body))) in
      let w = bound (term_at s.block b) (λ body. numbers_in fields >>= λ ns. variables_at s.block ns >>= when s body) c (claim_found (definition_claim s (name f ∷ number b ∷ fields)) c e) in
      let x = bound (numbers_in fields) (λ ns. variables_at s.block ns >>= when s w.0) c w.2 in
      let y = bound (variables_at s.block x.0) (when s w.0) c x.2 in
      let room = is_empty s.block.parts && is_empty s.block.cases && has_room s.history && not (is_in_use f s.history) && nat_lt (length y.0) (2 ^ 32) && is_small w.0 in
      let z = allowed (room && is_definition s f y.0 w.0) (Adds (Defines (new_definition s.block f y.0 w.0))) c y.2 in
      let right = and_right room (is_definition s f y.0 w.0) z.0 in
      let names = introduces s.block.introduced f (length y.0) && are_distinct y.0 && has_variables y.0 w.0 in
      let measured = is_measured s.block f y.0 w.0 (mentions f w.0) s.block.measure in
      let there = both room (is_definition other f y.0 w.0) (and_left room (is_definition s f y.0 w.0) z.0)
      (both names (is_measured other.block f y.0 w.0 (mentions f w.0) s.block.measure) (and_left names measured right)
      (measured_kept f y.0 w.0 (mentions f w.0) s.block.measure (waiting_cited s.block.cases) kept (and_right names measured right))) in
      ap (λ (o : Option Term). claimed (o >>= λ body. numbers_in fields >>= λ ns. variables_at other.block ns >>= when other body)) w.1
      ∙ ap (λ (o : Option (List ℕ)). claimed (o >>= λ ns. variables_at other.block ns >>= when other w.0)) x.1
      ∙ ap (λ (o : Option (List Name)). claimed (o >>= when other w.0)) (variables_same s.block lines x.0 ∙ y.1)
      ∙ ap (λ b. claimed (only_when b (Adds (Defines (new_definition other.block f y.0 w.0))))) there
      ∙ ap (λ (m : Option Term). Some (Claims (Adds (Defines (record { function = f; formals = y.0; body = w.0; measure = m }))))) (given_same s.block.measure)
      ∙ ap (λ c. Some (Claims c)) z.1
  definition_kept fields c kept e = absurd (nothing_found (Claims c) e)

  shell_kept : (fields : List Field) (c : Claim) → claimed (shell_claim s fields) ≡ Some (Claims c) → claimed (shell_claim other fields) ≡ Some (Claims c)
  shell_kept (name x ∷ name b ∷ name r ∷ []) c e = e
  shell_kept fields c e = absurd (nothing_found (Claims c) e)

  bootstrap_kept : (fields : List Field) (c : Claim) → claimed (bootstrap_claim s fields) ≡ Some (Claims c) → claimed (bootstrap_claim other fields) ≡ Some (Claims c)
  bootstrap_kept [] c e = e
  bootstrap_kept (f ∷ fields) c e = absurd (nothing_found (Claims c) e)

  declaration_kept : (fields : List Field) (c : Claim) → claimed (declaration_claim s fields) ≡ Some (Claims c) → claimed (declaration_claim other fields) ≡ Some (Claims c)
  declaration_kept (name f ∷ number k ∷ []) c e = e
  declaration_kept fields c e = absurd (nothing_found (Claims c) e)

  axiom_kept : (fields : List Field) (c : Claim) → claimed (axiom_claim s fields) ≡ Some (Claims c) → claimed (axiom_claim other fields) ≡ Some (Claims c)
  axiom_kept (name n ∷ number t ∷ []) c e = e
  axiom_kept fields c e = absurd (nothing_found (Claims c) e)

  toggle_kept : (fields : List Field) (c : Claim) → claimed (toggle_claim s fields) ≡ Some (Claims c) → claimed (toggle_claim other fields) ≡ Some (Claims c)
  toggle_kept (name n ∷ name old ∷ number d ∷ []) c e = e
  toggle_kept fields c e = absurd (nothing_found (Claims c) e)

  undo_kept : (fields : List Field) (c : Claim) → claimed (undo_claim s fields) ≡ Some (Claims c) → claimed (undo_claim other fields) ≡ Some (Claims c)
  undo_kept (name n ∷ []) c e = e
  undo_kept fields c e = absurd (nothing_found (Claims c) e)

  pub claims_kept : (fields : List Field) (w : Word) (c : Claim) → is_rule w ≡ false → is_drop w ≡ false → Each Kept (waits s.block ++ cited_by fields w) → step_by s fields w ≡ Some (Claims c) → step_by other fields w ≡ Some (Claims c)
  claims_kept fields word.BootStrap c rule drop kept e = bootstrap_kept fields c e
  claims_kept fields word.Shell c rule drop kept e = shell_kept fields c e
  claims_kept fields word.Dcl c rule drop kept e = declaration_kept fields c e
  claims_kept fields word.Axiomatize c rule drop kept e = axiom_kept fields c e
  claims_kept fields word.Lemma c rule drop kept e = lemma_kept fields c kept e
  claims_kept fields word.Defn c rule drop kept e = definition_kept fields c kept e
  claims_kept fields word.Toggle c rule drop kept e = toggle_kept fields c e
  claims_kept fields word.Undo c rule drop kept e = undo_kept fields c e
  claims_kept fields word.Header c rule drop kept e = absurd (nothing_found (Claims c) e)
  claims_kept fields word.End c rule drop kept e = absurd (not_ended (is_untouched s.block) e)
    where
      not_ended : (b : Bool) → only_when b Ends ≡ Some (Claims c) → ⊥
      not_ended true f = differ (found_same Ends (Claims c) f)
        where
          differ : Ends ≡ Claims c → ⊥
          differ g = cc
      not_ended false f = nothing_found (Claims c) f
  claims_kept fields word.Function c rule drop kept e = absurd (no_block (function_line s fields) c e)
  claims_kept fields word.Variable c rule drop kept e = absurd (no_block (variable_line s fields) c e)
  claims_kept fields word.Numeral c rule drop kept e = absurd (no_block (numeral_line s fields) c e)
  claims_kept fields word.Call c rule drop kept e = absurd (no_block (call_line s fields) c e)
  claims_kept fields word.Part c rule drop kept e = absurd (no_block (part_line s fields) c e)
  claims_kept fields word.Case c rule drop kept e = absurd (no_block (case_line s fields) c e)
  claims_kept fields word.Hyp c rule drop kept e = absurd (no_block (hypothesis_line s fields) c e)
  claims_kept fields word.Measure c rule drop kept e = absurd (no_block (measure_line s fields) c e)
  claims_kept fields w c rule drop kept e = absurd cc
