-- A line that is no rule's leads where it leads among other lines, of which as many stand or were dropped.
use Rattle.std.proofs.Common.{◌≡◌, ◌^◌, ℕ, Bool, true, false, ◌++◌, ◌&&◌, Option, Some, None, List, [], ◌∷◌, length, refl, sym, ap, ◌∙◌, append-nil}
use Rattle.std.specs.Prelude.{is_some, is_none, not, nat_lt}
use Rattle.nq_logtext.specs.Reading.{◌>>=◌}
use Rattle.nq_logtext.specs.Fields.{Field, number, numeral, name, mode}
use Rattle.nq_logtext.specs.declared.word.Word.{Word}
use Rattle.nq_logtext.specs.declared.word.Word.TheVariants as word
use Rattle.nq_logic.specs.Terms.{Name, Term, Variable, call}
use Rattle.nq_logic.specs.Words.{numeral as numeral_term}
use Rattle.nq_logic.specs.Names.{has_name, constant_names, is_in_use}
use Rattle.nq_proof.specs.Clauses.{Clause}
use Rattle.nq_proof.specs.Logs.{has_symbol}
use Rattle.nq_log.specs.Sizes.{is_shallow}
use Rattle.nq_log.specs.States.{CaseLine, CaseOf, HypothesisOf, MeasureLine, Block, State, Claim, Continues, Claims, Ends, is_empty, only_when, numbered, terms_at, has_term_at, has_line, have_lines, is_untouched, block_symbols}
use Rattle.nq_log.specs.Fields.{numbers_in, names_in, pairs_in}
use Rattle.nq_log.specs.TermLines.{with_term, function_line, call_line}
use Rattle.nq_log.specs.RuleLines.{with_case, have_terms}
use Rattle.nq_log.specs.ClosingLines.{restriction_of, bootstrap_claim, shell_claim, declaration_claim, axiom_claim, lemma_claim, definition_claim, toggle_claim, undo_claim}
use Rattle.nq_log.specs.Logs.{continued, claimed, step_by}
use Rattle.nq_log.proofs.Options.{nothing_found, found_same, bound, allowed}
use Rattle.nq_drops.specs.Uses.{cited_by, is_rule, all_numbers}
use Rattle.nq_drops.specs.Drops.{is_drop}
use Rattle.nq_drops.proofs.SameTerms.{with_lines, terms_same, have_terms_same, case_cited, waiting_cited}

-- the lines that wait for their use: those of the cases, and those of the measure
abbrev pub measure_waits : Option MeasureLine → List ℕ → List ℕ
measure_waits None ls = ls
measure_waits (Some m) ls = ls ++ (m.ordinal ∷ m.falls)

abbrev pub waits : Block → List ℕ
waits block = measure_waits block.measure (waiting_cited block.cases)

-- a line goes on with the block to this one, and so it does among other lines
pub record Goes (s : State) (lines : List (Option Clause)) (fields : List Field) (w : Word) (block : Block) : Type 0 where
  pub same : block.lines ≡ s.block.lines
  pub more : waits block ≡ waits s.block ++ cited_by fields w
  pub there : step_by (record s { block = with_lines s.block lines }) fields w ≡ Some (Continues (with_lines block lines))

pub record SameSize (lines others : List (Option Clause)) : Type 0 where
  pub empty : is_empty others ≡ is_empty lines
  pub there : (l : ℕ) → is_some (numbered others l) ≡ is_some (numbered lines l)

pub no_claim : (o : Option Claim) (block : Block) → claimed o ≡ Some (Continues block) → ⊥
no_claim None block e = nothing_found (Continues block) e
no_claim (Some c) block e = differ (found_same (Claims c) (Continues block) e)
  where
    differ : Claims c ≡ Continues block → ⊥
    differ e = cc

pub gone_on : (o : Option Block) (block : Block) → continued o ≡ Some (Continues block) → o ≡ Some block
gone_on None block e = absurd (nothing_found (Continues block) e)
gone_on (Some b) block e = ap Some (same (found_same (Continues b) (Continues block) e))
  where
    same : Continues b ≡ Continues block → b ≡ block
    same e = cc

waiting_end : (waiting : List CaseLine) (line : CaseLine) → waiting_cited (waiting ++ (line ∷ [])) ≡ waiting_cited waiting ++ (case_cited line ∷ [])
waiting_end [] line = refl
waiting_end (first ∷ waiting) line = ap (λ ls. case_cited first ∷ ls) (waiting_end waiting line)

module _ (s : State) (lines : List (Option Clause)) (size : SameSize s.block.lines lines) (quiet : s.block.measure ≡ None) where
  abbrev other : State
  other = record s { block = with_lines s.block lines }

  lines_same : (ls : List ℕ) → have_lines other.block ls ≡ have_lines s.block ls
  lines_same [] = refl
  lines_same (l ∷ ls) = λ i. size.there l i && lines_same ls i

  -- the block, where the condition holds, which is the same among the other lines
  gone_when : (fields : List Field) (w : Word) (a b : Bool) (x block : Block) → b ≡ a → x.lines ≡ s.block.lines → waits x ≡ waits s.block ++ cited_by fields w → only_when a x ≡ Some block →
      step_by other fields w ≡ continued (only_when b (with_lines x lines)) → Goes s lines fields w block
  gone_when fields w a b x block same kept more e is =
      let found = allowed a x block e in
      let there : step_by other fields w ≡ Some (Continues (with_lines x lines)) = is ∙ ap (λ b. continued (only_when b (with_lines x lines))) (same ∙ found.0) in
      subst_block x block found.1 (record { same = kept; more = more; there = there })
    where
      subst_block : (x y : Block) → x ≡ y → Goes s lines fields w x → Goes s lines fields w y
      subst_block x y e g = rw (sym e) g

  function_goes : (fields : List Field) (block : Block) → continued (function_line s fields) ≡ Some (Continues block) → Goes s lines fields word.Function block
  function_goes (name f ∷ number k ∷ []) block e =
      let x : Block = record s.block { introduced = Some (f, k) } in
      gone_when (name f ∷ number k ∷ []) word.Function (is_untouched s.block && not (is_in_use f s.history) && nat_lt k (2 ^ 32)) (is_untouched other.block && not (is_in_use f s.history) && nat_lt k (2 ^ 32)) x block
      (λ i. is_none s.block.introduced && is_empty s.block.terms && size.empty i && is_empty s.block.parts && is_empty s.block.cases && is_none s.block.measure && not (is_in_use f s.history) && nat_lt k (2 ^ 32))
      refl (sym (append-nil (waits s.block))) (gone_on (only_when (is_untouched s.block && not (is_in_use f s.history) && nat_lt k (2 ^ 32)) x) block e) refl
  function_goes fields block e = absurd (nothing_found (Continues block) e)

  variable_goes : (fields : List Field) (block : Block) → step_by s fields word.Variable ≡ Some (Continues block) → Goes s lines fields word.Variable block
  variable_goes (name x ∷ []) block e =
      let found : Block = with_term s.block (Variable x) in
      let b : Bool = not (has_name x constant_names) in
      gone_when (name x ∷ []) word.Variable b b found block refl refl (sym (append-nil (waits s.block))) (gone_on (only_when b found) block e) refl
  variable_goes fields block e = absurd (nothing_found (Continues block) e)

  numeral_goes : (fields : List Field) (block : Block) → step_by s fields word.Numeral ≡ Some (Continues block) → Goes s lines fields word.Numeral block
  numeral_goes (numeral n ∷ []) block e =
      let found : Block = with_term s.block (numeral_term n) in
      gone_when (numeral n ∷ []) word.Numeral true true found block refl refl (sym (append-nil (waits s.block))) (gone_on (Some found) block e) refl
  numeral_goes fields block e = absurd (nothing_found (Continues block) e)

  call_goes : (fields : List Field) (block : Block) → step_by s fields word.Call ≡ Some (Continues block) → Goes s lines fields word.Call block
  call_goes (name f ∷ fields) block e =
      let when = λ (b : Block) (ts : List Term). only_when (has_symbol f (length ts) (block_symbols s) && is_shallow (call f ts)) (with_term b (call f ts)) in
      let a = bound (numbers_in fields) (λ ns. terms_at s.block ns >>= when s.block) block (gone_on (call_line s (name f ∷ fields)) block e) in
      let b = bound (terms_at s.block a.0) (when s.block) block a.2 in
      let right : Bool = has_symbol f (length b.0) (block_symbols s) && is_shallow (call f b.0) in
      gone_when (name f ∷ fields) word.Call right right (with_term s.block (call f b.0)) block refl refl (sym (append-nil (waits s.block))) b.2
      (ap (λ (o : Option (List ℕ)). continued (o >>= λ ns. terms_at other.block ns >>= when other.block)) a.1 ∙ ap (λ (o : Option (List Term)). continued (o >>= when other.block)) (terms_same s.block lines a.0 ∙ b.1))
  call_goes fields block e = absurd (nothing_found (Continues block) e)

  part_goes : (fields : List Field) (block : Block) → step_by s fields word.Part ≡ Some (Continues block) → Goes s lines fields word.Part block
  part_goes (name a ∷ mode m ∷ name d ∷ fields) block e =
      let when = λ (b : Block) (rs : List Name). let x : Block = record b { parts = b.parts ++ (record { accessor = a; restriction = restriction_of m rs; default = d } ∷ []) } in x in
      let found = bound (names_in fields) (λ rs. Some (when s.block rs)) block (gone_on (names_in fields >>= λ rs. Some (when s.block rs)) block e) in
      gone_when (name a ∷ mode m ∷ name d ∷ fields) word.Part true true (when s.block found.0) block refl refl (sym (append-nil (waits s.block))) found.2
      (ap (λ (o : Option (List Name)). continued (o >>= λ rs. Some (when other.block rs))) found.1)
  part_goes fields block e = absurd (nothing_found (Continues block) e)

  -- the cases and the measure wait
  case_more : (line : CaseLine) → waits (with_case s.block line) ≡ waits s.block ++ (case_cited line ∷ [])
  case_more line = by_measure s.block.measure quiet
    where
      by_measure : (m : Option MeasureLine) → m ≡ None → measure_waits m (waiting_cited (s.block.cases ++ (line ∷ []))) ≡ measure_waits m (waiting_cited s.block.cases) ++ (case_cited line ∷ [])
      by_measure None e = waiting_end s.block.cases line
      by_measure (Some m) e = absurd cc

  case_goes : (fields : List Field) (block : Block) → step_by s fields word.Case ≡ Some (Continues block) → Goes s lines fields word.Case block
  case_goes (number q ∷ number l ∷ []) block e =
      let found : Block = with_case s.block (CaseOf q l) in
      let right : Bool = has_term_at s.block q && has_line s.block l in
      gone_when (number q ∷ number l ∷ []) word.Case right (has_term_at s.block q && has_line other.block l) found block (λ i. has_term_at s.block q && size.there l i) refl (case_more (CaseOf q l)) (gone_on (only_when right found) block e) refl
  case_goes fields block e = absurd (nothing_found (Continues block) e)

  hypothesis_goes : (fields : List Field) (block : Block) → step_by s fields word.Hyp ≡ Some (Continues block) → Goes s lines fields word.Hyp block
  hypothesis_goes (number r ∷ fields) block e =
      let when = λ (b : Block) (pairs : List (ℕ × ℕ)). only_when (has_line b r && have_terms b pairs) (with_case b (HypothesisOf r pairs)) in
      let a = bound (pairs_in fields) (when s.block) block (gone_on (pairs_in fields >>= when s.block) block e) in
      let found : Block = with_case s.block (HypothesisOf r a.0) in
      gone_when (number r ∷ fields) word.Hyp (has_line s.block r && have_terms s.block a.0) (has_line other.block r && have_terms other.block a.0) found block (λ i. size.there r i && have_terms_same s.block lines a.0 i) refl (case_more (HypothesisOf r a.0)) a.2
      (ap (λ (o : Option (List (ℕ × ℕ))). continued (o >>= when other.block)) a.1)
  hypothesis_goes fields block e = absurd (nothing_found (Continues block) e)

  numbers_listed : (fields : List Field) (ns : List ℕ) → numbers_in fields ≡ Some ns → all_numbers fields ≡ ns
  numbers_listed [] ns e = found_same [] ns e
  numbers_listed (number n ∷ fields) ns e =
      let a = bound (numbers_in fields) (λ ns. Some (n ∷ ns)) ns e in ap (λ ns. n ∷ ns) (numbers_listed fields a.0 a.1) ∙ found_same (n ∷ a.0) ns a.2
  numbers_listed (f ∷ fields) ns e = absurd (nothing_found ns e)

  measure_goes : (fields : List Field) (block : Block) → step_by s fields word.Measure ≡ Some (Continues block) → Goes s lines fields word.Measure block
  measure_goes (number m ∷ number o ∷ fields) block e =
      let after = λ (b : Block) (rs : List ℕ). let x : Block = record b { measure = Some (record { measure = m; ordinal = o; falls = rs }) } in x in
      let when = λ (b : Block) (rs : List ℕ). only_when (has_term_at b m && has_line b o && have_lines b rs) (after b rs) in
      let a = bound (numbers_in fields) (when s.block) block (gone_on (numbers_in fields >>= when s.block) block e) in
      let waiting : waits s.block ≡ waiting_cited s.block.cases = ap (λ (m : Option MeasureLine). measure_waits m (waiting_cited s.block.cases)) quiet in
      let more : waits (after s.block a.0) ≡ waits s.block ++ (o ∷ all_numbers fields) = ap (λ ls. ls ++ (o ∷ a.0)) (sym waiting) ∙ ap (λ rs. waits s.block ++ (o ∷ rs)) (sym (numbers_listed fields a.0 a.1)) in
      gone_when (number m ∷ number o ∷ fields) word.Measure (has_term_at s.block m && has_line s.block o && have_lines s.block a.0) (has_term_at s.block m && has_line other.block o && have_lines other.block a.0) (after s.block a.0) block
      (λ i. has_term_at s.block m && size.there o i && lines_same a.0 i) refl more a.2
      (ap (λ (o : Option (List ℕ)). continued (o >>= when other.block)) a.1)
  measure_goes fields block e = absurd (nothing_found (Continues block) e)

  pub others_go : (fields : List Field) (w : Word) (block : Block) → is_rule w ≡ false → is_drop w ≡ false → step_by s fields w ≡ Some (Continues block) → Goes s lines fields w block
  others_go fields word.Function block rule drop e = function_goes fields block e
  others_go fields word.Variable block rule drop e = variable_goes fields block e
  others_go fields word.Numeral block rule drop e = numeral_goes fields block e
  others_go fields word.Call block rule drop e = call_goes fields block e
  others_go fields word.Part block rule drop e = part_goes fields block e
  others_go fields word.Case block rule drop e = case_goes fields block e
  others_go fields word.Hyp block rule drop e = hypothesis_goes fields block e
  others_go fields word.Measure block rule drop e = measure_goes fields block e
  others_go fields word.BootStrap block rule drop e = absurd (no_claim (bootstrap_claim s fields) block e)
  others_go fields word.Shell block rule drop e = absurd (no_claim (shell_claim s fields) block e)
  others_go fields word.Dcl block rule drop e = absurd (no_claim (declaration_claim s fields) block e)
  others_go fields word.Axiomatize block rule drop e = absurd (no_claim (axiom_claim s fields) block e)
  others_go fields word.Lemma block rule drop e = absurd (no_claim (lemma_claim s fields) block e)
  others_go fields word.Defn block rule drop e = absurd (no_claim (definition_claim s fields) block e)
  others_go fields word.Toggle block rule drop e = absurd (no_claim (toggle_claim s fields) block e)
  others_go fields word.Undo block rule drop e = absurd (no_claim (undo_claim s fields) block e)
  others_go fields word.Header block rule drop e = absurd (nothing_found (Continues block) e)
  others_go fields word.End block rule drop e = absurd (not_ended (is_untouched s.block) e)
    where
      not_ended : (b : Bool) → only_when b Ends ≡ Some (Continues block) → ⊥
      not_ended true f = differ (found_same Ends (Continues block) f)
        where
          differ : Ends ≡ Continues block → ⊥
          differ g = cc
      not_ended false f = nothing_found (Continues block) f
  others_go fields w block rule drop e = absurd cc
