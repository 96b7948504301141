-- The lines of an induction, written.
use Rattle.std.proofs.Math.Seq.{take-suc}
use Rattle.std.proofs.lemmas.List.{map_push}
use Rattle.std.proofs.Common.{get_or, take, add-one, append_assoc, ◌≡◌, ℕ, ◌+◌, ◌<◌, ◌^◌, ◌&&◌, Bool, true, Option, Some, None, List, [], ◌∷◌, ◌++◌, length, map, refl, sym, ap, ◌∙◌, subst}
use Rattle.std.specs.Prelude.{All, is_some}
use Rattle.std.specs.List.{flat_map}
use Rattle.nq_logtext.specs.Fields.{Field, number}
use Rattle.nq_logtext.specs.Lines.{Line, IsSpellable}
use Rattle.nq_logtext.specs.Views.{of_binding}
use Rattle.nq_logtext.specs.Reading.{◌>>=◌}
use Rattle.nq_logtext.specs.declared.line.Binding.{Binding}
use Rattle.nq_logtext.specs.declared.word.Word.TheVariants as word
use Rattle.nq_logic.specs.Terms.{Term, Substitution}
use Rattle.nq_bank.specs.declared.node.TermId.{TermId}
use Rattle.nq_bank.specs.Content.{Content, term_at}
use Rattle.nq_clause.specs.declared.substitution.Pair.{Pair}
use Rattle.nq_clause.specs.Substitution.{substitution_at}
use Rattle.nq_proof.specs.Clauses.{Clause}
use Rattle.nq_proof.specs.Rules.{Hypothesis, CaseLines, Rule, Induct, conclusion, has_only, is_substitution, are_falls, are_steps, case_tests, case_substitutions, pair_terms, hypothesis_terms, case_terms}
use Rattle.nq_log.specs.Sizes.{are_shallow}
use Rattle.nq_log.specs.States.{CaseLine, CaseOf, HypothesisOf, Block, State, Continues, is_empty, only_when, numbered, has_line, has_term_at, term_at as block_term_at, variable_of, variable_at}
use Rattle.nq_log.specs.RuleLines.{induct_rule, cases_at, with_case as with_case_line, have_terms, substitution_at as block_substitution_at, grouped}
use Rattle.nq_log.specs.Logs.{step, continued}
use Rattle.nq_block.specs.declared.writer.Writer.{Writer}
use Rattle.nq_kernel.specs.Over.{IsVariable, IsTermOf, pair_names, hypothesis_names, case_names}
use Rattle.nq_logic.specs.Terms.{Each}
use Rattle.nq_logic.specs.Ground.{symbols_of}
use Rattle.nq_logic.specs.Words.{not_term, call1, call2}
use Rattle.nq_logic.specs.Terms.{substituted}
use Rattle.nq_logic.specs.Laws.{denied}
use Rattle.nq_proof.proofs.Tests.{and_left, and_right, when_some}
use Rattle.nq_proof.proofs.TermTests.{each_left, each_right}
use Rattle.nq_rule.specs.declared.induction.InductionStep.{InductionStep}
use Rattle.nq_rule.specs.declared.induction.CaseOfInduction.{CaseOfInduction}
use Rattle.nq_rule.specs.Inductions.{hypothesis_at, hypotheses_at, case_at, cases_at as tree_cases_at}
use Rattle.nq_block.specs.Writing.{Frame, Concludes, block_of, state_of, line_clause, has_clause, with_line, with_case, with_hypotheses, CanSuppose, CanDistinguish, with_hypothesis, IsWriting, IsWritten, IsPairWritten, AddsLine, line_text, number_in, binding_in}
use Rattle.nq_block.proofs.Leading.{leads_on}
use Rattle.nq_block.proofs.Spelling.{pair_of, pairs_spelled, pairs_read}
use Rattle.nq_log.proofs.Options.{bound}
use Rattle.nq_block.proofs.Stepping.{rule_line_is}
use Rattle.nq_block.proofs.Waiting.{case_end, hypothesis_end}
use Rattle.nq_block.proofs.RuleLemmas.{after, term_number, term_fits, bindings_fit, pairs_found}

-- a number that names a term is one of a term
is_there : (block : Block) (n : ℕ) (t : Term) → block_term_at block n ≡ Some t → has_term_at block n ≡ true
is_there block n t e = ap is_some e

terms_there : (block : Block) (pairs : List (ℕ × ℕ)) (s : Substitution) → block_substitution_at block pairs ≡ Some s → have_terms block pairs ≡ true
terms_there block [] s e = refl
terms_there block (pair ∷ pairs) s e =
    let a = bound (variable_at block pair.0) (λ x. block_term_at block pair.1 >>= λ t. block_substitution_at block pairs >>= λ s. Some ((x, t) ∷ s)) s e in
    let b = bound (block_term_at block pair.1) (λ t. block_substitution_at block pairs >>= λ s. Some ((a.0, t) ∷ s)) s a.2 in
    let c = bound (block_substitution_at block pairs) (λ s. Some ((a.0, b.0) ∷ s)) s b.2 in
    let d = bound (block_term_at block pair.0) variable_of a.0 a.1 in
    ap (λ b. b && has_term_at block pair.1 && have_terms block pairs) (is_there block pair.0 d.0 d.1)
    ∙ ap (λ b. b && have_terms block pairs) (is_there block pair.1 b.0 b.1)
    ∙ terms_there block pairs c.0 c.1

module _ (bank : Content) (frame : Frame) (old new : Writer) (v : IsWriting bank frame old) where
  abbrev s : State
  s = state_of frame v.waiting v.terms

  -- a line that makes more wait
  waits : (cases : List CaseLines) (line : Line) (more : CaseLine) → IsSpellable line → step s line ≡ Some (Continues (block_of frame (v.waiting ++ (more ∷ [])) v.terms)) →
      grouped s.block (v.waiting ++ (more ∷ [])) ≡ Some ([], cases) → AddsLine line old new → IsWriting bank (record frame { cases = cases }) new
  waits cases line more spellable taken groups adds =
      let grown : IsWriting bank (record frame { cases = cases }) (record old { text = old.text ++ line_text line }) =
      record {
        terms = v.terms;
        waiting = v.waiting ++ (more ∷ []);
        leads = leads_on old.text s line (block_of frame (v.waiting ++ (more ∷ [])) v.terms) v.leads spellable taken;
        cases = groups;
        count = v.count;
        fits = v.fits;
        of_terms = v.of_terms;
        of_variables = v.of_variables;
        new = v.new;
        names = v.names;
        sound = v.sound;
      } in
      subst (IsWriting bank (record frame { cases = cases })) (sym adds) grown

  pub case_written : (t : TermId) (n l : ℕ) → l < 2 ^ 64 → IsWritten old t → n ≡ number_in old.terms t.0 → has_clause frame.clauses l ≡ true → AddsLine (after word.Case (number n ∷ number l ∷ [])) old new →
      IsWriting bank (with_case frame (record { test = term_at bank t; step = l; hypotheses = [] })) new
  case_written t n l fits written same line adds =
      let k : ℕ = number_in old.terms t.0 in
      let found = term_number bank frame old v t written in
      let taken : step s (after word.Case (number k ∷ number l ∷ [])) ≡ Some (Continues (block_of frame (v.waiting ++ (CaseOf k l ∷ [])) v.terms)) =
      ap (λ b. continued (only_when (b && has_line s.block l) (with_case_line s.block (CaseOf k l)))) (is_there s.block k (term_at bank t) found)
      ∙ ap (λ b. continued (only_when b (with_case_line s.block (CaseOf k l)))) line in
      waits (frame.cases ++ (record { test = term_at bank t; step = l; hypotheses = [] } ∷ [])) (after word.Case (number k ∷ number l ∷ [])) (CaseOf k l) (term_fits bank frame old v t written, (fits, tt)) taken
      (case_end s.block v.waiting k l (term_at bank t) ([], frame.cases) v.cases found)
      (subst (λ n. AddsLine (after word.Case (number n ∷ number l ∷ [])) old new) same adds)

  -- the last case gets a hypothesis
  pub hypothesis_written : (cases : List CaseLines) (c : CaseLines) (r : ℕ) (pairs : List Pair) (bs : List Binding) → frame.cases ≡ cases ++ (c ∷ []) → r < 2 ^ 64 → All (IsPairWritten old) pairs → bs ≡ map (binding_in old) pairs →
      has_clause frame.clauses r ≡ true → AddsLine (after word.Hyp (number r ∷ flat_map of_binding bs)) old new →
      IsWriting bank (record frame { cases = cases ++ (with_hypothesis c (record { line = r; pairs = substitution_at bank pairs }) ∷ []) }) new
  hypothesis_written cases c r pairs bs last fits written same line adds =
      let ds : List Binding = map (binding_in old) pairs in
      let ns : List (ℕ × ℕ) = map pair_of ds in
      let found = pairs_found bank frame old v pairs written in
      let h : Hypothesis = record { line = r; pairs = substitution_at bank pairs } in
      let taken : step s (after word.Hyp (number r ∷ flat_map of_binding ds)) ≡ Some (Continues (block_of frame (v.waiting ++ (HypothesisOf r ns ∷ [])) v.terms)) =
      ap (λ (o : Option (List (ℕ × ℕ))). continued (o >>= λ ns. only_when (has_line s.block r && have_terms s.block ns) (with_case_line s.block (HypothesisOf r ns)))) (pairs_read ds)
      ∙ ap (λ b. continued (only_when (b && have_terms s.block ns) (with_case_line s.block (HypothesisOf r ns)))) line
      ∙ ap (λ b. continued (only_when b (with_case_line s.block (HypothesisOf r ns)))) (terms_there s.block ns (substitution_at bank pairs) found) in
      let before : grouped s.block v.waiting ≡ Some ([], cases ++ (c ∷ [])) = v.cases ∙ ap (λ cs. Some ([], cs)) last in
      waits (cases ++ (with_hypothesis c h ∷ [])) (after word.Hyp (number r ∷ flat_map of_binding ds)) (HypothesisOf r ns) (fits, pairs_spelled ds (bindings_fit bank frame old v pairs written)) taken
      (hypothesis_end s.block v.waiting r ns (substitution_at bank pairs) c cases before found)
      (subst (λ bs. AddsLine (after word.Hyp (number r ∷ flat_map of_binding bs)) old new) same adds)

  -- the cases are used up
  pub induct_written : (p m : TermId) (o b i j : ℕ) (c : Clause) → o < 2 ^ 64 → b < 2 ^ 64 → IsWritten old p → IsWritten old m → i ≡ number_in old.terms p.0 → j ≡ number_in old.terms m.0 → are_shallow c ≡ true →
      Concludes frame (Induct (term_at bank p) (term_at bank m) o b frame.cases) c →
      AddsLine (after word.Induct (number i ∷ number j ∷ number o ∷ number b ∷ [])) old new → IsWriting bank (with_line (record frame { cases = [] }) c) new
  induct_written p m o b i j c o_fits b_fits first second of_p of_m low concluded adds =
      let pn : ℕ = number_in old.terms p.0 in
      let mn : ℕ = number_in old.terms m.0 in
      let fields : List Field = number pn ∷ number mn ∷ number o ∷ number b ∷ [] in
      let rule : Rule = Induct (term_at bank p) (term_at bank m) o b frame.cases in
      let read : induct_rule s.block fields ≡ Some rule =
      ap (λ (q : Option Term). q >>= λ p. block_term_at s.block mn >>= λ m. cases_at s.block v.waiting >>= λ cases. Some (Induct p m o b cases)) (term_number bank frame old v p first)
      ∙ ap (λ (q : Option Term). q >>= λ m. cases_at s.block v.waiting >>= λ cases. Some (Induct (term_at bank p) m o b cases)) (term_number bank frame old v m second)
      ∙ ap (λ (q : Option (List Hypothesis × List CaseLines)). (q >>= λ g. only_when (is_empty g.0) g.1) >>= λ cases. Some (Induct (term_at bank p) (term_at bank m) o b cases)) v.cases in
      let taken : step s (after word.Induct fields) ≡ Some (Continues (block_of (with_line frame c) [] v.terms)) =
      ap (λ (q : Option Block). continued (q >>= λ block. Some (record block { cases = [] }))) (rule_line_is frame v.waiting v.terms (induct_rule s.block fields) rule c read concluded low) in
      let whole : AddsLine (after word.Induct fields) old new =
      subst (λ i. AddsLine (after word.Induct (number i ∷ number mn ∷ number o ∷ number b ∷ [])) old new) of_p
      (subst (λ j. AddsLine (after word.Induct (number i ∷ number j ∷ number o ∷ number b ∷ [])) old new) of_m adds) in
      let grown : IsWriting bank (with_line (record frame { cases = [] }) c) (record old { text = old.text ++ line_text (after word.Induct fields) }) =
      record {
        terms = v.terms;
        waiting = [];
        leads = leads_on old.text s (after word.Induct fields) (block_of (with_line frame c) [] v.terms) v.leads (term_fits bank frame old v p first, (term_fits bank frame old v m second, (o_fits, (b_fits, tt)))) taken;
        cases = refl;
        count = v.count;
        fits = v.fits;
        of_terms = v.of_terms;
        of_variables = v.of_variables;
        new = v.new;
        names = v.names;
        sound = v.sound;
      } in
      subst (IsWriting bank (with_line (record frame { cases = [] }) c)) (sym whole) grown

-- ---- what an induction that is allowed tells of its lines

pub shown_line : (frame : Frame) (n : ℕ) (these : List Term) → has_only (line_clause frame n) these ≡ true → has_clause frame.clauses n ≡ true
shown_line frame n these e = by_found (numbered frame.clauses n) e
  where
    by_found : (o : Option (Option (List Term))) → has_only (o >>= λ o. o) these ≡ true → is_some o ≡ true
    by_found None f = absurd cc
    by_found (Some d) f = refl

falls_written : (frame : Frame) (m test : Term) (hs : List Hypothesis) → are_falls (line_clause frame) m test hs ≡ true → Each (IsTermOf IsVariable (symbols_of frame.history)) (hypothesis_terms hs) → Each IsVariable (hypothesis_names hs) →
    Each (CanSuppose frame.history frame.clauses) hs
falls_written frame m test [] e terms names = tt
falls_written frame m test (s ∷ rest) e terms names =
    let these : List Term = not_term test ∷ call2 "ORD-LESSP" (substituted s.pairs m) m ∷ [] in
    let first = and_left (is_substitution s.pairs && has_only (line_clause frame s.line) these) (are_falls (line_clause frame) m test rest) e in
    let line = and_right (is_substitution s.pairs) (has_only (line_clause frame s.line) these) first in
    let others = and_right (is_substitution s.pairs && has_only (line_clause frame s.line) these) (are_falls (line_clause frame) m test rest) e in (
      record {
        line = shown_line frame s.line these line;
        terms = each_left (IsTermOf IsVariable (symbols_of frame.history)) (pair_terms s.pairs) (hypothesis_terms rest) terms;
        names = each_left IsVariable (pair_names s.pairs) (hypothesis_names rest) names;
      },
      falls_written frame m test rest others (each_right (IsTermOf IsVariable (symbols_of frame.history)) (pair_terms s.pairs) (hypothesis_terms rest) terms) (each_right IsVariable (pair_names s.pairs) (hypothesis_names rest) names),
    )

steps_written : (frame : Frame) (p m : Term) (cases : List CaseLines) → are_steps (line_clause frame) p m cases ≡ true → Each (IsTermOf IsVariable (symbols_of frame.history)) (case_terms cases) → Each IsVariable (case_names cases) →
    Each (CanDistinguish frame.history frame.clauses) cases
steps_written frame p m [] e terms names = tt
steps_written frame p m (c ∷ cases) e terms names =
    let these : List Term = not_term c.test ∷ (denied p (case_substitutions c.hypotheses) ++ (p ∷ [])) in
    let falls : Bool = are_falls (line_clause frame) m c.test c.hypotheses in
    let step : Bool = has_only (line_clause frame c.step) these in
    let both = and_left (step && falls) (are_steps (line_clause frame) p m cases) e in
    let others = and_right (step && falls) (are_steps (line_clause frame) p m cases) e in
    let own_terms = each_left (IsTermOf IsVariable (symbols_of frame.history)) (hypothesis_terms c.hypotheses) (case_terms cases) terms.1 in
    let own_names = each_left IsVariable (hypothesis_names c.hypotheses) (case_names cases) names in (
      record {
        line = shown_line frame c.step these (and_left step falls both);
        test = terms.0;
        hypotheses = falls_written frame m c.test c.hypotheses (and_right step falls both) own_terms own_names;
      },
      steps_written frame p m cases others (each_right (IsTermOf IsVariable (symbols_of frame.history)) (hypothesis_terms c.hypotheses) (case_terms cases) terms.1) (each_right IsVariable (hypothesis_names c.hypotheses) (case_names cases) names),
    )

pub cases_can : (frame : Frame) (p m : Term) (o b : ℕ) (cases : List CaseLines) (c : Clause) → conclusion frame.history (line_clause frame) (Induct p m o b cases) ≡ Some c →
    Each (IsTermOf IsVariable (symbols_of frame.history)) (case_terms cases) → Each IsVariable (case_names cases) → Each (CanDistinguish frame.history frame.clauses) cases
cases_can frame p m o b cases c concluded terms names =
    let ordinal : Bool = has_only (line_clause frame o) (call1 "ORDINALP" m ∷ []) in
    let base : Bool = has_only (line_clause frame b) (case_tests cases ++ (p ∷ [])) in
    let steps : Bool = are_steps (line_clause frame) p m cases in
    steps_written frame p m cases (and_right (ordinal && base) steps (when_some (ordinal && base && steps) (p ∷ []) c concluded).0) terms names

-- ---- cases and hypotheses, one after the other

pub hypotheses_next : (bank : Content) (c : CaseLines) (steps : List InductionStep) (i : ℕ) (s : InductionStep) → i < length steps → s ≡ get_or steps i s →
    with_hypothesis (with_hypotheses c (hypotheses_at bank (take i steps))) (hypothesis_at bank s) ≡ with_hypotheses c (hypotheses_at bank (take (i + 1) steps))
hypotheses_next bank c steps i s below is =
    let ss : List Hypothesis = hypotheses_at bank (take i steps) in
    let more : hypotheses_at bank (take (i + 1) steps) ≡ ss ++ (hypothesis_at bank s ∷ []) =
    ap (λ n. hypotheses_at bank (take n steps)) (add-one i) ∙ ap (hypotheses_at bank) (take-suc steps i s below ∙ ap (λ x. take i steps ++ (x ∷ [])) (sym is)) ∙ map_push (hypothesis_at bank) (take i steps) s in
    let joined : (c.hypotheses ++ ss) ++ (hypothesis_at bank s ∷ []) ≡ c.hypotheses ++ hypotheses_at bank (take (i + 1) steps) =
    append_assoc c.hypotheses ss (hypothesis_at bank s ∷ []) ∙ ap (λ xs. c.hypotheses ++ xs) (sym more) in
    let with_all : List Hypothesis → CaseLines = λ hs. record c { hypotheses = hs } in
    ap with_all joined

pub cases_next : (bank : Content) (cases : List CaseOfInduction) (i : ℕ) (c : CaseOfInduction) → i < length cases → c ≡ get_or cases i c →
    tree_cases_at bank (take i cases) ++ (case_at bank c ∷ []) ≡ tree_cases_at bank (take (i + 1) cases)
cases_next bank cases i c below is =
    let more : tree_cases_at bank (take (i + 1) cases) ≡ tree_cases_at bank (take i cases) ++ (case_at bank c ∷ []) =
    ap (λ n. tree_cases_at bank (take n cases)) (add-one i) ∙ ap (tree_cases_at bank) (take-suc cases i c below ∙ ap (λ x. take i cases ++ (x ∷ [])) (sym is)) ∙ map_push (case_at bank) (take i cases) c in
    sym more
