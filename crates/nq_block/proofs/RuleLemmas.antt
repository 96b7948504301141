-- Each rule, written as its line.
use Rattle.std.proofs.Common.{◌≡◌, ℕ, ◌<◌, ◌^◌, true, Option, Some, List, [], ◌∷◌, length, map, refl, ap, ◌∙◌, subst, arith}
use Rattle.std.specs.Prelude.{All, IsTrue}
use Rattle.std.specs.List.{flat_map}
use Rattle.nq_logtext.specs.Fields.{Field, number, name, path, sign, of_number}
use Rattle.nq_logtext.specs.Symbols.{is_symbol}
use Rattle.nq_logtext.specs.Lines.{Line, IsSpellable, HasKinds}
use Rattle.nq_logtext.specs.Views.{one_number, of_binding}
use Rattle.nq_logtext.specs.Reading.{◌>>=◌}
use Rattle.nq_logtext.specs.declared.line.Binding.{Binding}
use Rattle.nq_logtext.specs.declared.line.Sign.{Sign}
use Rattle.nq_logtext.specs.declared.word.Word.{Word}
use Rattle.nq_logtext.specs.declared.word.Word.TheVariants as word
use Rattle.nq_logic.specs.Terms.{Name, Term, Each, Substitution}
use Rattle.nq_bank.specs.declared.node.Sym.{Sym}
use Rattle.nq_bank.specs.declared.node.TermId.{TermId}
use Rattle.nq_bank.specs.Shells.{texts_at}
use Rattle.nq_bank.specs.Content.{Content, term_at, terms_at}
use Rattle.nq_bank.proofs.NodesLemmas.{All-head, All-tail}
use Rattle.nq_clause.specs.declared.substitution.Pair.{Pair}
use Rattle.nq_clause.specs.Substitution.{substitution_at}
use Rattle.nq_proof.specs.Clauses.{Clause, distinct}
use Rattle.nq_proof.specs.Rows.{axiom_clause}
use Rattle.nq_proof.specs.Rules.{Rule, Taut, AxiomRow, EventTerm, Weaken, Cut, Instance, Reflexive, Replace, Join, SplitFirst, SplitSecond, NotNot, Value, event_term}
use Rattle.nq_proof.proofs.Tests.{given_some}
use Rattle.nq_log.specs.Sizes.{are_shallow}
use Rattle.nq_log.specs.States.{Block, term_at as block_term_at, terms_at as block_terms_at, variables_at}
use Rattle.nq_log.specs.RuleLines.{rule_line, side_of, substitution_at as block_substitution_at, taut_rule, weaken_rule, instance_rule, replace_rule, join_rule}
use Rattle.nq_log.specs.Logs.{step, continued}
use Rattle.nq_block.specs.declared.writer.Writer.{Writer}
use Rattle.nq_block.specs.Writing.{Frame, Concludes as ConcludesIn, block_of, state_of, line_clause, with_line, IsWriting, IsWritten, IsVariableWritten, IsPairWritten, AddsLine, number_in, binding_in, term_of, variable_of}
use Rattle.nq_block.proofs.Numbering.{AreWritten, numbers_in, number_found, number_within, terms_found, numbers_fit}
use Rattle.nq_block.proofs.Spelling.{Fits, pair_of, run_spelled, run_read, pairs_spelled, pairs_read}
use Rattle.nq_block.proofs.Named.{of_events, spelled_name, term_named}
use Rattle.nq_block.proofs.AxiomNames.{axiom_named}
use Rattle.nq_block.proofs.Places.{places_spelled}
use Rattle.nq_block.proofs.Stepping.{line_written, rule_step}

abbrev pub after : Word → List Field → Line
after w fields = record { word = w; fields = fields }

-- ---- numbers of what is written

module _ (bank : Content) (frame : Frame) (w : Writer) (v : IsWriting bank frame w) where
  terms_fit : length v.terms < 2 ^ 64
  terms_fit = subst (λ n. n < 2 ^ 64) v.count v.fits

  pub term_number : (t : TermId) → IsWritten w t → block_term_at (block_of frame v.waiting v.terms) (number_in w.terms t.0) ≡ Some (term_at bank t)
  term_number t written = number_found (term_of bank) v.terms w.terms t.0 v.of_terms written

  pub term_fits : (t : TermId) → IsWritten w t → number_in w.terms t.0 < 2 ^ 64
  term_fits t written =
      let within = number_within (term_of bank) v.terms w.terms t.0 v.of_terms written in
      let fits : length v.terms < 2 ^ 64 = terms_fit in
      omega (arith, within, fits)

  pub run_terms : (ids : List TermId) → AreWritten w.terms ids → block_terms_at (block_of frame v.waiting v.terms) (numbers_in w.terms ids) ≡ Some (terms_at bank ids)
  run_terms ids written = terms_found bank frame v.waiting v.terms w.terms ids v.of_terms written

  pub run_fits : (ids : List TermId) → AreWritten w.terms ids → HasKinds (of_number ∷ []) [] (flat_map one_number (numbers_in w.terms ids))
  run_fits ids written = run_spelled (numbers_in w.terms ids) (numbers_fit (term_of bank) v.terms w.terms ids v.of_terms terms_fit written)

  pub bindings_fit : (pairs : List Pair) → All (IsPairWritten w) pairs → Each Fits (map (binding_in w) pairs)
  bindings_fit [] written = tt
  bindings_fit (pair ∷ pairs) written =
      let here : IsPairWritten w pair = All-head (IsPairWritten w) pair pairs written in
      let within = number_within (variable_of bank) v.terms w.variables pair.variable.0 v.of_variables here.variable in
      let fits : length v.terms < 2 ^ 64 = terms_fit in (
        record { variable = omega (arith, within, fits); term = term_fits pair.term here.term },
        bindings_fit pairs (All-tail (IsPairWritten w) pair pairs written),
      )

  pub pairs_found : (pairs : List Pair) → All (IsPairWritten w) pairs → block_substitution_at (block_of frame v.waiting v.terms) (map pair_of (map (binding_in w) pairs)) ≡ Some (substitution_at bank pairs)
  pairs_found [] written = refl
  pairs_found (pair ∷ pairs) written =
      let here : IsPairWritten w pair = All-head (IsPairWritten w) pair pairs written in
      let x = number_found (variable_of bank) v.terms w.variables pair.variable.0 v.of_variables here.variable in
      let t = term_number pair.term here.term in
      let rest = pairs_found pairs (All-tail (IsPairWritten w) pair pairs written) in
      rw (x, t, rest) refl

  pub names_fit : (names : List Sym) → All (IsVariableWritten w) names → HasKinds (of_number ∷ []) [] (flat_map one_number (map (λ s. number_in w.variables s.0) names))
  names_fit [] written = tt
  names_fit (s ∷ names) written =
      let within = number_within (variable_of bank) v.terms w.variables s.0 v.of_variables (All-head (IsVariableWritten w) s names written) in
      let fits : length v.terms < 2 ^ 64 = terms_fit in
      (omega (arith, within, fits), names_fit names (All-tail (IsVariableWritten w) s names written))

  pub names_found : (names : List Sym) → All (IsVariableWritten w) names → variables_at (block_of frame v.waiting v.terms) (map (λ s. number_in w.variables s.0) names) ≡ Some (texts_at bank names)
  names_found [] written = refl
  names_found (s ∷ names) written =
      let x = number_found (variable_of bank) v.terms w.variables s.0 v.of_variables (All-head (IsVariableWritten w) s names written) in
      let rest = names_found names (All-tail (IsVariableWritten w) s names written) in
      rw (x, rest) refl

-- ---- lines of rules

module _ (bank : Content) (frame : Frame) (old new : Writer) (c : Clause) (v : IsWriting bank frame old) (low : are_shallow c ≡ true) where
  abbrev Concludes : Rule → Type 0
  Concludes rule = ConcludesIn frame rule c

  abbrev block : Block
  block = block_of frame v.waiting v.terms

  pub rule_written : (line : Line) (read : Option Rule) (rule : Rule) → IsSpellable line → step (state_of frame v.waiting v.terms) line ≡ continued (rule_line (state_of frame v.waiting v.terms) read) →
      read ≡ Some rule → Concludes rule → AddsLine line old new → IsWriting bank (with_line frame c) new
  rule_written line read rule spellable stepped is concluded adds =
      line_written bank frame old new line v c spellable (stepped ∙ rule_step frame v.waiting v.terms read rule c is concluded low) adds

  pub taut_written : (ids : List TermId) (ns : List ℕ) → AreWritten old.terms ids → ns ≡ numbers_in old.terms ids → Concludes (Taut (terms_at bank ids)) →
      AddsLine (after word.Taut (flat_map one_number ns)) old new → IsWriting bank (with_line frame c) new
  taut_written ids ns written same concluded adds =
      let ms : List ℕ = numbers_in old.terms ids in
      let fields : List Field = flat_map one_number ms in
      let read : taut_rule block fields ≡ Some (Taut (terms_at bank ids)) =
      ap (λ (o : Option (List ℕ)). o >>= λ ns. block_terms_at block ns >>= λ ts. Some (Taut ts)) (run_read ms)
      ∙ ap (λ (o : Option (List Term)). o >>= λ ts. Some (Taut ts)) (run_terms bank frame old v ids written) in
      rule_written (after word.Taut fields) (taut_rule block fields) (Taut (terms_at bank ids)) (run_fits bank frame old v ids written) refl read concluded
      (subst (λ ns. AddsLine (after word.Taut (flat_map one_number ns)) old new) same adds)

  pub weaken_written : (l : ℕ) (ids : List TermId) (ns : List ℕ) → l < 2 ^ 64 → AreWritten old.terms ids → ns ≡ numbers_in old.terms ids → Concludes (Weaken l (terms_at bank ids)) →
      AddsLine (after word.Weaken (number l ∷ flat_map one_number ns)) old new → IsWriting bank (with_line frame c) new
  weaken_written l ids ns fits written same concluded adds =
      let ms : List ℕ = numbers_in old.terms ids in
      let fields : List Field = number l ∷ flat_map one_number ms in
      let read : weaken_rule block fields ≡ Some (Weaken l (terms_at bank ids)) =
      ap (λ (o : Option (List ℕ)). o >>= λ ns. block_terms_at block ns >>= λ ts. Some (Weaken l ts)) (run_read ms)
      ∙ ap (λ (o : Option (List Term)). o >>= λ ts. Some (Weaken l ts)) (run_terms bank frame old v ids written) in
      rule_written (after word.Weaken fields) (weaken_rule block fields) (Weaken l (terms_at bank ids)) (fits, run_fits bank frame old v ids written) refl read concluded
      (subst (λ ns. AddsLine (after word.Weaken (number l ∷ flat_map one_number ns)) old new) same adds)

  pub axiom_written : (x : Name) (row i : ℕ) → row < 2 ^ 64 → i < 2 ^ 64 → Concludes (AxiomRow x row i) → AddsLine (after word.Axiom (name x ∷ number row ∷ number i ∷ [])) old new → IsWriting bank (with_line frame c) new
  axiom_written x row i row_fits fits concluded adds =
      let found = given_some (axiom_clause frame.history x row i) (λ c. Some (distinct c)) c concluded.clause in
      let spelled : IsTrue (is_symbol x) = spelled_name frame.history x v.names (axiom_named frame.history x row i found.0 found.1) in
      rule_written (after word.Axiom (name x ∷ number row ∷ number i ∷ [])) (Some (AxiomRow x row i)) (AxiomRow x row i) (spelled, (row_fits, (fits, tt))) refl refl concluded adds

  pub event_written : (x : Name) → Concludes (EventTerm x) → AddsLine (after word.Event (name x ∷ [])) old new → IsWriting bank (with_line frame c) new
  event_written x concluded adds =
      let found = given_some (event_term x frame.history) (λ t. Some (t ∷ [])) c concluded.clause in
      let spelled : IsTrue (is_symbol x) = spelled_name frame.history x v.names (of_events frame.history x (term_named x frame.history found.0 found.1)) in
      rule_written (after word.Event (name x ∷ [])) (Some (EventTerm x)) (EventTerm x) (spelled, tt) refl refl concluded adds

  pub cut_written : (l m : ℕ) (t : TermId) (n : ℕ) → l < 2 ^ 64 → m < 2 ^ 64 → IsWritten old t → n ≡ number_in old.terms t.0 → Concludes (Cut l m (term_at bank t)) →
      AddsLine (after word.Cut (number l ∷ number m ∷ number n ∷ [])) old new → IsWriting bank (with_line frame c) new
  cut_written l m t n l_fits m_fits written same concluded adds =
      let k : ℕ = number_in old.terms t.0 in
      rule_written (after word.Cut (number l ∷ number m ∷ number k ∷ [])) (block_term_at block k >>= λ t. Some (Cut l m t)) (Cut l m (term_at bank t)) (l_fits, (m_fits, (term_fits bank frame old v t written, tt))) refl
      (ap (λ (o : Option Term). o >>= λ t. Some (Cut l m t)) (term_number bank frame old v t written)) concluded
      (subst (λ n. AddsLine (after word.Cut (number l ∷ number m ∷ number n ∷ [])) old new) same adds)

  pub instance_written : (l : ℕ) (pairs : List Pair) (bs : List Binding) → l < 2 ^ 64 → All (IsPairWritten old) pairs → bs ≡ map (binding_in old) pairs → Concludes (Instance l (substitution_at bank pairs)) →
      AddsLine (after word.Inst (number l ∷ flat_map of_binding bs)) old new → IsWriting bank (with_line frame c) new
  instance_written l pairs bs fits written same concluded adds =
      let cs : List Binding = map (binding_in old) pairs in
      let fields : List Field = number l ∷ flat_map of_binding cs in
      let read : instance_rule block fields ≡ Some (Instance l (substitution_at bank pairs)) =
      ap (λ (o : Option (List (ℕ × ℕ))). o >>= λ pairs. block_substitution_at block pairs >>= λ s. Some (Instance l s)) (pairs_read cs)
      ∙ ap (λ (o : Option Substitution). o >>= λ s. Some (Instance l s)) (pairs_found bank frame old v pairs written) in
      rule_written (after word.Inst fields) (instance_rule block fields) (Instance l (substitution_at bank pairs)) (fits, pairs_spelled cs (bindings_fit bank frame old v pairs written)) refl read concluded
      (subst (λ bs. AddsLine (after word.Inst (number l ∷ flat_map of_binding bs)) old new) same adds)

  pub reflexive_written : (t : TermId) (n : ℕ) → IsWritten old t → n ≡ number_in old.terms t.0 → Concludes (Reflexive (term_at bank t)) → AddsLine (after word.Refl (number n ∷ [])) old new → IsWriting bank (with_line frame c) new
  reflexive_written t n written same concluded adds =
      let k : ℕ = number_in old.terms t.0 in
      rule_written (after word.Refl (number k ∷ [])) (block_term_at block k >>= λ t. Some (Reflexive t)) (Reflexive (term_at bank t)) (term_fits bank frame old v t written, tt) refl
      (ap (λ (o : Option Term). o >>= λ t. Some (Reflexive t)) (term_number bank frame old v t written)) concluded
      (subst (λ n. AddsLine (after word.Refl (number n ∷ [])) old new) same adds)

  pub join_written : (l m : ℕ) (p x y : TermId) → l < 2 ^ 64 → m < 2 ^ 64 → IsWritten old p → IsWritten old x → IsWritten old y → (i j k : ℕ) →
      i ≡ number_in old.terms p.0 → j ≡ number_in old.terms x.0 → k ≡ number_in old.terms y.0 → Concludes (Join l m (term_at bank p) (term_at bank x) (term_at bank y)) →
      AddsLine (after word.Join (number l ∷ number m ∷ number i ∷ number j ∷ number k ∷ [])) old new → IsWriting bank (with_line frame c) new
  join_written l m p x y l_fits m_fits first second third i j k of_p of_x of_y concluded adds =
      let pn : ℕ = number_in old.terms p.0 in
      let xn : ℕ = number_in old.terms x.0 in
      let yn : ℕ = number_in old.terms y.0 in
      let fields : List Field = number l ∷ number m ∷ number pn ∷ number xn ∷ number yn ∷ [] in
      let read : join_rule block fields ≡ Some (Join l m (term_at bank p) (term_at bank x) (term_at bank y)) =
      ap (λ (o : Option Term). o >>= λ p. block_term_at block xn >>= λ x. block_term_at block yn >>= λ y. Some (Join l m p x y)) (term_number bank frame old v p first)
      ∙ ap (λ (o : Option Term). o >>= λ x. block_term_at block yn >>= λ y. Some (Join l m (term_at bank p) x y)) (term_number bank frame old v x second)
      ∙ ap (λ (o : Option Term). o >>= λ y. Some (Join l m (term_at bank p) (term_at bank x) y)) (term_number bank frame old v y third) in
      let whole : AddsLine (after word.Join fields) old new =
      subst (λ i. AddsLine (after word.Join (number l ∷ number m ∷ number i ∷ number xn ∷ number yn ∷ [])) old new) of_p
      (subst (λ j. AddsLine (after word.Join (number l ∷ number m ∷ number i ∷ number j ∷ number yn ∷ [])) old new) of_x
      (subst (λ k. AddsLine (after word.Join (number l ∷ number m ∷ number i ∷ number j ∷ number k ∷ [])) old new) of_y adds)) in
      rule_written (after word.Join fields) (join_rule block fields) (Join l m (term_at bank p) (term_at bank x) (term_at bank y))
      (l_fits, (m_fits, (term_fits bank frame old v p first, (term_fits bank frame old v x second, (term_fits bank frame old v y third, tt))))) refl read concluded whole

  pub first_split_written : (l k : ℕ) → l < 2 ^ 64 → k < 2 ^ 64 → Concludes (SplitFirst l k) → AddsLine (after word.Split (number l ∷ number k ∷ number 1 ∷ [])) old new → IsWriting bank (with_line frame c) new
  first_split_written l k l_fits k_fits concluded adds =
      rule_written (after word.Split (number l ∷ number k ∷ number 1 ∷ [])) (Some (SplitFirst l k)) (SplitFirst l k) (l_fits, (k_fits, (omega arith, tt))) refl refl concluded adds

  pub second_split_written : (l k : ℕ) → l < 2 ^ 64 → k < 2 ^ 64 → Concludes (SplitSecond l k) → AddsLine (after word.Split (number l ∷ number k ∷ number 2 ∷ [])) old new → IsWriting bank (with_line frame c) new
  second_split_written l k l_fits k_fits concluded adds =
      rule_written (after word.Split (number l ∷ number k ∷ number 2 ∷ [])) (Some (SplitSecond l k)) (SplitSecond l k) (l_fits, (k_fits, (omega arith, tt))) refl refl concluded adds

  pub not_not_written : (l k : ℕ) → l < 2 ^ 64 → k < 2 ^ 64 → Concludes (NotNot l k) → AddsLine (after word.NotNot (number l ∷ number k ∷ [])) old new → IsWriting bank (with_line frame c) new
  not_not_written l k l_fits k_fits concluded adds =
      rule_written (after word.NotNot (number l ∷ number k ∷ [])) (Some (NotNot l k)) (NotNot l k) (l_fits, (k_fits, tt)) refl refl concluded adds

  pub value_written : (t : TermId) (n : ℕ) → IsWritten old t → n ≡ number_in old.terms t.0 → Concludes (Value (term_at bank t)) → AddsLine (after word.Value (number n ∷ [])) old new → IsWriting bank (with_line frame c) new
  value_written t n written same concluded adds =
      let k : ℕ = number_in old.terms t.0 in
      rule_written (after word.Value (number k ∷ [])) (block_term_at block k >>= λ t. Some (Value t)) (Value (term_at bank t)) (term_fits bank frame old v t written, tt) refl
      (ap (λ (o : Option Term). o >>= λ t. Some (Value t)) (term_number bank frame old v t written)) concluded
      (subst (λ n. AddsLine (after word.Value (number n ∷ [])) old new) same adds)

  pub replace_written : (l k : ℕ) (places copy : List ℕ) (t : TermId) (n : ℕ) (s : Sign) → l < 2 ^ 64 → k < 2 ^ 64 → All (λ p. p < 2 ^ 64) places → copy ≡ places → IsWritten old t → n ≡ number_in old.terms t.0 →
      Concludes (Replace l k places (term_at bank t) (side_of s)) → AddsLine (after word.Replace (number l ∷ number k ∷ path copy ∷ number n ∷ sign s ∷ [])) old new → IsWriting bank (with_line frame c) new
  replace_written l k places copy t n s l_fits k_fits fit copied written same concluded adds =
      let m : ℕ = number_in old.terms t.0 in
      let fields : List Field = number l ∷ number k ∷ path places ∷ number m ∷ sign s ∷ [] in
      let whole : AddsLine (after word.Replace fields) old new =
      subst (λ ps. AddsLine (after word.Replace (number l ∷ number k ∷ path ps ∷ number m ∷ sign s ∷ [])) old new) copied
      (subst (λ n. AddsLine (after word.Replace (number l ∷ number k ∷ path copy ∷ number n ∷ sign s ∷ [])) old new) same adds) in
      rule_written (after word.Replace fields) (replace_rule block fields) (Replace l k places (term_at bank t) (side_of s))
      (l_fits, (k_fits, (places_spelled (line_clause frame) frame.history l k places (term_at bank t) (side_of s) c fit concluded.clause, (term_fits bank frame old v t written, (tt, tt))))) refl
      (ap (λ (o : Option Term). o >>= λ t. Some (Replace l k places t (side_of s))) (term_number bank frame old v t written)) concluded whole
