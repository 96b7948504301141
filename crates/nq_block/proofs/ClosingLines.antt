-- Each closing line, written after a block.
use Rattle.std.proofs.Common.{◌≡◌, ℕ, ◌<◌, ◌^◌, ◌==◌, ◌&&◌, Bool, true, false, Option, Some, None, List, [], ◌∷◌, if◌then◌else◌, map, length, refl, sym, ap, ◌∙◌, subst, arith}
use Rattle.std.proofs.lemmas.Bool.{lt-ltb}
use Rattle.std.specs.Prelude.{All, IsTrue, nat_lt, not, is_some, is_none}
use Rattle.nq_logtext.specs.Fields.{number, name}
use Rattle.nq_logtext.specs.Symbols.{is_symbol}
use Rattle.nq_logtext.specs.Lines.{Line, IsSpellable}
use Rattle.nq_logtext.specs.Reading.{◌>>=◌}
use Rattle.nq_logtext.specs.declared.word.Word.TheVariants as word
use Rattle.nq_logic.specs.Terms.{Name, Symbol, Term}
use Rattle.nq_logic.specs.Histories.{Event, Part, Declaration, Defines, Axiom, Lemma, Toggle}
use Rattle.nq_logic.specs.Ground.{all_events}
use Rattle.nq_logic.specs.Names.{are_distinct, is_in_use, event_in, looked_up}
use Rattle.nq_bank.specs.declared.node.TermId.{TermId}
use Rattle.nq_bank.specs.Content.{Content, term_at}
use Rattle.nq_proof.specs.Rules.{CaseLines, Hypothesis, has_only}
use Rattle.nq_log.specs.States.{CaseLine, CaseOf, HypothesisOf, is_empty, Block, State, Claim, Claims, Grounded, Adds, Undoes, only_when, term_at as block_term_at, variables_at}
use Rattle.nq_log.specs.Sizes.{is_small}
use Rattle.nq_log.specs.RuleLines.{substitution_at, grouped}
use Rattle.nq_log.specs.ClosingLines.{has_room, is_plain, is_free, introduces, is_definition, is_measured, new_definition}
use Rattle.nq_log.specs.Fields.{numbers_in as numbers_read}
use Rattle.nq_logtext.specs.Views.{one_number}
use Rattle.std.specs.List.{flat_map}
use Rattle.nq_logic.specs.Admissible.{mentions, has_variables}
use Rattle.nq_bank.specs.declared.node.Sym.{Sym}
use Rattle.nq_bank.specs.Shells.{texts_at}
use Rattle.nq_block.proofs.Spelling.{run_read}
use Rattle.nq_log.specs.Logs.{step, claimed}
use Rattle.nq_log.proofs.Options.{bound, found_same}
use Rattle.nq_block.specs.declared.writer.Writer.{Writer}
use Rattle.nq_block.specs.Closings.{IsFree, CanAssume, CanShow, CanDefine, CanToggle}
use Rattle.nq_block.specs.Writing.{IsDraft, Frame, state_of, line_clause, IsWriting, IsWritten, IsVariableWritten, AddsLine, number_in}
use Rattle.nq_block.proofs.Leading.{leads_out}
use Rattle.nq_block.proofs.Named.{spelled_name, of_events, event_named}
use Rattle.nq_block.proofs.RuleLemmas.{after, term_number, term_fits, names_found, names_fit}

-- no line waits where no case does
pub nothing_waits : (block : Block) (waiting : List CaseLine) → grouped block waiting ≡ Some ([], []) → waiting ≡ []
nothing_waits block [] e = refl
nothing_waits block (CaseOf q l ∷ waiting) e =
    let a = bound (block_term_at block q) (λ test. grouped block waiting >>= λ g. Some ([], record { test = test; step = l; hypotheses = g.0 } ∷ g.1)) ([], []) e in
    let b = bound (grouped block waiting) (λ g. Some ([], record { test = a.0; step = l; hypotheses = g.0 } ∷ g.1)) ([], []) a.2 in
    absurd (no_case (record { test = a.0; step = l; hypotheses = b.0.0 }) b.0.1 b.2)
  where
    no_case : (c : CaseLines) (cs : List CaseLines) → ◌≡◌ {A = Option (List Hypothesis × List CaseLines)} (Some ([], c ∷ cs)) (Some ([], [])) → ⊥
    no_case c cs e = let both = found_same ([], c ∷ cs) ([], []) e in let same : c ∷ cs ≡ [] = ap (λ (g : List Hypothesis × List CaseLines). g.1) both in cc
nothing_waits block (HypothesisOf r pairs ∷ waiting) e =
    let a = bound (substitution_at block pairs) (λ s. grouped block waiting >>= λ g. Some (record { line = r; pairs = s } ∷ g.0, g.1)) ([], []) e in
    let b = bound (grouped block waiting) (λ g. Some (record { line = r; pairs = a.0 } ∷ g.0, g.1)) ([], []) a.2 in
    absurd (no_hypothesis (record { line = r; pairs = a.0 }) b.0.0 b.0.1 b.2)
  where
    no_hypothesis : (s : Hypothesis) (rest : List Hypothesis) (cs : List CaseLines) → ◌≡◌ {A = Option (List Hypothesis × List CaseLines)} (Some (s ∷ rest, cs)) (Some ([], [])) → ⊥
    no_hypothesis s rest cs e = let both = found_same (s ∷ rest, cs) ([], []) e in let same : s ∷ rest ≡ [] = ap (λ (g : List Hypothesis × List CaseLines). g.0) both in cc

abbrev pub digit : Bool → ℕ
digit b = if b then 1 else 0

module _ (bank : Content) (frame : Frame) (old new : Writer) (v : IsWriting bank frame old) (alone : frame.introduced ≡ None) (parts : frame.parts ≡ []) (cases : frame.cases ≡ []) where
  abbrev s : State
  s = state_of frame v.waiting v.terms

  plain : is_plain s.block ≡ true
  plain =
      let none : v.waiting ≡ [] = nothing_waits s.block v.waiting (v.cases ∙ ap (λ cs. Some ([], cs)) cases) in
      ap (λ (o : Option Symbol). is_none o && is_empty frame.parts && is_empty v.waiting) alone ∙ ap (λ (ps : List Part). is_empty ps && is_empty v.waiting) parts ∙ ap is_empty none

  free : (x : Name) → IsFree frame.history x → is_free s x ≡ true
  free x can =
      ap (λ b. b && has_room frame.history && not (is_in_use x frame.history)) plain
      ∙ ap (λ b. b && not (is_in_use x frame.history)) can.room
      ∙ ap not can.unused

  pub closed : (line : Line) (c : Claim) → IsSpellable line → step s line ≡ Some (Claims c) → AddsLine line old new → IsDraft frame.history c new.text
  closed line c spellable taken adds =
      subst (IsDraft frame.history c) (sym (ap (λ (w : Writer). w.text) adds)) (leads_out old.text s line c v.leads spellable taken)

  claimed_when : (b : Bool) (c : Claim) → b ≡ true → claimed (only_when b c) ≡ Some (Claims c)
  claimed_when b c e = ap (λ b. claimed (only_when b c)) e

  pub bootstrap_closed : AddsLine (after word.BootStrap []) old new → IsDraft frame.history Grounded new.text
  bootstrap_closed adds = closed (after word.BootStrap []) Grounded tt (claimed_when (is_plain s.block) Grounded plain) adds

  pub lemma_closed : (x : Name) (t : TermId) (l n : ℕ) → l < 2 ^ 64 → IsWritten old t → n ≡ number_in old.terms t.0 → CanShow frame.history x (term_at bank t) (line_clause frame l) →
      AddsLine (after word.Lemma (name x ∷ number n ∷ number l ∷ [])) old new → IsDraft frame.history (Adds (Lemma x [] (term_at bank t))) new.text
  lemma_closed x t l n fits written same can adds =
      let k : ℕ = number_in old.terms t.0 in
      let u : Term = term_at bank t in
      let c : Claim = Adds (Lemma x [] u) in
      let taken : step s (after word.Lemma (name x ∷ number k ∷ number l ∷ [])) ≡ Some (Claims c) =
      ap (λ (o : Option Term). claimed (o >>= λ t. only_when (is_free s x && is_small t && has_only (line_clause frame l) (t ∷ [])) (Adds (Lemma x [] t)))) (term_number bank frame old v t written)
      ∙ ap (λ b. claimed (only_when (b && is_small u && has_only (line_clause frame l) (u ∷ [])) c)) (free x can.free)
      ∙ ap (λ b. claimed (only_when (b && has_only (line_clause frame l) (u ∷ [])) c)) can.claimable.small
      ∙ claimed_when (has_only (line_clause frame l) (u ∷ [])) c can.only in
      closed (after word.Lemma (name x ∷ number k ∷ number l ∷ [])) c (can.free.symbol, (term_fits bank frame old v t written, (fits, tt))) taken
      (subst (λ n. AddsLine (after word.Lemma (name x ∷ number n ∷ number l ∷ [])) old new) same adds)

  pub axiom_closed : (x : Name) (t : TermId) (n : ℕ) → IsWritten old t → n ≡ number_in old.terms t.0 → CanAssume frame.history x (term_at bank t) →
      AddsLine (after word.Axiomatize (name x ∷ number n ∷ [])) old new → IsDraft frame.history (Adds (Axiom x [] (term_at bank t))) new.text
  axiom_closed x t n written same can adds =
      let k : ℕ = number_in old.terms t.0 in
      let u : Term = term_at bank t in
      let c : Claim = Adds (Axiom x [] u) in
      let taken : step s (after word.Axiomatize (name x ∷ number k ∷ [])) ≡ Some (Claims c) =
      ap (λ (o : Option Term). claimed (o >>= λ t. only_when (is_free s x && is_small t) (Adds (Axiom x [] t)))) (term_number bank frame old v t written)
      ∙ ap (λ b. claimed (only_when (b && is_small u) c)) (free x can.free)
      ∙ claimed_when (is_small u) c can.claimable.small in
      closed (after word.Axiomatize (name x ∷ number k ∷ [])) c (can.free.symbol, (term_fits bank frame old v t written, tt)) taken
      (subst (λ n. AddsLine (after word.Axiomatize (name x ∷ number n ∷ [])) old new) same adds)

  pub declaration_closed : (x : Name) (k : ℕ) → k < 2 ^ 32 → IsFree frame.history x → AddsLine (after word.Dcl (name x ∷ number k ∷ [])) old new → IsDraft frame.history (Adds (Declaration x k)) new.text
  declaration_closed x k fits can adds =
      let c : Claim = Adds (Declaration x k) in
      let taken : step s (after word.Dcl (name x ∷ number k ∷ [])) ≡ Some (Claims c) =
      ap (λ b. claimed (only_when (b && nat_lt k (2 ^ 32)) c)) (free x can) ∙ claimed_when (nat_lt k (2 ^ 32)) c (lt-ltb k (2 ^ 32) fits) in
      closed (after word.Dcl (name x ∷ number k ∷ [])) c (can.symbol, (omega (arith, fits), tt)) taken adds

  found_event : (x : Name) (h : List Event) → is_some (event_in x h) ≡ true → (e : Event) × (event_in x h ≡ Some e)
  found_event x h e = by_found (event_in x h) refl e
    where
      by_found : (o : Option Event) → event_in x h ≡ o → is_some o ≡ true → (e : Event) × (event_in x h ≡ Some e)
      by_found None is f = absurd cc
      by_found (Some e) is f = (e, is)

  -- an event that is looked up has a spelled name
  looked_up_spelled : (x : Name) → is_some (looked_up x frame.history) ≡ true → IsTrue (is_symbol x)
  looked_up_spelled x found = let e = found_event x (all_events frame.history) found in spelled_name frame.history x v.names (event_named x (all_events frame.history) e.0 e.1)

  pub toggle_closed : (x old_name : Name) (disabled : Bool) (d : ℕ) → d ≡ digit disabled → CanToggle frame.history x old_name →
      AddsLine (after word.Toggle (name x ∷ name old_name ∷ number d ∷ [])) old new → IsDraft frame.history (Adds (Toggle x old_name disabled)) new.text
  toggle_closed x y disabled d same can adds =
      let fields = λ (d : ℕ). name x ∷ name y ∷ number d ∷ [] in
      let c : Claim = Adds (Toggle x y disabled) in
      let taken : step s (after word.Toggle (fields (digit disabled))) ≡ Some (Claims c) =
      ap (λ b. claimed (only_when (b && is_some (looked_up y frame.history) && nat_lt (digit disabled) 2) (Adds (Toggle x y (digit disabled == 1))))) (free x can.free)
      ∙ ap (λ b. claimed (only_when (b && nat_lt (digit disabled) 2) (Adds (Toggle x y (digit disabled == 1))))) can.event
      ∙ told disabled in
      closed (after word.Toggle (fields (digit disabled))) c (can.free.symbol, (looked_up_spelled y can.event, (small disabled, tt))) taken
      (subst (λ d. AddsLine (after word.Toggle (fields d)) old new) same adds)
    where
      told : (b : Bool) → claimed (only_when (nat_lt (digit b) 2) (Adds (Toggle x y (digit b == 1)))) ≡ Some (Claims (Adds (Toggle x y b)))
      told true = refl
      told false = refl

      small : (b : Bool) → digit b < 2 ^ 64
      small true = omega arith
      small false = omega arith

  pub undo_closed : (x : Name) → is_some (event_in x frame.history) ≡ true → AddsLine (after word.Undo (name x ∷ [])) old new → IsDraft frame.history (Undoes x) new.text
  undo_closed x found adds =
      let c : Claim = Undoes x in
      let taken : step s (after word.Undo (name x ∷ [])) ≡ Some (Claims c) =
      ap (λ b. claimed (only_when (b && is_some (event_in x frame.history)) c)) plain ∙ claimed_when (is_some (event_in x frame.history)) c found in
      let e = found_event x frame.history found in
      closed (after word.Undo (name x ∷ [])) c (spelled_name frame.history x v.names (of_events frame.history x (event_named x frame.history e.0 e.1)), tt) taken adds

  pub definition_closed : (x : Name) (names : List Sym) (t : TermId) (n : ℕ) (ns : List ℕ) → IsWritten old t → n ≡ number_in old.terms t.0 → All (IsVariableWritten old) names → ns ≡ map (λ s. number_in old.variables s.0) names →
      CanDefine frame.history x (texts_at bank names) (term_at bank t) → AddsLine (after word.Defn (name x ∷ number n ∷ flat_map one_number ns)) old new →
      IsDraft frame.history (Adds (Defines (record { function = x; formals = texts_at bank names; body = term_at bank t; measure = None }))) new.text
  definition_closed x names t n ns written same_body all_written same_formals can adds =
      let k : ℕ = number_in old.terms t.0 in
      let ms : List ℕ = map (λ s. number_in old.variables s.0) names in
      let u : Term = term_at bank t in
      let xs : List Name = texts_at bank names in
      let c : Claim = Adds (Defines (record { function = x; formals = xs; body = u; measure = None })) in
      let none : v.waiting ≡ [] = nothing_waits s.block v.waiting (v.cases ∙ ap (λ cs. Some ([], cs)) cases) in
      let defined : Term → List Name → Option Claim = λ body xs.
      only_when (is_empty frame.parts && is_empty v.waiting && has_room frame.history && not (is_in_use x frame.history) && nat_lt (length xs) (2 ^ 32) && is_small body && is_definition s x xs body)
      (Adds (Defines (new_definition s.block x xs body))) in
      let after_body : Term → Option Claim = λ body. numbers_read (flat_map one_number ms) >>= λ ns. variables_at s.block ns >>= defined body in
      let tail : Bool = is_definition s x xs u in
      let right : is_definition s x xs u ≡ true =
      ap (λ (o : Option Symbol). introduces o x (length xs) && are_distinct xs && has_variables xs u && is_measured s.block x xs u (mentions x u) None) alone
      ∙ ap (λ b. b && has_variables xs u && is_measured s.block x xs u (mentions x u) None) can.distinct
      ∙ ap (λ b. b && is_measured s.block x xs u (mentions x u) None) can.within
      ∙ ap (λ b. is_measured s.block x xs u b None) can.plain in
      let taken : step s (after word.Defn (name x ∷ number k ∷ flat_map one_number ms)) ≡ Some (Claims c) =
      ap (λ (o : Option Term). claimed (o >>= after_body)) (term_number bank frame old v t written)
      ∙ ap (λ (o : Option (List ℕ)). claimed (o >>= λ ns. variables_at s.block ns >>= defined u)) (run_read ms)
      ∙ ap (λ (o : Option (List Name)). claimed (o >>= defined u)) (names_found bank frame old v names all_written)
      ∙ ap (λ (ps : List Part). claimed (only_when (is_empty ps && is_empty v.waiting && has_room frame.history && not (is_in_use x frame.history) && nat_lt (length xs) (2 ^ 32) && is_small u && tail) c)) parts
      ∙ ap (λ (w : List CaseLine). claimed (only_when (is_empty w && has_room frame.history && not (is_in_use x frame.history) && nat_lt (length xs) (2 ^ 32) && is_small u && tail) c)) none
      ∙ ap (λ b. claimed (only_when (b && not (is_in_use x frame.history) && nat_lt (length xs) (2 ^ 32) && is_small u && tail) c)) can.free.room
      ∙ ap (λ b. claimed (only_when (not b && nat_lt (length xs) (2 ^ 32) && is_small u && tail) c)) can.free.unused
      ∙ ap (λ b. claimed (only_when (b && is_small u && tail) c)) (lt-ltb (length xs) (2 ^ 32) can.count)
      ∙ ap (λ b. claimed (only_when (b && tail) c)) can.claimable.small
      ∙ claimed_when tail c right in
      closed (after word.Defn (name x ∷ number k ∷ flat_map one_number ms)) c (can.free.symbol, (term_fits bank frame old v t written, names_fit bank frame old v names all_written)) taken
      (subst (λ n. AddsLine (after word.Defn (name x ∷ number n ∷ flat_map one_number ms)) old new) same_body
      (subst (λ ns. AddsLine (after word.Defn (name x ∷ number n ∷ flat_map one_number ns)) old new) same_formals adds))
