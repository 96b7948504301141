-- Lines of terms and of rules, written on a frame.
use Rattle.std.proofs.Common.{◌≡◌, ℕ, ◌+◌, ◌&&◌, Bool, true, false, Option, Some, List, [], ◌∷◌, ◌++◌, length, refl, sym, ap, ◌∙◌, subst, length-append}
use Rattle.std.specs.Prelude.{nat_eq, not, All}
use Rattle.std.specs.List.{flat_map}
use Rattle.std.specs.HashMap.{Updates}
use Rattle.std.proofs.lemmas.Bool.{le-leb}
use Rattle.nq_logtext.specs.Fields.{name, numeral}
use Rattle.nq_logtext.specs.Lines.{Line, IsSpellable}
use Rattle.nq_logtext.specs.Views.{one_number}
use Rattle.nq_logtext.specs.Reading.{◌>>=◌}
use Rattle.nq_logtext.specs.declared.word.Word.TheVariants as word
use Rattle.nq_logic.specs.Terms.{Name, Term, Variable, Function, call}
use Rattle.nq_logic.specs.Words.{numeral as numeral_term}
use Rattle.nq_logic.specs.Sizes.{depth_of, depth_limit}
use Rattle.nq_logic.specs.Names.{has_name, constant_names}
use Rattle.nq_bank.specs.declared.node.TermId.{TermId}
use Rattle.nq_bank.specs.Content.{Content, Stands, term_at, terms_at}
use Rattle.nq_bank.specs.Soundness.{IsSound}
use Rattle.nq_bank.proofs.NodesLemmas.{All-head, All-tail}
use Rattle.nq_proof.specs.Clauses.{Clause}
use Rattle.nq_proof.specs.Logs.{has_symbol}
use Rattle.nq_proof.specs.Rules.{Rule, conclusion}
use Rattle.nq_log.specs.Sizes.{is_shallow, are_shallow}
use Rattle.nq_log.specs.States.{CaseLine, State, Step, Block, Continues, numbered, only_when, clause_at, terms_at as block_terms_at}
use Rattle.nq_log.specs.RuleLines.{with_clause, rule_line}
use Rattle.nq_log.specs.Logs.{step, continued}
use Rattle.nq_block.specs.declared.writer.Writer.{Writer}
use Rattle.nq_block.specs.Writing.{Frame, Concludes, frame_symbols, block_of, state_of, with_line, LeadsTo, AreNumbers, term_of, variable_of, IsWriting, AddsTerm, AddsLine, line_text}
use Rattle.nq_block.proofs.Leading.{leads_on}
use Rattle.nq_block.proofs.Numbering.{numbered_last, numbers_kept, number_added}
use Rattle.nq_block.proofs.Spelling.{run_read}
use Rattle.nq_block.proofs.Waiting.{grouped_kept}

pub shallow : (bank : Content) (t : TermId) → IsSound bank → Stands bank t → is_shallow (term_at bank t) ≡ true
shallow bank t w stands = le-leb (depth_of (term_at bank t)) depth_limit (w.shallow t.0 (Function []) stands)

pub all_shallow : (bank : Content) (ids : List TermId) → IsSound bank → All (Stands bank) ids → are_shallow (terms_at bank ids) ≡ true
all_shallow bank [] w stand = refl
all_shallow bank (t ∷ ids) w stand = rw (shallow bank t w (All-head (Stands bank) t ids stand), all_shallow bank ids w (All-tail (Stands bank) t ids stand)) refl

-- ---- the lines of terms

abbrev pub adds_term : Frame → List CaseLine → List Term → Term → Option Step
adds_term frame waiting terms t = Some (Continues (block_of frame waiting (terms ++ (t ∷ []))))

pub variable_step : (frame : Frame) (waiting : List CaseLine) (terms : List Term) (x : Name) → has_name x constant_names ≡ false →
    step (state_of frame waiting terms) (record { word = word.Variable; fields = name x ∷ [] }) ≡ adds_term frame waiting terms (Variable x)
variable_step frame waiting terms x other = ap (λ b. continued (only_when (not b) (block_of frame waiting (terms ++ (Variable x ∷ []))))) other

pub numeral_step : (frame : Frame) (waiting : List CaseLine) (terms : List Term) (n : ℕ) → step (state_of frame waiting terms) (record { word = word.Numeral; fields = numeral n ∷ [] }) ≡ adds_term frame waiting terms (numeral_term n)
numeral_step frame waiting terms n = refl

pub call_step : (frame : Frame) (waiting : List CaseLine) (terms : List Term) (f : Name) (ns : List ℕ) (ts : List Term) → block_terms_at (block_of frame waiting terms) ns ≡ Some ts →
    has_symbol f (length ts) (frame_symbols frame) ≡ true → is_shallow (call f ts) ≡ true →
    step (state_of frame waiting terms) (record { word = word.Call; fields = name f ∷ flat_map one_number ns }) ≡ adds_term frame waiting terms (call f ts)
call_step frame waiting terms f ns ts found symbol low =
    let when : List Term → Option Block = λ (ts : List Term). only_when (has_symbol f (length ts) (frame_symbols frame) && is_shallow (call f ts)) (block_of frame waiting (terms ++ (call f ts ∷ []))) in
    ap (λ (o : Option (List ℕ)). continued (o >>= λ ns. block_terms_at (block_of frame waiting terms) ns >>= when)) (run_read ns)
    ∙ ap (λ (o : Option (List Term)). continued (o >>= when)) found
    ∙ ap (λ (b : Bool). continued (only_when (b && is_shallow (call f ts)) (block_of frame waiting (terms ++ (call f ts ∷ []))))) symbol
    ∙ ap (λ (b : Bool). continued (only_when b (block_of frame waiting (terms ++ (call f ts ∷ []))))) low

one_longer : {X : Type 0} (xs : List X) (x : X) → length (xs ++ x ∷ []) ≡ length xs + 1
one_longer xs x = length-append xs (x ∷ [])

module _ (bank : Content) (frame : Frame) (old new : Writer) (line : Line) (w : IsWriting bank frame old) where
  -- what a line leads to that gives a term
  leads_to_term : (t : Term) → IsSpellable line → step (state_of frame w.waiting w.terms) line ≡ adds_term frame w.waiting w.terms t → AddsTerm line old new → LeadsTo new.text (state_of frame w.waiting (w.terms ++ (t ∷ [])))
  leads_to_term t spellable taken adds =
      subst (λ text. LeadsTo text (state_of frame w.waiting (w.terms ++ (t ∷ [])))) (sym adds.text) (leads_on old.text (state_of frame w.waiting w.terms) line (block_of frame w.waiting (w.terms ++ (t ∷ []))) w.leads spellable taken)

  counts : (t : Term) → AddsTerm line old new → new.count ≡ length (w.terms ++ (t ∷ []))
  counts t adds = adds.count ∙ ap (λ n. n + 1) w.count ∙ sym (one_longer w.terms t)

  last : (t : Term) → numbered (w.terms ++ (t ∷ [])) (old.count + 1) ≡ Some t
  last t = subst (λ n. numbered (w.terms ++ (t ∷ [])) (n + 1) ≡ Some t) (sym w.count) (numbered_last w.terms t)

  pub term_written : (k : ℕ) → IsSpellable line → step (state_of frame w.waiting w.terms) line ≡ adds_term frame w.waiting w.terms (term_of bank k) → AddsTerm line old new →
      Updates nat_eq old.terms new.terms k (Some (old.count + 1)) → new.variables ≡ old.variables → IsWriting bank frame new
  term_written k spellable taken adds updates same =
      let t : Term = term_of bank k in
      let terms : List Term = w.terms ++ (t ∷ []) in
      record {
        terms = terms;
        waiting = w.waiting;
        cases = grouped_kept (block_of frame w.waiting w.terms) (t ∷ []) w.waiting ([], frame.cases) w.cases;
        leads = leads_to_term t spellable taken adds;
        count = counts t adds;
        fits = adds.fits;
        of_terms = number_added (term_of bank) terms old.terms new.terms k (old.count + 1) (numbers_kept (term_of bank) w.terms (t ∷ []) old.terms w.of_terms) updates (last t);
        of_variables = subst (AreNumbers (variable_of bank) terms) (sym same) (numbers_kept (variable_of bank) w.terms (t ∷ []) old.variables w.of_variables);
        new = w.new;
        names = w.names;
        sound = w.sound;
      }

  pub variable_written : (k : ℕ) → IsSpellable line → step (state_of frame w.waiting w.terms) line ≡ adds_term frame w.waiting w.terms (variable_of bank k) → AddsTerm line old new →
      Updates nat_eq old.variables new.variables k (Some (old.count + 1)) → new.terms ≡ old.terms → IsWriting bank frame new
  variable_written k spellable taken adds updates same =
      let t : Term = variable_of bank k in
      let terms : List Term = w.terms ++ (t ∷ []) in
      record {
        terms = terms;
        waiting = w.waiting;
        cases = grouped_kept (block_of frame w.waiting w.terms) (t ∷ []) w.waiting ([], frame.cases) w.cases;
        leads = leads_to_term t spellable taken adds;
        count = counts t adds;
        fits = adds.fits;
        of_terms = subst (AreNumbers (term_of bank) terms) (sym same) (numbers_kept (term_of bank) w.terms (t ∷ []) old.terms w.of_terms);
        of_variables = number_added (variable_of bank) terms old.variables new.variables k (old.count + 1) (numbers_kept (variable_of bank) w.terms (t ∷ []) old.variables w.of_variables) updates (last t);
        new = w.new;
        names = w.names;
        sound = w.sound;
      }

  -- a line that gives a clause
  pub line_written : (c : Clause) → IsSpellable line → step (state_of frame w.waiting w.terms) line ≡ Some (Continues (block_of (with_line frame c) w.waiting w.terms)) → AddsLine line old new → IsWriting bank (with_line frame c) new
  line_written c spellable taken adds =
      let grown : IsWriting bank (with_line frame c) (record old { text = old.text ++ line_text line }) =
      record {
        terms = w.terms;
        waiting = w.waiting;
        cases = w.cases;
        leads = leads_on old.text (state_of frame w.waiting w.terms) line (block_of (with_line frame c) w.waiting w.terms) w.leads spellable taken;
        count = w.count;
        fits = w.fits;
        of_terms = w.of_terms;
        of_variables = w.of_variables;
        new = w.new;
        names = w.names;
        sound = w.sound;
      } in
      subst (IsWriting bank (with_line frame c)) (sym adds) grown

-- ---- the lines of rules

-- a rule that is read from a line, and is allowed, gives the line its clause
pub rule_line_is : (frame : Frame) (waiting : List CaseLine) (terms : List Term) (read : Option Rule) (rule : Rule) (c : Clause) → read ≡ Some rule →
    Concludes frame rule c → are_shallow c ≡ true →
    rule_line (state_of frame waiting terms) read ≡ Some (block_of (with_line frame c) waiting terms)
rule_line_is frame waiting terms read rule c is concluded low =
    let s : State = state_of frame waiting terms in
    let after : Rule → Option Block = λ (r : Rule). conclusion frame.history (clause_at s.block) r >>= λ c. only_when (are_shallow c) (with_clause s.block c) in
    ap (λ (o : Option Rule). rule_line s o) is
    ∙ ap (λ (b : Bool). only_when b rule >>= after) concluded.without
    ∙ ap (λ (o : Option Clause). o >>= λ c. only_when (are_shallow c) (with_clause s.block c)) concluded.clause
    ∙ ap (λ (b : Bool). only_when b (with_clause s.block c)) low

pub rule_step : (frame : Frame) (waiting : List CaseLine) (terms : List Term) (read : Option Rule) (rule : Rule) (c : Clause) → read ≡ Some rule →
    Concludes frame rule c → are_shallow c ≡ true →
    continued (rule_line (state_of frame waiting terms) read) ≡ Some (Continues (block_of (with_line frame c) waiting terms))
rule_step frame waiting terms read rule c is concluded low = ap continued (rule_line_is frame waiting terms read rule c is concluded low)
