-- The lines of a recursive definition, written: that of its function before the block, and its measure and its own after it.
use Rattle.std.proofs.Common.{◌≡◌, ℕ, ◌<◌, ◌^◌, ◌==◌, ◌&&◌, Bool, true, Option, Some, None, zero, List, [], ◌∷◌, ◌++◌, length, refl, sym, ap, ◌∙◌, subst, arith}
use Rattle.std.proofs.lemmas.Bool.{lt-ltb}
use Rattle.std.proofs.lemmas.Bool.Decides.{Decides-eqb}
use Rattle.std.proofs.lemmas.Slice.Eq.{bytes_eq-Decides}
use Rattle.std.specs.Prelude.{nat_eq, nat_lt, All, not, is_some, bytes_eq}
use Rattle.std.specs.List.{flat_map}
use Rattle.std.specs.HashMap.{get}
use Rattle.nq_logtext.specs.Fields.{number, name, of_number}
use Rattle.nq_logtext.specs.Lines.{HasKinds}
use Rattle.nq_logtext.specs.Reading.{◌>>=◌}
use Rattle.nq_logtext.specs.Views.{one_number}
use Rattle.nq_logtext.specs.declared.word.Word.TheVariants as word
use Rattle.nq_logic.specs.Terms.{Name, Symbol, Term, Each}
use Rattle.nq_logic.specs.Words.{call1}
use Rattle.nq_logic.specs.Histories.{History, Part, Defines}
use Rattle.nq_logic.specs.Names.{are_distinct, is_in_use}
use Rattle.nq_logic.specs.Admissible.{mentions, has_variables, Call, calls_of, obligation}
use Rattle.nq_bank.specs.declared.node.Sym.{Sym}
use Rattle.nq_bank.specs.declared.node.TermId.{TermId}
use Rattle.nq_bank.specs.Content.{Content, term_at}
use Rattle.nq_bank.specs.Shells.{texts_at}
use Rattle.nq_bank.specs.Soundness.{IsSound}
use Rattle.nq_bank.proofs.NodesLemmas.{All-head, All-tail}
use Rattle.nq_proof.specs.Rules.{has_only}
use Rattle.nq_log.specs.States.{CaseLine, MeasureLine, Block, State, Claim, Claims, Adds, Continues, start_of, is_empty, only_when, has_line, have_lines, has_term_at, term_at as block_term_at, variables_at}
use Rattle.nq_log.specs.Fields.{numbers_in as numbers_read}
use Rattle.nq_log.specs.Sizes.{is_small}
use Rattle.nq_log.specs.ClosingLines.{has_room, introduces, are_falls, is_measure, is_measured, is_definition, new_definition}
use Rattle.nq_log.specs.Logs.{step, continued, claimed}
use Rattle.nq_block.specs.declared.writer.Writer.{Writer}
use Rattle.nq_block.specs.Names.{HasSymbols}
use Rattle.nq_block.specs.declared.closing.Closing.{Closing}
use Rattle.nq_block.specs.Closings.{AreFalls, CanRecur, introduced_by}
use Rattle.nq_block.specs.Writing.{IsDraft, Frame, state_of, line_clause, frame_at_start, IsNew, IsNewFunction, IsFresh, IsWriting, LeadsTo, AddsLine, line_text, function_line, measure_line}
use Rattle.nq_block.proofs.Leading.{leads_first, leads_on, leads_out}
use Rattle.nq_block.proofs.NewFunction.{not_mentioned}
use Rattle.nq_block.proofs.Spelling.{run_read, run_spelled}
use Rattle.nq_block.proofs.RuleLemmas.{after}
use Rattle.nq_block.proofs.InductionLemmas.{shown_line}
use Rattle.nq_block.proofs.ClosingLines.{nothing_waits}

-- ---- the first line

-- what is written of a block that has no terms yet
at_start : (bank : Content) (h : History) (introduced : Option Symbol) (fresh w : Writer) → IsSound bank → HasSymbols h → IsNew h introduced → IsFresh fresh →
    w ≡ record fresh { text = w.text } → LeadsTo w.text (state_of (frame_at_start h introduced) [] []) → IsWriting bank (frame_at_start h introduced) w
at_start bank h introduced fresh w sound names new none same leads =
    let begun : IsWriting bank (frame_at_start h introduced) (record fresh { text = w.text }) =
    record {
      terms = [];
      waiting = [];
      leads = leads;
      cases = refl;
      count = none.count;
      fits = fits;
      of_terms = record { right = λ k n found. absurd (none_found (get nat_eq fresh.terms k) n (none.terms k) found) };
      of_variables = record { right = λ k n found. absurd (none_found (get nat_eq fresh.variables k) n (none.variables k) found) };
      new = new;
      names = names;
      sound = sound;
    } in
    subst (IsWriting bank (frame_at_start h introduced)) (sym same) begun
  where
    fits : fresh.count < 2 ^ 64
    fits = let e = none.count in omega (arith, e)

    none_found : (o : Option ℕ) (n : ℕ) → o ≡ None → o ≡ Some n → ⊥
    none_found o n e f = cc

-- a block that introduces no function has no first line of its own
nothing_begun : (bank : Content) (h : History) (w : Writer) → IsSound bank → HasSymbols h → IsFresh w → IsWriting bank (frame_at_start h None) w
nothing_begun bank h w sound names none = at_start bank h None w w sound names tt none refl (subst (λ t. LeadsTo t (start_of h)) (sym none.text) (leads_first h))

-- so it is with a closing line that introduces none
pub none_begun : (bank : Content) (h : History) (c : Closing) (w : Writer) → introduced_by bank c ≡ None → IsSound bank → HasSymbols h → IsFresh w → IsWriting bank (frame_at_start h (introduced_by bank c)) w
none_begun bank h c w is sound names none = subst (λ (o : Option Symbol). IsWriting bank (frame_at_start h o) w) (sym is) (nothing_begun bank h w sound names none)

pub function_begun : (bank : Content) (h : History) (f : Name) (k : ℕ) (old new : Writer) → IsSound bank → HasSymbols h → IsFresh old → IsNewFunction h (f, k) →
    AddsLine (function_line f k) old new → IsWriting bank (frame_at_start h (Some (f, k))) new
function_begun bank h f k old new sound names none can adds =
    let line = function_line f k in
    let block : Block = (state_of (frame_at_start h (Some (f, k))) [] []).block in
    let taken : step (start_of h) line ≡ Some (Continues block) =
    ap (λ b. continued (only_when (not b && nat_lt k (2 ^ 32)) block)) can.free.unused ∙ ap (λ b. continued (only_when b block)) (lt-ltb k (2 ^ 32) can.arity) in
    let first : LeadsTo old.text (start_of h) = subst (λ t. LeadsTo t (start_of h)) (sym none.text) (leads_first h) in
    let leads : LeadsTo (old.text ++ line_text line) (state_of (frame_at_start h (Some (f, k))) [] []) = leads_on old.text (start_of h) line block first (can.free.symbol, (fits, tt)) taken in
    let text : new.text ≡ old.text ++ line_text line = ap (λ (w : Writer). w.text) adds in
    let with_text : List ℕ → Writer = λ t. record old { text = t } in
    at_start bank h (Some (f, k)) old new sound names can none (adds ∙ ap with_text (sym text)) (subst (λ t. LeadsTo t (state_of (frame_at_start h (Some (f, k))) [] [])) (sym text) leads)
  where
    fits : k < 2 ^ 64
    fits = let e = can.arity in omega (arith, e)

-- ---- the last two lines

-- whether each call has its line, as the definition of a right log asks
falls_told : (frame : Frame) (waiting : List CaseLine) (terms : List Term) (measure : Option MeasureLine) (f : Name) (xs : List Name) (m : Term) (calls : List Call) (rs : List ℕ) → AreFalls (line_clause frame) f xs m calls rs →
    are_falls (record (state_of frame waiting terms).block { measure = measure }) f xs m calls rs ≡ true
falls_told frame waiting terms measure f xs m [] [] falls = refl
falls_told frame waiting terms measure f xs m [] (r ∷ rs) falls = absurd falls
falls_told frame waiting terms measure f xs m (c ∷ calls) [] falls = absurd falls
falls_told frame waiting terms measure f xs m (c ∷ calls) (r ∷ rs) falls =
    let rest : Bool = are_falls (record (state_of frame waiting terms).block { measure = measure }) f xs m calls rs in
    ap (λ b. not b && has_only (line_clause frame r) (obligation f xs m c.tests c.arguments) && rest) falls.0.older
    ∙ ap (λ b. b && rest) falls.0.less
    ∙ falls_told frame waiting terms measure f xs m calls rs falls.1

-- the lines of the calls are there
falls_there : (frame : Frame) (waiting : List CaseLine) (terms : List Term) (f : Name) (xs : List Name) (m : Term) (calls : List Call) (rs : List ℕ) → AreFalls (line_clause frame) f xs m calls rs →
    have_lines (state_of frame waiting terms).block rs ≡ true
falls_there frame waiting terms f xs m [] [] falls = refl
falls_there frame waiting terms f xs m [] (r ∷ rs) falls = absurd falls
falls_there frame waiting terms f xs m (c ∷ calls) [] falls = absurd falls
falls_there frame waiting terms f xs m (c ∷ calls) (r ∷ rs) falls =
    ap (λ b. b && have_lines (state_of frame waiting terms).block rs) (shown_line frame r (obligation f xs m c.tests c.arguments) falls.0.less)
    ∙ falls_there frame waiting terms f xs m calls rs falls.1

each_fits : (rs : List ℕ) → All (λ r. r < 2 ^ 64) rs → Each (λ r. r < 2 ^ 64) rs
each_fits [] fit = tt
each_fits (r ∷ rs) fit = (All-head (λ r. r < 2 ^ 64) r rs fit, each_fits rs (All-tail (λ r. r < 2 ^ 64) r rs fit))

module _ (bank : Content) (frame : Frame) (old mid new : Writer) (v : IsWriting bank frame old) (x : Name) (names : List Sym) (t m : TermId) (o : ℕ) (rs : List ℕ)
    (can : CanRecur frame.history (line_clause frame) x (texts_at bank names) (term_at bank t) (term_at bank m) o rs) where
  abbrev s : State
  s = state_of frame v.waiting v.terms

  abbrev xs : List Name
  xs = texts_at bank names

  abbrev body : Term
  body = term_at bank t

  abbrev measure : Term
  measure = term_at bank m

  abbrev told : ℕ → MeasureLine
  told k = record { measure = k; ordinal = o; falls = rs }

  abbrev measured : ℕ → State
  measured k = record s { block = record s.block { measure = Some (told k) } }

  -- the line of the measure
  measure_taken : (k : ℕ) → block_term_at s.block k ≡ Some measure → step s (measure_line k o rs) ≡ Some (Continues (measured k).block)
  measure_taken k found =
      ap (λ (ns : Option (List ℕ)). continued (ns >>= λ rs. only_when (has_term_at s.block k && has_line s.block o && have_lines s.block rs) (record s.block { measure = Some (record { measure = k; ordinal = o; falls = rs }) }))) (run_read rs)
      ∙ ap (λ (u : Option Term). continued (only_when (is_some u && has_line s.block o && have_lines s.block rs) (measured k).block)) found
      ∙ ap (λ b. continued (only_when (b && have_lines s.block rs) (measured k).block)) (shown_line frame o (call1 "ORDINALP" measure ∷ []) can.is_ordinal)
      ∙ ap (λ b. continued (only_when b (measured k).block)) (falls_there frame v.waiting v.terms x xs measure (calls_of x body) rs can.each_falls)

  pub measure_led : (k : ℕ) → block_term_at s.block k ≡ Some measure → k < 2 ^ 64 → o < 2 ^ 64 → All (λ r. r < 2 ^ 64) rs → AddsLine (measure_line k o rs) old mid → LeadsTo mid.text (measured k)
  measure_led k found k_fits o_fits fit adds =
      let line = measure_line k o rs in
      subst (λ t. LeadsTo t (measured k)) (sym (ap (λ (w : Writer). w.text) adds))
      (leads_on old.text s line (measured k).block v.leads (k_fits, (o_fits, run_spelled rs (each_fits rs fit))) (measure_taken k found))

  -- what the definition of a right log asks of the definition
  is_right : (k : ℕ) → frame.introduced ≡ Some (x, length xs) → block_term_at s.block k ≡ Some measure → is_definition (measured k) x xs body ≡ true
  is_right k introduced found =
      let calls : List Call = calls_of x body in
      let falls : Bool = are_falls (measured k).block x xs measure calls rs in
      let ordinal : Bool = has_only (line_clause frame o) (call1 "ORDINALP" measure ∷ []) in
      let tail : Bool = is_measured (measured k).block x xs body (mentions x body) (Some (told k)) in
      let name_same : bytes_eq x x ≡ true = (bytes_eq-Decides x x).1 refl in
      let arity_same : (length xs == length xs) ≡ true = (Decides-eqb (length xs) (length xs)).1 refl in
      ap (λ (i : Option Symbol). introduces i x (length xs) && are_distinct xs && has_variables xs body && tail) introduced
      ∙ ap (λ b. b && (length xs == length xs) && are_distinct xs && has_variables xs body && tail) name_same
      ∙ ap (λ b. b && are_distinct xs && has_variables xs body && tail) arity_same
      ∙ ap (λ b. b && has_variables xs body && tail) can.distinct
      ∙ ap (λ b. b && tail) can.within
      ∙ ap (λ b. is_measured (measured k).block x xs body b (Some (told k))) can.recursive
      ∙ ap (is_measure (measured k).block x xs body rs o) found
      ∙ ap (λ b. b && not (mentions x measure) && ordinal && falls) can.measure_within
      ∙ ap (λ b. not b && ordinal && falls) (not_mentioned frame.history x measure zero can.free.unused can.measure_over.over)
      ∙ ap (λ b. b && falls) can.is_ordinal
      ∙ falls_told frame v.waiting v.terms (Some (told k)) x xs measure calls rs can.each_falls

  abbrev claim : Claim
  claim = Adds (Defines (record { function = x; formals = xs; body = body; measure = Some measure }))

  -- the line of the definition, whose body has number n and whose formals have these
  definition_taken : (n k : ℕ) (ns : List ℕ) → frame.introduced ≡ Some (x, length xs) → frame.parts ≡ [] → frame.cases ≡ [] → block_term_at s.block k ≡ Some measure → block_term_at s.block n ≡ Some body → variables_at s.block ns ≡ Some xs →
      step (measured k) (after word.Defn (name x ∷ number n ∷ flat_map one_number ns)) ≡ Some (Claims claim)
  definition_taken n k ns introduced parts cases found found_body found_names =
      let none : v.waiting ≡ [] = nothing_waits s.block v.waiting (v.cases ∙ ap (λ cs. Some ([], cs)) cases) in
      let defined : Term → List Name → Option Claim = λ body xs.
      only_when (is_empty frame.parts && is_empty v.waiting && has_room frame.history && not (is_in_use x frame.history) && nat_lt (length xs) (2 ^ 32) && is_small body && is_definition (measured k) x xs body)
      (Adds (Defines (new_definition (measured k).block x xs body))) in
      let c : Claim = Adds (Defines (new_definition (measured k).block x xs body)) in
      let tail : Bool = is_definition (measured k) x xs body in
      ap (λ (u : Option Term). claimed (u >>= λ body. numbers_read (flat_map one_number ns) >>= λ ns. variables_at (measured k).block ns >>= defined body)) found_body
      ∙ ap (λ (ms : Option (List ℕ)). claimed (ms >>= λ ns. variables_at (measured k).block ns >>= defined body)) (run_read ns)
      ∙ ap (λ (ys : Option (List Name)). claimed (ys >>= defined body)) (variables_same ns ∙ found_names)
      ∙ ap (λ (ps : List Part). claimed (only_when (is_empty ps && is_empty v.waiting && has_room frame.history && not (is_in_use x frame.history) && nat_lt (length xs) (2 ^ 32) && is_small body && tail) c)) parts
      ∙ ap (λ (w : List CaseLine). claimed (only_when (is_empty w && has_room frame.history && not (is_in_use x frame.history) && nat_lt (length xs) (2 ^ 32) && is_small body && tail) c)) none
      ∙ ap (λ b. claimed (only_when (b && not (is_in_use x frame.history) && nat_lt (length xs) (2 ^ 32) && is_small body && tail) c)) can.free.room
      ∙ ap (λ b. claimed (only_when (not b && nat_lt (length xs) (2 ^ 32) && is_small body && tail) c)) can.free.unused
      ∙ ap (λ b. claimed (only_when (b && is_small body && tail) c)) (lt-ltb (length xs) (2 ^ 32) can.count)
      ∙ ap (λ b. claimed (only_when (b && tail) c)) can.small
      ∙ ap (λ b. claimed (only_when b c)) (is_right k introduced found)
      ∙ ap (λ (u : Option Term). Some (Claims (Adds (Defines (record { function = x; formals = xs; body = body; measure = u }))))) found
    where
      variables_same : (ns : List ℕ) → variables_at (measured k).block ns ≡ variables_at s.block ns
      variables_same [] = refl
      variables_same (n ∷ ns) = rw (variables_same ns) refl

  -- the block, where the definition's line follows that of its measure
  pub definition_closed : (n k : ℕ) (ns : List ℕ) → frame.introduced ≡ Some (x, length xs) → frame.parts ≡ [] → frame.cases ≡ [] → block_term_at s.block k ≡ Some measure → block_term_at s.block n ≡ Some body → variables_at s.block ns ≡ Some xs →
      n < 2 ^ 64 → HasKinds (of_number ∷ []) [] (flat_map one_number ns) → LeadsTo mid.text (measured k) → AddsLine (after word.Defn (name x ∷ number n ∷ flat_map one_number ns)) mid new → IsDraft frame.history claim new.text
  definition_closed n k ns introduced parts cases found found_body found_names n_fits ns_fit leads adds =
      let line = after word.Defn (name x ∷ number n ∷ flat_map one_number ns) in
      subst (IsDraft frame.history claim) (sym (ap (λ (w : Writer). w.text) adds))
      (leads_out mid.text (measured k) line claim leads (can.free.symbol, (n_fits, ns_fit)) (definition_taken n k ns introduced parts cases found found_body found_names))
