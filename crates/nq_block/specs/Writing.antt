-- A block in writing: which lines it has so far, and which terms have numbers.
use Rattle.std.specs.Prelude.{◌≡◌, ℕ, codes, ◌^◌, ◌<◌, ◌≤◌, ◌+◌, nat_eq, Bool, true, false, is_some, IsSome, ⊤, unwrap_or, Option, Some, None, Result, OnOk, List, [], ◌∷◌, ◌++◌, map, length, take}
use Rattle.std.specs.declared.hash.FoldHasher.{FoldHasher}
use Rattle.std.specs.declared.hash.BuildHasherDefault.{BuildHasherDefault}
use Rattle.std.specs.declared.alloc.AllocError.{AllocError}
use Rattle.std.specs.HashMap.{get, HashMap}
use Rattle.nq_logtext.specs.Lines as grammar
use Rattle.nq_logtext.specs.Lines.{IsSpellable, spelling}
use Rattle.nq_logtext.specs.Fields as field
use Rattle.nq_logtext.specs.Views.{one_number}
use Rattle.std.specs.List.{flat_map}
use Rattle.nq_logtext.specs.declared.line.Binding.{Binding}
use Rattle.nq_logtext.specs.declared.line.Multiple.{Multiple}
use Rattle.nq_logtext.specs.declared.line.Sign.{Sign}
use Rattle.nq_logtext.specs.declared.line.Sign.TheVariants.{Plus, Minus}
use Rattle.nq_logtext.specs.declared.word.Word.TheVariants as word
use Rattle.nq_logic.specs.Terms.{Name, Symbol, Term, Variable, Substitution, Each}
use Rattle.nq_logic.specs.Histories.{History, Part}
use Rattle.nq_logic.specs.Ground.{symbols_of}
use Rattle.nq_bank.specs.declared.node.Sym.{Sym}
use Rattle.nq_bank.specs.declared.node.TermId.{TermId}
use Rattle.nq_bank.specs.Content.{Content, text_at, term_at, terms_at}
use Rattle.nq_bank.specs.Soundness.{IsSound}
use Rattle.nq_bank.specs.Shells.{texts_at}
use Rattle.nq_clause.specs.declared.substitution.Pair.{Pair}
use Rattle.nq_proof.specs.Clauses.{Clause}
use Rattle.nq_proof.specs.Rules.{Hypothesis, CaseLines, Rule, conclusion, pair_terms, rule_terms}
use Rattle.nq_linear_rule.specs.declared.summand.Summand.{Summand}
use Rattle.nq_history.specs.declared.entry.Entry.{Entry}
use Rattle.nq_history.specs.Events.{events_at}
use Rattle.nq_kernel.specs.declared.rule.Line.{Line}
use Rattle.nq_kernel.specs.Over.{IsTermOf, RuleIsOver, pair_names, IsVariable}
use Rattle.nq_log.specs.States.{CaseLine, Block, State, Claim, start_of, numbered, clause_at, introduced_symbols}
use Rattle.nq_log.specs.Sizes.{are_shallow}
use Rattle.nq_log.specs.RuleLines.{grouped, are_without}
use Rattle.nq_log.specs.Blocks.{block_claim, lines_text}
use Rattle.nq_log.specs.Growing.{state_after_lines}
use Rattle.nq_block.specs.declared.writer.Writer.{Writer}
use Rattle.nq_block.specs.declared.closing.Closing.{Closing}
use Rattle.nq_block.specs.declared.closing.Measured.{Measured}
use Rattle.nq_block.specs.Names.{HasSymbols}
use Rattle.nq_block.specs.Closings.{claim_at, defined_at, recursion_at, introduced_by, IsFree, CanDefine, CanRecur, CanCloseAfter}

-- numbers by places
abbrev pub Numbers : Type 0
Numbers = HashMap ℕ ℕ (BuildHasherDefault FoldHasher)

-- What a block stands on apart from its terms: the history, the function that the block introduces, the clauses of its
-- lines, its parts of a shell, and the cases that wait for an induction.
pub record Frame : Type 0 where
  pub history : History
  pub introduced : Option Symbol
  pub clauses : List (Option (List Term))
  pub parts : List Part
  pub cases : List CaseLines

-- the block with these terms, and these lines for its cases
abbrev pub block_of : Frame → List CaseLine → List Term → Block
block_of frame waiting terms = record { introduced = frame.introduced; terms = terms; lines = frame.clauses; parts = frame.parts; cases = waiting; measure = None }

abbrev pub state_of : Frame → List CaseLine → List Term → State
state_of frame waiting terms = record { history = frame.history; block = block_of frame waiting terms }

-- the functions that the block's terms may have
abbrev pub frame_symbols : Frame → List Symbol
frame_symbols frame = introduced_symbols frame.introduced ++ symbols_of frame.history

-- a function that a block may introduce: its name is free
pub record IsNewFunction (h : History) (s : Symbol) : Type 0 where
  pub free : IsFree h s.0
  pub arity : s.1 < 2 ^ 32

-- so is the function that a block introduces, if it does
abbrev pub IsNew : History → Option Symbol → Type 0
IsNew h None = ⊤
IsNew h (Some s) = IsNewFunction h s

-- the clause of line n of the block
abbrev pub line_clause : Frame → ℕ → Option Clause
line_clause frame n = clause_at (block_of frame [] []) n

-- the frame with one more line
abbrev pub with_line : Frame → Clause → Frame
with_line frame c = record frame { clauses = frame.clauses ++ (Some c ∷ []) }

-- the frame with one more part of a shell
abbrev pub with_part : Frame → Part → Frame
with_part frame part = record frame { parts = frame.parts ++ (part ∷ []) }

abbrev pub with_parts : Frame → List Part → Frame
with_parts frame parts = record frame { parts = frame.parts ++ parts }

-- the frame with one more case that waits
abbrev pub with_case : Frame → CaseLines → Frame
with_case frame c = record frame { cases = frame.cases ++ (c ∷ []) }

abbrev pub supposed : ℕ → Substitution → Hypothesis
supposed line s = record { line = line; pairs = s }

abbrev pub with_hypothesis : CaseLines → Hypothesis → CaseLines
with_hypothesis c s = record c { hypotheses = c.hypotheses ++ (s ∷ []) }

abbrev pub with_hypotheses : CaseLines → List Hypothesis → CaseLines
with_hypotheses c ss = record c { hypotheses = c.hypotheses ++ ss }

-- whether a line has this number
abbrev pub has_clause : List (Option (List Term)) → ℕ → Bool
has_clause clauses n = is_some (numbered clauses n)

-- the line of a hypothesis is among these, and its terms and variables can be written
pub record CanSuppose (h : History) (clauses : List (Option (List Term))) (s : Hypothesis) : Type 0 where
  pub line : has_clause clauses s.line ≡ true
  pub terms : Each (IsTermOf IsVariable (symbols_of h)) (pair_terms s.pairs)
  pub names : Each IsVariable (pair_names s.pairs)

-- so it is with a case and its hypotheses
pub record CanDistinguish (h : History) (clauses : List (Option (List Term))) (c : CaseLines) : Type 0 where
  pub line : has_clause clauses c.step ≡ true
  pub test : IsTermOf IsVariable (symbols_of h) c.test
  pub hypotheses : Each (CanSuppose h clauses) c.hypotheses

-- the text is that of lines that lead from the start of a block to this state
pub record LeadsTo (text : List ℕ) (s : State) : Type 0 where
  pub lines : List grammar.Line
  pub spellable : Each IsSpellable lines
  pub state : state_after_lines (start_of s.history) lines ≡ Some s
  pub reads : text ≡ lines_text lines

-- the text is that of a block's lines that end in this claim, before DROP lines are put among them
pub record IsDraft (h : History) (c : Claim) (text : List ℕ) : Type 0 where
  pub lines : List grammar.Line
  pub spellable : Each IsSpellable lines
  pub claims : block_claim (start_of h) lines ≡ Some c
  pub reads : text ≡ lines_text lines

-- each number is that of what stands at its place
pub record AreNumbers (meaning : ℕ → Term) (terms : List Term) (known : Numbers) : Type 0 where
  pub right : (k n : ℕ) → get nat_eq known k ≡ Some n → numbered terms n ≡ Some (meaning k)

abbrev pub term_of : Content → ℕ → Term
term_of bank k = term_at bank (record { 0 = k })

abbrev pub variable_of : Content → ℕ → Term
variable_of bank k = Variable (text_at bank (record { 0 = k }))

-- The lines so far lead to a block on this frame, and each number kept is that of a term of the block.
pub record IsWriting (bank : Content) (frame : Frame) (w : Writer) : Type 0 where
  pub terms : List Term
  pub waiting : List CaseLine
  pub leads : LeadsTo w.text (state_of frame waiting terms)
  pub cases : grouped (block_of frame waiting terms) waiting ≡ Some ([], frame.cases)
  pub count : w.count ≡ length terms
  pub fits : w.count < 2 ^ 64
  pub of_terms : AreNumbers (term_of bank) terms w.terms
  pub of_variables : AreNumbers (variable_of bank) terms w.variables
  pub new : IsNew frame.history frame.introduced
  pub names : HasSymbols frame.history
  pub sound : IsSound bank

-- nothing is written yet
pub record IsFresh (w : Writer) : Type 0 where
  pub terms : (k : ℕ) → get nat_eq w.terms k ≡ None
  pub variables : (k : ℕ) → get nat_eq w.variables k ≡ None
  pub count : w.count ≡ 0
  pub text : w.text ≡ []

-- a block without lines but that of the function that it introduces
abbrev pub frame_at_start : History → Option Symbol → Frame
frame_at_start h introduced = record { history = h; introduced = introduced; clauses = []; parts = []; cases = [] }

-- each term has taken a line, of at least one byte
abbrev pub IsCounted : Writer → Type 0
IsCounted w = w.count ≤ length w.text

-- the term has a number
abbrev pub IsWritten : Writer → TermId → Type 0
IsWritten w t = IsSome (get nat_eq w.terms t.0)

abbrev pub IsVariableWritten : Writer → Sym → Type 0
IsVariableWritten w s = IsSome (get nat_eq w.variables s.0)

-- its number; 0 where it has none
abbrev pub number_in : Numbers → ℕ → ℕ
number_in known k = unwrap_or (get nat_eq known k) 0

pub record IsPairWritten (w : Writer) (pair : Pair) : Type 0 where
  pub variable : IsVariableWritten w pair.variable
  pub term : IsWritten w pair.term

abbrev pub binding_in : Writer → Pair → Binding
binding_in w pair = record { variable = number_in w.variables pair.variable.0; term = number_in w.terms pair.term.0 }

abbrev pub IsSummandWritten : Writer → Summand → Type 0
IsSummandWritten w s = IsWritten w s.literal

-- the sign of an order
abbrev pub sign_if : Bool → Sign
sign_if true = Plus
sign_if false = Minus

abbrev pub multiple_in : Writer → Summand → Multiple
multiple_in w s = record { factor = s.factor; term = number_in w.terms s.literal.0; sign = sign_if s.forwards }

-- what has a number keeps one
pub record Keeps (old new : Writer) : Type 0 where
  pub terms : (t : TermId) → IsWritten old t → IsWritten new t
  pub variables : (s : Sym) → IsVariableWritten old s → IsVariableWritten new s

-- a line as it stands in the text
abbrev pub line_text : grammar.Line → List ℕ
line_text line = spelling line ++ (10 ∷ [])

-- the line of a function that a block introduces
abbrev pub function_line : Name → ℕ → grammar.Line
function_line f k = record { word = word.Function; fields = field.name f ∷ field.number k ∷ [] }

-- the line of a measure, which waits for its definition
abbrev pub measure_line : ℕ → ℕ → List ℕ → grammar.Line
measure_line m o rs = record { word = word.Measure; fields = field.number m ∷ field.number o ∷ flat_map one_number rs }

-- a line was written, and nothing else changed
abbrev pub AddsLine : grammar.Line → Writer → Writer → Type 0
AddsLine line old new = new ≡ record old { text = old.text ++ line_text line }

-- a line was written that gives a term, which has the next number; some place of one of the two tables has it now
pub record AddsTerm (line : grammar.Line) (old new : Writer) : Type 0 where
  pub text : new.text ≡ old.text ++ line_text line
  pub count : new.count ≡ old.count + 1
  pub fits : new.count < 2 ^ 64

-- The clause is the rule's, and no term of the rule has the function that the block introduces.
pub record Concludes (frame : Frame) (rule : Rule) (c : Clause) : Type 0 where
  pub clause : conclusion frame.history (line_clause frame) rule ≡ Some c
  pub without : are_without frame.introduced (rule_terms rule) ≡ true

-- The rule was written as the next line, where it is allowed.
abbrev pub WritesRule : Content → Writer → Result (Unit {0}) AllocError → Writer → Rule → Type 0
WritesRule bank old result new rule =
    (frame : Frame) (c : Clause) → IsWriting bank frame old → frame.cases ≡ [] → RuleIsOver IsVariable (symbols_of frame.history) rule →
    Concludes frame rule c → are_shallow c ≡ true → OnOk result (IsWriting bank (with_line frame c) new)

-- the clauses of lines
abbrev pub clauses_of : Content → List Line → List (Option (List Term))
clauses_of bank lines = map (λ line. Some (terms_at bank line.clause.items)) lines

-- the frame after the first k lines of a log, in a block that introduces this function
abbrev pub frame_after : Content → List Entry → Option Symbol → List Line → ℕ → Frame
frame_after bank history introduced log k = record { history = events_at bank history; introduced = introduced; clauses = clauses_of bank (take k log); parts = []; cases = [] }

-- how a base is spelled: NIL stands for none
abbrev pub base_text : Option Name → Name
base_text None = codes "NIL"
base_text (Some b) = b

-- The line of a definition was written after such a block.
abbrev pub WritesDefinition : Content → Writer → Result (Unit {0}) AllocError → Writer → Sym → List Sym → TermId → Type 0
WritesDefinition bank old result new name formals body =
    (frame : Frame) → IsWriting bank frame old → frame.introduced ≡ None → frame.parts ≡ [] → frame.cases ≡ [] → CanDefine frame.history (text_at bank name) (texts_at bank formals) (term_at bank body) →
    OnOk result (IsDraft frame.history (defined_at bank name formals body) new.text)

-- The lines of a recursive definition and its measure were written after such a block, which introduces the function.
abbrev pub WritesRecursion : Content → Writer → Result (Unit {0}) AllocError → Writer → Sym → List Sym → TermId → Measured → Type 0
WritesRecursion bank old result new name formals body measured =
    (frame : Frame) → IsWriting bank frame old → frame.introduced ≡ Some (text_at bank name, length (texts_at bank formals)) → frame.parts ≡ [] → frame.cases ≡ [] →
    CanRecur frame.history (line_clause frame) (text_at bank name) (texts_at bank formals) (term_at bank body) (term_at bank measured.measure) measured.ordinal measured.falls.items →
    OnOk result (IsDraft frame.history (recursion_at bank name formals body measured.measure) new.text)

-- The closing line was written after a block without parts and cases that introduces what it defines, where it may stand.
abbrev pub WritesClosing : Content → Writer → Result (Unit {0}) AllocError → Writer → Closing → Type 0
WritesClosing bank old result new closing =
    (frame : Frame) → IsWriting bank frame old → frame.introduced ≡ introduced_by bank closing → frame.parts ≡ [] → frame.cases ≡ [] → CanCloseAfter bank frame.history (line_clause frame) closing →
    OnOk result (IsDraft frame.history (claim_at bank closing) new.text)
