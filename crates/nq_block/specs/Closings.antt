-- What the closing line of a block claims, and when it may stand.
use Rattle.std.specs.Prelude.{◌≡◌, ◌<◌, ◌^◌, ℕ, ⊤, IsTrue, All, true, false, is_some, Option, Some, None, bytes_eq, codes, List, [], ◌∷◌, length}
use Rattle.nq_logtext.specs.Symbols.{is_symbol}
use Rattle.nq_logic.specs.Terms.{Name, Symbol, Term, Each, substituted}
use Rattle.nq_logic.specs.Words.{call1}
use Rattle.nq_logic.specs.Histories.{History, Shell, Part, AddShell, Declaration, Defines, Axiom, Lemma, Toggle}
use Rattle.nq_logic.specs.Ground.{symbols_of}
use Rattle.nq_logic.specs.Names.{is_in_use, are_distinct, event_in, looked_up}
use Rattle.nq_logic.specs.Admissible.{mentions, has_variables, Call, calls_of, matched, obligation}
use Rattle.nq_logic.specs.ShellPrinciple.{listed}
use Rattle.nq_bank.specs.Shells.{texts_at, shell_at, ShellStands}
use Rattle.nq_bank.specs.declared.node.Sym.{Sym}
use Rattle.nq_bank.specs.declared.node.TermId.{TermId}
use Rattle.nq_bank.specs.Content.{Content, Stands, IsNamed, text_at, term_at}
use Rattle.nq_proof.specs.Clauses.{Clause}
use Rattle.nq_proof.specs.Rules.{has_only}
use Rattle.nq_history.specs.declared.entry.Entry.{Entry}
use Rattle.nq_history.specs.Events.{events_at}
use Rattle.nq_kernel.specs.declared.rule.Line.{Line}
use Rattle.nq_kernel.specs.Meaning.{clause_at}
use Rattle.nq_kernel.specs.Over.{IsTermOf, IsVariable}
use Rattle.nq_log.specs.States.{Claim, Grounded, Adds, Undoes}
use Rattle.nq_log.specs.Sizes.{is_small}
use Rattle.nq_log.specs.ClosingLines.{has_room, is_shell_ok}
use Rattle.nq_block.specs.declared.closing.Measured.{Measured}
use Rattle.nq_block.specs.declared.closing.Closing.{Closing}
use Rattle.nq_block.specs.declared.closing.Closing.TheVariants as closing

-- the definition of a function that does not call itself
abbrev pub defined_at : Content → Sym → List Sym → TermId → Claim
defined_at bank name formals body = Adds (Defines (record { function = text_at bank name; formals = texts_at bank formals; body = term_at bank body; measure = None }))

-- the definition of a function that calls itself, with its measure
abbrev pub recursion_at : Content → Sym → List Sym → TermId → TermId → Claim
recursion_at bank name formals body measure =
    Adds (Defines (record { function = text_at bank name; formals = texts_at bank formals; body = term_at bank body; measure = Some (term_at bank measure) }))

-- what the closing line claims
abbrev pub claim_at : Content → Closing → Claim
claim_at bank closing.BootStrap = Grounded
claim_at bank (closing.Lemma name t line) = Adds (Lemma (text_at bank name) [] (term_at bank t))
claim_at bank (closing.Axiomatize name t) = Adds (Axiom (text_at bank name) [] (term_at bank t))
claim_at bank (closing.Dcl name arity) = Adds (Declaration (text_at bank name) arity)
claim_at bank (closing.Defn name formals body) = defined_at bank name formals.items body
claim_at bank (closing.Recursion name formals body measured) = recursion_at bank name formals.items body measured.measure
claim_at bank (closing.Shell shell) = Adds (AddShell (shell_at bank shell))
claim_at bank (closing.Toggle name old disabled) = Adds (Toggle (text_at bank name) (text_at bank old) disabled)
claim_at bank (closing.Undo name) = Undoes (text_at bank name)

-- the function that the first line of the block introduces, with its arity
abbrev pub introduced_by : Content → Closing → Option Symbol
introduced_by bank (closing.Recursion name formals body measured) = Some (text_at bank name, length (texts_at bank formals.items))
introduced_by bank c = None

pub record NameAndTerm (bank : Content) (name : Sym) (t : TermId) : Type 0 where
  pub named : IsNamed bank name
  pub stands : Stands bank t

pub record TwoNames (bank : Content) (name old : Sym) : Type 0 where
  pub named : IsNamed bank name
  pub old_named : IsNamed bank old

pub record FunctionNames (bank : Content) (name : Sym) (formals : List Sym) (t : TermId) : Type 0 where
  pub named : IsNamed bank name
  pub formals_named : All (IsNamed bank) formals
  pub stands : Stands bank t

pub record RecursionNames (bank : Content) (name : Sym) (formals : List Sym) (body : TermId) (measured : Measured) : Type 0 where
  pub function : FunctionNames bank name formals body
  pub measure : Stands bank measured.measure

-- the names and terms of the closing line stand in the bank
abbrev pub ClosingStands : Content → Closing → Type 0
ClosingStands bank closing.BootStrap = ⊤
ClosingStands bank (closing.Lemma name t line) = NameAndTerm bank name t
ClosingStands bank (closing.Axiomatize name t) = NameAndTerm bank name t
ClosingStands bank (closing.Dcl name arity) = IsNamed bank name
ClosingStands bank (closing.Defn name formals body) = FunctionNames bank name formals.items body
ClosingStands bank (closing.Recursion name formals body measured) = RecursionNames bank name formals.items body measured
ClosingStands bank (closing.Shell shell) = ShellStands bank shell
ClosingStands bank (closing.Toggle name old disabled) = TwoNames bank name old
ClosingStands bank (closing.Undo name) = IsNamed bank name

-- the name is a symbol that is not in use, and the history has room for one more event
pub record IsFree (h : History) (name : Name) : Type 0 where
  pub symbol : IsTrue (is_symbol name)
  pub unused : is_in_use name h ≡ false
  pub room : has_room h ≡ true

-- a term over the history's functions that is small enough to be claimed
pub record IsClaimable (h : History) (t : Term) : Type 0 where
  pub over : IsTermOf IsVariable (symbols_of h) t
  pub small : is_small t ≡ true

-- an axiom has a free name
pub record CanAssume (h : History) (name : Name) (t : Term) : Type 0 where
  pub free : IsFree h name
  pub claimable : IsClaimable h t

-- so has a lemma, and its line has only its term
pub record CanShow (h : History) (name : Name) (t : Term) (shown : Option Clause) : Type 0 where
  pub free : IsFree h name
  pub claimable : IsClaimable h t
  pub only : has_only shown (t ∷ []) ≡ true

-- the formals of a definition are distinct variables, its body has no others, and does not call the function
pub record CanDefine (h : History) (name : Name) (formals : List Name) (body : Term) : Type 0 where
  pub free : IsFree h name
  pub count : length formals < 2 ^ 32
  pub spelled : Each IsVariable formals
  pub distinct : are_distinct formals ≡ true
  pub claimable : IsClaimable h body
  pub within : has_variables formals body ≡ true
  pub plain : mentions name body ≡ false

-- the line shows that the measure falls at the call, and the measure there does not mention the function
pub record IsFall (lines : ℕ → Option Clause) (f : Name) (xs : List Name) (m : Term) (c : Call) (line : ℕ) : Type 0 where
  pub older : mentions f (substituted (matched xs c.arguments) m) ≡ false
  pub less : has_only (lines line) (obligation f xs m c.tests c.arguments) ≡ true

-- each call has such a line, in their order
abbrev pub AreFalls : (ℕ → Option Clause) → Name → List Name → Term → List Call → List ℕ → Type 0
AreFalls lines f xs m [] [] = ⊤
AreFalls lines f xs m [] (r ∷ rs) = ⊥
AreFalls lines f xs m (c ∷ calls) [] = ⊥
AreFalls lines f xs m (c ∷ calls) (r ∷ rs) = IsFall lines f xs m c r × AreFalls lines f xs m calls rs

-- The formals of a recursive definition are distinct variables, its body has no others, calls the function, and is over the
-- history's functions and the new one. The measure is over the history's functions alone and has no other variables than the
-- formals. One line shows that it is an ordinal, and one for each call of the function in the body that it falls there.
pub record CanRecur (h : History) (lines : ℕ → Option Clause) (name : Name) (formals : List Name) (body m : Term) (ordinal : ℕ) (falls : List ℕ) : Type 0 where
  pub free : IsFree h name
  pub count : length formals < 2 ^ 32
  pub spelled : Each IsVariable formals
  pub distinct : are_distinct formals ≡ true
  pub over : IsTermOf IsVariable ((name, length formals) ∷ symbols_of h) body
  pub small : is_small body ≡ true
  pub within : has_variables formals body ≡ true
  pub recursive : mentions name body ≡ true
  pub measure_over : IsTermOf IsVariable (symbols_of h) m
  pub measure_within : has_variables formals m ≡ true
  pub is_ordinal : has_only (lines ordinal) (call1 "ORDINALP" m ∷ []) ≡ true
  pub each_falls : AreFalls lines name formals m (calls_of name body) falls

-- the names of a part are symbols
pub record IsPartSpelled (part : Part) : Type 0 where
  pub accessor : IsTrue (is_symbol part.accessor)
  pub recognizers : Each (λ r. IsTrue (is_symbol r)) (listed part.restriction)
  pub default : IsTrue (is_symbol part.default)

-- the name of a base is a symbol, and not the one that stands for no base
abbrev pub IsBaseSpelled : Option Name → Type 0
IsBaseSpelled None = ⊤
IsBaseSpelled (Some b) = IsTrue (is_symbol b) × (bytes_eq b (codes "NIL") ≡ false)

-- the Shell Principle accepts the shell, the limits leave room for it, and its names are symbols
pub record CanAdd (h : History) (s : Shell) : Type 0 where
  pub room : has_room h ≡ true
  pub accepted : is_shell_ok h s ≡ true
  pub constructor_spelled : IsTrue (is_symbol s.constructor)
  pub base_spelled : IsBaseSpelled s.base
  pub recognizer_spelled : IsTrue (is_symbol s.recognizer)
  pub parts_spelled : Each IsPartSpelled s.parts

-- what is disabled or enabled is an event
pub record CanToggle (h : History) (name old : Name) : Type 0 where
  pub free : IsFree h name
  pub event : is_some (looked_up old h) ≡ true

-- the closing line may stand in this history, after lines of which each may stand with its clause
abbrev pub CanCloseAfter : Content → History → (ℕ → Option Clause) → Closing → Type 0
CanCloseAfter bank h lines closing.BootStrap = ⊤
CanCloseAfter bank h lines (closing.Lemma name t line) = CanShow h (text_at bank name) (term_at bank t) (lines line)
CanCloseAfter bank h lines (closing.Axiomatize name t) = CanAssume h (text_at bank name) (term_at bank t)
CanCloseAfter bank h lines (closing.Dcl name arity) = IsFree h (text_at bank name)
CanCloseAfter bank h lines (closing.Defn name formals body) = CanDefine h (text_at bank name) (texts_at bank formals.items) (term_at bank body)
CanCloseAfter bank h lines (closing.Recursion name formals body measured) =
    CanRecur h lines (text_at bank name) (texts_at bank formals.items) (term_at bank body) (term_at bank measured.measure) measured.ordinal measured.falls.items
CanCloseAfter bank h lines (closing.Shell shell) = CanAdd h (shell_at bank shell)
CanCloseAfter bank h lines (closing.Toggle name old disabled) = CanToggle h (text_at bank name) (text_at bank old)
-- what is undone is an event past the ground history
CanCloseAfter bank h lines (closing.Undo name) = is_some (event_in (text_at bank name) h) ≡ true

-- the closing line may stand after the lines of a log
abbrev pub CanClose : Content → List Entry → List Line → Closing → Type 0
CanClose bank history log c = CanCloseAfter bank (events_at bank history) (clause_at bank log) c
