-- What is known of a recursive definition while a measure of it is sought, and of what was found.
use Rattle.std.specs.Prelude.{◌≡◌, ◌≤◌, ◌⊎◌, ◌∷◌, [], ⊤, ℕ, All, Option, Some, None, List, length, false}
use Rattle.nq_logic.specs.Terms.{Name, Symbol, Term, Variable, Each, value_at}
use Rattle.nq_logic.specs.Words.{call1}
use Rattle.nq_logic.specs.Sizes.{depth_of}
use Rattle.nq_logic.specs.Histories.{History}
use Rattle.nq_logic.specs.Ground.{symbols_of}
use Rattle.nq_logic.specs.Names.{is_in_use}
use Rattle.nq_logic.specs.Admissible.{mentions, matched, Call}
use Rattle.nq_bank.specs.declared.node.Sym.{Sym}
use Rattle.nq_bank.specs.declared.node.TermId.{TermId}
use Rattle.nq_bank.specs.Content.{Content, Stands, IsNamed, IsIdOf, text_at, term_at, terms_at}
use Rattle.nq_bank.specs.Shells.{texts_at}
use Rattle.nq_arith.specs.Structural.{IsStructuralNest}
use Rattle.nq_history.specs.declared.entry.Entry.{Entry}
use Rattle.nq_history.specs.Events.{events_at}
use Rattle.nq_kernel.specs.declared.work.Work.{Work}
use Rattle.nq_kernel.specs.Growing.{WorkStands}
use Rattle.nq_kernel.specs.Over.{IsVariable, IsTermOf}
use Rattle.nq_kernel.specs.Ready.{IsReady, WorkHolds, body_depth}
use Rattle.nq_lines.specs.Lines.{LineHasOnly}
use Rattle.nq_calls.specs.declared.calls.Site.{Site}
use Rattle.nq_calls.specs.Calls.{SiteStands, site_at, sites_at}
use Rattle.nq_calls.specs.Falls.{smaller_at, obligation_at}
use Rattle.nq_measures.specs.Measures.{ordinal_clause}
use Rattle.nq_measures.specs.declared.judging.Judged.{Judged}
use Rattle.nq_measures.specs.declared.judging.Judged.TheVariants.{Shown, Open}
use Rattle.nq_measures.specs.declared.falls.Owed.{Owed}
use Rattle.nq_measures.specs.declared.evidence.Evidence.{Evidence}
use Rattle.nq_measures.specs.declared.left.Left.{Left}

-- a prover that has learnt the history may be asked over this work
pub record IsSearching (IsLearnt : List Entry → Type 0) (history : List Entry) (work : Work) : Type 0 where
  pub stands : WorkStands history work
  pub learnt : IsLearnt history
  pub ready : IsReady (events_at work.bank history)
  pub holds : WorkHolds history work

-- over these functions, with variables that a log can spell, and no deeper than a body
pub record IsShallowTerm (symbols : List Symbol) (t : Term) : Type 0 where
  pub of : IsTermOf IsVariable symbols t
  pub shallow : depth_of t ≤ body_depth

-- a call of a function of n arguments: its tests are over the history's functions, and its arguments over that one, too
pub record IsCounted (h : History) (f : Name) (n : ℕ) (c : Call) : Type 0 where
  pub tests : Each (IsShallowTerm (symbols_of h)) c.tests
  pub arguments : Each (IsShallowTerm ((f, n) ∷ symbols_of h)) c.arguments

-- a measure that is tried of a function that is not in use; it may mention it
pub record IsTrial (history : List Entry) (bank : Content) (f : Sym) (formals : List Sym) (measure : TermId) : Type 0 where
  pub function : IsNamed bank f
  pub formals_named : All (IsNamed bank) formals
  pub measure_stands : Stands bank measure
  pub unused : is_in_use (text_at bank f) (events_at bank history) ≡ false
  pub over : IsTermOf IsVariable ((text_at bank f, length (texts_at bank formals)) ∷ symbols_of (events_at bank history)) (term_at bank measure)

-- a call of the function, over a bank
pub record IsSiteOf (history : List Entry) (bank : Content) (f : Sym) (formals : List Sym) (s : Site) : Type 0 where
  pub stands : SiteStands bank s
  pub counted : IsCounted (events_at bank history) (text_at bank f) (length (texts_at bank formals)) (site_at bank s)

-- what a call owes to a measure, over a bank
pub record IsOwed (bank : Content) (formals : List Sym) (measure : TermId) (s : Site) (owed : Owed) : Type 0 where
  pub smaller : IsIdOf bank owed.smaller (smaller_at (texts_at bank formals) (term_at bank measure) (site_at bank s))
  pub literals : terms_at bank owed.literals.items ≡ obligation_at (texts_at bank formals) (term_at bank measure) (site_at bank s)
  pub stand : All (Stands bank) owed.literals.items

-- the line of an obligation, if it is shown
abbrev pub line_of : Judged → Option ℕ
line_of (Shown line) = Some line
line_of (Open why) = None

-- the line shows that the measure falls at the call, and the measure there does not mention the function
pub record FallsBy (work : Work) (f : Name) (xs : List Name) (m : Term) (c : Call) (line : ℕ) : Type 0 where
  pub older : mentions f (smaller_at xs m c) ≡ false
  pub less : LineHasOnly work line (obligation_at xs m c)

-- each call has such a line, in their order
abbrev pub AllFallBy : Work → Name → List Name → Term → List Call → List ℕ → Type 0
AllFallBy work f xs m [] [] = ⊤
AllFallBy work f xs m [] (n ∷ ns) = ⊥
AllFallBy work f xs m (c ∷ calls) [] = ⊥
AllFallBy work f xs m (c ∷ calls) (n ∷ ns) = FallsBy work f xs m c n × AllFallBy work f xs m calls ns

-- the same over the work's own bank
abbrev pub IsFallLine : Work → Sym → List Sym → TermId → Site → ℕ → Type 0
IsFallLine work f formals measure s line = FallsBy work (text_at work.bank f) (texts_at work.bank formals) (term_at work.bank measure) (site_at work.bank s) line

abbrev pub AreFallLines : Work → Sym → List Sym → TermId → List Site → List ℕ → Type 0
AreFallLines work f formals measure sites lines = AllFallBy work (text_at work.bank f) (texts_at work.bank formals) (term_at work.bank measure) (sites_at work.bank sites) lines

-- the measure is the size of a variable
abbrev pub size_of_variable : Name → Term
size_of_variable x = call1 "COUNT" (Variable x)

-- the measure is the size of this variable
pub record IsSizeOf (bank : Content) (measure : TermId) (x : Sym) : Type 0 where
  pub named : IsNamed bank x
  pub size : term_at bank measure ≡ size_of_variable (text_at bank x)

-- the call takes a part of what stands for the variable, by the accessors of a shell
abbrev pub Descends : History → List Name → Name → Call → Type 0
Descends h xs x c = IsStructuralNest h (Variable x) c.tests (value_at (matched xs c.arguments) x)

abbrev pub DescendsAt : List Entry → Content → List Sym → Sym → Site → Type 0
DescendsAt history bank formals x s = Descends (events_at bank history) (texts_at bank formals) (text_at bank x) (site_at bank s)

-- each call does so
abbrev pub AllDescend : List Entry → Content → List Sym → Name → List Site → Type 0
AllDescend history bank formals x sites = Each (Descends (events_at bank history) (texts_at bank formals) x) (sites_at bank sites)

-- the lines of a measure that admits the definition
pub record IsEvidence (work : Work) (f : Sym) (formals : List Sym) (measure : TermId) (sites : List Site) (evidence : Evidence) : Type 0 where
  pub older : mentions (text_at work.bank f) (term_at work.bank measure) ≡ false
  pub ordinal : LineHasOnly work evidence.ordinal (ordinal_clause (term_at work.bank measure))
  pub falls : AreFallLines work f formals measure sites evidence.falls.items

-- the measure is no size of a variable of which each call takes such a part
abbrev pub IsNotStructural : List Entry → Content → List Sym → TermId → List Site → Type 0
IsNotStructural history bank formals measure sites = (x : Name) → term_at bank measure ≡ size_of_variable x → AllDescend history bank formals x sites → ⊥

-- what is left of a measure: the literals of a clause, over the work's bank
pub record IsLeft (work : Work) (m : Term) (these : List Term) (left : Left) : Type 0 where
  pub measure : IsIdOf work.bank left.measure m
  pub literals : terms_at work.bank left.literals.items ≡ these
  pub stand : All (Stands work.bank) left.literals.items

-- lines show that the measure falls at the calls in their order, up to one whose obligation is the clause
abbrev pub FallUntil : Work → Name → List Name → Term → List Call → List ℕ → List Term → Type 0
FallUntil work f xs m [] ns these = ⊥
FallUntil work f xs m (c ∷ calls) [] these = these ≡ obligation_at xs m c
FallUntil work f xs m (c ∷ calls) (n ∷ ns) these = FallsBy work f xs m c n × FallUntil work f xs m calls ns these

-- that the measure falls at one of the calls is left, after lines for those before it
pub record IsFallLeft (work : Work) (f : Name) (xs : List Name) (m : Term) (calls : List Call) (left : Left) : Type 0 where
  pub lines : List ℕ
  pub these : List Term
  pub falls : FallUntil work f xs m calls lines these
  pub is : IsLeft work m these left

-- the same after a line that the measure is an ordinal
pub record IsOrdinalFallLeft (work : Work) (f : Name) (xs : List Name) (m : Term) (calls : List Call) (left : Left) : Type 0 where
  pub older : mentions f m ≡ false
  pub ordinal : ℕ
  pub is_ordinal : LineHasOnly work ordinal (ordinal_clause m)
  pub fall : IsFallLeft work f xs m calls left

-- the first obligation of a measure that no line shows
abbrev pub IsFirstLeft : Work → Name → List Name → Term → List Call → Left → Type 0
IsFirstLeft work f xs m calls left = IsLeft work m (ordinal_clause m) left ⊎ IsOrdinalFallLeft work f xs m calls left

-- the same of each measure, in their order
abbrev pub AreLeft : Work → Name → List Name → List Call → List Term → List Left → Type 0
AreLeft work f xs calls [] [] = ⊤
AreLeft work f xs calls [] (l ∷ ls) = ⊥
AreLeft work f xs calls (m ∷ ms) [] = ⊥
AreLeft work f xs calls (m ∷ ms) (l ∷ ls) = IsFirstLeft work f xs m calls l × AreLeft work f xs calls ms ls

-- what is left of a measure, told over a bank
abbrev pub IsLeftAt : Content → Work → Sym → List Sym → TermId → List Site → Left → Type 0
IsLeftAt bank work f formals measure sites left = IsFirstLeft work (text_at bank f) (texts_at bank formals) (term_at bank measure) (sites_at bank sites) left

abbrev pub AreLeftAt : Content → Work → Sym → List Sym → List Site → List TermId → List Left → Type 0
AreLeftAt bank work f formals sites tried left = AreLeft work (text_at bank f) (texts_at bank formals) (sites_at bank sites) (terms_at bank tried) left
