-- Goals that are simplified.
use Rattle.std.specs.Prelude.{◌≡◌, ◌+◌, ℕ, Bool, true, false, All, List, [], ◌∷◌, ◌++◌, take, drop, ⊤, if◌then◌else◌, ◌==◌}
use Rattle.nq_logic.specs.Terms.{Term}
use Rattle.nq_logic.specs.Words.{not_term, equal_term, true_term, false_term}
use Rattle.nq_bank.specs.declared.node.TermId.{TermId}
use Rattle.nq_bank.specs.Content.{term_at, terms_at}
use Rattle.nq_history.specs.declared.entry.Entry.{Entry}
use Rattle.nq_kernel.specs.declared.work.Work.{Work}
use Rattle.nq_kernel.specs.Growing.{LineStands}
use Rattle.nq_lines.specs.Lines.{LineHasOnly, IsTermIn}
use Rattle.nq_cases.specs.Cases.{clauses_at}
use Rattle.nq_simplify.specs.BranchRows.{RowsStand}
use Rattle.nq_simplify.specs.declared.way.Way.{Way}
use Rattle.nq_simplify.specs.declared.way.Way.TheVariants.{Rewritten', Cut'}
use Rattle.nq_simplify.specs.Ways.{Pointer, WayStands, LeadsTo, IsRewriting}
use Rattle.nq_simplify.specs.declared.rewriter.NewLiteral.{NewLiteral}
use Rattle.nq_simplify.specs.declared.steps.Turn.{Turn}
use Rattle.nq_simplify.specs.declared.steps.Split.{Split}
use Rattle.nq_simplify.specs.declared.steps.Simplified.{Simplified}
use Rattle.nq_simplify.specs.declared.steps.Outcome.{Outcome}
use Rattle.nq_simplify.specs.declared.steps.Outcome.TheVariants.{Same, Closed, Turned, Divided}
use Rattle.nq_simplify.specs.declared.basis.Basis.{Basis}

-- the new literal is a term, and a line has only its equation with the old one, t, and these others
pub record IsNewLiteral (history : List Entry) (work : Work) (others : List Term) (t : Term) (r : NewLiteral) : Type 0 where
  pub term : IsTermIn history work r.term
  pub line : LineHasOnly work r.line (equal_term t (term_at work.bank r.term) ∷ others)

-- the literals of a goal are terms over the history's functions
abbrev pub AreTermsIn : List Entry → Work → List TermId → Type 0
AreTermsIn history work ids = All (IsTermIn history work) ids

-- the ids with these in the place of the one at an index
abbrev pub put_in : ℕ → List TermId → List TermId → List TermId
put_in i these ids = (take i ids ++ these) ++ drop (i + 1) ids

-- the ids other than one
abbrev pub literals_but : TermId → List TermId → List TermId
literals_but falsity [] = []
literals_but falsity (t ∷ ids) = if t.0 == falsity.0 then literals_but falsity ids else t ∷ literals_but falsity ids

-- the turn rewrites a literal of the goal
pub record IsTurn (history : List Entry) (work : Work) (goal : List Term) (turn : Turn) : Type 0 where
  pub old : IsTermIn history work turn.old
  pub new : IsTermIn history work turn.new
  pub line : LineStands work turn.line
  pub next : AreTermsIn history work turn.next.items
  pub rewriting : IsRewriting work (term_at work.bank turn.old) (term_at work.bank turn.new) turn.line goal (terms_at work.bank turn.next.items)

-- the split divides the goal by a test
pub record IsDivided (history : List Entry) (work : Work) (goal : List Term) (s : Split) : Type 0 where
  pub test : IsTermIn history work s.test
  pub with_test : IsTurn history work (term_at work.bank s.test ∷ goal) s.with_test
  pub without_test : IsTurn history work (not_term (term_at work.bank s.test) ∷ goal) s.without_test

-- what is done to a goal is right
abbrev pub IsOutcome : List Entry → Work → List Term → Outcome → Type 0
IsOutcome history work goal Same = ⊤
IsOutcome history work goal (Closed n) = LineHasOnly work n goal
IsOutcome history work goal (Turned turn) = IsTurn history work goal turn
IsOutcome history work goal (Divided s) = IsDivided history work goal s

-- nothing is done to a goal
abbrev pub is_same : Outcome → Bool
is_same Same = true
is_same (Closed n) = false
is_same (Turned turn) = false
is_same (Divided s) = false

-- the way leads from the goal to the goals that are left
pub record IsSimplified (history : List Entry) (work : Work) (goal : List Term) (s : Simplified) : Type 0 where
  pub way : WayStands history work s.way
  pub nexts : All (λ c. AreTermsIn history work c.items) s.nexts.items
  pub leads : LeadsTo work s.way goal (clauses_at work.bank s.nexts.items)

-- the way replaces the literal of a turn, and goes on as the rest
pub record TurnsFirst (way : Way) (turn : Turn) (rest : Way) : Type 0 where
  pub pointer : Pointer
  pub is : way ≡ Rewritten' turn.old turn.new turn.line pointer rest

-- the way cuts by the test of a split, and goes on after the turn of each side
pub record DividesFirst (way : Way) (s : Split) (with_test without_test : Way) : Type 0 where
  pub left : Pointer
  pub right : Pointer
  pub first : Way
  pub second : Way
  pub is : way ≡ Cut' s.test left first right second
  pub turns_first : TurnsFirst first s.with_test with_test
  pub turns_second : TurnsFirst second s.without_test without_test

-- what each simplification uses stands
pub record BasisStands (history : List Entry) (work : Work) (b : Basis) : Type 0 where
  pub rows : RowsStand work b.rows
  pub truth : IsTermIn history work b.truth
  pub truth_is : term_at work.bank b.truth ≡ true_term
  pub falsity : IsTermIn history work b.falsity
  pub falsity_is : term_at work.bank b.falsity ≡ false_term
  pub not_false : LineHasOnly work b.not_false (not_term false_term ∷ [])
