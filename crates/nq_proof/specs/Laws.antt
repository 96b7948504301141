-- What the rules give is derivable.
use Rattle.std.specs.Prelude.{◌≡◌, ℕ, List, [], ◌∷◌, ◌++◌, Option, Some, true}
use Rattle.nq_logic.specs.Terms.{Term, IsTerm, IsAmong, Each}
use Rattle.nq_logic.specs.Formulas.{holds, clause}
use Rattle.nq_logic.specs.Histories.{RuleClass, Lemma, Shell, History, events_shells}
use Rattle.nq_logic.specs.Classes.{without_classes}
use Rattle.nq_logic.specs.Ground.{symbols_of, ground_shells}
use Rattle.nq_logic.specs.Derivations.{Derivable}
use Rattle.nq_logic.specs.Laws.{IsClause}
use Rattle.nq_proof.specs.Closed.{PartOver, IsClosed, MeetsShellPrinciple}
use Rattle.nq_proof.specs.Rules.{Hypothesis, CaseLines, Rule, Taut, AxiomRow, EventTerm, Weaken, Cut, Instance, Reflexive, Replace, Join, SplitFirst, SplitSecond, NotNot, Value, Linear, Induct, conclusion, rule_terms, is_basic}
use Rattle.nq_proof.specs.Logs.{LogLine, proved_from, are_basic}

-- each lemma of the history is derivable in it
abbrev pub LemmasHold : History → Type 0
LemmasHold h = (n : List ℕ) (classes : List RuleClass) (t : Term) → IsAmong (Lemma n classes t) h → Derivable h (holds t)

-- each line that stands is derivable
abbrev pub LinesHold : History → (ℕ → Option (List Term)) → Type 0
LinesHold h lines = (n : ℕ) (c : List Term) → lines n ≡ Some c → Derivable h (clause c)

-- The clause of a rule is over the history's symbols, where the history is closed, the cited lines are derivable and the
-- rule's terms are over its symbols.
abbrev pub KeptSymbols : Type 0
KeptSymbols =
    (h : History) (lines : ℕ → Option (List Term)) (rule : Rule) (c : List Term) → IsClosed h → LinesHold h lines →
    Each (IsTerm (symbols_of h)) (rule_terms rule) → conclusion h lines rule ≡ Some c → IsClause h c

-- It is derivable then. The two rules of arithmetic are left to the layer that has the laws of arithmetic.
abbrev pub Soundness : Type 0
Soundness =
    (h : History) (lines : ℕ → Option (List Term)) (rule : Rule) (c : List Term) → is_basic rule ≡ true → IsClosed h → LemmasHold h → LinesHold h lines →
    Each (IsTerm (symbols_of h)) (rule_terms rule) → conclusion h lines rule ≡ Some c → Derivable h (clause c)

-- what a log of allowed lines ends in is derivable, where the known clauses are
abbrev pub LogSoundness : Type 0
LogSoundness =
    (h : History) (known : List (List Term)) (log : List LogLine) (c : List Term) → are_basic log ≡ true → IsClosed h → LemmasHold h → Each (λ d. Derivable h (clause d)) known →
    proved_from h known log ≡ Some c → Derivable h (clause c)

-- the shells of a history that were accepted by the Shell Principle speak of its functions alone
abbrev pub AcceptedShellsAreClosed : Type 0
AcceptedShellsAreClosed = (h : History) (s : Shell) → MeetsShellPrinciple h → IsAmong s (ground_shells ++ events_shells h) → Each (PartOver (symbols_of h)) s.parts

-- each line that stands among the first stands among the second, with the same clause
abbrev pub HasMoreLines : (ℕ → Option (List Term)) → (ℕ → Option (List Term)) → Type 0
HasMoreLines few more = (n : ℕ) (c : List Term) → few n ≡ Some c → more n ≡ Some c

-- A rule that is allowed is allowed after more lines, with the same clause: a line that is dropped only takes rules away.
abbrev pub MoreLinesAllowMore : Type 0
MoreLinesAllowMore =
    (h : History) (few more : ℕ → Option (List Term)) (rule : Rule) (c : List Term) → HasMoreLines few more → conclusion h few rule ≡ Some c → conclusion h more rule ≡ Some c

-- the rule with other numbers for the lines that it cites
abbrev pub renumbered_hypotheses : (ℕ → ℕ) → List Hypothesis → List Hypothesis
renumbered_hypotheses f [] = []
renumbered_hypotheses f (s ∷ rest) = record { line = f s.line; pairs = s.pairs } ∷ renumbered_hypotheses f rest

abbrev pub renumbered_cases : (ℕ → ℕ) → List CaseLines → List CaseLines
renumbered_cases f [] = []
renumbered_cases f (c ∷ cases) = record { test = c.test; step = f c.step; hypotheses = renumbered_hypotheses f c.hypotheses } ∷ renumbered_cases f cases

abbrev pub renumbered : (ℕ → ℕ) → Rule → Rule
renumbered f (Taut ts) = Taut ts
renumbered f (AxiomRow name row part) = AxiomRow name row part
renumbered f (EventTerm name) = EventTerm name
renumbered f (Weaken l ts) = Weaken (f l) ts
renumbered f (Cut l1 l2 t) = Cut (f l1) (f l2) t
renumbered f (Instance l pairs) = Instance (f l) pairs
renumbered f (Reflexive t) = Reflexive t
renumbered f (Replace l k path t side) = Replace (f l) k path t side
renumbered f (Join l1 l2 p x y) = Join (f l1) (f l2) p x y
renumbered f (SplitFirst l k) = SplitFirst (f l) k
renumbered f (SplitSecond l k) = SplitSecond (f l) k
renumbered f (NotNot l k) = NotNot (f l) k
renumbered f (Value t) = Value t
renumbered f (Linear summands) = Linear summands
renumbered f (Induct p m o b cases) = Induct p m (f o) (f b) (renumbered_cases f cases)

-- Line numbers are nothing but names of clauses: with more_lines this replays a log behind other lines.
abbrev pub RulesMayBeRenumbered : Type 0
RulesMayBeRenumbered =
    (h : History) (lines : ℕ → Option (List Term)) (f : ℕ → ℕ) (rule : Rule) → conclusion h lines (renumbered f rule) ≡ conclusion h (λ n. lines (f n)) rule

-- the rule classes of axioms and lemmas change nothing of what the rules of the log allow
abbrev pub ClassesChangeNothing : Type 0
ClassesChangeNothing =
    (h g : History) (lines : ℕ → Option (List Term)) (rule : Rule) → without_classes h ≡ without_classes g → conclusion h lines rule ≡ conclusion g lines rule
