-- The normal form of a goal: what simplification never leaves. Each part is a test that computes from the goal.
use Rattle.std.specs.Prelude.{◌≡◌, ◌↔◌, Bool, true, false, ◌&&◌, ◌||◌, not, if◌then◌else◌, List, [], ◌∷◌, ◌++◌, bytes_eq, codes}
use Rattle.std.specs.List.{list_any}
use Rattle.nq_logic.specs.Terms.{Name, Term, Variable, Function, Applied}
use Rattle.nq_logic.specs.Histories.{History, Event, AddShell, Declaration, Defines, Axiom, Lemma, Toggle, RuleClass, Rewrite, Elim, Generalize}
use Rattle.nq_logic.specs.Values.{is_value}
use Rattle.nq_logic.specs.RuleShapes.{is_function_named, and_parts, RuleParts, rule_parts}
use Rattle.nq_proof.specs.Clauses.{Clause, same_term, has_opposite}
use Rattle.nq_events.specs.Events.{Hints}
use Rattle.nq_goals.specs.Hints.{is_enabled_for}
use Rattle.nq_goals.specs.Occurrences.{open_in, atoms_of}
use Rattle.nq_goals.specs.Functions.{is_call_among, is_shell_test, is_built, is_openable, propositional}
use Rattle.nq_goals.specs.Matching.{is_instance, is_permutative}

-- Some open occurrence is a call of IF, NOT, AND, OR, IMPLIES or IFF, other than one NOT as the outermost function of a
-- literal. Toggles and HANDS-OFF don't change this.
abbrev pub has_connective : Clause → Bool
has_connective goal = list_any (is_call_among propositional) (open_in goal)

-- Some open occurrence is a call of an enabled nonrecursive defined function, other than NOT, that HANDS-OFF doesn't name.
abbrev pub has_openable : History → Hints → Clause → Bool
has_openable h hints goal = list_any (is_openable h hints) (open_in goal)

-- an accessor or recognizer of a shell on a constructor call, a base, T or F
abbrev pub is_decided_test : History → Term → Bool
is_decided_test h (Variable x) = false
is_decided_test h (Function f) = false
is_decided_test h (Applied (Variable x) u) = false
is_decided_test h (Applied (Function f) u) = is_shell_test h f && is_built h u
is_decided_test h (Applied (Applied f t) u) = false

-- Some open occurrence is such a call.
abbrev pub has_decided_test : History → Clause → Bool
has_decided_test h goal = list_any (is_decided_test h) (open_in goal)

abbrev pub is_rewrite : RuleClass → Bool
is_rewrite Rewrite = true
is_rewrite Elim = false
is_rewrite Generalize = false

abbrev pub is_without : {X : Type 0} → List X → Bool
is_without [] = true
is_without (x ∷ xs) = false

-- the parts of a term's conclusion, where it has no hypotheses
abbrev pub plain_parts : RuleParts → List Term
plain_parts parts = if is_without parts.hypotheses then and_parts parts.conclusion else []

-- the parts without hypotheses of an axiom or lemma of this name, where it is an enabled REWRITE rule
abbrev pub parts_if_rule : History → Hints → Name → List RuleClass → Term → List Term
parts_if_rule h hints name classes t = if list_any is_rewrite classes && is_enabled_for h hints name then plain_parts (rule_parts t) else []

abbrev pub event_parts : History → Hints → Event → List Term
event_parts h hints (Axiom name classes t) = parts_if_rule h hints name classes t
event_parts h hints (Lemma name classes t) = parts_if_rule h hints name classes t
event_parts h hints (AddShell s) = []
event_parts h hints (Declaration f n) = []
event_parts h hints (Defines d) = []
event_parts h hints (Toggle name old disabled) = []

-- the parts without hypotheses of the enabled REWRITE axioms and lemmas among these events
abbrev pub parts_of_events : History → Hints → List Event → List Term
parts_of_events h hints [] = []
parts_of_events h hints (e ∷ events) = event_parts h hints e ++ parts_of_events h hints events

-- how a part rewrites
pub data PartKind : Type 0 where
  -- (EQUAL l r), or (NOT l), which rewrites l to F
  Everywhere : (left : Term) → PartKind
  -- (EQUAL l r) where r is l with its variables exchanged
  Permutes : PartKind
  -- any other part, which is true
  Literally : PartKind

-- how an equation of these sides rewrites
abbrev pub kind_of_equation : Term → Term → PartKind
kind_of_equation l r = if is_permutative l r then Permutes else Everywhere l

abbrev pub kind_of_part : Term → PartKind
kind_of_part (Variable x) = Literally
kind_of_part (Function f) = Literally
kind_of_part (Applied (Variable x) u) = Literally
kind_of_part (Applied (Function f) u) = if bytes_eq f (codes "NOT") then Everywhere u else Literally
kind_of_part (Applied (Applied f l) r) = if is_function_named (codes "EQUAL") f then kind_of_equation l r else Literally

-- For a part (EQUAL l r) or (NOT l) some open occurrence, the outer NOT of a literal aside, is an instance of l; for another
-- part some literal, or the argument of a literal's outer NOT, is an instance of it.
abbrev pub rewrites_by : PartKind → Term → Clause → Bool
rewrites_by (Everywhere left) part goal = list_any (is_instance left) (open_in goal)
rewrites_by Permutes part goal = false
rewrites_by Literally part goal = list_any (is_instance part) goal || list_any (is_instance part) (atoms_of goal)

abbrev pub rewrites : Clause → Term → Bool
rewrites goal part = rewrites_by (kind_of_part part) part goal

-- Some part without hypotheses of an enabled REWRITE axiom or lemma, which is not permutative, rewrites the goal.
abbrev pub has_rewritable : History → Hints → Clause → Bool
has_rewritable h hints goal = list_any (rewrites goal) (parts_of_events h hints h)

-- (EQUAL t t)
abbrev pub is_reflexive : Term → Bool
is_reflexive (Variable x) = false
is_reflexive (Function f) = false
is_reflexive (Applied (Variable x) u) = false
is_reflexive (Applied (Function f) u) = false
is_reflexive (Applied (Applied f t) u) = is_function_named (codes "EQUAL") f && same_term t u

-- a value or an equation of a term with itself
abbrev pub is_settled : Term → Bool
is_settled t = is_value t || is_reflexive t

-- Some literal is a value, an equation (EQUAL t t) or the NOT of one of these, or stands beside its NOT.
abbrev pub has_settled : Clause → Bool
has_settled goal = list_any is_settled (atoms_of goal) || has_opposite goal goal

-- a goal in normal form
pub record IsNormal (h : History) (hints : Hints) (goal : List Term) : Type 0 where
  pub no_connective : has_connective goal ≡ false
  pub none_openable : has_openable h hints goal ≡ false
  pub no_decided_test : has_decided_test h goal ≡ false
  pub none_rewritable : has_rewritable h hints goal ≡ false
  pub none_settled : has_settled goal ≡ false

-- the same, as a test
abbrev pub is_normal : History → Hints → Clause → Bool
is_normal h hints goal =
    not (has_connective goal) && not (has_openable h hints goal) && not (has_decided_test h goal) && not (has_rewritable h hints goal) && not (has_settled goal)

-- the test is exact
abbrev pub NormalIsTold : Type 0
NormalIsTold = (h : History) (hints : Hints) (goal : Clause) → (is_normal h hints goal ≡ true) ↔ IsNormal h hints goal
