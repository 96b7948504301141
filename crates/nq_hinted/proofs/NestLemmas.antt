-- A nest of IF and the nest of OR of the same literals are propositions of the same truth, over the same terms, with as many nodes.
use Rattle.std.proofs.Common.{◌≡◌, ◌∙◌, ◌≤◌, ◌*◌, ℕ, suc, Bool, true, false, Option, Some, None, List, [], ◌∷◌, ◌++◌, length, append-nil, refl, sym, ap, subst, arith}
use Rattle.std.specs.Prelude.{if◌then◌else◌}
use Rattle.nq_logic.specs.Terms.{Term}
use Rattle.nq_logic.specs.Words.{not_term, or_term, if_term, true_term}
use Rattle.nq_logic.specs.Shells.{either_of}
use Rattle.nq_logic.specs.Shapes.{chosen}
use Rattle.nq_logic.specs.Histories.{History}
use Rattle.nq_proof.specs.Clauses.{Clause, distinct, same_term, without}
use Rattle.nq_fragments.specs.Propositions.{proposition_of, nodes_in, others_in, truth_of}
use Rattle.nq_fragments.specs.Tautologies.{IsSmallTautology, node_limit, other_limit}
use Rattle.nq_events.specs.Events.{Hints, Instance}
use Rattle.nq_events.specs.HintRefusals.{instance_term}
use Rattle.nq_goals.specs.Hints.{denied_before, denied_instances, first_goal}
use Rattle.nq_hinted.specs.Nests.{denied_by, nest, AreDenials}

-- ---- the literals of a first goal

-- each literal of the goal but the last is a NOT
abbrev pub HasDenials : Clause → Type 0
HasDenials [] = Unit {0}
HasDenials (t ∷ c) = AreDenials t c

before : (t : Term) (c : Clause) → t ≡ not_term (denied_by t) → HasDenials c → HasDenials (t ∷ c)
before t [] is h = tt
before t (u ∷ c) is h = (is, h)

without_denials : (x : Term) (c : Clause) → HasDenials c → HasDenials (without x c)
without_denials x [] h = tt
without_denials x (t ∷ []) h = by_test (same_term x t)
  where
    by_test : (b : Bool) → HasDenials (if b then [] else t ∷ [])
    by_test true = tt
    by_test false = tt
without_denials x (t ∷ u ∷ c) h = by_test (same_term x t) (without_denials x (u ∷ c) h.1)
  where
    by_test : (b : Bool) → HasDenials (without x (u ∷ c)) → HasDenials (if b then without x (u ∷ c) else t ∷ without x (u ∷ c))
    by_test true rest = rest
    by_test false rest = before t (without x (u ∷ c)) h.0 rest

distinct_denials : (c : Clause) → HasDenials c → HasDenials (distinct c)
distinct_denials [] h = tt
distinct_denials (t ∷ []) h = tt
distinct_denials (t ∷ u ∷ c) h = before t (without t (distinct (u ∷ c))) h.0 (without_denials t (distinct (u ∷ c)) (distinct_denials (u ∷ c) h.1))

instance_denials : (h : History) (instances : List Instance) (t : Term) → HasDenials (denied_instances h instances (t ∷ []))
instance_denials h [] t = tt
instance_denials h (i ∷ instances) t = by_term (instance_term h i) (instance_denials h instances t)
  where
    by_term : (o : Option Term) → HasDenials (denied_instances h instances (t ∷ [])) → HasDenials (denied_before o (denied_instances h instances (t ∷ [])))
    by_term None rest = rest
    by_term (Some u) rest = before (not_term u) (denied_instances h instances (t ∷ [])) refl rest

-- so it is with the first goal of a lemma
pub goal_denials : (h : History) (hints : Hints) (t : Term) → HasDenials (first_goal h hints t)
goal_denials h hints t = distinct_denials (denied_instances h hints.instances (t ∷ [])) (instance_denials h hints.instances t)

-- ---- both nests

abbrev nodes : Term → ℕ
nodes t = nodes_in (proposition_of t)

abbrev others : Term → List Term
others t = others_in (proposition_of t)

step_nodes : (s n e : Term) → nodes n ≡ nodes e → nodes (if_term s n true_term) ≡ nodes (or_term (not_term s) e)
unfolding proposition_of
step_nodes s n e h = omega (arith, h)

step_others : (s n e : Term) → others n ≡ others e → others (if_term s n true_term) ≡ others (or_term (not_term s) e)
unfolding proposition_of
step_others s n e h = ap (λ (ts : List Term). others s ++ ts) (append-nil (others n) ∙ h)

step_truth : (values : Term → Bool) (s n e : Term) → truth_of values (proposition_of n) ≡ truth_of values (proposition_of e) → truth_of values (proposition_of (if_term s n true_term)) ≡ truth_of values (proposition_of (or_term (not_term s) e))
unfolding proposition_of
step_truth values s n e h = by_test (truth_of values (proposition_of s)) (truth_of values (proposition_of n)) (truth_of values (proposition_of e)) h
  where
    by_test : (p x y : Bool) → x ≡ y → chosen p x true ≡ chosen (chosen p false true) true y
    by_test true x y h = h
    by_test false x y h = refl

nodes_same : (t : Term) (c : Clause) → AreDenials t c → nodes (nest t c) ≡ nodes (either_of (t ∷ c))
nodes_same t [] h = refl
nodes_same t (u ∷ c) h =
    subst (λ (v : Term). nodes (if_term (denied_by t) (nest u c) true_term) ≡ nodes (or_term v (either_of (u ∷ c)))) (sym h.0) (step_nodes (denied_by t) (nest u c) (either_of (u ∷ c)) (nodes_same u c h.1))

others_same : (t : Term) (c : Clause) → AreDenials t c → others (nest t c) ≡ others (either_of (t ∷ c))
others_same t [] h = refl
others_same t (u ∷ c) h =
    subst (λ (v : Term). others (if_term (denied_by t) (nest u c) true_term) ≡ others (or_term v (either_of (u ∷ c)))) (sym h.0) (step_others (denied_by t) (nest u c) (either_of (u ∷ c)) (others_same u c h.1))

truth_same : (values : Term → Bool) (t : Term) (c : Clause) → AreDenials t c → truth_of values (proposition_of (nest t c)) ≡ truth_of values (proposition_of (either_of (t ∷ c)))
truth_same values t [] h = refl
truth_same values t (u ∷ c) h =
    subst (λ (v : Term). truth_of values (proposition_of (if_term (denied_by t) (nest u c) true_term)) ≡ truth_of values (proposition_of (or_term v (either_of (u ∷ c))))) (sym h.0)
    (step_truth values (denied_by t) (nest u c) (either_of (u ∷ c)) (truth_same values u c h.1))

pub small_either : (t : Term) (c : Clause) → AreDenials t c → IsSmallTautology (nest t c) → IsSmallTautology (either_of (t ∷ c))
small_either t c h small = record {
  few_nodes = subst (λ (n : ℕ). n ≤ node_limit) (nodes_same t c h) small.few_nodes;
  few_others = subst (λ (ts : List Term). length (distinct ts) ≤ other_limit) (others_same t c h) small.few_others;
  always_true = λ values. sym (truth_same values t c h) ∙ small.always_true values;
}

pub small_nest : (t : Term) (c : Clause) → AreDenials t c → IsSmallTautology (either_of (t ∷ c)) → IsSmallTautology (nest t c)
small_nest t c h small = record {
  few_nodes = subst (λ (n : ℕ). n ≤ node_limit) (sym (nodes_same t c h)) small.few_nodes;
  few_others = subst (λ (ts : List Term). length (distinct ts) ≤ other_limit) (sym (others_same t c h)) small.few_others;
  always_true = λ values. truth_same values t c h ∙ small.always_true values;
}

-- ---- how many nodes a nest has

one_more : (s n : Term) (k : ℕ) → 2 * k ≤ nodes n → 2 * suc k ≤ nodes (if_term s n true_term)
unfolding proposition_of
one_more s n k h = omega (arith, h)

many_nodes : (t : Term) (c : Clause) → 2 * length c ≤ nodes (nest t c)
many_nodes t [] = omega arith
many_nodes t (u ∷ c) = one_more (denied_by t) (nest u c) (length c) (many_nodes u c)

-- a goal of too many literals has no small nest
pub few_literals : (t : Term) (c : Clause) → IsSmallTautology (nest t c) → length c ≤ 100
few_literals t c small = omega (arith, many_nodes t c, small.few_nodes)

-- F is no tautology
pub no_literal : IsSmallTautology (either_of []) → ⊥
unfolding proposition_of
no_literal small = false_is_true (small.always_true (λ u. true))
  where
    false_is_true : false ≡ true → ⊥
    false_is_true e = cc
