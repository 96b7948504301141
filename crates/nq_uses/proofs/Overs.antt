-- The literals of a first goal are over the functions of the history, with variables that a log can spell.
use Rattle.std.proofs.Common.{◌≡◌, Bool, true, false, Option, Some, None, List, [], ◌∷◌, ◌++◌, refl, ap, sym, subst, ◌∙◌, append_assoc, inl, inr}
use Rattle.std.specs.Prelude.{◌⊎◌, not, is_some, bytes_eq, if◌then◌else◌, map}
use Rattle.std.specs.List.{list_all}
use Rattle.std.specs.Option.{option_and_then}
use Rattle.nq_logic.specs.Terms.{Name, Term, Variable, Function, Applied, IsTerm, IsAmong, Each, applied, substituted}
use Rattle.nq_logic.specs.Words.{not_term}
use Rattle.nq_logic.specs.Ground.{symbols_of, ground_history, ground_definitions, all_events}
use Rattle.nq_logic.specs.Names.{event_in, event_name, looked_up}
use Rattle.nq_logic.specs.Histories.{History, Definition, Event, AddShell, Declaration, Defines, Axiom, Lemma, Toggle, events_definitions}
use Rattle.nq_logic.proofs.Lists.{each_at}
use Rattle.nq_logic.proofs.Symbols.{not_symbol}
use Rattle.nq_proof.specs.Clauses.{distinct, same_term, without}
use Rattle.nq_proof.specs.Rows.{opening}
use Rattle.nq_proof.specs.Rules.{pair_terms}
use Rattle.nq_proof.proofs.Tests.{some_same, and_left, and_right}
use Rattle.nq_proof.proofs.KeptSymbols.{definitions_over}
use Rattle.nq_kernel.specs.Over.{IsVariable, IsTermOf, VariablesAre}
use Rattle.nq_kernel.specs.Ready.{IsReady, IsReadyEvent, ReadyFrom, IsUsableDefinition}
use Rattle.nq_kernel.proofs.ReadyLaws.{closed_law, definitions_law, looked_up_defines, term_grown}
use Rattle.nq_eval.proofs.SubstitutionLemmas.{instance_over}
use Rattle.nq_events.specs.Events.{Hints, Instance}
use Rattle.nq_events.specs.HintRefusals.{cited_term, defining_equation, instance_term, term_named}
use Rattle.nq_goals.specs.Hints.{denied_before, denied_instances, first_goal}

abbrev pub IsOver : History → Term → Type 0
IsOver h t = IsTermOf IsVariable (symbols_of h) t

-- ---- what is looked up

found_event : (f : Name) (es : List Event) (e : Event) → event_in f es ≡ Some e → IsAmong e es
found_event f [] e is = absurd cc
found_event f (x ∷ es) e is = by_name (bytes_eq f (event_name x)) is (found_event f es e)
  where
    by_name : (same : Bool) → (if same then Some x else event_in f es) ≡ Some e → (event_in f es ≡ Some e → IsAmong e es) → IsAmong e (x ∷ es)
    by_name true is rest = inl (sym (some_same x e is))
    by_name false is rest = inr (rest is)

-- the term of an axiom or a lemma
abbrev formula_of : Event → Option Term
formula_of (AddShell s) = None
formula_of (Declaration f n) = None
formula_of (Defines d) = None
formula_of (Axiom n classes t) = Some t
formula_of (Lemma n classes t) = Some t
formula_of (Toggle n old disabled) = None

abbrev is_no_formula : Event → Bool
is_no_formula e = not (is_some (formula_of e))

ground_formulas : list_all is_no_formula ground_history ≡ true
ground_formulas = refl

no_formula : (es : List Event) (e : Event) (t : Term) → list_all is_no_formula es ≡ true → IsAmong e es → formula_of e ≡ Some t → ⊥
no_formula [] e t none among is = among
no_formula (x ∷ es) e t none (inl same) is =
    let here : is_no_formula x ≡ true = and_left (is_no_formula x) (list_all is_no_formula es) none in
    let not_here : is_no_formula e ≡ true = ap is_no_formula same ∙ here in
    let given : is_no_formula e ≡ false = ap (λ (o : Option Term). not (is_some o)) is in
    absurd cc
no_formula (x ∷ es) e t none (inr among) is = no_formula es e t (and_right (is_no_formula x) (list_all is_no_formula es) none) among is

joined : (b : History) (e : Event) (h : History) (u : Term) → IsOver ((b ++ e ∷ []) ++ h) u → IsOver (b ++ e ∷ h) u
joined b e h u over = subst (λ (k : History). IsOver k u) (append_assoc b (e ∷ []) h) over

own_formula : (b : History) (e : Event) (t : Term) → IsReadyEvent b e → formula_of e ≡ Some t → IsOver b t
own_formula b (AddShell s) t ready is = absurd cc
own_formula b (Declaration f n) t ready is = absurd cc
own_formula b (Defines d) t ready is = absurd cc
own_formula b (Axiom n classes u) t ready is = subst (IsOver b) (some_same u t is) ready.spelled
own_formula b (Lemma n classes u) t ready is = subst (IsOver b) (some_same u t is) ready.spelled
own_formula b (Toggle n old disabled) t ready is = absurd cc

formula_from : (b h : History) (e : Event) (t : Term) → ReadyFrom b h → IsAmong e h → formula_of e ≡ Some t → IsOver (b ++ h) t
formula_from b [] e t ready among is = absurd among
formula_from b (x ∷ h) e t ready (inl same) is = term_grown b (x ∷ h) t (own_formula b x t ready.0 (ap formula_of (sym same) ∙ is))
formula_from b (x ∷ h) e t ready (inr among) is = joined b x h t (formula_from (b ++ x ∷ []) h e t ready.1 among is)

among_both : (e : Event) (xs ys : List Event) → IsAmong e (xs ++ ys) → IsAmong e xs ⊎ IsAmong e ys
among_both e [] ys m = inr m
among_both e (x ∷ xs) ys (inl same) = inl (inl same)
among_both e (x ∷ xs) ys (inr m) = elim (among_both e xs ys m) [ inl k ↦ inl (inr k) | inr k ↦ inr k ]

formula_over : (h : History) (e : Event) (t : Term) → IsReady h → IsAmong e (all_events h) → formula_of e ≡ Some t → IsOver h t
formula_over h e t ready among is =
    elim (among_both e ground_history h among) as (λ m. IsOver h t) [ inl m ↦ absurd (no_formula ground_history e t ground_formulas m is) | inr m ↦ formula_from [] h e t ready m is ]

-- ---- what events state

variables_over : (xs : List Name) (t : Term) → Each IsVariable xs → VariablesAre IsVariable t → VariablesAre IsVariable (applied t (map Variable xs))
variables_over [] t each are = are
variables_over (x ∷ xs) t each are = variables_over xs (Applied t (Variable x)) each.1 (are, each.0)

module _ (h : History) (ready : IsReady h) where
  equation_over : (f : Name) (d : Definition) → looked_up f h ≡ Some (Defines d) → IsOver h (defining_equation d)
  equation_over f d is =
      let usable : IsUsableDefinition h d = (definitions_law h ready).each f d is in
      let over = each_at (λ (d : Definition). Each (IsTerm (symbols_of h)) (opening d)) d (ground_definitions ++ events_definitions h) (definitions_over h (closed_law h ready)) (looked_up_defines h f d is) in
      record { over = over.0; variables = ((tt, variables_over d.formals (Function d.function) usable.spelled tt), usable.over.variables) }

  cited_over : (name : Name) (e : Event) (t : Term) → looked_up name h ≡ Some e → cited_term e ≡ Some t → IsOver h t
  cited_over name (AddShell s) t is cited = absurd cc
  cited_over name (Declaration f n) t is cited = absurd cc
  cited_over name (Defines d) t is cited = subst (IsOver h) (some_same (defining_equation d) t cited) (equation_over name d is)
  cited_over name (Axiom n classes u) t is cited = formula_over h (Axiom n classes u) t ready (found_event name (all_events h) (Axiom n classes u) is) cited
  cited_over name (Lemma n classes u) t is cited = formula_over h (Lemma n classes u) t ready (found_event name (all_events h) (Lemma n classes u) is) cited
  cited_over name (Toggle n old disabled) t is cited = absurd cc

  named_over : (name : Name) (t : Term) → term_named h name ≡ Some t → IsOver h t
  named_over name t is = by_event (looked_up name h) refl is
    where
      by_event : (o : Option Event) → looked_up name h ≡ o → option_and_then cited_term o ≡ Some t → IsOver h t
      by_event None e is = absurd cc
      by_event (Some x) e is = cited_over name x t e is

  -- the pairs of an instance are over the history
  abbrev pub PairsAreOver : Instance → Type 0
  PairsAreOver i = Each (IsOver h) (pair_terms i.pairs)

  pub instance_term_over : (i : Instance) (t : Term) → PairsAreOver i → instance_term h i ≡ Some t → IsOver h t
  instance_term_over i t pairs is = by_term (term_named h i.name) refl is
    where
      by_term : (o : Option Term) → term_named h i.name ≡ o → option_and_then (λ (u : Term). Some (substituted i.pairs u)) o ≡ Some t → IsOver h t
      by_term None e is = absurd cc
      by_term (Some u) e is = subst (IsOver h) (some_same (substituted i.pairs u) t is) (instance_over IsVariable h i.pairs u pairs (named_over i.name u e))

  denied_over : (t : Term) → IsOver h t → IsOver h (not_term t)
  denied_over t over = record { over = (not_symbol h, over.over); variables = (tt, over.variables) }

  denials_over : (instances : List Instance) (literals : List Term) → Each PairsAreOver instances → Each (IsOver h) literals → Each (IsOver h) (denied_instances h instances literals)
  denials_over [] literals pairs over = over
  denials_over (i ∷ instances) literals pairs over = by_term (instance_term h i) refl (denials_over instances literals pairs.1 over)
    where
      by_term : (o : Option Term) → instance_term h i ≡ o → Each (IsOver h) (denied_instances h instances literals) → Each (IsOver h) (denied_before o (denied_instances h instances literals))
      by_term None e rest = rest
      by_term (Some t) e rest = (denied_over t (instance_term_over i t pairs.0 e), rest)

without_each : (P : Term → Type 0) (t : Term) (c : List Term) → Each P c → Each P (without t c)
without_each P t [] each = tt
without_each P t (u ∷ c) each = by_test (same_term t u) (without_each P t c each.1)
  where
    by_test : (b : Bool) → Each P (without t c) → Each P (if b then without t c else u ∷ without t c)
    by_test true rest = rest
    by_test false rest = (each.0, rest)

distinct_each : (P : Term → Type 0) (c : List Term) → Each P c → Each P (distinct c)
distinct_each P [] each = tt
distinct_each P (t ∷ c) each = (each.0, without_each P t (distinct c) (distinct_each P c each.1))

-- the literals of the first goal are over the history
pub first_goal_over : (h : History) (hints : Hints) (t : Term) → IsReady h → Each (λ (i : Instance). Each (IsOver h) (pair_terms i.pairs)) hints.instances → IsOver h t → Each (IsOver h) (first_goal h hints t)
first_goal_over h hints t ready pairs over = distinct_each (IsOver h) (denied_instances h hints.instances (t ∷ [])) (denials_over h ready hints.instances (t ∷ []) pairs (over, tt))
