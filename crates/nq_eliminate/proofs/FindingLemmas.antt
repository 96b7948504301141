-- Rules that have no candidate, since none of their destructor calls becomes a call of the goal.
use Rattle.std.proofs.Common.{◌≡◌, ◌<◌, ℕ, zero, suc, drop, get_or, length, Bool, true, false, ◌&&◌, if◌then◌else◌, List, [], ◌∷◌, refl, sym, ap, ◌∙◌, subst, inl, inr}
use Rattle.std.specs.Prelude.{All, bytes_eq, codes, not, Option, Some, None, MatchOption}
use Rattle.std.specs.List.{list_all}
use Rattle.std.specs.Option.{option_map}
use Rattle.nq_logic.specs.Terms.{Each, Name, Term, Variable, Function, Applied, IsAmong, Substitution, applied, call, substituted, value_at}
use Rattle.nq_logic.specs.Histories.{History, RuleClass, Event, AddShell, Declaration, Defines, Axiom, Lemma, Toggle}
use Rattle.nq_logic.specs.Ground.{all_events, ground_history}
use Rattle.nq_logic.specs.Names.{has_name}
use Rattle.nq_logic.specs.Numerals.{number_of}
use Rattle.nq_logic.specs.RuleShapes.{has_argument, has_distinct_variables, is_call, rule_parts, variables_of}
use Rattle.nq_logic.specs.Values.{is_tree_value, is_value}
use Rattle.nq_logic.proofs.Lists.{each_append, each_at}
use Rattle.nq_bank.specs.declared.node.TermId.{TermId}
use Rattle.nq_bank.specs.declared.node.Sym.{Sym}
use Rattle.nq_bank.specs.Content.{Content, IsNamed, Stands, term_at, terms_at, text_at}
use Rattle.nq_bank.proofs.NodesLemmas.{All-tail}
use Rattle.nq_bank.proofs.Texts.{bytes_eq-true, eq-bytes_eq}
use Rattle.nq_proof.specs.Clauses.{Clause}
use Rattle.nq_events.specs.Events.{Hints}
use Rattle.nq_goals.specs.Eliminating.{ElimRule, Eliminating, EliminateCandidate, destructors, has_elim, other_variables, renaming, renaming_of, rule_of_equation, rule_of_parts, rule_of_sides}
use Rattle.nq_goals.specs.Equations.{Equation, equation_of}
use Rattle.nq_goals.specs.Hints.{is_enabled_for}
use Rattle.nq_history.specs.declared.entry.Entry.{Entry}
use Rattle.nq_history.specs.Events.{all_events_at, event_at, ground_length, past_ground}
use Rattle.nq_goals.specs.Replacing.{parts_in_all}
use Rattle.nq_stuck.specs.Calls.{HoldsAll}
use Rattle.nq_stuck.specs.Destructors.{is_variable}
use Rattle.nq_stuck.proofs.EliminationLemmas.{call_no_value}
use Rattle.nq_stuck.proofs.StandingLemmas.{one_among}
use Rattle.nq_eliminate.specs.Finding.{EventServesNone, HasNoneOfEvents, IsCandidate, IsRule, RuleServes, TermServes, TermServesNone, candidate_by, events_own_rules, own_rules, rule_at}
use Rattle.nq_eliminate.specs.Serving.{IsServedBy, NoneServe, Serves, ServesNone, ServesNoneOf, destructors_in, is_flat}
use Rattle.nq_eliminate.specs.declared.finding.Candidate.{Candidate}
use Rattle.nq_eliminate.specs.declared.rules.Rule.{Rule}
use Rattle.nq_eliminate.specs.declared.serving.Served.{Served}
use Rattle.nq_eliminate.proofs.CallShapes.{both, flat}
use Rattle.nq_eliminate.proofs.Fresh.{value_here, value_later}
use Rattle.nq_eliminate.proofs.CandidateLemmas.{IsDestructor, Standing, both_true, destructor_is, of_rule, standing}
use Rattle.nq_eliminate.proofs.Names.{among_either, among_has, renamed_value, value_among}
use Rattle.nq_eliminate.proofs.ServingLemmas.{element_among}

-- ---- destructor calls

and_false : (b : Bool) → (b && false) ≡ false
and_false true = refl
and_false false = refl

-- a call that ends in a variable is no value
variable_no_value : (t : Term) (x : Name) → is_value (Applied t (Variable x)) ≡ false
unfolding number_of is_tree_value
variable_no_value (Variable y) x = refl
variable_no_value (Function f) x = call_no_value f x
variable_no_value (Applied (Variable y) u) x = refl
variable_no_value (Applied (Function f) u) x = and_false _
variable_no_value (Applied (Applied s t) u) x = refl

ends_in_variable : (t u : Term) → is_variable u ≡ true → is_value (Applied t u) ≡ false
ends_in_variable t (Variable y) e = variable_no_value t y
ends_in_variable t (Function f) e = absurd (cc)
ends_in_variable t (Applied u v) e = absurd (cc)

pub made_no_value : (s : Substitution) → ((x : Name) → is_variable (value_at s x) ≡ true) → (v : Name) (d : Term) → is_flat d ≡ true → has_argument v d ≡ true → is_value (substituted s d) ≡ false
made_no_value s each v (Variable x) e k = absurd (cc)
made_no_value s each v (Function f) e k = absurd (cc)
made_no_value s each v (Applied t (Variable x)) e k = ends_in_variable (substituted s t) (value_at s x) (each x)
made_no_value s each v (Applied t (Function f)) e k = absurd (cc)
made_no_value s each v (Applied t (Applied u w)) e k = absurd (cc)

made_call : (s : Substitution) (d : Term) → is_flat d ≡ true → is_call (substituted s d) ≡ true
made_call s (Variable x) e = absurd (cc)
made_call s (Function f) e = refl
made_call s (Applied t u) e = made_call s t (both_true (is_variable u) (is_flat t) e).1

-- ---- a candidate has a call of the goal

module _ (h : History) (hints : Hints) (goal : Clause) (e : Eliminating) (candidate : EliminateCandidate h hints goal e) where
  abbrev v : List ℕ
  v = e.rule.variable

  abbrev xs : List Name
  xs = other_variables e.rule

  abbrev s : Substitution
  s = renaming_of e

  abbrev ds : List Term
  ds = destructors e.rule

  each_variable : (x : Name) → is_variable (value_at s x) ≡ true
  each_variable x = ap is_variable (renamed_value (v ∷ xs) (e.variable ∷ e.others) x).is

  at : Standing (substituted s) ds goal
  at = standing (substituted s) ds goal candidate.stands

  abbrev d : Term
  d = at.element

  is : IsDestructor e.rule d
  is = destructor_is e.rule d at.among

  is_flat_call : is_flat d ≡ true
  is_flat_call = flat [] d is.flat

  no_value : is_value (substituted s d) ≡ false
  no_value = made_no_value s each_variable v d is_flat_call is.argument

  value_of_variable : value_at s v ≡ Variable e.variable
  value_of_variable = value_here v v e.variable (renaming xs e.others) (eq-bytes_eq v v refl)

  -- another variable of the call becomes another
  differs : (y : Name) → IsAmong y (variables_of d) → bytes_eq y v ≡ false → value_at s y ≡ value_at s v → ⊥
  differs y m other same = elim (of_rule e.rule d y is m) [
    | inl own ↦ let here : bytes_eq y v ≡ true = eq-bytes_eq y v own in absurd (cc)
    | inr there ↦
        let value : value_at (renaming xs e.others) y ≡ Variable e.variable = sym (value_later y v e.variable (renaming xs e.others) other) ∙ (same ∙ value_of_variable) in
        let has : has_name e.variable e.others ≡ true = among_has e.variable e.others (value_among xs e.others y e.variable there candidate.each value) in
        let none : has_name e.variable e.others ≡ false = candidate.differs in
        absurd (cc)
  ]

  serves : Serves v goal ds d (substituted s d) s
  serves =
      record {
        variables = each_variable;
        destructor = both (has_distinct_variables [] d) (has_argument v d) is.flat is.argument;
        makes = refl;
        other = no_value;
        apart = candidate.apart;
        differs = differs;
        stands = at.stands;
      }

  pub none_serve : (us : List Term) → ((p : Term) → IsAmong p (parts_in_all goal) → is_call p ≡ true → is_value p ≡ false → IsAmong p us) → NoneServe v goal e.rule.made_of us → ⊥
  none_serve us held none =
      let there : IsAmong (substituted s d) us = held (substituted s d) (one_among (substituted s d) goal at.stands) (made_call s d is_flat_call) no_value in
      let of_d : ServesNoneOf v goal ds us d = each_at (ServesNoneOf v goal ds us) d ds none at.among in
      each_at (ServesNone v goal ds d) (substituted s d) us of_d there s serves

-- ---- the rules of events

record Tested (b : Bool) (rule : ElimRule) (rules : List ElimRule) : Type 0 where
  is : b ≡ true
  among : IsAmong rule rules

tested : (b : Bool) (rule : ElimRule) (rules : List ElimRule) → IsAmong rule (if b then rules else []) → Tested b rule rules
tested true rule rules m = record { is = refl; among = m }
tested false rule rules m = absurd m

module _ (h : History) (hints : Hints) (goal : Clause) (us : List Term) (rule : ElimRule) where
  term_none : (n : Name) (classes : List RuleClass) (t : Term) → ((has_elim classes && is_enabled_for h hints n) ≡ true → TermServesNone goal us t) → IsAmong rule (if has_elim classes && is_enabled_for h hints n then rule_of_parts (rule_parts t) else []) → NoneServe rule.variable goal rule.made_of us
  term_none n classes t none m =
      let told = tested (has_elim classes && is_enabled_for h hints n) rule (rule_of_parts (rule_parts t)) m in
      none told.is rule told.among

  pub events_none : (es : List Event) → Each (EventServesNone h hints goal us) es → IsAmong rule (events_own_rules h hints es) → NoneServe rule.variable goal rule.made_of us
  events_none [] none m = absurd m
  events_none (AddShell s ∷ es) none m = events_none es none.1 m
  events_none (Declaration f n ∷ es) none m = events_none es none.1 m
  events_none (Defines d ∷ es) none m = events_none es none.1 m
  events_none (Axiom n classes t ∷ es) none m =
      elim (among_either rule (own_rules h hints (Axiom n classes t)) (events_own_rules h hints es) m) [ inl here ↦ term_none n classes t none.0 here | inr there ↦ events_none es none.1 there ]
  events_none (Lemma n classes t ∷ es) none m =
      elim (among_either rule (own_rules h hints (Lemma n classes t)) (events_own_rules h hints es) m) [ inl here ↦ term_none n classes t none.0 here | inr there ↦ events_none es none.1 there ]
  events_none (Toggle n old disabled ∷ es) none m = events_none es none.1 m

-- whether the event is an axiom or a lemma
is_theorem : Event → Bool
is_theorem (AddShell s) = false
is_theorem (Declaration f n) = false
is_theorem (Defines d) = false
is_theorem (Axiom n classes t) = true
is_theorem (Lemma n classes t) = true
is_theorem (Toggle n old disabled) = false

no_theorems : (h : History) (hints : Hints) (goal : Clause) (us : List Term) (es : List Event) → list_all (λ e. not (is_theorem e)) es ≡ true → Each (EventServesNone h hints goal us) es
unfolding is_theorem
no_theorems h hints goal us [] e = tt
no_theorems h hints goal us (AddShell s ∷ es) e = (tt, no_theorems h hints goal us es e)
no_theorems h hints goal us (Declaration f n ∷ es) e = (tt, no_theorems h hints goal us es e)
no_theorems h hints goal us (Defines d ∷ es) e = (tt, no_theorems h hints goal us es e)
no_theorems h hints goal us (Axiom n classes t ∷ es) e = absurd (cc)
no_theorems h hints goal us (Lemma n classes t ∷ es) e = absurd (cc)
no_theorems h hints goal us (Toggle n old disabled ∷ es) e = (tt, no_theorems h hints goal us es e)

ground_none : (h : History) (hints : Hints) (goal : Clause) (us : List Term) → Each (EventServesNone h hints goal us) ground_history
unfolding is_theorem
ground_none h hints goal us = no_theorems h hints goal us ground_history refl

pub none_of_events : (bank : Content) (h : History) (hints : Hints) (goal : Clause) (calls : List TermId) → HoldsAll bank calls goal → Each (EventServesNone h hints goal (terms_at bank calls)) h → HasNoneOfEvents h hints goal
none_of_events bank h hints goal calls held none =
    let us : List Term = terms_at bank calls in
    let all : Each (EventServesNone h hints goal us) (all_events h) = each_append (EventServesNone h hints goal us) ground_history h (ground_none h hints goal us) none in
    record {
      none = λ e among candidate. none_serve h hints goal e candidate us held.each (events_none h hints goal us e.rule (all_events h) all among);
    }

-- ---- the rule of a term

module _ (hs : List Term) (rule : ElimRule) where
  -- what is no equation has none
  pub not_equation : (c : Term) → ((p q : Term) → c ≡ Applied (Applied (Function (codes "EQUAL")) p) q → ⊥) → IsAmong rule (rule_of_equation hs (equation_of c)) → ⊥
  not_equation (Variable x) apart m = m
  not_equation (Function f) apart m = m
  not_equation (Applied (Variable x) b) apart m = m
  not_equation (Applied (Function f) b) apart m = m
  not_equation (Applied (Applied (Variable x) a) b) apart m = m
  not_equation (Applied (Applied (Function f) a) b) apart m = by_test (bytes_eq (codes "EQUAL") f) refl m
    where
      by_test : (t : Bool) → bytes_eq (codes "EQUAL") f ≡ t → IsAmong rule (rule_of_equation hs (elim t as (λ k. Option Equation) [ true ↦ Some (record { left = a; right = b }) | false ↦ None ])) → ⊥
      by_test true k n = apart a b (ap (λ g. Applied (Applied (Function g) a) b) (sym (bytes_eq-true (codes "EQUAL") f k)))
      by_test false k n = n
  not_equation (Applied (Applied (Applied g d) a) b) apart m = m

  -- an equation whose right side is no variable has none
  sides_none : (t u : Term) → is_variable u ≡ false → IsAmong rule (rule_of_sides hs t u) → ⊥
  sides_none t (Variable x) e m = absurd (cc)
  sides_none t (Function f) e m = m
  sides_none t (Applied f u) e m = m

  pub no_variable : (c t u : Term) → c ≡ Applied (Applied (Function (codes "EQUAL")) t) u → is_variable u ≡ false → IsAmong rule (rule_of_equation hs (equation_of c)) → ⊥
  no_variable c t u is apart m = sides_none t u apart (subst (λ w. IsAmong rule (rule_of_equation hs (equation_of w))) is m)

-- the rule of an equation with a variable
pub equation_rule : (hs : List Term) (c t u : Term) (x : List ℕ) → c ≡ Applied (Applied (Function (codes "EQUAL")) t) u → u ≡ Variable x → rule_of_equation hs (equation_of c) ≡ record { hypotheses = hs; made_of = t; variable = x } ∷ []
equation_rule hs c t u x is variable = ap (λ w. rule_of_equation hs (equation_of w)) (is ∙ ap (Applied (Applied (Function (codes "EQUAL")) t)) variable)

-- a call is no variable
call_applied : (t : Term) (us : List Term) → is_variable t ≡ false → is_variable (applied t us) ≡ false
call_applied t [] e = e
call_applied t (u ∷ us) e = call_applied (Applied t u) us refl

pub call_apart : (t : Term) (f : Name) (us : List Term) → t ≡ call f us → is_variable t ≡ false
call_apart t f us is = ap is_variable is ∙ call_applied (Function f) us refl

-- no rule is looked at
pub not_wanted : (w a b x y : Bool) → w ≡ (a && b) → a ≡ x → b ≡ y → w ≡ false → (x && y) ≡ true → ⊥
not_wanted w a b x y both first second none so =
    let here : (x && y) ≡ false = ap (λ c. c && y) (sym first) ∙ (ap (λ c. a && c) (sym second) ∙ (sym both ∙ none)) in
    absurd (cc)

pub wanted : (w a b x y : Bool) → w ≡ (a && b) → a ≡ x → b ≡ y → w ≡ true → (x && y) ≡ true
wanted w a b x y both first second holds = ap (λ c. c && y) (sym first) ∙ (ap (λ c. a && c) (sym second) ∙ (sym both ∙ holds))

-- ---- what is found

pub match_mapped : {X : Type 0} (N M : Type 0) (S T : X → Type 0) (o : Option X) → (N → M) → ((x : X) → S x → T x) → MatchOption o N S → MatchOption o M T
match_mapped N M S T None f g h = f h
match_mapped N M S T (Some x) f g h = g x h

pub match_option : {X Y : Type 0} (k : X → Y) (N M : Type 0) (S : X → Type 0) (T : Y → Type 0) (o : Option X) (p : Option Y) → p ≡ option_map k o → (N → M) → ((x : X) → S x → T (k x)) → MatchOption o N S → MatchOption p M T
match_option {X} {Y} k N M S T o p is f g h = subst (λ (q : Option Y). MatchOption q M T) (sym is) (by_option o h)
  where
    by_option : (o : Option X) → MatchOption o N S → MatchOption (option_map k o) M T
    by_option None h = f h
    by_option (Some x) h = g x h

pub if_none : {X : Type 0} (N : Type 0) (S : X → Type 0) (o : Option X) → o ≡ None → MatchOption o N S → N
if_none N S None e h = h
if_none N S (Some x) e h = absurd (cc)

-- the rule of a term
module _ (bank : Content) (goal : Clause) (us : List Term) (t : Term) (r : Rule) (rule : IsRule bank t r) where
  abbrev calls : List Term
  calls = destructors_in (text_at bank r.name) (term_at bank r.made_of)

  pub term_serves_none : NoneServe (text_at bank r.name) goal (term_at bank r.made_of) us → TermServesNone goal us t
  term_serves_none none other m = by_place (subst (IsAmong other) rule.rule m)
    where
      by_place : IsAmong other (rule_at bank t r ∷ []) → NoneServe other.variable goal other.made_of us
      by_place (inl is) = subst (λ (q : ElimRule). NoneServe q.variable goal q.made_of us) (sym is) none
      by_place (inr nothing) = absurd nothing

  pub term_serves : (served : Served) → IsServedBy bank goal calls calls r served → TermServes bank goal t served
  term_serves served by =
      record {
        rule = subst (IsRule bank t) (sym by.rule) rule;
        by = subst (λ (q : Rule). IsServedBy bank goal (destructors_in (text_at bank q.name) (term_at bank q.made_of)) (destructors_in (text_at bank q.name) (term_at bank q.made_of)) q served) (sym by.rule) by;
      }

-- one of more events
pub among_more : (bank : Content) (h : History) (hints : Hints) (goal : Clause) (es more : List Event) (c : Candidate) → ((e : Event) → IsAmong e es → IsAmong e more) → IsCandidate bank h hints goal es c → IsCandidate bank h hints goal more c
among_more bank h hints goal es more c within is =
    record {
      name = is.name;
      term = is.term;
      classes = is.classes;
      among = elim is.among [ inl axiom_one ↦ inl (within _ axiom_one) | inr lemma_one ↦ inr (within _ lemma_one) ];
      serves = is.serves;
    }

-- one of an entry's is one of all entries'
pub entry_found : (bank : Content) (h : History) (hints : Hints) (goal : Clause) (entries : List Entry) (i : ℕ) (e : Entry) (c : Candidate) → i < length entries → e ≡ get_or entries i e → IsCandidate bank h hints goal (event_at bank e ∷ []) c → IsCandidate bank h hints goal (all_events_at bank entries) c
entry_found bank h hints goal entries i e c below is one =
    among_more bank h hints goal (event_at bank e ∷ []) (all_events_at bank entries) c (λ f m. elim m [ inl same ↦ subst (λ (k : Event). IsAmong k (all_events_at bank entries)) (sym same) here | inr none ↦ absurd none ]) one
  where
    here : IsAmong (event_at bank e) (all_events_at bank entries)
    here = subst (λ (k : Entry). IsAmong (event_at bank k) (all_events_at bank entries)) (sym is) (element_among (event_at bank) entries i e below)

-- the entries past the ground history stand
drop_stand : (P : Entry → Type 0) (n : ℕ) (entries : List Entry) → All P entries → All P (drop n entries)
drop_stand P zero entries all = all
drop_stand P (suc n) [] all = all
drop_stand P (suc n) (e ∷ entries) all = drop_stand P n entries (All-tail P e entries all)

pub dropped_stand : (P : Entry → Type 0) (entries : List Entry) → All P entries → All P (past_ground entries)
dropped_stand P entries all = drop_stand P ground_length entries all

-- the candidate of an axiom or a lemma that is found
module _ (bank : Content) (h : History) (hints : Hints) (goal : Clause) (us : List Term) (name : Sym) (named : IsNamed bank name) (t : TermId) (stands : Stands bank t) (classes : List RuleClass) (found : Option Served) (result : Option Candidate) (is : result ≡ option_map (candidate_by name t) found) where
  abbrev N : Type 0
  N = (has_elim classes && is_enabled_for h hints (text_at bank name)) ≡ true → TermServesNone goal us (term_at bank t)

  abbrev S : Served → Type 0
  S = RuleServes bank h hints goal (text_at bank name) classes (term_at bank t)

  pub axiom_found : MatchOption found N S → MatchOption result (EventServesNone h hints goal us (Axiom (text_at bank name) classes (term_at bank t))) (IsCandidate bank h hints goal (Axiom (text_at bank name) classes (term_at bank t) ∷ []))
  axiom_found told =
      match_option (candidate_by name t) N (EventServesNone h hints goal us (Axiom (text_at bank name) classes (term_at bank t))) S (IsCandidate bank h hints goal (Axiom (text_at bank name) classes (term_at bank t) ∷ [])) found result is (λ none. none)
      (λ served serves. record { name = named; term = stands; classes = classes; among = inl (inl refl); serves = serves }) told

  pub lemma_found : MatchOption found N S → MatchOption result (EventServesNone h hints goal us (Lemma (text_at bank name) classes (term_at bank t))) (IsCandidate bank h hints goal (Lemma (text_at bank name) classes (term_at bank t) ∷ []))
  lemma_found told =
      match_option (candidate_by name t) N (EventServesNone h hints goal us (Lemma (text_at bank name) classes (term_at bank t))) S (IsCandidate bank h hints goal (Lemma (text_at bank name) classes (term_at bank t) ∷ [])) found result is (λ none. none)
      (λ served serves. record { name = named; term = stands; classes = classes; among = inr (inl refl); serves = serves }) told
