-- A goal without a call of an accessor on a variable has no candidate of ELIM, where no axiom or lemma has the class.
use Rattle.std.proofs.Common.{◌≡◌, ℕ, Bool, true, false, ◌||◌, ◌&&◌, List, [], ◌∷◌, map, refl, sym, ap, ◌∙◌, subst, inl, inr}
use Rattle.std.specs.Prelude.{◌⊎◌, codes, bytes_eq, if◌then◌else◌, is_some, None}
use Rattle.std.specs.List.{list_any}
use Rattle.nq_logic.specs.Terms.{Name, Term, Variable, Function, Applied, applied, call, substituted, value_at, IsAmong}
use Rattle.nq_logic.specs.Histories.{History, Shell, Part, Event, AddShell, Declaration, Defines, Axiom, Lemma, Toggle, events_shells}
use Rattle.nq_logic.specs.Ground.{all_events}
use Rattle.nq_logic.specs.Names.{has_name}
use Rattle.nq_logic.specs.Shells.{whole, remade, recognizes, accessed}
use Rattle.nq_logic.specs.ShellPrinciple.{shells_of}
use Rattle.nq_logic.specs.Numerals.{number_of, next_number}
use Rattle.nq_logic.specs.Values.{is_value, is_tree_value}
use Rattle.nq_logic.specs.RuleShapes.{has_argument, has_distinct_variables, is_destructor_call}
use Rattle.nq_bank.specs.declared.node.TermId.{TermId}
use Rattle.nq_bank.specs.Content.{Content, terms_at}
use Rattle.nq_bank.proofs.Texts.{eq-bytes_eq}
use Rattle.nq_history.specs.declared.entry.Entry.{Entry}
use Rattle.nq_history.specs.Events.{all_events_at, events_at, HistoryStands}
use Rattle.nq_history.proofs.LookupLemmas.{all_events_are}
use Rattle.nq_proof.specs.Clauses.{Clause, distinct, same_term, without}
use Rattle.nq_events.specs.Events.{Hints}
use Rattle.nq_goals.specs.Eliminating.{ElimRule, Eliminating, EliminateCandidate, shell_rules, event_rules, events_rules, has_parts, destructors, other_variables, renaming, renaming_of, one_stands, no_base}
use Rattle.nq_goals.specs.Functions.{accessors}
use Rattle.nq_goals.specs.Generalizing.{chosen_from}
use Rattle.nq_goals.specs.Replacing.{parts_in, parts_in_all, stands_in_one}
use Rattle.nq_stuck.specs.Calls.{HoldsAll}
use Rattle.nq_stuck.specs.Destructors.{is_elim_event, is_accessor_call, EliminatesNone}
use Rattle.nq_stuck.proofs.Joined.{among_either}
use Rattle.nq_stuck.proofs.Names.{has_joined}
use Rattle.nq_stuck.proofs.CallLemmas.{inner_applied}
use Rattle.nq_stuck.proofs.StandingLemmas.{one_of, stands_found}

-- a rule of a shell that an event adds
pub record OfShell (events : List Event) (rule : ElimRule) : Type 0 where
  pub shell : Shell
  pub added : (x : Name) → has_name x (map (λ part. part.accessor) shell.parts) ≡ true → has_name x (accessors (events_shells events)) ≡ true
  pub rule_is : IsAmong rule (shell_rules shell)

right_either : (a b : Bool) → b ≡ true → (a || b) ≡ true
right_either true b e = refl
right_either false b e = e

neither : (a b : Bool) → (a || b) ≡ false → (a ≡ false) × (b ≡ false)
neither true b e = absurd (cc)
neither false b e = (refl, e)

of_later : (rule : ElimRule) (e : Event) (es : List Event) → ((x : Name) → has_name x (accessors (events_shells es)) ≡ true → has_name x (accessors (events_shells (e ∷ es))) ≡ true) → OfShell es rule →
    OfShell (e ∷ es) rule
of_later rule e es more of = record { shell = of.shell; added = λ x h. more x (of.added x h); rule_is = of.rule_is }

no_rules : (h : History) (hints : Hints) (rule : ElimRule) (b c : Bool) (rules : List ElimRule) → b ≡ false → IsAmong rule (if b && c then rules else []) → ⊥
no_rules h hints rule true c rules e m = absurd (cc)
no_rules h hints rule false c rules e m = m

-- without axioms and lemmas of the class, each rule is a shell's
rules_of_shells : (h : History) (hints : Hints) (rule : ElimRule) (es : List Event) → list_any is_elim_event es ≡ false → IsAmong rule (events_rules h hints es) → OfShell es rule
rules_of_shells h hints rule [] e m = absurd m
rules_of_shells h hints rule (AddShell s ∷ es) e m =
    elim (among_either rule (shell_rules s) (events_rules h hints es) m) [
      | inl here ↦
          record {
            shell = s;
            added = λ x named. has_joined x (map (λ part. part.accessor) s.parts) (accessors (events_shells es)) ∙ ap (λ b. b || has_name x (accessors (events_shells es))) named;
            rule_is = here;
          }
      | inr there ↦
          of_later rule (AddShell s) es
          (λ x named. has_joined x (map (λ part. part.accessor) s.parts) (accessors (events_shells es)) ∙ right_either (has_name x (map (λ part. part.accessor) s.parts)) (has_name x (accessors (events_shells es))) named)
          (rules_of_shells h hints rule es e there)
    ]
rules_of_shells h hints rule (Declaration f n ∷ es) e m = of_later rule (Declaration f n) es (λ x named. named) (rules_of_shells h hints rule es e m)
rules_of_shells h hints rule (Defines d ∷ es) e m = of_later rule (Defines d) es (λ x named. named) (rules_of_shells h hints rule es e m)
rules_of_shells h hints rule (Axiom n classes t ∷ es) e m =
    let none = neither (is_elim_event (Axiom n classes t)) (list_any is_elim_event es) e in
    elim (among_either rule (event_rules h hints (Axiom n classes t)) (events_rules h hints es) m) [
      | inl here ↦ absurd (no_rules h hints rule (is_elim_event (Axiom n classes t)) _ _ none.0 here)
      | inr there ↦ of_later rule (Axiom n classes t) es (λ x named. named) (rules_of_shells h hints rule es none.1 there)
    ]
rules_of_shells h hints rule (Lemma n classes t ∷ es) e m =
    let none = neither (is_elim_event (Lemma n classes t)) (list_any is_elim_event es) e in
    elim (among_either rule (event_rules h hints (Lemma n classes t)) (events_rules h hints es) m) [
      | inl here ↦ absurd (no_rules h hints rule (is_elim_event (Lemma n classes t)) _ _ none.0 here)
      | inr there ↦ of_later rule (Lemma n classes t) es (λ x named. named) (rules_of_shells h hints rule es none.1 there)
    ]
rules_of_shells h hints rule (Toggle n old disabled ∷ es) e m = of_later rule (Toggle n old disabled) es (λ x named. named) (rules_of_shells h hints rule es e m)

-- the one rule of a shell with parts
record RuleOf (s : Shell) (rule : ElimRule) : Type 0 where
  pub some : has_parts (map (λ part. part.accessor) s.parts) ≡ true
  pub is : rule ≡ record { hypotheses = recognizes s whole ∷ no_base s.base; made_of = remade s; variable = codes "X" }

rule_of : (s : Shell) (rule : ElimRule) → IsAmong rule (shell_rules s) → RuleOf s rule
rule_of s rule m = by_test (has_parts (map (λ part. part.accessor) s.parts)) refl m
  where
    by_test : (b : Bool) → has_parts (map (λ part. part.accessor) s.parts) ≡ b →
        IsAmong rule
        (elim b as (λ b. List ElimRule) [
          | true ↦ record { hypotheses = recognizes s whole ∷ no_base s.base; made_of = remade s; variable = codes "X" } ∷ []
          | false ↦ []
        ]) → RuleOf s rule
    by_test true e (inl is) = record { some = e; is = is }
    by_test true e (inr none) = absurd none
    by_test false e m = absurd m

-- the constructor's call is no call of variables
not_distinct : (t : Term) (part : Part) (parts : List Part) (seen : List Name) → has_distinct_variables seen (applied t (accessed whole (part ∷ parts))) ≡ false
not_distinct t part [] seen = refl
not_distinct t part (next ∷ parts) seen = not_distinct (Applied t (Applied (Function part.accessor) whole)) next parts seen

pub whole_not_distinct : (s : Shell) (parts : List Part) → has_parts (map (λ part. part.accessor) parts) ≡ true → has_distinct_variables [] (call s.constructor (accessed whole parts)) ≡ false
whole_not_distinct s [] e = absurd (cc)
whole_not_distinct s (part ∷ parts) e = not_distinct (Function s.constructor) part parts []

-- the call of an accessor on X
pub record AccessorOn (parts : List Part) (d : Term) : Type 0 where
  pub accessor : List ℕ
  pub named : has_name accessor (map (λ part. part.accessor) parts) ≡ true
  pub is : d ≡ Applied (Function accessor) whole

parts_accessed : (parts : List Part) (d : Term) → IsAmong d (parts_in_all (accessed whole parts)) → AccessorOn parts d ⊎ (d ≡ whole)
parts_accessed [] d m = absurd m
parts_accessed (part ∷ parts) d m =
    elim m [
      | inl first ↦
          inl (record {
            accessor = part.accessor;
            named = ap (λ b. b || has_name part.accessor (map (λ part. part.accessor) parts)) (eq-bytes_eq part.accessor part.accessor refl);
            is = first;
          })
      | inr later ↦
          elim later [
            | inl w ↦ inr w
            | inr others ↦
                elim (parts_accessed parts d others) [
                  | inl on ↦
                      inl (record {
                        accessor = on.accessor;
                        named = right_either (bytes_eq on.accessor part.accessor) (has_name on.accessor (map (λ part. part.accessor) parts)) on.named;
                        is = on.is;
                      })
                  | inr w ↦ inr w
                ]
          ]
    ]

left_true : (a b : Bool) → (a && b) ≡ true → a ≡ true
left_true true b e = refl
left_true false b e = e

-- a destructor call of the rule is the call of an accessor on X
pub destructor_is : (s : Shell) (d : Term) → has_parts (map (λ part. part.accessor) s.parts) ≡ true → IsAmong d (parts_in (remade s)) → is_destructor_call (codes "X") d ≡ true → AccessorOn s.parts d
destructor_is s d some (inl e) is =
    let apart : has_distinct_variables [] d ≡ true = left_true (has_distinct_variables [] d) (has_argument (codes "X") d) is in
    let never : has_distinct_variables [] d ≡ false = ap (has_distinct_variables []) e ∙ whole_not_distinct s s.parts some in
    absurd (cc)
destructor_is s d some (inr inner) is =
    elim (parts_accessed s.parts d (subst (IsAmong d) (inner_applied (Function s.constructor) (accessed whole s.parts)) inner)) [
      | inl on ↦ on
      | inr w ↦ let never : is_destructor_call (codes "X") d ≡ false = ap (is_destructor_call (codes "X")) w in absurd (cc)
    ]

pub chosen_in : (test : Term → Bool) (d : Term) (ts : List Term) → IsAmong d (chosen_from test ts) → IsAmong d ts × (test d ≡ true)
chosen_in test d [] m = absurd m
chosen_in test d (t ∷ ts) m = by_test (λ n. chosen_in test d ts n) (test t) refl m
  where
    by_test : (IsAmong d (chosen_from test ts) → IsAmong d ts × (test d ≡ true)) → (b : Bool) → test t ≡ b →
        IsAmong d (elim b as (λ b. List Term) [ true ↦ t ∷ chosen_from test ts | false ↦ chosen_from test ts ]) → IsAmong d (t ∷ ts) × (test d ≡ true)
    by_test later true e (inl is) = (inl is, ap test is ∙ e)
    by_test later true e (inr n) = (inr (later n).0, (later n).1)
    by_test later false e n = (inr (later n).0, (later n).1)

without_in : (d t : Term) (c : Clause) → IsAmong d (without t c) → IsAmong d c
without_in d t [] m = absurd m
without_in d t (u ∷ c) m = by_test (λ n. without_in d t c n) (same_term t u) m
  where
    by_test : (IsAmong d (without t c) → IsAmong d c) → (b : Bool) → IsAmong d (if b then without t c else u ∷ without t c) → IsAmong d (u ∷ c)
    by_test later true n = inr (later n)
    by_test later false (inl is) = inl is
    by_test later false (inr n) = inr (later n)

pub distinct_from : (d : Term) (ts : List Term) → IsAmong d (distinct ts) → IsAmong d ts
distinct_from d [] m = absurd m
distinct_from d (t ∷ ts) (inl is) = inl is
distinct_from d (t ∷ ts) (inr m) = inr (distinct_from d ts (without_in d t (distinct ts) m))

-- an element whose image stands in the goal
record Standing (f : Term → Term) (ds : List Term) (goal : Clause) : Type 0 where
  pub element : Term
  pub among : IsAmong element ds
  pub stands : stands_in_one (f element) goal ≡ true

standing : (f : Term → Term) (ds : List Term) (goal : Clause) → one_stands (map f ds) goal ≡ true → Standing f ds goal
standing f [] goal e = absurd (cc)
standing f (d ∷ ds) goal e =
    elim (one_of (stands_in_one (f d) goal) (one_stands (map f ds) goal) e) [
      | inl here ↦ record { element = d; among = inl refl; stands = here }
      | inr there ↦ let rest = standing f ds goal there in record { element = rest.element; among = inr rest.among; stands = rest.stands }
    ]

-- a call on a variable is no value
pub call_no_value : (f : List ℕ) (x : List ℕ) → is_value (Applied (Function f) (Variable x)) ≡ false
unfolding number_of is_tree_value
call_no_value f x = by_tests (bytes_eq f (codes "ADD1")) (bytes_eq f (codes "PACK")) (bytes_eq f (codes "MINUS"))
  where
    by_tests : (a b c : Bool) → (is_some (if a then next_number None else None) || (b && false || c && false)) ≡ false
    by_tests true true true = refl
    by_tests true true false = refl
    by_tests true false true = refl
    by_tests true false false = refl
    by_tests false true true = refl
    by_tests false true false = refl
    by_tests false false true = refl
    by_tests false false false = refl

pub any_among : (test : Term → Bool) (t : Term) (ts : List Term) → IsAmong t ts → test t ≡ true → list_any test ts ≡ true
any_among test t [] m e = absurd m
any_among test t (u ∷ ts) (inl is) e = ap (λ b. b || list_any test ts) (ap test (sym is) ∙ e)
any_among test t (u ∷ ts) (inr m) e = right_either (test u) (list_any test ts) (any_among test t ts m e)

module _ (h : History) (hints : Hints) (goal : Clause) (e : Eliminating) (candidate : EliminateCandidate h hints goal e) where
  -- the call of an accessor on a variable that stands in the goal
  pub record Accessed : Type 0 where
    pub accessor : List ℕ
    pub named : has_name accessor (accessors (shells_of h)) ≡ true
    pub stands : stands_in_one (Applied (Function accessor) (Variable e.variable)) goal ≡ true

  pub accessed_by : OfShell (all_events h) e.rule → Accessed
  accessed_by of =
      let rule = rule_of of.shell e.rule of.rule_is in
      let found = standing (substituted (renaming_of e)) (destructors e.rule) goal candidate.stands in
      let d = found.element in
      let chosen = chosen_in (is_destructor_call e.rule.variable) d (parts_in e.rule.made_of) (distinct_from d (chosen_from (is_destructor_call e.rule.variable) (parts_in e.rule.made_of)) found.among) in
      let made : e.rule.made_of ≡ remade of.shell = ap (λ (r : ElimRule). r.made_of) rule.is in
      let variable : e.rule.variable ≡ codes "X" = ap (λ (r : ElimRule). r.variable) rule.is in
      let on = destructor_is of.shell d rule.some (subst (λ t. IsAmong d (parts_in t)) made chosen.0) (subst (λ x. is_destructor_call x d ≡ true) variable chosen.1) in
      let value : value_at (renaming_of e) (codes "X") ≡ Variable e.variable = value_is variable in
      let image : substituted (renaming_of e) d ≡ Applied (Function on.accessor) (Variable e.variable) = ap (substituted (renaming_of e)) on.is ∙ ap (λ v. Applied (Function on.accessor) v) value in
      record {
        accessor = on.accessor;
        named = of.added on.accessor on.named;
        stands = subst (λ t. stands_in_one t goal ≡ true) image found.stands;
      }
    where
      value_is : e.rule.variable ≡ codes "X" → value_at (renaming_of e) (codes "X") ≡ Variable e.variable
      value_is variable =
          ap (λ b. if b then Variable e.variable else value_at (renaming (other_variables e.rule) e.others) (codes "X")) (eq-bytes_eq (codes "X") e.rule.variable (sym variable))

pub eliminates_none : (bank : Content) (h : History) (calls : List TermId) (goal : Clause) → list_any is_elim_event (all_events h) ≡ false → HoldsAll bank calls goal →
    list_any (is_accessor_call (shells_of h)) (terms_at bank calls) ≡ false → EliminatesNone h goal
eliminates_none bank h calls goal none held absent =
    record {
      none = λ hints e candidate.
          let at = accessed_by h hints goal e candidate (rules_of_shells h hints e.rule (all_events h) none candidate.enabled) in
          let a = Applied (Function at.accessor) (Variable e.variable) in
          let found = stands_found bank calls goal a held refl (call_no_value at.accessor e.variable) at.stands in
          let there = any_among (is_accessor_call (shells_of h)) a (terms_at bank calls) found at.named in
          absurd (cc);
    }

-- the same, of what was told
pub nothing_eliminated : (bank : Content) (history : List Entry) (entries : List Entry) (shells : List Shell) (calls these : List TermId) (goal : Clause) (rule called : Bool) → HistoryStands bank history →
    entries ≡ history → rule ≡ list_any is_elim_event (all_events_at bank entries) → rule ≡ false → HoldsAll bank calls goal → shells ≡ shells_of (events_at bank history) → these ≡ calls →
    called ≡ list_any (is_accessor_call shells) (terms_at bank these) → called ≡ false → EliminatesNone (events_at bank history) goal
nothing_eliminated bank history entries shells calls these goal rule called stands same told no_rule held are slice found absent =
    eliminates_none bank (events_at bank history) calls goal
    (ap (list_any is_elim_event) (all_events_are bank history stands) ∙ (ap (λ es. list_any is_elim_event (all_events_at bank es)) (sym same) ∙ (sym told ∙ no_rule))) held
    (ap (λ ids. list_any (is_accessor_call (shells_of (events_at bank history))) (terms_at bank ids)) (sym slice)
    ∙ (ap (λ s. list_any (is_accessor_call s) (terms_at bank these)) (sym are) ∙ (sym found ∙ absent)))
