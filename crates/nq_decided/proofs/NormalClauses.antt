-- Clauses of variables and NOTs of variables are normal.
use Rattle.std.proofs.Common.{◌≡◌, ◌∙◌, Bool, true, false, ◌||◌, ◌&&◌, Option, Some, None, List, [], ◌∷◌, ◌++◌, append_assoc, map, refl, sym, ap, subst}
use Rattle.std.specs.Prelude.{not, bytes_eq, codes, if◌then◌else◌, is_some}
use Rattle.std.specs.List.{list_any, list_all}
use Rattle.std.proofs.lemmas.List.{map-append}
use Rattle.std.proofs.lemmas.Slice.Eq.{bytes_eq-Decides}
use Rattle.nq_logic.specs.Terms.{Name, Term, Variable, Function, Applied, Substitution, Each}
use Rattle.nq_logic.proofs.Lists.{each_mono}
use Rattle.nq_logic.specs.Words.{not_term}
use Rattle.nq_logic.specs.Numerals.{number_of}
use Rattle.nq_logic.specs.Values.{is_tree_value}
use Rattle.nq_logic.specs.Names.{are_distinct, has_name}
use Rattle.nq_logic.specs.Histories.{History, Event, AddShell, Declaration, Defines, Axiom, Lemma, Toggle, RuleClass}
use Rattle.nq_logic.specs.RuleShapes.{is_call, is_rewritable, are_rewritable, and_parts, rule_parts, is_function_named}
use Rattle.nq_proof.specs.Clauses.{Clause, has_term, has_opposite, same_term}
use Rattle.nq_events.specs.Events.{Hints}
use Rattle.nq_goals.specs.Hints.{is_enabled_for}
use Rattle.nq_goals.specs.Functions.{is_call_among, is_openable, propositional}
use Rattle.nq_goals.specs.Matching.{is_instance, is_permutative, match_from}
use Rattle.nq_goals.specs.Occurrences.{atoms_of, open_in, open_terms_all}
use Rattle.nq_goals.specs.Normal.{IsNormal, event_parts, is_decided_test, is_rewrite, is_settled, is_without, kind_of_part, kind_of_equation, parts_if_rule, parts_of_events, plain_parts, rewrites, rewrites_by, Everywhere, Permutes, Literally, PartKind}
use Rattle.nq_decided.specs.Literals.{Signed, literal, literals, AreApart}
use Rattle.nq_decided.specs.Shaped.{is_shaped, is_shaped_rule}
use Rattle.nq_decided.specs.Laws.{ClausesAreNormal}

-- ---- tests on booleans and lists

either_false : (a b : Bool) → a ≡ false → b ≡ false → (a || b) ≡ false
either_false a b e f = ap (λ (x : Bool). x || b) e ∙ f

and_first : (a b : Bool) → (a && b) ≡ true → a ≡ true
and_first true b e = refl
and_first false b e = e

and_second : (a b : Bool) → (a && b) ≡ true → b ≡ true
and_second true b e = e
and_second false b e = absurd cc

any_both : {X : Type 0} (test : X → Bool) (xs ys : List X) → list_any test xs ≡ false → list_any test ys ≡ false → list_any test (xs ++ ys) ≡ false
any_both test [] ys e f = f
any_both test (x ∷ xs) ys e f = by_test (test x) e (λ k. any_both test xs ys k f)
  where
    by_test : (b : Bool) → (b || list_any test xs) ≡ false → (list_any test xs ≡ false → list_any test (xs ++ ys) ≡ false) → (b || list_any test (xs ++ ys)) ≡ false
    by_test true k rest = absurd cc
    by_test false k rest = rest k

none_of : {X Y : Type 0} (f : X → Y) (test : Y → Bool) (xs : List X) → ((x : X) → test (f x) ≡ false) → list_any test (map f xs) ≡ false
none_of f test [] each = refl
none_of f test (x ∷ xs) each = either_false (test (f x)) (list_any test (map f xs)) (each x) (none_of f test xs each)

-- ---- what stands in such a clause

abbrev variable : Signed → Term
variable s = Variable s.name

atoms : (ss : List Signed) → atoms_of (literals ss) ≡ map variable ss
atoms [] = refl
atoms (s ∷ ss) = by_sign s.denied (atoms ss)
  where
    by_sign : (b : Bool) → atoms_of (literals ss) ≡ map variable ss →
        atoms_of ((elim b as (λ b. Term) [ true ↦ not_term (Variable s.name) | false ↦ Variable s.name ]) ∷ literals ss) ≡ Variable s.name ∷ map variable ss
    by_sign true rest = ap (λ (ts : List Term). Variable s.name ∷ ts) rest
    by_sign false rest = ap (λ (ts : List Term). Variable s.name ∷ ts) rest

open_variables : (ss : List Signed) → open_terms_all (map variable ss) ≡ map variable ss
unfolding number_of is_tree_value
open_variables [] = refl
open_variables (s ∷ ss) = ap (λ (ts : List Term). Variable s.name ∷ ts) (open_variables ss)

open_clause : (ss : List Signed) → open_in (literals ss) ≡ map variable ss
open_clause ss = ap open_terms_all (atoms ss) ∙ open_variables ss

none_open : (test : Term → Bool) (ss : List Signed) → ((x : Name) → test (Variable x) ≡ false) → list_any test (open_in (literals ss)) ≡ false
none_open test ss each = ap (list_any test) (open_clause ss) ∙ none_of variable test ss (λ s. each s.name)

none_in_atoms : (test : Term → Bool) (ss : List Signed) → ((x : Name) → test (Variable x) ≡ false) → list_any test (atoms_of (literals ss)) ≡ false
none_in_atoms test ss each = ap (list_any test) (atoms ss) ∙ none_of variable test ss (λ s. each s.name)

none_in_clause : (test : Term → Bool) (ss : List Signed) → ((x : Name) → test (Variable x) ≡ false) → ((x : Name) → test (not_term (Variable x)) ≡ false) → list_any test (literals ss) ≡ false
none_in_clause test ss each denied = none_of literal test ss (λ s. by_sign s.name s.denied)
  where
    by_sign : (x : Name) (b : Bool) → test (elim b as (λ b. Term) [ true ↦ not_term (Variable x) | false ↦ Variable x ]) ≡ false
    by_sign x true = denied x
    by_sign x false = each x

-- ---- rules

-- a call is no pattern of a variable
no_match : (l : Term) (x : Name) → is_call l ≡ true → is_instance l (Variable x) ≡ false
no_match (Variable y) x e = absurd cc
no_match (Function f) x e = refl
no_match (Applied p q) x e = refl

everywhere : (l part : Term) (ss : List Signed) → is_call l ≡ true → rewrites_by (Everywhere l) part (literals ss) ≡ false
everywhere l part ss e = none_open (is_instance l) ss (λ x. no_match l x e)

literally : (part : Term) (ss : List Signed) → is_call part ≡ true → ((x : Name) → is_instance part (not_term (Variable x)) ≡ false) → rewrites_by Literally part (literals ss) ≡ false
literally part ss e denied =
    either_false (list_any (is_instance part) (literals ss)) (list_any (is_instance part) (atoms_of (literals ss))) (none_in_clause (is_instance part) ss (λ x. no_match part x e) denied)
    (none_in_atoms (is_instance part) ss (λ x. no_match part x e))

part_rewrites : (part : Term) (ss : List Signed) → is_rewritable part ≡ true → rewrites (literals ss) part ≡ false
part_rewrites (Variable x) ss e = absurd cc
part_rewrites (Function f) ss e = literally (Function f) ss refl (λ x. refl)
part_rewrites (Applied (Variable x) u) ss e = absurd cc
part_rewrites (Applied (Function f) u) ss e = by_name (bytes_eq f (codes "NOT")) refl (and_first _ _ e)
  where
    other : bytes_eq f (codes "NOT") ≡ false → (x : Name) → is_instance (Applied (Function f) u) (not_term (Variable x)) ≡ false
    other k x = ap (λ (b : Bool). is_some (elim (if◌then◌else◌ {A = Option Substitution} b (Some []) None) as (λ o. Option Substitution) [ None ↦ None | Some r ↦ match_from u (Variable x) r ])) k

    by_name : (b : Bool) → bytes_eq f (codes "NOT") ≡ b → is_call (if b then u else Applied (Function f) u) ≡ true →
        rewrites_by (if b then Everywhere u else Literally) (Applied (Function f) u) (literals ss) ≡ false
    by_name true k call = everywhere u (Applied (Function f) u) ss call
    by_name false k call = literally (Applied (Function f) u) ss call (other k)
part_rewrites (Applied (Applied f l) r) ss e = by_name (is_function_named (codes "EQUAL") f) (and_first _ _ e)
  where
    by_kind : (b : Bool) → is_call l ≡ true → rewrites_by (if b then Permutes else Everywhere l) (Applied (Applied f l) r) (literals ss) ≡ false
    by_kind true call = refl
    by_kind false call = everywhere l (Applied (Applied f l) r) ss call

    by_name : (b : Bool) → is_call (if b then l else Applied (Applied f l) r) ≡ true →
        rewrites_by (if b then kind_of_equation l r else Literally) (Applied (Applied f l) r) (literals ss) ≡ false
    by_name true call = by_kind (is_permutative l r) call
    by_name false call = literally (Applied (Applied f l) r) ss call (λ x. refl)

parts_rewrite : (parts : List Term) (ss : List Signed) → are_rewritable parts ≡ true → list_any (rewrites (literals ss)) parts ≡ false
parts_rewrite [] ss e = refl
parts_rewrite (part ∷ parts) ss e =
    either_false (rewrites (literals ss) part) (list_any (rewrites (literals ss)) parts) (part_rewrites part ss (and_first (is_rewritable part) (are_rewritable parts) e))
    (parts_rewrite parts ss (and_second (is_rewritable part) (are_rewritable parts) e))

rule_rewrites : (h : History) (hints : Hints) (name : Name) (classes : List RuleClass) (t : Term) (ss : List Signed) → is_shaped_rule classes t ≡ true → list_any (rewrites (literals ss)) (parts_if_rule h hints name classes t) ≡ false
rule_rewrites h hints name classes t ss e = by_class (list_any is_rewrite classes) (is_enabled_for h hints name) e
  where
    by_form : (b : Bool) → are_rewritable (and_parts (rule_parts t).conclusion) ≡ true → list_any (rewrites (literals ss)) (if b then and_parts (rule_parts t).conclusion else []) ≡ false
    by_form true shaped = parts_rewrite (and_parts (rule_parts t).conclusion) ss shaped
    by_form false shaped = refl

    by_class : (b d : Bool) → (not b || are_rewritable (and_parts (rule_parts t).conclusion)) ≡ true → list_any (rewrites (literals ss)) (if b && d then plain_parts (rule_parts t) else []) ≡ false
    by_class true true shaped = by_form (is_without (rule_parts t).hypotheses) shaped
    by_class true false shaped = refl
    by_class false d shaped = refl

events_rewrite : (h : History) (hints : Hints) (es : List Event) (ss : List Signed) → list_all is_shaped es ≡ true → list_any (rewrites (literals ss)) (parts_of_events h hints es) ≡ false
events_rewrite h hints [] ss e = refl
events_rewrite h hints (x ∷ es) ss e =
    any_both (rewrites (literals ss)) (event_parts h hints x) (parts_of_events h hints es) (by_event x (and_first (is_shaped x) (list_all is_shaped es) e))
    (events_rewrite h hints es ss (and_second (is_shaped x) (list_all is_shaped es) e))
  where
    by_event : (x : Event) → is_shaped x ≡ true → list_any (rewrites (literals ss)) (event_parts h hints x) ≡ false
    by_event (AddShell s) shaped = refl
    by_event (Declaration f n) shaped = refl
    by_event (Defines d) shaped = refl
    by_event (Axiom n classes t) shaped = rule_rewrites h hints n classes t ss shaped
    by_event (Lemma n classes t) shaped = rule_rewrites h hints n classes t ss shaped
    by_event (Toggle n old disabled) shaped = refl

-- ---- opposites

not_false : (b : Bool) → not b ≡ true → b ≡ false
not_false true e = absurd cc
not_false false e = refl

-- the NOT of a term is no such literal, unless the term is its variable
no_denial : (t : Term) (ss : List Signed) → ((x : Name) → same_term t (Variable x) ≡ false) → has_term (not_term t) (literals ss) ≡ false
no_denial t [] each = refl
no_denial t (s ∷ ss) each = either_false (same_term (not_term t) (literal s)) (has_term (not_term t) (literals ss)) (by_sign s.denied) (no_denial t ss each)
  where
    by_sign : (b : Bool) → same_term (not_term t) (elim b as (λ b. Term) [ true ↦ not_term (Variable s.name) | false ↦ Variable s.name ]) ≡ false
    by_sign true = each s.name
    by_sign false = refl

-- the NOT of a variable is no literal of a clause without the variable
no_variable : (x : Name) (ss : List Signed) → has_name x (map (λ s. s.name) ss) ≡ false → has_term (not_term (Variable x)) (literals ss) ≡ false
no_variable x [] e = refl
no_variable x (s ∷ ss) e = by_name (bytes_eq x s.name) refl e (no_variable x ss)
  where
    by_sign : (b : Bool) → bytes_eq x s.name ≡ false → same_term (not_term (Variable x)) (elim b as (λ b. Term) [ true ↦ not_term (Variable s.name) | false ↦ Variable s.name ]) ≡ false
    by_sign true k = k
    by_sign false k = refl

    by_name : (b : Bool) → bytes_eq x s.name ≡ b → (b || has_name x (map (λ s. s.name) ss)) ≡ false →
        (has_name x (map (λ s. s.name) ss) ≡ false → has_term (not_term (Variable x)) (literals ss) ≡ false) → has_term (not_term (Variable x)) (literals (s ∷ ss)) ≡ false
    by_name true k f rest = absurd cc
    by_name false k f rest = either_false (same_term (not_term (Variable x)) (literal s)) (has_term (not_term (Variable x)) (literals ss)) (by_sign s.denied k) (rest f)

-- ---- distinct names

abbrev pub names : List Signed → List Name
names ss = map (λ s. s.name) ss

pub other_way : (x y : Name) → bytes_eq x y ≡ false → bytes_eq y x ≡ false
other_way x y e = by_test (bytes_eq y x) refl
  where
    by_test : (b : Bool) → bytes_eq y x ≡ b → b ≡ false
    by_test true k = let same : bytes_eq x y ≡ true = (bytes_eq-Decides x y).1 (sym ((bytes_eq-Decides y x).0 k)) in absurd cc
    by_test false k = refl

or_first : (a b : Bool) → (a || b) ≡ false → a ≡ false
or_first true b e = absurd cc
or_first false b e = refl

or_second : (a b : Bool) → (a || b) ≡ false → b ≡ false
or_second true b e = absurd cc
or_second false b e = e

not_there : (x : Name) (before : List Signed) (s : Signed) (after : List Signed) → has_name x (names (before ++ (s ∷ after))) ≡ false → bytes_eq x s.name ≡ false
not_there x [] s after e = or_first (bytes_eq x s.name) (has_name x (names after)) e
not_there x (u ∷ before) s after e = not_there x before s after (or_second (bytes_eq x u.name) (has_name x (names (before ++ (s ∷ after)))) e)

-- a name is none of those that stand before it or after it
behind : (before : List Signed) (s : Signed) (after : List Signed) → AreApart (before ++ (s ∷ after)) → has_name s.name (names before) ≡ false
behind [] s after e = refl
behind (u ∷ before) s after e =
    let rest : has_name u.name (names (before ++ (s ∷ after))) ≡ false = not_false _ (and_first (not (has_name u.name (names (before ++ (s ∷ after))))) (are_distinct (names (before ++ (s ∷ after)))) e) in
    either_false (bytes_eq s.name u.name) (has_name s.name (names before)) (other_way u.name s.name (not_there u.name before s after rest))
    (behind before s after (and_second (not (has_name u.name (names (before ++ (s ∷ after))))) (are_distinct (names (before ++ (s ∷ after)))) e))

pub ahead : (before : List Signed) (s : Signed) (after : List Signed) → AreApart (before ++ (s ∷ after)) → has_name s.name (names after) ≡ false
ahead [] s after e = not_false _ (and_first (not (has_name s.name (names after))) (are_distinct (names after)) e)
ahead (u ∷ before) s after e = ahead before s after (and_second (not (has_name u.name (names (before ++ (s ∷ after))))) (are_distinct (names (before ++ (s ∷ after)))) e)

has_both : (t : Term) (c d : Clause) → has_term t c ≡ false → has_term t d ≡ false → has_term t (c ++ d) ≡ false
has_both t [] d e f = f
has_both t (u ∷ c) d e f = either_false (same_term t u) (has_term t (c ++ d)) (or_first (same_term t u) (has_term t c) e) (has_both t c d (or_second (same_term t u) (has_term t c) e) f)

abbrev signed : Name → Bool → Signed
signed x b = record { name = x; denied = b }

-- the NOT of a literal of the clause is none of its literals
opposite : (x : Name) (b : Bool) (before after : List Signed) → AreApart (before ++ (signed x b ∷ after)) → has_term (not_term (literal (signed x b))) (literals (before ++ (signed x b ∷ after))) ≡ false
opposite x true before after e = no_denial (not_term (Variable x)) (before ++ (signed x true ∷ after)) (λ y. refl)
opposite x false before after e =
    ap (has_term (not_term (Variable x))) (map-append literal before (signed x false ∷ after))
    ∙ has_both (not_term (Variable x)) (literals before) (Variable x ∷ literals after) (no_variable x before (behind before (signed x false) after e)) (no_variable x after (ahead before (signed x false) after e))

opposites : (before ss : List Signed) → AreApart (before ++ ss) → has_opposite (literals ss) (literals (before ++ ss)) ≡ false
opposites before [] e = refl
opposites before (s ∷ ss) e =
    let same : (before ++ (s ∷ [])) ++ ss ≡ before ++ (s ∷ ss) = append_assoc before (s ∷ []) ss in
    either_false (has_term (not_term (literal s)) (literals (before ++ (s ∷ ss)))) (has_opposite (literals ss) (literals (before ++ (s ∷ ss)))) (opposite s.name s.denied before ss e)
    (subst (λ (all : List Signed). has_opposite (literals ss) (literals all) ≡ false) same (opposites (before ++ (s ∷ [])) ss (subst AreApart (sym same) e)))

-- ---- the normal form

no_openable : (h : History) (hints : Hints) (x : Name) → is_openable h hints (Variable x) ≡ false
no_openable h hints x = refl

unsettled : (x : Name) → is_settled (Variable x) ≡ false
unfolding number_of is_tree_value
unsettled x = refl

pub clauses_are_normal : ClausesAreNormal
clauses_are_normal h hints ss shaped apart = record {
  no_connective = none_open (is_call_among propositional) ss (λ x. refl);
  none_openable = none_open (is_openable h hints) ss (no_openable h hints);
  no_decided_test = none_open (is_decided_test h) ss (λ x. refl);
  none_rewritable = events_rewrite h hints h ss shaped.rewriting;
  none_settled = either_false (list_any is_settled (atoms_of (literals ss))) (has_opposite (literals ss) (literals ss)) (none_in_atoms is_settled ss unsettled) (opposites [] ss apart);
}

-- ---- clauses of literals that are normal alone

each_any : {X Y : Type 0} (f : X → Y) (test : Y → Bool) (xs : List X) → Each (λ x. test (f x) ≡ false) xs → list_any test (map f xs) ≡ false
each_any f test [] each = refl
each_any f test (x ∷ xs) each = either_false (test (f x)) (list_any test (map f xs)) each.0 (each_any f test xs each.1)

kind_rewrites : (k : PartKind) (part : Term) (ss : List Signed) → Each (λ s. rewrites_by k part (literal s ∷ []) ≡ false) ss → rewrites_by k part (literals ss) ≡ false
kind_rewrites (Everywhere left) part ss each =
    ap (list_any (is_instance left)) (open_clause ss)
    ∙ each_any variable (is_instance left) ss
    (each_mono (λ s. rewrites_by (Everywhere left) part (literal s ∷ []) ≡ false) (λ s. is_instance left (variable s) ≡ false)
    (λ s e. or_first (is_instance left (variable s)) false (sym (ap (list_any (is_instance left)) (open_clause (s ∷ []))) ∙ e)) ss each)
kind_rewrites Permutes part ss each = refl
kind_rewrites Literally part ss each =
    either_false (list_any (is_instance part) (literals ss)) (list_any (is_instance part) (atoms_of (literals ss)))
    (each_any literal (is_instance part) ss
    (each_mono (λ s. rewrites_by Literally part (literal s ∷ []) ≡ false) (λ s. is_instance part (literal s) ≡ false)
    (λ s e. or_first (is_instance part (literal s)) false (or_first (list_any (is_instance part) (literal s ∷ [])) (list_any (is_instance part) (atoms_of (literal s ∷ []))) e)) ss each))
    (ap (list_any (is_instance part)) (atoms ss)
    ∙ each_any variable (is_instance part) ss
    (each_mono (λ s. rewrites_by Literally part (literal s ∷ []) ≡ false) (λ s. is_instance part (variable s) ≡ false)
    (λ s e. or_first (is_instance part (variable s)) false
    (sym (ap (list_any (is_instance part)) (atoms (s ∷ []))) ∙ or_second (list_any (is_instance part) (literal s ∷ [])) (list_any (is_instance part) (atoms_of (literal s ∷ []))) e)) ss each))

parts_together : (parts : List Term) (ss : List Signed) → Each (λ s. list_any (rewrites (literal s ∷ [])) parts ≡ false) ss → list_any (rewrites (literals ss)) parts ≡ false
parts_together [] ss each = refl
parts_together (part ∷ parts) ss each =
    either_false (rewrites (literals ss) part) (list_any (rewrites (literals ss)) parts)
    (kind_rewrites (kind_of_part part) part ss
    (each_mono (λ s. list_any (rewrites (literal s ∷ [])) (part ∷ parts) ≡ false) (λ s. rewrites (literal s ∷ []) part ≡ false)
    (λ s e. or_first (rewrites (literal s ∷ []) part) (list_any (rewrites (literal s ∷ [])) parts) e) ss each))
    (parts_together parts ss
    (each_mono (λ s. list_any (rewrites (literal s ∷ [])) (part ∷ parts) ≡ false) (λ s. list_any (rewrites (literal s ∷ [])) parts ≡ false)
    (λ s e. or_second (rewrites (literal s ∷ []) part) (list_any (rewrites (literal s ∷ [])) parts) e) ss each))

-- a clause of such literals is normal where each of them is
pub normal_together : (h : History) (hints : Hints) (ss : List Signed) → Each (λ s. IsNormal h hints (literal s ∷ [])) ss → AreApart ss → IsNormal h hints (literals ss)
normal_together h hints ss each apart = record {
  no_connective = none_open (is_call_among propositional) ss (λ x. refl);
  none_openable = none_open (is_openable h hints) ss (no_openable h hints);
  no_decided_test = none_open (is_decided_test h) ss (λ x. refl);
  none_rewritable =
      parts_together (parts_of_events h hints h) ss
      (each_mono (λ s. IsNormal h hints (literal s ∷ [])) (λ s. list_any (rewrites (literal s ∷ [])) (parts_of_events h hints h) ≡ false) (λ s n. n.none_rewritable) ss each);
  none_settled = either_false (list_any is_settled (atoms_of (literals ss))) (has_opposite (literals ss) (literals ss)) (none_in_atoms is_settled ss unsettled) (opposites [] ss apart);
}
