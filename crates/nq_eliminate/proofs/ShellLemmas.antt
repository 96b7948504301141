-- The candidates of ELIM by the rules of shells.
use Rattle.std.proofs.Common.{◌≡◌, Bool, true, false, ◌||◌, ◌&&◌, if◌then◌else◌, List, [], ◌∷◌, ◌++◌, length, map, refl, sym, ap, ◌∙◌, subst, inl, inr}
use Rattle.std.specs.Prelude.{Option, Some, None, bytes_eq, codes, not}
use Rattle.std.specs.List.{list_any}
use Rattle.nq_logic.specs.Terms.{Name, Term, Variable, Function, Applied, applied, substituted, IsAmong, Substitution}
use Rattle.nq_logic.specs.Histories.{History, Shell, Part, Event, AddShell, Declaration, Defines, Axiom, Lemma, Toggle, events_shells}
use Rattle.nq_logic.specs.Ground.{all_events}
use Rattle.nq_logic.specs.Names.{has_name}
use Rattle.nq_logic.specs.Shells.{whole, remade, recognizes, accessed}
use Rattle.nq_logic.specs.ShellPrinciple.{shells_of}
use Rattle.nq_logic.specs.RuleShapes.{is_destructor_call, variables_of}
use Rattle.nq_bank.specs.declared.node.TermId.{TermId}
use Rattle.nq_bank.specs.Content.{Content, terms_at, text_at}
use Rattle.nq_bank.specs.Shells.{shell_at}
use Rattle.nq_bank.proofs.Texts.{bytes_eq-true, eq-bytes_eq}
use Rattle.nq_proof.specs.Clauses.{Clause, distinct, has_term, same_term, without}
use Rattle.nq_proof.proofs.Tests.{same_true}
use Rattle.nq_events.specs.Events.{Hints}
use Rattle.nq_goals.specs.Eliminating.{ElimRule, EliminateCandidate, destructors, destructors_of, distinct_names, event_rules, events_rules, has_parts, no_base, no_copies, other_variables, renaming_of, shell_rules, without_name}
use Rattle.nq_goals.specs.Functions.{accessors}
use Rattle.nq_goals.specs.Generalizing.{chosen_from}
use Rattle.nq_goals.specs.NewVariables.{clause_variables}
use Rattle.nq_goals.specs.Replacing.{parts_in, parts_in_all, stands_in_one}
use Rattle.nq_stuck.specs.Calls.{HoldsAll}
use Rattle.nq_stuck.specs.Destructors.{is_accessor_call}
use Rattle.nq_stuck.proofs.Joined.{among_either}
use Rattle.nq_stuck.proofs.Names.{has_joined}
use Rattle.nq_stuck.proofs.CallLemmas.{inner_applied}
use Rattle.nq_stuck.proofs.StandingLemmas.{one_of, stands_found}
use Rattle.nq_stuck.proofs.EliminationLemmas.{AccessorOn, accessed_by, any_among, call_no_value, chosen_in, destructor_is, distinct_from}
use Rattle.nq_eliminate.specs.declared.accesses.Access.{Access}
use Rattle.nq_eliminate.specs.Shells.{HasNoneOfShells, IsAccessIn, IsShellCandidate, eliminating_by, is_access_in, rule_of, shells_rules}
use Rattle.nq_eliminate.proofs.Names.{among_first, among_second}
use Rattle.nq_eliminate.proofs.CandidateLemmas.{apart_too, stands_there}

-- the rule of a shell with parts is enabled
shell_rule : (s : Shell) → has_parts (map (λ part. part.accessor) s.parts) ≡ true → shell_rules s ≡ rule_of s ∷ []
shell_rule s some = ap (λ b. elim b as (λ b. List ElimRule) [ true ↦ rule_of s ∷ [] | false ↦ [] ]) some

named_parts : (a : Name) (names : List Name) → has_name a names ≡ true → has_parts names ≡ true
named_parts a [] e = absurd (cc)
named_parts a (x ∷ names) e = refl

module _ (h : History) (hints : Hints) (s : Shell) (some : has_parts (map (λ part. part.accessor) s.parts) ≡ true) where
  enabled : (es : List Event) → IsAmong s (events_shells es) → IsAmong (rule_of s) (events_rules h hints es)
  enabled [] m = absurd m
  enabled (AddShell t ∷ es) (inl is) = among_first (rule_of s) (shell_rules t) (events_rules h hints es) (subst (λ u. IsAmong (rule_of s) (shell_rules u)) is (subst (IsAmong (rule_of s)) (sym (shell_rule s some)) (inl refl)))
  enabled (AddShell t ∷ es) (inr m) = among_second (rule_of s) (shell_rules t) (events_rules h hints es) (enabled es m)
  enabled (Declaration f n ∷ es) m = enabled es m
  enabled (Defines d ∷ es) m = enabled es m
  enabled (Axiom n classes t ∷ es) m = among_second (rule_of s) (event_rules h hints (Axiom n classes t)) (events_rules h hints es) (enabled es m)
  enabled (Lemma n classes t ∷ es) m = among_second (rule_of s) (event_rules h hints (Lemma n classes t)) (events_rules h hints es) (enabled es m)
  enabled (Toggle n old disabled ∷ es) m = enabled es m

-- the rule has no variable but X
abbrev AllX : List Name → Type 0
AllX xs = (x : Name) → IsAmong x xs → x ≡ codes "X"

x_alone : AllX (codes "X" ∷ [])
x_alone x (inl e) = e
x_alone x (inr none) = absurd none

both_x : (xs ys : List Name) → AllX xs → AllX ys → AllX (xs ++ ys)
both_x xs ys left right x m =
    elim (among_either x xs ys m) [
      | inl here ↦ left x here
      | inr there ↦ right x there
    ]

none_left : (xs : List Name) → AllX xs → without_name (codes "X") (distinct_names xs) ≡ []
none_left [] all = refl
none_left (x ∷ xs) all =
    let is : x ≡ codes "X" = all x (inl refl) in
    let rest = none_left xs (λ y m. all y (inr m)) in
    ap (λ b. if b then without_name (codes "X") (without_name x (distinct_names xs)) else x ∷ without_name (codes "X") (without_name x (distinct_names xs))) (eq-bytes_eq (codes "X") x (sym is))
    ∙ (ap (λ y. without_name (codes "X") (without_name y (distinct_names xs))) is
    ∙ ap (without_name (codes "X")) rest)

remade_x : (t : Term) (parts : List Part) → AllX (variables_of t) → AllX (variables_of (applied t (accessed whole parts)))
remade_x t [] all = all
remade_x t (part ∷ parts) all = remade_x (Applied t (Applied (Function part.accessor) whole)) parts (both_x (variables_of t) (codes "X" ∷ []) all x_alone)

base_x : (b : Option Name) → AllX (clause_variables (no_base b))
base_x None x m = absurd m
base_x (Some b) x m = x_alone x m

rule_x : (s : Shell) → AllX (clause_variables (remade s ∷ recognizes s whole ∷ no_base s.base))
rule_x s =
    both_x (variables_of (remade s)) (codes "X" ∷ clause_variables (no_base s.base)) (remade_x (Function s.constructor) s.parts (λ x m. absurd m))
    (both_x (codes "X" ∷ []) (clause_variables (no_base s.base)) x_alone (base_x s.base))

pub no_others : (s : Shell) → other_variables (rule_of s) ≡ []
no_others s = none_left (clause_variables (remade s ∷ recognizes s whole ∷ no_base s.base)) (rule_x s)

-- terms without later copies
not_without : (t : Term) (c : Clause) → has_term t (without t c) ≡ false
not_without t [] = refl
not_without t (u ∷ c) = by_test (not_without t c) (same_term t u) refl
  where
    by_test : has_term t (without t c) ≡ false → (b : Bool) → same_term t u ≡ b → has_term t (if b then without t c else u ∷ without t c) ≡ false
    by_test rest true e = rest
    by_test rest false e = ap (λ b. b || has_term t (without t c)) e ∙ rest

absent_still : (v t : Term) (c : Clause) → has_term v c ≡ false → has_term v (without t c) ≡ false
absent_still v t [] e = refl
absent_still v t (u ∷ c) e = by_tests (λ k. absent_still v t c k) (same_term v u) refl (same_term t u) e
  where
    by_tests : (has_term v c ≡ false → has_term v (without t c) ≡ false) → (a : Bool) → same_term v u ≡ a → (b : Bool) → (a || has_term v c) ≡ false → has_term v (if b then without t c else u ∷ without t c) ≡ false
    by_tests later true k b f = absurd (cc)
    by_tests later false k true f = later f
    by_tests later false k false f = ap (λ b. b || has_term v (without t c)) k ∙ later f

left_of : (a b : Bool) → (not a && b) ≡ true → (a ≡ false) × (b ≡ true)
left_of true b e = absurd (cc)
left_of false b e = (refl, e)

copies_still : (t : Term) (c : Clause) → no_copies c ≡ true → no_copies (without t c) ≡ true
copies_still t [] e = refl
copies_still t (u ∷ c) e = by_test (λ k. copies_still t c k) (left_of (has_term u c) (no_copies c) e) (same_term t u)
  where
    by_test : (no_copies c ≡ true → no_copies (without t c) ≡ true) → (has_term u c ≡ false) × (no_copies c ≡ true) → (b : Bool) → no_copies (if b then without t c else u ∷ without t c) ≡ true
    by_test later both true = later both.1
    by_test later both false = ap (λ b. not b && no_copies (without t c)) (absent_still u t c both.0) ∙ later both.1

distinct_copies : (c : Clause) → no_copies (distinct c) ≡ true
distinct_copies [] = refl
distinct_copies (t ∷ c) = ap (λ b. not b && no_copies (without t (distinct c))) (not_without t (distinct c)) ∙ copies_still t (distinct c) (distinct_copies c)

map_same : (ts : List Term) → map (λ (t : Term). t) ts ≡ ts
map_same [] = refl
map_same (t ∷ ts) = ap (λ r. t ∷ r) (map_same ts)

-- what is chosen, and what is among terms without copies
to_chosen : (test : Term → Bool) (t : Term) (ts : List Term) → IsAmong t ts → test t ≡ true → IsAmong t (chosen_from test ts)
to_chosen test t [] m e = absurd m
to_chosen test t (u ∷ ts) (inl is) e = by_test (test u) (ap test (sym is) ∙ e)
  where
    by_test : (b : Bool) → b ≡ true → IsAmong t (elim b as (λ b. List Term) [ true ↦ u ∷ chosen_from test ts | false ↦ chosen_from test ts ])
    by_test true k = inl is
    by_test false k = absurd (cc)
to_chosen test t (u ∷ ts) (inr m) e = by_test (to_chosen test t ts m e) (test u)
  where
    by_test : IsAmong t (chosen_from test ts) → (b : Bool) → IsAmong t (elim b as (λ b. List Term) [ true ↦ u ∷ chosen_from test ts | false ↦ chosen_from test ts ])
    by_test n true = inr n
    by_test n false = n

to_without : (t u : Term) (c : Clause) → IsAmong t c → same_term u t ≡ false → IsAmong t (without u c)
to_without t u [] m apart = absurd m
to_without t u (v ∷ c) m apart = by_test (λ n. to_without t u c n apart) (same_term u v) refl m
  where
    by_test : (IsAmong t c → IsAmong t (without u c)) → (b : Bool) → same_term u v ≡ b → IsAmong t (v ∷ c) → IsAmong t (if b then without u c else v ∷ without u c)
    by_test later true e (inl is) = let same : same_term u t ≡ true = ap (same_term u) is ∙ e in absurd (cc)
    by_test later true e (inr n) = later n
    by_test later false e (inl is) = inl is
    by_test later false e (inr n) = inr (later n)

to_distinct : (t : Term) (c : Clause) → IsAmong t c → IsAmong t (distinct c)
to_distinct t [] m = absurd m
to_distinct t (u ∷ c) (inl is) = inl is
to_distinct t (u ∷ c) (inr m) = by_test (to_distinct t c m) (same_term u t) refl
  where
    by_test : IsAmong t (distinct c) → (b : Bool) → same_term u t ≡ b → IsAmong t (u ∷ without u (distinct c))
    by_test later true e = inl (sym (same_true u t e))
    by_test later false e = inr (to_without t u (distinct c) later e)

-- an accessor's call on X is a destructor call of the rule
accessed_among : (a : Name) (parts : List Part) → has_name a (map (λ part. part.accessor) parts) ≡ true → IsAmong (Applied (Function a) whole) (parts_in_all (accessed whole parts))
accessed_among a [] e = absurd (cc)
accessed_among a (part ∷ parts) e =
    elim (one_of (bytes_eq a part.accessor) (has_name a (map (λ part. part.accessor) parts)) e) [
      | inl here ↦ inl (ap (λ f. Applied (Function f) whole) (bytes_eq-true a part.accessor here))
      | inr there ↦ inr (inr (accessed_among a parts there))
    ]

module _ (s : Shell) (a : Name) (named : has_name a (map (λ part. part.accessor) s.parts) ≡ true) where
  some_parts : has_parts (map (λ part. part.accessor) s.parts) ≡ true
  some_parts = named_parts a (map (λ part. part.accessor) s.parts) named

  destructor_there : IsAmong (Applied (Function a) whole) (destructors (rule_of s))
  destructor_there =
      let inner : IsAmong (Applied (Function a) whole) (parts_in (remade s)) = inr (subst (IsAmong (Applied (Function a) whole)) (sym (inner_applied (Function s.constructor) (accessed whole s.parts))) (accessed_among a s.parts named)) in
      to_distinct (Applied (Function a) whole) (chosen_from (is_destructor_call (codes "X")) (parts_in (remade s))) (to_chosen (is_destructor_call (codes "X")) (Applied (Function a) whole) (parts_in (remade s)) inner refl)

  module _ (x : Name) where
    abbrev r : Substitution
    r = renaming_of (eliminating_by s x)

    image : (f : Name) → substituted r (Applied (Function f) whole) ≡ Applied (Function f) (Variable x)
    image f = refl

    on : (d : Term) → IsAmong d (destructors (rule_of s)) → AccessorOn s.parts d
    on d m =
        let chosen = chosen_in (is_destructor_call (codes "X")) d (parts_in (remade s)) (distinct_from d (chosen_from (is_destructor_call (codes "X")) (parts_in (remade s))) m) in
        destructor_is s d some_parts chosen.0 chosen.1

    same_function : (f g : Name) → Applied (Function f) (Variable x) ≡ Applied (Function g) (Variable x) → f ≡ g
    same_function f g e = cc

    each_apart : (d e : Term) → IsAmong d (destructors (rule_of s)) → IsAmong e (destructors (rule_of s)) → substituted r d ≡ substituted r e → d ≡ e
    each_apart d e m n same =
        let left = on d m in
        let right = on e n in
        let names : left.accessor ≡ right.accessor = same_function left.accessor right.accessor (sym (ap (substituted r) left.is) ∙ (same ∙ ap (substituted r) right.is)) in
        left.is ∙ (ap (λ f. Applied (Function f) whole) names ∙ sym right.is)

    abbrev ds : List Term
    ds = destructors (rule_of s)

    apart : no_copies (destructors_of (eliminating_by s x)) ≡ true
    apart = apart_too (substituted r) (λ t. t) ds each_apart (ap no_copies (map_same ds) ∙ distinct_copies (chosen_from (is_destructor_call (codes "X")) (parts_in (remade s))))

    pub candidate_of : (h : History) (hints : Hints) (goal : Clause) → IsAmong s (shells_of h) → stands_in_one (Applied (Function a) (Variable x)) goal ≡ true → EliminateCandidate h hints goal (eliminating_by s x)
    candidate_of h hints goal among stands =
        record {
          enabled = enabled h hints s some_parts (all_events h) among;
          each = sym (ap length (no_others s));
          differs = refl;
          apart = apart;
          stands = stands_there (substituted r) (Applied (Function a) whole) ds goal destructor_there stands;
        }

-- what is accessed in the goal is a candidate
pub candidate_found : (bank : Content) (h : History) (goal : Clause) (a : Access) → IsAccessIn bank (shells_of h) goal a → IsShellCandidate bank h goal a
candidate_found bank h goal a at =
    record {
      candidate = λ hints. candidate_of (shell_at bank a.shell.now) at.is.accessor at.is.shell.named (text_at bank a.variable) h hints goal at.is.shell.among (ap (λ t. stands_in_one t goal) (sym at.is.is) ∙ at.stands);
      among = at.is.shell.among;
      parts = named_parts at.is.accessor (map (λ part. part.accessor) (shell_at bank a.shell.now).parts) at.is.shell.named;
      accessor = at.is.accessor;
      called = ap (λ t. stands_in_one t goal) (sym at.is.is) ∙ at.stands;
      shell = at.is.shell.stands;
      variable = at.is.variable;
    }

-- the rule of a shell with parts is among the rules of shells
rule_among : (shells : List Shell) (s : Shell) → has_parts (map (λ part. part.accessor) s.parts) ≡ true → IsAmong s shells → IsAmong (rule_of s) (shells_rules shells)
rule_among [] s some m = absurd m
rule_among (t ∷ shells) s some (inl is) = among_first (rule_of s) (shell_rules t) (shells_rules shells) (subst (λ u. IsAmong (rule_of s) (shell_rules u)) is (subst (IsAmong (rule_of s)) (sym (shell_rule s some)) (inl refl)))
rule_among (t ∷ shells) s some (inr m) = among_second (rule_of s) (shell_rules t) (shells_rules shells) (rule_among shells s some m)

-- where there is a candidate of a shell, it is not so that there is none
pub not_none : (bank : Content) (h : History) (hints : Hints) (goal : Clause) (a : Access) → IsShellCandidate bank h goal a → HasNoneOfShells h goal → ⊥
not_none bank h hints goal a at none =
    let s = shell_at bank a.shell.now in
    none.none hints (eliminating_by s (text_at bank a.variable)) (rule_among (shells_of h) s at.parts at.among) (at.candidate hints)

-- a rule of one of some shells
record OfOne (shells : List Shell) (rule : ElimRule) : Type 0 where
  pub shell : Shell
  pub added : (x : Name) → has_name x (map (λ part. part.accessor) shell.parts) ≡ true → has_name x (accessors shells) ≡ true
  pub rule_is : IsAmong rule (shell_rules shell)

right_either : (a b : Bool) → b ≡ true → (a || b) ≡ true
right_either true b e = refl
right_either false b e = e

of_one : (shells : List Shell) (rule : ElimRule) → IsAmong rule (shells_rules shells) → OfOne shells rule
of_one [] rule m = absurd m
of_one (s ∷ shells) rule m =
    elim (among_either rule (shell_rules s) (shells_rules shells) m) [
      | inl here ↦
          record {
            shell = s;
            added = λ x named. has_joined x (map (λ part. part.accessor) s.parts) (accessors shells) ∙ ap (λ b. b || has_name x (accessors shells)) named;
            rule_is = here;
          }
      | inr there ↦
          let rest = of_one shells rule there in
          record {
            shell = rest.shell;
            added = λ x named. has_joined x (map (λ part. part.accessor) s.parts) (accessors shells) ∙ right_either (has_name x (map (λ part. part.accessor) s.parts)) (has_name x (accessors shells)) (rest.added x named);
            rule_is = rest.rule_is;
          }
    ]

both_are : (a b : Bool) → a ≡ true → b ≡ true → (a && b) ≡ true
both_are true b e k = k
both_are false b e k = absurd (cc)

-- where none of the calls of a goal is an accessor's on a variable, no shell's rule has a candidate
pub none_found : (bank : Content) (h : History) (calls : List TermId) (goal : Clause) → HoldsAll bank calls goal → list_any (is_access_in (shells_of h) goal) (terms_at bank calls) ≡ false → HasNoneOfShells h goal
none_found bank h calls goal held absent =
    record {
      none = λ hints e among candidate.
          let one = of_one (shells_of h) e.rule among in
          let at = accessed_by h hints goal e candidate (record { shell = one.shell; added = one.added; rule_is = one.rule_is }) in
          let a = Applied (Function at.accessor) (Variable e.variable) in
          let found = stands_found bank calls goal a held refl (call_no_value at.accessor e.variable) at.stands in
          let there = any_among (is_access_in (shells_of h) goal) a (terms_at bank calls) found (both_are (is_accessor_call (shells_of h) a) (stands_in_one a goal) at.named at.stands) in
          absurd (cc);
    }
