-- Calls that are to be generalized.
use Rattle.std.proofs.Common.{◌≡◌, ℕ, suc, ◌-◌, ◌<◌, ◌≤◌, length, get_or, take, drop, arith, Bool, true, false, ◌||◌, ◌&&◌, List, [], ◌∷◌, ◌++◌, refl, sym, ap, ◌∙◌, inl, inr}
use Rattle.std.proofs.lemmas.List.{take_all}
use Rattle.std.specs.Prelude.{not, nat_le, if◌then◌else◌}
use Rattle.nq_logic.specs.Terms.{Term, Function, Applied, applied, call, IsAmong}
use Rattle.nq_logic.specs.Histories.{History, Shell}
use Rattle.nq_logic.specs.Names.{has_name}
use Rattle.nq_logic.specs.ShellPrinciple.{recognizers}
use Rattle.nq_logic.specs.Numerals.{numeral_limit}
use Rattle.nq_logic.specs.Words.{numeral}
use Rattle.nq_logic.specs.Values.{is_value}
use Rattle.nq_logic.specs.RuleShapes.{is_call}
use Rattle.nq_bank.specs.declared.node.TermId.{TermId}
use Rattle.nq_bank.specs.Content.{Content, term_at, terms_at}
use Rattle.nq_proof.specs.Clauses.{Clause, has_term, distinct}
use Rattle.nq_events.specs.Events.{Hints}
use Rattle.nq_events.specs.Inductions.{head_of}
use Rattle.nq_goals.specs.Equations.{Equation}
use Rattle.nq_goals.specs.Occurrences.{atom_of}
use Rattle.nq_goals.specs.Functions.{accessors, constructors, is_call_among, is_name_among}
use Rattle.nq_goals.specs.Generalizing.{can_generalize, chosen_from, kept_functions, generalizings_of, literals_with, is_on_both_sides, is_on_both_sides_of_one}
use Rattle.nq_goals.specs.Replacing.{parts_in_all, stands_in, stands_in_one}
use Rattle.nq_stuck.specs.Calls.{HoldsAll}
use Rattle.nq_stuck.specs.Common.{is_general, is_of_shell, has_common, HasNoneBalanced, HasNoneRepeated, IsUnbalanced, SharesNone}
use Rattle.nq_stuck.specs.Pairs.{Compares, ComparesNone}
use Rattle.nq_stuck.proofs.CallLemmas.{numeral_value}
use Rattle.nq_stuck.proofs.Names.{has_joined}
use Rattle.nq_stuck.proofs.StandingLemmas.{among_has, one_of, stands_found}

either_joined : (a b c : Bool) → (a || (b || c)) ≡ ((a || b) || c)
either_joined true b c = refl
either_joined false b c = refl

-- the names of shells before others
pub shells_before : (f : List ℕ) (shells : List Shell) (others : List (List ℕ)) →
    has_name f (accessors shells ++ (constructors shells ++ (recognizers shells ++ others))) ≡ (is_of_shell f shells || has_name f others)
shells_before f shells others =
    let a = has_name f (accessors shells) in
    let b = has_name f (constructors shells) in
    let c = has_name f (recognizers shells) in
    has_joined f (accessors shells) (constructors shells ++ (recognizers shells ++ others))
    ∙ (ap (λ z. a || z) (has_joined f (constructors shells) (recognizers shells ++ others) ∙ ap (λ z. b || z) (has_joined f (recognizers shells) others))
    ∙ by_tests a b c (has_name f others))
  where
    by_tests : (a b c d : Bool) → (a || (b || (c || d))) ≡ ((a || b || c) || d)
    by_tests true b c d = refl
    by_tests false true c d = refl
    by_tests false false true d = refl
    by_tests false false false d = refl

pub kept_told : (f : List ℕ) (shells known : List Shell) (others : List (List ℕ)) (shell other answer : Bool) → known ≡ shells → shell ≡ is_of_shell f known → other ≡ has_name f others → answer ≡ (shell || other) →
    answer ≡ has_name f (accessors shells ++ (constructors shells ++ (recognizers shells ++ others)))
kept_told f shells known others shell other answer are first second either =
    either
    ∙ (ap (λ b. b || other) (first ∙ ap (is_of_shell f) are)
    ∙ (ap (λ b. is_of_shell f shells || b) second ∙ sym (shells_before f shells others)))

head_applied : (t : Term) (us : List Term) → head_of (applied t us) ≡ head_of t
head_applied t [] = refl
head_applied t (u ∷ us) = head_applied (Applied t u) us

-- the head of a call
pub among_by_head : (names : List (List ℕ)) (t : Term) (f : List ℕ) (us : List Term) → t ≡ call f us → is_call_among names t ≡ has_name f names
among_by_head names t f us is = ap (is_call_among names) is ∙ ap (is_name_among names) (head_applied (Function f) us)

call_applied : (t : Term) (us : List Term) → is_call (applied t us) ≡ is_call t
call_applied t [] = refl
call_applied t (u ∷ us) = call_applied (Applied t u) us

pub call_is : (t : Term) (f : List ℕ) (us : List Term) → t ≡ call f us → is_call t ≡ true
call_is t f us is = ap is_call is ∙ call_applied (Function f) us

-- what a general call is
pub record General (h : History) (t : Term) : Type 0 where
  pub called : is_call t ≡ true
  pub other : is_value t ≡ false
  pub free : is_call_among (kept_functions h) t ≡ false

pub general_parts : (h : History) (t : Term) → is_general h t ≡ true → General h t
general_parts h t e =
    let all = by_tests (is_call t) (is_value t) (is_call_among (kept_functions h) t) e in
    record { called = all.0; other = all.1; free = all.2 }
  where
    by_tests : (a b c : Bool) → (a && not b && not c) ≡ true → (a ≡ true) × (b ≡ false) × (c ≡ false)
    by_tests true false false e = (refl, refl, refl)
    by_tests true false true e = absurd (cc)
    by_tests true true c e = absurd (cc)
    by_tests false b c e = absurd (cc)

not_of_false : (b : Bool) → b ≡ false → not b ≡ true
not_of_false b e = ap not e

pub not_kept : (h : History) (t : Term) (f : List ℕ) (us : List Term) (kept : Bool) → t ≡ call f us → kept ≡ has_name f (kept_functions h) → is_general h t ≡ true → not kept ≡ true
not_kept h t f us kept is told e = not_of_false kept (told ∙ (sym (among_by_head (kept_functions h) t f us is) ∙ (general_parts h t e).free))

pub no_value : (h : History) (t : Term) (value : Bool) → value ≡ is_value t → is_general h t ≡ true → not value ≡ true
no_value h t value told e = not_of_false value (told ∙ (general_parts h t e).other)

pub no_numeral : (h : History) (t : Term) (n : ℕ) → n < numeral_limit → t ≡ numeral n → is_general h t ≡ true → false ≡ true
no_numeral h t n small is e =
    let value : is_value t ≡ true = ap is_value is ∙ numeral_value n small in
    let other = (general_parts h t e).other in
    absurd (cc)

pub common_there : (h : History) (ts others : List Term) (t : Term) → IsAmong t ts → is_general h t ≡ true → has_term t others ≡ true → has_common h ts others ≡ true
common_there h [] others t m g e = absurd m
common_there h (u ∷ ts) others t (inl same) g e =
    ap (λ z. (is_general h z && has_term z others) || has_common h ts others) (sym same) ∙ by_tests (is_general h t) (has_term t others) g e
  where
    by_tests : (a b : Bool) → a ≡ true → b ≡ true → ((a && b) || has_common h ts others) ≡ true
    by_tests true true p q = refl
    by_tests true false p q = absurd (cc)
    by_tests false b p q = absurd (cc)
common_there h (u ∷ ts) others t (inr m) g e = either_true (is_general h u && has_term u others) (has_common h ts others) (common_there h ts others t m g e)
  where
    either_true : (a b : Bool) → b ≡ true → (a || b) ≡ true
    either_true true b e = refl
    either_true false b e = e

-- one more
pub common_step : (h : History) (t : Term) (ts others : List Term) (general common here later result : Bool) → (is_general h t ≡ true → general ≡ true) → common ≡ has_term t others → here ≡ (general && common) →
    (has_common h ts others ≡ true → later ≡ true) → result ≡ (here || later) → has_common h (t ∷ ts) others ≡ true → result ≡ true
common_step h t ts others general common here later result told is both rest either e =
    elim (one_of (is_general h t && has_term t others) (has_common h ts others) e) [
      | inl first ↦ either ∙ ap (λ b. b || later) (both ∙ both_true general common (told (left_true (is_general h t) (has_term t others) first)) (is ∙ right_true (is_general h t) (has_term t others) first))
      | inr others ↦ either ∙ right_either here later (rest others)
    ]
  where
    left_true : (a b : Bool) → (a && b) ≡ true → a ≡ true
    left_true true b e = refl
    left_true false b e = e

    right_true : (a b : Bool) → (a && b) ≡ true → b ≡ true
    right_true true b e = e
    right_true false b e = absurd (cc)

    both_true : (a b : Bool) → a ≡ true → b ≡ true → (a && b) ≡ true
    both_true true b p q = q
    both_true false b p q = p

    right_either : (a b : Bool) → b ≡ true → (a || b) ≡ true
    right_either true b e = refl
    right_either false b e = e

module _ (bank : Content) (h : History) where
  -- no call is common where none was found
  pub none_shared : (left right : List TermId) (these others : List Term) → HoldsAll bank left these → HoldsAll bank right others → (has_common h (terms_at bank left) (terms_at bank right) ≡ true → ⊥) →
      SharesNone h these others
  none_shared left right these others first second absent =
      record {
        none = λ t g e f.
            let parts = general_parts h t g in
            absent
            (common_there h (terms_at bank left) (terms_at bank right) t (stands_found bank left these t first parts.called parts.other e) g
            (among_has t (terms_at bank right) (stands_found bank right others t second parts.called parts.other f)));
      }

  -- a list with its first element apart
  pub apart : (ids : List TermId) (d : TermId) → 1 ≤ length ids → terms_at bank ids ≡ term_at bank (get_or ids 0 d) ∷ terms_at bank (take (length ids - 1) (drop 1 ids))
  apart [] d l = absurd (omega (arith, l))
  apart (i ∷ ids) d l = ap (λ xs. term_at bank i ∷ terms_at bank xs) (sym (take_all (length (i ∷ ids) - 1) ids (omega arith)))

true_or_not : (b : Bool) → (b ≡ true → ⊥) → b ≡ false
true_or_not true n = absurd (n refl)
true_or_not false n = refl

none_counted : (a : Term) (c : Clause) → stands_in_one a c ≡ false → literals_with a c ≡ 0
none_counted a [] e = refl
none_counted a (t ∷ c) e = by_test (stands_in a t) e (none_counted a c)
  where
    by_test : (b : Bool) → (b || stands_in_one a c) ≡ false → (stands_in_one a c ≡ false → literals_with a c ≡ 0) → (if b then suc (literals_with a c) else literals_with a c) ≡ 0
    by_test true e rest = absurd (cc)
    by_test false e rest = rest e

module _ (h : History) where
  pub none_repeated : HasNoneRepeated h []
  none_repeated = record { none = λ t g. refl }

  pub repeated_first : (t : Term) (c : Clause) → SharesNone h (t ∷ []) c → HasNoneRepeated h c → HasNoneRepeated h (t ∷ c)
  repeated_first t c apart rest = record { none = λ a g. by_test a g (stands_in a t) refl }
    where
      or_false : (b : Bool) → (b || false) ≡ b
      or_false true = refl
      or_false false = refl

      by_test : (a : Term) → is_general h a ≡ true → (b : Bool) → stands_in a t ≡ b → nat_le 2 (if b then suc (literals_with a c) else literals_with a c) ≡ false
      by_test a g true e =
          let alone = true_or_not (stands_in_one a c) (λ f. apart.none a g (or_false (stands_in a t) ∙ e) f) in
          ap (λ n. nat_le 2 (suc n)) (none_counted a c alone)
      by_test a g false e = rest.none a g

  pub none_balanced : HasNoneBalanced h []
  none_balanced = record { none = λ t g. refl }

  pub balanced_first : (t : Term) (c : Clause) → IsUnbalanced h t → HasNoneBalanced h c → HasNoneBalanced h (t ∷ c)
  balanced_first t c here rest = record { none = λ a g. ap (λ b. b || is_on_both_sides_of_one a c) (here.none a g) ∙ rest.none a g }

  pub unbalanced : (t : Term) (e : Equation) → Compares (atom_of t) e → SharesNone h (e.left ∷ []) (e.right ∷ []) → IsUnbalanced h t
  unbalanced t e sides apart =
      record {
        none = λ a g.
            true_or_not (is_on_both_sides a (atom_of t))
            (λ b. apart.none a g (ap (λ z. z || false) (sides.left a b)) (ap (λ z. z || false) (sides.right a b)));
      }

  pub compares_none : (t : Term) → ComparesNone (atom_of t) → IsUnbalanced h t
  compares_none t nothing = record { none = λ a g. nothing.none a }

  chosen_none : (test : Term → Bool) (ts : List Term) → ((t : Term) → test t ≡ false) → chosen_from test ts ≡ []
  chosen_none test [] none = refl
  chosen_none test (t ∷ ts) none = ap (λ b. elim b as (λ b. List Term) [ true ↦ t ∷ chosen_from test ts | false ↦ chosen_from test ts ]) (none t) ∙ chosen_none test ts none

  not_general : (goal : Clause) → HasNoneRepeated h goal → HasNoneBalanced h goal → (t : Term) → can_generalize h goal t ≡ false
  not_general goal repeated balanced t = by_test (is_general h t) refl
    where
      by_test : (b : Bool) → is_general h t ≡ b → (b && (nat_le 2 (literals_with t goal) || is_on_both_sides_of_one t goal)) ≡ false
      by_test true g = ap (λ b. b || is_on_both_sides_of_one t goal) (repeated.none t g) ∙ balanced.none t g
      by_test false g = refl

  pub no_generalizing : (hints : Hints) (goal : Clause) → HasNoneRepeated h goal → HasNoneBalanced h goal → generalizings_of h hints goal ≡ []
  no_generalizing hints goal repeated balanced =
      by_hint hints.no_generalize (ap distinct (chosen_none (can_generalize h goal) (parts_in_all goal) (not_general goal repeated balanced)))
    where
      by_hint : (b : Bool) → distinct (chosen_from (can_generalize h goal) (parts_in_all goal)) ≡ [] → (if b then [] else distinct (chosen_from (can_generalize h goal) (parts_in_all goal))) ≡ []
      by_hint true e = refl
      by_hint false e = e

  pub hint_forbids : (hints : Hints) (goal : Clause) → hints.no_generalize ≡ true → generalizings_of h hints goal ≡ []
  hint_forbids hints goal e = ap (λ b. if b then [] else distinct (chosen_from (can_generalize h goal) (parts_in_all goal))) e

-- the call was told of these slices
pub shared_none : (bank : Content) (h : History) (left right these others : List TermId) (answer : Bool) → these ≡ left → others ≡ right → (has_common h (terms_at bank these) (terms_at bank others) ≡ true → answer ≡ true) →
    answer ≡ false → has_common h (terms_at bank left) (terms_at bank right) ≡ true → ⊥
shared_none bank h left right these others answer first second told absent e =
    let all = told (ap (λ xs. has_common h (terms_at bank xs) (terms_at bank others)) first ∙ (ap (λ ys. has_common h (terms_at bank left) (terms_at bank ys)) second ∙ e)) in
    absurd (cc)
