-- The candidates are the calls that may be generalized.
use Rattle.std.proofs.Common.{◌≡◌, ◌<◌, ◌≤◌, ◌+◌, ℕ, zero, suc, Bool, true, false, ◌||◌, ◌&&◌, if◌then◌else◌, Option, Some, None, List, [], ◌∷◌, ◌++◌, length, take, get_or, refl, sym, ap, ◌∙◌, subst, inl, inr}
use Rattle.std.specs.Prelude.{not, nat_le, Result, Ok, Err, IfOk, Vec}
use Rattle.std.specs.declared.alloc.Global.{Global}
use Rattle.nq_kernel.specs.declared.work.Stop.{Stop}
use Rattle.std.proofs.lemmas.Bool.Decides.{nat_tests}
use Rattle.nq_logic.specs.Terms.{Term, Variable, Function, Applied, IsAmong}
use Rattle.nq_logic.specs.Histories.{History}
use Rattle.nq_logic.specs.Values.{is_value}
use Rattle.nq_logic.specs.RuleShapes.{is_call}
use Rattle.nq_bank.specs.declared.node.TermId.{TermId}
use Rattle.nq_bank.specs.Content.{Content, term_at, terms_at}
use Rattle.nq_bank.proofs.ArgumentLemmas.{terms_from-take}
use Rattle.nq_proof.specs.Clauses.{Clause, same_term}
use Rattle.nq_proof.specs.Paths.{is_function, under_not}
use Rattle.nq_goals.specs.Generalizing.{can_generalize, chosen_from, literals_with, is_on_both_sides, is_on_both_sides_of_one}
use Rattle.nq_goals.specs.Occurrences.{atom_of, atom_or}
use Rattle.nq_goals.specs.Replacing.{parts_in_all, stands_in, stands_in_one, stands_within}
use Rattle.nq_stuck.specs.Calls.{HoldsAll}
use Rattle.nq_stuck.specs.Common.{is_general}
use Rattle.nq_stuck.proofs.GeneralLemmas.{general_parts}
use Rattle.nq_stuck.proofs.StandingLemmas.{one_among, one_of}
use Rattle.nq_generalize.specs.Candidates.{IsAllOf}

-- one more term
chosen-push : (test : Term → Bool) (t : Term) (ts : List Term) → chosen_from test (ts ++ t ∷ []) ≡ (if not (test t) then chosen_from test ts else chosen_from test ts ++ t ∷ [])
chosen-push test t [] = by_test (test t)
  where
    by_test : (b : Bool) → (elim b as (λ b. List Term) [ true ↦ t ∷ [] | false ↦ [] ]) ≡ (if not b then [] else t ∷ [])
    by_test true = refl
    by_test false = refl
chosen-push test t (u ∷ ts) = ap (λ r. elim (test u) as (λ b. List Term) [ true ↦ u ∷ r | false ↦ r ]) (chosen-push test t ts) ∙ by_tests (test u) (test t)
  where
    rest : List Term
    rest = chosen_from test ts

    by_tests : (a b : Bool) →
        (elim a as (λ b. List Term) [ true ↦ u ∷ (if not b then rest else rest ++ t ∷ []) | false ↦ (if not b then rest else rest ++ t ∷ []) ])
        ≡ (if not b then elim a as (λ b. List Term) [ true ↦ u ∷ rest | false ↦ rest ] else (elim a as (λ b. List Term) [ true ↦ u ∷ rest | false ↦ rest ]) ++ t ∷ [])
    by_tests true true = refl
    by_tests true false = refl
    by_tests false true = refl
    by_tests false false = refl

pub chosen-more : (bank : Content) (test : Term → Bool) (ids old new : List TermId) (i : ℕ) (d : TermId) (can : Bool) → i < length ids → terms_at bank old ≡ chosen_from test (terms_at bank (take i ids)) → can ≡ test (term_at bank (get_or ids i d)) →
    new ≡ (if not can then old else old ++ get_or ids i d ∷ []) → terms_at bank new ≡ chosen_from test (terms_at bank (take (i + 1) ids))
chosen-more bank test ids old new i d can below was is told =
    ap (terms_at bank) told
    ∙ (by_test can
    ∙ (ap (λ c. if not can then c else c ++ term_at bank (get_or ids i d) ∷ []) was
    ∙ (ap (λ b. if not b then chosen_from test (terms_at bank (take i ids)) else chosen_from test (terms_at bank (take i ids)) ++ term_at bank (get_or ids i d) ∷ []) is
    ∙ sym (ap (chosen_from test) (terms_from-take bank.terms ids i d below) ∙ chosen-push test (term_at bank (get_or ids i d)) (terms_at bank (take i ids))))))
  where
    push : (xs : List TermId) (t : TermId) → terms_at bank (xs ++ t ∷ []) ≡ terms_at bank xs ++ term_at bank t ∷ []
    push [] t = refl
    push (x ∷ xs) t = ap (λ r. term_at bank x ∷ r) (push xs t)

    by_test : (b : Bool) → terms_at bank (if not b then old else old ++ get_or ids i d ∷ []) ≡ (if not b then terms_at bank old else terms_at bank old ++ term_at bank (get_or ids i d) ∷ [])
    by_test true = push old (get_or ids i d)
    by_test false = refl

-- what is chosen passes the test, and what passes it is chosen
chosen_passes : (test : Term → Bool) (t : Term) (ts : List Term) → IsAmong t (chosen_from test ts) → test t ≡ true
chosen_passes test t [] m = absurd m
chosen_passes test t (u ∷ ts) m = by_test (λ n. chosen_passes test t ts n) (test u) refl m
  where
    by_test : (IsAmong t (chosen_from test ts) → test t ≡ true) → (b : Bool) → test u ≡ b → IsAmong t (elim b as (λ b. List Term) [ true ↦ u ∷ chosen_from test ts | false ↦ chosen_from test ts ]) → test t ≡ true
    by_test later true e (inl is) = ap test is ∙ e
    by_test later true e (inr n) = later n
    by_test later false e n = later n

pub passes_chosen : (test : Term → Bool) (t : Term) (ts : List Term) → IsAmong t ts → test t ≡ true → IsAmong t (chosen_from test ts)
passes_chosen test t [] m e = absurd m
passes_chosen test t (u ∷ ts) (inl is) e = by_test (test u) (ap test (sym is) ∙ e)
  where
    by_test : (b : Bool) → b ≡ true → IsAmong t (elim b as (λ b. List Term) [ true ↦ u ∷ chosen_from test ts | false ↦ chosen_from test ts ])
    by_test true k = inl is
    by_test false k = absurd (cc)
passes_chosen test t (u ∷ ts) (inr m) e = by_test (passes_chosen test t ts m e) (test u)
  where
    by_test : IsAmong t (chosen_from test ts) → (b : Bool) → IsAmong t (elim b as (λ b. List Term) [ true ↦ u ∷ chosen_from test ts | false ↦ chosen_from test ts ])
    by_test n true = inr n
    by_test n false = n

-- a term that stands in two literals or on both sides of one stands in the goal
either_right : (a b : Bool) → b ≡ true → (a || b) ≡ true
either_right true b e = refl
either_right false b e = e

none_counted : (a : Term) (c : Clause) → stands_in_one a c ≡ false → literals_with a c ≡ 0
none_counted a [] e = refl
none_counted a (t ∷ c) e = by_test (stands_in a t) e (none_counted a c)
  where
    by_test : (b : Bool) → (b || stands_in_one a c) ≡ false → (stands_in_one a c ≡ false → literals_with a c ≡ 0) → (if b then suc (literals_with a c) else literals_with a c) ≡ 0
    by_test true e rest = absurd (cc)
    by_test false e rest = rest e

counted_stands : (a : Term) (c : Clause) → nat_le 2 (literals_with a c) ≡ true → stands_in_one a c ≡ true
counted_stands a c e = by_test (stands_in_one a c) refl
  where
    by_test : (b : Bool) → stands_in_one a c ≡ b → b ≡ true
    by_test true k = refl
    by_test false k = let none : nat_le 2 (literals_with a c) ≡ false = ap (nat_le 2) (none_counted a c k) in absurd (cc)

-- on the right side of a literal's atom
on_right : (a b c : Bool) → (a && b && c) ≡ true → c ≡ true
on_right true true c e = e
on_right true false c e = absurd (cc)
on_right false b c e = absurd (cc)

side_stands : (a t : Term) → is_on_both_sides a t ≡ true → stands_in a t ≡ true
side_stands a (Variable x) e = absurd (cc)
side_stands a (Function f) e = absurd (cc)
side_stands a (Applied (Variable x) u) e = absurd (cc)
side_stands a (Applied (Function f) u) e = absurd (cc)
side_stands a (Applied (Applied f t) u) e =
    let right : stands_in a u ≡ true = on_right (is_function "EQUAL" f || is_function "LESSP" f) (stands_in a t) (stands_in a u) e in
    either_right _ _ (either_right (stands_within a (Applied f t)) (stands_in a u) right)

atom_stands : (a t : Term) → stands_in a (atom_of t) ≡ true → stands_in a t ≡ true
atom_stands a (Variable x) e = e
atom_stands a (Function f) e = e
atom_stands a (Applied f u) e = by_test (is_function "NOT" f) e
  where
    by_test : (b : Bool) → stands_in a (atom_or (Applied f u) (elim b as (λ b. Option Term) [ true ↦ Some u | false ↦ None ])) ≡ true → stands_in a (Applied f u) ≡ true
    by_test true k = either_right (same_term a (Applied f u)) (stands_within a (Applied f u)) (either_right (stands_within a f) (stands_in a u) k)
    by_test false k = k

balanced_stands : (a : Term) (c : Clause) → is_on_both_sides_of_one a c ≡ true → stands_in_one a c ≡ true
balanced_stands a [] e = e
balanced_stands a (t ∷ c) e =
    elim (one_of (is_on_both_sides a (atom_of t)) (is_on_both_sides_of_one a c) e) [
      | inl here ↦ ap (λ b. b || stands_in_one a c) (atom_stands a t (side_stands a (atom_of t) here))
      | inr there ↦ either_right (stands_in a t) (stands_in_one a c) (balanced_stands a c there)
    ]

both_true : (a b : Bool) → (a && b) ≡ true → (a ≡ true) × (b ≡ true)
both_true true b e = (refl, e)
both_true false b e = absurd (cc)

pub can_parts : (h : History) (goal : Clause) (t : Term) → can_generalize h goal t ≡ true → (is_general h t ≡ true) × ((nat_le 2 (literals_with t goal) || is_on_both_sides_of_one t goal) ≡ true)
can_parts h goal t e = both_true (is_general h t) (nat_le 2 (literals_with t goal) || is_on_both_sides_of_one t goal) e

-- the answers of the two tests
can_twice : (h : History) (goal : Clause) (t : Term) (twice : Bool) → is_general h t ≡ true → twice ≡ (nat_le 2 (literals_with t goal) || is_on_both_sides_of_one t goal) → twice ≡ can_generalize h goal t
can_twice h goal t twice general told = told ∙ sym (ap (λ b. b && (nat_le 2 (literals_with t goal) || is_on_both_sides_of_one t goal)) general)

pub cannot : (h : History) (goal : Clause) (t : Term) → is_general h t ≡ false → false ≡ can_generalize h goal t
cannot h goal t general = sym (ap (λ b. b && (nat_le 2 (literals_with t goal) || is_on_both_sides_of_one t goal)) general)

all_chosen : (bank : Content) (h : History) (goal : Clause) (calls : List TermId) (these : List Term) → HoldsAll bank calls goal → these ≡ chosen_from (can_generalize h goal) (terms_at bank calls) → IsAllOf (can_generalize h goal) (parts_in_all goal) these
all_chosen bank h goal calls these held is =
    record {
      each = λ t m.
          let can : can_generalize h goal t ≡ true = chosen_passes (can_generalize h goal) t (terms_at bank calls) (subst (IsAmong t) is m) in
          let stands = stands_twice_in t ((can_parts h goal t can).1) in
          (one_among t goal stands, can);
      all = λ t m can.
          let general = general_parts h t ((can_parts h goal t can).0) in
          subst (IsAmong t) (sym is) (passes_chosen (can_generalize h goal) t (terms_at bank calls) (held.each t m general.called general.other) can);
    }
  where
    stands_twice_in : (t : Term) → (nat_le 2 (literals_with t goal) || is_on_both_sides_of_one t goal) ≡ true → stands_in_one t goal ≡ true
    stands_twice_in t e = elim (one_of (nat_le 2 (literals_with t goal)) (is_on_both_sides_of_one t goal) e) [ inl counted ↦ counted_stands t goal counted | inr balanced ↦ balanced_stands t goal balanced ]

-- nothing passes the test
pub chosen_nothing : (test : Term → Bool) (ts : List Term) → ((t : Term) → IsAmong t ts → test t ≡ true → ⊥) → chosen_from test ts ≡ []
chosen_nothing test [] none = refl
chosen_nothing test (t ∷ ts) none = by_test (chosen_nothing test ts (λ u m k. none u (inr m) k)) (test t) refl
  where
    by_test : chosen_from test ts ≡ [] → (b : Bool) → test t ≡ b → (elim b as (λ b. List Term) [ true ↦ t ∷ chosen_from test ts | false ↦ chosen_from test ts ]) ≡ []
    by_test rest true e = absurd (none t (inl refl) e)
    by_test rest false e = rest

pub general_value : (h : History) (t : Term) → is_general h t ≡ true → is_value t ≡ false
general_value h t e = (general_parts h t e).other

pub twice_ok : (h : History) (goal : Clause) (t : Term) (r : Result Bool Stop) → is_general h t ≡ true → IfOk r (λ b. b ≡ (nat_le 2 (literals_with t goal) || is_on_both_sides_of_one t goal)) → IfOk r (λ b. b ≡ can_generalize h goal t)
twice_ok h goal t (Ok b) general told = can_twice h goal t b general told
twice_ok h goal t (Err e) general told = told

pub all_ok : (bank : Content) (h : History) (goal : Clause) (calls told : List TermId) (r : Result (Vec TermId Global) Stop) → HoldsAll bank calls goal → told ≡ calls → IfOk r (λ v. terms_at bank v.items ≡ chosen_from (can_generalize h goal) (terms_at bank told)) →
    IfOk r (λ v. IsAllOf (can_generalize h goal) (parts_in_all goal) (terms_at bank v.items))
all_ok bank h goal calls told (Ok v) held same is = all_chosen bank h goal calls (terms_at bank v.items) held (is ∙ ap (λ ids. chosen_from (can_generalize h goal) (terms_at bank ids)) same)
all_ok bank h goal calls told (Err e) held same is = is
