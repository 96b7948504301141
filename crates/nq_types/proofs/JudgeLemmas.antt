-- Literals that are members of a set, or denials of what is assumed.
use Rattle.std.proofs.Common.{◌≡◌, ◌+◌, ◌<◌, ◌≤◌, ◌⊎◌, ◌∙◌, ℕ, zero, suc, Bool, true, false, ◌||◌, ◌&&◌, Some, List, [], ◌∷◌, ◌++◌, length, get_or, inl, inr, refl, sym, ap, subst, arith}
use Rattle.std.specs.Prelude.{slice_get, nat_eq, nat_lt, bytes_eq, codes, if◌then◌else◌}
use Rattle.std.specs.List.{list_any}
use Rattle.std.proofs.lemmas.Bool.{eqb-true, ltb-true, ltb-false}
use Rattle.nq_logic.specs.Terms.{Name, Term, IsAmong, call}
use Rattle.nq_logic.specs.Words.{not_term}
use Rattle.nq_logic.specs.Histories.{History}
use Rattle.nq_bank.specs.declared.node.TermId.{TermId}
use Rattle.nq_bank.specs.Content.{Content, term_at, terms_at}
use Rattle.nq_proof.proofs.Tests.{and_left, and_right, names_same}
use Rattle.nq_logic.proofs.Lists.{among_left, among_right}
use Rattle.nq_types.specs.TypeSets.{denials, is_in, members, recognized_by, recognizers}
use Rattle.nq_types.specs.Shown.{AreAllowed, IsAllowed, IsOneAmong, IsRecognizerIn}
use Rattle.nq_lines.specs.Lines.{AreAmong}

-- the same id denotes the same term
pub same_id : (bank : Content) (t u : TermId) → nat_eq u.0 t.0 ≡ true → term_at bank t ≡ term_at bank u
same_id bank t u e = ap (λ n. term_at bank (record { 0 = n })) (sym (eqb-true u.0 t.0 e))

pub among_ids : (bank : Content) (t : TermId) (ids : List TermId) → list_any (λ u. nat_eq u.0 t.0) ids ≡ true → IsAmong (term_at bank t) (terms_at bank ids)
among_ids bank t [] e = absurd cc
among_ids bank t (u ∷ ids) e = by_test (nat_eq u.0 t.0) (list_any (λ u. nat_eq u.0 t.0) ids) (among_ids bank t ids) refl e
  where
    by_test : (b r : Bool) → (r ≡ true → IsAmong (term_at bank t) (terms_at bank ids)) → nat_eq u.0 t.0 ≡ b → (b || r) ≡ true → (term_at bank t ≡ term_at bank u) ⊎ IsAmong (term_at bank t) (terms_at bank ids)
    by_test true r rest same h = inl (same_id bank t u same)
    by_test false r rest same h = inr (rest h)

-- a recognizer of the set is among its members
pub member_there : (rs : List Name) (set : ℕ → Bool) (from k : ℕ) (r : Name) (t : Term) → slice_get rs k ≡ Some r → set (from + k) ≡ true → IsAmong (recognized_by r t) (members set from rs t)
member_there [] set from k r t at on = absurd cc
member_there (q ∷ rs) set from zero r t at on = by_bit (set from) refl
  where
    same : r ≡ q
    same = cc

    by_bit : (b : Bool) → set from ≡ b → IsAmong (recognized_by r t) (if b then recognized_by q t ∷ members set (suc from) rs t else members set (suc from) rs t)
    by_bit true e = inl (ap (λ n. recognized_by n t) same)
    by_bit false e = let none : set (from + zero) ≡ false = subst (λ n. set n ≡ false) (omega arith) e in absurd cc
member_there (q ∷ rs) set from (suc k) r t at on = by_bit (set from) (member_there rs set (suc from) k r t at (subst (λ n. set n ≡ true) (omega arith) on))
  where
    by_bit : (b : Bool) → IsAmong (recognized_by r t) (members set (suc from) rs t) → IsAmong (recognized_by r t) (if b then recognized_by q t ∷ members set (suc from) rs t else members set (suc from) rs t)
    by_bit true m = inr m
    by_bit false m = m

denied_there : (u : Term) (ts : List Term) → IsAmong u ts → IsAmong (not_term u) (denials ts)
denied_there u [] m = absurd m
denied_there u (t ∷ ts) (inl e) = inl (ap not_term e)
denied_there u (t ∷ ts) (inr m) = inr (denied_there u ts m)

-- the one argument of a call
pub one_argument : (bank : Content) (f : Name) (t : Term) (ts : List Term) (found ids : List TermId) → t ≡ call f ts → terms_at bank found ≡ ts → (one : IsOneAmong found ids) → t ≡ call f (term_at bank one.one ∷ [])
one_argument bank f t ts found ids is parts one = is ∙ ap (call f) (sym parts ∙ ap (terms_at bank) one.is)

pub denial_told : (bank : Content) (f : Name) (t : Term) (ts : List Term) (found ids : List TermId) (denies one : Bool) → t ≡ call f ts → terms_at bank found ≡ ts → denies ≡ bytes_eq f (codes "NOT") → (one ≡ true → IsOneAmong found ids) → (denies && one) ≡ true → IsAmong t (denials (terms_at bank ids))
denial_told bank f t ts found ids denies one is parts named there e =
    let told : IsOneAmong found ids = there (and_right denies one e) in
    let name : f ≡ codes "NOT" = names_same f (codes "NOT") (sym named ∙ and_left denies one e) in
    let whole : t ≡ not_term (term_at bank told.one) = one_argument bank f t ts found ids is parts told ∙ ap (λ g. call g (term_at bank told.one ∷ [])) name in
    subst (λ u. IsAmong u (denials (terms_at bank ids))) (sym whole) (denied_there (term_at bank told.one) (terms_at bank ids) (among_ids bank told.one ids told.there))

pub only_term : (bank : Content) (u t : TermId) → IsAmong (term_at bank u) (terms_at bank (t ∷ [])) → term_at bank u ≡ term_at bank t
only_term bank u t (inl e) = e
only_term bank u t (inr none) = absurd none

pub member_told : (h : History) (bank : Content) (set : ℕ) (f : Name) (v : Term) (ts : List Term) (found : List TermId) (t : TermId) (within one : Bool) → v ≡ call f ts → terms_at bank found ≡ ts → (within ≡ true → IsRecognizerIn h set f) → (one ≡ true → IsOneAmong found (t ∷ [])) → (within && one) ≡ true → IsAmong v (members (is_in set) 0 (recognizers h) (term_at bank t))
member_told h bank set f v ts found t within one is parts has there e =
    let told : IsOneAmong found (t ∷ []) = there (and_right within one e) in
    let place : IsRecognizerIn h set f = has (and_left within one e) in
    let same : term_at bank told.one ≡ term_at bank t = only_term bank told.one t (among_ids bank told.one (t ∷ []) told.there) in
    let whole : v ≡ recognized_by f (term_at bank t) = one_argument bank f v ts found (t ∷ []) is parts told ∙ ap (recognized_by f) same in
    let zeroth : is_in set (0 + place.place) ≡ true = subst (λ n. is_in set n ≡ true) (omega arith) place.has in
    subst (λ u. IsAmong u (members (is_in set) 0 (recognizers h) (term_at bank t))) (sym whole) (member_there (recognizers h) (is_in set) 0 place.place f (term_at bank t) place.at zeroth)

pub either_there : (u : Term) (c d : List Term) (first second : Bool) → (first ≡ true → IsAmong u c) → (second ≡ true → IsAmong u d) → (first || second) ≡ true → IsAmong u (c ++ d)
either_there u c d true second h k e = among_left u c d (h refl)
either_there u c d false second h k e = among_right u c d (k e)

pub one_item : (ids : List TermId) (d : TermId) → 1 ≤ length ids → length ids < 2 → ids ≡ get_or ids 0 d ∷ []
one_item [] d least below = absurd (omega (arith, least))
one_item (t ∷ []) d least below = refl
one_item (t ∷ u ∷ ids) d least below = absurd (omega (arith, below))

pub each_allowed : (bank : Content) (ls : List Term) (ids : List TermId) → AreAllowed bank ls ids → AreAmong (terms_at bank ids) ls
each_allowed bank ls [] h u m = absurd m
each_allowed bank ls (t ∷ ids) h u (inl e) = subst (λ v. IsAmong v ls) (sym e) (h 0 t (omega arith)).there
each_allowed bank ls (t ∷ ids) h u (inr m) = each_allowed bank ls ids (λ k d below. h (suc k) d (omega (arith, below))) u m

any_default : (ids : List TermId) (i : ℕ) (d e : TermId) → i < length ids → get_or ids i d ≡ get_or ids i e
any_default [] i d e below = absurd (omega (arith, below))
any_default (t ∷ ids) zero d e below = refl
any_default (t ∷ ids) (suc i) d e below = any_default ids i d e (omega (arith, below))

-- one literal more is allowed
pub allowed_more : (bank : Content) (ls : List Term) (ids : List TermId) (i : ℕ) (e : TermId) → i < length ids → ((k : ℕ) (d : TermId) → k < i → IsAllowed bank ls (get_or ids k d)) → IsAllowed bank ls (get_or ids i e) → (k : ℕ) (d : TermId) → k < i + 1 → IsAllowed bank ls (get_or ids k d)
allowed_more bank ls ids i e below so_far here k d less = by_test (nat_lt k i) refl
  where
    by_test : (b : Bool) → nat_lt k i ≡ b → IsAllowed bank ls (get_or ids k d)
    by_test true h = so_far k d (ltb-true k i h)
    by_test false h =
        let most : i ≤ k = ltb-false k i h in
        let same : k ≡ i = omega (arith, most, less) in
        subst (λ n. IsAllowed bank ls (get_or ids n d)) (sym same) (subst (IsAllowed bank ls) (any_default ids i e d below) here)
