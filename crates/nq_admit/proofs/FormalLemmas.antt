-- A set by which formals are known, and one formal more.
use Rattle.std.proofs.Common.{◌≡◌, ℕ, ◌<◌, ◌≤◌, suc, ◌+◌, ◌-◌, eqb, cond, Bool, true, false, ◌||◌, not, List, [], ◌∷◌, ◌++◌, map, get_or, drop, drop-cons, take, length, refl, sym, ap, ◌∙◌, subst, arith}
use Rattle.std.specs.Prelude.{nat_eq, bytes_eq, Option, Some, if◌then◌else◌}
use Rattle.std.specs.HashSet.{contains, Updates}
use Rattle.nq_logic.specs.Terms.{Name}
use Rattle.nq_logic.specs.Names.{has_name}
use Rattle.nq_logic.specs.ShellPrinciple.{first_repeated}
use Rattle.nq_bank.specs.declared.node.Sym.{Sym}
use Rattle.nq_bank.specs.Content.{Content, IsNamed, text_at}
use Rattle.nq_bank.specs.Shells.{texts_at}
use Rattle.nq_bank.specs.Soundness.{IsSound}
use Rattle.std.proofs.lemmas.Bool.{eqb-true, eq-eqb}
use Rattle.std.proofs.lemmas.List.{map_push, take_more}
use Rattle.nq_bank.proofs.SoundLemmas.{eqb-symbols}
use Rattle.nq_bank.proofs.Texts.{same_test}
use Rattle.nq_admit.proofs.TermLemmas.{or_false, or_assoc}
use Rattle.nq_admit.specs.Formals.{Ids, IsSetOf}

or_cond : (b d : Bool) → cond b true d ≡ (b || d)
or_cond true d = refl
or_cond false d = refl

eqb-swap : (m n : ℕ) → eqb m n ≡ eqb n m
eqb-swap m n = same_test (eqb m n) (eqb n m) (λ h. eq-eqb n m (sym (eqb-true m n h))) (λ h. eq-eqb m n (sym (eqb-true n m h)))

-- with one name more before the others
pub set-cons : (bank : Content) (s : Sym) (names : List Sym) (old new : Ids) → IsSound bank → IsNamed bank s → IsSetOf bank names old → Updates nat_eq old new s.0 true → IsSetOf bank (s ∷ names) new
set-cons bank s names old new sound named is updates =
    λ r there.
    updates.0 r.0 ∙ or_cond (eqb s.0 r.0) (contains nat_eq old r.0) ∙
    ap (λ b. b || contains nat_eq old r.0) (eqb-swap s.0 r.0 ∙ eqb-symbols bank r s sound there named) ∙
    ap (λ b. bytes_eq (text_at bank r) (text_at bank s) || b) (is r there)

or_swap : (b d : Bool) → (b || d) ≡ (d || b)
or_swap true true = refl
or_swap true false = refl
or_swap false true = refl
or_swap false false = refl

has_name-append : (x : Name) (xs ys : List Name) → has_name x (xs ++ ys) ≡ (has_name x xs || has_name x ys)
has_name-append x [] ys = refl
has_name-append x (y ∷ xs) ys = ap (λ b. bytes_eq x y || b) (has_name-append x xs ys) ∙ sym (or_assoc (bytes_eq x y) (has_name x xs) (has_name x ys))

-- a set is of names in any order
set-last : (bank : Content) (s : Sym) (names : List Sym) (ids : Ids) → IsSetOf bank (s ∷ names) ids → IsSetOf bank (names ++ s ∷ []) ids
set-last bank s names ids is =
    λ r there.
    is r there ∙ or_swap (bytes_eq (text_at bank r) (text_at bank s)) (has_name (text_at bank r) (texts_at bank names)) ∙
    ap (λ b. has_name (text_at bank r) (texts_at bank names) || b) (sym (or_false (bytes_eq (text_at bank r) (text_at bank s)))) ∙
    sym (ap (has_name (text_at bank r)) (map_push (text_at bank) names s) ∙ has_name-append (text_at bank r) (texts_at bank names) (text_at bank s ∷ []))

-- with one more of the formals so far
pub set-more : (bank : Content) (formals : List Sym) (i : ℕ) (d : Sym) (old new : Ids) → IsSound bank → i < length formals → IsNamed bank (get_or formals i d) → IsSetOf bank (take i formals) old → Updates nat_eq old new (get_or formals i d).0 true
    → IsSetOf bank (take (i + 1) formals) new
set-more bank formals i d old new sound below named is updates =
    subst (λ xs. IsSetOf bank xs new) (sym (take_more formals i d below))
    (set-last bank (get_or formals i d) (take i formals) new (set-cons bank (get_or formals i d) (take i formals) old new sound named is updates))

-- the formals from the one before a place on
before_place : (formals : List Sym) (i : ℕ) (d : Sym) → 0 < i → i ≤ length formals → drop (i - 1) formals ≡ get_or formals (i - 1) d ∷ drop i formals
before_place formals i d positive within =
    let next : suc (i - 1) ≡ i = omega (arith, positive) in
    drop-cons formals (i - 1) d (omega (arith, positive, within)) ∙ ap (λ n. get_or formals (i - 1) d ∷ drop n formals) next

-- with the formal before those that the set is of
pub set-before : (bank : Content) (formals : List Sym) (i : ℕ) (d : Sym) (old new : Ids) → IsSound bank → 0 < i → i ≤ length formals → IsNamed bank (get_or formals (i - 1) d) → IsSetOf bank (drop i formals) old
    → Updates nat_eq old new (get_or formals (i - 1) d).0 true → IsSetOf bank (drop (i - 1) formals) new
set-before bank formals i d old new sound positive within named is updates =
    subst (λ xs. IsSetOf bank xs new) (sym (before_place formals i d positive within))
    (set-cons bank (get_or formals (i - 1) d) (drop i formals) old new sound named is updates)

twice : (x : Name) (rest : List Name) (known added : Bool) → added ≡ not known → known ≡ has_name x rest → added ≡ false → Some x ≡ first_repeated (x ∷ rest)
twice x rest true added is told old = ap (λ b. if b then Some x else first_repeated rest) told
twice x rest false added is told old = absurd (cc)

once : (x : Name) (rest : List Name) (known added : Bool) → added ≡ not known → known ≡ has_name x rest → added ≡ true → first_repeated rest ≡ first_repeated (x ∷ rest)
once x rest true added is told fresh = absurd (cc)
once x rest false added is told fresh = ap (λ b. if b then Some x else first_repeated rest) told

-- that formal stands twice where its id was in the set
pub found_twice : (bank : Content) (formals : List Sym) (i : ℕ) (d : Sym) (old : Ids) (added : Bool) → 0 < i → i ≤ length formals → IsNamed bank (get_or formals (i - 1) d) → IsSetOf bank (drop i formals) old
    → added ≡ not (contains nat_eq old (get_or formals (i - 1) d).0) → added ≡ false → Some (text_at bank (get_or formals (i - 1) d)) ≡ first_repeated (texts_at bank (drop (i - 1) formals))
found_twice bank formals i d old added positive within named is told old_one =
    let x = get_or formals (i - 1) d in
    twice (text_at bank x) (texts_at bank (drop i formals)) (contains nat_eq old x.0) added told (is x named) old_one ∙
    ap (λ xs. first_repeated (texts_at bank xs)) (sym (before_place formals i d positive within))

-- and else what was found stands
pub found_later : (bank : Content) (formals : List Sym) (i : ℕ) (d : Sym) (old : Ids) (added : Bool) (found : Option Name) → 0 < i → i ≤ length formals → IsNamed bank (get_or formals (i - 1) d) → IsSetOf bank (drop i formals) old
    → added ≡ not (contains nat_eq old (get_or formals (i - 1) d).0) → added ≡ true → found ≡ first_repeated (texts_at bank (drop i formals)) → found ≡ first_repeated (texts_at bank (drop (i - 1) formals))
found_later bank formals i d old added found positive within named is told fresh so_far =
    let x = get_or formals (i - 1) d in
    so_far ∙ once (text_at bank x) (texts_at bank (drop i formals)) (contains nat_eq old x.0) added told (is x named) fresh ∙
    ap (λ xs. first_repeated (texts_at bank xs)) (sym (before_place formals i d positive within))
