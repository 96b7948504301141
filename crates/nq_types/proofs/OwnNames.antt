-- The constructors and bases of a ready history are different names, so a term is of one kind.
use Rattle.std.proofs.Common.{◌≡◌, ◌+◌, ◌∙◌, ℕ, zero, suc, Bool, true, false, not, Option, Some, None, List, [], ◌∷◌, ◌++◌, map, refl, sym, ap, subst, inl, inr, arith, append_assoc}
use Rattle.std.specs.Prelude.{slice_get, codes, ◌&&◌, ◌||◌}
use Rattle.std.specs.List.{list_all}
use Rattle.std.proofs.lemmas.List.{map-append, append-nil}
use Rattle.nq_logic.specs.Terms.{Name, Term, IsAmong, Each}
use Rattle.nq_logic.specs.Histories.{History, Shell, Event, AddShell, Declaration, Defines, Axiom, Lemma, Toggle, base_symbols, accessor_symbols, event_shells, events_shells}
use Rattle.nq_logic.specs.Names.{has_name, event_names, events_names, symbol_names, is_in_use, is_reserved}
use Rattle.nq_logic.specs.Ground.{all_events, ground_history, ground_shells}
use Rattle.nq_logic.specs.ShellPrinciple.{shells_of, shell_names}
use Rattle.nq_logic.proofs.Lists.{among_left, among_right, each_at, each_append}
use Rattle.nq_logic.proofs.Tests.{names_found_law}
use Rattle.nq_proof.proofs.Tests.{and_left, and_right, some_same, none_is_not_some}
use Rattle.nq_proof.proofs.ShellSymbols.{events_join}
use Rattle.nq_kernel.specs.Ready.{IsReady, IsReadyEvent, ReadyFrom}
use Rattle.nq_types.specs.Kinds.{IsOfKind, of_truth, of_falsity, of_base, of_made}
use Rattle.nq_types.proofs.CallLemmas.{head_of, head_call}

-- ---- lists of names that have none in common

abbrev Without : Name → List (List Name) → Type 0
Without n xss = Each (λ xs. IsAmong n xs → ⊥) xss

abbrev Apart : List (List Name) → Type 0
Apart [] = Unit {0}
Apart (xs ∷ xss) = ((n : Name) → IsAmong n xs → Without n xss) × Apart xss

at_each : {X : Type 0} (P : X → Type 0) (xs : List X) (k : ℕ) (x : X) → Each P xs → slice_get xs k ≡ Some x → P x
at_each P [] k x each e = absurd (none_is_not_some x e)
at_each P (y ∷ xs) zero x each e = subst P (some_same y x e) each.0
at_each P (y ∷ xs) (suc k) x each e = at_each P xs k x each.1 e

apart_same : (xss : List (List Name)) → Apart xss → (n : Name) (j k : ℕ) (xs ys : List Name) → slice_get xss j ≡ Some xs → slice_get xss k ≡ Some ys → IsAmong n xs → IsAmong n ys → j ≡ k
apart_same [] apart n j k xs ys e g m l = absurd (none_is_not_some xs e)
apart_same (zs ∷ xss) apart n zero zero xs ys e g m l = refl
apart_same (zs ∷ xss) apart n zero (suc k) xs ys e g m l =
    absurd (at_each (λ ws. IsAmong n ws → ⊥) xss k ys (apart.0 n (subst (IsAmong n) (sym (some_same zs xs e)) m)) g l)
apart_same (zs ∷ xss) apart n (suc j) zero xs ys e g m l =
    absurd (at_each (λ ws. IsAmong n ws → ⊥) xss j xs (apart.0 n (subst (IsAmong n) (sym (some_same zs ys g)) l)) e m)
apart_same (zs ∷ xss) apart n (suc j) (suc k) xs ys e g m l = ap suc (apart_same xss apart.1 n j k xs ys e g m l)

apart_more : (xss : List (List Name)) (ys : List Name) → Apart xss → ((n : Name) → IsAmong n ys → Without n xss) → Apart (xss ++ ys ∷ [])
apart_more [] ys apart new = ((λ n m. tt), tt)
apart_more (xs ∷ xss) ys apart new = (
  (λ n m. each_append (λ ws. IsAmong n ws → ⊥) xss (ys ∷ []) (apart.0 n m) ((λ l. (new n l).0 m), tt)),
  apart_more xss ys apart.1 (λ n m. (new n m).1),
)

-- the same by a test
abbrev is_without : Name → List (List Name) → Bool
is_without n xss = list_all (λ xs. not (has_name n xs)) xss

abbrev are_apart : List (List Name) → Bool
are_apart [] = true
are_apart (xs ∷ xss) = list_all (λ n. is_without n xss) xs && are_apart xss

not_there : (n : Name) (xs : List Name) → not (has_name n xs) ≡ true → IsAmong n xs → ⊥
not_there n xs e m = by_test (has_name n xs) ((names_found_law n xs).1 m) e
  where
    by_test : (b : Bool) → b ≡ true → not b ≡ true → ⊥
    by_test true h k = cc
    by_test false h k = cc

without_told : (n : Name) (xss : List (List Name)) → is_without n xss ≡ true → Without n xss
without_told n [] e = tt
without_told n (xs ∷ xss) e = (not_there n xs (and_left (not (has_name n xs)) (is_without n xss) e), without_told n xss (and_right (not (has_name n xs)) (is_without n xss) e))

all_at : (test : Name → Bool) (xs : List Name) (n : Name) → list_all test xs ≡ true → IsAmong n xs → test n ≡ true
all_at test [] n e m = absurd m
all_at test (x ∷ xs) n e (inl same) = subst (λ y. test y ≡ true) (sym same) (and_left (test x) (list_all test xs) e)
all_at test (x ∷ xs) n e (inr m) = all_at test xs n (and_right (test x) (list_all test xs) e) m

apart_told : (xss : List (List Name)) → are_apart xss ≡ true → Apart xss
apart_told [] e = tt
apart_told (xs ∷ xss) e = (
  (λ n m. without_told n xss (all_at (λ n. is_without n xss) xs n (and_left (list_all (λ n. is_without n xss) xs) (are_apart xss) e) m)),
  apart_told xss (and_right (list_all (λ n. is_without n xss) xs) (are_apart xss) e),
)

-- ---- the names of the kinds

abbrev base_names : Option Name → List Name
base_names None = []
base_names (Some b) = b ∷ []

abbrev maker_names : Shell → List Name
maker_names s = s.constructor ∷ base_names s.base

-- names of rows that no constructor has, T and F, and the names of each shell
abbrev named_kinds : List Shell → List (List Name)
named_kinds shells = (codes "IF" ∷ codes "LESSP" ∷ []) ∷ (codes "TRUE" ∷ []) ∷ (codes "FALSE" ∷ []) ∷ map maker_names shells

base_within : (o : Option Name) (n : Name) (later : List Name) → IsAmong n (base_names o) → IsAmong n (symbol_names (base_symbols o) ++ later)
base_within None n later m = absurd m
base_within (Some b) n later m = elim m [ inl e ↦ inl e | inr none ↦ absurd none ]

names_split : (o : Option Name) (r : Name) (s : Shell) → symbol_names (base_symbols o ++ ((r, 1) ∷ accessor_symbols s.parts)) ≡ symbol_names (base_symbols o) ++ symbol_names ((r, 1) ∷ accessor_symbols s.parts)
names_split o r s = map-append (λ symbol. symbol.0) (base_symbols o) ((r, 1) ∷ accessor_symbols s.parts)

-- they are among the names of the shell
maker_within : (s : Shell) (n : Name) → IsAmong n (maker_names s) → IsAmong n (shell_names s)
maker_within s n (inl e) = inl e
maker_within s n (inr m) = inr (subst (IsAmong n) (sym (names_split s.base s.recognizer s)) (base_within s.base n (symbol_names ((s.recognizer, 1) ∷ accessor_symbols s.parts)) m))

used_right : (n : Name) (xs ys : List Name) → has_name n ys ≡ true → has_name n (xs ++ ys) ≡ true
used_right n xs ys e = (names_found_law n (xs ++ ys)).1 (among_right n xs ys ((names_found_law n ys).0 e))

-- so they are in use in a history that has the shell
shell_used : (es : List Event) (s : Shell) (n : Name) → IsAmong s (events_shells es) → IsAmong n (maker_names s) → has_name n (events_names es) ≡ true
shell_used [] s n there m = absurd there
shell_used (AddShell q ∷ es) s n (inl same) m =
    (names_found_law n (event_names (AddShell q) ++ events_names es)).1 (among_left n (event_names (AddShell q)) (events_names es) (inr (maker_within q n (subst (λ x. IsAmong n (maker_names x)) same m))))
shell_used (AddShell q ∷ es) s n (inr later) m = used_right n (event_names (AddShell q)) (events_names es) (shell_used es s n later m)
shell_used (Declaration f a ∷ es) s n there m = used_right n (event_names (Declaration f a)) (events_names es) (shell_used es s n there m)
shell_used (Defines d ∷ es) s n there m = used_right n (event_names (Defines d)) (events_names es) (shell_used es s n there m)
shell_used (Axiom x classes t ∷ es) s n there m = used_right n (event_names (Axiom x classes t)) (events_names es) (shell_used es s n there m)
shell_used (Lemma x classes t ∷ es) s n there m = used_right n (event_names (Lemma x classes t)) (events_names es) (shell_used es s n there m)
shell_used (Toggle x old disabled ∷ es) s n there m = used_right n (event_names (Toggle x old disabled)) (events_names es) (shell_used es s n there m)

or_second : (a b : Bool) → b ≡ true → (a || b) ≡ true
or_second true b e = refl
or_second false b e = e

each_map : (P : List Name → Type 0) (shells : List Shell) → ((s : Shell) → IsAmong s shells → P (maker_names s)) → Each P (map maker_names shells)
each_map P [] f = tt
each_map P (s ∷ shells) f = (f s (inl refl), each_map P shells (λ q m. f q (inr m)))

-- each name of a kind is in use
kinds_used : (b : History) → Each (λ xs. (n : Name) → IsAmong n xs → is_in_use n b ≡ true) (named_kinds (shells_of b))
kinds_used b = (
  (λ n m. by_two n m),
  (
    (λ n m. by_one n (codes "TRUE") refl m),
    (
      (λ n m. by_one n (codes "FALSE") refl m),
      each_map (λ xs. (n : Name) → IsAmong n xs → is_in_use n b ≡ true) (shells_of b) (λ s there n m. or_second (is_reserved n) (has_name n (events_names (all_events b))) (shell_used (all_events b) s n there m)),
    ),
  ),
)
  where
    by_one : (n x : Name) → is_in_use x b ≡ true → IsAmong n (x ∷ []) → is_in_use n b ≡ true
    by_one n x used (inl e) = subst (λ y. is_in_use y b ≡ true) (sym e) used
    by_one n x used (inr none) = absurd none

    by_two : (n : Name) → IsAmong n (codes "IF" ∷ codes "LESSP" ∷ []) → is_in_use n b ≡ true
    by_two n (inl e) = subst (λ y. is_in_use y b ≡ true) (sym e) refl
    by_two n (inr m) = by_one n (codes "LESSP") refl m

-- a name that is not in use is of no kind
new_without : (b : History) (n : Name) → is_in_use n b ≡ false → Without n (named_kinds (shells_of b))
new_without b n unused = turned (named_kinds (shells_of b)) (kinds_used b)
  where
    turned : (xss : List (List Name)) → Each (λ xs. (n : Name) → IsAmong n xs → is_in_use n b ≡ true) xss → Each (λ xs. IsAmong n xs → ⊥) xss
    turned [] each = tt
    turned (xs ∷ xss) each = ((λ m. let used : is_in_use n b ≡ true = each.0 n m in clash (is_in_use n b) used unused), turned xss each.1)
      where
        clash : (x : Bool) → x ≡ true → x ≡ false → ⊥
        clash true h k = cc
        clash false h k = cc

shells_more : (b : History) (s : Shell) → named_kinds (shells_of (b ++ AddShell s ∷ [])) ≡ named_kinds (shells_of b) ++ maker_names s ∷ []
shells_more b s =
    let join : shells_of (b ++ AddShell s ∷ []) ≡ shells_of b ++ s ∷ [] = ap events_shells (sym (append_assoc ground_history b (AddShell s ∷ []))) ∙ events_join (all_events b) (AddShell s ∷ []) in
    ap named_kinds join ∙ ap (λ xss. (codes "IF" ∷ codes "LESSP" ∷ []) ∷ (codes "TRUE" ∷ []) ∷ (codes "FALSE" ∷ []) ∷ xss) (map-append maker_names (shells_of b) (s ∷ []))

shells_kept : (b : History) (e : Event) → event_shells e ≡ [] → shells_of (b ++ e ∷ []) ≡ shells_of b
shells_kept b e none =
    ap events_shells (sym (append_assoc ground_history b (e ∷ []))) ∙ events_join (all_events b) (e ∷ []) ∙ ap (λ xs. shells_of b ++ (xs ++ [])) none ∙ append-nil (shells_of b)

apart_from : (b h : History) → ReadyFrom b h → Apart (named_kinds (shells_of b)) → Apart (named_kinds (shells_of (b ++ h)))
apart_from b [] ready apart = subst (λ x. Apart (named_kinds (shells_of x))) (sym (append-nil b)) apart
apart_from b (e ∷ h) ready apart = subst (λ x. Apart (named_kinds (shells_of x))) (append_assoc b (e ∷ []) h) (apart_from (b ++ e ∷ []) h ready.1 (next e ready.0))
  where
    kept : (e : Event) → event_shells e ≡ [] → Apart (named_kinds (shells_of (b ++ e ∷ [])))
    kept e none = subst (λ shells. Apart (named_kinds shells)) (sym (shells_kept b e none)) apart

    next : (e : Event) → IsReadyEvent b e → Apart (named_kinds (shells_of (b ++ e ∷ [])))
    next (AddShell s) is =
        subst Apart (sym (shells_more b s)) (apart_more (named_kinds (shells_of b)) (maker_names s) apart (λ n m. new_without b n (each_at (λ n. is_in_use n b ≡ false) n (shell_names s) is.holds.unused (maker_within s n m))))
    next (Declaration f a) is = kept (Declaration f a) refl
    next (Defines d) is = kept (Defines d) refl
    next (Axiom x classes t) is = kept (Axiom x classes t) refl
    next (Lemma x classes t) is = kept (Lemma x classes t) refl
    next (Toggle x old disabled) is = kept (Toggle x old disabled) refl

kinds_apart : (h : History) → IsReady h → Apart (named_kinds (shells_of h))
kinds_apart h ready = apart_from [] h ready (apart_told (named_kinds ground_shells) refl)

-- ---- one kind

-- the name at the head of a term of a kind is one of the kind's
record Heads (h : History) (t : Term) (k : ℕ) : Type 0 where
  name : Name
  names : List Name
  head : head_of t ≡ Some name
  at : slice_get (named_kinds (shells_of h)) (suc k) ≡ Some names
  there : IsAmong name names

shell_names_at : (shells : List Shell) (j : ℕ) (s : Shell) → slice_get shells j ≡ Some s → slice_get (map maker_names shells) j ≡ Some (maker_names s)
shell_names_at [] j s e = absurd (none_is_not_some s e)
shell_names_at (q ∷ shells) zero s e = ap (λ x. Some (maker_names x)) (some_same q s e)
shell_names_at (q ∷ shells) (suc j) s e = shell_names_at shells j s e

base_there : (o : Option Name) (b : Name) → o ≡ Some b → IsAmong b (base_names o)
base_there o b e = subst (λ o. IsAmong b (base_names o)) (sym e) (inl refl)

place_of_shell : (h : History) (j : ℕ) (s : Shell) → slice_get (shells_of h) j ≡ Some s → slice_get (named_kinds (shells_of h)) (suc (j + 2)) ≡ Some (maker_names s)
place_of_shell h j s e =
    let places : suc (suc (suc j)) ≡ suc (j + 2) = omega arith in
    subst (λ n. slice_get (named_kinds (shells_of h)) n ≡ Some (maker_names s)) places (shell_names_at (shells_of h) j s e)

heads : (h : History) (t : Term) (k : ℕ) → IsOfKind h t k → Heads h t k
heads h t zero (of_truth e) = record { name = codes "TRUE"; names = codes "TRUE" ∷ []; head = ap head_of e; at = refl; there = inl refl }
heads h t k (of_falsity e) = record { name = codes "FALSE"; names = codes "FALSE" ∷ []; head = ap head_of e; at = refl; there = inl refl }
heads h t k (of_base j b) = record { name = b.base; names = maker_names b.shell; head = ap head_of b.is; at = place_of_shell h j b.shell b.at; there = inr (base_there b.shell.base b.base b.has) }
heads h t k (of_made j m) = record { name = m.shell.constructor; names = maker_names m.shell; head = ap head_of m.is ∙ head_call m.shell.constructor m.arguments; at = place_of_shell h j m.shell m.at; there = inl refl }

pub one_kind : (h : History) (t : Term) (j k : ℕ) → IsReady h → IsOfKind h t j → IsOfKind h t k → j ≡ k
one_kind h t j k ready a b =
    let p : Heads h t j = heads h t j a in
    let q : Heads h t k = heads h t k b in
    let same : p.name ≡ q.name = some_same p.name q.name (sym p.head ∙ q.head) in
    let places : suc j ≡ suc k = apart_same (named_kinds (shells_of h)) (kinds_apart h ready) p.name (suc j) (suc k) p.names q.names p.at q.at p.there (subst (λ n. IsAmong n q.names) (sym same) q.there) in
    omega (arith, places)

-- ---- constructors

-- the constructors of two places are two names
pub one_constructor : (h : History) (j k : ℕ) (s q : Shell) → IsReady h → slice_get (shells_of h) j ≡ Some s → slice_get (shells_of h) k ≡ Some q → s.constructor ≡ q.constructor → j ≡ k
one_constructor h j k s q ready at other same =
    let places : suc (j + 2) ≡ suc (k + 2) = apart_same (named_kinds (shells_of h)) (kinds_apart h ready) s.constructor (suc (j + 2)) (suc (k + 2)) (maker_names s) (maker_names q) (place_of_shell h j s at) (place_of_shell h k q other) (inl refl) (inl same) in
    omega (arith, places)

-- no constructor is one of these names
pub no_taken_name : (h : History) (k : ℕ) (s : Shell) (n : Name) → IsReady h → slice_get (shells_of h) k ≡ Some s → IsAmong n (codes "IF" ∷ codes "LESSP" ∷ []) → s.constructor ≡ n → ⊥
no_taken_name h k s n ready at there same =
    let places : 0 ≡ suc (k + 2) = apart_same (named_kinds (shells_of h)) (kinds_apart h ready) n 0 (suc (k + 2)) (codes "IF" ∷ codes "LESSP" ∷ []) (maker_names s) refl (place_of_shell h k s at) there (inl (sym same)) in
    absurd (omega (arith, places))

pub no_false_name : (h : History) (k : ℕ) (s : Shell) → IsReady h → slice_get (shells_of h) k ≡ Some s → s.constructor ≡ codes "FALSE" → ⊥
no_false_name h k s ready at same =
    let places : 2 ≡ suc (k + 2) = apart_same (named_kinds (shells_of h)) (kinds_apart h ready) (codes "FALSE") 2 (suc (k + 2)) (codes "FALSE" ∷ []) (maker_names s) refl (place_of_shell h k s at) (inl refl) (inl (sym same)) in
    absurd (omega (arith, places))
