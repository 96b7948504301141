-- The calls within a call, place by place, under all tests that govern them.
use Rattle.std.proofs.Common.{◌≡◌, ℕ, suc, ◌+◌, ◌<◌, ◌≤◌, Bool, true, false, List, [], ◌∷◌, ◌++◌, length, get_or, drop, drop-cons, add-one, map, refl, sym, ap, ap₂, ◌∙◌, append_assoc}
use Rattle.std.specs.Prelude.{bytes_eq, codes}
use Rattle.std.proofs.lemmas.List.{append-nil, at_drop_all}
use Rattle.nq_logic.specs.Terms.{Name, Term, call}
use Rattle.nq_logic.specs.Words.{not_term}
use Rattle.nq_logic.specs.Admissible.{Call, governed, all_calls, second_side, both_sides, if_calls, own_call, calls_of}
use Rattle.nq_bank.specs.declared.node.TermId.{TermId}
use Rattle.nq_bank.specs.Content.{Content, term_at, terms_at}
use Rattle.nq_bank.specs.Parts.{parts_of}
use Rattle.nq_calls.specs.Calls.{place_tests}
use Rattle.nq_calls.proofs.CallLemmas.{calls_inside, calls_of-call}
use Rattle.nq_tracer.specs.Sites.{beneath}

-- calls beneath tests
module _ (f : Name) where
  pub beneath-append : (tests : List Term) (c d : List Call) → beneath tests (c ++ d) ≡ beneath tests c ++ beneath tests d
  beneath-append tests [] d = refl
  beneath-append tests (x ∷ c) d = ap (λ l. record { tests = tests ++ x.tests; arguments = x.arguments } ∷ l) (beneath-append tests c d)

  beneath-governed : (p : Term) (tests : List Term) (c : List Call) → beneath tests (governed p c) ≡ beneath (tests ++ (p ∷ [])) c
  beneath-governed p tests [] = refl
  beneath-governed p tests (x ∷ c) =
      ap₂ (λ (ts : List Term) (l : List Call). record { tests = ts; arguments = x.arguments } ∷ l) (sym (append_assoc tests (p ∷ []) x.tests)) (beneath-governed p tests c)

  -- those of the arguments from a place on
  abbrev pub calls_from : List Term → Bool → List Term → ℕ → List Term → List Call
  calls_from tests choice ts n [] = []
  calls_from tests choice ts n (u ∷ us) = beneath (tests ++ place_tests choice ts n) (calls_of f u) ++ calls_from tests choice ts (suc n) us

  ungoverned : (tests : List Term) (c d : List Call) (all : List Call) → d ≡ beneath tests all → beneath (tests ++ []) c ++ d ≡ beneath tests (c ++ all)
  ungoverned tests c d all e =
      ap₂ (λ (ts : List Term) (l : List Call). beneath ts c ++ l) (append-nil tests) e ∙ sym (beneath-append tests c all)

  plain_from : (tests ts : List Term) (n : ℕ) (us : List Term) → calls_from tests false ts n us ≡ beneath tests (all_calls (map (calls_of f) us))
  plain_from tests ts n [] = refl
  plain_from tests ts n (u ∷ us) = ungoverned tests (calls_of f u) (calls_from tests false ts (suc n) us) (all_calls (map (calls_of f) us)) (plain_from tests ts (suc n) us)

  beyond_from : (tests : List Term) (p : Term) (ts : List Term) (n : ℕ) (us : List Term) → calls_from tests true (p ∷ ts) (suc (suc (suc n))) us ≡ beneath tests (all_calls (map (calls_of f) us))
  beyond_from tests p ts n [] = refl
  beyond_from tests p ts n (u ∷ us) = ungoverned tests (calls_of f u) (calls_from tests true (p ∷ ts) (suc (suc (suc (suc n)))) us) (all_calls (map (calls_of f) us)) (beyond_from tests p ts (suc n) us)

  governed_first : (tests : List Term) (p : Term) (c d all : List Call) → d ≡ beneath tests all → beneath (tests ++ (p ∷ [])) c ++ d ≡ beneath tests (governed p c ++ all)
  governed_first tests p c d all e =
      ap₂ (λ (l r : List Call). l ++ r) (sym (beneath-governed p tests c)) e ∙ sym (beneath-append tests (governed p c) all)

  third_from : (tests : List Term) (p : Term) (ts us : List Term) → calls_from tests true (p ∷ ts) 2 us ≡ beneath tests (second_side p (map (calls_of f) us))
  third_from tests p ts [] = refl
  third_from tests p ts (u ∷ us) = governed_first tests (not_term p) (calls_of f u) (calls_from tests true (p ∷ ts) 3 us) (all_calls (map (calls_of f) us)) (beyond_from tests p ts 0 us)

  second_from : (tests : List Term) (p : Term) (ts us : List Term) → calls_from tests true (p ∷ ts) 1 us ≡ beneath tests (both_sides p (map (calls_of f) us))
  second_from tests p ts [] = refl
  second_from tests p ts (u ∷ us) = governed_first tests p (calls_of f u) (calls_from tests true (p ∷ ts) 2 us) (second_side p (map (calls_of f) us)) (third_from tests p ts us)

  choice_from : (tests ts : List Term) → calls_from tests true ts 0 ts ≡ beneath tests (if_calls ts (map (calls_of f) ts))
  choice_from tests [] = refl
  choice_from tests (p ∷ ts) = ungoverned tests (calls_of f p) (calls_from tests true (p ∷ ts) 1 ts) (both_sides p (map (calls_of f) ts)) (second_from tests p ts ts)

  pub calls_from-start : (tests : List Term) (choice : Bool) (ts : List Term) → calls_from tests choice ts 0 ts ≡ beneath tests (calls_inside f choice ts)
  calls_from-start tests true ts = choice_from tests ts
  calls_from-start tests false ts = plain_from tests ts 0 ts

-- once the call itself is told
pub start_told : (f g : Name) (tests ts : List Term) (choice : Bool) (t : Term) (old now : List Call) → t ≡ call g (parts_of t) → ts ≡ parts_of t → choice ≡ bytes_eq g (codes "IF") → now ≡ old ++ beneath tests (own_call f g ts) →
    now ++ calls_from f tests choice ts 0 ts ≡ old ++ beneath tests (calls_of f t)
start_told f g tests ts choice t old now is tells chosen e =
    let own : List Call = own_call f g ts in
    let inside : List Call = calls_inside f (bytes_eq g (codes "IF")) ts in
    ap (λ (l : List Call). l ++ calls_from f tests choice ts 0 ts) e ∙ append_assoc old (beneath tests own) (calls_from f tests choice ts 0 ts) ∙
    ap (λ (l : List Call). old ++ l)
    (ap (λ (l : List Call). beneath tests own ++ l) (calls_from-start f tests choice ts ∙ ap (λ b. beneath tests (calls_inside f b ts)) chosen) ∙
    sym (beneath-append f tests own inside) ∙
    ap (beneath tests) (sym (calls_of-call f g ts)) ∙
    ap (λ us. beneath tests (calls_of f (call g us))) tells ∙
    ap (λ u. beneath tests (calls_of f u)) (sym is))

-- one argument more
pub step_told : (f : Name) (bank : Content) (tests : List Term) (choice : Bool) (ids : List TermId) (i : ℕ) (d : TermId) (inner : List Term) (now next all : List Call) → i < length ids →
    inner ≡ tests ++ place_tests choice (terms_at bank ids) i →
    next ≡ now ++ beneath inner (calls_of f (term_at bank (get_or ids i d))) →
    now ++ calls_from f tests choice (terms_at bank ids) i (terms_at bank (drop i ids)) ≡ all →
    next ++ calls_from f tests choice (terms_at bank ids) (i + 1) (terms_at bank (drop (i + 1) ids)) ≡ all
step_told f bank tests choice ids i d inner now next all below within e so_far =
    let ts : List Term = terms_at bank ids in
    let here : List Call = beneath (tests ++ place_tests choice ts i) (calls_of f (term_at bank (get_or ids i d))) in
    let rest : List Call = calls_from f tests choice ts (suc i) (terms_at bank (drop (suc i) ids)) in
    ap (λ n. next ++ calls_from f tests choice ts n (terms_at bank (drop n ids))) (add-one i) ∙
    ap (λ (l : List Call). l ++ rest) (e ∙ ap (λ (us : List Term). now ++ beneath us (calls_of f (term_at bank (get_or ids i d)))) within) ∙
    append_assoc now here rest ∙
    ap (λ (l : List TermId). now ++ calls_from f tests choice ts i (terms_at bank l)) (sym (drop-cons ids i d below)) ∙
    so_far

-- all arguments are told
pub end_told : (f : Name) (bank : Content) (tests : List Term) (choice : Bool) (ids : List TermId) (i : ℕ) (now all : List Call) → length ids ≤ i →
    now ++ calls_from f tests choice (terms_at bank ids) i (terms_at bank (drop i ids)) ≡ all → now ≡ all
end_told f bank tests choice ids i now all past so_far =
    sym (append-nil now) ∙ sym (at_drop_all (λ l. now ++ calls_from f tests choice (terms_at bank ids) i (terms_at bank l)) ids i past) ∙ so_far

pub beneath_none : (c : List Call) → beneath [] c ≡ c
beneath_none [] = refl
beneath_none (x ∷ c) = ap (λ (l : List Call). x ∷ l) (beneath_none c)
