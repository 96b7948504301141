-- The calls within a call, place by place.
use Rattle.std.proofs.Common.{◌≡◌, ℕ, zero, suc, ◌+◌, ◌<◌, ◌≤◌, Bool, true, false, not, List, [], ◌∷◌, ◌++◌, length, get_or, drop, drop-cons, add-one, map, refl, sym, subst, ap, ap₂, ◌||◌, ◌∙◌, append_assoc}
use Rattle.std.specs.Prelude.{bytes_eq, codes, if◌then◌else◌, All, Vec}
use Rattle.std.specs.declared.alloc.Global.{Global}
use Rattle.nq_calls.specs.declared.calls.Guard.{Guard}
use Rattle.std.proofs.lemmas.List.{append-nil, at_drop_all}
use Rattle.nq_logic.specs.Terms.{Name, Term, Variable, Function, Applied, applied, call, Each}
use Rattle.nq_logic.specs.Words.{numeral, not_term}
use Rattle.nq_logic.specs.Admissible.{mentions, Call, governed, all_calls, second_side, both_sides, if_calls, own_call, calls_with, calls_of}
use Rattle.nq_bank.specs.declared.node.TermId.{TermId}
use Rattle.nq_bank.specs.Content.{Content, Stands, term_at, terms_at}
use Rattle.nq_bank.specs.Parts.{parts_of}
use Rattle.nq_calls.specs.Mentions.{IsApart}
use Rattle.nq_calls.specs.Calls.{GuardStands, SiteStands, older_tests, beneath, place_tests}

-- the calls within a call, by those within its arguments
calls_with-applied : (f : Name) (t : Term) (us args : List Term) (inner : List (List Call)) → calls_with f (applied t us) args inner ≡ calls_with f t (us ++ args) (map (calls_of f) us ++ inner)
calls_with-applied f t [] args inner = refl
calls_with-applied f t (u ∷ us) args inner = calls_with-applied f (Applied t u) us args inner

abbrev pub calls_inside : Name → Bool → List Term → List Call
calls_inside f choice ts = if choice then if_calls ts (map (calls_of f) ts) else all_calls (map (calls_of f) ts)

pub calls_of-call : (f g : Name) (ts : List Term) → calls_of f (call g ts) ≡ own_call f g ts ++ calls_inside f (bytes_eq g (codes "IF")) ts
calls_of-call f g ts =
    calls_with-applied f (Function g) ts [] [] ∙
    ap₂ (λ (us : List Term) (inner : List (List Call)). calls_with f (Function g) us inner) (append-nil ts) (append-nil (map (calls_of f) ts))

-- none stand in a numeral
numeral_step : (f : Name) (t : Term) → bytes_eq f (codes "ADD1") ≡ false → calls_of f t ≡ [] → calls_of f (Applied (Function (codes "ADD1")) t) ≡ []
numeral_step f t apart none =
    ap (λ b. (if b then record { tests = []; arguments = t ∷ [] } ∷ [] else []) ++ (calls_of f t ++ [])) apart ∙ ap (λ (c : List Call). c ++ []) none

pub calls_of-numeral : (f : Name) (n : ℕ) → IsApart f → calls_of f (numeral n) ≡ []
unfolding numeral
calls_of-numeral f zero apart = ap (λ b. (if b then record { tests = []; arguments = [] } ∷ [] else []) ++ []) apart.zero_apart
calls_of-numeral f (suc n) apart = numeral_step f (numeral n) apart.add1_apart (calls_of-numeral f n apart)

-- none stand in a term that does not mention the function
all_empty : (inner : List (List Call)) → Each (λ (c : List Call). c ≡ []) inner → all_calls inner ≡ []
all_empty [] e = refl
all_empty (c ∷ inner) e = ap₂ (λ (l r : List Call). l ++ r) e.0 (all_empty inner e.1)

second_empty : (p : Term) (inner : List (List Call)) → Each (λ (c : List Call). c ≡ []) inner → second_side p inner ≡ []
second_empty p [] e = refl
second_empty p (c ∷ inner) e = ap₂ (λ (l r : List Call). governed (not_term p) l ++ r) e.0 (all_empty inner e.1)

both_empty : (p : Term) (inner : List (List Call)) → Each (λ (c : List Call). c ≡ []) inner → both_sides p inner ≡ []
both_empty p [] e = refl
both_empty p (c ∷ inner) e = ap₂ (λ (l r : List Call). governed p l ++ r) e.0 (second_empty p inner e.1)

if_empty : (args : List Term) (inner : List (List Call)) → Each (λ (c : List Call). c ≡ []) inner → if_calls args inner ≡ []
if_empty args [] e = refl
if_empty [] (c ∷ inner) e = all_empty (c ∷ inner) e
if_empty (p ∷ args) (c ∷ inner) e = ap₂ (λ (l r : List Call). l ++ r) e.0 (both_empty p inner e.1)

either_empty : (b : Bool) (args : List Term) (inner : List (List Call)) → Each (λ (c : List Call). c ≡ []) inner → (if b then if_calls args inner else all_calls inner) ≡ []
either_empty true args inner e = if_empty args inner e
either_empty false args inner e = all_empty inner e

neither : (a b : Bool) → (a || b) ≡ false → (a ≡ false) × (b ≡ false)
neither true b e = absurd cc
neither false b e = (refl, e)

none_with : (f : Name) (t : Term) (args : List Term) (inner : List (List Call)) → mentions f t ≡ false → Each (λ (c : List Call). c ≡ []) inner → calls_with f t args inner ≡ []
none_with f (Variable x) args inner h e = refl
none_with f (Function g) args inner h e =
    ap₂ (λ b (l : List Call). (if b then record { tests = []; arguments = args } ∷ [] else []) ++ l) h (either_empty (bytes_eq g (codes "IF")) args inner e)
none_with f (Applied t u) args inner h e =
    let both = neither (mentions f t) (mentions f u) h in
    none_with f t (u ∷ args) (calls_with f u [] [] ∷ inner) both.0 (none_with f u [] [] both.1 tt, e)

pub none_called : (f : Name) (t : Term) → mentions f t ≡ false → calls_of f t ≡ []
none_called f t h = none_with f t [] [] h tt

-- calls beneath tests
module _ (f : Name) where
  pub beneath-append : (tests : List Term) (c d : List Call) → beneath f tests (c ++ d) ≡ beneath f tests c ++ beneath f tests d
  beneath-append tests [] d = refl
  beneath-append tests (x ∷ c) d = ap (λ l. record { tests = tests ++ older_tests f x.tests; arguments = x.arguments } ∷ l) (beneath-append tests c d)

  one_older : (p : Term) (tests rest : List Term) → tests ++ older_tests f (p ∷ rest) ≡ (tests ++ older_tests f (p ∷ [])) ++ older_tests f rest
  one_older p tests rest = by_test (not (mentions f p)) ∙ sym (append_assoc tests (older_tests f (p ∷ [])) (older_tests f rest))
    where
      by_test : (b : Bool) → tests ++ (if b then p ∷ older_tests f rest else older_tests f rest) ≡ tests ++ ((if b then p ∷ [] else []) ++ older_tests f rest)
      by_test true = refl
      by_test false = refl

  beneath-governed : (p : Term) (tests : List Term) (c : List Call) → beneath f tests (governed p c) ≡ beneath f (tests ++ older_tests f (p ∷ [])) c
  beneath-governed p tests [] = refl
  beneath-governed p tests (x ∷ c) =
      ap₂ (λ (ts : List Term) (l : List Call). record { tests = ts; arguments = x.arguments } ∷ l) (one_older p tests x.tests) (beneath-governed p tests c)

  -- those of the arguments from a place on
  abbrev pub calls_from : List Term → Bool → List Term → ℕ → List Term → List Call
  calls_from tests choice ts n [] = []
  calls_from tests choice ts n (u ∷ us) = beneath f (tests ++ older_tests f (place_tests choice ts n)) (calls_of f u) ++ calls_from tests choice ts (suc n) us

  ungoverned : (tests : List Term) (c d : List Call) (all : List Call) → d ≡ beneath f tests all → beneath f (tests ++ []) c ++ d ≡ beneath f tests (c ++ all)
  ungoverned tests c d all e =
      ap₂ (λ (ts : List Term) (l : List Call). beneath f ts c ++ l) (append-nil tests) e ∙ sym (beneath-append tests c all)

  plain_from : (tests ts : List Term) (n : ℕ) (us : List Term) → calls_from tests false ts n us ≡ beneath f tests (all_calls (map (calls_of f) us))
  plain_from tests ts n [] = refl
  plain_from tests ts n (u ∷ us) = ungoverned tests (calls_of f u) (calls_from tests false ts (suc n) us) (all_calls (map (calls_of f) us)) (plain_from tests ts (suc n) us)

  beyond_from : (tests : List Term) (p : Term) (ts : List Term) (n : ℕ) (us : List Term) → calls_from tests true (p ∷ ts) (suc (suc (suc n))) us ≡ beneath f tests (all_calls (map (calls_of f) us))
  beyond_from tests p ts n [] = refl
  beyond_from tests p ts n (u ∷ us) = ungoverned tests (calls_of f u) (calls_from tests true (p ∷ ts) (suc (suc (suc (suc n)))) us) (all_calls (map (calls_of f) us)) (beyond_from tests p ts (suc n) us)

  governed_first : (tests : List Term) (p : Term) (c d all : List Call) → d ≡ beneath f tests all → beneath f (tests ++ older_tests f (p ∷ [])) c ++ d ≡ beneath f tests (governed p c ++ all)
  governed_first tests p c d all e =
      ap₂ (λ (l r : List Call). l ++ r) (sym (beneath-governed p tests c)) e ∙ sym (beneath-append tests (governed p c) all)

  third_from : (tests : List Term) (p : Term) (ts us : List Term) → calls_from tests true (p ∷ ts) 2 us ≡ beneath f tests (second_side p (map (calls_of f) us))
  third_from tests p ts [] = refl
  third_from tests p ts (u ∷ us) = governed_first tests (not_term p) (calls_of f u) (calls_from tests true (p ∷ ts) 3 us) (all_calls (map (calls_of f) us)) (beyond_from tests p ts 0 us)

  second_from : (tests : List Term) (p : Term) (ts us : List Term) → calls_from tests true (p ∷ ts) 1 us ≡ beneath f tests (both_sides p (map (calls_of f) us))
  second_from tests p ts [] = refl
  second_from tests p ts (u ∷ us) = governed_first tests p (calls_of f u) (calls_from tests true (p ∷ ts) 2 us) (second_side p (map (calls_of f) us)) (third_from tests p ts us)

  choice_from : (tests ts : List Term) → calls_from tests true ts 0 ts ≡ beneath f tests (if_calls ts (map (calls_of f) ts))
  choice_from tests [] = refl
  choice_from tests (p ∷ ts) = ungoverned tests (calls_of f p) (calls_from tests true (p ∷ ts) 1 ts) (both_sides p (map (calls_of f) ts)) (second_from tests p ts ts)

  pub calls_from-start : (tests : List Term) (choice : Bool) (ts : List Term) → calls_from tests choice ts 0 ts ≡ beneath f tests (calls_inside f choice ts)
  calls_from-start tests true ts = choice_from tests ts
  calls_from-start tests false ts = plain_from tests ts 0 ts

-- once the call itself is told
pub start_told : (f g : Name) (tests ts : List Term) (choice : Bool) (t : Term) (old now : List Call) → t ≡ call g (parts_of t) → ts ≡ parts_of t → choice ≡ bytes_eq g (codes "IF") → now ≡ old ++ beneath f tests (own_call f g ts) →
    now ++ calls_from f tests choice ts 0 ts ≡ old ++ beneath f tests (calls_of f t)
start_told f g tests ts choice t old now is tells chosen e =
    let own : List Call = own_call f g ts in
    let inside : List Call = calls_inside f (bytes_eq g (codes "IF")) ts in
    ap (λ (l : List Call). l ++ calls_from f tests choice ts 0 ts) e ∙ append_assoc old (beneath f tests own) (calls_from f tests choice ts 0 ts) ∙
    ap (λ (l : List Call). old ++ l)
    (ap (λ (l : List Call). beneath f tests own ++ l) (calls_from-start f tests choice ts ∙ ap (λ b. beneath f tests (calls_inside f b ts)) chosen) ∙
    sym (beneath-append f tests own inside) ∙
    ap (beneath f tests) (sym (calls_of-call f g ts)) ∙
    ap (λ us. beneath f tests (calls_of f (call g us))) tells ∙
    ap (λ u. beneath f tests (calls_of f u)) (sym is))

-- one argument more
pub step_told : (f : Name) (bank : Content) (tests : List Term) (choice : Bool) (ids : List TermId) (i : ℕ) (d : TermId) (inner : List Term) (now next all : List Call) → i < length ids →
    inner ≡ tests ++ older_tests f (place_tests choice (terms_at bank ids) i) →
    next ≡ now ++ beneath f inner (calls_of f (term_at bank (get_or ids i d))) →
    now ++ calls_from f tests choice (terms_at bank ids) i (terms_at bank (drop i ids)) ≡ all →
    next ++ calls_from f tests choice (terms_at bank ids) (i + 1) (terms_at bank (drop (i + 1) ids)) ≡ all
step_told f bank tests choice ids i d inner now next all below within e so_far =
    let ts : List Term = terms_at bank ids in
    let here : List Call = beneath f (tests ++ older_tests f (place_tests choice ts i)) (calls_of f (term_at bank (get_or ids i d))) in
    let rest : List Call = calls_from f tests choice ts (suc i) (terms_at bank (drop (suc i) ids)) in
    ap (λ n. next ++ calls_from f tests choice ts n (terms_at bank (drop n ids))) (add-one i) ∙
    ap (λ (l : List Call). l ++ rest) (e ∙ ap (λ (us : List Term). now ++ beneath f us (calls_of f (term_at bank (get_or ids i d)))) within) ∙
    append_assoc now here rest ∙
    ap (λ (l : List TermId). now ++ calls_from f tests choice ts i (terms_at bank l)) (sym (drop-cons ids i d below)) ∙
    so_far

-- all arguments are told
pub end_told : (f : Name) (bank : Content) (tests : List Term) (choice : Bool) (ids : List TermId) (i : ℕ) (now all : List Call) → length ids ≤ i →
    now ++ calls_from f tests choice (terms_at bank ids) i (terms_at bank (drop i ids)) ≡ all → now ≡ all
end_told f bank tests choice ids i now all past so_far =
    sym (append-nil now) ∙ sym (at_drop_all (λ l. now ++ calls_from f tests choice (terms_at bank ids) i (terms_at bank l)) ids i past) ∙ so_far

-- a call whose tests and arguments are copied stands
pub site_stands : (bank : Content) (guards : Vec Guard Global) (arguments : Vec TermId Global) (path : List Guard) (ids : List TermId) → guards.items ≡ path → arguments.items ≡ ids → All (GuardStands bank) path → All (Stands bank) ids →
    SiteStands bank (record { guards = guards; arguments = arguments })
site_stands bank guards arguments path ids e h tests stand =
    record {
      guards = subst (λ (l : List Guard). All (GuardStands bank) l) (sym e) tests;
      arguments = subst (λ (l : List TermId). All (Stands bank) l) (sym h) stand;
    }
