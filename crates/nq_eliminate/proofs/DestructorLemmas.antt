-- The destructor calls of a variable in a term.
use Rattle.std.proofs.Common.{◌≡◌, ◌<◌, ◌≤◌, ◌+◌, ℕ, zero, suc, Bool, true, false, ◌&&◌, List, [], ◌∷◌, ◌++◌, length, map, take, get_or, refl, sym, ap, ap₂, ◌∙◌, subst, arith}
use Rattle.std.specs.Prelude.{All, if◌then◌else◌}
use Rattle.std.proofs.lemmas.List.{append-nil, map_push, take_all, take_more}
use Rattle.nq_logic.specs.Terms.{Name, Term, Variable, Function, call}
use Rattle.nq_logic.specs.Words.{numeral}
use Rattle.nq_logic.specs.RuleShapes.{has_argument, has_distinct_variables, inner_terms, is_destructor_call}
use Rattle.nq_bank.specs.declared.node.TermId.{TermId}
use Rattle.nq_bank.specs.Content.{Content, term_at, terms_at}
use Rattle.nq_bank.specs.Parts.{parts_of}
use Rattle.nq_bank.proofs.NodesLemmas.{All-head, All-tail}
use Rattle.nq_goals.specs.Generalizing.{chosen_from}
use Rattle.nq_goals.specs.Replacing.{parts_in, parts_in_all}
use Rattle.nq_stuck.proofs.CallLemmas.{inner_applied}
use Rattle.nq_eliminate.specs.Serving.{calls_of, calls_of_all}

assoc : (ts us vs : List Term) → (ts ++ us) ++ vs ≡ ts ++ (us ++ vs)
assoc [] us vs = refl
assoc (t ∷ ts) us vs = ap (λ r. t ∷ r) (assoc ts us vs)

chosen_joined : (test : Term → Bool) (ts us : List Term) → chosen_from test (ts ++ us) ≡ chosen_from test ts ++ chosen_from test us
chosen_joined test [] us = refl
chosen_joined test (t ∷ ts) us = by_test (chosen_joined test ts us) (test t)
  where
    by_test : chosen_from test (ts ++ us) ≡ chosen_from test ts ++ chosen_from test us → (b : Bool) → elim b as (λ b. List Term) [ true ↦ t ∷ chosen_from test (ts ++ us) | false ↦ chosen_from test (ts ++ us) ] ≡ (elim b as (λ b. List Term) [ true ↦ t ∷ chosen_from test ts | false ↦ chosen_from test ts ]) ++ chosen_from test us
    by_test later true = ap (λ r. t ∷ r) later
    by_test later false = later

all_joined : (x : Name) (ts us : List Term) → calls_of_all x (ts ++ us) ≡ calls_of_all x ts ++ calls_of_all x us
all_joined x [] us = refl
all_joined x (t ∷ ts) us =
    chosen_joined (is_destructor_call x) (parts_in t) (parts_in_all (ts ++ us))
    ∙ (ap (λ r. calls_of x t ++ r) (all_joined x ts us)
    ∙ (sym (assoc (calls_of x t) (calls_of_all x ts) (calls_of_all x us))
    ∙ ap (λ r. r ++ calls_of_all x us) (sym (chosen_joined (is_destructor_call x) (parts_in t) (parts_in_all ts)))))

all_of_one : (x : Name) (t : Term) → calls_of_all x (t ∷ []) ≡ calls_of x t
all_of_one x t = ap (chosen_from (is_destructor_call x)) (append-nil (parts_in t))

-- none in a variable or a numeral
variable_apart : (x y : Name) → calls_of x (Variable y) ≡ []
variable_apart x y = refl

suc_apart : (n : ℕ) → has_distinct_variables [] (numeral (suc n)) ≡ false
unfolding numeral
suc_apart zero = refl
suc_apart (suc n) = refl

pub numeral_no_call : (x : Name) (n : ℕ) → is_destructor_call x (numeral n) ≡ false
unfolding numeral
numeral_no_call x zero = refl
numeral_no_call x (suc n) = ap (λ b. b && has_argument x (numeral (suc n))) (suc_apart n)

none_chosen : (test : Term → Bool) (t : Term) (ts : List Term) → test t ≡ false → chosen_from test (t ∷ ts) ≡ chosen_from test ts
none_chosen test t ts e = ap (λ b. elim b as (λ b. List Term) [ true ↦ t ∷ chosen_from test ts | false ↦ chosen_from test ts ]) e

numeral_apart : (x : Name) (n : ℕ) → calls_of x (numeral n) ≡ []
unfolding numeral
numeral_apart x zero = refl
numeral_apart x (suc n) = none_chosen (is_destructor_call x) (numeral (suc n)) (parts_in (numeral n)) (numeral_no_call x (suc n)) ∙ numeral_apart x n

pub numeral_none : (x : Name) (t : Term) (n : ℕ) (ts : List Term) → t ≡ numeral n → ts ≡ ts ++ calls_of x t
numeral_none x t n ts is = sym (ap (λ u. ts ++ calls_of x u) is ∙ (ap (λ r. ts ++ r) (numeral_apart x n) ∙ append-nil ts))

pub variable_none : (x : Name) (t : Term) (y : Name) (ts : List Term) → t ≡ Variable y → ts ≡ ts ++ calls_of x t
variable_none x t y ts is = sym (ap (λ u. ts ++ calls_of x u) is ∙ append-nil ts)

-- the call itself, where it is one
abbrev pub here_of : Bool → Term → List Term
here_of b t = if b then t ∷ [] else []

chosen_first : (b : Bool) (t : Term) (ts : List Term) → elim b as (λ b. List Term) [ true ↦ t ∷ ts | false ↦ ts ] ≡ here_of b t ++ ts
chosen_first true t ts = refl
chosen_first false t ts = refl

module _ (bank : Content) (x f : Name) (t : Term) (ids : List TermId) (is : t ≡ call f (parts_of t)) (tells : terms_at bank ids ≡ parts_of t) (b : Bool) (told : (g : Name) → b ≡ is_destructor_call x (call g (terms_at bank ids))) where
  here_told : is_destructor_call x t ≡ b
  here_told = ap (is_destructor_call x) is ∙ (ap (λ us. is_destructor_call x (call f us)) (sym tells) ∙ sym (told f))

  inside_told : chosen_from (is_destructor_call x) (inner_terms t) ≡ calls_of_all x (terms_at bank ids)
  inside_told = ap (λ u. chosen_from (is_destructor_call x) (inner_terms u)) is ∙ (ap (chosen_from (is_destructor_call x)) (inner_applied (Function f) (parts_of t)) ∙ ap (calls_of_all x) (sym tells))

  call_told : calls_of x t ≡ here_of b t ++ calls_of_all x (terms_at bank ids)
  call_told =
      chosen_first (is_destructor_call x t) t (chosen_from (is_destructor_call x) (inner_terms t))
      ∙ ap₂ (λ (c : Bool) (r : List Term). here_of c t ++ r) here_told inside_told

  -- all arguments were looked at
  pub all_put : (old new : List Term) (i : ℕ) → length ids ≤ i → new ≡ (old ++ here_of b t) ++ calls_of_all x (terms_at bank (take i ids)) → new ≡ old ++ calls_of x t
  all_put old new i past so_far =
      so_far
      ∙ (ap (λ xs. (old ++ here_of b t) ++ calls_of_all x (terms_at bank xs)) (take_all i ids past)
      ∙ (assoc old (here_of b t) (calls_of_all x (terms_at bank ids)) ∙ ap (λ r. old ++ r) (sym call_told)))

here_mapped : (bank : Content) (b : Bool) (t : TermId) → map (term_at bank) (if b then t ∷ [] else []) ≡ here_of b (term_at bank t)
here_mapped bank true t = refl
here_mapped bank false t = refl

terms_joined : (bank : Content) (xs ys : List TermId) → terms_at bank (xs ++ ys) ≡ terms_at bank xs ++ terms_at bank ys
terms_joined bank [] ys = refl
terms_joined bank (x ∷ xs) ys = ap (λ ts. term_at bank x ∷ ts) (terms_joined bank xs ys)

-- none of the arguments yet
pub first_put : (bank : Content) (x : Name) (old new : List TermId) (b : Bool) (t : TermId) → new ≡ old ++ (if b then t ∷ [] else []) → terms_at bank new ≡ (terms_at bank old ++ here_of b (term_at bank t)) ++ calls_of_all x (terms_at bank [])
first_put bank x old new b t is =
    ap (terms_at bank) is
    ∙ (terms_joined bank old (if b then t ∷ [] else [])
    ∙ (ap (λ r. terms_at bank old ++ r) (here_mapped bank b t) ∙ sym (append-nil (terms_at bank old ++ here_of b (term_at bank t)))))

-- one argument more
pub one_more_put : (bank : Content) (x : Name) (first old new : List Term) (ids : List TermId) (i : ℕ) (d : TermId) → i < length ids → old ≡ first ++ calls_of_all x (terms_at bank (take i ids)) → new ≡ old ++ calls_of x (term_at bank (get_or ids i d)) →
    new ≡ first ++ calls_of_all x (terms_at bank (take (i + 1) ids))
one_more_put bank x first old new ids i d below so_far step =
    step
    ∙ (ap (λ r. r ++ calls_of x (term_at bank (get_or ids i d))) so_far
    ∙ (assoc first (calls_of_all x (terms_at bank (take i ids))) (calls_of x (term_at bank (get_or ids i d)))
    ∙ ap (λ r. first ++ r)
    (ap (λ r. calls_of_all x (terms_at bank (take i ids)) ++ r) (sym (all_of_one x (term_at bank (get_or ids i d))))
    ∙ (sym (all_joined x (terms_at bank (take i ids)) (term_at bank (get_or ids i d) ∷ []))
    ∙ ap (calls_of_all x) (sym (ap (terms_at bank) (take_more ids i d below) ∙ map_push (term_at bank) (take i ids) (get_or ids i d)))))))

-- ---- ids

all_cons : (P : TermId → Type 0) (x : TermId) (ids : List TermId) → P x → All P ids → All P (x ∷ ids)
all_cons P x ids h all zero d below = h
all_cons P x ids h all (suc k) d below = all k d (omega (arith, below))

all_none : (P : TermId → Type 0) → All P []
all_none P k d below = absurd (omega (arith, below))

all_append : (P : TermId → Type 0) (xs ys : List TermId) → All P xs → All P ys → All P (xs ++ ys)
all_append P [] ys h k = k
all_append P (x ∷ xs) ys h k = all_cons P x (xs ++ ys) (All-head P x xs h) (all_append P xs ys (All-tail P x xs h) k)

pub put_stand : (P : TermId → Type 0) (xs ys : List TermId) (b : Bool) (t : TermId) → All P xs → P t → ys ≡ xs ++ (if b then t ∷ [] else []) → All P ys
put_stand P xs ys b t all here is = subst (All P) (sym is) (all_append P xs (if b then t ∷ [] else []) all (by_test b))
  where
    by_test : (b : Bool) → All P (if b then t ∷ [] else [])
    by_test true = all_cons P t [] here (all_none P)
    by_test false = all_none P
