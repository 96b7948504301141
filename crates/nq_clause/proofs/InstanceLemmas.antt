-- When a term with others in place of its variables is another term, and when it is a numeral.
use Rattle.std.proofs.Common.{◌≡◌, ℕ, zero, suc, ◌-◌, ◌<◌, ◌≤◌, ◌⊎◌, Bool, false, Some, None, List, [], ◌∷◌, length, get_or, take, map, refl, sym, ap, ◌∙◌, inl, inr, arith}
use Rattle.std.specs.Prelude.{IsTrue, codes}
use Rattle.std.proofs.lemmas.List.{take_all, length-map, get_or-map}
use Rattle.nq_logic.specs.Terms.{Term, Variable, Function, Applied, applied, call, Substitution, substituted}
use Rattle.nq_logic.specs.Words.{numeral}
use Rattle.nq_logic.specs.Numerals.{number_of, numeral_limit}
use Rattle.nq_bank.specs.declared.node.TermId.{TermId}
use Rattle.nq_bank.specs.Parts.{parts_of, arguments_before}
use Rattle.nq_bank.specs.Content.{Content, term_at, terms_at, term_from}
use Rattle.nq_bank.proofs.Numerals.{number_of-numeral, number_of-call}
use Rattle.nq_bank.proofs.CallLemmas.{arguments_before-call, variable_is_no_call}
use Rattle.nq_clause.proofs.SubstitutionLemmas.{substituted-call}

-- an answer that says whether a thing holds
abbrev pub Tells : Bool → Type 0 → Type 0
Tells b P = (IsTrue b → P) × (P → IsTrue b)

pub false_true : IsTrue false → ⊥
false_true h = cc

pub tells_not : (P : Type 0) → (P → ⊥) → Tells false P
tells_not P f = (λ h. absurd (false_true h), λ p. absurd (f p))

pub tells_same : (b : Bool) (t u v : Term) → t ≡ u → Tells b (t ≡ v) → Tells b (u ≡ v)
tells_same b t u v e h = (λ k. sym e ∙ h.0 k, λ k. h.1 (e ∙ k))

pub not_told : (b : Bool) (P : Type 0) → b ≡ false → Tells b P → P → ⊥
not_told b P refused h p = false_true (sym refused ∙ h.1 p)

same_some : (m n : ℕ) → Some m ≡ Some n → m ≡ n
same_some m n e = cc

none_some : (n : ℕ) → None ≡ Some n → ⊥
none_some n e = cc

-- numerals of two numbers are two
pub numeral_only : (m n : ℕ) → m < numeral_limit → n < numeral_limit → numeral m ≡ numeral n → m ≡ n
numeral_only m n below above e = same_some m n (sym (number_of-numeral m below) ∙ ap number_of e ∙ number_of-numeral n above)

pub no_numeral : (t : Term) (n : ℕ) → n < numeral_limit → number_of t ≡ None → t ≡ numeral n → ⊥
no_numeral t n below none e = none_some n (sym none ∙ ap number_of e ∙ number_of-numeral n below)

pub no_variable_number : (x : List ℕ) → number_of (Variable x) ≡ None
unfolding number_of
no_variable_number x = refl

head_name : Term → List ℕ
head_name (Variable x) = x
head_name (Function f) = f
head_name (Applied t u) = head_name t

head_name-applied : (t : Term) (us : List Term) → head_name (applied t us) ≡ head_name t
unfolding head_name
head_name-applied t [] = refl
head_name-applied t (u ∷ us) = head_name-applied (Applied t u) us

-- a call tells its function and its arguments
pub call_parts : (f g : List ℕ) (ts us : List Term) → call f ts ≡ call g us → (f ≡ g) × (ts ≡ us)
unfolding head_name
call_parts f g ts us e = (
  sym (head_name-applied (Function f) ts) ∙ ap head_name e ∙ head_name-applied (Function g) us,
  sym (arguments_before-call f ts) ∙ ap (λ t. arguments_before t []) e ∙ arguments_before-call g us,
)

whole_substituted : (s : Substitution) (f : List ℕ) (p : Term) → p ≡ call f (parts_of p) → substituted s p ≡ call f (map (substituted s) (parts_of p))
whole_substituted s f p is = ap (substituted s) is ∙ substituted-call s f (parts_of p)

no_parts : (s : Substitution) (ts : List Term) → map (substituted s) ts ≡ [] → ts ≡ []
no_parts s [] e = refl
no_parts s (t ∷ ts) e = absurd cc

-- a call that is no numeral is none after substitution, unless it is ADD1 of one argument and the number is not 0
pub not_number : (s : Substitution) (f : List ℕ) (p : Term) (n : ℕ) → p ≡ call f (parts_of p) → number_of p ≡ None → (n ≡ 0) ⊎ (((length (parts_of p) ≡ 1) → ⊥) ⊎ ((f ≡ codes "ADD1") → ⊥)) → substituted s p ≡ numeral n → ⊥
unfolding numeral
not_number s f p zero is none why e =
    let parts = call_parts f (codes "ZERO") (map (substituted s) (parts_of p)) [] (sym (whole_substituted s f p is) ∙ e) in
    let whole : p ≡ call (codes "ZERO") [] = is ∙ ap (call f) (no_parts s (parts_of p) parts.1) ∙ ap (λ g. call g []) parts.0 in
    none_some 0 (sym none ∙ ap number_of whole ∙ number_of-call (codes "ZERO") [])
not_number s f p (suc m) is none why e =
    let parts = call_parts f (codes "ADD1") (map (substituted s) (parts_of p)) (numeral m ∷ []) (sym (whole_substituted s f p is) ∙ e) in
    let count : length (parts_of p) ≡ 1 = sym (length-map (parts_of p) (substituted s)) ∙ ap length parts.1 in
    by_reason count parts.0 why
  where
    by_reason : length (parts_of p) ≡ 1 → f ≡ codes "ADD1" → (suc m ≡ 0) ⊎ (((length (parts_of p) ≡ 1) → ⊥) ⊎ ((f ≡ codes "ADD1") → ⊥)) → ⊥
    by_reason count named (inl z) = omega arith
    by_reason count named (inr (inl other)) = other count
    by_reason count named (inr (inr other)) = other named

next : (m : ℕ) → Applied (Function (codes "ADD1")) (numeral m) ≡ numeral (suc m)
unfolding numeral
next m = refl

-- ADD1 of one argument
pub number_step : (s : Substitution) (bank : Content) (f : List ℕ) (p : Term) (ids : List TermId) (d : TermId) (n : ℕ) (b : Bool) → p ≡ call f (parts_of p) → terms_at bank ids ≡ parts_of p → length ids ≡ 1 → f ≡ codes "ADD1" → (n ≡ 0 → ⊥) → Tells b (substituted s (term_at bank (get_or ids 0 d)) ≡ numeral (n - 1)) → Tells b (substituted s p ≡ numeral n)
number_step s bank f p [] d n b is tells count named positive h = absurd (omega (arith, count))
number_step s bank f p (i ∷ (j ∷ ids)) d n b is tells count named positive h = absurd (omega (arith, count))
number_step s bank f p (i ∷ []) d zero b is tells count named positive h = absurd (positive refl)
number_step s bank f p (i ∷ []) d (suc m) b is tells count named positive h =
    let x : Term = substituted s (term_at bank i) in
    let less : suc m - 1 ≡ m = omega arith in
    let whole : substituted s p ≡ Applied (Function (codes "ADD1")) x = whole_substituted s f p is ∙ ap (λ ts. call f (map (substituted s) ts)) (sym tells) ∙ ap (λ g. call g (x ∷ [])) named in (
      λ k. whole ∙ ap (Applied (Function (codes "ADD1"))) (h.0 k ∙ ap numeral less) ∙ next m,
      λ k. h.1 (second (sym whole ∙ k ∙ sym (next m)) ∙ ap numeral (sym less)),
    )
  where
    second : {t u v : Term} → Applied t u ≡ Applied t v → u ≡ v
    second e = cc

module _ (s : Substitution) (bank : Content) (f g : List ℕ) (p t : Term) (ids others : List TermId) (is : p ≡ call f (parts_of p)) (other : t ≡ call g (parts_of t)) (tells : terms_at bank ids ≡ parts_of p) (told : terms_at bank others ≡ parts_of t) where
  -- two calls that are one have one function, and as many arguments
  pub are_like : substituted s p ≡ t → (f ≡ g) × (length ids ≡ length others)
  are_like e =
      let parts = call_parts f g (map (substituted s) (parts_of p)) (parts_of t) (sym (whole_substituted s f p is) ∙ e ∙ other) in (
        parts.0,
        sym (length-map ids (term_from bank.terms)) ∙ ap length tells ∙ sym (length-map (parts_of p) (substituted s)) ∙ ap length parts.1 ∙ sym (ap length told) ∙ length-map others (term_from bank.terms),
      )

  each_same : substituted s p ≡ t → map (substituted s) (terms_at bank ids) ≡ terms_at bank others
  each_same e =
      let parts = call_parts f g (map (substituted s) (parts_of p)) (parts_of t) (sym (whole_substituted s f p is) ∙ e ∙ other) in
      ap (map (substituted s)) tells ∙ parts.1 ∙ sym told

  -- and each argument is the other's
  pub argument_same_at : (i : ℕ) (d : TermId) → i < length ids → i < length others → substituted s p ≡ t → substituted s (term_at bank (get_or ids i d)) ≡ term_at bank (get_or others i d)
  argument_same_at i d below above e =
      let count = length-map ids (term_from bank.terms) in
      sym (get_or-map (substituted s) (terms_at bank ids) i (term_at bank d) (substituted s (term_at bank d)) (omega (arith, count, below)) ∙ ap (substituted s) (get_or-map (term_from bank.terms) ids i d (term_at bank d) below)) ∙
      ap (λ ts. get_or ts i (substituted s (term_at bank d))) (each_same e) ∙
      get_or-map (term_from bank.terms) others i d (substituted s (term_at bank d)) above

  -- all arguments are the others', and so is the call
  pub all_same : (i : ℕ) → f ≡ g → length ids ≡ length others → length ids ≤ i → map (substituted s) (terms_at bank (take i ids)) ≡ terms_at bank (take i others) → substituted s p ≡ t
  all_same i named count all e =
      whole_substituted s f p is ∙ ap (λ ts. call f (map (substituted s) ts)) (sym tells) ∙
      ap (λ xs. call f (map (substituted s) (terms_at bank xs))) (sym (take_all i ids all)) ∙
      ap (call f) e ∙ ap (λ xs. call f (terms_at bank xs)) (take_all i others (omega (arith, count, all))) ∙
      ap (call f) told ∙ ap (λ h. call h (parts_of t)) named ∙ sym other

pub no_variable : (s : Substitution) (f x : List ℕ) (p t : Term) → p ≡ call f (parts_of p) → t ≡ Variable x → substituted s p ≡ t → ⊥
no_variable s f x p t is named e = variable_is_no_call x f (map (substituted s) (parts_of p)) (sym named ∙ sym e ∙ whole_substituted s f p is)
