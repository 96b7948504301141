-- What other variables make of terms.
use Rattle.std.proofs.Common.{◌≡◌, ◌<◌, ◌≤◌, ◌-◌, ℕ, Bool, true, false, ◌||◌, ◌&&◌, if◌then◌else◌, Option, Some, None, List, [], ◌∷◌, length, map, take, drop, get_or, refl, sym, ap, ap₂, ◌∙◌, subst, inl, inr, arith}
use Rattle.std.specs.Prelude.{bytes_eq, not}
use Rattle.std.proofs.lemmas.List.{take_all}
use Rattle.nq_logic.specs.Terms.{IsAmong, Name, Term, Variable, Function, Applied, Substitution, call, substituted, value_at}
use Rattle.nq_logic.specs.RuleShapes.{has_argument, has_distinct_variables, is_destructor_call}
use Rattle.nq_logic.specs.Words.{numeral}
use Rattle.nq_bank.specs.declared.node.TermId.{TermId}
use Rattle.nq_bank.specs.Content.{Content, term_at, terms_at}
use Rattle.nq_bank.specs.Parts.{parts_of}
use Rattle.nq_bank.proofs.Texts.{eq-bytes_eq}
use Rattle.nq_clause.proofs.SubstitutionLemmas.{substituted-call}
use Rattle.nq_proof.specs.Clauses.{has_term, same_term}
use Rattle.nq_proof.proofs.Tests.{same_true}
use Rattle.nq_rule.proofs.LiteralLemmas.{true_same}
use Rattle.nq_goals.specs.Eliminating.{no_copies}
use Rattle.nq_stuck.proofs.StandingLemmas.{one_of}
use Rattle.nq_eliminate.specs.Images.{BecomeOne, BecomesOneOf, IsCallOver, Makes, MakesCopies, Separates, StayApart, StayDistinct, StaysApart, become_one, become_same, image, same_known}
use Rattle.nq_eliminate.specs.Serving.{are_variables}
use Rattle.nq_eliminate.proofs.CallShapes.{flat, flat_applied, made_arguments, made_names, variable_among}
use Rattle.nq_eliminate.proofs.CandidateLemmas.{both_true}
use Rattle.nq_eliminate.proofs.DestructorLemmas.{numeral_no_call}

pub same_head : (t u : Term) (ts us : List Term) → ◌≡◌ {A = List Term} (t ∷ ts) (u ∷ us) → t ≡ u
same_head t u ts us e = cc

pub same_tail : (t u : Term) (ts us : List Term) → ◌≡◌ {A = List Term} (t ∷ ts) (u ∷ us) → ts ≡ us
same_tail t u ts us e = cc

pub same_image : (t u : Term) → ◌≡◌ {A = Option Term} (Some t) (Some u) → t ≡ u
same_image t u e = cc

-- what a term becomes is what the substitution makes of it
pub image_made : (s : Substitution) (from to : List Term) → Makes s from to → (t w : Term) → image from to t ≡ Some w → substituted s t ≡ w
image_made s [] to made t w e = absurd (cc)
image_made s (f ∷ fs) [] made t w e = absurd (cc)
image_made s (f ∷ fs) (u ∷ us) made t w e = by_test (same_term t f) refl (λ k. image_made s fs us (same_tail (substituted s f) u (map (substituted s) fs) us made) t w k) e
  where
    by_test : (b : Bool) → same_term t f ≡ b → (image fs us t ≡ Some w → substituted s t ≡ w) → (if b then Some u else image fs us t) ≡ Some w → substituted s t ≡ w
    by_test true k later h = ap (substituted s) (same_true t f k) ∙ (same_head (substituted s f) u (map (substituted s) fs) us made ∙ same_image u w h)
    by_test false k later h = later h

module _ (s : Substitution) (from to : List Term) (made : Makes s from to) where
  one_made : (t u : Term) → become_one from to t u ≡ true → substituted s t ≡ substituted s u
  one_made t u e =
      elim (one_of (same_term t u) (same_known (image from to t) (image from to u)) e) [
        | inl same ↦ ap (substituted s) (same_true t u same)
        | inr known ↦ by_images (image from to t) (image from to u) refl refl known
      ]
    where
      by_images : (a b : Option Term) → image from to t ≡ a → image from to u ≡ b → same_known a b ≡ true → substituted s t ≡ substituted s u
      by_images None b i j k = absurd (cc)
      by_images (Some v) None i j k = absurd (cc)
      by_images (Some v) (Some w) i j k = image_made s from to made t v i ∙ (same_true v w k ∙ sym (image_made s from to made u w j))

  same_made : (ts us : List Term) → become_same from to ts us ≡ true → map (substituted s) ts ≡ map (substituted s) us
  same_made [] [] e = refl
  same_made [] (u ∷ us) e = absurd (cc)
  same_made (t ∷ ts) [] e = absurd (cc)
  same_made (t ∷ ts) (u ∷ us) e =
      let parts = both_true (become_one from to t u) (become_same from to ts us) e in
      ap₂ (λ (v : Term) (vs : List Term). v ∷ vs) (one_made t u parts.0) (same_made ts us parts.1)

-- calls that become one
pub call_becomes : (from to : List Term) (f g : Name) (ts us : List Term) (u : Term) (b : Bool) → u ≡ call g (parts_of u) → us ≡ parts_of u → f ≡ g → b ≡ become_same from to ts us → b ≡ true → BecomeOne from to (call f ts) u
call_becomes from to f g ts us u b is tells same told holds s made =
    substituted-call s f ts
    ∙ (ap (λ n. call n (map (substituted s) ts)) same
    ∙ (ap (call g) (same_made s from to made ts us (sym told ∙ holds) ∙ ap (map (substituted s)) tells)
    ∙ (sym (substituted-call s g (parts_of u)) ∙ ap (substituted s) (sym is))))

-- ---- calls that stay apart

-- each of the variables is one of the names
abbrev AreWithin : List Name → List Term → Type 0
AreWithin xs ts = (y : Name) → IsAmong (Variable y) ts → IsAmong y xs

module _ (from to : List Term) (xs : List Name) (s : Substitution) (apart : Separates s xs from to) where
  variables_same : (ts us : List Term) → are_variables ts ≡ true → are_variables us ≡ true → AreWithin xs ts → AreWithin xs us → map (substituted s) ts ≡ map (substituted s) us → become_same from to ts us ≡ true
  variables_same [] [] e k m n same = refl
  variables_same [] (u ∷ us) e k m n same = absurd (cc)
  variables_same (t ∷ ts) [] e k m n same = absurd (cc)
  variables_same (Variable x ∷ ts) (Variable y ∷ us) e k m n same =
      let here = apart x y (m x (inl refl)) (n y (inl refl)) (same_head (value_at s x) (value_at s y) (map (substituted s) ts) (map (substituted s) us) same) in
      let rest = variables_same ts us e k (λ z l. m z (inr l)) (λ z l. n z (inr l)) (same_tail (value_at s x) (value_at s y) (map (substituted s) ts) (map (substituted s) us) same) in
      ap (λ b. b && become_same from to ts us) here ∙ rest
  variables_same (Variable x ∷ ts) (Function g ∷ us) e k m n same = absurd (cc)
  variables_same (Variable x ∷ ts) (Applied u v ∷ us) e k m n same = absurd (cc)
  variables_same (Function f ∷ ts) (u ∷ us) e k m n same = absurd (cc)
  variables_same (Applied t v ∷ ts) (u ∷ us) e k m n same = absurd (cc)

over_variables : (x f : Name) (xs : List Name) (ts : List Term) → IsCallOver x xs (call f ts) → are_variables ts ≡ true
over_variables x f xs ts over = (flat_applied (Function f) ts (flat [] (call f ts) (both_true (has_distinct_variables [] (call f ts)) (has_argument x (call f ts)) over.destructor).0)).1

over_within : (x f : Name) (xs : List Name) (ts : List Term) → IsCallOver x xs (call f ts) → AreWithin xs ts
over_within x f xs ts over y m = over.within y (variable_among y (Function f) ts m)

pub call_apart : (from to : List Term) (f g : Name) (ts us : List Term) (u : Term) (b : Bool) → u ≡ call g (parts_of u) → us ≡ parts_of u → b ≡ become_same from to ts us → b ≡ false → StayApart from to (call f ts) u
call_apart from to f g ts us u b is tells told fails x xs s apart left right same =
    let u_is : u ≡ call g us = is ∙ ap (call g) (sym tells) in
    let over : IsCallOver x xs (call g us) = subst (IsCallOver x xs) u_is right in
    let made : map (substituted s) ts ≡ map (substituted s) us = made_arguments s f g ts us (same ∙ ap (substituted s) u_is) in
    let holds : become_same from to ts us ≡ true = variables_same from to xs s apart ts us (over_variables x f xs ts left) (over_variables x g xs us over) (over_within x f xs ts left) (over_within x g xs us over) made in
    absurd (cc)

pub names_apart : (from to : List Term) (f g : Name) (ts : List Term) (u : Term) → u ≡ call g (parts_of u) → bytes_eq f g ≡ false → StayApart from to (call f ts) u
names_apart from to f g ts u is other x xs s apart left right same =
    let e : bytes_eq f g ≡ true = eq-bytes_eq f g (made_names s f g ts (parts_of u) (same ∙ ap (substituted s) is)) in
    absurd (cc)

pub number_apart : (from to : List Term) (t u : Term) (n : ℕ) → u ≡ numeral n → StayApart from to t u
number_apart from to t u n is x xs s apart left right same =
    let none : is_destructor_call x u ≡ false = ap (is_destructor_call x) is ∙ numeral_no_call x n in
    let some : is_destructor_call x u ≡ true = right.destructor in
    absurd (cc)

pub variable_apart : (from to : List Term) (t u : Term) (y : Name) → u ≡ Variable y → StayApart from to t u
variable_apart from to t u y is x xs s apart left right same =
    let none : is_destructor_call x u ≡ false = ap (is_destructor_call x) is in
    let some : is_destructor_call x u ≡ true = right.destructor in
    absurd (cc)

pub turned_apart : (from to : List Term) (t u : Term) → StayApart from to u t → StayApart from to t u
turned_apart from to t u other x xs s apart left right same = other x xs s apart right left (sym same)

-- the same of a call by its function and its arguments
pub told_becomes : (from to : List Term) (t u : Term) (f : Name) (ts : List Term) → t ≡ call f (parts_of t) → ts ≡ parts_of t → BecomeOne from to (call f ts) u → BecomeOne from to t u
told_becomes from to t u f ts is tells h = subst (λ v. BecomeOne from to v u) (ap (call f) tells ∙ sym is) h

pub told_apart : (from to : List Term) (t u : Term) (f : Name) (ts : List Term) → t ≡ call f (parts_of t) → ts ≡ parts_of t → StayApart from to (call f ts) u → StayApart from to t u
told_apart from to t u f ts is tells h = subst (λ v. StayApart from to v u) (ap (call f) tells ∙ sym is) h

-- ---- one of some calls

or_true : (b : Bool) → (b || true) ≡ true
or_true true = refl
or_true false = refl

pub first_becomes : (from to : List Term) (t u : Term) (us : List Term) → BecomeOne from to t u → BecomesOneOf from to t (u ∷ us)
first_becomes from to t u us one s made = ap (λ b. b || has_term (substituted s t) (map (substituted s) us)) (true_same (substituted s t) (substituted s u) (one s made))

pub later_becomes : (from to : List Term) (t u : Term) (us : List Term) → BecomesOneOf from to t us → BecomesOneOf from to t (u ∷ us)
later_becomes from to t u us later s made = ap (λ b. same_term (substituted s t) (substituted s u) || b) (later s made) ∙ or_true (same_term (substituted s t) (substituted s u))

pub none_apart : (from to : List Term) (t : Term) → StaysApart from to t []
none_apart from to t x xs s apart over each = refl

pub more_apart : (from to : List Term) (t u : Term) (us : List Term) → StayApart from to t u → StaysApart from to t us → StaysApart from to t (u ∷ us)
more_apart from to t u us here later x xs s apart over each = by_test (same_term (substituted s t) (substituted s u)) refl
  where
    by_test : (b : Bool) → same_term (substituted s t) (substituted s u) ≡ b → (b || has_term (substituted s t) (map (substituted s) us)) ≡ false
    by_test true k = absurd (here x xs s apart over each.0 (same_true (substituted s t) (substituted s u) k))
    by_test false k = later x xs s apart over each.1

-- ---- copies

and_false : (b : Bool) → (b && false) ≡ false
and_false true = refl
and_false false = refl

pub first_copies : (from to : List Term) (t : Term) (ts : List Term) → BecomesOneOf from to t ts → MakesCopies from to (t ∷ ts)
first_copies from to t ts one s made = ap (λ b. not b && no_copies (map (substituted s) ts)) (one s made)

pub later_copies : (from to : List Term) (t : Term) (ts : List Term) → MakesCopies from to ts → MakesCopies from to (t ∷ ts)
later_copies from to t ts later s made = ap (λ b. not (has_term (substituted s t) (map (substituted s) ts)) && b) (later s made) ∙ and_false (not (has_term (substituted s t) (map (substituted s) ts)))

pub none_distinct : (from to : List Term) → StayDistinct from to []
none_distinct from to x xs s apart each = refl

pub more_distinct : (from to : List Term) (t : Term) (ts : List Term) → StaysApart from to t ts → StayDistinct from to ts → StayDistinct from to (t ∷ ts)
more_distinct from to t ts here later x xs s apart each = ap (λ b. not b && no_copies (map (substituted s) ts)) (here x xs s apart each.0 each.1) ∙ later x xs s apart each.1

-- ---- a list of ids, with its first one apart

pub no_terms : (bank : Content) (ids : List TermId) → length ids < 1 → terms_at bank ids ≡ []
no_terms bank [] few = refl
no_terms bank (i ∷ ids) few = absurd (omega (arith, few))

pub split_terms : (bank : Content) (ids : List TermId) (d : TermId) → 1 ≤ length ids → terms_at bank ids ≡ term_at bank (get_or ids 0 d) ∷ terms_at bank (take (length ids - 1) (drop 1 ids))
split_terms bank [] d l = absurd (omega (arith, l))
split_terms bank (i ∷ ids) d l = ap (λ xs. term_at bank i ∷ terms_at bank xs) (sym (take_all (length (i ∷ ids) - 1) ids (omega arith)))
