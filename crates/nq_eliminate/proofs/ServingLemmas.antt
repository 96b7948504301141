-- Calls that a rule's destructor calls cannot become, and one that they can.
use Rattle.std.proofs.Common.{◌≡◌, ◌<◌, ◌≤◌, ◌+◌, ℕ, zero, suc, Bool, true, false, ◌&&◌, if◌then◌else◌, Some, None, List, [], ◌∷◌, ◌++◌, length, map, take, get_or, refl, sym, ap, ◌∙◌, subst, inl, inr, arith}
use Rattle.std.specs.Prelude.{bytes_eq, not}
use Rattle.std.proofs.lemmas.List.{length-map, map_push, take_all, take_more}
use Rattle.nq_logic.specs.Terms.{Each, IsAmong, Name, Term, Variable, Function, Applied, Substitution, call, substituted, value_at}
use Rattle.nq_logic.specs.Numerals.{numeral_limit}
use Rattle.nq_logic.specs.RuleShapes.{has_argument, has_distinct_variables, is_destructor_call}
use Rattle.nq_logic.specs.Values.{is_value}
use Rattle.nq_logic.specs.Words.{numeral}
use Rattle.nq_bank.specs.Parts.{parts_of}
use Rattle.nq_bank.proofs.Texts.{bytes_eq-true, eq-bytes_eq}
use Rattle.nq_clause.proofs.SubstitutionLemmas.{substituted-call}
use Rattle.nq_proof.specs.Clauses.{Clause, same_term}
use Rattle.nq_proof.proofs.Tests.{same_true}
use Rattle.nq_rule.proofs.LiteralLemmas.{true_same}
use Rattle.nq_rules.specs.Variables as variable
use Rattle.nq_rules.proofs.DestructorLemmas as rule
use Rattle.nq_goals.specs.Eliminating.{no_copies}
use Rattle.nq_goals.specs.Replacing.{stands_in_one}
use Rattle.nq_stuck.specs.Destructors.{is_variable}
use Rattle.nq_stuck.proofs.CallLemmas.{numeral_value}
use Rattle.nq_stuck.proofs.StandingLemmas.{one_of}
use Rattle.nq_eliminate.specs.Images.{Makes, MakesCopies, StayDistinct, has_other, image}
use Rattle.nq_eliminate.specs.Serving.{Becomes, CallServes, MayServe, Serves, ServesNone, are_variables}
use Rattle.nq_eliminate.proofs.CallShapes.{among_variables, call_no_variable, flat, flat_applied, put_variables, same_arguments, same_names, variable_among}
use Rattle.nq_eliminate.proofs.CandidateLemmas.{both_true}
use Rattle.nq_eliminate.proofs.DestructorLemmas.{numeral_no_call}
use Rattle.nq_eliminate.proofs.ImageLemmas.{image_made, same_head, same_tail}

-- ---- arguments

variable_is : (x : Name) (t : Term) → variable.is_variable x t ≡ true → Variable x ≡ t
variable_is x (Variable y) e = ap Variable (bytes_eq-true x y e)
variable_is x (Function f) e = absurd (cc)
variable_is x (Applied t u) e = absurd (cc)

has_among : (x : Name) (ts : List Term) → variable.has_variable x ts ≡ true → IsAmong (Variable x) ts
has_among x [] e = absurd (cc)
has_among x (t ∷ ts) e = elim (one_of (variable.is_variable x t) (variable.has_variable x ts) e) [ inl here ↦ inl (variable_is x t here) | inr there ↦ inr (has_among x ts there) ]

-- the arguments of a destructor call are distinct variables, and the variable is one of them
pub distinct_arguments : (x f : Name) (ts : List Term) → is_destructor_call x (call f ts) ≡ true → variable.are_distinct_variables ts ≡ true
distinct_arguments x f ts e = (both_true (variable.are_distinct_variables ts) (variable.has_variable x ts) (rule.destructor_call x f ts ∙ e)).0

pub argument_among : (x f : Name) (ts : List Term) → is_destructor_call x (call f ts) ≡ true → IsAmong (Variable x) ts
argument_among x f ts e = has_among x ts (both_true (variable.are_distinct_variables ts) (variable.has_variable x ts) (rule.destructor_call x f ts ∙ e)).1

pub variable_arguments : (x f : Name) (ts : List Term) → is_destructor_call x (call f ts) ≡ true → are_variables ts ≡ true
variable_arguments x f ts e = (flat_applied (Function f) ts (flat [] (call f ts) (both_true (has_distinct_variables [] (call f ts)) (has_argument x (call f ts)) e).0)).1

-- what is one of the terms becomes something
image_there : (t : Term) (fs us : List Term) → IsAmong t fs → length fs ≡ length us → image fs us t ≡ None → ⊥
image_there t [] us m many none = m
image_there t (f ∷ fs) [] m many none = absurd (omega (arith, many))
image_there t (f ∷ fs) (u ∷ us) m many none = by_test (same_term t f) refl (λ n e. image_there t fs us n (omega (arith, many)) e) none
  where
    by_test : (b : Bool) → same_term t f ≡ b → (IsAmong t fs → image fs us t ≡ None → ⊥) → (if b then Some u else image fs us t) ≡ None → ⊥
    by_test true k later e = absurd (cc)
    by_test false k later e = elim m [ inl is ↦ let same : same_term t f ≡ true = subst (λ v. same_term t v ≡ true) is (itself t) in absurd (cc) | inr n ↦ later n e ]
      where
        itself : (v : Term) → same_term v v ≡ true
        itself v = true_same v v refl

-- another term that becomes this one
record HasOther (s : Substitution) (from : List Term) (v w : Term) : Type 0 where
  pub other : Term
  pub among : IsAmong other from
  pub apart : same_term other v ≡ false
  pub is : substituted s other ≡ w

not_false : (b : Bool) → not b ≡ true → b ≡ false
not_false false e = refl
not_false true e = absurd (cc)

first_made : (s : Substitution) (f u : Term) (fs us : List Term) → Makes s (f ∷ fs) (u ∷ us) → substituted s f ≡ u
first_made s f u fs us made = same_head (substituted s f) u (map (substituted s) fs) us made

rest_made : (s : Substitution) (f u : Term) (fs us : List Term) → Makes s (f ∷ fs) (u ∷ us) → Makes s fs us
rest_made s f u fs us made = same_tail (substituted s f) u (map (substituted s) fs) us made

other_made : (s : Substitution) (v w : Term) (fs us : List Term) → Makes s fs us → has_other fs us v w ≡ true → HasOther s fs v w
other_made s v w [] us made e = absurd (cc)
other_made s v w (f ∷ fs) [] made e = absurd (cc)
other_made s v w (f ∷ fs) (u ∷ us) made e =
    elim (one_of (same_term u w && not (same_term f v)) (has_other fs us v w) e) [
      | inl here ↦
          let parts = both_true (same_term u w) (not (same_term f v)) here in
          record { other = f; among = inl refl; apart = not_false (same_term f v) parts.1; is = first_made s f u fs us made ∙ same_true u w parts.0 }
      | inr there ↦
          let o = other_made s v w fs us (rest_made s f u fs us made) there in
          record { other = o.other; among = inr o.among; apart = o.apart; is = o.is }
    ]

-- ---- what cannot be

module _ (x : Name) (goal : Clause) (ds : List Term) (f : Name) (ts us : List Term) (s : Substitution) (serves : Serves x goal ds (call f ts) (call f us) s) where
  arguments_made : Makes s ts us
  arguments_made = same_arguments f f (map (substituted s) ts) us (sym (substituted-call s f ts) ∙ serves.makes)

  variables_made : are_variables us ≡ true
  variables_made = subst (λ c. are_variables c ≡ true) arguments_made (put_variables s serves.variables ts (variable_arguments x f ts serves.destructor))

  as_many : length ts ≡ length us
  as_many = sym (length-map ts (substituted s)) ∙ ap length arguments_made

  no_other : (w : Term) → image ts us (Variable x) ≡ Some w → HasOther s ts (Variable x) w → ⊥
  no_other w is has = by_term has.other (among_variables has.other ts (variable_arguments x f ts serves.destructor) has.among) has.among has.apart (has.is ∙ sym (image_made s ts us arguments_made (Variable x) w is))
    where
      by_term : (t : Term) → is_variable t ≡ true → IsAmong t ts → same_term t (Variable x) ≡ false → substituted s t ≡ value_at s x → ⊥
      by_term (Variable y) e m apart same = serves.differs y (variable_among y (Function f) ts m) apart same
      by_term (Function g) e m apart same = absurd (cc)
      by_term (Applied t u) e m apart same = absurd (cc)

pub not_variables : (x : Name) (ds ts us : List Term) (b : Bool) → b ≡ are_variables us → b ≡ false → (goal : Clause) (f : Name) → ServesNone x goal ds (call f ts) (call f us)
not_variables x ds ts us b told none goal f s serves = let here : are_variables us ≡ true = variables_made x goal ds f ts us s serves in absurd (cc)

pub not_many : (x : Name) (ds ts us : List Term) → (length ts ≡ length us → ⊥) → (goal : Clause) (f : Name) → ServesNone x goal ds (call f ts) (call f us)
not_many x ds ts us none goal f s serves = none (as_many x goal ds f ts us s serves)

pub copies_made : (x : Name) (ds ts us : List Term) → MakesCopies ts us ds → (goal : Clause) (f : Name) → ServesNone x goal ds (call f ts) (call f us)
copies_made x ds ts us copies goal f s serves =
    let none : no_copies (map (substituted s) ds) ≡ false = copies s (arguments_made x goal ds f ts us s serves) in
    let some : no_copies (map (substituted s) ds) ≡ true = serves.apart in
    absurd (cc)

pub no_image : (x : Name) (ds ts us : List Term) → image ts us (Variable x) ≡ None → (goal : Clause) (f : Name) → ServesNone x goal ds (call f ts) (call f us)
no_image x ds ts us none goal f s serves = image_there (Variable x) ts us (argument_among x f ts serves.destructor) (as_many x goal ds f ts us s serves) none

pub other_found : (x : Name) (ds ts us : List Term) (w : Term) → image ts us (Variable x) ≡ Some w → has_other ts us (Variable x) w ≡ true → (goal : Clause) (f : Name) → ServesNone x goal ds (call f ts) (call f us)
other_found x ds ts us w is has goal f s serves = no_other x goal ds f ts us s serves w is (other_made s (Variable x) w ts us (arguments_made x goal ds f ts us s serves) has)

-- ---- other terms than calls of the function

pub number_serves : (x : Name) (goal : Clause) (ds : List Term) (d u : Term) (n : ℕ) → n < numeral_limit → u ≡ numeral n → ServesNone x goal ds d u
number_serves x goal ds d u n small is s serves =
    let value : is_value u ≡ true = ap is_value is ∙ numeral_value n small in
    let other : is_value u ≡ false = serves.other in
    absurd (cc)

pub variable_serves : (x : Name) (goal : Clause) (ds : List Term) (f y : Name) (ts : List Term) (u : Term) → u ≡ Variable y → ServesNone x goal ds (call f ts) u
variable_serves x goal ds f y ts u is s serves = call_no_variable f y (map (substituted s) ts) (sym (substituted-call s f ts) ∙ (serves.makes ∙ is))

pub other_serves : (x : Name) (goal : Clause) (ds : List Term) (f g : Name) (ts : List Term) (u : Term) → u ≡ call g (parts_of u) → bytes_eq f g ≡ false → ServesNone x goal ds (call f ts) u
other_serves x goal ds f g ts u is apart s serves =
    let same : bytes_eq f g ≡ true = eq-bytes_eq f g (same_names f g (map (substituted s) ts) (parts_of u) (sym (substituted-call s f ts) ∙ (serves.makes ∙ is))) in
    absurd (cc)

pub same_serves : (x : Name) (goal : Clause) (ds : List Term) (f g : Name) (ts us : List Term) (u : Term) → f ≡ g → u ≡ call g (parts_of u) → us ≡ parts_of u → ((h : Name) → ServesNone x goal ds (call h ts) (call h us)) → ServesNone x goal ds (call f ts) u
same_serves x goal ds f g ts us u same is tells none =
    subst (λ n. ServesNone x goal ds (call n ts) u) (sym same)
    (subst (ServesNone x goal ds (call g ts)) (ap (call g) tells ∙ sym is) (none g))

-- a destructor call is no numeral and no variable
pub destructor_number : (x : Name) (goal : Clause) (ds : List Term) (d u : Term) (n : ℕ) → d ≡ numeral n → ServesNone x goal ds d u
destructor_number x goal ds d u n is s serves =
    let none : is_destructor_call x d ≡ false = ap (is_destructor_call x) is ∙ numeral_no_call x n in
    let some : is_destructor_call x d ≡ true = serves.destructor in
    absurd (cc)

pub destructor_variable : (x : Name) (goal : Clause) (ds : List Term) (d u : Term) (y : Name) → d ≡ Variable y → ServesNone x goal ds d u
destructor_variable x goal ds d u y is s serves =
    let none : is_destructor_call x d ≡ false = ap (is_destructor_call x) is in
    let some : is_destructor_call x d ≡ true = serves.destructor in
    absurd (cc)

pub destructor_call : (x : Name) (goal : Clause) (ds : List Term) (d u : Term) (f : Name) (ts : List Term) → d ≡ call f (parts_of d) → ts ≡ parts_of d → ServesNone x goal ds (call f ts) u → ServesNone x goal ds d u
destructor_call x goal ds d u f ts is tells none = subst (λ t. ServesNone x goal ds t u) (ap (call f) tells ∙ sym is) none

pub not_standing : (x : Name) (goal : Clause) (ds : List Term) (d u : Term) → (is_value u ≡ false → stands_in_one u goal ≡ false) → ServesNone x goal ds d u
not_standing x goal ds d u none s serves =
    let fails : stands_in_one u goal ≡ false = none serves.other in
    let holds : stands_in_one u goal ≡ true = serves.stands in
    absurd (cc)

-- ---- what can be

pub becomes_made : (x : Name) (ds ts us : List Term) (w : Term) (b : Bool) → are_variables us ≡ true → length ts ≡ length us → image ts us (Variable x) ≡ Some w → b ≡ has_other ts us (Variable x) w → b ≡ false → StayDistinct ts us ds → Becomes x ds ts us
becomes_made x ds ts us w b variables many is other fails apart = record { variables = variables; many = many; into = w; becomes = is; alone = sym other ∙ fails; apart = apart }

pub call_serves : (x : Name) (ds : List Term) (f g : Name) (ts us : List Term) (u : Term) → f ≡ g → u ≡ call g (parts_of u) → us ≡ parts_of u → Becomes x ds ts us → CallServes x ds f ts u
call_serves x ds f g ts us u same is tells becomes = record { second = is ∙ ap (λ n. call n (parts_of u)) (sym same); becomes = subst (Becomes x ds ts) tells becomes }

pub may_told : (x : Name) (ds : List Term) (d u : Term) (f : Name) (ts : List Term) → d ≡ call f (parts_of d) → ts ≡ parts_of d → CallServes x ds f ts u → MayServe x ds d u
may_told x ds d u f ts is tells serves = record { function = f; first = is; serves = subst (λ from. CallServes x ds f from u) tells serves }

-- ---- what holds of each element so far

each_push : {X : Type 0} (P : X → Type 0) (xs : List X) (x : X) → Each P xs → P x → Each P (xs ++ x ∷ [])
each_push P [] x each here = (here, tt)
each_push P (y ∷ xs) x each here = (each.0, each_push P xs x each.1 here)

pub each_more : {X Y : Type 0} (P : Y → Type 0) (f : X → Y) (xs : List X) (i : ℕ) (d : X) → i < length xs → Each P (map f (take i xs)) → P (f (get_or xs i d)) → Each P (map f (take (i + 1) xs))
each_more P f xs i d below so_far here =
    subst (Each P) (sym (ap (map f) (take_more xs i d below) ∙ map_push f (take i xs) (get_or xs i d))) (each_push P (map f (take i xs)) (f (get_or xs i d)) so_far here)

pub each_all : {X Y : Type 0} (P : Y → Type 0) (f : X → Y) (xs : List X) (i : ℕ) → length xs ≤ i → Each P (map f (take i xs)) → Each P (map f xs)
each_all P f xs i past so_far = subst (λ ys. Each P (map f ys)) (take_all i xs past) so_far

-- an element is among the list
pub element_among : {X Y : Type 0} (f : X → Y) (xs : List X) (i : ℕ) (d : X) → i < length xs → IsAmong (f (get_or xs i d)) (map f xs)
element_among f [] i d below = absurd (omega (arith, below))
element_among f (x ∷ xs) zero d below = inl refl
element_among f (x ∷ xs) (suc i) d below = inr (element_among f xs i d (omega (arith, below)))

-- ---- tests

pub not_true : (b : Bool) → not b ≡ false → b ≡ true
not_true true e = refl
not_true false e = absurd (cc)

pub turned_false : (b : Bool) → not b ≡ true → b ≡ false
turned_false false e = refl
turned_false true e = absurd (cc)
