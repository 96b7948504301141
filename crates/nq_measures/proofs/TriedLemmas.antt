-- Measures as they are made, one by one.
use Rattle.std.proofs.Common.{◌≡◌, ◌<◌, ◌≤◌, ◌+◌, ℕ, Option, Some, None, List, [], ◌∷◌, ◌++◌, map, length, take, get_or, refl, sym, ap, ap₂, ◌∙◌, subst, arith}
use Rattle.std.specs.Prelude.{All}
use Rattle.std.proofs.lemmas.List.{take_more, map_push}
use Rattle.nq_logic.specs.Terms.{Name, Term, Variable, call}
use Rattle.nq_logic.specs.Numerals.{number_of}
use Rattle.nq_logic.specs.Sizes.{depth_of, depth_limit, tree_depth}
use Rattle.nq_bank.specs.declared.node.TermId.{TermId}
use Rattle.nq_bank.specs.Content.{Content, Grows, Stands, IsIdOf, term_from, term_at, terms_at}
use Rattle.nq_bank.proofs.Growth.{terms_at-grown}
use Rattle.nq_bank.proofs.Standing.{stand_grown, All-push}
use Rattle.nq_bank.proofs.Numerals.{depth_of-other, depth_of-number}

-- a call of one argument is one deeper at most
pub one_shallow : (f : Name) (t : Term) → depth_of t ≤ 2000 → depth_limit < depth_of (call f (t ∷ [])) → ⊥
one_shallow f t d deep = by_number (number_of (call f (t ∷ []))) refl
  where
    by_number : (o : Option ℕ) → number_of (call f (t ∷ [])) ≡ o → ⊥
    by_number None e = let is = depth_of-other f (t ∷ []) e in omega (arith, is, d, deep)
    by_number (Some n) e = let is = depth_of-number (call f (t ∷ [])) n e in omega (arith, is, deep)

pub variable_depth : (x : Name) → depth_of (Variable x) ≤ 2000
unfolding number_of tree_depth
variable_depth x = omega arith

-- one more measure, of what stands at the next place
module _ {X : Type 0} (f : X → Term) (xs : List X) (i : ℕ) (d : X) (mid new : Content) (made more : List TermId) (id : TermId) (grows : Grows mid new) (below : i < length xs) (were : All (Stands mid) made) (are : more ≡ made ++ id ∷ []) (is : IsIdOf new id (f (get_or xs i d))) where
  pub made_next : terms_at mid made ≡ map f (take i xs) → terms_at new more ≡ map f (take (i + 1) xs)
  made_next so_far =
      ap (terms_at new) are ∙ map_push (term_from new.terms) made id ∙ ap₂ (λ (ts : List Term) (t : Term). ts ++ t ∷ []) (terms_at-grown mid new made grows were ∙ so_far) is.denotes ∙
      sym (map_push f (take i xs) (get_or xs i d)) ∙ ap (map f) (sym (take_more xs i d below))

  pub stand_next : All (Stands new) more
  stand_next = subst (λ (l : List TermId). All (Stands new) l) (sym are) (All-push (Stands new) made id (stand_grown mid new made grows were) is.stands)

pub map_twice : {X Y Z : Type 0} (f : Y → Z) (g : X → Y) (xs : List X) → map f (map g xs) ≡ map (λ x. f (g x)) xs
map_twice f g [] = refl
map_twice f g (x ∷ xs) = ap (λ l. f (g x) ∷ l) (map_twice f g xs)

pub both_terms : (bank : Content) (first second : List TermId) → terms_at bank (first ++ second) ≡ terms_at bank first ++ terms_at bank second
both_terms bank [] second = refl
both_terms bank (t ∷ first) second = ap (λ l. term_at bank t ∷ l) (both_terms bank first second)
