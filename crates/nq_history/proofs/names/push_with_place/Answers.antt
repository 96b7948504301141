use Rattle.std.proofs.Common.{◌≡◌, ℕ, Option, Some, None, ◌∷◌, [], ◌++◌, true, false, is_some, refl, sym, ◌∙◌, subst}
use Rattle.std.specs.Prelude.{nat_eq}
use Rattle.std.specs.HashMap.{get, Updates}
use Rattle.nq_history.specs.Places.{FindsPlaces}
use Rattle.nq_history.proofs.PlaceLemmas.{finds_again, finds_new}
use Rattle.nq_history.proofs.names.push_with_place.Goals as goal

some_found : (o : Option ℕ) (P : Type 0) → is_some o ≡ true → ((i : ℕ) → o ≡ Some i → P) → P
some_found None P h k = cc
some_found (Some i) P h k = k i refl

none_found : (o : Option ℕ) → is_some o ≡ false → o ≡ None
none_found None h = refl
none_found (Some i) h = cc

pub returns-then-contains_key-clause-finds : goal.returns-then-contains_key-clause-finds
returns-then-contains_key-clause-finds c =
    let old = c.args.list.now.items in
    let places = c.args.places.now in
    let s = c.args.name in
    subst (λ xs. FindsPlaces xs places) (sym c.in-Ok.ensures.items)
    (some_found (get nat_eq places s.0) (FindsPlaces (old ++ s ∷ []) places) (sym c.contains_key.ensures ∙ c.if-contains_key.true) (λ i is. finds_again old s places i c.requires is))

pub returns-in-Ok-insert-clause-finds : goal.returns-in-Ok-insert-clause-finds
returns-in-Ok-insert-clause-finds c =
    let old = c.args.list.now.items in
    let places = c.args.places.now in
    let s = c.args.name in
    let put = subst (λ n. Updates nat_eq places c.insert.new.self s.0 (Some n)) (c.len-place.ensures ∙ c.args.list.now.ok.0) c.in-Ok-insert.ensures.updates in
    subst (λ xs. FindsPlaces xs c.insert.new.self) (sym c.in-Ok.ensures.items)
    (finds_new old s places c.insert.new.self c.requires (none_found (get nat_eq places s.0) (sym c.contains_key.ensures ∙ c.if-contains_key.false)) put)
