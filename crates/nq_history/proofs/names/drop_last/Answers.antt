use Rattle.std.proofs.Common.{◌≡◌, ℕ, true, false, Option, None, Some, length, sym, ap, ◌∙◌, subst}
use Rattle.std.specs.Prelude.{nat_eq}
use Rattle.std.specs.Option.{option_eq}
use Rattle.std.specs.HashMap.{get}
use Rattle.std.proofs.lemmas.Bool.{eqb-true, eq-eqb}
use Rattle.nq_history.specs.Places.{FindsPlaces}
use Rattle.nq_history.proofs.PlaceLemmas.{finds_without, finds_before}
use Rattle.nq_history.proofs.names.drop_last.Goals as goal

-- what the comparison of a place tells
is_the_place : (o : Option ℕ) (n : ℕ) → option_eq nat_eq o (Some n) ≡ true → o ≡ Some n
is_the_place None n h = cc
is_the_place (Some m) n h = ap Some (eqb-true m n h)

is_another : (o : Option ℕ) (n : ℕ) → option_eq nat_eq o (Some n) ≡ false → o ≡ Some n → ⊥
is_another None n h k = cc
is_another (Some m) n h k =
    let same : m ≡ n = cc in
    let equal = eq-eqb m n same in
    cc

pub returns-then-eq-clause-finds : goal.returns-then-eq-clause-finds
returns-then-eq-clause-finds c =
    let left = c.pop.new.self in
    let places = c.args.places.now in
    let s = c.in-Some.name in
    let finds = subst (λ xs. FindsPlaces xs places) c.in-Some.ensures.items c.requires in
    let got = c.copied.ensures ∙ c.get.ensures.value in
    let last : get nat_eq places s.0 ≡ Some (length left.items) = sym got ∙ is_the_place c.copied.result c.len.result (sym c.eq.ensures ∙ c.if-eq.true) ∙ ap Some (c.len.ensures ∙ left.ok.0) in
    finds_without left.items s places c.remove.new.self finds last c.remove.ensures.updates

pub returns-else-eq-clause-finds : goal.returns-else-eq-clause-finds
returns-else-eq-clause-finds c =
    let left = c.pop.new.self in
    let places = c.args.places.now in
    let s = c.in-Some.name in
    let finds = subst (λ xs. FindsPlaces xs places) c.in-Some.ensures.items c.requires in
    let got = c.copied.ensures ∙ c.get.ensures.value in
    finds_before left.items s places finds
    (λ is. is_another c.copied.result c.len.result (sym c.eq.ensures ∙ c.if-eq.false) (got ∙ is ∙ ap Some (sym (c.len.ensures ∙ left.ok.0))))
