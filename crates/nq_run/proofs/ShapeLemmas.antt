-- Rule classes, one after another.
use Rattle.std.proofs.Common.{◌≡◌, ◌∙◌, ◌+◌, ◌<◌, ◌≤◌, ℕ, Bool, List, ◌∷◌, length, get_or, drop, map, drop-cons, add-one, ap, sym}
use Rattle.std.specs.Prelude.{Option, None, Some, if◌then◌else◌}
use Rattle.std.proofs.lemmas.List.{drop_all}
use Rattle.nq_logic.specs.Terms.{Term}
use Rattle.nq_logic.specs.RuleShapes.{is_of_shape}
use Rattle.nq_history.specs.declared.entry.Class.{Class}
use Rattle.nq_history.specs.Events.{class_of}
use Rattle.nq_events.specs.OwnRefusals.{shape_refusal}
use Rattle.nq_events.specs.Refusals.{Refusal, NotOfShape}

module _ (classes : List Class) (t : Term) where
  abbrev from_place : ℕ → Option Refusal
  from_place n = shape_refusal (map class_of (drop n classes)) t

  -- the class at a place
  pub shape_here : (i : ℕ) (d : Class) (b : Bool) → i < length classes → is_of_shape (class_of (get_or classes i d)) t ≡ b
      → from_place i ≡ (if b then from_place (i + 1) else Some (NotOfShape (class_of (get_or classes i d))))
  shape_here i d b lt is =
      ap (λ (cs : List Class). shape_refusal (map class_of cs) t) (drop-cons classes i d lt)
      ∙ ap (λ (n : ℕ). shape_refusal (map class_of (get_or classes i d ∷ drop n classes)) t) (sym (add-one i))
      ∙ ap (λ (b : Bool). if b then from_place (i + 1) else Some (NotOfShape (class_of (get_or classes i d)))) is

  pub no_shape : (i : ℕ) → length classes ≤ i → from_place i ≡ None
  no_shape i past = ap (λ (cs : List Class). shape_refusal (map class_of cs) t) (drop_all i classes past)
