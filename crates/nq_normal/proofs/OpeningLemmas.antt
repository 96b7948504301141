-- What a definition that was found tells of an opening.
use Rattle.std.proofs.Common.{◌≡◌, ℕ, Bool, ◌&&◌, List, refl, ap, ◌∙◌}
use Rattle.std.specs.Prelude.{not, bytes_eq, codes, Option, Some, None, is_some}
use Rattle.std.specs.Option.{option_map}
use Rattle.nq_logic.specs.Names.{has_name}
use Rattle.nq_logic.specs.Histories.{History, Definition}
use Rattle.nq_events.specs.Events.{Hints}
use Rattle.nq_events.specs.Inductions.{definition_if}
use Rattle.nq_goals.specs.Hints.{is_enabled_for}
use Rattle.nq_goals.specs.Functions.{is_plain_opening}

pub measure_kept : {X Y : Type 0} (f : X → Y) (o : Option X) → is_some (option_map f o) ≡ is_some o
measure_kept f None = refl
measure_kept f (Some x) = refl

pub opened_if : (h : History) (hints : Hints) (f : List ℕ) (d : Definition) (recursive answer : Bool) → Some d ≡ definition_if h (Some f) → recursive ≡ is_some d.measure →
    answer ≡ (not recursive && not (bytes_eq d.function (codes "NOT")) && is_enabled_for h hints d.function && not (has_name d.function hints.hands_off)) → answer ≡ is_plain_opening h hints (definition_if h (Some f))
opened_if h hints f d recursive answer is r a =
    a
    ∙ (ap (λ b. not b && not (bytes_eq d.function (codes "NOT")) && is_enabled_for h hints d.function && not (has_name d.function hints.hands_off)) r
    ∙ ap (is_plain_opening h hints) is)
