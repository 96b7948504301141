-- The tests of a definition, in their order.
use Rattle.std.proofs.Common.{◌≡◌, ℕ, suc, ◌+◌, ◌<◌, ◌≤◌, Bool, true, false, ◌&&◌, List, length, get_or, drop, drop-cons, add-one, map, refl, sym, ap, ◌∙◌, subst}
use Rattle.std.specs.Prelude.{nat_le, Option, None, Some}
use Rattle.std.specs.Option.{option_map}
use Rattle.std.proofs.lemmas.Bool.{le-leb, lt-leb}
use Rattle.std.proofs.lemmas.List.{length-map}
use Rattle.nq_logic.specs.Terms.{Name, Term}
use Rattle.nq_logic.specs.Histories.{History}
use Rattle.nq_logic.specs.Names.{is_in_use}
use Rattle.nq_logic.specs.Admissible.{has_variables}
use Rattle.nq_logic.specs.RuleShapes.{variables_of}
use Rattle.nq_logic.specs.ShellPrinciple.{first_repeated, first_outside}
use Rattle.nq_bank.specs.declared.node.Sym.{Sym}
use Rattle.nq_bank.specs.Content.{Content, text_at, term_at}
use Rattle.nq_history.specs.declared.entry.Entry.{Entry}
use Rattle.nq_history.specs.Events.{event_at, events_at, past_ground}
use Rattle.nq_event.specs.declared.event.Measure.{Measure}
use Rattle.nq_event.specs.EventsAt.{measure_at}
use Rattle.nq_events.specs.Events as model
use Rattle.nq_events.specs.Refusals.{Refusal, TooManyEvents}
use Rattle.nq_events.specs.OwnRefusals.{first_constant, is_relation, are_good_measures, refused_if, room_refusal, event_limit, definition_refusal}

-- the measures from a place on
module _ (known : List Name) (bank : Content) (measures : List Measure) where
  abbrev from_place : ℕ → Bool
  from_place n = are_good_measures known (map (measure_at bank) (drop n measures))

  abbrev is_good : Measure → Bool
  is_good m = is_relation (text_at bank m.relation) && has_variables known (term_at bank m.term)

  at_place : (i : ℕ) (d : Measure) → i < length measures → from_place i ≡ (is_good (get_or measures i d) && from_place (i + 1))
  at_place i d below =
      ap (λ l. are_good_measures known (map (measure_at bank) l)) (drop-cons measures i d below) ∙ ap (λ n. is_good (get_or measures i d) && from_place n) (sym (add-one i))

  pub good_here : (i : ℕ) (d : Measure) (good : Bool) → i < length measures → good ≡ is_good (get_or measures i d) → good ≡ true → from_place i ≡ are_good_measures known (map (measure_at bank) measures)
      → from_place (i + 1) ≡ are_good_measures known (map (measure_at bank) measures)
  good_here i d good below is h so_far = ap (λ b. b && from_place (i + 1)) (sym h ∙ is) ∙ sym (at_place i d below) ∙ so_far

-- nothing is found where the text of nothing is
pub none_found : (bank : Content) (found : Option Sym) (text : Option Name) → option_map (text_at bank) found ≡ text → found ≡ None → text ≡ None
none_found bank found text told none = sym told ∙ ap (option_map (text_at bank)) none

-- where no other test refuses, the room decides
pub only_room : (h : History) (name : Name) (formals : List Name) (body : Term) (measures : List model.Measure) → is_in_use name h ≡ false → first_constant formals ≡ None → first_repeated formals ≡ None
    → first_outside formals (variables_of body) ≡ None → are_good_measures formals measures ≡ true → definition_refusal h name formals body measures ≡ room_refusal h
only_room h name formals body measures unused variables distinct closed measured = rw (unused, variables, distinct, closed, measured) refl

module _ (bank : Content) (history : List Entry) where
  counted : length (events_at bank history) ≡ length (past_ground history)
  counted = length-map (past_ground history) (event_at bank)

  pub no_room : event_limit ≤ length (past_ground history) → room_refusal (events_at bank history) ≡ Some TooManyEvents
  no_room full = ap (λ b. refused_if b TooManyEvents) (ap (nat_le event_limit) counted ∙ le-leb event_limit (length (past_ground history)) full)

  pub has_room : length (past_ground history) < event_limit → room_refusal (events_at bank history) ≡ None
  has_room room = ap (λ b. refused_if b TooManyEvents) (ap (nat_le event_limit) counted ∙ lt-leb event_limit (length (past_ground history)) room)
