-- The measures of the definitions of a ready history fall, the ground history's with them.
use Rattle.std.proofs.Common.{◌≡◌, zero, List, [], ◌∷◌, ◌++◌, inl, inr}
use Rattle.std.specs.Prelude.{Some}
use Rattle.nq_logic.specs.Terms.{Term, IsTerm, IsAmong, Each}
use Rattle.nq_logic.specs.Histories.{History, Definition, events_definitions}
use Rattle.nq_logic.specs.Ground.{symbols_of, ground_definitions}
use Rattle.nq_logic.specs.Admissible.{calls_of}
use Rattle.nq_logic.proofs.Lists.{each_at, each_mono}
use Rattle.nq_logic.proofs.Additions.{growth_law, takes_grows, all_symbols_grow}
use Rattle.nq_proof.specs.Rows.{opening}
use Rattle.nq_proof.proofs.KeptSymbols.{definitions_over}
use Rattle.nq_kernel.proofs.ReadyLaws.{closed_law}
use Rattle.nq_falls.specs.Falls.{FallsByMeasure, FallsUnder, Falls, GroundDefinitionsFall}
use Rattle.nq_tracer.specs.Falls.{DefinitionsFall}
use Rattle.nq_tracer.proofs.FallLemmas.{falls_from}

-- what falls with no event falls in every history
lasting : (h : History) (d : Definition) (m : Term) → Falls [] d m → Falls h d m
lasting h d m falls = record {
  over = takes_grows (symbols_of []) (symbols_of h) (all_symbols_grow [] h) m zero falls.over;
  of_formals = falls.of_formals;
  body = takes_grows (symbols_of []) (symbols_of h) (all_symbols_grow [] h) d.body zero falls.body;
  ordinal = growth_law [] h _ falls.ordinal;
  falls = each_mono (FallsUnder [] d m) (FallsUnder h d m) (λ c f. growth_law [] h _ f) (calls_of d.function d.body) falls.falls;
}

split_among : (P : Type 0) (x : Definition) (xs ys : List Definition) → (IsAmong x xs → P) → (IsAmong x ys → P) → IsAmong x (xs ++ ys) → P
split_among P x [] ys f g m = g m
split_among P x (z ∷ xs) ys f g (inl e) = f (inl e)
split_among P x (z ∷ xs) ys f g (inr m) = split_among P x xs ys (λ i. f (inr i)) g m

pub definitions_fall_law : GroundDefinitionsFall → DefinitionsFall
definitions_fall_law ground h d m ready among is =
    let body = (each_at (λ (d : Definition). Each (IsTerm (symbols_of h)) (opening d)) d (ground_definitions ++ events_definitions h) (definitions_over h (closed_law h ready)) among).0.1 in
    split_among (Falls h d m) d ground_definitions (events_definitions h)
    (λ i. lasting h d m (each_at FallsByMeasure d ground_definitions ground i m is))
    (λ i. each_at (λ (d : Definition). (m : Term) → d.measure ≡ Some m → IsTerm (symbols_of h) d.body → Falls h d m) d (events_definitions h) (falls_from [] h ready) i m is body)
    among
