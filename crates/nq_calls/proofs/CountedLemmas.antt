-- The obligations of the counted calls are those of the calls.
use Rattle.std.proofs.Common.{◌≡◌, List, [], ◌∷◌, map, refl, ap}
use Rattle.nq_logic.specs.Terms.{Name, Term}
use Rattle.nq_logic.specs.Admissible.{Call, calls_of, obligation}
use Rattle.nq_calls.specs.Calls.{beneath, counted_calls}
use Rattle.nq_calls.specs.Falls.{obligation_at}

each_counted : (f : Name) (xs : List Name) (m : Term) (calls : List Call) → map (obligation_at xs m) (beneath f [] calls) ≡ map (λ c. obligation f xs m c.tests c.arguments) calls
each_counted f xs m [] = refl
each_counted f xs m (c ∷ calls) = ap (λ (l : List (List Term)). obligation f xs m c.tests c.arguments ∷ l) (each_counted f xs m calls)

pub counted_obligations : (f : Name) (xs : List Name) (m body : Term) → map (obligation_at xs m) (counted_calls f body) ≡ map (λ c. obligation f xs m c.tests c.arguments) (calls_of f body)
counted_obligations f xs m body = each_counted f xs m (calls_of f body)
