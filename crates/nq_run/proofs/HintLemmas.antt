-- Hints that a log can spell, over a bank.
use Rattle.std.proofs.Common.{List, [], ◌∷◌}
use Rattle.std.specs.Prelude.{All, IfSome, None, Option, Some, map}
use Rattle.std.specs.Option.{option_map}
use Rattle.nq_logic.specs.Terms.{Each}
use Rattle.nq_logic.specs.Ground.{symbols_of}
use Rattle.nq_bank.specs.declared.node.TermId.{TermId}
use Rattle.nq_bank.specs.Content.{Content, term_at}
use Rattle.nq_history.specs.declared.entry.Entry.{Entry}
use Rattle.nq_history.specs.declared.hints.Hints.{Hints}
use Rattle.nq_history.specs.Events.{events_at}
use Rattle.nq_history.proofs.Lists.{All-cons, All-none}
use Rattle.nq_kernel.specs.Hints.{HintsAreIn, PairIsIn}
use Rattle.nq_kernel.specs.Over.{IsTermOf, IsVariable, TermIsIn}
use Rattle.nq_event.specs.EventsAt.{hints_at, instance_at, pair_at}
use Rattle.nq_spelling.specs.SpelledEvents.{AreSpelledHints}

-- over a list, where what it is mapped to is so
pub each_all : {X Y : Type 0} (f : X → Y) (P : Y → Type 0) (Q : X → Type 0) → ((x : X) → P (f x) → Q x) → (xs : List X) → Each P (map f xs) → All Q xs
each_all f P Q so [] each = All-none Q
each_all f P Q so (x ∷ xs) each = All-cons Q x xs (so x each.0) (each_all f P Q so xs each.1)

some_in : (bank : Content) (history : List Entry) (o : Option TermId) → IfSome (option_map (term_at bank) o) (IsTermOf IsVariable (symbols_of (events_at bank history))) → IfSome o (λ t. TermIsIn bank history t)
some_in bank history None is = tt
some_in bank history (Some t) is = is

-- the terms of hints that a log can spell are over the functions of the history
pub hints_in : (bank : Content) (history : List Entry) (hints : Hints) → AreSpelledHints (events_at bank history) (hints_at bank hints) → HintsAreIn bank history hints
hints_in bank history hints spelled = record {
  instances = each_all (instance_at bank) (λ i. Each (λ p. IsVariable p.0 × IsTermOf IsVariable (symbols_of (events_at bank history)) p.1) i.pairs) (λ i. All (PairIsIn bank history) i.pairs.items)
      (λ i pairs. each_all (pair_at bank) (λ p. IsVariable p.0 × IsTermOf IsVariable (symbols_of (events_at bank history)) p.1) (PairIsIn bank history)
      (λ p both. record { variable = both.0; term = both.1 }) i.pairs.items pairs) hints.instances.items spelled.instances;
  expand = each_all (term_at bank) (IsTermOf IsVariable (symbols_of (events_at bank history))) (TermIsIn bank history) (λ t is. is) hints.expand.items spelled.expand;
  induct = some_in bank history hints.induct spelled.induct;
}
