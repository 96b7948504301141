use Rattle.std.proofs.Common.{List, ℕ, map, ap, ◌∙◌}
use Rattle.nq_logic.specs.Terms.{Term}
use Rattle.nq_events.specs.Events as model
use Rattle.nq_clause.specs.Substitution.{PairStands}
use Rattle.nq_event.specs.EventsAt.{pair_at}
use Rattle.nq_event.proofs.GrownLemmas.{pairs_stay, all_keep, map_grown}
use Rattle.nq_event.proofs.instance_terms.instance_with.Goals as goal

pub returns-clause-read : goal.returns-clause-read
returns-clause-read c =
    let mid = c.pairs_in.new.bank in
    let new = c.name.new.self in
    let named = c.in_ok-name.ensures.ok in
    let read = c.in_ok-pairs.ensures.read in
    let pairs = c.in_ok-pairs.pairs.items in
    let by : List ℕ → List (List ℕ × Term) → model.Instance = λ x ps. record { name = x; pairs = ps } in
    record {
      stands = record { name = named.named; pairs = all_keep PairStands pair_at pairs_stay mid new named.grows pairs read.stands };
      unrefused = read.unrefused;
      is = ap (λ x. by x (map (pair_at new) pairs)) named.reads ∙ ap (by c.args.outline.now.name.now) (map_grown PairStands pair_at pairs_stay mid new named.grows pairs read.stands ∙ read.is);
    }
