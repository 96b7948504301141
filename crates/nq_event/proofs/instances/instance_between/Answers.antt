use Rattle.std.proofs.Common.{List, ℕ, ap, ◌∙◌}
use Rattle.std.specs.Prelude.{Option, Some}
use Rattle.nq_events.specs.Parts.{each}
use Rattle.nq_events.specs.WrittenHints.{pair_in, instance_by}
use Rattle.nq_event.specs.Reads.{forms_of}
use Rattle.nq_event.specs.Hints.{no_pair}
use Rattle.nq_event.proofs.ReadLemmas.{all_read, not_all_read}
use Rattle.nq_event.proofs.instances.instance_between.Goals as goal

pub returns-then-are_pairs : goal.returns-then-are_pairs
returns-then-are_pairs c =
    ap (instance_by (Some c.in_ok-name.name.now)) (all_read pair_in no_pair c.args.pairs.now c.are_pairs.result c.are_pairs.ensures c.if-are_pairs.true)
    ∙ ap (λ (o : Option (List ℕ)). instance_by o (each pair_in (forms_of c.args.pairs.now))) c.in_ok-name.ensures

pub returns-else-are_pairs : goal.returns-else-are_pairs
returns-else-are_pairs c =
    ap (instance_by (Some c.in_ok-name.name.now)) (not_all_read pair_in c.args.pairs.now c.are_pairs.result c.are_pairs.ensures c.if-are_pairs.false)
    ∙ ap (λ (o : Option (List ℕ)). instance_by o (each pair_in (forms_of c.args.pairs.now))) c.in_ok-name.ensures
