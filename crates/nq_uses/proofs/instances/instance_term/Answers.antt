use Rattle.std.proofs.Common.{◌≡◌, ◌∙◌, map, ap, sym}
use Rattle.std.specs.Prelude.{Some}
use Rattle.std.specs.Option.{option_and_then, option_map}
use Rattle.nq_logic.specs.Terms.{Term, Substitution, substituted}
use Rattle.nq_bank.specs.Content.{term_at, text_at}
use Rattle.nq_clause.specs.Substitution.{PairStands, substitution_at}
use Rattle.nq_history.specs.Events.{events_at}
use Rattle.nq_events.specs.HintRefusals.{term_named}
use Rattle.nq_event.specs.EventsAt.{pair_at}
use Rattle.nq_event.proofs.GrownLemmas.{map_grown, pairs_stay}
use Rattle.nq_uses.proofs.instances.instance_term.Goals as goal

pub returns-in_ok-r-in-Some-clause-is : goal.returns-in_ok-r-in-Some-clause-is
returns-in_ok-r-in-Some-clause-is c =
    let start = c.args.bank.now in
    let middle = c.named.new.bank in
    let pairs = c.args.instance.now.pairs.items in
    let u = term_at middle c.in-Some.t in
    let named : term_named (events_at start c.args.history.now) (text_at start c.args.instance.now.name) ≡ Some u = sym c.in_ok-t.ensures.is ∙ ap (option_map (term_at middle)) c.in-Some.is in
    let same : substitution_at middle c.as_slice.result.now ≡ map (pair_at start) pairs =
    ap (substitution_at middle) c.as_slice.ensures.value ∙ map_grown PairStands pair_at pairs_stay start middle c.named.ensures.grows pairs c.requires.instance.pairs in
    ap (λ (t : Term). Some t) (c.in_ok-r-in-Some.ensures.ok.denotes ∙ ap (λ (s : Substitution). substituted s u) same)
    ∙ sym (ap (option_and_then (λ (t : Term). Some (substituted (map (pair_at start) pairs) t))) named)
