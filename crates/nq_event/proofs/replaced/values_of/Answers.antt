use Rattle.std.proofs.Common.{[], ◌∷◌, get_or, map, take, sym, ap, ◌∙◌}
use Rattle.std.proofs.lemmas.List.{map-append, map_more}
use Rattle.nq_logic.specs.Terms.{value_at}
use Rattle.nq_bank.specs.declared.node.Sym.{Sym}
use Rattle.nq_bank.specs.Content.{Stands, term_at, text_at}
use Rattle.nq_bank.specs.Shells.{texts_at}
use Rattle.nq_bank.proofs.Growth.{Grows-trans, text_at-grown}
use Rattle.nq_clause.specs.Substitution.{PairStands}
use Rattle.nq_event.specs.EventsAt.{pair_at}
use Rattle.nq_event.proofs.GrownLemmas.{pairs_stay, terms_stay, all_keep, all_more, map_grown, map_pushed}
use Rattle.nq_event.proofs.replaced.values_of.Goals as goal

pub loop-formal-preserved : goal.loop-formal-preserved
loop-formal-preserved c =
    let start = c.args.bank.now in
    let bank = c.loop-formal.bank in
    let new = c.value_of.new.bank in
    let pairs = c.args.pairs.now in
    let formals = c.args.formals.now in
    let at = c.loop-formal.formal-index in
    let xs = c.loop-formal.values.items in
    let grows = c.value_of.ensures.grows in
    let given = c.in_ok-value.ensures.value in
    let push = c.in_ok-push.ensures.items in
    let formal : Sym = get_or formals at (record { 0 = 0 }) in
    let named = c.requires.formals at (record { 0 = 0 }) c.loop-formal-test.true in
    let values = value_at (map (pair_at start) pairs) in
    let pairs_same = map_grown PairStands pair_at pairs_stay start bank c.loop-formal.invariant.grows pairs c.requires.pairs in
    let text_same = text_at-grown start bank formal c.loop-formal.invariant.grows named in
    let meant = given.denotes ∙ ap (λ z. value_at z (text_at bank formal)) pairs_same ∙ ap values text_same in
    record {
      grows = Grows-trans start bank new c.loop-formal.invariant.grows grows;
      pairs = all_keep PairStands pair_at pairs_stay bank new grows pairs c.loop-formal.invariant.pairs;
      stand = all_more Stands term_at terms_stay bank new grows xs c.push.new.self.items c.in_ok-value.value push c.loop-formal.invariant.stand given.stands;
      are =
          map_pushed Stands term_at terms_stay bank new grows xs c.push.new.self.items c.in_ok-value.value (map values (texts_at start (take at formals))) (values (text_at start formal)) push c.loop-formal.invariant.stand c.loop-formal.invariant.are meant
          ∙ sym (ap (map values) (map_more (text_at start) formals at (record { 0 = 0 }) c.loop-formal-test.true) ∙ map-append values (texts_at start (take at formals)) (text_at start formal ∷ []));
    }
