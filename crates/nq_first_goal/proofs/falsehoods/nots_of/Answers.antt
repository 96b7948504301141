use Rattle.std.proofs.Common.{◌∙◌, [], ◌∷◌, get_or, map, take, sym, ap}
use Rattle.std.proofs.lemmas.List.{map-append, map_more}
use Rattle.nq_logic.specs.Words.{not_term}
use Rattle.nq_bank.specs.declared.node.TermId.{TermId}
use Rattle.nq_bank.specs.Content.{Stands, term_at, terms_at}
use Rattle.nq_bank.proofs.Growth.{Grows-trans, Stands-grown, term_at-grown}
use Rattle.nq_event.proofs.GrownLemmas.{terms_stay, all_more, map_pushed}
use Rattle.nq_first_goal.proofs.falsehoods.nots_of.Goals as goal

pub not_of-requires : goal.not_of-requires
not_of-requires c =
    let t : TermId = get_or c.args.terms.now c.loop-t.t-index (record { 0 = 0 }) in
    Stands-grown c.args.bank.now c.loop-t.bank t c.loop-t.invariant.grows (c.requires c.loop-t.t-index (record { 0 = 0 }) c.loop-t-test.true)

pub loop-t-preserved : goal.loop-t-preserved
loop-t-preserved c =
    let start = c.args.bank.now in
    let bank = c.loop-t.bank in
    let new = c.not_of.new.bank in
    let terms = c.args.terms.now in
    let at = c.loop-t.t-index in
    let ids = c.loop-t.nots.items in
    let t : TermId = get_or terms at (record { 0 = 0 }) in
    let stands = c.requires at (record { 0 = 0 }) c.loop-t-test.true in
    let made = c.in_ok-denied.ensures.not in
    let push = c.in_ok-push.ensures.items in
    let meant = made.denotes ∙ ap not_term (term_at-grown start bank t c.loop-t.invariant.grows stands) in
    record {
      grows = Grows-trans start bank new c.loop-t.invariant.grows c.in_ok-denied.ensures.grows;
      stand = all_more Stands term_at terms_stay bank new c.in_ok-denied.ensures.grows ids c.push.new.self.items c.in_ok-denied.denied push c.loop-t.invariant.stand made.stands;
      are =
          map_pushed Stands term_at terms_stay bank new c.in_ok-denied.ensures.grows ids c.push.new.self.items c.in_ok-denied.denied (map not_term (terms_at start (take at terms))) (not_term (term_at start t)) push c.loop-t.invariant.stand c.loop-t.invariant.are meant
          ∙ sym (ap (map not_term) (map_more (term_at start) terms at (record { 0 = 0 }) c.loop-t-test.true) ∙ map-append not_term (terms_at start (take at terms)) (term_at start t ∷ []));
    }
