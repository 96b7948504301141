use Rattle.std.proofs.Common.{map, length, sym, ap, ◌∙◌}
use Rattle.nq_history.specs.Places.{place_in}
use Rattle.nq_history.proofs.LookupLemmas.{before_place, all_before}
use Rattle.nq_history.proofs.history.History.count_before.Goals as goal

pub returns-in-Some : goal.returns-in-Some
returns-in-Some c =
    let name = c.args.name in
    let names = c.self.invariant.1.events ∙ ap (map (λ e. e.name)) c.self.view_is in
    before_place name c.args.self.now c.in-Some.place (ap (place_in name) (sym names) ∙ sym c.place.ensures ∙ c.in-Some.is)

pub returns-in-None : goal.returns-in-None
returns-in-None c =
    let name = c.args.name in
    let names = c.self.invariant.1.events ∙ ap (map (λ e. e.name)) c.self.view_is in
    c.len.ensures ∙
    c.self.inside.entries.ok.0 ∙
    ap length c.self.view_is ∙
    all_before name c.args.self.now (ap (place_in name) (sym names) ∙ sym c.place.ensures ∙ c.in-None.is)
