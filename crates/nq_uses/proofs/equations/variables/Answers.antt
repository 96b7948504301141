use Rattle.std.proofs.Common.{[], ◌∷◌, get_or, map, take, sym, ap, ◌∙◌}
use Rattle.std.proofs.lemmas.List.{map-append, map_more}
use Rattle.nq_logic.specs.Terms.{Variable}
use Rattle.nq_bank.specs.declared.node.Sym.{Sym}
use Rattle.nq_bank.specs.Content.{Stands, term_at, text_at}
use Rattle.nq_bank.specs.Shells.{texts_at}
use Rattle.nq_bank.proofs.Growth.{Grows-trans, IsNamed-grown, text_at-grown}
use Rattle.nq_event.proofs.GrownLemmas.{terms_stay, all_more, map_pushed}
use Rattle.nq_uses.proofs.equations.variables.Goals as goal

pub var-requires : goal.var-requires
var-requires c =
    let name : Sym = get_or c.args.names.now c.loop-name.name-index (record { 0 = 0 }) in
    IsNamed-grown c.args.bank.now c.loop-name.bank name c.loop-name.invariant.grows (c.requires c.loop-name.name-index (record { 0 = 0 }) c.loop-name-test.true)

pub loop-name-preserved : goal.loop-name-preserved
loop-name-preserved c =
    let start = c.args.bank.now in
    let bank = c.loop-name.bank in
    let new = c.var.new.self in
    let names = c.args.names.now in
    let at = c.loop-name.name-index in
    let xs = c.loop-name.ids.items in
    let name : Sym = get_or names at (record { 0 = 0 }) in
    let named = c.requires at (record { 0 = 0 }) c.loop-name-test.true in
    let given = c.in_ok-id.ensures.ok in
    let push = c.in_ok-push.ensures.items in
    let meant = given.id.denotes ∙ ap Variable (text_at-grown start bank name c.loop-name.invariant.grows named) in
    record {
      grows = Grows-trans start bank new c.loop-name.invariant.grows given.grows;
      names = given.names ∙ c.loop-name.invariant.names;
      stand = all_more Stands term_at terms_stay bank new given.grows xs c.push.new.self.items c.in_ok-id.id push c.loop-name.invariant.stand given.id.stands;
      are =
          map_pushed Stands term_at terms_stay bank new given.grows xs c.push.new.self.items c.in_ok-id.id (map Variable (texts_at start (take at names))) (Variable (text_at start name)) push c.loop-name.invariant.stand c.loop-name.invariant.are meant
          ∙ sym (ap (map Variable) (map_more (text_at start) names at (record { 0 = 0 }) c.loop-name-test.true) ∙ map-append Variable (texts_at start (take at names)) (text_at start name ∷ []));
    }
