use Rattle.std.proofs.Common.{◌∙◌, take, sym, ap, subst}
use Rattle.nq_logic.specs.Terms.{Term}
use Rattle.nq_bank.specs.declared.node.Sym.{Sym}
use Rattle.nq_bank.specs.Content.{IsIdOf, text_at}
use Rattle.nq_bank.proofs.Growth.{Grows-trans, text_at-grown}
use Rattle.nq_events.specs.Measures.{size_measure}
use Rattle.std.proofs.Common.{get_or}
use Rattle.nq_measures.proofs.TriedLemmas.{made_next, stand_next, map_twice}
use Rattle.nq_measures.proofs.tried.all_sizes.Goals as goal

pub loop-formal-preserved : goal.loop-formal-preserved
loop-formal-preserved c =
    let old = c.args.bank.now in
    let mid = c.loop-formal.bank in
    let new = c.size_of.new.bank in
    let d : Sym = record { 0 = 0 } in
    let x : Sym = get_or c.args.formals.now c.loop-formal.formal-index d in
    let size : Sym → Term = λ s. size_measure (text_at old s) in
    let is : IsIdOf new c.in_ok-t.t (size x) = subst (λ (t : Term). IsIdOf new c.in_ok-t.t t) (ap size_measure (text_at-grown old mid x c.loop-formal.invariant.grows (c.requires.named c.loop-formal.formal-index d c.loop-formal-test.true))) c.in_ok-t.ensures.size in
    record {
      grows = Grows-trans old mid new c.loop-formal.invariant.grows c.size_of.ensures.grows;
      names = c.size_of.ensures.names ∙ c.loop-formal.invariant.names;
      terms = made_next size c.args.formals.now c.loop-formal.formal-index d mid new c.loop-formal.tried.items c.push.new.self.items c.in_ok-t.t c.size_of.ensures.grows c.loop-formal-test.true c.loop-formal.invariant.stand c.in_ok-push.ensures.items is (c.loop-formal.invariant.terms ∙ map_twice size_measure (text_at old) (take c.loop-formal.formal-index c.args.formals.now)) ∙ sym (map_twice size_measure (text_at old) _);
      stand = stand_next size c.args.formals.now c.loop-formal.formal-index d mid new c.loop-formal.tried.items c.push.new.self.items c.in_ok-t.t c.size_of.ensures.grows c.loop-formal-test.true c.loop-formal.invariant.stand c.in_ok-push.ensures.items is;
    }
