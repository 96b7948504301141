use Rattle.std.proofs.Common.{◌∙◌}
use Rattle.nq_bank.specs.Content.{Content, Grows}
use Rattle.nq_bank.proofs.Growth.{Grows-trans}
use Rattle.nq_clause.specs.declared.binding.Binding.{Binding}
use Rattle.nq_clause.specs.declared.binding.Bound.TheVariants.{Term as Other}
use Rattle.nq_quick.proofs.EventLemmas.{pairs_more, pairs_stand_more}
use Rattle.nq_quick.proofs.instance_lines.pairs_of.Goals as goal

pub loop-b-preserved : goal.loop-b-preserved
loop-b-preserved c =
    let old : Content = c.args.bank.now in
    let bank : Content = c.loop-b.bank in
    let new : Content = c.id_of_bound.new.bank in
    let d : Binding = record { variable = record { 0 = 0 }; bound = Other (record { 0 = 0 }) } in
    let both : Grows old new = Grows-trans old bank new c.loop-b.invariant.grows c.id_of_bound.ensures.grows in
    record {
      grows = both;
      names = c.id_of_bound.ensures.names ∙ c.loop-b.invariant.names;
      pairs = pairs_more old bank new c.args.bindings.now c.loop-b.b-index d c.loop-b.invariant.grows c.id_of_bound.ensures.grows c.loop-b-test.true c.requires c.loop-b.pairs.items c.push.new.self.items c.in_ok-term.term c.in_ok-push.ensures.items c.loop-b.invariant.stand c.in_ok-term.ensures.term both c.loop-b.invariant.pairs;
      stand = pairs_stand_more old bank new c.args.bindings.now c.loop-b.b-index d c.loop-b.invariant.grows c.id_of_bound.ensures.grows c.loop-b-test.true c.requires c.loop-b.pairs.items c.push.new.self.items c.in_ok-term.term c.in_ok-push.ensures.items c.loop-b.invariant.stand c.in_ok-term.ensures.term both;
    }
