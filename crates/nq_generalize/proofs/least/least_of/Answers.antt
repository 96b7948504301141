use Rattle.std.proofs.Common.{sym, subst}
use Rattle.std.specs.Prelude.{All}
use Rattle.nq_bank.specs.declared.node.TermId.{TermId}
use Rattle.nq_bank.specs.Content.{Stands}
use Rattle.nq_rule.proofs.ClauseLemmas.{stand-pushed}
use Rattle.nq_generalize.proofs.LeastLemmas.{first_kept, least_all, least_more, one_stands, some_first, some_more}
use Rattle.nq_generalize.proofs.least.least_of.Goals as goal

pub loop-t-init : goal.loop-t-init
loop-t-init c =
    let bank = c.args.bank.now in
    record {
      within = first_kept bank c.in_ok-kept.kept.items c.args.others.now c.args.first c.in_ok-kept.ensures.ok;
      some = some_first c.in_ok-kept.kept.items c.args.first c.in_ok-kept.ensures.ok;
      stand = subst (All (Stands bank)) (sym c.in_ok-kept.ensures.ok) (one_stands bank c.args.first c.requires.first);
    }

pub loop-t-preserved : goal.loop-t-preserved
loop-t-preserved c =
    let none : TermId = record { 0 = 0 } in
    let bank = c.args.bank.now in
    record {
      within = least_more bank c.loop-t.kept.items c.keep_unless.new.kept.items c.args.others.now c.args.first c.loop-t.t-index none c.in_ok-held.held c.loop-t-test.true c.loop-t.invariant.within c.in_ok-keep_unless.ensures.kept;
      some = some_more c.loop-t.kept.items c.keep_unless.new.kept.items _ c.in_ok-held.held c.loop-t.invariant.some c.in_ok-keep_unless.ensures.kept;
      stand = stand-pushed bank c.loop-t.kept.items c.keep_unless.new.kept.items _ _ c.loop-t.invariant.stand (c.requires.others c.loop-t.t-index none c.loop-t-test.true) c.in_ok-keep_unless.ensures.kept;
    }

pub returns-clause-within : goal.returns-clause-within
returns-clause-within c = least_all c.args.bank.now c.loop-t.kept.items c.args.others.now c.args.first c.loop-t.t-index c.loop-t-test.false c.loop-t.invariant.within
