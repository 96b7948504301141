use Rattle.std.proofs.Common.{◌∙◌, get_or, sym, ap, subst}
use Rattle.std.specs.Prelude.{All}
use Rattle.std.proofs.lemmas.List.{take_all}
use Rattle.nq_bank.specs.Content.{Content}
use Rattle.nq_bank.proofs.Growth.{Grows-trans, IsNamed-grown, Stands-grown}
use Rattle.nq_bank.proofs.Standing.{All-push}
use Rattle.nq_clause.specs.declared.substitution.Pair.{Pair}
use Rattle.nq_clause.specs.Substitution.{substitution_at}
use Rattle.nq_kernel.proofs.GrowingLemmas.{WorkGrows-refl, WorkGrows-trans}
use Rattle.nq_moves.specs.Exchanging.{exchange_at, ExchangeStands}
use Rattle.nq_moves.specs.Naming.{exchange_by}
use Rattle.nq_moves.proofs.ImageLemmas.{exchange_stands_grown}
use Rattle.nq_moves.proofs.NamingLemmas.{exchange_more, none_exchanged}
use Rattle.nq_moves.proofs.naming.exchange_of_pairs.Goals as goal

pub loop-p-init : goal.loop-p-init
loop-p-init c =
    let w = c.args.work.now in
    record {
      grows = WorkGrows-refl c.args.history.now w c.requires.stands;
      stand = subst (All (ExchangeStands w.bank)) (sym c.new-exchange.ensures.items) (none_exchanged w.bank);
      done = ap (exchange_at w.bank) c.new-exchange.ensures.items;
    }

pub variable_id-requires-clause-name : goal.variable_id-requires-clause-name
variable_id-requires-clause-name c =
    let none : Pair = record { variable = record { 0 = 0 }; term = record { 0 = 0 } } in
    IsNamed-grown c.args.work.now.bank c.loop-p.work.bank (get_or c.args.pairs.now c.loop-p.p-index none).variable c.loop-p.invariant.grows.bank (c.requires.pairs c.loop-p.p-index none c.loop-p-test.true).variable

pub returns-in_err-into-clause-grows : goal.returns-in_err-into-clause-grows
returns-in_err-into-clause-grows c = WorkGrows-trans c.args.history.now c.args.work.now c.loop-p.work c.variable_id.new.work c.loop-p.invariant.grows c.variable_id.ensures.grows

pub returns-in_err-push_exchanging-clause-grows : goal.returns-in_err-push_exchanging-clause-grows
returns-in_err-push_exchanging-clause-grows c = WorkGrows-trans c.args.history.now c.args.work.now c.loop-p.work c.variable_id.new.work c.loop-p.invariant.grows c.variable_id.ensures.grows

pub loop-p-preserved : goal.loop-p-preserved
loop-p-preserved c =
    let none : Pair = record { variable = record { 0 = 0 }; term = record { 0 = 0 } } in
    let old : Content = c.args.work.now.bank in
    let mid : Content = c.loop-p.work.bank in
    let new : Content = c.variable_id.new.work.bank in
    let before = c.loop-p.invariant.grows.bank in
    let after = c.variable_id.ensures.grows.bank in
    let p : Pair = get_or c.args.pairs.now c.loop-p.p-index none in
    let here = c.requires.pairs c.loop-p.p-index none c.loop-p-test.true in
    record {
      grows = WorkGrows-trans c.args.history.now c.args.work.now c.loop-p.work c.variable_id.new.work c.loop-p.invariant.grows c.variable_id.ensures.grows;
      stand =
          subst (All (ExchangeStands new)) (sym c.in_ok-push_exchanging.ensures.kept)
          (All-push (ExchangeStands new) c.loop-p.exchange.items (record { from = p.term; into = c.in_ok-into.into }) (exchange_stands_grown mid new c.loop-p.exchange.items after c.loop-p.invariant.stand)
          (record { from = Stands-grown old new p.term (Grows-trans old mid new before after) here.term; into = c.in_ok-into.ensures.term.stands }));
      done =
          ap (exchange_at new) c.in_ok-push_exchanging.ensures.kept ∙
          exchange_more old mid new c.args.pairs.now c.loop-p.exchange.items c.loop-p.p-index none c.in_ok-into.into before after c.requires.pairs c.loop-p.invariant.stand c.loop-p-test.true c.loop-p.invariant.done c.in_ok-into.ensures.term;
    }

pub returns-clause-exchange : goal.returns-clause-exchange
returns-clause-exchange c = c.loop-p.invariant.done ∙ ap (λ ps. exchange_by (substitution_at c.args.work.now.bank ps)) (take_all c.loop-p.p-index c.args.pairs.now c.loop-p-test.false)
