use Rattle.std.proofs.Common.{◌∙◌, map, get_or, sym, ap, subst}
use Rattle.std.specs.Prelude.{All}
use Rattle.std.proofs.lemmas.List.{take_all}
use Rattle.nq_logic.specs.Terms.{Variable}
use Rattle.nq_bank.specs.Content.{Stands, terms_at}
use Rattle.nq_bank.proofs.Growth.{IsNamed-grown}
use Rattle.nq_bank.proofs.Standing.{All-push, stand_grown}
use Rattle.nq_clause.specs.declared.substitution.Pair.{Pair}
use Rattle.nq_clause.specs.Substitution.{substitution_at}
use Rattle.nq_kernel.specs.Over.{pair_names}
use Rattle.nq_kernel.proofs.GrowingLemmas.{WorkGrows-refl, WorkGrows-trans}
use Rattle.nq_eliminate.proofs.NamingLemmas.{no_ids, pair_put, variables_over}
use Rattle.nq_eliminate.proofs.naming.variables_of_pairs.Goals as goal

pub loop-p-init : goal.loop-p-init
loop-p-init c =
    let w = c.args.work.now in
    record {
      grows = WorkGrows-refl c.args.history.now w c.requires.stands;
      stand = subst (All (Stands w.bank)) (sym c.new-ids.ensures.items) (no_ids (Stands w.bank));
      are = ap (terms_at w.bank) c.new-ids.ensures.items;
    }

pub variable_id-requires-clause-name : goal.variable_id-requires-clause-name
variable_id-requires-clause-name c =
    let none : Pair = record { variable = record { 0 = 0 }; term = record { 0 = 0 } } in
    IsNamed-grown c.args.work.now.bank c.loop-p.work.bank (get_or c.args.pairs.now c.loop-p.p-index none).variable c.loop-p.invariant.grows.bank (c.requires.pairs.stand c.loop-p.p-index none c.loop-p-test.true).variable

pub returns-in_err-id-clause-grows : goal.returns-in_err-id-clause-grows
returns-in_err-id-clause-grows c = WorkGrows-trans c.args.history.now c.args.work.now c.loop-p.work c.variable_id.new.work c.loop-p.invariant.grows c.variable_id.ensures.grows

pub returns-in_err-push_id-clause-grows : goal.returns-in_err-push_id-clause-grows
returns-in_err-push_id-clause-grows c = WorkGrows-trans c.args.history.now c.args.work.now c.loop-p.work c.variable_id.new.work c.loop-p.invariant.grows c.variable_id.ensures.grows

pub loop-p-preserved : goal.loop-p-preserved
loop-p-preserved c =
    let none : Pair = record { variable = record { 0 = 0 }; term = record { 0 = 0 } } in
    let old = c.args.work.now.bank in
    let mid = c.loop-p.work.bank in
    let new = c.variable_id.new.work.bank in
    let p : Pair = get_or c.args.pairs.now c.loop-p.p-index none in
    record {
      grows = WorkGrows-trans c.args.history.now c.args.work.now c.loop-p.work c.variable_id.new.work c.loop-p.invariant.grows c.variable_id.ensures.grows;
      stand = subst (All (Stands new)) (sym c.in_ok-push_id.ensures.ok) (All-push (Stands new) c.loop-p.ids.items c.in_ok-id.id (stand_grown mid new c.loop-p.ids.items c.variable_id.ensures.grows.bank c.loop-p.invariant.stand) c.in_ok-id.ensures.term.stands);
      are = ap (terms_at new) c.in_ok-push_id.ensures.ok ∙ pair_put old mid new c.args.pairs.now c.loop-p.ids.items c.loop-p.p-index none c.in_ok-id.id c.loop-p.invariant.grows.bank c.variable_id.ensures.grows.bank c.requires.pairs.stand c.loop-p-test.true c.loop-p.invariant.stand c.loop-p.invariant.are c.in_ok-id.ensures.term.denotes;
    }

pub returns-clause-are : goal.returns-clause-are
returns-clause-are c = c.loop-p.invariant.are ∙ ap (λ ps. map Variable (pair_names (substitution_at c.args.work.now.bank ps))) (take_all c.loop-p.p-index c.args.pairs.now c.loop-p-test.false)

pub returns-clause-over : goal.returns-clause-over
returns-clause-over c =
    let w = c.args.work.now in
    variables_over c.args.history.now c.loop-p.work c.loop-p.ids.items (pair_names (substitution_at w.bank c.args.pairs.now)) c.loop-p.invariant.stand
    (c.loop-p.invariant.are ∙ ap (λ ps. map Variable (pair_names (substitution_at w.bank ps))) (take_all c.loop-p.p-index c.args.pairs.now c.loop-p-test.false)) c.requires.pairs.names
