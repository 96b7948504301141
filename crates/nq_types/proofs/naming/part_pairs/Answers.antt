use Rattle.std.proofs.Common.{refl, ◌∙◌, ◌≡◌, ◌≤◌, ◌^◌, [], length, sym, ap, subst, arith}
use Rattle.std.specs.Prelude.{All}
use Rattle.std.proofs.lemmas.List.{take_all}
use Rattle.nq_bank.specs.declared.node.TermId.{TermId}
use Rattle.nq_bank.specs.Content.{NamesText, terms_at}
use Rattle.nq_clause.specs.Substitution.{substitution_at, PairStands}
use Rattle.nq_kernel.specs.declared.work.Work.{Work}
use Rattle.nq_kernel.proofs.GrowingLemmas.{WorkGrows-refl, WorkGrows-trans}
use Rattle.nq_types.specs.Parts.{part_name, part_bindings}
use Rattle.nq_types.proofs.PartLemmas.{pairs_more, stand_more, parts_paired}
use Rattle.nq_types.proofs.naming.part_pairs.Goals as goal

pub loop-t-init : goal.loop-t-init
loop-t-init c =
    let none : c.new-pairs.result.items ≡ [] = c.new-pairs.ensures.items in
    record {
      grows = WorkGrows-refl c.args.history.now c.args.work.now c.requires.stands;
      count = refl;
      pairs = ap (substitution_at c.args.work.now.bank) none;
      stand = subst (All (PairStands c.args.work.now.bank)) (sym none) (λ k d below. absurd (omega arith));
    }

pub loop-t-preserved : goal.loop-t-preserved
loop-t-preserved c =
    let h = c.args.history.now in
    let old : Work = c.args.work.now in
    let one : Work = c.loop-t.work in
    let new : Work = c.part_name.new.work in
    let d : TermId = record { 0 = 0 } in
    let name : NamesText new.bank c.in_ok-variable.variable (part_name c.loop-t.t-index) = subst (λ n. NamesText new.bank c.in_ok-variable.variable (part_name n)) c.loop-t.invariant.count c.in_ok-variable.ensures.name in
    record {
      grows = WorkGrows-trans h old one new c.loop-t.invariant.grows c.part_name.ensures.grows;
      count = omega (arith, c.loop-t.invariant.count);
      pairs = pairs_more h old one new c.loop-t.invariant.grows c.part_name.ensures.grows c.args.arguments.now c.loop-t.t-index d c.loop-t-test.true c.requires.arguments c.loop-t.pairs.items c.add_pair.new.pairs.items c.in_ok-variable.variable c.in_ok-add_pair.ensures.ok name c.loop-t.invariant.stand c.requires.stands c.loop-t.invariant.pairs;
      stand = stand_more h old one new c.loop-t.invariant.grows c.part_name.ensures.grows c.args.arguments.now c.loop-t.t-index d c.loop-t-test.true c.requires.arguments c.loop-t.pairs.items c.add_pair.new.pairs.items c.in_ok-variable.variable c.in_ok-add_pair.ensures.ok name c.loop-t.invariant.stand c.requires.stands;
    }

pub returns-in_err-variable-clause-grows : goal.returns-in_err-variable-clause-grows
returns-in_err-variable-clause-grows c = WorkGrows-trans c.args.history.now c.args.work.now c.loop-t.work c.part_name.new.work c.loop-t.invariant.grows c.part_name.ensures.grows

pub returns-in_err-add_pair-clause-grows : goal.returns-in_err-add_pair-clause-grows
returns-in_err-add_pair-clause-grows c = WorkGrows-trans c.args.history.now c.args.work.now c.loop-t.work c.part_name.new.work c.loop-t.invariant.grows c.part_name.ensures.grows

pub returns-clause-over : goal.returns-clause-over
returns-clause-over c =
    let h = c.args.history.now in
    let old : Work = c.args.work.now in
    let ids = c.args.arguments.now in
    let room : length ids ≤ 2 ^ 64 = omega (arith, c.loop-t.auto.place-fits, c.loop-t.invariant.count, c.loop-t-test.false) in
    parts_paired h old c.loop-t.work ids c.loop-t.pairs.items c.requires.stands c.loop-t.invariant.grows c.requires.arguments room
    (c.loop-t.invariant.pairs ∙ ap (λ xs. part_bindings 0 (terms_at old.bank xs)) (take_all c.loop-t.t-index ids c.loop-t-test.false)) c.loop-t.invariant.stand
