use Rattle.std.proofs.Common.{◌≡◌, [], sym, ap, subst, arith}
use Rattle.std.specs.Prelude.{All}
use Rattle.nq_clause.specs.Substitution.{substitution_at, PairStands}
use Rattle.nq_clause.specs.declared.binding.Binding.{Binding}
use Rattle.nq_clause.specs.declared.binding.Bound.TheVariants.{Term as Other}
use Rattle.nq_kernel.specs.declared.work.Work.{Work}
use Rattle.nq_kernel.specs.Growing.{WorkGrows}
use Rattle.nq_kernel.proofs.GrowingLemmas.{WorkGrows-refl, WorkGrows-trans}
use Rattle.nq_lines.proofs.MatchLemmas.{next_stands, pairs_more, pairs_stand_more}
use Rattle.nq_lines.proofs.matched.pairs_of.Goals as goal

pub loop-b-preserved : goal.loop-b-preserved
loop-b-preserved c =
    let h = c.args.history.now in
    let old : Work = c.args.work.now in
    let one : Work = c.loop-b.work in
    let new : Work = c.id_of_bound.new.work in
    let d : Binding = record { variable = record { 0 = 0 }; bound = Other (record { 0 = 0 }) } in
    let both : WorkGrows h old new = WorkGrows-trans h old one new c.loop-b.invariant.grows c.id_of_bound.ensures.grows in
    record {
      grows = both;
      pairs = pairs_more old.bank one.bank new.bank c.args.bindings.now c.loop-b.b-index d c.loop-b.invariant.grows.bank c.id_of_bound.ensures.grows.bank c.loop-b-test.true c.requires.bindings c.loop-b.pairs.items c.add_pair.new.pairs.items c.in_ok-term.term c.in_ok-add_pair.ensures.ok c.loop-b.invariant.stand c.in_ok-term.ensures.term both.bank c.loop-b.invariant.pairs;
      stand = pairs_stand_more old.bank one.bank new.bank c.args.bindings.now c.loop-b.b-index d c.loop-b.invariant.grows.bank c.id_of_bound.ensures.grows.bank c.loop-b-test.true c.requires.bindings c.loop-b.pairs.items c.add_pair.new.pairs.items c.in_ok-term.term c.in_ok-add_pair.ensures.ok c.loop-b.invariant.stand c.in_ok-term.ensures.term both.bank;
    }

pub id_of_bound-requires-clause-stands : goal.id_of_bound-requires-clause-stands
id_of_bound-requires-clause-stands c = c.loop-b.invariant.grows.stands

pub id_of_bound-requires-clause-bound : goal.id_of_bound-requires-clause-bound
id_of_bound-requires-clause-bound c =
    let d : Binding = record { variable = record { 0 = 0 }; bound = Other (record { 0 = 0 }) } in
    next_stands c.args.work.now.bank c.loop-b.work.bank c.loop-b.work.bank c.args.bindings.now c.loop-b.b-index d c.loop-b.invariant.grows.bank (WorkGrows-refl c.args.history.now c.loop-b.work c.loop-b.invariant.grows.stands).bank c.loop-b-test.true c.requires.bindings

pub loop-b-init : goal.loop-b-init
loop-b-init c =
    let none : c.new-pairs.result.items ≡ [] = c.new-pairs.ensures.items in
    record {
      grows = WorkGrows-refl c.args.history.now c.args.work.now c.requires.stands;
      pairs = ap (substitution_at c.args.work.now.bank) none;
      stand = subst (All (PairStands c.args.work.now.bank)) (sym none) (λ k d below. absurd (omega arith));
    }

pub returns-in_err-term-clause-grows : goal.returns-in_err-term-clause-grows
returns-in_err-term-clause-grows c = WorkGrows-trans c.args.history.now c.args.work.now c.loop-b.work c.id_of_bound.new.work c.loop-b.invariant.grows c.id_of_bound.ensures.grows

pub returns-in_err-add_pair-clause-grows : goal.returns-in_err-add_pair-clause-grows
returns-in_err-add_pair-clause-grows c = WorkGrows-trans c.args.history.now c.args.work.now c.loop-b.work c.id_of_bound.new.work c.loop-b.invariant.grows c.id_of_bound.ensures.grows
