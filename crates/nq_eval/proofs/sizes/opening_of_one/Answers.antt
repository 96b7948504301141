use Rattle.std.proofs.Common.{List, subst}
use Rattle.nq_history.specs.declared.entry.Entry.{Entry}
use Rattle.nq_kernel.specs.declared.work.Work.{Work}
use Rattle.nq_kernel.specs.Growing.{WorkStands}
use Rattle.nq_eval.proofs.LineLemmas.{grown_refl}
use Rattle.nq_bank.specs.Content.{term_at}
use Rattle.nq_eval.proofs.ClosingLemmas.{small_value}
use Rattle.nq_eval.specs.Objects.{IsObject}
use Rattle.nq_eval.proofs.SizeLemmas.{truth_unopened, falsity_unopened, atom_made, negative_made, pair_made, no_count_of_number}
use Rattle.nq_eval.proofs.sizes.opening_of_one.Goals as goal

pub returns-in-True-clause-opening : goal.returns-in-True-clause-opening
returns-in-True-clause-opening c =
    let w0 : Work = c.args.work.now in
    truth_unopened c.args.work.now.bank c.args.history.now c.args.u c.args.v c.requires.count (subst (λ o. IsObject w0.bank o (term_at w0.bank c.args.v)) c.in-True.is c.object_of.ensures)

pub returns-in-False-clause-opening : goal.returns-in-False-clause-opening
returns-in-False-clause-opening c =
    let w0 : Work = c.args.work.now in
    falsity_unopened c.args.work.now.bank c.args.history.now c.args.u c.args.v c.requires.count (subst (λ o. IsObject w0.bank o (term_at w0.bank c.args.v)) c.in-False.is c.object_of.ensures)

pub returns-in-True-clause-grows : goal.returns-in-True-clause-grows
returns-in-True-clause-grows c =
    let h : List Entry = c.args.history.now in
    let w0 : Work = c.args.work.now in
    let s0 : WorkStands h w0 = c.requires.stands in
    grown_refl h w0 s0

pub returns-in-False-clause-grows : goal.returns-in-False-clause-grows
returns-in-False-clause-grows c =
    let h : List Entry = c.args.history.now in
    let w0 : Work = c.args.work.now in
    let s0 : WorkStands h w0 = c.requires.stands in
    grown_refl h w0 s0

pub unreachable-requires : goal.unreachable-requires
unreachable-requires c =
    let w0 : Work = c.args.work.now in
    let o = (subst (λ o. IsObject w0.bank o (term_at w0.bank c.args.v)) c.in-Number.is c.object_of.ensures) in
    no_count_of_number c.args.work.now.bank c.args.history.now c.args.u c.args.v c.requires.count c.in-Number.field-0 o.0 o.1

pub pair_opening-requires-clause-call : goal.pair_opening-requires-clause-call
pair_opening-requires-clause-call c =
    let w0 : Work = c.args.work.now in
    let o = (subst (λ o. IsObject w0.bank o (term_at w0.bank c.args.v)) c.in-Pair.is c.object_of.ensures) in
    pair_made c.args.work.now.bank c.args.history.now c.args.u c.args.v c.requires.count c.in-Pair.a c.in-Pair.b o.0 o.1 o.2

pub atom_opening-requires-clause-call : goal.atom_opening-requires-clause-call
atom_opening-requires-clause-call c =
    let w0 : Work = c.args.work.now in
    let o = (subst (λ o. IsObject w0.bank o (term_at w0.bank c.args.v)) c.in-Atom.is c.object_of.ensures) in
    atom_made c.args.work.now.bank c.args.history.now c.args.u c.args.v c.requires.count c.in-Atom.a o.0 o.1

pub negative_opening-requires-clause-call : goal.negative_opening-requires-clause-call
negative_opening-requires-clause-call c =
    let w0 : Work = c.args.work.now in
    let o = (subst (λ o. IsObject w0.bank o (term_at w0.bank c.args.v)) c.in-Negative.is c.object_of.ensures) in
    negative_made c.args.work.now.bank c.args.history.now c.args.u c.args.v c.requires.count c.in-Negative.a o.0 o.1

pub object_of-requires-clause-value : goal.object_of-requires-clause-value
object_of-requires-clause-value c = small_value (term_at c.args.work.now.bank c.args.v) c.requires.count.small
