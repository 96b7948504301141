use Rattle.std.proofs.Common.{List, ◌≡◌, ◌∙◌, ap}
use Rattle.nq_history.specs.declared.entry.Entry.{Entry}
use Rattle.nq_kernel.specs.declared.work.Work.{Work}
use Rattle.nq_kernel.specs.Growing.{WorkStands}
use Rattle.nq_eval.specs.Lines.{GrowsUncounted}
use Rattle.nq_eval.proofs.LineLemmas.{grown_refl}
use Rattle.std.specs.Prelude.{slice_set}
use Rattle.nq_bank.specs.declared.node.TermId.{TermId}
use Rattle.nq_bank.specs.declared.node.Sym.{Sym}
use Rattle.nq_rule.specs.declared.branching.Branches.{Branches}
use Rattle.nq_eval.specs.Choices.{IsUsableChoice}
use Rattle.nq_eval.proofs.ChoiceLemmas.{choice_reducing, reducing_choice, plain_choice, ok_given}
use Rattle.nq_bank.proofs.Growth.{text_at-grown}
use Rattle.nq_eval.specs.Reducing.{IsReducing}
use Rattle.nq_eval.proofs.choices.put_test.Goals as goal

pub put_value-requires-clause-reducing : goal.put_value-requires-clause-reducing
put_value-requires-clause-reducing c =
    let h : List Entry = c.args.history.now in
    let w0 : Work = c.args.work.now in
    let parts : Branches = c.args.parts in
    let t : TermId = c.args.t in
    let fn : Sym = c.ground_name-f.result in
    let items = c.in_ok-mixed.ensures.items in
    choice_reducing h w0 t fn parts c.in_ok-mixed.mixed.items c.ground_name-f.ensures.stands c.ground_name-f.ensures.reads c.requires.term c.requires.large c.requires.head items

pub returns-in_err-mixed-clause-grows : goal.returns-in_err-mixed-clause-grows
returns-in_err-mixed-clause-grows c =
    let h : List Entry = c.args.history.now in
    let w0 : Work = c.args.work.now in
    let s0 : WorkStands h w0 = c.requires.stands in
    grown_refl h w0 s0

pub returns-clause-choice : goal.returns-clause-choice
returns-clause-choice c =
    let h : List Entry = c.args.history.now in
    let w0 : Work = c.args.work.now in
    let w1 : Work = c.put_value.new.work in
    let d1 : GrowsUncounted h w0 w1 = c.put_value.ensures.grows in
    let parts : Branches = c.args.parts in
    let t : TermId = c.args.t in
    let fn : Sym = c.ground_name-f.result in
    let items = c.in_ok-mixed.ensures.items in
    ok_given c.put_value.result (λ r. IsReducing h w1 t fn c.put_value.new.mixed.items r) (λ r. IsUsableChoice w1.bank h r.term c.args.test.value parts.first parts.second) (c.put_value.new.mixed.items ≡ slice_set c.in_ok-mixed.mixed.items 0 c.args.test.value) c.put_value.ensures.items (λ r e k. reducing_choice h w1 t fn c.args.test.value parts.first parts.second c.put_value.new.mixed.items r (text_at-grown w0.bank w1.bank fn d1.grows.bank c.ground_name-f.ensures.stands ∙ c.ground_name-f.ensures.reads) (e ∙ ap (λ (xs : List TermId). slice_set xs 0 c.args.test.value) items) k) c.put_value.ensures.reducing

pub put_value-requires-clause-plain : goal.put_value-requires-clause-plain
put_value-requires-clause-plain c =
    let w0 : Work = c.args.work.now in
    let parts : Branches = c.args.parts in
    let fn : Sym = c.ground_name-f.result in
    let items = c.in_ok-mixed.ensures.items in
    plain_choice w0.bank fn c.in_ok-mixed.mixed.items parts.test parts.first parts.second items
