use Rattle.std.proofs.Common.{◌∷◌, []}
use Rattle.nq_bank.specs.declared.node.TermId.{TermId}
use Rattle.nq_kernel.specs.declared.work.Work.{Work}
use Rattle.nq_kernel.specs.Growing.{WorkGrows}
use Rattle.nq_kernel.proofs.GrowingLemmas.{WorkGrows-trans}
use Rattle.nq_lines.specs.declared.facts.Fact.{Fact}
use Rattle.nq_lines.specs.Lines.{IsTermIn}
use Rattle.nq_lines.proofs.FactLemmas.{own_terms_grown}
use Rattle.nq_lines.proofs.TermLemmas.{term_grown}
use Rattle.nq_instances.specs.Parts.{IsLine}
use Rattle.nq_elim.proofs.ListLemmas.{all_none, all_cons}
use Rattle.nq_arithmetic.proofs.Lemmas.{instance_grown}
use Rattle.nq_tactic.proofs.CircleLemmas.{found_stands}
use Rattle.nq_tactic.proofs.circular.line_of_sizes.Goals as goal

pub size_fact-requires-2-clause-ready : goal.size_fact-requires-2-clause-ready
size_fact-requires-2-clause-ready c = own_terms_grown c.args.history.now c.args.work.now c.size_fact.new.work c.size_fact.ensures.grows c.requires.stands c.requires.ready

pub size_fact-requires-2-clause-size : goal.size_fact-requires-2-clause-size
size_fact-requires-2-clause-size c = term_grown c.args.history.now c.args.work.now c.size_fact.new.work c.args.second c.requires.stands c.size_fact.ensures.grows c.requires.second

pub returns-in_err-two-clause-grows : goal.returns-in_err-two-clause-grows
returns-in_err-two-clause-grows c = WorkGrows-trans c.args.history.now c.args.work.now c.size_fact.new.work c.size_fact-2.new.work c.size_fact.ensures.grows c.size_fact-2.ensures.grows

pub deny-requires-clause-term : goal.deny-requires-clause-term
deny-requires-clause-term c =
    let h = c.args.history.now in
    let w0 : Work = c.args.work.now in
    let w2 : Work = c.size_fact-2.new.work in
    term_grown h w0 w2 c.args.equation c.requires.stands (WorkGrows-trans h w0 c.size_fact.new.work w2 c.size_fact.ensures.grows c.size_fact-2.ensures.grows) c.requires.equation

pub returns-in_err-denied-clause-grows : goal.returns-in_err-denied-clause-grows
returns-in_err-denied-clause-grows c =
    let h = c.args.history.now in
    let w0 : Work = c.args.work.now in
    let w2 : Work = c.size_fact-2.new.work in
    WorkGrows-trans h w0 w2 c.deny.new.work (WorkGrows-trans h w0 c.size_fact.new.work w2 c.size_fact.ensures.grows c.size_fact-2.ensures.grows) c.deny.ensures.grows

pub arithmetic_line-requires-clause-goal : goal.arithmetic_line-requires-clause-goal
arithmetic_line-requires-clause-goal c =
    let P : TermId → Type 0 = IsTermIn c.args.history.now c.deny.new.work in
    all_cons P c.in_ok-denied.denied [] c.in_ok-denied.ensures.over (all_none P)

pub arithmetic_line-requires-clause-told : goal.arithmetic_line-requires-clause-told
arithmetic_line-requires-clause-told c =
    let h = c.args.history.now in
    let w1 : Work = c.size_fact.new.work in
    let w2 : Work = c.size_fact-2.new.work in
    let w3 : Work = c.deny.new.work in
    let P : Fact → Type 0 = IsLine h w3 in
    let g12 : WorkGrows h w1 w2 = c.size_fact-2.ensures.grows in
    let g23 : WorkGrows h w2 w3 = c.deny.ensures.grows in
    let one : P c.in_ok-one.one = instance_grown h w1 w3 c.size_fact.ensures.grows.stands (WorkGrows-trans h w1 w2 w3 g12 g23) c.in_ok-one.one c.in_ok-one.ensures.fact in
    let two : P c.in_ok-two.two = instance_grown h w2 w3 g12.stands g23 c.in_ok-two.two c.in_ok-two.ensures.fact in
    all_cons P c.in_ok-one.one (c.in_ok-two.two ∷ []) one (all_cons P c.in_ok-two.two [] two (all_none P))

pub returns-clause-line : goal.returns-clause-line
returns-clause-line c = found_stands c.arithmetic_line.new.work c.arithmetic_line.result _ c.arithmetic_line.ensures.line

pub returns-clause-grows : goal.returns-clause-grows
returns-clause-grows c =
    let h = c.args.history.now in
    let w0 : Work = c.args.work.now in
    let w2 : Work = c.size_fact-2.new.work in
    let w3 : Work = c.deny.new.work in
    WorkGrows-trans h w0 w3 c.arithmetic_line.new.work (WorkGrows-trans h w0 w2 w3 (WorkGrows-trans h w0 c.size_fact.new.work w2 c.size_fact.ensures.grows c.size_fact-2.ensures.grows) c.deny.ensures.grows) c.arithmetic_line.ensures.grows
