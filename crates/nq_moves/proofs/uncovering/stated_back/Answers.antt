use Rattle.std.proofs.Common.{◌∙◌, sym, subst}
use Rattle.std.specs.Prelude.{IfOk}
use Rattle.nq_kernel.proofs.GrowingLemmas.{WorkGrows-trans}
use Rattle.nq_kernel.specs.Growing.{WorkGrows}
use Rattle.nq_lines.specs.Lines.{LineHasOnly}
use Rattle.nq_moves.proofs.EliminatedLemmas.{elimination_grown, literals_same, stated_same, whole_same}
use Rattle.nq_moves.proofs.uncovering.stated_back.Goals as goal

pub names_back-requires-clause-serves : goal.names_back-requires-clause-serves
names_back-requires-clause-serves c = elimination_grown c.args.history.now c.args.work.now c.variable_back.new.work c.requires.stands c.variable_back.ensures.grows c.args.goal.now c.requires.goal c.args.e.now c.requires.serves

pub names_back-requires-clause-line : goal.names_back-requires-clause-line
names_back-requires-clause-line c =
    subst (LineHasOnly c.variable_back.new.work c.in_ok-renamed.renamed)
    (sym (literals_same c.args.history.now c.args.work.now c.variable_back.new.work c.requires.stands c.variable_back.ensures.grows c.args.goal.now c.requires.goal c.args.e.now c.requires.serves)) c.in_ok-renamed.ensures.line

pub returns-in_err-whole-clause-grows : goal.returns-in_err-whole-clause-grows
returns-in_err-whole-clause-grows c = WorkGrows-trans c.args.history.now c.args.work.now c.variable_back.new.work c.names_back.new.work c.variable_back.ensures.grows c.names_back.ensures.grows

pub equation_back-requires-clause-serves : goal.equation_back-requires-clause-serves
equation_back-requires-clause-serves c =
    let h = c.args.history.now in
    let old = c.args.work.now in
    let mid = c.names_back.new.work in
    let up : WorkGrows h old mid = WorkGrows-trans h old c.variable_back.new.work mid c.variable_back.ensures.grows c.names_back.ensures.grows in
    elimination_grown h old mid c.requires.stands up c.args.goal.now c.requires.goal c.args.e.now c.requires.serves

pub equation_back-requires-clause-line : goal.equation_back-requires-clause-line
equation_back-requires-clause-line c =
    let h = c.args.history.now in
    let old = c.args.work.now in
    let mid = c.names_back.new.work in
    let up : WorkGrows h old mid = WorkGrows-trans h old c.variable_back.new.work mid c.variable_back.ensures.grows c.names_back.ensures.grows in
    let first = whole_same h old c.variable_back.new.work c.requires.stands c.variable_back.ensures.grows c.args.goal.now c.requires.goal c.args.e.now c.requires.serves in
    let now = whole_same h old mid c.requires.stands up c.args.goal.now c.requires.goal c.args.e.now c.requires.serves in
    subst (LineHasOnly mid c.in_ok-whole.whole) (first ∙ sym now) c.in_ok-whole.ensures.line

pub returns-clause-line : goal.returns-clause-line
returns-clause-line c =
    let h = c.args.history.now in
    let old = c.args.work.now in
    let mid = c.names_back.new.work in
    let up : WorkGrows h old mid = WorkGrows-trans h old c.variable_back.new.work mid c.variable_back.ensures.grows c.names_back.ensures.grows in
    subst (λ g. IfOk c.equation_back.result (λ n. LineHasOnly c.equation_back.new.work n g)) (stated_same h old mid c.requires.stands up c.args.goal.now c.requires.goal c.args.e.now c.requires.serves) c.equation_back.ensures.line

pub returns-clause-grows : goal.returns-clause-grows
returns-clause-grows c =
    let h = c.args.history.now in
    let old = c.args.work.now in
    let mid = c.names_back.new.work in
    WorkGrows-trans h old mid c.equation_back.new.work (WorkGrows-trans h old c.variable_back.new.work mid c.variable_back.ensures.grows c.names_back.ensures.grows) c.equation_back.ensures.grows
