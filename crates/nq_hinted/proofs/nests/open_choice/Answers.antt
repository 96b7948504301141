use Rattle.std.proofs.lemmas.Result.{IfOk-weaker}
use Rattle.nq_kernel.specs.Growing.{WorkGrows}
use Rattle.nq_kernel.proofs.GrowingLemmas.{WorkGrows-trans}
use Rattle.nq_lines.proofs.LineLemmas.{line_grown}
use Rattle.nq_lines.proofs.TermLemmas.{term_grown}
use Rattle.nq_hinted.proofs.NestLines.{choice_opened}
use Rattle.nq_hinted.proofs.nests.open_choice.Goals as goal

pub if_true-requires-clause-test : goal.if_true-requires-clause-test
if_true-requires-clause-test c = term_grown c.args.history.now c.args.work.now c.opposites.new.work c.args.parts.test c.requires.stands c.opposites.ensures.grows c.requires.test

pub if_true-requires-clause-first : goal.if_true-requires-clause-first
if_true-requires-clause-first c = term_grown c.args.history.now c.args.work.now c.opposites.new.work c.args.parts.first c.requires.stands c.opposites.ensures.grows c.requires.first

pub if_true-requires-clause-second : goal.if_true-requires-clause-second
if_true-requires-clause-second c = term_grown c.args.history.now c.args.work.now c.opposites.new.work c.args.parts.second c.requires.stands c.opposites.ensures.grows c.requires.second

pub returns-in_err-equation-clause-grows : goal.returns-in_err-equation-clause-grows
returns-in_err-equation-clause-grows c = WorkGrows-trans c.args.history.now c.args.work.now c.opposites.new.work c.if_true.new.work c.opposites.ensures.grows c.if_true.ensures.grows

pub rewrite_literal-requires-clause-left : goal.rewrite_literal-requires-clause-left
rewrite_literal-requires-clause-left c =
    let both : WorkGrows c.args.history.now c.args.work.now c.if_true.new.work = WorkGrows-trans c.args.history.now c.args.work.now c.opposites.new.work c.if_true.new.work c.opposites.ensures.grows c.if_true.ensures.grows in
    term_grown c.args.history.now c.args.work.now c.if_true.new.work c.args.whole c.requires.stands both c.requires.over

pub rewrite_literal-requires-clause-right : goal.rewrite_literal-requires-clause-right
rewrite_literal-requires-clause-right c =
    let both : WorkGrows c.args.history.now c.args.work.now c.if_true.new.work = WorkGrows-trans c.args.history.now c.args.work.now c.opposites.new.work c.if_true.new.work c.opposites.ensures.grows c.if_true.ensures.grows in
    term_grown c.args.history.now c.args.work.now c.if_true.new.work c.args.parts.first c.requires.stands both c.requires.first

pub rewrite_literal-requires-clause-line : goal.rewrite_literal-requires-clause-line
rewrite_literal-requires-clause-line c =
    let both : WorkGrows c.args.history.now c.args.work.now c.if_true.new.work = WorkGrows-trans c.args.history.now c.args.work.now c.opposites.new.work c.if_true.new.work c.opposites.ensures.grows c.if_true.ensures.grows in
    line_grown c.args.history.now c.args.work.now c.if_true.new.work c.args.line c.requires.stands both c.requires.line

pub returns-clause-line : goal.returns-clause-line
returns-clause-line c =
    IfOk-weaker c.rewrite_literal.result _ _
    (λ n rewrites. choice_opened c.args.history.now c.args.work.now c.opposites.new.work c.if_true.new.work c.rewrite_literal.new.work c.requires.stands c.opposites.ensures.grows c.if_true.ensures.grows c.args.whole
    c.args.parts.test c.args.parts.first c.args.parts.second c.in_ok-either.either c.in_ok-equation.equation c.args.line n c.requires.over c.requires.test c.requires.first c.requires.second c.requires.whole
    c.in_ok-either.ensures.line c.in_ok-equation.ensures.line rewrites)
    c.rewrite_literal.ensures.line

pub returns-clause-grows : goal.returns-clause-grows
returns-clause-grows c =
    let both : WorkGrows c.args.history.now c.args.work.now c.if_true.new.work = WorkGrows-trans c.args.history.now c.args.work.now c.opposites.new.work c.if_true.new.work c.opposites.ensures.grows c.if_true.ensures.grows in
    WorkGrows-trans c.args.history.now c.args.work.now c.if_true.new.work c.rewrite_literal.new.work both c.rewrite_literal.ensures.grows
