use Rattle.std.proofs.Common.{subst}
use Rattle.nq_logic.specs.Words.{equal_term, if_term, true_term}
use Rattle.nq_bank.specs.Content.{term_at}
use Rattle.nq_rule.proofs.Made.{for_ok}
use Rattle.nq_kernel.specs.declared.work.Work.{Work}
use Rattle.nq_kernel.specs.Growing.{WorkGrows}
use Rattle.nq_kernel.proofs.GrowingLemmas.{WorkGrows-trans}
use Rattle.nq_lines.specs.Lines.{MakesOf}
use Rattle.nq_lines.proofs.TermLemmas.{term_grown, same_term_grown}
use Rattle.nq_lines.proofs.choices.if_equal_true.Goals as goal

pub if_true-requires-clause-test : goal.if_true-requires-clause-test
if_true-requires-clause-test c = (term_grown c.args.history.now c.args.work.now c.from_equal_true.new.work c.args.p c.requires.stands c.from_equal_true.ensures.grows c.requires.test)

pub if_true-requires-clause-first : goal.if_true-requires-clause-first
if_true-requires-clause-first c = (term_grown c.args.history.now c.args.work.now c.from_equal_true.new.work c.args.x c.requires.stands c.from_equal_true.ensures.grows c.requires.first)

pub if_true-requires-clause-second : goal.if_true-requires-clause-second
if_true-requires-clause-second c = (term_grown c.args.history.now c.args.work.now c.from_equal_true.new.work c.args.y c.requires.stands c.from_equal_true.ensures.grows c.requires.second)

pub if_true-requires-clause-line : goal.if_true-requires-clause-line
if_true-requires-clause-line c = c.in_ok-shown.ensures.stands

pub returns-clause-grows : goal.returns-clause-grows
returns-clause-grows c = (WorkGrows-trans c.args.history.now c.args.work.now c.from_equal_true.new.work c.if_true.new.work c.from_equal_true.ensures.grows c.if_true.ensures.grows)

pub returns-clause-line : goal.returns-clause-line
returns-clause-line c =
    let h = c.args.history.now in
    let w0 : Work = c.args.work.now in
    let w1 : Work = c.from_equal_true.new.work in
    let w2 : Work = c.if_true.new.work in
    let g01 : WorkGrows h w0 w1 = c.from_equal_true.ensures.grows in
    for_ok c.if_true.result (MakesOf w1 w2 (term_at w1.bank c.args.p) (equal_term (if_term (term_at w1.bank c.args.p) (term_at w1.bank c.args.x) (term_at w1.bank c.args.y)) (term_at w1.bank c.args.x)) c.in_ok-shown.shown) (MakesOf w0 w2 (equal_term (term_at w0.bank c.args.p) true_term) (equal_term (if_term (term_at w0.bank c.args.p) (term_at w0.bank c.args.x) (term_at w0.bank c.args.y)) (term_at w0.bank c.args.x)) c.args.line) (λ n f these here.
    (subst (λ z. MakesOf w1 w2 ((term_at w0.bank c.args.p)) (equal_term (if_term (term_at w0.bank c.args.p) (term_at w0.bank c.args.x) z) (term_at w0.bank c.args.x)) c.in_ok-shown.shown n) (same_term_grown h w0 w1 c.args.y g01 c.requires.second) (subst (λ z. MakesOf w1 w2 ((term_at w0.bank c.args.p)) (equal_term (if_term (term_at w0.bank c.args.p) z (term_at w1.bank c.args.y)) z) c.in_ok-shown.shown n) (same_term_grown h w0 w1 c.args.x g01 c.requires.first) (subst (λ z. MakesOf w1 w2 (z) (equal_term (if_term z (term_at w1.bank c.args.x) (term_at w1.bank c.args.y)) (term_at w1.bank c.args.x)) c.in_ok-shown.shown n) (same_term_grown h w0 w1 c.args.p g01 c.requires.test) f))) these (c.in_ok-shown.ensures.line these here)) c.if_true.ensures.line
