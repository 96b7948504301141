use Rattle.std.proofs.Common.{arith}
use Rattle.nq_bank.specs.Content.{term_at}
use Rattle.nq_kernel.proofs.GrowingLemmas.{WorkGrows-refl, WorkGrows-trans}
use Rattle.nq_lines.proofs.LineLemmas.{line_grown, only_stands}
use Rattle.nq_lines.proofs.TermLemmas.{term_grown}
use Rattle.nq_rule.proofs.Made.{for_ok}
use Rattle.nq_eliminate.specs.Supposing.{SupposesTo}
use Rattle.nq_eliminate.proofs.SupposingLemmas.{left_at_one, left_at_two, left_in, no_rule, right_at_one, right_at_three, supposed_made, supposes_itself, whole_still}
use Rattle.nq_eliminate.proofs.supposing.+supposed.Goals as goal

pub holds-requires-clause-term : goal.holds-requires-clause-term
holds-requires-clause-term t c = left_in c.args.history.now c.args.work.now _ c.args.t c.in-Some.p c.in-Some.q c.requires.term c.in-Some.ensures c.in-Some.ensures.left

pub opened-requires-clause-whole : goal.opened-requires-clause-whole
opened-requires-clause-whole t c = term_grown c.args.history.now c.args.work.now c.holds.new.work c.args.t c.requires.stands c.holds.ensures.grows c.requires.term

pub opened-requires-clause-whole_is : goal.opened-requires-clause-whole_is
opened-requires-clause-whole_is t c =
    let w = c.args.work.now in
    let w1 = c.holds.new.work in
    whole_still c.args.history.now w w1 w1 w1 w1 c.requires.stands c.holds.ensures.grows (WorkGrows-refl c.args.history.now w1 c.holds.ensures.grows.stands) (WorkGrows-refl c.args.history.now w1 c.holds.ensures.grows.stands) c.args.t c.in-Some.p c.in-Some.q c.requires.term c.in-Some.ensures

pub opened-requires-clause-left : goal.opened-requires-clause-left
opened-requires-clause-left t c =
    let w = c.args.work.now in
    let w1 = c.holds.new.work in
    left_at_one c.args.history.now w w1 w1 w1 w1 c.requires.stands c.holds.ensures.grows (WorkGrows-refl c.args.history.now w1 c.holds.ensures.grows.stands) (WorkGrows-refl c.args.history.now w1 c.holds.ensures.grows.stands) c.args.t c.in-Some.p c.in-Some.q c.requires.term c.in-Some.ensures

pub opened-requires-clause-right : goal.opened-requires-clause-right
opened-requires-clause-right t c =
    let w = c.args.work.now in
    let w1 = c.holds.new.work in
    right_at_one c.args.history.now w w1 w1 w1 w1 c.requires.stands c.holds.ensures.grows (WorkGrows-refl c.args.history.now w1 c.holds.ensures.grows.stands) (WorkGrows-refl c.args.history.now w1 c.holds.ensures.grows.stands) c.args.t c.in-Some.p c.in-Some.q c.requires.term c.in-Some.ensures

pub opened-requires-clause-line : goal.opened-requires-clause-line
opened-requires-clause-line t c = line_grown c.args.history.now c.args.work.now c.holds.new.work c.args.line c.requires.stands c.holds.ensures.grows c.requires.line

pub returns-in_err-under-in-Some-clause-grows : goal.returns-in_err-under-in-Some-clause-grows
returns-in_err-under-in-Some-clause-grows t c = WorkGrows-trans c.args.history.now c.args.work.now c.holds.new.work c.opened.new.work c.holds.ensures.grows c.opened.ensures.grows

pub cut-requires-clause-first : goal.cut-requires-clause-first
cut-requires-clause-first t c = line_grown c.args.history.now c.holds.new.work c.opened.new.work c.in_ok-shown-in-Some.shown c.holds.ensures.grows.stands c.opened.ensures.grows (only_stands c.holds.new.work c.in_ok-shown-in-Some.shown _ c.in_ok-shown-in-Some.ensures.line)

pub cut-requires-clause-second : goal.cut-requires-clause-second
cut-requires-clause-second t c = c.in_ok-under-in-Some.ensures.stands

pub cut-requires-clause-term : goal.cut-requires-clause-term
cut-requires-clause-term t c =
    let w = c.args.work.now in
    let w2 = c.opened.new.work in
    left_at_two c.args.history.now w c.holds.new.work w2 w2 w2 c.requires.stands c.holds.ensures.grows c.opened.ensures.grows (WorkGrows-refl c.args.history.now w2 c.opened.ensures.grows.stands) c.args.t c.in-Some.p c.in-Some.q c.requires.term c.in-Some.ensures

pub returns-in_err-rest-in-Some-clause-grows : goal.returns-in_err-rest-in-Some-clause-grows
returns-in_err-rest-in-Some-clause-grows t c =
    let grows = WorkGrows-trans c.args.history.now c.args.work.now c.holds.new.work c.opened.new.work c.holds.ensures.grows c.opened.ensures.grows in
    WorkGrows-trans c.args.history.now c.args.work.now c.opened.new.work c.cut.new.work grows c.cut.ensures.grows

pub supposed-requires : goal.supposed-requires
supposed-requires t c =
    let before = c.in-Some.ensures.right in
    (omega (arith, before), (c.cut.ensures.grows.stands, (right_at_three c.args.history.now c.args.work.now c.holds.new.work c.opened.new.work c.cut.new.work c.cut.new.work c.requires.stands c.holds.ensures.grows c.opened.ensures.grows c.cut.ensures.grows c.args.t c.in-Some.p c.in-Some.q c.requires.term c.in-Some.ensures, c.in_ok-rest-in-Some.ensures.stands)))

pub returns-in_ok-rest-in-Some-clause-line : goal.returns-in_ok-rest-in-Some-clause-line
returns-in_ok-rest-in-Some-clause-line t c =
    let w0 = c.args.work.now in
    let w3 = c.cut.new.work in
    let w4 = c.supposed.new.work in
    for_ok c.supposed.result (SupposesTo w3 w4 (term_at w3.bank c.in-Some.q) c.in_ok-rest-in-Some.rest) (SupposesTo w0 w4 (term_at w0.bank c.args.t) c.args.line)
    (λ n supposes. supposed_made c.args.history.now w0 c.holds.new.work c.opened.new.work w3 w4 c.requires.stands c.holds.ensures.grows c.opened.ensures.grows c.cut.ensures.grows c.args.t c.in-Some.p c.in-Some.q c.requires.term c.in-Some.ensures c.args.line c.in_ok-shown-in-Some.shown c.in_ok-under-in-Some.under c.in_ok-rest-in-Some.rest n c.in_ok-shown-in-Some.ensures.line c.in_ok-under-in-Some.ensures.line c.in_ok-rest-in-Some.ensures.line supposes) c.supposed.ensures.line

pub returns-in_ok-rest-in-Some-clause-grows : goal.returns-in_ok-rest-in-Some-clause-grows
returns-in_ok-rest-in-Some-clause-grows t c =
    let grows = WorkGrows-trans c.args.history.now c.args.work.now c.holds.new.work c.opened.new.work c.holds.ensures.grows c.opened.ensures.grows in
    let on = WorkGrows-trans c.args.history.now c.args.work.now c.opened.new.work c.cut.new.work grows c.cut.ensures.grows in
    WorkGrows-trans c.args.history.now c.args.work.now c.cut.new.work c.supposed.new.work on c.supposed.ensures.grows

pub returns-in-None-clause-line : goal.returns-in-None-clause-line
returns-in-None-clause-line t c =
    let w = c.args.work.now in
    supposes_itself w w (term_at w.bank c.args.t) c.args.line (no_rule w.bank c.args.t c.in-None.ensures) (λ these h. h)

pub returns-in-None-clause-grows : goal.returns-in-None-clause-grows
returns-in-None-clause-grows t c = WorkGrows-refl c.args.history.now c.args.work.now c.requires.stands
