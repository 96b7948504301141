use Rattle.std.proofs.Common.{◌∷◌, ◌<◌, subst, arith, length, get_or}
use Rattle.std.specs.Prelude.{IfSome}
use Rattle.nq_bank.specs.Content.{term_at, terms_at}
use Rattle.nq_kernel.proofs.GrowingLemmas.{WorkGrows-trans, WorkGrows-refl}
use Rattle.nq_lines.proofs.LineLemmas.{only_stands}
use Rattle.nq_reduce.specs.Rewriting.{denials}
use Rattle.nq_reduce.specs.Clauses.{DropsTo}
use Rattle.nq_reduce.proofs.DroppingLemmas.{rest_line, last_rest, rest_told}
use Rattle.nq_reduce.proofs.RewritingLemmas.{all_grown, can_grown, can_term}
use Rattle.nq_reduce.proofs.cases.+led_rest.Goals as goal

pub led_by-requires-clause-can : goal.led_by-requires-clause-can
led_by-requires-clause-can t c =
    let below : c.args.place < length c.args.literals.now = omega arith in
    can_term c.args.history.now c.args.work.now c.args.assumed.now c.args.kept (get_or c.args.literals.now c.args.place (record { 0 = 0 })) c.requires.can (c.requires.literals c.args.place (record { 0 = 0 }) below)

pub led_by-requires-clause-line : goal.led_by-requires-clause-line
led_by-requires-clause-line t c = only_stands c.args.work.now c.args.line _ c.requires.line

pub led_rest-requires : goal.led_rest-requires
led_rest-requires t c =
    let below : c.args.place < length c.args.literals.now = omega arith in
    (omega arith, (can_grown c.args.history.now c.args.work.now c.led_by.new.work c.led_by.ensures.grows c.args.assumed.now c.args.kept c.requires.can, (all_grown c.args.history.now c.args.work.now c.led_by.new.work c.led_by.ensures.grows c.args.literals.now c.requires.can.stands c.requires.literals, (omega arith, rest_line c.args.history.now c.args.work.now c.led_by.new.work c.led_by.ensures.grows c.args.assumed.now c.args.kept c.args.literals.now c.args.place (record { 0 = 0 }) c.args.line c.in-Some.n c.requires.can c.requires.literals below c.requires.line (subst (λ o. IfSome o (λ n. DropsTo c.args.work.now c.led_by.new.work ((term_at c.args.work.now.bank c.args.kept) ∷ denials (terms_at c.args.work.now.bank c.args.assumed.now)) (term_at c.args.work.now.bank (get_or c.args.literals.now c.args.place (record { 0 = 0 }))) c.args.line n)) c.in-Some.is c.in_ok-n.ensures.line)))))

pub returns-then-place-literals-clause-line : goal.returns-then-place-literals-clause-line
returns-then-place-literals-clause-line t c = last_rest c.args.history.now c.args.work.now (terms_at c.args.work.now.bank c.args.assumed.now) c.args.kept c.args.literals.now c.args.place c.args.line (omega arith) c.requires.line

pub returns-then-place-literals-clause-grows : goal.returns-then-place-literals-clause-grows
returns-then-place-literals-clause-grows t c = WorkGrows-refl c.args.history.now c.args.work.now c.requires.can.stands

pub returns-in-Some-clause-line : goal.returns-in-Some-clause-line
returns-in-Some-clause-line t c = rest_told c.args.history.now c.args.work.now c.led_by.new.work c.led_rest.new.work c.led_by.ensures.grows c.args.assumed.now c.args.kept c.led_rest.result c.requires.can c.led_rest.ensures.line

pub returns-in-Some-clause-grows : goal.returns-in-Some-clause-grows
returns-in-Some-clause-grows t c = (WorkGrows-trans c.args.history.now c.args.work.now c.led_by.new.work c.led_rest.new.work c.led_by.ensures.grows c.led_rest.ensures.grows)
