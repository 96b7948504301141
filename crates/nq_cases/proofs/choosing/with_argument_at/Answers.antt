use Rattle.std.proofs.Common.{ap, ◌∙◌, arith}
use Rattle.nq_logic.specs.Terms.{call}
use Rattle.nq_logic.specs.Words.{numeral}
use Rattle.nq_logic.specs.Sizes.{depth_of}
use Rattle.nq_bank.specs.Parts.{parts_of}
use Rattle.nq_bank.specs.Content.{Content, text_at, term_at, terms_at}
use Rattle.nq_bank.proofs.Numerals.{parts_of-number, number_of-numeral}
use Rattle.nq_rule.specs.Results.{with_argument}
use Rattle.nq_rule.proofs.Made.{given_id}
use Rattle.nq_rule.proofs.ReplacingLemmas.{with_argument_made, no_literal}
use Rattle.nq_cases.proofs.choosing.with_argument_at.Goals as goal

pub returns-in_ok-arguments-in-App-clause-ok : goal.returns-in_ok-arguments-in-App-clause-ok
returns-in_ok-arguments-in-App-clause-ok c =
    let old : Content = c.args.bank.now in
    let same = with_argument_made old c.args.place (text_at old c.in-App.f) (term_at old c.args.whole) c.in_ok-arguments-in-App.arguments.items c.set_argument.new.arguments.items c.as_slice.result.now c.args.argument c.in-App.ensures.head.1 c.in_ok-arguments-in-App.ensures.parts c.set_argument.ensures c.as_slice.ensures.value c.requires.place in
    given_id old c.app.new.self c.app.result (call (text_at old c.in-App.f) (terms_at old c.as_slice.result.now)) (with_argument c.args.place (term_at old c.args.argument) (term_at old c.args.whole)) same c.app.ensures.ok

pub returns-in_ok-arguments-in-App-clause-not_deep : goal.returns-in_ok-arguments-in-App-clause-not_deep
returns-in_ok-arguments-in-App-clause-not_deep c =
    λ e.
    let old : Content = c.args.bank.now in
    let same = with_argument_made old c.args.place (text_at old c.in-App.f) (term_at old c.args.whole) c.in_ok-arguments-in-App.arguments.items c.set_argument.new.arguments.items c.as_slice.result.now c.args.argument c.in-App.ensures.head.1 c.in_ok-arguments-in-App.ensures.parts c.set_argument.ensures c.as_slice.ensures.value c.requires.place in
    let deep = c.app.ensures.deep.0 e in
    let is = ap depth_of same in
    let most = c.requires.shallow in
    absurd (omega (arith, deep, is, most))

pub returns-in-Num-clause-ok : goal.returns-in-Num-clause-ok
returns-in-Num-clause-ok c =
    absurd (no_literal c.args.place (parts_of (term_at c.args.bank.now c.args.whole)) (ap parts_of c.in-Num.ensures.head.1 ∙ parts_of-number (numeral c.in-Num.field-0) c.in-Num.field-0 (number_of-numeral c.in-Num.field-0 c.in-Num.ensures.head.0)) c.requires.place)
