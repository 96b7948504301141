use Rattle.std.proofs.Common.{◌∙◌, sym, ap, subst}
use Rattle.std.specs.Prelude.{IfOk}
use Rattle.nq_logic.specs.Terms.{call}
use Rattle.nq_bank.specs.Content.{term_at, terms_at, IsIdOf}
use Rattle.nq_kernel.proofs.GrowingLemmas.{WorkGrows-refl}
use Rattle.nq_bank.specs.Parts.{parts_of}
use Rattle.nq_rule.specs.Results.{with_argument}
use Rattle.nq_history.specs.Events.{events_at}
use Rattle.nq_logic.specs.Ground.{symbols_of}
use Rattle.nq_lines.proofs.ArgumentLemmas.{literal_there, changed_over}
use Rattle.nq_lines.proofs.TermLemmas.{made_in_work}
use Rattle.nq_bank.specs.Content.{text_at}
use Rattle.nq_rule.proofs.PathLemmas.{with_argument-call}
use Rattle.nq_rule.proofs.ReplacingLemmas.{no_literal}
use Rattle.nq_bank.proofs.Numerals.{parts_of-number, number_of-numeral}
use Rattle.nq_logic.specs.Words.{numeral}
use Rattle.nq_lines.proofs.calls.changed_call.Goals as goal

pub returns-in_err-arguments-in-App-clause-grows : goal.returns-in_err-arguments-in-App-clause-grows
returns-in_err-arguments-in-App-clause-grows c = WorkGrows-refl c.args.history.now c.args.work.now c.requires.stands

pub returns-in-Num-clause-grows : goal.returns-in-Num-clause-grows
returns-in-Num-clause-grows c = WorkGrows-refl c.args.history.now c.args.work.now c.requires.stands

pub returns-in-Var-clause-grows : goal.returns-in-Var-clause-grows
returns-in-Var-clause-grows c = WorkGrows-refl c.args.history.now c.args.work.now c.requires.stands

pub returns-in_ok-arguments-in-App-clause-call : goal.returns-in_ok-arguments-in-App-clause-call
returns-in_ok-arguments-in-App-clause-call c =
    let w0 = c.args.work.now in
    let t = term_at w0.bank c.args.t in
    let u = term_at w0.bank c.args.u in
    let there = literal_there c.args.place (parts_of t) c.requires.place in
    let same = ap (λ ids. call (text_at w0.bank c.in-App.f) (terms_at w0.bank ids)) c.as_slice.ensures.value ∙ ap (call (text_at w0.bank c.in-App.f)) c.in_ok-arguments-in-App.ensures.terms ∙ sym (with_argument-call c.args.place (text_at w0.bank c.in-App.f) u t there.0 c.in-App.ensures.head.1 there.1) in
    subst (λ x. IfOk c.app.result (λ r. IsIdOf c.app.new.self.bank r x)) same c.app.ensures.call

pub returns-in_ok-arguments-in-App-clause-over : goal.returns-in_ok-arguments-in-App-clause-over
returns-in_ok-arguments-in-App-clause-over c =
    let w0 = c.args.work.now in
    let t = term_at w0.bank c.args.t in
    let u = term_at w0.bank c.args.u in
    let there = literal_there c.args.place (parts_of t) c.requires.place in
    let same = ap (λ ids. call (text_at w0.bank c.in-App.f) (terms_at w0.bank ids)) c.as_slice.ensures.value ∙ ap (call (text_at w0.bank c.in-App.f)) c.in_ok-arguments-in-App.ensures.terms ∙ sym (with_argument-call c.args.place (text_at w0.bank c.in-App.f) u t there.0 c.in-App.ensures.head.1 there.1) in
    made_in_work c.args.history.now w0 c.app.new.self c.app.result (with_argument c.args.place u t) c.requires.stands c.app.ensures.grows (changed_over (symbols_of (events_at w0.bank c.args.history.now)) c.args.place u t c.requires.argument.over c.requires.call.over)
    (subst (λ x. IfOk c.app.result (λ r. IsIdOf c.app.new.self.bank r x)) same c.app.ensures.call)

pub returns-in-Num-clause-call : goal.returns-in-Num-clause-call
returns-in-Num-clause-call c =
    absurd (no_literal c.args.place (parts_of (term_at c.args.work.now.bank c.args.t)) (ap parts_of c.in-Num.ensures.head.1 ∙ parts_of-number (numeral c.in-Num.field-0) c.in-Num.field-0 (number_of-numeral c.in-Num.field-0 c.in-Num.ensures.head.0)) c.requires.place)
