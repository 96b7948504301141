use Rattle.std.proofs.Common.{◌≡◌, ◌<◌, ◌≤◌, ◌++◌, ◌∷◌, [], length, sym, ap, ◌∙◌, arith}
use Rattle.nq_form.specs.Spelling.{spelled}
use Rattle.nq_language.specs.Printing.{form_under}
use Rattle.nq_bank.specs.Content.{text_at, term_at}
use Rattle.nq_bank.specs.Parts.{parts_of}
use Rattle.nq_print.proofs.TextLemmas.{same_piece}
use Rattle.nq_print.proofs.FormLemmas.{under_plain, under_full, under_more, text_variable, text_constant, text_numeral, text_call, text_object, wrapped_pieces, full_enough, not_full, some_arguments, no_arguments}
use Rattle.nq_print.proofs.writing.+terms.Goals as goal

pub write_plain-returns-in-Var-clause-ok : goal.write_plain-returns-in-Var-clause-ok
write_plain-returns-in-Var-clause-ok t c =
    same_piece _ _ _ _ _ (ap (λ z. spelled (form_under [] z)) c.in-Var.ensures.head.1 ∙ text_variable _ ∙ sym c.text.ensures.value) c.write_text.ensures

pub write_plain-returns-in-Num-clause-ok : goal.write_plain-returns-in-Num-clause-ok
write_plain-returns-in-Num-clause-ok t c =
    same_piece _ _ _ _ _ (ap (λ z. spelled (form_under [] z)) c.in-Num.ensures.head.1 ∙ text_numeral c.in-Num.n c.in-Num.ensures.head.0) c.write_number.ensures

pub write_plain-returns-then-count-eq0-clause-ok : goal.write_plain-returns-then-count-eq0-clause-ok
write_plain-returns-then-count-eq0-clause-ok t c =
    let is = no_arguments _ (parts_of (term_at c.args.bank.now c.args.t)) (term_at c.args.bank.now c.args.t) (text_at c.args.bank.now c.in-App.f) c.if-count-eq0.true c.in-App.ensures.head.2 c.in-App.ensures.head.1 in
    same_piece _ _ _ _ _ (ap (λ z. spelled (form_under [] z)) is ∙ text_constant _) c.write_constant.ensures

pub write_plain-returns-then-branch-clause-ok : goal.write_plain-returns-then-branch-clause-ok
write_plain-returns-then-branch-clause-ok t c =
    let some = some_arguments _ (parts_of (term_at c.args.bank.now c.args.t)) c.in-App.ensures.head.2 c.if-count-eq0.false in
    same_piece _ _ _ _ _ (text_object _ _ _ c.in-App.ensures.head.1 some c.requires.plain (sym c.in_ok-is_object-in-App.ensures.ok ∙ c.if-branch.true)) c.write_shown.ensures

pub write_plain-returns-else-branch-clause-ok : goal.write_plain-returns-else-branch-clause-ok
write_plain-returns-else-branch-clause-ok t c =
    let some = some_arguments _ (parts_of (term_at c.args.bank.now c.args.t)) c.in-App.ensures.head.2 c.if-count-eq0.false in
    same_piece _ _ _ _ _ (text_call _ _ _ c.in-App.ensures.head.1 some c.requires.plain (sym c.in_ok-is_object-in-App.ensures.ok ∙ c.if-branch.false)) c.write_call.ensures.ok

pub write_under-returns-in_ok-write_under-in-Some-clause-ok : goal.write_under-returns-in_ok-write_under-in-Some-clause-ok
write_under-returns-in_ok-write_under-in-Some-clause-ok t c =
    let term = term_at c.args.bank.now c.args.t in
    let bs = c.args.letters.items in
    let inner = term_at c.args.bank.now c.in-Some.inner.argument in
    let b = c.in-Some.inner.letter in
    let one : c.push.new.self.items ≡ b ∷ [] = c.in_ok-push-in-Some.ensures.items ∙ ap (λ z. z ++ b ∷ []) c.new-further.ensures.items in
    let full : 200 ≤ length bs = omega arith in
    let whole = under_full bs term inner b c.in-Some.ensures.is (full_enough bs full) in
    wrapped_pieces _ _ _ _ _ _ _ bs (form_under (b ∷ []) inner) _ c.deref.ensures.value c.deref-then-len-ge-FULL.ensures.value c.in_ok-write_opening-in-Some.ensures
    (c.in_ok-write_under-in-Some.ensures.ok ∙ ap (λ z. c.write_opening.new.out.items ++ spelled (form_under z inner)) one) whole c.write_closing.ensures

pub write_under-returns-in_ok-push-in-Some-2-clause-ok : goal.write_under-returns-in_ok-push-in-Some-2-clause-ok
write_under-returns-in_ok-push-in-Some-2-clause-ok t c =
    let term = term_at c.args.bank.now c.args.t in
    let bs = c.args.letters.items in
    let inner = term_at c.args.bank.now c.in-Some.inner.argument in
    let b = c.in-Some.inner.letter in
    let room : length bs < 200 = omega arith in
    let whole = under_more bs term inner b c.in-Some.ensures.is (not_full bs room) in
    same_piece _ _ _ _ _ (ap spelled whole ∙ ap (λ z. spelled (form_under z inner)) (sym c.in_ok-push-in-Some-2.ensures.items)) c.write_under-else-len-ge-FULL.ensures.ok

pub write_under-returns-in_ok-write_plain-in-None-clause-ok : goal.write_under-returns-in_ok-write_plain-in-None-clause-ok
write_under-returns-in_ok-write_plain-in-None-clause-ok t c =
    let term = term_at c.args.bank.now c.args.t in
    let bs = c.args.letters.items in
    wrapped_pieces _ _ _ _ _ _ _ bs (form_under [] term) _ c.deref-in-None.ensures.value c.deref-in-None-2.ensures.value c.in_ok-write_opening-in-None.ensures c.in_ok-write_plain-in-None.ensures.ok (under_plain bs term c.in-None.ensures) c.write_closing-in-None.ensures
