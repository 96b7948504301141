use Rattle.std.proofs.Common.{sym, ◌∙◌, ap}
use Rattle.std.specs.Prelude.{None}
use Rattle.nq_bank.specs.Content.{text_at, term_at}
use Rattle.nq_logic.specs.Numerals.{number_of}
use Rattle.nq_print.proofs.ObjectLemmas.{object-numeral, object-variable, object-constant, object-longer, object-other, is_object-at, single-at, pair-at, answers_kept}
use Rattle.nq_print.proofs.objects.+is_object.Goals as goal

pub returns-then-not-is_ground-clause-ok : goal.returns-then-not-is_ground-clause-ok
returns-then-not-is_ground-clause-ok t c = is_object-at _ _ None c.in-Pair.ensures.4 (object-other _ _ _ (sym c.is_ground.ensures ∙ c.if-not-is_ground.true))

pub returns-in-Number-clause-ok : goal.returns-in-Number-clause-ok
returns-in-Number-clause-ok t c = is_object-at _ _ _ c.in-Number.ensures.1 (object-numeral c.in-Number.field-0 c.in-Number.ensures.0)

pub returns-in-Single-clause-ok : goal.returns-in-Single-clause-ok
returns-in-Single-clause-ok t c = single-at _ (term_at c.args.bank.now c.in-Single.argument) (text_at c.args.bank.now c.in-Single.f) c.is_single_object.result c.in-Single.ensures.3 c.is_single_object.ensures

pub returns-in-Variable-clause-ok : goal.returns-in-Variable-clause-ok
returns-in-Variable-clause-ok t c = is_object-at _ _ None c.in-Variable.ensures.1 (object-variable _)

pub returns-in-Constant-clause-ok : goal.returns-in-Constant-clause-ok
returns-in-Constant-clause-ok t c =
    let none = sym (ap number_of c.in-Constant.ensures.2) ∙ c.in-Constant.ensures.1 in
    is_object-at _ _ None c.in-Constant.ensures.2 (object-constant _ none)

pub returns-in-Longer-clause-ok : goal.returns-in-Longer-clause-ok
returns-in-Longer-clause-ok t c =
    let is = c.in-Longer.ensures.2 in
    is_object-at _ _ None is.4 (object-longer _ is.0 is.1 is.2 is.3)

pub returns-in_ok-keep_answer-in-Pair-clause-ok : goal.returns-in_ok-keep_answer-in-Pair-clause-ok
returns-in_ok-keep_answer-in-Pair-clause-ok t c = c.are_both-answer.ensures ∙ pair-at _ _ _ _ _ _ c.in-Pair.ensures.4 (sym c.is_ground.ensures ∙ c.if-not-is_ground.false) c.in_ok-front-in-Pair.ensures.ok c.in_ok-behind-in-Pair.ensures.ok

pub returns-in_ok-keep_answer-in-Pair-clause-answers : goal.returns-in_ok-keep_answer-in-Pair-clause-answers
returns-in_ok-keep_answer-in-Pair-clause-answers t c =
    let right = c.are_both-answer.ensures ∙ pair-at _ _ _ _ _ _ c.in-Pair.ensures.4 (sym c.is_ground.ensures ∙ c.if-not-is_ground.false) c.in_ok-front-in-Pair.ensures.ok c.in_ok-behind-in-Pair.ensures.ok in
    answers_kept _ _ _ c.args.t c.are_both-answer.result c.in_ok-behind-in-Pair.ensures.answers c.in_ok-keep_answer-in-Pair.ensures right
