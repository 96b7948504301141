use Rattle.std.proofs.Common.{◌+◌, ◌-◌, ◌&&◌, length, get_or, take, sym, ap, ◌∙◌}
use Rattle.std.specs.Prelude.{bytes_eq, nat_eq}
use Rattle.std.proofs.lemmas.Bool.{eq-eqb}
use Rattle.nq_event.proofs.UntriedLemmas.{compared_last, not_equal, false_first}
use Rattle.nq_event.proofs.made_name.is_front_with.Goals as goal

pub returns-then-last-digit : goal.returns-then-last-digit
returns-then-last-digit c =
    let text = c.args.text.now in
    let last = get_or text (length text - 1) 0 in
    let digit = 48 + c.args.digit in
    c.eq.ensures ∙ sym (compared_last text c.args.front.now digit c.in-len1-up.len_at_least ∙ ap (λ b. b && bytes_eq (take (length text - 1) text) c.args.front.now) (eq-eqb last digit c.if-last-digit.true))

pub returns-else-last-digit : goal.returns-else-last-digit
returns-else-last-digit c =
    let text = c.args.text.now in
    let last = get_or text (length text - 1) 0 in
    let digit = 48 + c.args.digit in
    false_first (nat_eq last digit) (bytes_eq (take (length text - 1) text) c.args.front.now) (not_equal last digit c.if-last-digit.false) ∙ sym (compared_last text c.args.front.now digit c.in-len1-up.len_at_least)
