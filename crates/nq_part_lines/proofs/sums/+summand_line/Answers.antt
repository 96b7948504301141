use Rattle.std.proofs.Common.{◌≡◌, ◌∙◌, ◌∷◌, [], ap, ap₂, sym, subst, arith}
use Rattle.std.specs.Prelude.{is_some, ◌-◌}
use Rattle.nq_logic.specs.Words.{add1_term, call2}
use Rattle.nq_bank.specs.Content.{term_at}
use Rattle.nq_rule.proofs.Made.{for_ok}
use Rattle.nq_lines.specs.Lines.{LineHasOnly}
use Rattle.nq_lines.proofs.TermLemmas.{same_term_grown}
use Rattle.nq_replay.proofs.UncountedLemmas.{grown_trans}
use Rattle.nq_shell_parts.specs.Summands.{IsSum, left_of, right_of, summand_clause}
use Rattle.nq_part_lines.proofs.ReadingLemmas.{first_sum, first_summand, found, later_sum, left_there, right_there, small_grown}
use Rattle.nq_part_lines.proofs.sums.+summand_line.Goals as goal

pub small_argument-rest-requires-clause-place : goal.small_argument-rest-requires-clause-place
small_argument-rest-requires-clause-place t c =
    let old = c.args.work.now in
    let b = old.bank in
    let s = term_at b c.args.sum in
    let later = later_sum c.args.place c.args.more s c.if-place-gt0.true c.requires.sum in
    ap is_some (right_there s later.0)

pub summand_line-requires : goal.summand_line-requires
summand_line-requires t c =
    let old = c.args.work.now in
    let b = old.bank in
    let s = term_at b c.args.sum in
    let later = later_sum c.args.place c.args.more s c.if-place-gt0.true c.requires.sum in
    let rest : term_at b c.small_argument-rest.result ≡ right_of s = found 2 s (right_of s) (term_at b c.small_argument-rest.result) (right_there s later.0) c.small_argument-rest.ensures.argument in
    let more = c.if-place-gt0.true in
    (omega (arith, more), (c.requires.stands, (c.small_argument-rest.ensures.small, subst (IsSum (c.args.place - 1) c.args.more) (sym rest) later.1)))

pub later_line-requires-clause-term : goal.later_line-requires-clause-term
later_line-requires-clause-term t c =
    let old = c.args.work.now in
    let b = old.bank in
    let s = term_at b c.args.sum in
    let mid = c.summand_line.new.work in
    let grows = c.summand_line.ensures.grows in
    let same : term_at mid.bank c.args.sum ≡ s = same_term_grown c.args.history.now old mid c.args.sum grows.grows c.requires.term.inside in
    small_grown c.args.history.now old mid c.args.sum c.requires.stands grows.grows c.requires.term

pub later_line-requires-clause-inner : goal.later_line-requires-clause-inner
later_line-requires-clause-inner t c =
    let old = c.args.work.now in
    let b = old.bank in
    let s = term_at b c.args.sum in
    let later = later_sum c.args.place c.args.more s c.if-place-gt0.true c.requires.sum in
    let rest : term_at b c.small_argument-rest.result ≡ right_of s = found 2 s (right_of s) (term_at b c.small_argument-rest.result) (right_there s later.0) c.small_argument-rest.ensures.argument in
    let mid = c.summand_line.new.work in
    let grows = c.summand_line.ensures.grows in
    let same : term_at mid.bank c.args.sum ≡ s = same_term_grown c.args.history.now old mid c.args.sum grows.grows c.requires.term.inside in
    subst (λ v. LineHasOnly mid c.in_ok-inner.inner (summand_clause (c.args.place - 1) c.args.more v)) (rest ∙ sym (ap right_of same)) c.in_ok-inner.ensures.line

pub returns-then-place-gt0-clause-grows : goal.returns-then-place-gt0-clause-grows
returns-then-place-gt0-clause-grows t c =
    grown_trans c.args.history.now c.args.work.now c.summand_line.new.work c.later_line.new.work c.summand_line.ensures.grows c.later_line.ensures.grows

pub small_argument-first-requires-clause-place : goal.small_argument-first-requires-clause-place
small_argument-first-requires-clause-place t c =
    let old = c.args.work.now in
    let b = old.bank in
    let s = term_at b c.args.sum in
    let plus = first_sum c.args.place c.args.more s c.if-place-gt0.false c.if-more-gt0.true c.requires.sum in
    ap is_some (left_there s plus)

pub small_argument-rest-requires-then-more-gt0-clause-place : goal.small_argument-rest-requires-then-more-gt0-clause-place
small_argument-rest-requires-then-more-gt0-clause-place t c =
    let old = c.args.work.now in
    let b = old.bank in
    let s = term_at b c.args.sum in
    let plus = first_sum c.args.place c.args.more s c.if-place-gt0.false c.if-more-gt0.true c.requires.sum in
    ap is_some (right_there s plus)

pub returns-then-more-gt0-clause-line : goal.returns-then-more-gt0-clause-line
returns-then-more-gt0-clause-line t c =
    let old = c.args.work.now in
    let b = old.bank in
    let s = term_at b c.args.sum in
    let plus = first_sum c.args.place c.args.more s c.if-place-gt0.false c.if-more-gt0.true c.requires.sum in
    let first : term_at b c.small_argument-first.result ≡ left_of s = found 1 s (left_of s) (term_at b c.small_argument-first.result) (left_there s plus) c.small_argument-first.ensures.argument in
    let rest : term_at b c.small_argument-rest-then-more-gt0.result ≡ right_of s = found 2 s (right_of s) (term_at b c.small_argument-rest-then-more-gt0.result) (right_there s plus) c.small_argument-rest-then-more-gt0.ensures.argument in
    let new = c.first_line.new.work in
    let whole : call2 "PLUS" (term_at b c.small_argument-first.result) (term_at b c.small_argument-rest-then-more-gt0.result) ≡ s = ap₂ (call2 "PLUS") first rest ∙ sym plus in
    for_ok c.first_line.result (λ n. LineHasOnly new n _) (λ n. LineHasOnly new n _) (λ n h. subst (λ v. LineHasOnly new n (v ∷ [])) (ap₂ (λ a b. call2 "LESSP" a (add1_term b)) (first ∙ first_summand c.args.place c.args.more s c.if-place-gt0.false c.if-more-gt0.true) whole) h) c.first_line.ensures.line
