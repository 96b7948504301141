use Rattle.std.proofs.Common.{◌≡◌, ◌∷◌, [], ◌∙◌, ap, ap₂, sym, subst}
use Rattle.std.specs.Prelude.{is_some, ◌-◌}
use Rattle.nq_logic.specs.Words.{add1_term, call2}
use Rattle.nq_bank.specs.Content.{term_at}
use Rattle.nq_rule.proofs.Made.{for_ok}
use Rattle.nq_lines.specs.Lines.{LineHasOnly}
use Rattle.nq_shell_parts.specs.Summands.{left_of, right_of, summand}
use Rattle.nq_part_lines.proofs.ReadingLemmas.{found, later_sum, later_summand, left_there, right_there}
use Rattle.nq_part_lines.proofs.sums.later_line.Goals as goal

pub small_argument-first-requires-clause-place : goal.small_argument-first-requires-clause-place
small_argument-first-requires-clause-place c =
    let s = term_at c.args.work.now.bank c.args.sum in
    ap is_some (left_there s (later_sum c.args.place c.args.more s c.requires.later c.requires.sum).0)

pub small_argument-rest-requires-clause-place : goal.small_argument-rest-requires-clause-place
small_argument-rest-requires-clause-place c =
    let s = term_at c.args.work.now.bank c.args.sum in
    ap is_some (right_there s (later_sum c.args.place c.args.more s c.requires.later c.requires.sum).0)

pub longer_line-requires-clause-inner : goal.longer_line-requires-clause-inner
longer_line-requires-clause-inner c =
    let old = c.args.work.now in
    let s = term_at old.bank c.args.sum in
    let plus = (later_sum c.args.place c.args.more s c.requires.later c.requires.sum).0 in
    let rest : term_at old.bank c.small_argument-rest.result ≡ right_of s = found 2 s (right_of s) (term_at old.bank c.small_argument-rest.result) (right_there s plus) c.small_argument-rest.ensures.argument in
    let t : term_at old.bank c.summand_at-t.result ≡ summand (c.args.place - 1) c.args.more (right_of s) = c.summand_at-t.ensures.summand ∙ sym (later_summand c.args.place c.args.more s c.requires.later) in
    subst (λ v. LineHasOnly old c.args.inner (v ∷ [])) (sym (ap₂ (λ a b. call2 "LESSP" a (add1_term b)) t rest)) c.requires.inner

pub returns-clause-line : goal.returns-clause-line
returns-clause-line c =
    let old = c.args.work.now in
    let new = c.longer_line.new.work in
    let s = term_at old.bank c.args.sum in
    let plus = (later_sum c.args.place c.args.more s c.requires.later c.requires.sum).0 in
    let first : term_at old.bank c.small_argument-first.result ≡ left_of s = found 1 s (left_of s) (term_at old.bank c.small_argument-first.result) (left_there s plus) c.small_argument-first.ensures.argument in
    let rest : term_at old.bank c.small_argument-rest.result ≡ right_of s = found 2 s (right_of s) (term_at old.bank c.small_argument-rest.result) (right_there s plus) c.small_argument-rest.ensures.argument in
    let whole : call2 "PLUS" (term_at old.bank c.small_argument-first.result) (term_at old.bank c.small_argument-rest.result) ≡ s = ap₂ (call2 "PLUS") first rest ∙ sym plus in
    for_ok c.longer_line.result (λ n. LineHasOnly new n _) (λ n. LineHasOnly new n _) (λ n h. subst (λ v. LineHasOnly new n (v ∷ [])) (ap₂ (λ a b. call2 "LESSP" a (add1_term b)) c.summand_at-t.ensures.summand whole) h) c.longer_line.ensures.line
