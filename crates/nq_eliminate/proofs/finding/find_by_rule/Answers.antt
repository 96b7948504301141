use Rattle.std.proofs.Common.{◌≡◌, ◌&&◌, map, true}
use Rattle.std.specs.Prelude.{MatchOption}
use Rattle.nq_bank.specs.Content.{term_at, terms_at, text_at}
use Rattle.nq_event.specs.EventsAt.{hints_at}
use Rattle.nq_history.specs.Events.{class_of, events_at}
use Rattle.nq_rule.proofs.Made.{for_ok}
use Rattle.nq_goals.specs.Eliminating.{has_elim}
use Rattle.nq_goals.specs.Hints.{is_enabled_for}
use Rattle.nq_eliminate.specs.Finding.{RuleServes, TermServes, TermServesNone}
use Rattle.nq_eliminate.proofs.FindingLemmas.{match_mapped, not_wanted, wanted}
use Rattle.nq_eliminate.proofs.finding.find_by_rule.Goals as goal

pub returns-then-wanted : goal.returns-then-wanted
returns-then-wanted c =
    let bank = c.args.bank.now in
    let h = events_at bank c.args.history.now in
    let hints = hints_at bank c.args.hints.now in
    let n = text_at bank c.args.name in
    let classes = map class_of c.args.classes.now in
    let t = term_at bank c.args.t in
    let g = terms_at bank c.args.goal.now in
    let N = TermServesNone g (terms_at bank c.args.calls.now) t in
    let holds : (has_elim classes && is_enabled_for h hints n) ≡ true =
    wanted c.is_both-wanted.result c.has_elim-class.result c.is_enabled_for-enabled.result (has_elim classes) (is_enabled_for h hints n) c.is_both-wanted.ensures c.has_elim-class.ensures c.is_enabled_for-enabled.ensures c.if-wanted.true in
    for_ok c.find_in_term.result (λ found. MatchOption found N (TermServes bank g t)) (λ found. MatchOption found ((has_elim classes && is_enabled_for h hints n) ≡ true → N) (RuleServes bank h hints g n classes t))
    (λ found told. match_mapped N ((has_elim classes && is_enabled_for h hints n) ≡ true → N) (TermServes bank g t) (RuleServes bank h hints g n classes t) found (λ none so. none) (λ served serves. record { enabled = holds; serves = serves }) told) c.find_in_term.ensures

pub returns-else-wanted : goal.returns-else-wanted
returns-else-wanted c =
    let bank = c.args.bank.now in
    let enabled = is_enabled_for (events_at bank c.args.history.now) (hints_at bank c.args.hints.now) (text_at bank c.args.name) in
    λ so.
    absurd (not_wanted c.is_both-wanted.result c.has_elim-class.result c.is_enabled_for-enabled.result (has_elim (map class_of c.args.classes.now)) enabled c.is_both-wanted.ensures c.has_elim-class.ensures c.is_enabled_for-enabled.ensures c.if-wanted.false so)
