use Rattle.std.proofs.Common.{ap, ◌∙◌, subst, refl}
use Rattle.std.specs.Prelude.{None, Some, ◌&&◌, not, if◌then◌else◌}
use Rattle.nq_events.specs.Refusals.{BadHint}
use Rattle.nq_events.specs.HintRefusals.{stands_twice}
use Rattle.nq_history.specs.Events.{events_at}
use Rattle.nq_history.proofs.HistoryLemmas.{events_at-grown, history_grown}
use Rattle.nq_events.specs.TermRefusals.{arity_of, first, hint_forms, hints_forms, terms_refusal}
use Rattle.nq_events.specs.WrittenHints.{WrittenHint}
use Rattle.nq_event.specs.Hints.{hint_at, hints_at, words_at}
use Rattle.nq_event.specs.HintSums.{bad_hint, IsAdded}
use Rattle.nq_event.specs.Readings.{IsToldOf}
use Rattle.nq_event.proofs.ToldLemmas.{told_on}
use Rattle.nq_event.proofs.HintLoopLemmas.{no_hint_so_far, one_hint, one_hint_told, all_hints}
use Rattle.nq_event.proofs.read_hints.hints_with_bad.Goals as goal

pub loop-form-init : goal.loop-form-init
loop-form-init c =
    let bank = c.args.bank.now in
    record {
      history = c.requires;
      read = no_hint_so_far (events_at bank c.args.history.now) bank c.args.forms.now c.no_hints-hints.result None (c.no_hints-hints.ensures.stand bank) (c.no_hints-hints.ensures.are bank) refl;
    }

pub loop-form-preserved : goal.loop-form-preserved
loop-form-preserved c =
    let start = c.args.bank.now in
    let bank = c.loop-form.bank in
    let new = c.add_hint.new.bank in
    let h = events_at start c.args.history.now in
    let forms = c.args.forms.now in
    let f = c.form-item.result in
    let good = c.in_ok-is_good.is_good in
    let twice = c.stands_twice.result in
    let past = events_at-grown start bank c.loop-form.invariant.read.grows c.args.history.now c.requires.entries in
    let kind = hint_at c.hint_or_none-hint.result in
    let same = c.hint_or_none-hint.ensures in
    let added = subst (λ (z : WrittenHint). IsAdded h bank new z.kind c.loop-form.hints c.add_hint.new.hints good) same (subst (λ z. IsAdded z bank new kind.kind c.loop-form.hints c.add_hint.new.hints good) past c.in_ok-is_good.ensures.added) in
    record {
      history = history_grown bank new c.add_hint.ensures.grows c.args.history.now c.loop-form.invariant.history;
      read =
          one_hint h start forms bank new c.loop-form.form-index f c.loop-form.hints c.add_hint.new.hints c.loop-form.bad c.loop-form-test.true c.form-item.is c.loop-form.invariant.read c.first_bad-bad.result good twice
          c.add_hint.ensures.grows added
          (c.stands_twice.ensures ∙ ap (λ (z : WrittenHint). stands_twice z.word (words_at forms)) same)
          (c.first_bad-bad.ensures ∙ ap (λ (z : WrittenHint). first (bad_hint c.loop-form.bad) (if good && not twice then None else Some (BadHint z.word))) same);
    }

pub returns-in_err-is_good-clause-refused : goal.returns-in_err-is_good-clause-refused
returns-in_err-is_good-clause-refused c =
    let start = c.args.bank.now in
    let bank = c.loop-form.bank in
    let h = events_at start c.args.history.now in
    let forms = c.args.forms.now in
    let came = c.in_err-is_good.field-0.0 in
    let past = events_at-grown start bank c.loop-form.invariant.read.grows c.args.history.now c.requires.entries in
    let told = subst (λ (z : WrittenHint). IsToldOf (terms_refusal (arity_of h) (hint_forms z.kind)) came) c.hint_or_none-hint.ensures (subst (λ z. IsToldOf (terms_refusal (arity_of z) (hint_forms (hint_at c.hint_or_none-hint.result).kind)) came) past c.in_err-is_good.ensures.refused) in
    told_on c.from_residual.result came (terms_refusal (arity_of h) (hints_forms (hints_at forms))) c.from_residual.ensures.1
    (one_hint_told h start forms bank c.add_hint.new.bank c.loop-form.form-index c.form-item.result c.loop-form.hints c.add_hint.new.hints c.loop-form.bad c.loop-form-test.true c.form-item.is c.loop-form.invariant.read came told)

pub returns-clause-read : goal.returns-clause-read
returns-clause-read c = all_hints (events_at c.args.bank.now c.args.history.now) c.args.bank.now c.args.forms.now c.loop-form.bank c.loop-form.form-index c.loop-form.hints c.loop-form.bad c.loop-form-test.false c.loop-form.invariant.read
