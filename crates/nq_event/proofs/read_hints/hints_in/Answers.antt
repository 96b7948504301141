use Rattle.std.proofs.Common.{◌≡◌, Bool, sym, ap, ◌∙◌, subst, map}
use Rattle.std.specs.Prelude.{All, None, Some, if◌then◌else◌}
use Rattle.nq_language.specs.Refusals as language
use Rattle.nq_history.specs.Events.{events_at}
use Rattle.nq_history.proofs.HistoryLemmas.{events_at-grown, history_grown}
use Rattle.nq_events.specs.Refusals.{OfLanguage, BadHint}
use Rattle.nq_events.specs.TermRefusals.{arity_of, first, hints_forms, terms_refusal}
use Rattle.nq_events.specs.HintTerms.{instances_given}
use Rattle.nq_events.specs.HintRefusals.{hints_refusal, instances_refusal}
use Rattle.nq_history.specs.Hints.{InstanceStands}
use Rattle.nq_event.specs.EventsAt.{instance_at}
use Rattle.nq_event.specs.Hints.{hints_at}
use Rattle.nq_event.specs.HintSums.{bad_hint}
use Rattle.nq_event.specs.Readings.{IsToldOf}
use Rattle.nq_event.proofs.HintSumLemmas.{hints_same, hints_keep}
use Rattle.nq_event.proofs.EventLemmas.{none_of_two}
use Rattle.nq_event.proofs.ToldLemmas.{told_first, told_on, told_second, told_some}
use Rattle.nq_event.proofs.read_hints.hints_in.Goals as goal

pub have_large-requires-clause-history : goal.have_large-requires-clause-history
have_large-requires-clause-history c = history_grown c.args.bank.now c.hints_with_bad.new.bank c.hints_with_bad.ensures.grows c.args.history.now c.requires

pub have_large-requires-clause-instances : goal.have_large-requires-clause-instances
have_large-requires-clause-instances c = subst (All (InstanceStands c.hints_with_bad.new.bank)) (sym c.as_slice.ensures.value) c.in_ok-read.ensures.read.stand.instances

pub returns-in_err-read-clause-refused : goal.returns-in_err-read-clause-refused
returns-in_err-read-clause-refused c =
    let h = events_at c.args.bank.now c.args.history.now in
    let written = hints_at c.args.forms.now in
    let terms = terms_refusal (arity_of h) (hints_forms written) in
    let hints = first (hints_refusal h written) (instances_refusal h (instances_given h written)) in
    told_on c.from_residual.result c.in_err-read.field-0.0 (first terms hints) c.from_residual.ensures.1 (told_first terms hints c.in_err-read.field-0.0 c.in_err-read.ensures.refused)

pub returns-in-Some-clause-refused : goal.returns-in-Some-clause-refused
returns-in-Some-clause-refused c =
    let start = c.args.bank.now in
    let mid = c.hints_with_bad.new.bank in
    let h = events_at start c.args.history.now in
    let written = hints_at c.args.forms.now in
    let read = c.in_ok-read.ensures.read in
    let terms = terms_refusal (arity_of h) (hints_forms written) in
    let hints = hints_refusal h written in
    let instances = instances_refusal h (instances_given h written) in
    let bad : hints ≡ Some (BadHint c.in-Some.word.now) = sym read.bad_is ∙ ap bad_hint c.in-Some.is in
    told_second terms (first hints instances) c.refused.result read.unrefused
    (told_first hints instances c.refused.result (subst (λ r. IsToldOf r c.refused.result) (sym bad) (told_some (BadHint c.in-Some.word.now) c.refused.result c.refused.ensures)))

pub returns-then-large-clause-refused : goal.returns-then-large-clause-refused
returns-then-large-clause-refused c =
    let start = c.args.bank.now in
    let mid = c.hints_with_bad.new.bank in
    let h = events_at start c.args.history.now in
    let written = hints_at c.args.forms.now in
    let read = c.in_ok-read.ensures.read in
    let terms = terms_refusal (arity_of h) (hints_forms written) in
    let hints = hints_refusal h written in
    let instances = instances_refusal h (instances_given h written) in
    let past = events_at-grown start mid c.hints_with_bad.ensures.grows c.args.history.now c.requires.entries in
    let none : hints ≡ None = sym read.bad_is ∙ ap bad_hint c.in-None.is in
    let meant : map (instance_at mid) c.as_slice.result.now ≡ instances_given h written = ap (map (instance_at mid)) c.as_slice.ensures.value ∙ ap (λ z. z.instances) read.are in
    let size = λ (b : Bool). if b then Some (OfLanguage language.TooLarge) else None in
    let found : instances ≡ size c.in_ok-large-in-None.large = ap (instances_refusal h) (sym meant) ∙ ap (λ z. instances_refusal z (map (instance_at mid) c.as_slice.result.now)) (sym past) ∙ c.in_ok-large-in-None.ensures.is in
    let is = found ∙ ap size c.if-large.true in
    told_second terms (first hints instances) c.too_large.result read.unrefused
    (told_second hints instances c.too_large.result none (subst (λ r. IsToldOf r c.too_large.result) (sym is) (told_some (OfLanguage language.TooLarge) c.too_large.result c.too_large.ensures)))

pub returns-else-large-clause-read : goal.returns-else-large-clause-read
returns-else-large-clause-read c =
    let start = c.args.bank.now in
    let mid = c.hints_with_bad.new.bank in
    let h = events_at start c.args.history.now in
    let written = hints_at c.args.forms.now in
    let read = c.in_ok-read.ensures.read in
    let terms = terms_refusal (arity_of h) (hints_forms written) in
    let hints = hints_refusal h written in
    let instances = instances_refusal h (instances_given h written) in
    let past = events_at-grown start mid c.hints_with_bad.ensures.grows c.args.history.now c.requires.entries in
    let none : hints ≡ None = sym read.bad_is ∙ ap bad_hint c.in-None.is in
    let meant : map (instance_at mid) c.as_slice.result.now ≡ instances_given h written = ap (map (instance_at mid)) c.as_slice.ensures.value ∙ ap (λ z. z.instances) read.are in
    let size = λ (b : Bool). if b then Some (OfLanguage language.TooLarge) else None in
    let found : instances ≡ size c.in_ok-large-in-None.large = ap (instances_refusal h) (sym meant) ∙ ap (λ z. instances_refusal z (map (instance_at mid) c.as_slice.result.now)) (sym past) ∙ c.in_ok-large-in-None.ensures.is in
    let is = found ∙ ap size c.if-large.false in
    let new = c.have_large.new.bank in
    record {
      stands = hints_keep mid new c.have_large.ensures.grows c.in_ok-read.read.hints read.stand;
      unrefused = none_of_two terms (first hints instances) read.unrefused (none_of_two hints instances none is);
      is = hints_same mid new c.have_large.ensures.grows c.in_ok-read.read.hints read.stand ∙ read.are;
    }
