use Rattle.std.proofs.Common.{◌∷◌, [], map, refl, ap, ◌∙◌, subst}
use Rattle.std.specs.Prelude.{◌<◌, Err}
use Rattle.nq_logic.specs.Terms.{Term, call, substituted}
use Rattle.nq_logic.specs.Sizes.{depth_of, depth_limit}
use Rattle.nq_bank.specs.declared.node.BankFault.TheVariants.{Deep}
use Rattle.nq_bank.specs.Content.{Gives, IsIdOf, text_at, terms_at}
use Rattle.nq_bank.proofs.Growth.{Grows-trans, term_at-grown}
use Rattle.nq_bank.proofs.Standing.{passed_on}
use Rattle.nq_events.specs.HintRefusals.{defining_equation}
use Rattle.nq_event.specs.Definitions.{definition_at}
use Rattle.nq_event.specs.EventsAt.{pair_at}
use Rattle.nq_event.proofs.ToldLemmas.{ok_on}
use Rattle.nq_event.proofs.LargeLemmas.{call_same, body_same, equation_made, deep_call, deep_body}
use Rattle.nq_event.proofs.replaced.equation.Goals as goal

pub returns-in_err-call-clause-deep : goal.returns-in_err-call-clause-deep
returns-in_err-call-clause-deep c =
    λ e.
    let start = c.args.bank.now in
    let pairs = c.args.pairs.now in
    let d = c.args.definition.now in
    let same = call_same start c.values_of.new.bank c.values_of.ensures.grows pairs c.requires.pairs d c.requires.definition c.as_slice.result.now c.in-Ok.values.items c.as_slice.ensures.value c.in-Ok.ensures.are in
    deep_call (map (pair_at start) pairs) (definition_at start d)
    (subst (λ (t : Term). depth_limit < depth_of t) same (c.app.ensures.deep.0 (c.in_err-call.was ∙ ap Err (passed_on c.from_residual.result c.in_err-call.field-0.0 Deep c.from_residual.ensures.1 e))))

pub returns-in_err-body-clause-deep : goal.returns-in_err-body-clause-deep
returns-in_err-body-clause-deep c =
    λ e.
    let start = c.args.bank.now in
    let mid = c.app.new.self in
    let pairs = c.args.pairs.now in
    let d = c.args.definition.now in
    let grows = Grows-trans start c.values_of.new.bank mid c.values_of.ensures.grows c.in_ok-call.ensures.ok.grows in
    let same = body_same start mid grows pairs c.requires.pairs d c.requires.definition in
    deep_body (map (pair_at start) pairs) (definition_at start d)
    (subst (λ (t : Term). depth_limit < depth_of t) same (c.replaced.ensures.deep (c.in_err-body.was ∙ ap Err (passed_on c.from_residual-in_err-body.result c.in_err-body.field-0.0 Deep c.from_residual-in_err-body.ensures.1 e))))

pub returns-clause-ok : goal.returns-clause-ok
returns-clause-ok c =
    let start = c.args.bank.now in
    let second = c.app.new.self in
    let third = c.replaced.new.bank in
    let pairs = c.args.pairs.now in
    let d = c.args.definition.now in
    let call_id = c.in_ok-call.call in
    let body_id = c.in_ok-body.body in
    let called = c.in_ok-call.ensures.ok in
    let until = Grows-trans start c.values_of.new.bank second c.values_of.ensures.grows called.grows in
    let grows = Grows-trans start second third until c.replaced.ensures.grows in
    let same = call_same start c.values_of.new.bank c.values_of.ensures.grows pairs c.requires.pairs d c.requires.definition c.as_slice.result.now c.in-Ok.values.items c.as_slice.ensures.value c.in-Ok.ensures.are in
    let left = term_at-grown second third call_id c.replaced.ensures.grows called.id.stands ∙ called.id.denotes ∙ same in
    let right = c.in_ok-body.ensures.ok.denotes ∙ body_same start second until pairs c.requires.pairs d c.requires.definition in
    let made = equation_made start third grows pairs c.requires.pairs d c.requires.definition (record { 0 = 4 }) call_id body_id c.is_sound.ensures refl left right in
    let fourth = c.app-2.new.self in
    ok_on c.app-2.result (λ r. Gives third fourth r (call (text_at third (record { 0 = 4 })) (terms_at third (call_id ∷ body_id ∷ []))))
    (λ r. IsIdOf fourth r (substituted (map (pair_at start) pairs) (defining_equation (definition_at start d)))) (λ r g. subst (IsIdOf fourth r) made g.id) c.app-2.ensures.ok

pub returns-clause-deep : goal.returns-clause-deep
returns-clause-deep c =
    λ e.
    let start = c.args.bank.now in
    let second = c.app.new.self in
    let third = c.replaced.new.bank in
    let pairs = c.args.pairs.now in
    let d = c.args.definition.now in
    let call_id = c.in_ok-call.call in
    let body_id = c.in_ok-body.body in
    let called = c.in_ok-call.ensures.ok in
    let until = Grows-trans start c.values_of.new.bank second c.values_of.ensures.grows called.grows in
    let grows = Grows-trans start second third until c.replaced.ensures.grows in
    let same = call_same start c.values_of.new.bank c.values_of.ensures.grows pairs c.requires.pairs d c.requires.definition c.as_slice.result.now c.in-Ok.values.items c.as_slice.ensures.value c.in-Ok.ensures.are in
    let left = term_at-grown second third call_id c.replaced.ensures.grows called.id.stands ∙ called.id.denotes ∙ same in
    let right = c.in_ok-body.ensures.ok.denotes ∙ body_same start second until pairs c.requires.pairs d c.requires.definition in
    let made = equation_made start third grows pairs c.requires.pairs d c.requires.definition (record { 0 = 4 }) call_id body_id c.is_sound.ensures refl left right in
    subst (λ (t : Term). depth_limit < depth_of t) made (c.app-2.ensures.deep.0 e)
