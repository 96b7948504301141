use Rattle.std.proofs.Common.{◌≡◌, ◌++◌, ◌∙◌, List, sym, ap, ap₂, subst}
use Rattle.std.specs.Prelude.{All}
use Rattle.std.proofs.lemmas.List.{map-append}
use Rattle.nq_logic.specs.Terms.{Term}
use Rattle.nq_bank.specs.declared.node.TermId.{TermId}
use Rattle.nq_bank.specs.Content.{term_at, terms_at}
use Rattle.nq_lines.specs.Lines.{IsTermIn}
use Rattle.nq_lines.specs.declared.facts.Fact.{Fact}
use Rattle.nq_elim.specs.Reasons.{denied_at}
use Rattle.nq_elim.proofs.ListLemmas.{all_append}
use Rattle.nq_elim.proofs.GrownLemmas.{terms_grown}
use Rattle.nq_elim.proofs.ReasonLemmas.{rest_in, same_rest}
use Rattle.nq_rule.proofs.Made.{for_ok}
use Rattle.nq_elim.proofs.denials.whole_goal.Goals as goal

pub denied_facts-requires-clause-facts : goal.denied_facts-requires-clause-facts
denied_facts-requires-clause-facts c =
    subst (All (λ (f : Fact). IsTermIn c.args.history.now c.args.work.now f.term)) (sym c.as_slice.ensures.value) (λ i d below. (c.requires.reason.facts i d below).term)

pub returns-clause-literals : goal.returns-clause-literals
returns-clause-literals c =
    let h = c.args.history.now in
    let old = c.args.work.now in
    let new = c.denied_facts.new.work in
    let rest : List TermId = c.args.reason.now.rest.items in
    let denials : List TermId = c.in_ok-denials.denials.items in
    let whole = c.joined.result in
    let told : terms_at new.bank denials ≡ denied_at old.bank c.args.reason.now.facts.items = c.in_ok-denials.ensures.literals ∙ ap (denied_at old.bank) c.as_slice.ensures.value in
    for_ok c.joined.result (λ v. v.items ≡ c.as_slice-2.result.now ++ c.as_slice-3.result.now) (λ v. terms_at new.bank v.items ≡ denied_at old.bank c.args.reason.now.facts.items ++ terms_at old.bank rest)
    (λ v is. ap (terms_at new.bank) (is ∙ ap₂ (λ (a b : List TermId). a ++ b) c.as_slice-2.ensures.value c.as_slice-3.ensures.value) ∙ map-append (term_at new.bank) denials rest ∙
    ap₂ (λ (a b : List Term). a ++ b) told (same_rest h old new c.requires.stands c.denied_facts.ensures.grows c.args.goal.now c.requires.goal c.args.reason.now c.requires.reason)) c.joined.ensures.ok

pub returns-clause-over : goal.returns-clause-over
returns-clause-over c =
    let h = c.args.history.now in
    let old = c.args.work.now in
    let new = c.denied_facts.new.work in
    let P : TermId → Type 0 = IsTermIn h new in
    let rest : List TermId = c.args.reason.now.rest.items in
    let denials : List TermId = c.in_ok-denials.denials.items in
    for_ok c.joined.result (λ v. v.items ≡ c.as_slice-2.result.now ++ c.as_slice-3.result.now) (λ v. All P v.items)
    (λ v is. subst (All P) (sym (is ∙ ap₂ (λ (a b : List TermId). a ++ b) c.as_slice-2.ensures.value c.as_slice-3.ensures.value))
    (all_append P denials rest c.in_ok-denials.ensures.over (terms_grown h old new c.requires.stands c.denied_facts.ensures.grows rest (rest_in h old c.args.goal.now c.args.reason.now c.requires.goal c.requires.reason)))) c.joined.ensures.ok
