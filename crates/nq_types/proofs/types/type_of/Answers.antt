use Rattle.std.proofs.Common.{subst}
use Rattle.std.specs.Prelude.{MatchOption, ℕ}
use Rattle.nq_rule.proofs.Made.{for_ok}
use Rattle.nq_bank.specs.Content.{term_at, terms_at}
use Rattle.nq_history.specs.Events.{events_at}
use Rattle.nq_kernel.proofs.GrowingLemmas.{WorkGrows-trans}
use Rattle.nq_lines.proofs.TermLemmas.{term_grown}
use Rattle.nq_types.specs.Kinds.{IsOfKind}
use Rattle.nq_types.specs.Shown.{IsExact, IsKnown, IsShown}
use Rattle.nq_types.proofs.SetLemmas.{known_exact, known_shown}
use Rattle.nq_types.proofs.TypeLemmas.{all_grown, ready_grown, room_grown, shown_before}
use Rattle.nq_types.proofs.types.type_of.Goals as goal

pub guessed_type-requires-clause-room : goal.guessed_type-requires-clause-room
guessed_type-requires-clause-room c = room_grown c.args.history.now c.args.work.now c.exact_type.new.work c.requires.stands c.exact_type.ensures.grows c.requires.room

pub guessed_type-requires-clause-ready : goal.guessed_type-requires-clause-ready
guessed_type-requires-clause-ready c = ready_grown c.args.history.now c.args.work.now c.exact_type.new.work c.requires.stands c.exact_type.ensures.grows c.requires.ready

pub guessed_type-requires-clause-assumed : goal.guessed_type-requires-clause-assumed
guessed_type-requires-clause-assumed c = all_grown c.args.history.now c.args.work.now c.exact_type.new.work c.requires.stands c.exact_type.ensures.grows c.args.assumed.now c.requires.assumed

pub guessed_type-requires-clause-term : goal.guessed_type-requires-clause-term
guessed_type-requires-clause-term c = term_grown c.args.history.now c.args.work.now c.exact_type.new.work c.args.t c.requires.stands c.exact_type.ensures.grows c.requires.term

pub returns-in-None-clause-shown : goal.returns-in-None-clause-shown
returns-in-None-clause-shown c = shown_before c.args.history.now c.args.work.now c.exact_type.new.work c.requires.stands c.exact_type.ensures.grows c.guessed_type.new.work c.args.assumed.now c.args.t c.guessed_type.result c.requires.assumed c.requires.term c.guessed_type.ensures.shown

pub returns-in-None-clause-grows : goal.returns-in-None-clause-grows
returns-in-None-clause-grows c = (WorkGrows-trans c.args.history.now c.args.work.now c.exact_type.new.work c.guessed_type.new.work c.exact_type.ensures.grows c.guessed_type.ensures.grows)

pub returns-in-Some-clause-shown : goal.returns-in-Some-clause-shown
returns-in-Some-clause-shown c =
    let bank = c.args.work.now.bank in
    let h = events_at bank c.args.history.now in
    let t = term_at bank c.args.t in
    let w1 = c.exact_type.new.work in
    known_shown h w1 (terms_at bank c.args.assumed.now) t c.in-Some.found c.requires.room (subst (λ o. MatchOption o ((k : ℕ) → IsOfKind h t k → ⊥) (IsKnown h w1 t)) c.in-Some.is c.in_ok-found.ensures.known)

pub returns-in-Some-clause-exact : goal.returns-in-Some-clause-exact
returns-in-Some-clause-exact c =
    let bank = c.args.work.now.bank in
    let h = events_at bank c.args.history.now in
    let t = term_at bank c.args.t in
    let w1 = c.exact_type.new.work in
    known_exact h w1 t c.in-Some.found c.requires.ready (subst (λ o. MatchOption o ((k : ℕ) → IsOfKind h t k → ⊥) (IsKnown h w1 t)) c.in-Some.is c.in_ok-found.ensures.known)

pub returns-in-None-clause-exact : goal.returns-in-None-clause-exact
returns-in-None-clause-exact c =
    let bank = c.args.work.now.bank in
    let h = events_at bank c.args.history.now in
    let t = term_at bank c.args.t in
    let w1 = c.exact_type.new.work in
    let w2 = c.guessed_type.new.work in
    let none : (k : ℕ) → IsOfKind h t k → ⊥ = subst (λ o. MatchOption o ((k : ℕ) → IsOfKind h t k → ⊥) (IsKnown h w1 t)) c.in-None.is c.in_ok-found.ensures.known in
    for_ok c.guessed_type.result (IsShown (events_at w1.bank c.args.history.now) w2 (terms_at w1.bank c.args.assumed.now) (term_at w1.bank c.args.t)) (IsExact h t) (λ r s. λ k w. absurd (none k w)) c.guessed_type.ensures.shown
