use Rattle.std.proofs.Common.{List}
use Rattle.nq_logic.specs.Terms.{Term}
use Rattle.nq_rule.proofs.Made.{for_ok}
use Rattle.nq_bank.specs.Content.{term_at, terms_at}
use Rattle.nq_history.specs.Events.{events_at}
use Rattle.nq_kernel.proofs.GrowingLemmas.{WorkGrows-refl}
use Rattle.nq_types.specs.Shown.{IsShown}
use Rattle.nq_types.proofs.types.told_type.Goals as goal

pub returns-in-Some-shown_type-clause-grows : goal.returns-in-Some-shown_type-clause-grows
returns-in-Some-shown_type-clause-grows c = WorkGrows-refl c.args.history.now c.args.work.now c.requires.stands

pub returns-in-None-shown_type-clause-shown : goal.returns-in-None-shown_type-clause-shown
returns-in-None-shown_type-clause-shown c =
    let bank = c.args.work.now.bank in
    let h = events_at bank c.args.history.now in
    let new = c.any_type.new.work in
    for_ok c.any_type.result (λ r. (assumed : List Term) (t : Term) → IsShown h new assumed t r) (IsShown h new (terms_at bank c.args.assumed.now) (term_at bank c.args.t)) (λ r f. f (terms_at bank c.args.assumed.now) (term_at bank c.args.t)) c.any_type.ensures.shown

pub returns-in-None-clause-shown : goal.returns-in-None-clause-shown
returns-in-None-clause-shown c =
    let bank = c.args.work.now.bank in
    let h = events_at bank c.args.history.now in
    let new = c.any_type-in-None.new.work in
    for_ok c.any_type-in-None.result (λ r. (assumed : List Term) (t : Term) → IsShown h new assumed t r) (IsShown h new (terms_at bank c.args.assumed.now) (term_at bank c.args.t)) (λ r f. f (terms_at bank c.args.assumed.now) (term_at bank c.args.t)) c.any_type-in-None.ensures.shown
