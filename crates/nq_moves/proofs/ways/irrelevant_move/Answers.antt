use Rattle.std.proofs.Common.{◌≡◌, [], sym, subst}
use Rattle.std.specs.Prelude.{MatchOption, IfSome}
use Rattle.nq_bank.specs.Content.{terms_at}
use Rattle.nq_history.specs.Events.{events_at}
use Rattle.nq_kernel.specs.Growing.{WorkGrows}
use Rattle.nq_kernel.proofs.GrowingLemmas.{WorkGrows-refl}
use Rattle.nq_rule.proofs.Made.{for_ok}
use Rattle.nq_goals.specs.Dropping.{droppings_of, DropMove}
use Rattle.nq_moves.specs.declared.moved.Moved.{Moved}
use Rattle.nq_moves.specs.Dropped.{IsDropped}
use Rattle.nq_moves.specs.OfTable.{IsOfTable}
use Rattle.nq_moves.proofs.LegalLemmas.{some_match}
use Rattle.nq_moves.specs.Ways.{IsMove}
use Rattle.nq_moves.proofs.ClosingLemmas.{all_stand}
use Rattle.nq_moves.proofs.WayLemmas.{some_of, dropped_move}
use Rattle.nq_moves.proofs.ways.irrelevant_move.Goals as goal

pub drop_first-requires-clause-goal : goal.drop_first-requires-clause-goal
drop_first-requires-clause-goal c = all_stand c.args.history.now c.args.work.now c.args.goal.now c.requires.goal

pub returns-clause-moved : goal.returns-clause-moved
returns-clause-moved c =
    let h = c.args.history.now in
    let old = c.args.work.now in
    let new = c.drop_first.new.work in
    let g = c.args.goal.now in
    let P : Moved → Type 0 = IsDropped old.bank (events_at old.bank h) g in
    for_ok c.drop_first.result (λ found. MatchOption found (droppings_of (events_at old.bank h) (terms_at old.bank g) ≡ []) P) (λ found. IfSome found (IsMove h new g))
    (λ found k. some_of _ P (IsMove h new g) found (λ m is. subst (λ w. IsMove h w g m) (sym c.drop_first.ensures.same) (dropped_move h old g c.requires.goal m is)) k) c.drop_first.ensures.moved

pub returns-clause-grows : goal.returns-clause-grows
returns-clause-grows c = subst (WorkGrows c.args.history.now c.args.work.now) (sym c.drop_first.ensures.same) (WorkGrows-refl c.args.history.now c.args.work.now c.requires.stands)

pub returns-clause-legal : goal.returns-clause-legal
returns-clause-legal c =
    let old = c.args.work.now in
    let h = events_at old.bank c.args.history.now in
    let g = c.args.goal.now in
    let P : Moved → Type 0 = IsDropped old.bank h g in
    let Q : Moved → Type 0 = IsOfTable (DropMove h) old.bank c.drop_first.new.work.bank g in
    for_ok c.drop_first.result (λ found. MatchOption found (droppings_of h (terms_at old.bank g) ≡ []) P) (λ found. MatchOption found (droppings_of h (terms_at old.bank g) ≡ []) Q)
    (λ found k. some_match _ P Q found (λ m is. subst (λ w. IsOfTable (DropMove h) old.bank w.bank g m) (sym c.drop_first.ensures.same) (record { leads = λ hints path. record { group = is.group; candidate = is.candidate; leads = is.leads } })) k) c.drop_first.ensures.moved
