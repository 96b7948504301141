use Rattle.std.proofs.Common.{◌≡◌, ◌∙◌, sym, ap, subst, get_or, Option, true, false}
use Rattle.std.specs.Prelude.{MatchOption}
use Rattle.std.proofs.lemmas.List.{drop_all}
use Rattle.nq_logic.specs.Histories.{History}
use Rattle.nq_bank.specs.declared.node.TermId.{TermId}
use Rattle.nq_bank.specs.Content.{Content, term_at, terms_at}
use Rattle.nq_history.specs.Events.{events_at}
use Rattle.nq_moves.specs.declared.dropping.Dropped.{Dropped}
use Rattle.nq_goals.specs.Dropping.{group_of, can_drop, droppings_from}
use Rattle.nq_moves.specs.Dropped.{IsDroppedGroup}
use Rattle.nq_moves.proofs.DroppingLemmas.{none_here, found_here}
use Rattle.nq_moves.proofs.dropping.find_group.Goals as goal

pub loop-t-preserved : goal.loop-t-preserved
loop-t-preserved c =
    let first : TermId = record { 0 = 0 } in
    let bank : Content = c.args.bank.now in
    let h : History = events_at bank c.args.history.now in
    let goal_at = terms_at bank c.args.goal.now in
    let group = group_of goal_at (term_at bank (get_or c.args.goal.now c.loop-t.t-index first)) in
    let Told : Option Dropped → Type 0 = λ o. MatchOption o (can_drop h goal_at group ≡ false) (λ d. (can_drop h goal_at group ≡ true) × IsDroppedGroup bank goal_at group d) in
    none_here h bank c.args.goal.now c.loop-t.t-index first c.loop-t-test.true (subst Told c.in_default.is c.in_ok-found.ensures.dropped) c.loop-t.invariant

pub returns-in-Some-clause-found : goal.returns-in-Some-clause-found
returns-in-Some-clause-found c =
    let first : TermId = record { 0 = 0 } in
    let bank : Content = c.args.bank.now in
    let h : History = events_at bank c.args.history.now in
    let goal_at = terms_at bank c.args.goal.now in
    let group = group_of goal_at (term_at bank (get_or c.args.goal.now c.loop-t.t-index first)) in
    let Told : Option Dropped → Type 0 = λ o. MatchOption o (can_drop h goal_at group ≡ false) (λ d. (can_drop h goal_at group ≡ true) × IsDroppedGroup bank goal_at group d) in
    let told : (can_drop h goal_at group ≡ true) × IsDroppedGroup bank goal_at group c.in-Some.found = subst Told c.in-Some.is c.in_ok-found.ensures.dropped in
    record { group = group; candidate = found_here h bank c.args.goal.now c.loop-t.t-index first c.loop-t-test.true told.0 c.loop-t.invariant; drops = told.1 }

pub returns-clause-found : goal.returns-clause-found
returns-clause-found c =
    let bank : Content = c.args.bank.now in
    sym c.loop-t.invariant ∙ ap (λ ids. droppings_from (events_at bank c.args.history.now) (terms_at bank c.args.goal.now) (terms_at bank ids)) (drop_all c.loop-t.t-index c.args.goal.now c.loop-t-test.false)
