use Rattle.std.proofs.Common.{◌≡◌, [], ◌∷◌, ◌∙◌, ap}
use Rattle.nq_bank.specs.Content.{terms_at}
use Rattle.nq_rule.proofs.Made.{for_ok}
use Rattle.nq_moves.specs.Found.{goals_at}
use Rattle.nq_moves.specs.Swapped.{swapped_goal}
use Rattle.nq_moves.specs.Ways.{IsMove}
use Rattle.nq_moves.proofs.SwappedLemmas.{swapping_is}
use Rattle.nq_moves.proofs.WayLemmas.{swapped_move, four_ok}
use Rattle.nq_moves.proofs.swapping.swap_sides.Goals as goal

pub returns-clause-moved : goal.returns-clause-moved
returns-clause-moved c =
    let h = c.args.history.now in
    let old = c.args.work.now in
    let new = c.swap_in_goal.new.work in
    let child = c.in_ok-child.child in
    let swapping = swapping_is h old c.args.goal.now c.args.r c.args.crossing (terms_at new.bank child.items) c.in_ok-child.ensures.child c.requires.reading c.requires.no_value c.requires.crossing in
    four_ok c.moved_by_swapping.result _ _ _ _ (IsMove h new c.args.goal.now)
    (λ m kind children literals crossing. swapped_move h old new c.requires.stands c.swap_in_goal.ensures.grows c.args.goal.now c.requires.goal c.args.r c.args.crossing child m swapping c.in_ok-child.ensures.over kind children literals crossing)
    c.moved_by_swapping.ensures.kind c.moved_by_swapping.ensures.children c.moved_by_swapping.ensures.literals c.moved_by_swapping.ensures.crossing

pub returns-clause-leads : goal.returns-clause-leads
returns-clause-leads c =
    let old = c.args.work.now in
    let new = c.swap_in_goal.new.work in
    let child = c.in_ok-child.child in
    for_ok c.moved_by_swapping.result (λ m. m.children.items ≡ child ∷ []) (λ m. goals_at new.bank m.children.items ≡ swapped_goal old.bank c.args.r c.args.crossing c.args.goal.now ∷ [])
    (λ m is. ap (goals_at new.bank) is ∙ ap (λ t. t ∷ []) c.in_ok-child.ensures.child) c.moved_by_swapping.ensures.children
