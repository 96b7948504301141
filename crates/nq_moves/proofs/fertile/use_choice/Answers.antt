use Rattle.std.proofs.Common.{◌≡◌, [], ◌∷◌}
use Rattle.nq_history.specs.Events.{events_at}
use Rattle.nq_kernel.proofs.GrowingLemmas.{WorkGrows-refl}
use Rattle.nq_rule.proofs.Made.{for_ok}
use Rattle.nq_goals.specs.Fertilizing.{FertilizeMove}
use Rattle.nq_moves.specs.Found.{goals_at}
use Rattle.nq_moves.specs.OfTable.{IsOfTable}
use Rattle.nq_moves.specs.Swapped.{swapped_goal}
use Rattle.nq_moves.proofs.FertileLemmas.{fertile_reading, no_value_of, crosses}
use Rattle.nq_moves.proofs.LegalLemmas.{fertilized}
use Rattle.nq_moves.proofs.fertile.use_choice.Goals as goal

pub crossing_of-requires-clause-no_value : goal.crossing_of-requires-clause-no_value
crossing_of-requires-clause-no_value c = no_value_of c.args.work.now.bank c.args.goal.now c.args.choice.reading c.requires.choice.among

pub returns-in_err-crossing-clause-grows : goal.returns-in_err-crossing-clause-grows
returns-in_err-crossing-clause-grows c = WorkGrows-refl c.args.history.now c.args.work.now c.requires.stands

pub swap_sides-requires-clause-reading : goal.swap_sides-requires-clause-reading
swap_sides-requires-clause-reading c = fertile_reading c.args.history.now c.args.work.now c.args.goal.now c.requires.goal c.args.choice.reading c.requires.choice.stands c.requires.choice.among

pub swap_sides-requires-clause-no_value : goal.swap_sides-requires-clause-no_value
swap_sides-requires-clause-no_value c = no_value_of c.args.work.now.bank c.args.goal.now c.args.choice.reading c.requires.choice.among

pub returns-clause-legal : goal.returns-clause-legal
returns-clause-legal c =
    let h = c.args.history.now in
    let old = c.args.work.now in
    let new = c.swap_sides.new.work in
    let g = c.args.goal.now in
    let r = c.args.choice.reading in
    let crossing = c.in_ok-crossing.crossing in
    for_ok c.swap_sides.result (λ m. goals_at new.bank m.children.items ≡ swapped_goal old.bank r crossing g ∷ []) (IsOfTable (FertilizeMove (events_at old.bank h)) old.bank new.bank g)
    (λ m is. fertilized old.bank r (events_at old.bank h) new.bank g crossing m c.requires.choice.among (crosses h old g r crossing c.in_ok-crossing.ensures.crossing c.in_ok-crossing.ensures.holds) is) c.swap_sides.ensures.leads
