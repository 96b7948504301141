use Rattle.std.proofs.Common.{◌-◌, length, drop, ap, ◌∙◌, arith}
use Rattle.std.proofs.lemmas.List.{take_all, length-drop}
use Rattle.nq_history.specs.Events.{ground_length}
use Rattle.nq_history.proofs.history.History.past_ground.Goals as goal

pub returns : goal.returns
returns c =
    let xs = c.deref.result.now in
    let size = length-drop ground_length xs in
    take_all (length xs - ground_length) (drop ground_length xs) (omega (arith, size)) ∙ ap (drop ground_length) (c.deref.ensures.value ∙ c.self.view_is)
