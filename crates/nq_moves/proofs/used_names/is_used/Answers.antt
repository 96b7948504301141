use Rattle.std.proofs.Common.{◌∙◌}
use Rattle.nq_moves.proofs.UsedLemmas.{kept_as}
use Rattle.nq_moves.proofs.used_names.is_used.Goals as goal

pub returns : goal.returns
returns c = λ clause names. c.contains_key.ensures ∙ kept_as c.args.bank.now c.args.names.now c.args.s clause c.is_sound.ensures c.requires names
