use Rattle.nq_moves.proofs.UsedLemmas.{name_added, still_named}
use Rattle.nq_moves.proofs.used_names.keep_name.Goals as goal

pub returns-clause-adds : goal.returns-clause-adds
returns-clause-adds c = name_added c.args.bank.now c.args.names.now c.insert.new.self c.args.s c.is_sound.ensures c.requires.name c.in_ok-insert.ensures.updates

pub returns-clause-named : goal.returns-clause-named
returns-clause-named c = still_named c.args.bank.now c.args.names.now c.insert.new.self c.args.s c.requires.name c.requires.named c.in_ok-insert.ensures.updates
