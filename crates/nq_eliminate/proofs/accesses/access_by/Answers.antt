use Rattle.std.proofs.Common.{sym}
use Rattle.nq_bank.specs.Content.{text_at}
use Rattle.nq_bank.specs.Shells.{shells_at}
use Rattle.nq_stuck.proofs.DestructorLemmas.{accessor_many}
use Rattle.nq_eliminate.proofs.accesses.access_by.Goals as goal

pub returns-in-len2-up : goal.returns-in-len2-up
returns-in-len2-up c =
    let bank = c.args.bank.now in
    sym (accessor_many bank (shells_at bank c.args.shells.now) (text_at bank c.args.f) c.args.arguments.now c.in-len2-up.len_at_least)
