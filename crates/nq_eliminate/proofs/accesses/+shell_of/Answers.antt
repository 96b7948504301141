use Rattle.std.proofs.Common.{length, take, drop, ◌-◌}
use Rattle.nq_bank.specs.Content.{text_at}
use Rattle.nq_stuck.proofs.Names.{first_apart}
use Rattle.nq_eliminate.proofs.AccessLemmas.{accessor_later}
use Rattle.nq_eliminate.proofs.accesses.+shell_of.Goals as goal

pub returns-else-is_part : goal.returns-else-is_part
returns-else-is_part t c =
    let xs = c.args.shells.now in
    let s = c.first-item.result in
    accessor_later c.args.bank.now (text_at c.args.bank.now c.args.f) xs s c.as_slice.result.now (take (length xs - 1) (drop 1 xs)) c.is_part.result c.shell_of.result (λ r. r.now)
    (first_apart xs s c.in-len1-up.len_at_least c.first-item.is) c.as_slice.ensures.value c.if-is_part.false c.is_part.ensures c.shell_of.ensures
