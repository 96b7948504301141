use Rattle.std.proofs.Common.{length, take, drop, ◌-◌}
use Rattle.nq_bank.specs.Content.{text_at}
use Rattle.nq_stuck.proofs.Names.{first_apart, found_first, found_later}
use Rattle.nq_stuck.proofs.shells.+is_accessor.Goals as goal

pub returns-then-is_part : goal.returns-then-is_part
returns-then-is_part t c =
    let xs = c.args.shells.now in
    let s = c.first-item.result in
    found_first c.args.bank.now (text_at c.args.bank.now c.args.f) xs s c.as_slice.result.now (take (length xs - 1) (drop 1 xs)) c.is_part.result
    (first_apart xs s c.in-len1-up.len_at_least c.first-item.is) c.as_slice.ensures.value c.if-is_part.true c.is_part.ensures

pub returns-else-is_part : goal.returns-else-is_part
returns-else-is_part t c =
    let xs = c.args.shells.now in
    let s = c.first-item.result in
    found_later c.args.bank.now (text_at c.args.bank.now c.args.f) xs s c.as_slice.result.now (take (length xs - 1) (drop 1 xs)) c.is_part.result c.is_accessor.result
    (first_apart xs s c.in-len1-up.len_at_least c.first-item.is) c.as_slice.ensures.value c.if-is_part.false c.is_part.ensures c.is_accessor.ensures
