use Rattle.std.proofs.Common.{sym, subst}
use Rattle.nq_clause.proofs.RoomLemmas.{room_of_names}
use Rattle.nq_bank.specs.Content.{terms_at}
use Rattle.nq_clause.specs.Subsumption.{HasRoom}
use Rattle.nq_legal.proofs.above.subsumes_by.Goals as goal

pub subsumes-requires-clause-room : goal.subsumes-requires-clause-room
subsumes-requires-clause-room c =
    subst (λ ids. HasRoom c.args.buf.now.cap (terms_at c.args.bank.now ids)) (sym c.as_slice.ensures.value)
    (room_of_names c.args.bank.now c.args.buf.now.cap c.args.above.now.goal.items c.is_sound.ensures c.requires.room c.requires.above)
