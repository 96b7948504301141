use Rattle.nq_bank.proofs.Growth.{Grows-trans}
use Rattle.nq_base_tests.proofs.bank.what_stands_in_many_pages_is_found_and_given_back.Goals as goal

pub release-requires : goal.release-requires
release-requires g c =
    c.mark-mark.ensures.can c.pairs-2.new.bank (Grows-trans c.loop-n.bank c.pairs.new.bank c.pairs-2.new.bank c.pairs.ensures c.pairs-2.ensures)
