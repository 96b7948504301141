-- The terms that are left have an access where all of them have one.
use Rattle.std.proofs.Common.{◌≡◌, drop}
use Rattle.std.specs.List.{list_any}
use Rattle.nq_bank.specs.Content.{terms_at}
use Rattle.nq_bank.specs.Shells.{shells_at}
use Rattle.nq_eliminate.specs.Shells.{is_access_in}
use Rattle.nq_eliminate.proofs.accesses.first_access.Given as goal

abbrev pub invariant-loop-t : goal.invariant-loop-t
invariant-loop-t l = list_any (is_access_in (shells_at l.bank l.shells) (terms_at l.bank l.goal)) (terms_at l.bank (drop l.t-index l.terms)) ≡ list_any (is_access_in (shells_at l.bank l.shells) (terms_at l.bank l.goal)) (terms_at l.bank l.terms)
