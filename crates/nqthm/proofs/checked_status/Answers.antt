use Rattle.std.proofs.Common.{◌≡◌, ap, sym}
use Rattle.std.specs.Prelude.{Err}
use Rattle.nq_check.specs.declared.verdict.CheckFault.{CheckFault}
use Rattle.nq_check.specs.declared.verdict.CheckFault.TheVariants.{TooLong}
use Rattle.nqthm.specs.Commands.{check_status}
use Rattle.nqthm.proofs.Endings.{has_checked}
use Rattle.nqthm.proofs.checked_status.Goals as goal

pub returns-in-Err-TooLong-clause-checked : goal.returns-in-Err-TooLong-clause-checked
returns-in-Err-TooLong-clause-checked g c =
    let same : c.in-Err-TooLong.field-0 ≡ TooLong = cc in
    has_checked _ _ _ (Err c.in-Err-TooLong.field-0) 7 (ap (λ (f : CheckFault). check_status (Err f)) (sym same)) c.in-Err-TooLong.ensures.checks
