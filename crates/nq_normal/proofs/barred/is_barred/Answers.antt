use Rattle.std.proofs.Common.{◌≡◌, true, false, sym, ap, ◌∙◌}
use Rattle.nq_logic.specs.Values.{is_value}
use Rattle.nq_normal.proofs.Walks.{numeral_value}
use Rattle.nq_normal.proofs.barred.is_barred.Goals as goal

pub returns-in-Num : goal.returns-in-Num
returns-in-Num c =
    let never : true ≡ false = sym (ap is_value c.in-Num.ensures.head.1 ∙ numeral_value c.in-Num.field-0 c.in-Num.ensures.head.0) ∙ c.requires.value in absurd cc
