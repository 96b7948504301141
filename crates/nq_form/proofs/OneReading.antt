-- A text has one reading.
use Rattle.std.proofs.Common.{◌≡◌, sym, ◌∙◌, ap}
use Rattle.nq_form.specs.Grammar.{OneReading}
use Rattle.nq_form.specs.Machine.{Outcome}
use Rattle.nq_form.specs.Kinds.{kind_of}
use Rattle.nq_form.proofs.Naming.{named, dot_kind, wide_run, bad_run}
use Rattle.nq_form.proofs.Outcomes.{outcome, one_outcome}

pub one_reading : OneReading
one_reading levels limit t fs gs e f p q =
    let same : outcome fs e ≡ outcome gs f = sym (one_outcome kind_of limit named dot_kind wide_run bad_run levels t fs e p) ∙ one_outcome kind_of limit named dot_kind wide_run bad_run levels t gs f q in
    (ap (λ (o : Outcome). o.forms) same, ap (λ (o : Outcome). o.ending) same)
