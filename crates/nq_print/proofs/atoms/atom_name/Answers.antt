use Rattle.std.proofs.Common.{◌≤◌, length, sym, ap, ◌∙◌, arith}
use Rattle.nq_language.specs.Quotations.{atom_object}
use Rattle.nq_print.specs.Atoms.{prefixed}
use Rattle.nq_print.proofs.AtomLemmas.{prefixed-long}
use Rattle.nq_print.proofs.atoms.atom_name.Goals as goal

pub returns-then-len-eq-LONGEST : goal.returns-then-len-eq-LONGEST
returns-then-len-eq-LONGEST c =
    let front = c.loop-name.name.items in
    let long : 256 ≤ length front = omega arith in
    sym (prefixed-long front c.in-Next.code _ long) ∙ ap (λ z. atom_object (prefixed front z)) (sym c.in-Next.ensures.1) ∙ c.loop-name.invariant.same
