use Rattle.std.proofs.Common.{◌∙◌, ap, sym}
use Rattle.std.specs.Option.{option_copied}
use Rattle.nq_lines.proofs.IdLemmas.{only_found}
use Rattle.nq_lines.proofs.only.has_only.Goals as goal

pub returns-in-Some : goal.returns-in-Some
returns-in-Some c = λ h. only_found c.args.work.now c.args.line c.in-Some.found.now c.args.literals.now (sym c.cited.ensures ∙ ap option_copied c.in-Some.is) (sym c.are_among.ensures ∙ h)
