use Rattle.std.proofs.Common.{List, subst}
use Rattle.nq_logic.specs.Terms.{Term}
use Rattle.nq_bank.proofs.Growth.{terms_at-grown}
use Rattle.nq_lines.specs.Lines.{LineHasOnly}
use Rattle.nq_descents.proofs.descents.descent_line.Goals as goal

pub returns-then-has_only-clause-line : goal.returns-then-has_only-clause-line
returns-then-has_only-clause-line c =
    subst (λ (ts : List Term). LineHasOnly c.tried_line.new.work c.in-Ok.line ts) (terms_at-grown c.args.work.now.bank c.tried_line.new.work.bank c.args.literals.now c.tried_line.ensures.grows.bank c.requires.literals) (c.has_only.ensures c.if-has_only.true)
