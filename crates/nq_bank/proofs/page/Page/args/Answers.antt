use Rattle.std.proofs.Common.{◌∙◌, ap}
use Rattle.nq_bank.specs.Entries.{Stored}
use Rattle.nq_bank.proofs.page.Page.args.Goals as goal

pub returns : goal.returns
returns c = c.arguments_of.ensures ∙ ap (λ (e : Stored). e.arguments) c.laid_at.ensures
