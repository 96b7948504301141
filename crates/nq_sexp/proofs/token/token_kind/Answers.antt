use Rattle.nq_form.specs.Token.{plain, wide}
use Rattle.nq_sexp.proofs.token.token_kind.Goals as goal

pub returns-in-Narrow : goal.returns-in-Narrow
returns-in-Narrow c = plain c.in-Narrow.ensures

pub returns-in-Wide : goal.returns-in-Wide
returns-in-Wide c = wide c.in-Wide.ensures
