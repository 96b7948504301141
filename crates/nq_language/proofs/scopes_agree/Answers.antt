use Rattle.nq_language.proofs.ScopeLemmas.{scopes_agree as inner, empty_scope as outer}
use Rattle.nq_language.proofs.scopes_agree.Goals as goal

pub returns-clause-inner : goal.returns-clause-inner
returns-clause-inner c = inner

pub returns-clause-outer : goal.returns-clause-outer
returns-clause-outer c = outer
