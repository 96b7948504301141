use Rattle.std.proofs.Common.{◌++◌, ◌∙◌, ap}
use Rattle.nq_logic.specs.Admissible.{calls_of}
use Rattle.nq_bank.specs.Content.{text_at, term_at}
use Rattle.nq_calls.specs.declared.calls.Site.{Site}
use Rattle.nq_calls.specs.Calls.{sites_at}
use Rattle.nq_tracer.specs.Sites.{beneath}
use Rattle.nq_tracer.proofs.SiteLemmas.{beneath_none}
use Rattle.nq_tracer.proofs.sites.calls_within.Goals as goal
use Rattle.std.specs.Prelude.{List, []}

pub returns-clause-calls : goal.returns-clause-calls
returns-clause-calls c =
    let all = calls_of (text_at c.args.bank.now c.args.f) (term_at c.args.bank.now c.args.body) in
    c.in_ok-add_calls.ensures.calls
    ∙ ap (λ (sites : List Site). sites_at c.args.bank.now sites ++ beneath [] all) c.new-sites.ensures.items
    ∙ beneath_none all
