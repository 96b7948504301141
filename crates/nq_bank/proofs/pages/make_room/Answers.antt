use Rattle.std.proofs.Common.{List, [], ◌∷◌, ◌++◌, ap, ◌∙◌}
use Rattle.nq_bank.specs.Entries.{Stored}
use Rattle.nq_bank.specs.Paging.{joined}
use Rattle.nq_bank.proofs.PagingLemmas.{same_pushed}
use Rattle.nq_bank.proofs.pages.make_room.Goals as goal

pub returns-clause-same : goal.returns-clause-same
returns-clause-same c =
    let pages : List (List Stored) = c.args.pages.now.items in
    ap joined c.in_ok-push.ensures.items ∙ ap (λ (page : List Stored). joined (pages ++ page ∷ [])) c.in_ok-page.ensures ∙ same_pushed pages
