use Rattle.std.proofs.Common.{◌≡◌, ℕ, suc, ◌-◌, List, [], ◌∷◌, ◌++◌, length, set, ap, ◌∙◌, arith}
use Rattle.std.specs.Prelude.{is_ok, if◌then◌else◌}
use Rattle.std.proofs.lemmas.List.{get_or_default}
use Rattle.nq_bank.specs.Entries.{Stored, stored}
use Rattle.nq_bank.specs.Paging.{joined}
use Rattle.nq_bank.proofs.PagingLemmas.{joined_either}
use Rattle.nq_bank.proofs.pages.push_last.Goals as goal

pub returns-clause-nodes : goal.returns-clause-nodes
returns-clause-nodes c =
    let pages : List (List Stored) = c.args.pages.now in
    let k : ℕ = length pages - 1 in
    let e : Stored = stored c.args.node c.args.arguments.now c.args.kept in
    let one : length pages ≡ suc k = omega (arith, c.requires.room.some) in
    let page = get_or_default pages k c.index-pages-last.result [] (omega (arith, one)) in
    ap (λ (es : List Stored). joined (set pages k es)) (c.push.ensures ∙ ap (λ (es : List Stored). if is_ok c.push.result then es ++ e ∷ [] else es) page) ∙ joined_either (is_ok c.push.result) pages k e one
