use Rattle.std.proofs.Common.{◌≡◌, ℕ, suc, ◌-◌, List, [], length, take, set, ap, ◌∙◌, arith}
use Rattle.std.proofs.lemmas.List.{get_or_default}
use Rattle.nq_bank.specs.Entries.{Stored}
use Rattle.nq_bank.specs.Paging.{joined}
use Rattle.nq_bank.proofs.PagingLemmas.{joined_fewer}
use Rattle.nq_bank.proofs.pages.pop_last.Goals as goal

pub returns-clause-nodes : goal.returns-clause-nodes
returns-clause-nodes c =
    let pages : List (List Stored) = c.args.pages.now in
    let k : ℕ = length pages - 1 in
    let one : length pages ≡ suc k = omega (arith, c.requires.node.some) in
    let page = get_or_default pages k c.index-pages-last.result [] (omega (arith, one)) in
    ap (λ (es : List Stored). joined (set pages k es)) (c.pop.ensures ∙ ap (λ (es : List Stored). take (length es - 1) es) page) ∙ joined_fewer pages k one c.requires.node.node
