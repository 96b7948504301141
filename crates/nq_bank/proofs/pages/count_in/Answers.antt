use Rattle.std.proofs.Common.{◌≡◌, ℕ, suc, ◌-◌, List, length, ap, arith}
use Rattle.nq_bank.specs.Entries.{Stored}
use Rattle.nq_bank.proofs.PagingLemmas.{length-joined, no_pages, page_is}
use Rattle.nq_bank.proofs.pages.count_in.Goals as goal

pub returns-then-count-eq0 : goal.returns-then-count-eq0
returns-then-count-eq0 c = no_pages c.args.pages.now c.if-count-eq0.true

pub returns-else-count-eq0 : goal.returns-else-count-eq0
returns-else-count-eq0 c =
    let pages : List (List Stored) = c.args.pages.now in
    let k : ℕ = length pages - 1 in
    let one : length pages ≡ suc k = omega (arith, c.if-count-eq0.false) in
    let page = page_is pages k c.index-pages-count.result (omega (arith, one)) c.index-pages-count.is in
    omega (arith, length-joined pages k one c.requires.full, c.len.ensures, ap length page)
