use Rattle.std.proofs.Common.{◌≡◌, ℕ, suc, ◌-◌, ◌<◌, List, [], length, get_or, ap, sym, subst, ◌∙◌, arith}
use Rattle.nq_bank.specs.Entries.{Stored}
use Rattle.nq_bank.specs.Paging.{joined, HasNode}
use Rattle.nq_bank.proofs.PagingLemmas.{some_pages, page_is, same_taken, node_taken}
use Rattle.nq_bank.proofs.pages.drop_empty.Goals as goal

pub overflow_sub-last : goal.overflow_sub-last
overflow_sub-last c = omega (arith, some_pages c.args.pages.now.items c.requires.some, c.len-last.ensures, c.args.pages.now.ok.0)

pub index-requires : goal.index-requires
index-requires c = omega (arith, some_pages c.args.pages.now.items c.requires.some, c.len-last.ensures, c.args.pages.now.ok.0)

pub returns-then-len-eq0-clause-same : goal.returns-then-len-eq0-clause-same
returns-then-len-eq0-clause-same c =
    let pages : List (List Stored) = c.args.pages.now.items in
    let k : ℕ = c.len-last.result - 1 in
    let some = some_pages pages c.requires.some in
    let one : length pages ≡ suc k = omega (arith, some, c.len-last.ensures, c.args.pages.now.ok.0) in
    let page = page_is pages k c.index.result.now (omega (arith, one)) c.index.ensures in
    let none : length (get_or pages k []) ≡ 0 = sym (ap length page) ∙ sym c.len.ensures ∙ c.if-len-eq0.true in
    ap joined c.truncate.ensures.items ∙ same_taken pages k one none

pub returns-then-len-eq0-clause-node : goal.returns-then-len-eq0-clause-node
returns-then-len-eq0-clause-node c =
    let pages : List (List Stored) = c.args.pages.now.items in
    let k : ℕ = c.len-last.result - 1 in
    let some = some_pages pages c.requires.some in
    let one : length pages ≡ suc k = omega (arith, some, c.len-last.ensures, c.args.pages.now.ok.0) in
    let page = page_is pages k c.index.result.now (omega (arith, one)) c.index.ensures in
    let none : length (get_or pages k []) ≡ 0 = sym (ap length page) ∙ sym c.len.ensures ∙ c.if-len-eq0.true in
    subst HasNode (sym c.truncate.ensures.items) (node_taken pages k c.requires.pages one none c.requires.some)

pub returns-else-len-eq0-clause-node : goal.returns-else-len-eq0-clause-node
returns-else-len-eq0-clause-node c =
    let pages : List (List Stored) = c.args.pages.now.items in
    let k : ℕ = c.len-last.result - 1 in
    let some = some_pages pages c.requires.some in
    let one : length pages ≡ suc k = omega (arith, some, c.len-last.ensures, c.args.pages.now.ok.0) in
    let page = page_is pages k c.index.result.now (omega (arith, one)) c.index.ensures in
    let last : length pages - 1 ≡ k = omega (arith, one) in
    let node : 0 < length (get_or pages k []) = omega (arith, ap length page, c.len.ensures, c.if-len-eq0.false) in
    record { some = some; node = subst (λ n. 0 < length (get_or pages n [])) (sym last) node }
