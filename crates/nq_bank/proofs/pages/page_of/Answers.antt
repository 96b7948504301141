use Rattle.std.proofs.Common.{◌/◌, ◌%◌, ◌<◌, List, length, ap, sym, subst, ◌∙◌}
use Rattle.nq_bank.specs.Entries.{Stored, entry_at}
use Rattle.nq_bank.specs.Paging.{page_size}
use Rattle.nq_bank.proofs.PagingLemmas.{lies_at, page_is}
use Rattle.nq_bank.proofs.pages.page_of.Goals as goal

pub bounds-pages-i : goal.bounds-pages-i
bounds-pages-i c = (lies_at c.args.pages.now c.args.i c.requires.pages c.requires.stands).page_below

pub returns-clause-stands : goal.returns-clause-stands
returns-clause-stands c =
    let at = lies_at c.args.pages.now c.args.i c.requires.pages c.requires.stands in
    let page = page_is c.args.pages.now (c.args.i / page_size) c.index-pages-i.result at.page_below c.index-pages-i.is in
    subst (λ es. c.args.i % page_size < length es) (sym page) at.below

pub returns-clause-is : goal.returns-clause-is
returns-clause-is c =
    let at = lies_at c.args.pages.now c.args.i c.requires.pages c.requires.stands in
    let page = page_is c.args.pages.now (c.args.i / page_size) c.index-pages-i.result at.page_below c.index-pages-i.is in
    ap (λ (es : List Stored). entry_at es (c.args.i % page_size)) page ∙ at.is
