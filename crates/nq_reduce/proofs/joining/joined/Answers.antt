use Rattle.std.proofs.Common.{◌∙◌, List, sym}
use Rattle.nq_bank.specs.declared.node.TermId.{TermId}
use Rattle.nq_bank.specs.Content.{terms_at}
use Rattle.nq_history.specs.declared.entry.Entry.{Entry}
use Rattle.nq_kernel.specs.declared.work.Work.{Work}
use Rattle.nq_kernel.specs.Growing.{WorkGrows}
use Rattle.nq_kernel.proofs.GrowingLemmas.{WorkGrows-trans}
use Rattle.nq_lines.proofs.TermLemmas.{term_grown}
use Rattle.nq_reduce.specs.Rewriting.{IsCase}
use Rattle.nq_reduce.proofs.RewritingLemmas.{can_grown, can_term, case_grown, itself, known_at, rewritten_carried, rewritten_now, told_before}
use Rattle.nq_reduce.proofs.joining.joined.Goals as goal

pub choose-requires-clause-can : goal.choose-requires-clause-can
choose-requires-clause-can c =
    let h : List Entry = c.args.history.now in
    let hyps : List TermId = c.args.assumed.now in
    let old : Work = c.args.work.now in
    let one : Work = c.reached.new.work in
    let g1 : WorkGrows h old one = c.reached.ensures.grows in
    let here : IsCase h one hyps c.args.t c.args.parts c.args.test c.args.known c.args.branch c.args.other c.args.news = case_grown h old one hyps c.args.t c.args.parts c.args.test c.args.known c.args.branch c.args.other c.args.news g1 c.requires in
    can_term h one hyps c.args.t c.args.other here.can here.there

pub choose-requires-clause-parts : goal.choose-requires-clause-parts
choose-requires-clause-parts c =
    let h : List Entry = c.args.history.now in
    let hyps : List TermId = c.args.assumed.now in
    let old : Work = c.args.work.now in
    let one : Work = c.reached.new.work in
    let g1 : WorkGrows h old one = c.reached.ensures.grows in
    let here : IsCase h one hyps c.args.t c.args.parts c.args.test c.args.known c.args.branch c.args.other c.args.news = case_grown h old one hyps c.args.t c.args.parts c.args.test c.args.known c.args.branch c.args.other c.args.news g1 c.requires in
    here.new

pub choose-requires-clause-test : goal.choose-requires-clause-test
choose-requires-clause-test c =
    let h : List Entry = c.args.history.now in
    let hyps : List TermId = c.args.assumed.now in
    let old : Work = c.args.work.now in
    let one : Work = c.reached.new.work in
    let g1 : WorkGrows h old one = c.reached.ensures.grows in
    let here : IsCase h one hyps c.args.t c.args.parts c.args.test c.args.known c.args.branch c.args.other c.args.news = case_grown h old one hyps c.args.t c.args.parts c.args.test c.args.known c.args.branch c.args.other c.args.news g1 c.requires in
    itself h one hyps c.args.news.test c.unchanged.result (can_term h one hyps c.args.t c.args.news.test here.can here.new.test) c.unchanged.ensures.term c.unchanged.ensures.line

pub choose-requires-clause-known : goal.choose-requires-clause-known
choose-requires-clause-known c =
    let h : List Entry = c.args.history.now in
    let hyps : List TermId = c.args.assumed.now in
    let old : Work = c.args.work.now in
    let one : Work = c.reached.new.work in
    let g1 : WorkGrows h old one = c.reached.ensures.grows in
    let here : IsCase h one hyps c.args.t c.args.parts c.args.test c.args.known c.args.branch c.args.other c.args.news = case_grown h old one hyps c.args.t c.args.parts c.args.test c.args.known c.args.branch c.args.other c.args.news g1 c.requires in
    known_at one (terms_at one.bank hyps) c.args.test.term c.unchanged.result.term c.args.known (sym here.same_test ∙ sym c.unchanged.ensures.term) here.told

pub returns-in_err-right-clause-grows : goal.returns-in_err-right-clause-grows
returns-in_err-right-clause-grows c =
    let h : List Entry = c.args.history.now in
    let hyps : List TermId = c.args.assumed.now in
    let old : Work = c.args.work.now in
    let one : Work = c.reached.new.work in
    let g1 : WorkGrows h old one = c.reached.ensures.grows in
    let here : IsCase h one hyps c.args.t c.args.parts c.args.test c.args.known c.args.branch c.args.other c.args.news = case_grown h old one hyps c.args.t c.args.parts c.args.test c.args.known c.args.branch c.args.other c.args.news g1 c.requires in
    let two : Work = c.choose.new.work in
    let g2 : WorkGrows h one two = c.choose.ensures.grows in
    let g12 : WorkGrows h old two = WorkGrows-trans h old one two g1 g2 in
    g12

pub meet-requires-clause-can : goal.meet-requires-clause-can
meet-requires-clause-can c =
    let h : List Entry = c.args.history.now in
    let hyps : List TermId = c.args.assumed.now in
    let old : Work = c.args.work.now in
    let one : Work = c.reached.new.work in
    let g1 : WorkGrows h old one = c.reached.ensures.grows in
    let here : IsCase h one hyps c.args.t c.args.parts c.args.test c.args.known c.args.branch c.args.other c.args.news = case_grown h old one hyps c.args.t c.args.parts c.args.test c.args.known c.args.branch c.args.other c.args.news g1 c.requires in
    let two : Work = c.choose.new.work in
    let g2 : WorkGrows h one two = c.choose.ensures.grows in
    let g12 : WorkGrows h old two = WorkGrows-trans h old one two g1 g2 in
    can_grown h old two g12 hyps c.args.t c.requires.can

pub meet-requires-clause-other : goal.meet-requires-clause-other
meet-requires-clause-other c =
    let h : List Entry = c.args.history.now in
    let hyps : List TermId = c.args.assumed.now in
    let old : Work = c.args.work.now in
    let one : Work = c.reached.new.work in
    let g1 : WorkGrows h old one = c.reached.ensures.grows in
    let here : IsCase h one hyps c.args.t c.args.parts c.args.test c.args.known c.args.branch c.args.other c.args.news = case_grown h old one hyps c.args.t c.args.parts c.args.test c.args.known c.args.branch c.args.other c.args.news g1 c.requires in
    let two : Work = c.choose.new.work in
    let g2 : WorkGrows h one two = c.choose.ensures.grows in
    let g12 : WorkGrows h old two = WorkGrows-trans h old one two g1 g2 in
    term_grown h old two c.args.other c.requires.can.stands g12 c.requires.there

pub meet-requires-clause-left : goal.meet-requires-clause-left
meet-requires-clause-left c =
    let h : List Entry = c.args.history.now in
    let hyps : List TermId = c.args.assumed.now in
    let old : Work = c.args.work.now in
    let one : Work = c.reached.new.work in
    let g1 : WorkGrows h old one = c.reached.ensures.grows in
    let here : IsCase h one hyps c.args.t c.args.parts c.args.test c.args.known c.args.branch c.args.other c.args.news = case_grown h old one hyps c.args.t c.args.parts c.args.test c.args.known c.args.branch c.args.other c.args.news g1 c.requires in
    let two : Work = c.choose.new.work in
    let g2 : WorkGrows h one two = c.choose.ensures.grows in
    let g12 : WorkGrows h old two = WorkGrows-trans h old one two g1 g2 in
    rewritten_carried h hyps old one two c.args.t c.in_ok-left.left g1 g2 c.requires.can c.in_ok-left.ensures.ok

pub meet-requires-clause-right : goal.meet-requires-clause-right
meet-requires-clause-right c =
    let h : List Entry = c.args.history.now in
    let hyps : List TermId = c.args.assumed.now in
    let old : Work = c.args.work.now in
    let one : Work = c.reached.new.work in
    let g1 : WorkGrows h old one = c.reached.ensures.grows in
    let here : IsCase h one hyps c.args.t c.args.parts c.args.test c.args.known c.args.branch c.args.other c.args.news = case_grown h old one hyps c.args.t c.args.parts c.args.test c.args.known c.args.branch c.args.other c.args.news g1 c.requires in
    let two : Work = c.choose.new.work in
    let g2 : WorkGrows h one two = c.choose.ensures.grows in
    let g12 : WorkGrows h old two = WorkGrows-trans h old one two g1 g2 in
    rewritten_now h hyps one two c.args.other c.in_ok-right.right g2 (can_term h one hyps c.args.t c.args.other here.can here.there) c.in_ok-right.ensures.ok

pub meet-requires-clause-meets : goal.meet-requires-clause-meets
meet-requires-clause-meets c = c.in_ok-right.ensures.term ∙ c.requires.same_branch ∙ sym c.in_ok-left.ensures.last

pub returns-clause-ok : goal.returns-clause-ok
returns-clause-ok c =
    let h : List Entry = c.args.history.now in
    let hyps : List TermId = c.args.assumed.now in
    let old : Work = c.args.work.now in
    let one : Work = c.reached.new.work in
    let g1 : WorkGrows h old one = c.reached.ensures.grows in
    let here : IsCase h one hyps c.args.t c.args.parts c.args.test c.args.known c.args.branch c.args.other c.args.news = case_grown h old one hyps c.args.t c.args.parts c.args.test c.args.known c.args.branch c.args.other c.args.news g1 c.requires in
    let two : Work = c.choose.new.work in
    let g2 : WorkGrows h one two = c.choose.ensures.grows in
    let g12 : WorkGrows h old two = WorkGrows-trans h old one two g1 g2 in
    told_before h hyps old two c.meet.new.work c.args.t c.meet.result g12 c.requires.can c.meet.ensures.ok

pub returns-clause-grows : goal.returns-clause-grows
returns-clause-grows c =
    let h : List Entry = c.args.history.now in
    let hyps : List TermId = c.args.assumed.now in
    let old : Work = c.args.work.now in
    let one : Work = c.reached.new.work in
    let g1 : WorkGrows h old one = c.reached.ensures.grows in
    let here : IsCase h one hyps c.args.t c.args.parts c.args.test c.args.known c.args.branch c.args.other c.args.news = case_grown h old one hyps c.args.t c.args.parts c.args.test c.args.known c.args.branch c.args.other c.args.news g1 c.requires in
    let two : Work = c.choose.new.work in
    let g2 : WorkGrows h one two = c.choose.ensures.grows in
    let g12 : WorkGrows h old two = WorkGrows-trans h old one two g1 g2 in
    WorkGrows-trans h old two c.meet.new.work g12 c.meet.ensures.grows
