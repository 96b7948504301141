use Rattle.std.proofs.Common.{◌∙◌, ◌∷◌, [], List, sym, subst}
use Rattle.nq_logic.specs.Words.{not_term}
use Rattle.nq_bank.specs.declared.node.TermId.{TermId}
use Rattle.nq_bank.specs.Content.{term_at, terms_at}
use Rattle.nq_history.specs.declared.entry.Entry.{Entry}
use Rattle.nq_kernel.specs.declared.work.Work.{Work}
use Rattle.nq_kernel.specs.Growing.{WorkGrows}
use Rattle.nq_kernel.proofs.GrowingLemmas.{WorkGrows-refl, WorkGrows-trans}
use Rattle.nq_lines.specs.Lines.{LineLeads}
use Rattle.nq_lines.proofs.TermLemmas.{same_term_grown}
use Rattle.nq_reduce.specs.Rewriting.{IsBranch, IsCase, IsRewritten}
use Rattle.nq_reduce.proofs.RewritingLemmas.{branch_can, branch_case, branch_grown, told_before}
use Rattle.std.specs.Prelude.{IfOk}
use Rattle.nq_reduce.proofs.whole.under.Goals as goal

pub returns-in_err-all-clause-grows : goal.returns-in_err-all-clause-grows
returns-in_err-all-clause-grows c = WorkGrows-refl c.args.history.now c.args.work.now c.requires.can.stands

pub opposites-requires-clause-term : goal.opposites-requires-clause-term
opposites-requires-clause-term c = c.requires.more_there

pub joined-requires : goal.joined-requires
joined-requires c =
    let h : List Entry = c.args.history.now in
    let hyps : List TermId = c.args.assumed.now in
    let old : Work = c.args.work.now in
    let one : Work = c.opposites.new.work in
    let g1 : WorkGrows h old one = c.opposites.ensures.grows in
    let more : TermId = c.args.more in
    let here : IsBranch h one hyps c.args.more c.args.value c.args.t c.args.parts c.args.test c.args.branch c.args.other c.args.news = branch_grown h hyps c.args.more c.args.value c.args.t c.args.parts c.args.test c.args.branch c.args.other c.args.news old one g1 c.requires in
    let leads : LineLeads one c.in_ok-line.line (term_at one.bank more) (not_term (term_at one.bank more) ∷ []) = subst (λ u. LineLeads one c.in_ok-line.line u (not_term u ∷ [])) (sym (same_term_grown h old one more g1 c.requires.more_there)) c.in_ok-line.ensures.line in
    subst (λ all. IsCase h one all c.args.t c.args.parts c.args.test (record { value = c.args.value; line = c.in_ok-line.line }) c.args.branch c.args.other c.args.news) (sym c.in_ok-all.ensures.ok ∙ sym c.as_slice.ensures.value) (branch_case h hyps c.args.more c.args.value c.args.t c.args.parts c.args.test c.args.branch c.args.other c.args.news one c.in_ok-line.line here leads)

pub returns-clause-ok : goal.returns-clause-ok
returns-clause-ok c =
    let h : List Entry = c.args.history.now in
    let hyps : List TermId = c.args.assumed.now in
    let old : Work = c.args.work.now in
    let one : Work = c.opposites.new.work in
    let g1 : WorkGrows h old one = c.opposites.ensures.grows in
    let more : TermId = c.args.more in
    let told = subst (λ (all : List TermId). IfOk c.joined.result (IsRewritten h c.joined.new.work (terms_at one.bank all) (term_at one.bank c.args.t))) (c.as_slice.ensures.value ∙ c.in_ok-all.ensures.ok) c.joined.ensures.ok in
    told_before h (more ∷ hyps) old one c.joined.new.work c.args.t c.joined.result g1 (branch_can h hyps c.args.more c.args.value c.args.t c.args.parts c.args.test c.args.branch c.args.other c.args.news old c.requires) told

pub returns-clause-grows : goal.returns-clause-grows
returns-clause-grows c =
    let h : List Entry = c.args.history.now in
    let hyps : List TermId = c.args.assumed.now in
    let old : Work = c.args.work.now in
    let one : Work = c.opposites.new.work in
    let g1 : WorkGrows h old one = c.opposites.ensures.grows in
    let more : TermId = c.args.more in
    WorkGrows-trans h old one c.joined.new.work g1 c.joined.ensures.grows
