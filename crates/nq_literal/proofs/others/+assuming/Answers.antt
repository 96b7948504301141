use Rattle.std.proofs.Common.{◌≡◌, ◌∷◌, ◌++◌, ◌<◌, ◌-◌, ◌∙◌, List, length, get_or, sym, subst, arith}
use Rattle.std.specs.Prelude.{IfOk, IfSome}
use Rattle.nq_logic.specs.Terms.{Term}
use Rattle.nq_logic.specs.Words.{not_term}
use Rattle.nq_bank.specs.declared.node.TermId.{TermId}
use Rattle.nq_bank.specs.Content.{term_at, terms_at}
use Rattle.nq_rule.proofs.Made.{for_ok}
use Rattle.nq_history.specs.declared.entry.Entry.{Entry}
use Rattle.nq_kernel.specs.declared.work.Work.{Work}
use Rattle.nq_kernel.specs.Growing.{WorkGrows}
use Rattle.nq_kernel.proofs.GrowingLemmas.{WorkGrows-refl, WorkGrows-trans}
use Rattle.nq_lines.specs.Lines.{IsTermIn}
use Rattle.nq_lines.proofs.TermLemmas.{term_grown}
use Rattle.nq_reduce.specs.declared.results.Rewritten.{Rewritten}
use Rattle.nq_reduce.specs.Rewriting.{CanRewrite, IsRewritten, denials}
use Rattle.nq_reduce.proofs.RewritingLemmas.{all_grown, can_grown, can_more, member_among, terms_same}
use Rattle.nq_literal.specs.Literals.{IsDeniedIn, IsRewrittenBeside, Undenies}
use Rattle.nq_literal.proofs.LiteralLemmas.{beside_dropped, line_stands, rewritten_beside, undenied_told}
use Rattle.nq_literal.proofs.others.+assuming.Goals as goal

pub rewrite_from-returns-else-place-others-clause-ok : goal.rewrite_from-returns-else-place-others-clause-ok
rewrite_from-returns-else-place-others-clause-ok t c =
    let h : List Entry = c.args.history.now in
    let old : Work = c.args.work.now in
    let new : Work = c.rewrite_literal.new.work in
    let u : Term = term_at old.bank c.args.t in
    let assumed : List Term = terms_at old.bank c.args.assumed.now in
    let others : List Term = terms_at old.bank c.args.others.now in
    for_ok c.rewrite_literal.result (IsRewritten h new assumed u) (IsRewrittenBeside h new (others ++ denials assumed) u) (λ r k. rewritten_beside h new others assumed u r k) c.rewrite_literal.ensures.ok

pub rewrite_under-rewrite_with-requires : goal.rewrite_under-rewrite_with-requires
rewrite_under-rewrite_with-requires t c =
    (omega arith, (c.requires.can, (c.requires.others, (c.requires.place, c.in-Some.ensures.term))))

pub rewrite_under-returns-in-Some-clause-ok : goal.rewrite_under-returns-in-Some-clause-ok
rewrite_under-returns-in-Some-clause-ok t c =
    let h : List Entry = c.args.history.now in
    let old : Work = c.args.work.now in
    let new : Work = c.rewrite_with.new.work in
    let u : Term = term_at old.bank c.args.t in
    let assumed : List Term = terms_at old.bank c.args.assumed.now in
    let others : List Term = terms_at old.bank c.args.others.now in
    let n : Term = not_term (term_at old.bank c.in-Some.a) in
    for_ok c.rewrite_with.result (IsRewrittenBeside h new (others ++ n ∷ denials assumed) u) (IsRewrittenBeside h new (others ++ denials assumed) u) (λ r k. beside_dropped h new n others (denials assumed) u r c.in-Some.ensures.among k) c.rewrite_with.ensures.ok

pub rewrite_with-returns-in_err-all-clause-grows : goal.rewrite_with-returns-in_err-all-clause-grows
rewrite_with-returns-in_err-all-clause-grows t c = WorkGrows-refl c.args.history.now c.args.work.now c.requires.can.stands

pub rewrite_with-rewrite_from-requires : goal.rewrite_with-rewrite_from-requires
rewrite_with-rewrite_from-requires t c =
    let is = sym c.in_ok-all.ensures.ok ∙ sym c.as_slice.ensures.value in
    let below : c.args.place < length c.args.others.now = c.requires.place in
    (omega (arith, below), (subst (λ all. CanRewrite c.args.history.now c.args.work.now all c.args.t) is (can_more c.args.history.now c.args.assumed.now c.args.work.now c.args.more c.args.t c.requires.can c.requires.more), c.requires.others))

pub rewrite_with-returns-clause-ok : goal.rewrite_with-returns-clause-ok
rewrite_with-returns-clause-ok t c =
    let h : List Entry = c.args.history.now in
    let old : Work = c.args.work.now in
    let u : Term = term_at old.bank c.args.t in
    let others : List Term = terms_at old.bank c.args.others.now in
    subst (λ (all : List TermId). IfOk c.rewrite_from.result (IsRewrittenBeside h c.rewrite_from.new.work (others ++ denials (terms_at old.bank all)) u)) (c.as_slice.ensures.value ∙ c.in_ok-all.ensures.ok) c.rewrite_from.ensures.ok

pub rewrite_denying-deny-requires-clause-term : goal.rewrite_denying-deny-requires-clause-term
rewrite_denying-deny-requires-clause-term t c = let d : TermId = record { 0 = 0 } in c.requires.others c.args.place d c.requires.place

pub rewrite_denying-rewrite_with-requires : goal.rewrite_denying-rewrite_with-requires
rewrite_denying-rewrite_with-requires t c =
    let h : List Entry = c.args.history.now in
    let old : Work = c.args.work.now in
    let one : Work = c.deny.new.work in
    let g1 : WorkGrows h old one = c.deny.ensures.grows in
    (omega arith, (can_grown h old one g1 c.args.assumed.now c.args.t c.requires.can, (all_grown h old one g1 c.args.others.now c.requires.can.stands c.requires.others, (c.requires.place, c.in_ok-denied.ensures.over))))

pub rewrite_denying-returns-in_err-new-clause-grows : goal.rewrite_denying-returns-in_err-new-clause-grows
rewrite_denying-returns-in_err-new-clause-grows t c = WorkGrows-trans c.args.history.now c.args.work.now c.deny.new.work c.rewrite_with.new.work c.deny.ensures.grows c.rewrite_with.ensures.grows

pub rewrite_denying-undenied-requires-clause-literal : goal.rewrite_denying-undenied-requires-clause-literal
rewrite_denying-undenied-requires-clause-literal t c =
    let d : TermId = record { 0 = 0 } in
    let g12 = WorkGrows-trans c.args.history.now c.args.work.now c.deny.new.work c.rewrite_with.new.work c.deny.ensures.grows c.rewrite_with.ensures.grows in
    term_grown c.args.history.now c.args.work.now c.rewrite_with.new.work (get_or c.args.others.now c.args.place d) c.requires.can.stands g12 (c.requires.others c.args.place d c.requires.place)

pub rewrite_denying-undenied-requires-clause-term : goal.rewrite_denying-undenied-requires-clause-term
rewrite_denying-undenied-requires-clause-term t c =
    let g12 = WorkGrows-trans c.args.history.now c.args.work.now c.deny.new.work c.rewrite_with.new.work c.deny.ensures.grows c.rewrite_with.ensures.grows in
    term_grown c.args.history.now c.args.work.now c.rewrite_with.new.work c.args.t c.requires.can.stands g12 c.requires.can.term

pub rewrite_denying-undenied-requires-clause-new : goal.rewrite_denying-undenied-requires-clause-new
rewrite_denying-undenied-requires-clause-new t c = c.in_ok-new.ensures.ok.new

pub rewrite_denying-undenied-requires-clause-line : goal.rewrite_denying-undenied-requires-clause-line
rewrite_denying-undenied-requires-clause-line t c = line_stands c.rewrite_with.new.work _ _ _ c.in_ok-new.new.line c.in_ok-new.ensures.ok.shown

pub rewrite_denying-returns-clause-ok : goal.rewrite_denying-returns-clause-ok
rewrite_denying-returns-clause-ok t c =
    let d : TermId = record { 0 = 0 } in
    undenied_told c.args.history.now c.args.work.now c.deny.new.work c.rewrite_with.new.work c.undenied.new.work c.args.others.now c.args.assumed.now c.args.place d c.args.t c.in_ok-denied.denied c.in_ok-new.new
    c.deny.ensures.grows c.rewrite_with.ensures.grows c.requires.can c.requires.others c.requires.place c.undenied.result c.in_ok-denied.ensures.denied c.in_ok-new.ensures.ok c.undenied.ensures.ok

pub rewrite_denying-returns-clause-grows : goal.rewrite_denying-returns-clause-grows
rewrite_denying-returns-clause-grows t c =
    WorkGrows-trans c.args.history.now c.args.work.now c.rewrite_with.new.work c.undenied.new.work
    (WorkGrows-trans c.args.history.now c.args.work.now c.deny.new.work c.rewrite_with.new.work c.deny.ensures.grows c.rewrite_with.ensures.grows) c.undenied.ensures.grows
