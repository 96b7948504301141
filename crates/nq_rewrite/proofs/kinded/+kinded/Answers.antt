use Rattle.std.proofs.Common.{◌∷◌, ◌∙◌, List, sym, subst, arith}
use Rattle.std.specs.Prelude.{IfSome}
use Rattle.nq_bank.specs.declared.node.TermId.{TermId}
use Rattle.nq_bank.specs.Content.{term_at, terms_at}
use Rattle.nq_history.specs.declared.entry.Entry.{Entry}
use Rattle.nq_kernel.specs.declared.work.Work.{Work}
use Rattle.nq_kernel.specs.Growing.{WorkGrows}
use Rattle.nq_kernel.proofs.GrowingLemmas.{WorkGrows-refl, WorkGrows-trans}
use Rattle.nq_reduce.specs.Held.{IsHeld}
use Rattle.nq_reduce.specs.Rewriting.{CanRewrite, IsRewritten}
use Rattle.nq_reduce.proofs.RewritingLemmas.{can_grown, can_more, rewritten_now, told_before}
use Rattle.nq_reduce.proofs.HeldLemmas.{held_after, held_now}
use Rattle.nq_rewrite.proofs.kinded.+kinded.Goals as goal

pub reduce_from-reduce_under-requires : goal.reduce_from-reduce_under-requires
reduce_from-reduce_under-requires t c =
    let h : List Entry = c.args.history.now in
    let hyps : List TermId = c.args.assumed.now in
    let old : Work = c.args.work.now in
    let one : Work = c.kind_at.new.work in
    let g1 : WorkGrows h old one = c.kind_at.ensures.grows in
    (omega arith, (can_grown h old one g1 hyps c.args.t c.requires.can, held_now h old one g1 hyps c.args.t c.requires.can c.in-Some.fact (subst (λ o. IfSome o (IsHeld h one (terms_at old.bank hyps))) c.in-Some.is c.in_ok-fact.ensures.held)))

pub reduce_from-returns-in-Some-clause-ok : goal.reduce_from-returns-in-Some-clause-ok
reduce_from-returns-in-Some-clause-ok t c = told_before c.args.history.now c.args.assumed.now c.args.work.now c.kind_at.new.work c.reduce_under.new.work c.args.t c.reduce_under.result c.kind_at.ensures.grows c.requires.can c.reduce_under.ensures.ok

pub reduce_from-returns-in-Some-clause-grows : goal.reduce_from-returns-in-Some-clause-grows
reduce_from-returns-in-Some-clause-grows t c = WorkGrows-trans c.args.history.now c.args.work.now c.kind_at.new.work c.reduce_under.new.work c.kind_at.ensures.grows c.reduce_under.ensures.grows

pub reduce_from-reduce_from-requires : goal.reduce_from-reduce_from-requires
reduce_from-reduce_from-requires t c = (omega arith, can_grown c.args.history.now c.args.work.now c.kind_at.new.work c.kind_at.ensures.grows c.args.assumed.now c.args.t c.requires.can)

pub reduce_from-returns-in-None-clause-ok : goal.reduce_from-returns-in-None-clause-ok
reduce_from-returns-in-None-clause-ok t c = told_before c.args.history.now c.args.assumed.now c.args.work.now c.kind_at.new.work c.reduce_from.new.work c.args.t c.reduce_from.result c.kind_at.ensures.grows c.requires.can c.reduce_from.ensures.ok

pub reduce_from-returns-in-None-clause-grows : goal.reduce_from-returns-in-None-clause-grows
reduce_from-returns-in-None-clause-grows t c = WorkGrows-trans c.args.history.now c.args.work.now c.kind_at.new.work c.reduce_from.new.work c.kind_at.ensures.grows c.reduce_from.ensures.grows

pub reduce_under-returns-in_err-all-clause-grows : goal.reduce_under-returns-in_err-all-clause-grows
reduce_under-returns-in_err-all-clause-grows t c = WorkGrows-refl c.args.history.now c.args.work.now c.requires.can.stands

pub reduce_under-reduce_assumed-requires : goal.reduce_under-reduce_assumed-requires
reduce_under-reduce_assumed-requires t c = (omega arith, (c.requires.can, (c.as_slice.ensures.value ∙ c.in_ok-all.ensures.ok, c.requires.fact)))

pub reduce_assumed-reduce_from-requires : goal.reduce_assumed-reduce_from-requires
reduce_assumed-reduce_from-requires t c =
    (omega arith, subst (λ ts. CanRewrite c.args.history.now c.args.work.now ts c.args.t) (sym c.requires.all) (can_more c.args.history.now c.args.assumed.now c.args.work.now c.args.fact.term c.args.t c.requires.can c.requires.fact.term))

pub reduce_assumed-without_kind-requires-clause-can : goal.reduce_assumed-without_kind-requires-clause-can
reduce_assumed-without_kind-requires-clause-can t c = can_grown c.args.history.now c.args.work.now c.reduce_from.new.work c.reduce_from.ensures.grows c.args.assumed.now c.args.t c.requires.can

pub reduce_assumed-without_kind-requires-clause-fact : goal.reduce_assumed-without_kind-requires-clause-fact
reduce_assumed-without_kind-requires-clause-fact t c = held_after c.args.history.now c.args.work.now c.reduce_from.new.work c.reduce_from.ensures.grows c.args.assumed.now c.args.t c.requires.can c.args.fact c.requires.fact

pub reduce_assumed-without_kind-requires-clause-new : goal.reduce_assumed-without_kind-requires-clause-new
reduce_assumed-without_kind-requires-clause-new t c =
    let h : List Entry = c.args.history.now in
    let old : Work = c.args.work.now in
    let new : Work = c.reduce_from.new.work in
    rewritten_now h (c.args.fact.term ∷ c.args.assumed.now) old new c.args.t c.in_ok-new.new c.reduce_from.ensures.grows (can_more h c.args.assumed.now old c.args.fact.term c.args.t c.requires.can c.requires.fact.term)
    (subst (λ (ts : List TermId). IsRewritten h new (terms_at old.bank ts) (term_at old.bank c.args.t) c.in_ok-new.new) c.requires.all c.in_ok-new.ensures.ok)

pub reduce_assumed-returns-clause-ok : goal.reduce_assumed-returns-clause-ok
reduce_assumed-returns-clause-ok t c = told_before c.args.history.now c.args.assumed.now c.args.work.now c.reduce_from.new.work c.without_kind.new.work c.args.t c.without_kind.result c.reduce_from.ensures.grows c.requires.can c.without_kind.ensures.ok

pub reduce_assumed-returns-clause-grows : goal.reduce_assumed-returns-clause-grows
reduce_assumed-returns-clause-grows t c = WorkGrows-trans c.args.history.now c.args.work.now c.reduce_from.new.work c.without_kind.new.work c.reduce_from.ensures.grows c.without_kind.ensures.grows
