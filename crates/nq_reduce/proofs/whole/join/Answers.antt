use Rattle.std.proofs.Common.{◌∷◌, true, false, List, refl, sym, ap, subst}
use Rattle.nq_logic.specs.Words.{not_term}
use Rattle.nq_bank.specs.declared.node.TermId.{TermId}
use Rattle.nq_bank.specs.Content.{IsIdOf, term_at, terms_at}
use Rattle.nq_bank.proofs.Standing.{id_grown}
use Rattle.nq_history.specs.declared.entry.Entry.{Entry}
use Rattle.nq_rule.specs.declared.branching.Branches.{Branches}
use Rattle.nq_kernel.specs.declared.work.Work.{Work}
use Rattle.nq_kernel.specs.Growing.{WorkGrows}
use Rattle.nq_kernel.proofs.GrowingLemmas.{WorkGrows-refl, WorkGrows-trans}
use Rattle.nq_lines.proofs.TermLemmas.{term_grown, same_term_grown}
use Rattle.nq_reduce.specs.Rewriting.{CanRewrite, IsBranch, IsRewritten}
use Rattle.nq_reduce.proofs.RewritingLemmas.{branch_can, branch_grown, can_grown, can_more, can_term, if_made, rewritten_after, rewritten_carried, rewritten_now, told_before}
use Rattle.nq_instances.proofs.PartLemmas.{if_grown}
use Rattle.nq_reduce.proofs.whole.join.Goals as goal

pub under-requires : goal.under-requires
under-requires c =
    let h : List Entry = c.args.history.now in
    let hyps : List TermId = c.args.assumed.now in
    let old : Work = c.args.work.now in
    let t : TermId = c.args.t in
    let parts : Branches = c.args.parts in
    let test = c.args.test in
    let news : Branches = record { test = test.term; first = c.args.first.term; second = c.args.second.term } in
    let one : Work = c.if_call.new.work in
    let g1 : WorkGrows h old one = c.if_call.ensures.grows in
    let other : TermId = c.in_ok-other.other in
    let denied_one : IsIdOf one.bank c.args.denied (not_term (term_at one.bank test.term)) = subst (IsIdOf one.bank c.args.denied) (ap not_term (sym (same_term_grown h old one test.term g1 c.requires.test.new))) (id_grown old.bank one.bank c.args.denied (not_term (term_at old.bank test.term)) g1.bank c.requires.denied) in
    let can_old : CanRewrite h old hyps t = c.requires.can in
    let first : IsBranch h one hyps test.term true t parts test c.args.first other news = record {
      can = can_grown h old one g1 hyps t can_old;
      more_there = term_grown h old one test.term can_old.stands g1 c.requires.test.new;
      says = refl;
      whole = if_grown h old one g1 t parts can_old.stands can_old.term c.requires.parts;
      tested = rewritten_after h old one g1 hyps parts.test test (can_term h old hyps t parts.test can_old c.requires.parts.test) c.requires.test;
      rewritten = rewritten_after h old one g1 (test.term ∷ hyps) parts.first c.args.first (can_more h hyps old test.term parts.first (can_term h old hyps t parts.first can_old c.requires.parts.first) c.requires.test.new) c.requires.first;
      there = c.in_ok-other.ensures.over;
      new = if_made h old one other test.term c.args.first.term c.args.second.term can_old.stands g1 c.requires.test.new c.requires.first.new c.requires.second.new c.in_ok-other.ensures.call;
      same_test = refl;
      same_branch = refl;
    } in
    first

pub returns-in_err-one-clause-grows : goal.returns-in_err-one-clause-grows
returns-in_err-one-clause-grows c =
    let h : List Entry = c.args.history.now in
    let hyps : List TermId = c.args.assumed.now in
    let old : Work = c.args.work.now in
    let t : TermId = c.args.t in
    let parts : Branches = c.args.parts in
    let test = c.args.test in
    let news : Branches = record { test = test.term; first = c.args.first.term; second = c.args.second.term } in
    let one : Work = c.if_call.new.work in
    let g1 : WorkGrows h old one = c.if_call.ensures.grows in
    let other : TermId = c.in_ok-other.other in
    let denied_one : IsIdOf one.bank c.args.denied (not_term (term_at one.bank test.term)) = subst (IsIdOf one.bank c.args.denied) (ap not_term (sym (same_term_grown h old one test.term g1 c.requires.test.new))) (id_grown old.bank one.bank c.args.denied (not_term (term_at old.bank test.term)) g1.bank c.requires.denied) in
    let can_old : CanRewrite h old hyps t = c.requires.can in
    let two : Work = c.under.new.work in
    let g2 : WorkGrows h one two = c.under.ensures.grows in
    let g12 : WorkGrows h old two = WorkGrows-trans h old one two g1 g2 in
    g12

pub under-requires-2 : goal.under-requires-2
under-requires-2 c =
    let h : List Entry = c.args.history.now in
    let hyps : List TermId = c.args.assumed.now in
    let old : Work = c.args.work.now in
    let t : TermId = c.args.t in
    let parts : Branches = c.args.parts in
    let test = c.args.test in
    let news : Branches = record { test = test.term; first = c.args.first.term; second = c.args.second.term } in
    let one : Work = c.if_call.new.work in
    let g1 : WorkGrows h old one = c.if_call.ensures.grows in
    let other : TermId = c.in_ok-other.other in
    let denied_one : IsIdOf one.bank c.args.denied (not_term (term_at one.bank test.term)) = subst (IsIdOf one.bank c.args.denied) (ap not_term (sym (same_term_grown h old one test.term g1 c.requires.test.new))) (id_grown old.bank one.bank c.args.denied (not_term (term_at old.bank test.term)) g1.bank c.requires.denied) in
    let can_old : CanRewrite h old hyps t = c.requires.can in
    let two : Work = c.under.new.work in
    let g2 : WorkGrows h one two = c.under.ensures.grows in
    let g12 : WorkGrows h old two = WorkGrows-trans h old one two g1 g2 in
    let second : IsBranch h one hyps c.args.denied false t parts test c.args.second other news = record {
      can = can_grown h old one g1 hyps t can_old;
      more_there = term_grown h old one c.args.denied can_old.stands g1 c.requires.over;
      says = denied_one.denotes;
      whole = if_grown h old one g1 t parts can_old.stands can_old.term c.requires.parts;
      tested = rewritten_after h old one g1 hyps parts.test test (can_term h old hyps t parts.test can_old c.requires.parts.test) c.requires.test;
      rewritten = rewritten_after h old one g1 (c.args.denied ∷ hyps) parts.second c.args.second (can_more h hyps old c.args.denied parts.second (can_term h old hyps t parts.second can_old c.requires.parts.second) c.requires.over) (subst (λ u. IsRewritten h old (u ∷ terms_at old.bank hyps) (term_at old.bank parts.second) c.args.second) (sym c.requires.denied.denotes) c.requires.second);
      there = c.in_ok-other.ensures.over;
      new = if_made h old one other test.term c.args.first.term c.args.second.term can_old.stands g1 c.requires.test.new c.requires.first.new c.requires.second.new c.in_ok-other.ensures.call;
      same_test = refl;
      same_branch = refl;
    } in
    branch_grown h hyps c.args.denied false t parts test c.args.second other news one two g2 second

pub returns-in_err-two-clause-grows : goal.returns-in_err-two-clause-grows
returns-in_err-two-clause-grows c =
    let h : List Entry = c.args.history.now in
    let hyps : List TermId = c.args.assumed.now in
    let old : Work = c.args.work.now in
    let t : TermId = c.args.t in
    let parts : Branches = c.args.parts in
    let test = c.args.test in
    let news : Branches = record { test = test.term; first = c.args.first.term; second = c.args.second.term } in
    let one : Work = c.if_call.new.work in
    let g1 : WorkGrows h old one = c.if_call.ensures.grows in
    let other : TermId = c.in_ok-other.other in
    let denied_one : IsIdOf one.bank c.args.denied (not_term (term_at one.bank test.term)) = subst (IsIdOf one.bank c.args.denied) (ap not_term (sym (same_term_grown h old one test.term g1 c.requires.test.new))) (id_grown old.bank one.bank c.args.denied (not_term (term_at old.bank test.term)) g1.bank c.requires.denied) in
    let can_old : CanRewrite h old hyps t = c.requires.can in
    let two : Work = c.under.new.work in
    let g2 : WorkGrows h one two = c.under.ensures.grows in
    let g12 : WorkGrows h old two = WorkGrows-trans h old one two g1 g2 in
    let three : Work = c.under-2.new.work in
    let g3 : WorkGrows h two three = c.under-2.ensures.grows in
    let g123 : WorkGrows h old three = WorkGrows-trans h old two three g12 g3 in
    g123

pub close-requires-clause-can : goal.close-requires-clause-can
close-requires-clause-can c =
    let h : List Entry = c.args.history.now in
    let hyps : List TermId = c.args.assumed.now in
    let old : Work = c.args.work.now in
    let t : TermId = c.args.t in
    let parts : Branches = c.args.parts in
    let test = c.args.test in
    let news : Branches = record { test = test.term; first = c.args.first.term; second = c.args.second.term } in
    let one : Work = c.if_call.new.work in
    let g1 : WorkGrows h old one = c.if_call.ensures.grows in
    let other : TermId = c.in_ok-other.other in
    let denied_one : IsIdOf one.bank c.args.denied (not_term (term_at one.bank test.term)) = subst (IsIdOf one.bank c.args.denied) (ap not_term (sym (same_term_grown h old one test.term g1 c.requires.test.new))) (id_grown old.bank one.bank c.args.denied (not_term (term_at old.bank test.term)) g1.bank c.requires.denied) in
    let can_old : CanRewrite h old hyps t = c.requires.can in
    let two : Work = c.under.new.work in
    let g2 : WorkGrows h one two = c.under.ensures.grows in
    let g12 : WorkGrows h old two = WorkGrows-trans h old one two g1 g2 in
    let three : Work = c.under-2.new.work in
    let g3 : WorkGrows h two three = c.under-2.ensures.grows in
    let g123 : WorkGrows h old three = WorkGrows-trans h old two three g12 g3 in
    can_grown h old three g123 hyps t can_old

pub close-requires-clause-denied : goal.close-requires-clause-denied
close-requires-clause-denied c =
    let h : List Entry = c.args.history.now in
    let hyps : List TermId = c.args.assumed.now in
    let old : Work = c.args.work.now in
    let t : TermId = c.args.t in
    let parts : Branches = c.args.parts in
    let test = c.args.test in
    let news : Branches = record { test = test.term; first = c.args.first.term; second = c.args.second.term } in
    let one : Work = c.if_call.new.work in
    let g1 : WorkGrows h old one = c.if_call.ensures.grows in
    let other : TermId = c.in_ok-other.other in
    let denied_one : IsIdOf one.bank c.args.denied (not_term (term_at one.bank test.term)) = subst (IsIdOf one.bank c.args.denied) (ap not_term (sym (same_term_grown h old one test.term g1 c.requires.test.new))) (id_grown old.bank one.bank c.args.denied (not_term (term_at old.bank test.term)) g1.bank c.requires.denied) in
    let can_old : CanRewrite h old hyps t = c.requires.can in
    let two : Work = c.under.new.work in
    let g2 : WorkGrows h one two = c.under.ensures.grows in
    let g12 : WorkGrows h old two = WorkGrows-trans h old one two g1 g2 in
    let three : Work = c.under-2.new.work in
    let g3 : WorkGrows h two three = c.under-2.ensures.grows in
    let g123 : WorkGrows h old three = WorkGrows-trans h old two three g12 g3 in
    subst (IsIdOf three.bank c.args.denied) (ap not_term (sym (same_term_grown h old three test.term g123 c.requires.test.new))) (id_grown old.bank three.bank c.args.denied (not_term (term_at old.bank test.term)) g123.bank c.requires.denied)

pub close-requires-clause-over : goal.close-requires-clause-over
close-requires-clause-over c =
    let h : List Entry = c.args.history.now in
    let hyps : List TermId = c.args.assumed.now in
    let old : Work = c.args.work.now in
    let t : TermId = c.args.t in
    let parts : Branches = c.args.parts in
    let test = c.args.test in
    let news : Branches = record { test = test.term; first = c.args.first.term; second = c.args.second.term } in
    let one : Work = c.if_call.new.work in
    let g1 : WorkGrows h old one = c.if_call.ensures.grows in
    let other : TermId = c.in_ok-other.other in
    let denied_one : IsIdOf one.bank c.args.denied (not_term (term_at one.bank test.term)) = subst (IsIdOf one.bank c.args.denied) (ap not_term (sym (same_term_grown h old one test.term g1 c.requires.test.new))) (id_grown old.bank one.bank c.args.denied (not_term (term_at old.bank test.term)) g1.bank c.requires.denied) in
    let can_old : CanRewrite h old hyps t = c.requires.can in
    let two : Work = c.under.new.work in
    let g2 : WorkGrows h one two = c.under.ensures.grows in
    let g12 : WorkGrows h old two = WorkGrows-trans h old one two g1 g2 in
    let three : Work = c.under-2.new.work in
    let g3 : WorkGrows h two three = c.under-2.ensures.grows in
    let g123 : WorkGrows h old three = WorkGrows-trans h old two three g12 g3 in
    term_grown h old three c.args.denied can_old.stands g123 c.requires.over

pub close-requires-clause-first : goal.close-requires-clause-first
close-requires-clause-first c =
    let h : List Entry = c.args.history.now in
    let hyps : List TermId = c.args.assumed.now in
    let old : Work = c.args.work.now in
    let t : TermId = c.args.t in
    let parts : Branches = c.args.parts in
    let test = c.args.test in
    let news : Branches = record { test = test.term; first = c.args.first.term; second = c.args.second.term } in
    let one : Work = c.if_call.new.work in
    let g1 : WorkGrows h old one = c.if_call.ensures.grows in
    let other : TermId = c.in_ok-other.other in
    let denied_one : IsIdOf one.bank c.args.denied (not_term (term_at one.bank test.term)) = subst (IsIdOf one.bank c.args.denied) (ap not_term (sym (same_term_grown h old one test.term g1 c.requires.test.new))) (id_grown old.bank one.bank c.args.denied (not_term (term_at old.bank test.term)) g1.bank c.requires.denied) in
    let can_old : CanRewrite h old hyps t = c.requires.can in
    let two : Work = c.under.new.work in
    let g2 : WorkGrows h one two = c.under.ensures.grows in
    let g12 : WorkGrows h old two = WorkGrows-trans h old one two g1 g2 in
    let three : Work = c.under-2.new.work in
    let g3 : WorkGrows h two three = c.under-2.ensures.grows in
    let g123 : WorkGrows h old three = WorkGrows-trans h old two three g12 g3 in
    let first : IsBranch h one hyps test.term true t parts test c.args.first other news = record {
      can = can_grown h old one g1 hyps t can_old;
      more_there = term_grown h old one test.term can_old.stands g1 c.requires.test.new;
      says = refl;
      whole = if_grown h old one g1 t parts can_old.stands can_old.term c.requires.parts;
      tested = rewritten_after h old one g1 hyps parts.test test (can_term h old hyps t parts.test can_old c.requires.parts.test) c.requires.test;
      rewritten = rewritten_after h old one g1 (test.term ∷ hyps) parts.first c.args.first (can_more h hyps old test.term parts.first (can_term h old hyps t parts.first can_old c.requires.parts.first) c.requires.test.new) c.requires.first;
      there = c.in_ok-other.ensures.over;
      new = if_made h old one other test.term c.args.first.term c.args.second.term can_old.stands g1 c.requires.test.new c.requires.first.new c.requires.second.new c.in_ok-other.ensures.call;
      same_test = refl;
      same_branch = refl;
    } in
    rewritten_carried h (test.term ∷ hyps) one two three t c.in_ok-one.one g2 g3 (branch_can h hyps test.term true t parts test c.args.first other news one first) c.in_ok-one.ensures.ok

pub close-requires-clause-second : goal.close-requires-clause-second
close-requires-clause-second c =
    let h : List Entry = c.args.history.now in
    let hyps : List TermId = c.args.assumed.now in
    let old : Work = c.args.work.now in
    let t : TermId = c.args.t in
    let parts : Branches = c.args.parts in
    let test = c.args.test in
    let news : Branches = record { test = test.term; first = c.args.first.term; second = c.args.second.term } in
    let one : Work = c.if_call.new.work in
    let g1 : WorkGrows h old one = c.if_call.ensures.grows in
    let other : TermId = c.in_ok-other.other in
    let denied_one : IsIdOf one.bank c.args.denied (not_term (term_at one.bank test.term)) = subst (IsIdOf one.bank c.args.denied) (ap not_term (sym (same_term_grown h old one test.term g1 c.requires.test.new))) (id_grown old.bank one.bank c.args.denied (not_term (term_at old.bank test.term)) g1.bank c.requires.denied) in
    let can_old : CanRewrite h old hyps t = c.requires.can in
    let two : Work = c.under.new.work in
    let g2 : WorkGrows h one two = c.under.ensures.grows in
    let g12 : WorkGrows h old two = WorkGrows-trans h old one two g1 g2 in
    let three : Work = c.under-2.new.work in
    let g3 : WorkGrows h two three = c.under-2.ensures.grows in
    let g123 : WorkGrows h old three = WorkGrows-trans h old two three g12 g3 in
    let second : IsBranch h one hyps c.args.denied false t parts test c.args.second other news = record {
      can = can_grown h old one g1 hyps t can_old;
      more_there = term_grown h old one c.args.denied can_old.stands g1 c.requires.over;
      says = denied_one.denotes;
      whole = if_grown h old one g1 t parts can_old.stands can_old.term c.requires.parts;
      tested = rewritten_after h old one g1 hyps parts.test test (can_term h old hyps t parts.test can_old c.requires.parts.test) c.requires.test;
      rewritten = rewritten_after h old one g1 (c.args.denied ∷ hyps) parts.second c.args.second (can_more h hyps old c.args.denied parts.second (can_term h old hyps t parts.second can_old c.requires.parts.second) c.requires.over) (subst (λ u. IsRewritten h old (u ∷ terms_at old.bank hyps) (term_at old.bank parts.second) c.args.second) (sym c.requires.denied.denotes) c.requires.second);
      there = c.in_ok-other.ensures.over;
      new = if_made h old one other test.term c.args.first.term c.args.second.term can_old.stands g1 c.requires.test.new c.requires.first.new c.requires.second.new c.in_ok-other.ensures.call;
      same_test = refl;
      same_branch = refl;
    } in
    rewritten_now h (c.args.denied ∷ hyps) two three t c.in_ok-two.two g3 (branch_can h hyps c.args.denied false t parts test c.args.second other news two (branch_grown h hyps c.args.denied false t parts test c.args.second other news one two g2 second)) c.in_ok-two.ensures.ok

pub returns-clause-ok : goal.returns-clause-ok
returns-clause-ok c =
    let h : List Entry = c.args.history.now in
    let hyps : List TermId = c.args.assumed.now in
    let old : Work = c.args.work.now in
    let t : TermId = c.args.t in
    let parts : Branches = c.args.parts in
    let test = c.args.test in
    let news : Branches = record { test = test.term; first = c.args.first.term; second = c.args.second.term } in
    let one : Work = c.if_call.new.work in
    let g1 : WorkGrows h old one = c.if_call.ensures.grows in
    let other : TermId = c.in_ok-other.other in
    let denied_one : IsIdOf one.bank c.args.denied (not_term (term_at one.bank test.term)) = subst (IsIdOf one.bank c.args.denied) (ap not_term (sym (same_term_grown h old one test.term g1 c.requires.test.new))) (id_grown old.bank one.bank c.args.denied (not_term (term_at old.bank test.term)) g1.bank c.requires.denied) in
    let can_old : CanRewrite h old hyps t = c.requires.can in
    let two : Work = c.under.new.work in
    let g2 : WorkGrows h one two = c.under.ensures.grows in
    let g12 : WorkGrows h old two = WorkGrows-trans h old one two g1 g2 in
    let three : Work = c.under-2.new.work in
    let g3 : WorkGrows h two three = c.under-2.ensures.grows in
    let g123 : WorkGrows h old three = WorkGrows-trans h old two three g12 g3 in
    told_before h hyps old three c.close.new.work t c.close.result g123 can_old c.close.ensures.ok

pub returns-clause-grows : goal.returns-clause-grows
returns-clause-grows c =
    let h : List Entry = c.args.history.now in
    let hyps : List TermId = c.args.assumed.now in
    let old : Work = c.args.work.now in
    let t : TermId = c.args.t in
    let parts : Branches = c.args.parts in
    let test = c.args.test in
    let news : Branches = record { test = test.term; first = c.args.first.term; second = c.args.second.term } in
    let one : Work = c.if_call.new.work in
    let g1 : WorkGrows h old one = c.if_call.ensures.grows in
    let other : TermId = c.in_ok-other.other in
    let denied_one : IsIdOf one.bank c.args.denied (not_term (term_at one.bank test.term)) = subst (IsIdOf one.bank c.args.denied) (ap not_term (sym (same_term_grown h old one test.term g1 c.requires.test.new))) (id_grown old.bank one.bank c.args.denied (not_term (term_at old.bank test.term)) g1.bank c.requires.denied) in
    let can_old : CanRewrite h old hyps t = c.requires.can in
    let two : Work = c.under.new.work in
    let g2 : WorkGrows h one two = c.under.ensures.grows in
    let g12 : WorkGrows h old two = WorkGrows-trans h old one two g1 g2 in
    let three : Work = c.under-2.new.work in
    let g3 : WorkGrows h two three = c.under-2.ensures.grows in
    let g123 : WorkGrows h old three = WorkGrows-trans h old two three g12 g3 in
    WorkGrows-trans h old three c.close.new.work g123 c.close.ensures.grows

pub returns-then-is_unchanged-clause-grows : goal.returns-then-is_unchanged-clause-grows
returns-then-is_unchanged-clause-grows c = WorkGrows-refl c.args.history.now c.args.work.now c.requires.can.stands
