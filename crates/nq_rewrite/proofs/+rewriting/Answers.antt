use Rattle.std.proofs.Common.{◌≤◌, ◌-◌, ◌∷◌, List, sym, subst, arith}
use Rattle.std.specs.Prelude.{IfSome, Ok}
use Rattle.nq_bank.specs.declared.node.TermId.{TermId}
use Rattle.nq_bank.specs.Content.{term_at, terms_at}
use Rattle.nq_history.specs.declared.entry.Entry.{Entry}
use Rattle.nq_history.specs.Events.{EntryStands}
use Rattle.nq_kernel.specs.declared.work.Work.{Work}
use Rattle.nq_kernel.specs.Growing.{WorkGrows}
use Rattle.nq_kernel.proofs.GrowingLemmas.{WorkGrows-refl, WorkGrows-trans}
use Rattle.nq_lines.specs.Lines.{IsTermIn}
use Rattle.nq_lines.proofs.TermLemmas.{term_grown}
use Rattle.nq_instances.specs.Parts.{IsIfOf}
use Rattle.nq_instances.proofs.PartLemmas.{if_grown}
use Rattle.nq_reduce.specs.Rewriting.{CanRewrite, IsKnown, IsRewritten}
use Rattle.nq_reduce.specs.Held.{IsHeld}
use Rattle.nq_reduce.proofs.RewritingLemmas.{can_grown, can_term, can_more, rewritten_now, rewritten_after, rewritten_carried, rewritten_before, told_before, known_now, argument_grown, denied_now, itself, fewer_left, entered_grows}
use Rattle.nq_reduce.proofs.HeldLemmas.{held_grown, held_now, held_after, held_before, known_told, unchanged_after}
use Rattle.nq_rewrite.proofs.+rewriting.Goals as goal

pub rewriting::rewrite_term-returns-then-is_settled-clause-grows : goal.rewriting::rewrite_term-returns-then-is_settled-clause-grows
rewriting::rewrite_term-returns-then-is_settled-clause-grows t c =
    WorkGrows-refl c.args.history.now c.args.work.now c.requires.can.stands

pub rewriting::rewrite_term-returns-in_err-enter-clause-grows : goal.rewriting::rewrite_term-returns-in_err-enter-clause-grows
rewriting::rewrite_term-returns-in_err-enter-clause-grows t c =
    entered_grows c.args.history.now c.args.work.now c.enter.new.self c.enter.result _ c.requires.can.stands c.enter.ensures.same c.enter.ensures.out c.enter.ensures.not_memory c.enter.ensures.limit (subst (λ n. n ≤ c.args.work.now.counter.limit) c.used.ensures.value c.used.ensures.within) c.in_err-enter.was

pub rewriting::rewrite_entered-rewrite_outside-requires : goal.rewriting::rewrite_entered-rewrite_outside-requires
rewriting::rewrite_entered-rewrite_outside-requires t c =
    let h : List Entry = c.args.history.now in
    let hyps : List TermId = c.args.assumed.now in
    let old : Work = c.args.work.now in
    let one : Work = c.rewrite_inside.new.work in
    let g1 : WorkGrows h old one = c.rewrite_inside.ensures.grows in
    let fewer : one.counter.limit - one.counter.used ≤ old.counter.limit - old.counter.used = fewer_left h old one g1 in
    (omega (arith, fewer), (c.requires.depth, (can_term h one hyps c.args.t c.in_ok-inside.inside.term (can_grown h old one g1 hyps c.args.t c.requires.can) c.in_ok-inside.ensures.ok.new)))

pub rewriting::rewrite_entered-returns-in_err-outside-clause-grows : goal.rewriting::rewrite_entered-returns-in_err-outside-clause-grows
rewriting::rewrite_entered-returns-in_err-outside-clause-grows t c =
    let h : List Entry = c.args.history.now in
    let hyps : List TermId = c.args.assumed.now in
    let old : Work = c.args.work.now in
    let one : Work = c.rewrite_inside.new.work in
    let g1 : WorkGrows h old one = c.rewrite_inside.ensures.grows in
    let two : Work = c.rewrite_outside.new.work in
    let g2 : WorkGrows h one two = c.rewrite_outside.ensures.grows in
    (WorkGrows-trans h old one two g1 g2)

pub rewriting::rewrite_entered-follow-requires-clause-can : goal.rewriting::rewrite_entered-follow-requires-clause-can
rewriting::rewrite_entered-follow-requires-clause-can t c =
    let h : List Entry = c.args.history.now in
    let hyps : List TermId = c.args.assumed.now in
    let old : Work = c.args.work.now in
    let one : Work = c.rewrite_inside.new.work in
    let g1 : WorkGrows h old one = c.rewrite_inside.ensures.grows in
    let two : Work = c.rewrite_outside.new.work in
    let g2 : WorkGrows h one two = c.rewrite_outside.ensures.grows in
    (can_grown h old two (WorkGrows-trans h old one two g1 g2) hyps c.args.t c.requires.can)

pub rewriting::rewrite_entered-follow-requires-clause-first : goal.rewriting::rewrite_entered-follow-requires-clause-first
rewriting::rewrite_entered-follow-requires-clause-first t c =
    let h : List Entry = c.args.history.now in
    let hyps : List TermId = c.args.assumed.now in
    let old : Work = c.args.work.now in
    let one : Work = c.rewrite_inside.new.work in
    let g1 : WorkGrows h old one = c.rewrite_inside.ensures.grows in
    let two : Work = c.rewrite_outside.new.work in
    let g2 : WorkGrows h one two = c.rewrite_outside.ensures.grows in
    rewritten_carried h hyps old one two c.args.t c.in_ok-inside.inside g1 g2 c.requires.can c.in_ok-inside.ensures.ok

pub rewriting::rewrite_entered-follow-requires-clause-second : goal.rewriting::rewrite_entered-follow-requires-clause-second
rewriting::rewrite_entered-follow-requires-clause-second t c =
    let h : List Entry = c.args.history.now in
    let hyps : List TermId = c.args.assumed.now in
    let old : Work = c.args.work.now in
    let one : Work = c.rewrite_inside.new.work in
    let g1 : WorkGrows h old one = c.rewrite_inside.ensures.grows in
    let two : Work = c.rewrite_outside.new.work in
    let g2 : WorkGrows h one two = c.rewrite_outside.ensures.grows in
    rewritten_now h hyps one two c.in_ok-inside.inside.term c.in_ok-outside.outside g2 (can_term h one hyps c.args.t c.in_ok-inside.inside.term (can_grown h old one g1 hyps c.args.t c.requires.can) c.in_ok-inside.ensures.ok.new) c.in_ok-outside.ensures.ok

pub rewriting::rewrite_entered-returns-in_err-new-clause-grows : goal.rewriting::rewrite_entered-returns-in_err-new-clause-grows
rewriting::rewrite_entered-returns-in_err-new-clause-grows t c =
    let h : List Entry = c.args.history.now in
    let hyps : List TermId = c.args.assumed.now in
    let old : Work = c.args.work.now in
    let one : Work = c.rewrite_inside.new.work in
    let g1 : WorkGrows h old one = c.rewrite_inside.ensures.grows in
    let two : Work = c.rewrite_outside.new.work in
    let g2 : WorkGrows h one two = c.rewrite_outside.ensures.grows in
    let three : Work = c.follow.new.work in
    let g3 : WorkGrows h two three = c.follow.ensures.grows in
    (WorkGrows-trans h old two three (WorkGrows-trans h old one two g1 g2) g3)

pub rewriting::rewrite_entered-returns-in_err-settle-clause-grows : goal.rewriting::rewrite_entered-returns-in_err-settle-clause-grows
rewriting::rewrite_entered-returns-in_err-settle-clause-grows t c =
    let h : List Entry = c.args.history.now in
    let hyps : List TermId = c.args.assumed.now in
    let old : Work = c.args.work.now in
    let one : Work = c.rewrite_inside.new.work in
    let g1 : WorkGrows h old one = c.rewrite_inside.ensures.grows in
    let two : Work = c.rewrite_outside.new.work in
    let g2 : WorkGrows h one two = c.rewrite_outside.ensures.grows in
    let three : Work = c.follow.new.work in
    let g3 : WorkGrows h two three = c.follow.ensures.grows in
    (WorkGrows-trans h old two three (WorkGrows-trans h old one two g1 g2) g3)

pub rewriting::rewrite_entered-returns-clause-ok : goal.rewriting::rewrite_entered-returns-clause-ok
rewriting::rewrite_entered-returns-clause-ok t c =
    let h : List Entry = c.args.history.now in
    let hyps : List TermId = c.args.assumed.now in
    let old : Work = c.args.work.now in
    let one : Work = c.rewrite_inside.new.work in
    let g1 : WorkGrows h old one = c.rewrite_inside.ensures.grows in
    let two : Work = c.rewrite_outside.new.work in
    let g2 : WorkGrows h one two = c.rewrite_outside.ensures.grows in
    let three : Work = c.follow.new.work in
    let g3 : WorkGrows h two three = c.follow.ensures.grows in
    rewritten_before h old two (WorkGrows-trans h old one two g1 g2) hyps c.args.t three c.in_ok-new.new c.requires.can c.in_ok-new.ensures.ok

pub rewriting::rewrite_entered-returns-clause-grows : goal.rewriting::rewrite_entered-returns-clause-grows
rewriting::rewrite_entered-returns-clause-grows t c =
    let h : List Entry = c.args.history.now in
    let hyps : List TermId = c.args.assumed.now in
    let old : Work = c.args.work.now in
    let one : Work = c.rewrite_inside.new.work in
    let g1 : WorkGrows h old one = c.rewrite_inside.ensures.grows in
    let two : Work = c.rewrite_outside.new.work in
    let g2 : WorkGrows h one two = c.rewrite_outside.ensures.grows in
    let three : Work = c.follow.new.work in
    let g3 : WorkGrows h two three = c.follow.ensures.grows in
    (WorkGrows-trans h old two three (WorkGrows-trans h old one two g1 g2) g3)

pub rewriting::rewrite_argument-congruent-requires-clause-can : goal.rewriting::rewrite_argument-congruent-requires-clause-can
rewriting::rewrite_argument-congruent-requires-clause-can t c =
    let h : List Entry = c.args.history.now in
    let hyps : List TermId = c.args.assumed.now in
    let old : Work = c.args.work.now in
    let one : Work = c.rewrite_term.new.work in
    let g1 : WorkGrows h old one = c.rewrite_term.ensures.grows in
    (can_grown h old one g1 hyps c.args.t c.requires.can)

pub rewriting::rewrite_argument-congruent-requires-clause-argument : goal.rewriting::rewrite_argument-congruent-requires-clause-argument
rewriting::rewrite_argument-congruent-requires-clause-argument t c =
    let h : List Entry = c.args.history.now in
    let hyps : List TermId = c.args.assumed.now in
    let old : Work = c.args.work.now in
    let one : Work = c.rewrite_term.new.work in
    let g1 : WorkGrows h old one = c.rewrite_term.ensures.grows in
    argument_grown h old one g1 c.args.t c.args.place c.in-Some.a c.requires.can.stands c.requires.can.term c.in-Some.ensures

pub rewriting::rewrite_argument-congruent-requires-clause-new : goal.rewriting::rewrite_argument-congruent-requires-clause-new
rewriting::rewrite_argument-congruent-requires-clause-new t c =
    let h : List Entry = c.args.history.now in
    let hyps : List TermId = c.args.assumed.now in
    let old : Work = c.args.work.now in
    let one : Work = c.rewrite_term.new.work in
    let g1 : WorkGrows h old one = c.rewrite_term.ensures.grows in
    rewritten_now h hyps old one c.in-Some.a c.in_ok-new-in-Some.new g1 (can_term h old hyps c.args.t c.in-Some.a c.requires.can c.in-Some.ensures.argument) c.in_ok-new-in-Some.ensures.ok

pub rewriting::rewrite_argument-returns-in_ok-new-in-Some-clause-ok : goal.rewriting::rewrite_argument-returns-in_ok-new-in-Some-clause-ok
rewriting::rewrite_argument-returns-in_ok-new-in-Some-clause-ok t c =
    let h : List Entry = c.args.history.now in
    let hyps : List TermId = c.args.assumed.now in
    let old : Work = c.args.work.now in
    let one : Work = c.rewrite_term.new.work in
    let g1 : WorkGrows h old one = c.rewrite_term.ensures.grows in
    let two : Work = c.congruent.new.work in
    let g2 : WorkGrows h one two = c.congruent.ensures.grows in
    told_before h hyps old one two c.args.t c.congruent.result g1 c.requires.can c.congruent.ensures.ok

pub rewriting::rewrite_argument-returns-in_ok-new-in-Some-clause-grows : goal.rewriting::rewrite_argument-returns-in_ok-new-in-Some-clause-grows
rewriting::rewrite_argument-returns-in_ok-new-in-Some-clause-grows t c =
    let h : List Entry = c.args.history.now in
    let hyps : List TermId = c.args.assumed.now in
    let old : Work = c.args.work.now in
    let one : Work = c.rewrite_term.new.work in
    let g1 : WorkGrows h old one = c.rewrite_term.ensures.grows in
    let two : Work = c.congruent.new.work in
    let g2 : WorkGrows h one two = c.congruent.ensures.grows in
    (WorkGrows-trans h old one two g1 g2)

pub rewriting::rewrite_argument-returns-in-None-clause-grows : goal.rewriting::rewrite_argument-returns-in-None-clause-grows
rewriting::rewrite_argument-returns-in-None-clause-grows t c =
    WorkGrows-refl c.args.history.now c.args.work.now c.requires.can.stands

pub rewriting::rewrite_arguments-loop-place-init : goal.rewriting::rewrite_arguments-loop-place-init
rewriting::rewrite_arguments-loop-place-init t c =
    record { so_far = itself c.args.history.now c.args.work.now c.args.assumed.now c.args.t c.unchanged-so_far.result c.requires.can c.unchanged-so_far.ensures.term c.unchanged-so_far.ensures.line; grows = WorkGrows-refl c.args.history.now c.args.work.now c.requires.can.stands }

pub rewriting::rewrite_arguments-rewrite_argument-requires : goal.rewriting::rewrite_arguments-rewrite_argument-requires
rewriting::rewrite_arguments-rewrite_argument-requires t c =
    let h : List Entry = c.args.history.now in
    let hyps : List TermId = c.args.assumed.now in
    let old : Work = c.args.work.now in
    let w : Work = c.loop-place.work in
    let g0 : WorkGrows h old w = c.loop-place.invariant.grows in
    let can0 : CanRewrite h w hyps c.args.t = can_grown h old w g0 hyps c.args.t c.requires.can in
    let can1 : CanRewrite h w hyps c.loop-place.so_far.term = can_term h w hyps c.args.t c.loop-place.so_far.term can0 c.loop-place.invariant.so_far.new in
    let fewer : w.counter.limit - w.counter.used ≤ old.counter.limit - old.counter.used = fewer_left h old w g0 in
    (omega (arith, fewer), (c.requires.depth, can1))

pub rewriting::rewrite_arguments-returns-in_err-more-clause-grows : goal.rewriting::rewrite_arguments-returns-in_err-more-clause-grows
rewriting::rewrite_arguments-returns-in_err-more-clause-grows t c =
    let h : List Entry = c.args.history.now in
    let hyps : List TermId = c.args.assumed.now in
    let old : Work = c.args.work.now in
    let w : Work = c.loop-place.work in
    let g0 : WorkGrows h old w = c.loop-place.invariant.grows in
    let can0 : CanRewrite h w hyps c.args.t = can_grown h old w g0 hyps c.args.t c.requires.can in
    let can1 : CanRewrite h w hyps c.loop-place.so_far.term = can_term h w hyps c.args.t c.loop-place.so_far.term can0 c.loop-place.invariant.so_far.new in
    let one : Work = c.rewrite_argument.new.work in
    let g1 : WorkGrows h w one = c.rewrite_argument.ensures.grows in
    WorkGrows-trans h old w one g0 g1

pub rewriting::rewrite_arguments-follow-requires-clause-can : goal.rewriting::rewrite_arguments-follow-requires-clause-can
rewriting::rewrite_arguments-follow-requires-clause-can t c =
    let h : List Entry = c.args.history.now in
    let hyps : List TermId = c.args.assumed.now in
    let old : Work = c.args.work.now in
    let w : Work = c.loop-place.work in
    let g0 : WorkGrows h old w = c.loop-place.invariant.grows in
    let can0 : CanRewrite h w hyps c.args.t = can_grown h old w g0 hyps c.args.t c.requires.can in
    let can1 : CanRewrite h w hyps c.loop-place.so_far.term = can_term h w hyps c.args.t c.loop-place.so_far.term can0 c.loop-place.invariant.so_far.new in
    let one : Work = c.rewrite_argument.new.work in
    let g1 : WorkGrows h w one = c.rewrite_argument.ensures.grows in
    can_grown h w one g1 hyps c.args.t can0

pub rewriting::rewrite_arguments-follow-requires-clause-first : goal.rewriting::rewrite_arguments-follow-requires-clause-first
rewriting::rewrite_arguments-follow-requires-clause-first t c =
    let h : List Entry = c.args.history.now in
    let hyps : List TermId = c.args.assumed.now in
    let old : Work = c.args.work.now in
    let w : Work = c.loop-place.work in
    let g0 : WorkGrows h old w = c.loop-place.invariant.grows in
    let can0 : CanRewrite h w hyps c.args.t = can_grown h old w g0 hyps c.args.t c.requires.can in
    let can1 : CanRewrite h w hyps c.loop-place.so_far.term = can_term h w hyps c.args.t c.loop-place.so_far.term can0 c.loop-place.invariant.so_far.new in
    let one : Work = c.rewrite_argument.new.work in
    let g1 : WorkGrows h w one = c.rewrite_argument.ensures.grows in
    rewritten_carried h hyps old w one c.args.t c.loop-place.so_far g0 g1 c.requires.can c.loop-place.invariant.so_far

pub rewriting::rewrite_arguments-follow-requires-clause-second : goal.rewriting::rewrite_arguments-follow-requires-clause-second
rewriting::rewrite_arguments-follow-requires-clause-second t c =
    let h : List Entry = c.args.history.now in
    let hyps : List TermId = c.args.assumed.now in
    let old : Work = c.args.work.now in
    let w : Work = c.loop-place.work in
    let g0 : WorkGrows h old w = c.loop-place.invariant.grows in
    let can0 : CanRewrite h w hyps c.args.t = can_grown h old w g0 hyps c.args.t c.requires.can in
    let can1 : CanRewrite h w hyps c.loop-place.so_far.term = can_term h w hyps c.args.t c.loop-place.so_far.term can0 c.loop-place.invariant.so_far.new in
    let one : Work = c.rewrite_argument.new.work in
    let g1 : WorkGrows h w one = c.rewrite_argument.ensures.grows in
    rewritten_now h hyps w one c.loop-place.so_far.term c.in_ok-more.more g1 can1 c.in_ok-more.ensures.ok

pub rewriting::rewrite_arguments-returns-in_err-so_far-clause-grows : goal.rewriting::rewrite_arguments-returns-in_err-so_far-clause-grows
rewriting::rewrite_arguments-returns-in_err-so_far-clause-grows t c =
    let h : List Entry = c.args.history.now in
    let hyps : List TermId = c.args.assumed.now in
    let old : Work = c.args.work.now in
    let w : Work = c.loop-place.work in
    let g0 : WorkGrows h old w = c.loop-place.invariant.grows in
    let can0 : CanRewrite h w hyps c.args.t = can_grown h old w g0 hyps c.args.t c.requires.can in
    let can1 : CanRewrite h w hyps c.loop-place.so_far.term = can_term h w hyps c.args.t c.loop-place.so_far.term can0 c.loop-place.invariant.so_far.new in
    let one : Work = c.rewrite_argument.new.work in
    let g1 : WorkGrows h w one = c.rewrite_argument.ensures.grows in
    let two : Work = c.follow.new.work in
    let g01 : WorkGrows h old one = WorkGrows-trans h old w one g0 g1 in
    WorkGrows-trans h old one two g01 c.follow.ensures.grows

pub rewriting::rewrite_arguments-loop-place-preserved : goal.rewriting::rewrite_arguments-loop-place-preserved
rewriting::rewrite_arguments-loop-place-preserved t c =
    let h : List Entry = c.args.history.now in
    let hyps : List TermId = c.args.assumed.now in
    let old : Work = c.args.work.now in
    let w : Work = c.loop-place.work in
    let g0 : WorkGrows h old w = c.loop-place.invariant.grows in
    let can0 : CanRewrite h w hyps c.args.t = can_grown h old w g0 hyps c.args.t c.requires.can in
    let can1 : CanRewrite h w hyps c.loop-place.so_far.term = can_term h w hyps c.args.t c.loop-place.so_far.term can0 c.loop-place.invariant.so_far.new in
    let one : Work = c.rewrite_argument.new.work in
    let g1 : WorkGrows h w one = c.rewrite_argument.ensures.grows in
    let two : Work = c.follow.new.work in
    let g01 : WorkGrows h old one = WorkGrows-trans h old w one g0 g1 in
    record { so_far = rewritten_before h old one g01 hyps c.args.t two c.in_ok-so_far.so_far c.requires.can c.in_ok-so_far.ensures.ok; grows = WorkGrows-trans h old one two g01 c.follow.ensures.grows }

pub testing::rewrite_if-rewrite_tested-requires : goal.testing::rewrite_if-rewrite_tested-requires
testing::rewrite_if-rewrite_tested-requires t c =
    let h : List Entry = c.args.history.now in
    let hyps : List TermId = c.args.assumed.now in
    let old : Work = c.args.work.now in
    let one : Work = c.rewrite_term.new.work in
    let g1 : WorkGrows h old one = c.rewrite_term.ensures.grows in
    let fewer : one.counter.limit - one.counter.used ≤ old.counter.limit - old.counter.used = fewer_left h old one g1 in
    (omega (arith, fewer), (c.requires.depth, ((can_grown h old one g1 hyps c.args.t c.requires.can), ((if_grown h old one g1 c.args.t c.args.parts c.requires.can.stands c.requires.can.term c.requires.parts), rewritten_now h hyps old one c.args.parts.test c.in_ok-test.test g1 (can_term h old hyps c.args.t c.args.parts.test c.requires.can c.requires.parts.test) c.in_ok-test.ensures.ok))))

pub testing::rewrite_if-returns-clause-ok : goal.testing::rewrite_if-returns-clause-ok
testing::rewrite_if-returns-clause-ok t c =
    let h : List Entry = c.args.history.now in
    let hyps : List TermId = c.args.assumed.now in
    let old : Work = c.args.work.now in
    let one : Work = c.rewrite_term.new.work in
    let g1 : WorkGrows h old one = c.rewrite_term.ensures.grows in
    let two : Work = c.rewrite_tested.new.work in
    let g2 : WorkGrows h one two = c.rewrite_tested.ensures.grows in
    told_before h hyps old one two c.args.t c.rewrite_tested.result g1 c.requires.can c.rewrite_tested.ensures.ok

pub testing::rewrite_if-returns-clause-grows : goal.testing::rewrite_if-returns-clause-grows
testing::rewrite_if-returns-clause-grows t c =
    let h : List Entry = c.args.history.now in
    let hyps : List TermId = c.args.assumed.now in
    let old : Work = c.args.work.now in
    let one : Work = c.rewrite_term.new.work in
    let g1 : WorkGrows h old one = c.rewrite_term.ensures.grows in
    let two : Work = c.rewrite_tested.new.work in
    let g2 : WorkGrows h one two = c.rewrite_tested.ensures.grows in
    (WorkGrows-trans h old one two g1 g2)

pub testing::rewrite_tested-known_test-requires : goal.testing::rewrite_tested-known_test-requires
testing::rewrite_tested-known_test-requires t c =
    let h : List Entry = c.args.history.now in
    let hyps : List TermId = c.args.assumed.now in
    let old : Work = c.args.work.now in
    (omega arith, (c.requires.depth, (can_term h old hyps c.args.t c.args.test.term c.requires.can c.requires.test.new)))

pub testing::rewrite_tested-rewrite_chosen-requires : goal.testing::rewrite_tested-rewrite_chosen-requires
testing::rewrite_tested-rewrite_chosen-requires t c =
    let h : List Entry = c.args.history.now in
    let hyps : List TermId = c.args.assumed.now in
    let old : Work = c.args.work.now in
    let one : Work = c.known_test.new.work in
    let g1 : WorkGrows h old one = c.known_test.ensures.grows in
    let fewer : one.counter.limit - one.counter.used ≤ old.counter.limit - old.counter.used = fewer_left h old one g1 in
    (omega (arith, fewer), (c.requires.depth, ((can_grown h old one g1 hyps c.args.t c.requires.can), ((if_grown h old one g1 c.args.t c.args.parts c.requires.can.stands c.requires.can.term c.requires.parts), (rewritten_after h old one g1 hyps c.args.parts.test c.args.test (can_term h old hyps c.args.t c.args.parts.test c.requires.can c.requires.parts.test) c.requires.test, known_now h hyps old one c.args.test.term c.in-Some.known g1 (can_term h old hyps c.args.t c.args.test.term c.requires.can c.requires.test.new) (subst (λ o. IfSome o (IsKnown one (terms_at old.bank hyps) (term_at old.bank c.args.test.term))) c.in-Some.is c.in_ok-known.ensures.known))))))

pub testing::rewrite_tested-returns-in-Some-clause-ok : goal.testing::rewrite_tested-returns-in-Some-clause-ok
testing::rewrite_tested-returns-in-Some-clause-ok t c =
    let h : List Entry = c.args.history.now in
    let hyps : List TermId = c.args.assumed.now in
    let old : Work = c.args.work.now in
    let one : Work = c.known_test.new.work in
    let g1 : WorkGrows h old one = c.known_test.ensures.grows in
    let two : Work = c.rewrite_chosen.new.work in
    let g2 : WorkGrows h one two = c.rewrite_chosen.ensures.grows in
    told_before h hyps old one two c.args.t c.rewrite_chosen.result g1 c.requires.can c.rewrite_chosen.ensures.ok

pub testing::rewrite_tested-returns-in-Some-clause-grows : goal.testing::rewrite_tested-returns-in-Some-clause-grows
testing::rewrite_tested-returns-in-Some-clause-grows t c =
    let h : List Entry = c.args.history.now in
    let hyps : List TermId = c.args.assumed.now in
    let old : Work = c.args.work.now in
    let one : Work = c.known_test.new.work in
    let g1 : WorkGrows h old one = c.known_test.ensures.grows in
    let two : Work = c.rewrite_chosen.new.work in
    let g2 : WorkGrows h one two = c.rewrite_chosen.ensures.grows in
    (WorkGrows-trans h old one two g1 g2)

pub testing::rewrite_tested-rewrite_unknown-requires : goal.testing::rewrite_tested-rewrite_unknown-requires
testing::rewrite_tested-rewrite_unknown-requires t c =
    let h : List Entry = c.args.history.now in
    let hyps : List TermId = c.args.assumed.now in
    let old : Work = c.args.work.now in
    let one : Work = c.known_test.new.work in
    let g1 : WorkGrows h old one = c.known_test.ensures.grows in
    let fewer : one.counter.limit - one.counter.used ≤ old.counter.limit - old.counter.used = fewer_left h old one g1 in
    (omega (arith, fewer), (c.requires.depth, ((can_grown h old one g1 hyps c.args.t c.requires.can), ((if_grown h old one g1 c.args.t c.args.parts c.requires.can.stands c.requires.can.term c.requires.parts), rewritten_after h old one g1 hyps c.args.parts.test c.args.test (can_term h old hyps c.args.t c.args.parts.test c.requires.can c.requires.parts.test) c.requires.test))))

pub testing::rewrite_tested-returns-in-None-clause-ok : goal.testing::rewrite_tested-returns-in-None-clause-ok
testing::rewrite_tested-returns-in-None-clause-ok t c =
    let h : List Entry = c.args.history.now in
    let hyps : List TermId = c.args.assumed.now in
    let old : Work = c.args.work.now in
    let one : Work = c.known_test.new.work in
    let g1 : WorkGrows h old one = c.known_test.ensures.grows in
    let two : Work = c.rewrite_unknown.new.work in
    let g2 : WorkGrows h one two = c.rewrite_unknown.ensures.grows in
    told_before h hyps old one two c.args.t c.rewrite_unknown.result g1 c.requires.can c.rewrite_unknown.ensures.ok

pub testing::rewrite_tested-returns-in-None-clause-grows : goal.testing::rewrite_tested-returns-in-None-clause-grows
testing::rewrite_tested-returns-in-None-clause-grows t c =
    let h : List Entry = c.args.history.now in
    let hyps : List TermId = c.args.assumed.now in
    let old : Work = c.args.work.now in
    let one : Work = c.known_test.new.work in
    let g1 : WorkGrows h old one = c.known_test.ensures.grows in
    let two : Work = c.rewrite_unknown.new.work in
    let g2 : WorkGrows h one two = c.rewrite_unknown.ensures.grows in
    (WorkGrows-trans h old one two g1 g2)

pub testing::known_test-known_by_rules-requires : goal.testing::known_test-known_by_rules-requires
testing::known_test-known_by_rules-requires t c =
    let h : List Entry = c.args.history.now in
    let hyps : List TermId = c.args.assumed.now in
    let old : Work = c.args.work.now in
    let one : Work = c.settled.new.work in
    let g1 : WorkGrows h old one = c.settled.ensures.grows in
    let fewer : one.counter.limit - one.counter.used ≤ old.counter.limit - old.counter.used = fewer_left h old one g1 in
    (omega (arith, fewer), (c.requires.depth, (can_grown h old one g1 hyps c.args.t c.requires.can)))

pub testing::known_test-returns-in-None-clause-known : goal.testing::known_test-returns-in-None-clause-known
testing::known_test-returns-in-None-clause-known t c =
    let h : List Entry = c.args.history.now in
    let hyps : List TermId = c.args.assumed.now in
    let old : Work = c.args.work.now in
    let one : Work = c.settled.new.work in
    let g1 : WorkGrows h old one = c.settled.ensures.grows in
    let two : Work = c.known_by_rules.new.work in
    let g2 : WorkGrows h one two = c.known_by_rules.ensures.grows in
    known_told h old one g1 hyps c.args.t c.requires.can two c.known_by_rules.result c.known_by_rules.ensures.known

pub testing::known_test-returns-in-None-clause-grows : goal.testing::known_test-returns-in-None-clause-grows
testing::known_test-returns-in-None-clause-grows t c =
    let h : List Entry = c.args.history.now in
    let hyps : List TermId = c.args.assumed.now in
    let old : Work = c.args.work.now in
    let one : Work = c.settled.new.work in
    let g1 : WorkGrows h old one = c.settled.ensures.grows in
    let two : Work = c.known_by_rules.new.work in
    let g2 : WorkGrows h one two = c.known_by_rules.ensures.grows in
    (WorkGrows-trans h old one two g1 g2)

pub testing::known_by_rules-known_by_fact-requires : goal.testing::known_by_rules-known_by_fact-requires
testing::known_by_rules-known_by_fact-requires t c =
    let h : List Entry = c.args.history.now in
    let hyps : List TermId = c.args.assumed.now in
    let old : Work = c.args.work.now in
    let one : Work = c.try_rules.new.work in
    let g1 : WorkGrows h old one = c.try_rules.ensures.grows in
    record { fact = held_now h old one g1 hyps c.args.t c.requires.can c.in-Some.fact (subst (λ o. IfSome o (IsHeld h one (terms_at old.bank hyps))) c.in-Some.is c.in_ok-fact.ensures.held) }

pub testing::known_by_rules-returns-in-Some-clause-known : goal.testing::known_by_rules-returns-in-Some-clause-known
testing::known_by_rules-returns-in-Some-clause-known t c =
    let h : List Entry = c.args.history.now in
    let hyps : List TermId = c.args.assumed.now in
    let old : Work = c.args.work.now in
    let one : Work = c.try_rules.new.work in
    let g1 : WorkGrows h old one = c.try_rules.ensures.grows in
    known_told h old one g1 hyps c.args.t c.requires.can one (Ok c.known_by_fact.result) c.known_by_fact.ensures

pub testing::known_by_rules-known_by_arithmetic-requires : goal.testing::known_by_rules-known_by_arithmetic-requires
testing::known_by_rules-known_by_arithmetic-requires t c =
    let h : List Entry = c.args.history.now in
    let hyps : List TermId = c.args.assumed.now in
    let old : Work = c.args.work.now in
    let one : Work = c.try_rules.new.work in
    let g1 : WorkGrows h old one = c.try_rules.ensures.grows in
    record { can = can_grown h old one g1 hyps c.args.t c.requires.can }

pub testing::known_by_rules-returns-in-None-clause-known : goal.testing::known_by_rules-returns-in-None-clause-known
testing::known_by_rules-returns-in-None-clause-known t c =
    let h : List Entry = c.args.history.now in
    let hyps : List TermId = c.args.assumed.now in
    let old : Work = c.args.work.now in
    let one : Work = c.try_rules.new.work in
    let g1 : WorkGrows h old one = c.try_rules.ensures.grows in
    let two : Work = c.known_by_arithmetic.new.work in
    let g2 : WorkGrows h one two = c.known_by_arithmetic.ensures.grows in
    known_told h old one g1 hyps c.args.t c.requires.can two c.known_by_arithmetic.result c.known_by_arithmetic.ensures.known

pub testing::known_by_rules-returns-in-None-clause-grows : goal.testing::known_by_rules-returns-in-None-clause-grows
testing::known_by_rules-returns-in-None-clause-grows t c =
    let h : List Entry = c.args.history.now in
    let hyps : List TermId = c.args.assumed.now in
    let old : Work = c.args.work.now in
    let one : Work = c.try_rules.new.work in
    let g1 : WorkGrows h old one = c.try_rules.ensures.grows in
    let two : Work = c.known_by_arithmetic.new.work in
    let g2 : WorkGrows h one two = c.known_by_arithmetic.ensures.grows in
    (WorkGrows-trans h old one two g1 g2)

pub testing::rewrite_chosen-rewrite_term-requires : goal.testing::rewrite_chosen-rewrite_term-requires
testing::rewrite_chosen-rewrite_term-requires t c =
    let h : List Entry = c.args.history.now in
    let hyps : List TermId = c.args.assumed.now in
    let old : Work = c.args.work.now in
    let one : Work = c.choose.new.work in
    let g1 : WorkGrows h old one = c.choose.ensures.grows in
    let fewer : one.counter.limit - one.counter.used ≤ old.counter.limit - old.counter.used = fewer_left h old one g1 in
    (omega (arith, fewer), (can_term h one hyps c.args.t c.in_ok-branch.branch.term (can_grown h old one g1 hyps c.args.t c.requires.can) c.in_ok-branch.ensures.ok.new))

pub testing::rewrite_chosen-returns-in_err-rest-clause-grows : goal.testing::rewrite_chosen-returns-in_err-rest-clause-grows
testing::rewrite_chosen-returns-in_err-rest-clause-grows t c =
    let h : List Entry = c.args.history.now in
    let hyps : List TermId = c.args.assumed.now in
    let old : Work = c.args.work.now in
    let one : Work = c.choose.new.work in
    let g1 : WorkGrows h old one = c.choose.ensures.grows in
    let two : Work = c.rewrite_term.new.work in
    let g2 : WorkGrows h one two = c.rewrite_term.ensures.grows in
    (WorkGrows-trans h old one two g1 g2)

pub testing::rewrite_chosen-follow-requires-clause-can : goal.testing::rewrite_chosen-follow-requires-clause-can
testing::rewrite_chosen-follow-requires-clause-can t c =
    let h : List Entry = c.args.history.now in
    let hyps : List TermId = c.args.assumed.now in
    let old : Work = c.args.work.now in
    let one : Work = c.choose.new.work in
    let g1 : WorkGrows h old one = c.choose.ensures.grows in
    let two : Work = c.rewrite_term.new.work in
    let g2 : WorkGrows h one two = c.rewrite_term.ensures.grows in
    (can_grown h old two (WorkGrows-trans h old one two g1 g2) hyps c.args.t c.requires.can)

pub testing::rewrite_chosen-follow-requires-clause-first : goal.testing::rewrite_chosen-follow-requires-clause-first
testing::rewrite_chosen-follow-requires-clause-first t c =
    let h : List Entry = c.args.history.now in
    let hyps : List TermId = c.args.assumed.now in
    let old : Work = c.args.work.now in
    let one : Work = c.choose.new.work in
    let g1 : WorkGrows h old one = c.choose.ensures.grows in
    let two : Work = c.rewrite_term.new.work in
    let g2 : WorkGrows h one two = c.rewrite_term.ensures.grows in
    rewritten_carried h hyps old one two c.args.t c.in_ok-branch.branch g1 g2 c.requires.can c.in_ok-branch.ensures.ok

pub testing::rewrite_chosen-follow-requires-clause-second : goal.testing::rewrite_chosen-follow-requires-clause-second
testing::rewrite_chosen-follow-requires-clause-second t c =
    let h : List Entry = c.args.history.now in
    let hyps : List TermId = c.args.assumed.now in
    let old : Work = c.args.work.now in
    let one : Work = c.choose.new.work in
    let g1 : WorkGrows h old one = c.choose.ensures.grows in
    let two : Work = c.rewrite_term.new.work in
    let g2 : WorkGrows h one two = c.rewrite_term.ensures.grows in
    rewritten_now h hyps one two c.in_ok-branch.branch.term c.in_ok-rest.rest g2 (can_term h one hyps c.args.t c.in_ok-branch.branch.term (can_grown h old one g1 hyps c.args.t c.requires.can) c.in_ok-branch.ensures.ok.new) c.in_ok-rest.ensures.ok

pub testing::rewrite_chosen-returns-clause-ok : goal.testing::rewrite_chosen-returns-clause-ok
testing::rewrite_chosen-returns-clause-ok t c =
    let h : List Entry = c.args.history.now in
    let hyps : List TermId = c.args.assumed.now in
    let old : Work = c.args.work.now in
    let one : Work = c.choose.new.work in
    let g1 : WorkGrows h old one = c.choose.ensures.grows in
    let two : Work = c.rewrite_term.new.work in
    let g2 : WorkGrows h one two = c.rewrite_term.ensures.grows in
    let three : Work = c.follow.new.work in
    let g3 : WorkGrows h two three = c.follow.ensures.grows in
    told_before h hyps old two three c.args.t c.follow.result (WorkGrows-trans h old one two g1 g2) c.requires.can c.follow.ensures.ok

pub testing::rewrite_chosen-returns-clause-grows : goal.testing::rewrite_chosen-returns-clause-grows
testing::rewrite_chosen-returns-clause-grows t c =
    let h : List Entry = c.args.history.now in
    let hyps : List TermId = c.args.assumed.now in
    let old : Work = c.args.work.now in
    let one : Work = c.choose.new.work in
    let g1 : WorkGrows h old one = c.choose.ensures.grows in
    let two : Work = c.rewrite_term.new.work in
    let g2 : WorkGrows h one two = c.rewrite_term.ensures.grows in
    let three : Work = c.follow.new.work in
    let g3 : WorkGrows h two three = c.follow.ensures.grows in
    (WorkGrows-trans h old two three (WorkGrows-trans h old one two g1 g2) g3)

pub testing::rewrite_unknown-returns-then-is_idle-clause-grows : goal.testing::rewrite_unknown-returns-then-is_idle-clause-grows
testing::rewrite_unknown-returns-then-is_idle-clause-grows t c =
    WorkGrows-refl c.args.history.now c.args.work.now c.requires.can.stands

pub testing::rewrite_nested-rewrite_spread-requires : goal.testing::rewrite_nested-rewrite_spread-requires
testing::rewrite_nested-rewrite_spread-requires t c =
    let h : List Entry = c.args.history.now in
    let hyps : List TermId = c.args.assumed.now in
    let old : Work = c.args.work.now in
    let one : Work = c.with_test.new.work in
    let g1 : WorkGrows h old one = c.with_test.ensures.grows in
    let fewer : one.counter.limit - one.counter.used ≤ old.counter.limit - old.counter.used = fewer_left h old one g1 in
    (omega (arith, fewer), (c.requires.depth, ((can_term h one hyps c.args.t c.in_ok-whole.whole.term (can_grown h old one g1 hyps c.args.t c.requires.can) c.in_ok-whole.ensures.ok.new), (term_grown h old one c.args.p c.requires.can.stands g1 c.requires.by))))

pub testing::rewrite_nested-returns-in_err-rest-clause-grows : goal.testing::rewrite_nested-returns-in_err-rest-clause-grows
testing::rewrite_nested-returns-in_err-rest-clause-grows t c =
    let h : List Entry = c.args.history.now in
    let hyps : List TermId = c.args.assumed.now in
    let old : Work = c.args.work.now in
    let one : Work = c.with_test.new.work in
    let g1 : WorkGrows h old one = c.with_test.ensures.grows in
    let two : Work = c.rewrite_spread.new.work in
    let g2 : WorkGrows h one two = c.rewrite_spread.ensures.grows in
    (WorkGrows-trans h old one two g1 g2)

pub testing::rewrite_nested-follow-requires-clause-can : goal.testing::rewrite_nested-follow-requires-clause-can
testing::rewrite_nested-follow-requires-clause-can t c =
    let h : List Entry = c.args.history.now in
    let hyps : List TermId = c.args.assumed.now in
    let old : Work = c.args.work.now in
    let one : Work = c.with_test.new.work in
    let g1 : WorkGrows h old one = c.with_test.ensures.grows in
    let two : Work = c.rewrite_spread.new.work in
    let g2 : WorkGrows h one two = c.rewrite_spread.ensures.grows in
    (can_grown h old two (WorkGrows-trans h old one two g1 g2) hyps c.args.t c.requires.can)

pub testing::rewrite_nested-follow-requires-clause-first : goal.testing::rewrite_nested-follow-requires-clause-first
testing::rewrite_nested-follow-requires-clause-first t c =
    let h : List Entry = c.args.history.now in
    let hyps : List TermId = c.args.assumed.now in
    let old : Work = c.args.work.now in
    let one : Work = c.with_test.new.work in
    let g1 : WorkGrows h old one = c.with_test.ensures.grows in
    let two : Work = c.rewrite_spread.new.work in
    let g2 : WorkGrows h one two = c.rewrite_spread.ensures.grows in
    rewritten_carried h hyps old one two c.args.t c.in_ok-whole.whole g1 g2 c.requires.can c.in_ok-whole.ensures.ok

pub testing::rewrite_nested-follow-requires-clause-second : goal.testing::rewrite_nested-follow-requires-clause-second
testing::rewrite_nested-follow-requires-clause-second t c =
    let h : List Entry = c.args.history.now in
    let hyps : List TermId = c.args.assumed.now in
    let old : Work = c.args.work.now in
    let one : Work = c.with_test.new.work in
    let g1 : WorkGrows h old one = c.with_test.ensures.grows in
    let two : Work = c.rewrite_spread.new.work in
    let g2 : WorkGrows h one two = c.rewrite_spread.ensures.grows in
    rewritten_now h hyps one two c.in_ok-whole.whole.term c.in_ok-rest.rest g2 (can_term h one hyps c.args.t c.in_ok-whole.whole.term (can_grown h old one g1 hyps c.args.t c.requires.can) c.in_ok-whole.ensures.ok.new) c.in_ok-rest.ensures.ok

pub testing::rewrite_nested-returns-clause-ok : goal.testing::rewrite_nested-returns-clause-ok
testing::rewrite_nested-returns-clause-ok t c =
    let h : List Entry = c.args.history.now in
    let hyps : List TermId = c.args.assumed.now in
    let old : Work = c.args.work.now in
    let one : Work = c.with_test.new.work in
    let g1 : WorkGrows h old one = c.with_test.ensures.grows in
    let two : Work = c.rewrite_spread.new.work in
    let g2 : WorkGrows h one two = c.rewrite_spread.ensures.grows in
    let three : Work = c.follow.new.work in
    let g3 : WorkGrows h two three = c.follow.ensures.grows in
    told_before h hyps old two three c.args.t c.follow.result (WorkGrows-trans h old one two g1 g2) c.requires.can c.follow.ensures.ok

pub testing::rewrite_nested-returns-clause-grows : goal.testing::rewrite_nested-returns-clause-grows
testing::rewrite_nested-returns-clause-grows t c =
    let h : List Entry = c.args.history.now in
    let hyps : List TermId = c.args.assumed.now in
    let old : Work = c.args.work.now in
    let one : Work = c.with_test.new.work in
    let g1 : WorkGrows h old one = c.with_test.ensures.grows in
    let two : Work = c.rewrite_spread.new.work in
    let g2 : WorkGrows h one two = c.rewrite_spread.ensures.grows in
    let three : Work = c.follow.new.work in
    let g3 : WorkGrows h two three = c.follow.ensures.grows in
    (WorkGrows-trans h old two three (WorkGrows-trans h old one two g1 g2) g3)

pub testing::rewrite_spread-rewrite_on-requires : goal.testing::rewrite_spread-rewrite_on-requires
testing::rewrite_spread-rewrite_on-requires t c =
    let h : List Entry = c.args.history.now in
    let hyps : List TermId = c.args.assumed.now in
    let old : Work = c.args.work.now in
    let one : Work = c.by_test_law.new.work in
    let g1 : WorkGrows h old one = c.by_test_law.ensures.grows in
    let fewer : one.counter.limit - one.counter.used ≤ old.counter.limit - old.counter.used = fewer_left h old one g1 in
    (omega (arith, fewer), (c.requires.depth, ((can_grown h old one g1 hyps c.args.t c.requires.can), rewritten_now h hyps old one c.args.t c.in_ok-step.step g1 c.requires.can c.in_ok-step.ensures.ok)))

pub testing::rewrite_spread-returns-in-Some-clause-ok : goal.testing::rewrite_spread-returns-in-Some-clause-ok
testing::rewrite_spread-returns-in-Some-clause-ok t c =
    let h : List Entry = c.args.history.now in
    let hyps : List TermId = c.args.assumed.now in
    let old : Work = c.args.work.now in
    let one : Work = c.by_test_law.new.work in
    let g1 : WorkGrows h old one = c.by_test_law.ensures.grows in
    let two : Work = c.rewrite_on.new.work in
    let g2 : WorkGrows h one two = c.rewrite_on.ensures.grows in
    told_before h hyps old one two c.args.t c.rewrite_on.result g1 c.requires.can c.rewrite_on.ensures.ok

pub testing::rewrite_spread-returns-in-Some-clause-grows : goal.testing::rewrite_spread-returns-in-Some-clause-grows
testing::rewrite_spread-returns-in-Some-clause-grows t c =
    let h : List Entry = c.args.history.now in
    let hyps : List TermId = c.args.assumed.now in
    let old : Work = c.args.work.now in
    let one : Work = c.by_test_law.new.work in
    let g1 : WorkGrows h old one = c.by_test_law.ensures.grows in
    let two : Work = c.rewrite_on.new.work in
    let g2 : WorkGrows h one two = c.rewrite_on.ensures.grows in
    (WorkGrows-trans h old one two g1 g2)

pub testing::rewrite_spread-rewrite_divided-requires : goal.testing::rewrite_spread-rewrite_divided-requires
testing::rewrite_spread-rewrite_divided-requires t c =
    let h : List Entry = c.args.history.now in
    let hyps : List TermId = c.args.assumed.now in
    let old : Work = c.args.work.now in
    let one : Work = c.by_test_law.new.work in
    let g1 : WorkGrows h old one = c.by_test_law.ensures.grows in
    let fewer : one.counter.limit - one.counter.used ≤ old.counter.limit - old.counter.used = fewer_left h old one g1 in
    (omega (arith, fewer), (c.requires.depth, ((can_grown h old one g1 hyps c.args.t c.requires.can), (term_grown h old one c.args.p c.requires.can.stands g1 c.requires.by))))

pub testing::rewrite_spread-returns-in-None-clause-ok : goal.testing::rewrite_spread-returns-in-None-clause-ok
testing::rewrite_spread-returns-in-None-clause-ok t c =
    let h : List Entry = c.args.history.now in
    let hyps : List TermId = c.args.assumed.now in
    let old : Work = c.args.work.now in
    let one : Work = c.by_test_law.new.work in
    let g1 : WorkGrows h old one = c.by_test_law.ensures.grows in
    let two : Work = c.rewrite_divided.new.work in
    let g2 : WorkGrows h one two = c.rewrite_divided.ensures.grows in
    told_before h hyps old one two c.args.t c.rewrite_divided.result g1 c.requires.can c.rewrite_divided.ensures.ok

pub testing::rewrite_spread-returns-in-None-clause-grows : goal.testing::rewrite_spread-returns-in-None-clause-grows
testing::rewrite_spread-returns-in-None-clause-grows t c =
    let h : List Entry = c.args.history.now in
    let hyps : List TermId = c.args.assumed.now in
    let old : Work = c.args.work.now in
    let one : Work = c.by_test_law.new.work in
    let g1 : WorkGrows h old one = c.by_test_law.ensures.grows in
    let two : Work = c.rewrite_divided.new.work in
    let g2 : WorkGrows h one two = c.rewrite_divided.ensures.grows in
    (WorkGrows-trans h old one two g1 g2)

pub testing::rewrite_turned-rewrite_on-requires : goal.testing::rewrite_turned-rewrite_on-requires
testing::rewrite_turned-rewrite_on-requires t c =
    let h : List Entry = c.args.history.now in
    let hyps : List TermId = c.args.assumed.now in
    let old : Work = c.args.work.now in
    let one : Work = c.by_test_law.new.work in
    let g1 : WorkGrows h old one = c.by_test_law.ensures.grows in
    let fewer : one.counter.limit - one.counter.used ≤ old.counter.limit - old.counter.used = fewer_left h old one g1 in
    (omega (arith, fewer), (c.requires.depth, ((can_grown h old one g1 hyps c.args.t c.requires.can), rewritten_now h hyps old one c.args.t c.in_ok-step.step g1 c.requires.can c.in_ok-step.ensures.ok)))

pub testing::rewrite_turned-returns-in-Some-clause-ok : goal.testing::rewrite_turned-returns-in-Some-clause-ok
testing::rewrite_turned-returns-in-Some-clause-ok t c =
    let h : List Entry = c.args.history.now in
    let hyps : List TermId = c.args.assumed.now in
    let old : Work = c.args.work.now in
    let one : Work = c.by_test_law.new.work in
    let g1 : WorkGrows h old one = c.by_test_law.ensures.grows in
    let two : Work = c.rewrite_on.new.work in
    let g2 : WorkGrows h one two = c.rewrite_on.ensures.grows in
    told_before h hyps old one two c.args.t c.rewrite_on.result g1 c.requires.can c.rewrite_on.ensures.ok

pub testing::rewrite_turned-returns-in-Some-clause-grows : goal.testing::rewrite_turned-returns-in-Some-clause-grows
testing::rewrite_turned-returns-in-Some-clause-grows t c =
    let h : List Entry = c.args.history.now in
    let hyps : List TermId = c.args.assumed.now in
    let old : Work = c.args.work.now in
    let one : Work = c.by_test_law.new.work in
    let g1 : WorkGrows h old one = c.by_test_law.ensures.grows in
    let two : Work = c.rewrite_on.new.work in
    let g2 : WorkGrows h one two = c.rewrite_on.ensures.grows in
    (WorkGrows-trans h old one two g1 g2)

pub testing::rewrite_divided-if_parts_of-requires-clause-term : goal.testing::rewrite_divided-if_parts_of-requires-clause-term
testing::rewrite_divided-if_parts_of-requires-clause-term t c =
    let h : List Entry = c.args.history.now in
    let hyps : List TermId = c.args.assumed.now in
    let old : Work = c.args.work.now in
    let one : Work = c.doubled.new.work in
    let g1 : WorkGrows h old one = c.doubled.ensures.grows in
    c.in_ok-whole.ensures.ok.new

pub testing::rewrite_divided-rewrite_doubled-requires : goal.testing::rewrite_divided-rewrite_doubled-requires
testing::rewrite_divided-rewrite_doubled-requires t c =
    let h : List Entry = c.args.history.now in
    let hyps : List TermId = c.args.assumed.now in
    let old : Work = c.args.work.now in
    let one : Work = c.doubled.new.work in
    let g1 : WorkGrows h old one = c.doubled.ensures.grows in
    let fewer : one.counter.limit - one.counter.used ≤ old.counter.limit - old.counter.used = fewer_left h old one g1 in
    (omega (arith, fewer), (c.requires.depth, ((can_grown h old one g1 hyps c.args.t c.requires.can), (rewritten_now h hyps old one c.args.t c.in_ok-whole.whole g1 c.requires.can c.in_ok-whole.ensures.ok, c.in-Some.ensures))))

pub testing::rewrite_divided-returns-in-Some-clause-ok : goal.testing::rewrite_divided-returns-in-Some-clause-ok
testing::rewrite_divided-returns-in-Some-clause-ok t c =
    let h : List Entry = c.args.history.now in
    let hyps : List TermId = c.args.assumed.now in
    let old : Work = c.args.work.now in
    let one : Work = c.doubled.new.work in
    let g1 : WorkGrows h old one = c.doubled.ensures.grows in
    let two : Work = c.rewrite_doubled.new.work in
    let g2 : WorkGrows h one two = c.rewrite_doubled.ensures.grows in
    told_before h hyps old one two c.args.t c.rewrite_doubled.result g1 c.requires.can c.rewrite_doubled.ensures.ok

pub testing::rewrite_divided-returns-in-Some-clause-grows : goal.testing::rewrite_divided-returns-in-Some-clause-grows
testing::rewrite_divided-returns-in-Some-clause-grows t c =
    let h : List Entry = c.args.history.now in
    let hyps : List TermId = c.args.assumed.now in
    let old : Work = c.args.work.now in
    let one : Work = c.doubled.new.work in
    let g1 : WorkGrows h old one = c.doubled.ensures.grows in
    let two : Work = c.rewrite_doubled.new.work in
    let g2 : WorkGrows h one two = c.rewrite_doubled.ensures.grows in
    (WorkGrows-trans h old one two g1 g2)

pub testing::rewrite_divided-returns-in-None-clause-ok : goal.testing::rewrite_divided-returns-in-None-clause-ok
testing::rewrite_divided-returns-in-None-clause-ok t c =
    let h : List Entry = c.args.history.now in
    let hyps : List TermId = c.args.assumed.now in
    let old : Work = c.args.work.now in
    let one : Work = c.doubled.new.work in
    let g1 : WorkGrows h old one = c.doubled.ensures.grows in
    unchanged_after h old one hyps c.args.t c.unchanged.result g1 c.requires.can c.unchanged.ensures.term c.unchanged.ensures.line

pub testing::rewrite_doubled-rewrite_joined-requires : goal.testing::rewrite_doubled-rewrite_joined-requires
testing::rewrite_doubled-rewrite_joined-requires t c =
    let h : List Entry = c.args.history.now in
    let hyps : List TermId = c.args.assumed.now in
    let old : Work = c.args.work.now in
    (omega arith, (c.requires.depth, ((can_term h old hyps c.args.t c.args.step.term c.requires.can c.requires.step.new), (c.requires.parts, itself h old hyps c.args.parts.test c.unchanged.result (can_term h old hyps c.args.t c.args.parts.test c.requires.can c.requires.parts.test) c.unchanged.ensures.term c.unchanged.ensures.line))))

pub testing::rewrite_doubled-follow-requires-clause-can : goal.testing::rewrite_doubled-follow-requires-clause-can
testing::rewrite_doubled-follow-requires-clause-can t c =
    let h : List Entry = c.args.history.now in
    let hyps : List TermId = c.args.assumed.now in
    let old : Work = c.args.work.now in
    let one : Work = c.rewrite_joined.new.work in
    let g1 : WorkGrows h old one = c.rewrite_joined.ensures.grows in
    (can_grown h old one g1 hyps c.args.t c.requires.can)

pub testing::rewrite_doubled-follow-requires-clause-first : goal.testing::rewrite_doubled-follow-requires-clause-first
testing::rewrite_doubled-follow-requires-clause-first t c =
    let h : List Entry = c.args.history.now in
    let hyps : List TermId = c.args.assumed.now in
    let old : Work = c.args.work.now in
    let one : Work = c.rewrite_joined.new.work in
    let g1 : WorkGrows h old one = c.rewrite_joined.ensures.grows in
    rewritten_after h old one g1 hyps c.args.t c.args.step c.requires.can c.requires.step

pub testing::rewrite_doubled-follow-requires-clause-second : goal.testing::rewrite_doubled-follow-requires-clause-second
testing::rewrite_doubled-follow-requires-clause-second t c =
    let h : List Entry = c.args.history.now in
    let hyps : List TermId = c.args.assumed.now in
    let old : Work = c.args.work.now in
    let one : Work = c.rewrite_joined.new.work in
    let g1 : WorkGrows h old one = c.rewrite_joined.ensures.grows in
    rewritten_now h hyps old one c.args.step.term c.in_ok-rest.rest g1 (can_term h old hyps c.args.t c.args.step.term c.requires.can c.requires.step.new) c.in_ok-rest.ensures.ok

pub testing::rewrite_doubled-returns-in-Some-clause-ok : goal.testing::rewrite_doubled-returns-in-Some-clause-ok
testing::rewrite_doubled-returns-in-Some-clause-ok t c =
    let h : List Entry = c.args.history.now in
    let hyps : List TermId = c.args.assumed.now in
    let old : Work = c.args.work.now in
    let one : Work = c.rewrite_joined.new.work in
    let g1 : WorkGrows h old one = c.rewrite_joined.ensures.grows in
    let two : Work = c.follow.new.work in
    let g2 : WorkGrows h one two = c.follow.ensures.grows in
    told_before h hyps old one two c.args.t c.follow.result g1 c.requires.can c.follow.ensures.ok

pub testing::rewrite_doubled-returns-in-Some-clause-grows : goal.testing::rewrite_doubled-returns-in-Some-clause-grows
testing::rewrite_doubled-returns-in-Some-clause-grows t c =
    let h : List Entry = c.args.history.now in
    let hyps : List TermId = c.args.assumed.now in
    let old : Work = c.args.work.now in
    let one : Work = c.rewrite_joined.new.work in
    let g1 : WorkGrows h old one = c.rewrite_joined.ensures.grows in
    let two : Work = c.follow.new.work in
    let g2 : WorkGrows h one two = c.follow.ensures.grows in
    (WorkGrows-trans h old one two g1 g2)

pub testing::rewrite_doubled-returns-in-None-clause-ok : goal.testing::rewrite_doubled-returns-in-None-clause-ok
testing::rewrite_doubled-returns-in-None-clause-ok t c =
    let h : List Entry = c.args.history.now in
    let hyps : List TermId = c.args.assumed.now in
    let old : Work = c.args.work.now in
    let one : Work = c.rewrite_joined.new.work in
    let g1 : WorkGrows h old one = c.rewrite_joined.ensures.grows in
    unchanged_after h old one hyps c.args.t c.unchanged-in-None.result g1 c.requires.can c.unchanged-in-None.ensures.term c.unchanged-in-None.ensures.line

pub testing::rewrite_joined-undoubled-requires : goal.testing::rewrite_joined-undoubled-requires
testing::rewrite_joined-undoubled-requires t c =
    let h : List Entry = c.args.history.now in
    let hyps : List TermId = c.args.assumed.now in
    let old : Work = c.args.work.now in
    let one : Work = c.rewrite_branches.new.work in
    let g1 : WorkGrows h old one = c.rewrite_branches.ensures.grows in
    record { can = (can_term h one hyps c.args.t c.in_ok-whole.whole.term (can_grown h old one g1 hyps c.args.t c.requires.can) c.in_ok-whole.ensures.ok.new) }

pub testing::rewrite_joined-returns-in_err-rest-clause-grows : goal.testing::rewrite_joined-returns-in_err-rest-clause-grows
testing::rewrite_joined-returns-in_err-rest-clause-grows t c =
    let h : List Entry = c.args.history.now in
    let hyps : List TermId = c.args.assumed.now in
    let old : Work = c.args.work.now in
    let one : Work = c.rewrite_branches.new.work in
    let g1 : WorkGrows h old one = c.rewrite_branches.ensures.grows in
    let two : Work = c.undoubled.new.work in
    let g2 : WorkGrows h one two = c.undoubled.ensures.grows in
    (WorkGrows-trans h old one two g1 g2)

pub testing::rewrite_joined-follow-requires-clause-can : goal.testing::rewrite_joined-follow-requires-clause-can
testing::rewrite_joined-follow-requires-clause-can t c =
    let h : List Entry = c.args.history.now in
    let hyps : List TermId = c.args.assumed.now in
    let old : Work = c.args.work.now in
    let one : Work = c.rewrite_branches.new.work in
    let g1 : WorkGrows h old one = c.rewrite_branches.ensures.grows in
    let two : Work = c.undoubled.new.work in
    let g2 : WorkGrows h one two = c.undoubled.ensures.grows in
    (can_grown h old two (WorkGrows-trans h old one two g1 g2) hyps c.args.t c.requires.can)

pub testing::rewrite_joined-follow-requires-clause-first : goal.testing::rewrite_joined-follow-requires-clause-first
testing::rewrite_joined-follow-requires-clause-first t c =
    let h : List Entry = c.args.history.now in
    let hyps : List TermId = c.args.assumed.now in
    let old : Work = c.args.work.now in
    let one : Work = c.rewrite_branches.new.work in
    let g1 : WorkGrows h old one = c.rewrite_branches.ensures.grows in
    let two : Work = c.undoubled.new.work in
    let g2 : WorkGrows h one two = c.undoubled.ensures.grows in
    rewritten_carried h hyps old one two c.args.t c.in_ok-whole.whole g1 g2 c.requires.can c.in_ok-whole.ensures.ok

pub testing::rewrite_joined-follow-requires-clause-second : goal.testing::rewrite_joined-follow-requires-clause-second
testing::rewrite_joined-follow-requires-clause-second t c =
    let h : List Entry = c.args.history.now in
    let hyps : List TermId = c.args.assumed.now in
    let old : Work = c.args.work.now in
    let one : Work = c.rewrite_branches.new.work in
    let g1 : WorkGrows h old one = c.rewrite_branches.ensures.grows in
    let two : Work = c.undoubled.new.work in
    let g2 : WorkGrows h one two = c.undoubled.ensures.grows in
    rewritten_now h hyps one two c.in_ok-whole.whole.term c.in_ok-rest.rest g2 (can_term h one hyps c.args.t c.in_ok-whole.whole.term (can_grown h old one g1 hyps c.args.t c.requires.can) c.in_ok-whole.ensures.ok.new) c.in_ok-rest.ensures.ok

pub testing::rewrite_joined-returns-clause-ok : goal.testing::rewrite_joined-returns-clause-ok
testing::rewrite_joined-returns-clause-ok t c =
    let h : List Entry = c.args.history.now in
    let hyps : List TermId = c.args.assumed.now in
    let old : Work = c.args.work.now in
    let one : Work = c.rewrite_branches.new.work in
    let g1 : WorkGrows h old one = c.rewrite_branches.ensures.grows in
    let two : Work = c.undoubled.new.work in
    let g2 : WorkGrows h one two = c.undoubled.ensures.grows in
    let three : Work = c.follow.new.work in
    let g3 : WorkGrows h two three = c.follow.ensures.grows in
    told_before h hyps old two three c.args.t c.follow.result (WorkGrows-trans h old one two g1 g2) c.requires.can c.follow.ensures.ok

pub testing::rewrite_joined-returns-clause-grows : goal.testing::rewrite_joined-returns-clause-grows
testing::rewrite_joined-returns-clause-grows t c =
    let h : List Entry = c.args.history.now in
    let hyps : List TermId = c.args.assumed.now in
    let old : Work = c.args.work.now in
    let one : Work = c.rewrite_branches.new.work in
    let g1 : WorkGrows h old one = c.rewrite_branches.ensures.grows in
    let two : Work = c.undoubled.new.work in
    let g2 : WorkGrows h one two = c.undoubled.ensures.grows in
    let three : Work = c.follow.new.work in
    let g3 : WorkGrows h two three = c.follow.ensures.grows in
    (WorkGrows-trans h old two three (WorkGrows-trans h old one two g1 g2) g3)

pub testing::rewrite_branches-rewrite_under-requires : goal.testing::rewrite_branches-rewrite_under-requires
testing::rewrite_branches-rewrite_under-requires t c =
    let h : List Entry = c.args.history.now in
    let hyps : List TermId = c.args.assumed.now in
    let old : Work = c.args.work.now in
    let one : Work = c.deny.new.work in
    let g1 : WorkGrows h old one = c.deny.ensures.grows in
    let can1 : CanRewrite h one hyps c.args.t = can_grown h old one g1 hyps c.args.t c.requires.can in
    let if1 : IsIfOf h one c.args.t c.args.parts = if_grown h old one g1 c.args.t c.args.parts c.requires.can.stands c.requires.can.term c.requires.parts in
    let test1 : IsTermIn h one c.args.test.term = term_grown h old one c.args.test.term c.requires.can.stands g1 c.requires.test.new in
    let fewer : one.counter.limit - one.counter.used ≤ old.counter.limit - old.counter.used = fewer_left h old one g1 in
    (omega (arith, fewer), (c.requires.depth, (can_term h one hyps c.args.t c.args.parts.first can1 if1.first, test1)))

pub testing::rewrite_branches-returns-in_err-first-clause-grows : goal.testing::rewrite_branches-returns-in_err-first-clause-grows
testing::rewrite_branches-returns-in_err-first-clause-grows t c =
    let h : List Entry = c.args.history.now in
    let hyps : List TermId = c.args.assumed.now in
    let old : Work = c.args.work.now in
    let one : Work = c.deny.new.work in
    let g1 : WorkGrows h old one = c.deny.ensures.grows in
    let can1 : CanRewrite h one hyps c.args.t = can_grown h old one g1 hyps c.args.t c.requires.can in
    let if1 : IsIfOf h one c.args.t c.args.parts = if_grown h old one g1 c.args.t c.args.parts c.requires.can.stands c.requires.can.term c.requires.parts in
    let test1 : IsTermIn h one c.args.test.term = term_grown h old one c.args.test.term c.requires.can.stands g1 c.requires.test.new in
    let two : Work = c.rewrite_under.new.work in
    let g2 : WorkGrows h one two = c.rewrite_under.ensures.grows in
    let g12 : WorkGrows h old two = WorkGrows-trans h old one two g1 g2 in
    g12

pub testing::rewrite_branches-rewrite_under-requires-2 : goal.testing::rewrite_branches-rewrite_under-requires-2
testing::rewrite_branches-rewrite_under-requires-2 t c =
    let h : List Entry = c.args.history.now in
    let hyps : List TermId = c.args.assumed.now in
    let old : Work = c.args.work.now in
    let one : Work = c.deny.new.work in
    let g1 : WorkGrows h old one = c.deny.ensures.grows in
    let can1 : CanRewrite h one hyps c.args.t = can_grown h old one g1 hyps c.args.t c.requires.can in
    let if1 : IsIfOf h one c.args.t c.args.parts = if_grown h old one g1 c.args.t c.args.parts c.requires.can.stands c.requires.can.term c.requires.parts in
    let test1 : IsTermIn h one c.args.test.term = term_grown h old one c.args.test.term c.requires.can.stands g1 c.requires.test.new in
    let two : Work = c.rewrite_under.new.work in
    let g2 : WorkGrows h one two = c.rewrite_under.ensures.grows in
    let g12 : WorkGrows h old two = WorkGrows-trans h old one two g1 g2 in
    let can2 : CanRewrite h two hyps c.args.t = can_grown h one two g2 hyps c.args.t can1 in
    let if2 : IsIfOf h two c.args.t c.args.parts = if_grown h one two g2 c.args.t c.args.parts g1.stands can1.term if1 in
    let denied2 : IsTermIn h two c.in_ok-denied.denied = term_grown h one two c.in_ok-denied.denied g1.stands g2 c.in_ok-denied.ensures.over in
    let fewer : two.counter.limit - two.counter.used ≤ old.counter.limit - old.counter.used = fewer_left h old two g12 in
    (omega (arith, fewer), (c.requires.depth, (can_term h two hyps c.args.t c.args.parts.second can2 if2.second, denied2)))

pub testing::rewrite_branches-returns-in_err-second-clause-grows : goal.testing::rewrite_branches-returns-in_err-second-clause-grows
testing::rewrite_branches-returns-in_err-second-clause-grows t c =
    let h : List Entry = c.args.history.now in
    let hyps : List TermId = c.args.assumed.now in
    let old : Work = c.args.work.now in
    let one : Work = c.deny.new.work in
    let g1 : WorkGrows h old one = c.deny.ensures.grows in
    let can1 : CanRewrite h one hyps c.args.t = can_grown h old one g1 hyps c.args.t c.requires.can in
    let if1 : IsIfOf h one c.args.t c.args.parts = if_grown h old one g1 c.args.t c.args.parts c.requires.can.stands c.requires.can.term c.requires.parts in
    let test1 : IsTermIn h one c.args.test.term = term_grown h old one c.args.test.term c.requires.can.stands g1 c.requires.test.new in
    let two : Work = c.rewrite_under.new.work in
    let g2 : WorkGrows h one two = c.rewrite_under.ensures.grows in
    let g12 : WorkGrows h old two = WorkGrows-trans h old one two g1 g2 in
    let can2 : CanRewrite h two hyps c.args.t = can_grown h one two g2 hyps c.args.t can1 in
    let if2 : IsIfOf h two c.args.t c.args.parts = if_grown h one two g2 c.args.t c.args.parts g1.stands can1.term if1 in
    let denied2 : IsTermIn h two c.in_ok-denied.denied = term_grown h one two c.in_ok-denied.denied g1.stands g2 c.in_ok-denied.ensures.over in
    let three : Work = c.rewrite_under-2.new.work in
    let g3 : WorkGrows h two three = c.rewrite_under-2.ensures.grows in
    let g23 : WorkGrows h one three = WorkGrows-trans h one two three g2 g3 in
    let g123 : WorkGrows h old three = WorkGrows-trans h old two three g12 g3 in
    g123

pub testing::rewrite_branches-join-requires-clause-can : goal.testing::rewrite_branches-join-requires-clause-can
testing::rewrite_branches-join-requires-clause-can t c =
    let h : List Entry = c.args.history.now in
    let hyps : List TermId = c.args.assumed.now in
    let old : Work = c.args.work.now in
    let one : Work = c.deny.new.work in
    let g1 : WorkGrows h old one = c.deny.ensures.grows in
    let can1 : CanRewrite h one hyps c.args.t = can_grown h old one g1 hyps c.args.t c.requires.can in
    let if1 : IsIfOf h one c.args.t c.args.parts = if_grown h old one g1 c.args.t c.args.parts c.requires.can.stands c.requires.can.term c.requires.parts in
    let test1 : IsTermIn h one c.args.test.term = term_grown h old one c.args.test.term c.requires.can.stands g1 c.requires.test.new in
    let two : Work = c.rewrite_under.new.work in
    let g2 : WorkGrows h one two = c.rewrite_under.ensures.grows in
    let g12 : WorkGrows h old two = WorkGrows-trans h old one two g1 g2 in
    let can2 : CanRewrite h two hyps c.args.t = can_grown h one two g2 hyps c.args.t can1 in
    let if2 : IsIfOf h two c.args.t c.args.parts = if_grown h one two g2 c.args.t c.args.parts g1.stands can1.term if1 in
    let denied2 : IsTermIn h two c.in_ok-denied.denied = term_grown h one two c.in_ok-denied.denied g1.stands g2 c.in_ok-denied.ensures.over in
    let three : Work = c.rewrite_under-2.new.work in
    let g3 : WorkGrows h two three = c.rewrite_under-2.ensures.grows in
    let g23 : WorkGrows h one three = WorkGrows-trans h one two three g2 g3 in
    let g123 : WorkGrows h old three = WorkGrows-trans h old two three g12 g3 in
    can_grown h old three g123 hyps c.args.t c.requires.can

pub testing::rewrite_branches-join-requires-clause-parts : goal.testing::rewrite_branches-join-requires-clause-parts
testing::rewrite_branches-join-requires-clause-parts t c =
    let h : List Entry = c.args.history.now in
    let hyps : List TermId = c.args.assumed.now in
    let old : Work = c.args.work.now in
    let one : Work = c.deny.new.work in
    let g1 : WorkGrows h old one = c.deny.ensures.grows in
    let can1 : CanRewrite h one hyps c.args.t = can_grown h old one g1 hyps c.args.t c.requires.can in
    let if1 : IsIfOf h one c.args.t c.args.parts = if_grown h old one g1 c.args.t c.args.parts c.requires.can.stands c.requires.can.term c.requires.parts in
    let test1 : IsTermIn h one c.args.test.term = term_grown h old one c.args.test.term c.requires.can.stands g1 c.requires.test.new in
    let two : Work = c.rewrite_under.new.work in
    let g2 : WorkGrows h one two = c.rewrite_under.ensures.grows in
    let g12 : WorkGrows h old two = WorkGrows-trans h old one two g1 g2 in
    let can2 : CanRewrite h two hyps c.args.t = can_grown h one two g2 hyps c.args.t can1 in
    let if2 : IsIfOf h two c.args.t c.args.parts = if_grown h one two g2 c.args.t c.args.parts g1.stands can1.term if1 in
    let denied2 : IsTermIn h two c.in_ok-denied.denied = term_grown h one two c.in_ok-denied.denied g1.stands g2 c.in_ok-denied.ensures.over in
    let three : Work = c.rewrite_under-2.new.work in
    let g3 : WorkGrows h two three = c.rewrite_under-2.ensures.grows in
    let g23 : WorkGrows h one three = WorkGrows-trans h one two three g2 g3 in
    let g123 : WorkGrows h old three = WorkGrows-trans h old two three g12 g3 in
    if_grown h old three g123 c.args.t c.args.parts c.requires.can.stands c.requires.can.term c.requires.parts

pub testing::rewrite_branches-join-requires-clause-test : goal.testing::rewrite_branches-join-requires-clause-test
testing::rewrite_branches-join-requires-clause-test t c =
    let h : List Entry = c.args.history.now in
    let hyps : List TermId = c.args.assumed.now in
    let old : Work = c.args.work.now in
    let one : Work = c.deny.new.work in
    let g1 : WorkGrows h old one = c.deny.ensures.grows in
    let can1 : CanRewrite h one hyps c.args.t = can_grown h old one g1 hyps c.args.t c.requires.can in
    let if1 : IsIfOf h one c.args.t c.args.parts = if_grown h old one g1 c.args.t c.args.parts c.requires.can.stands c.requires.can.term c.requires.parts in
    let test1 : IsTermIn h one c.args.test.term = term_grown h old one c.args.test.term c.requires.can.stands g1 c.requires.test.new in
    let two : Work = c.rewrite_under.new.work in
    let g2 : WorkGrows h one two = c.rewrite_under.ensures.grows in
    let g12 : WorkGrows h old two = WorkGrows-trans h old one two g1 g2 in
    let can2 : CanRewrite h two hyps c.args.t = can_grown h one two g2 hyps c.args.t can1 in
    let if2 : IsIfOf h two c.args.t c.args.parts = if_grown h one two g2 c.args.t c.args.parts g1.stands can1.term if1 in
    let denied2 : IsTermIn h two c.in_ok-denied.denied = term_grown h one two c.in_ok-denied.denied g1.stands g2 c.in_ok-denied.ensures.over in
    let three : Work = c.rewrite_under-2.new.work in
    let g3 : WorkGrows h two three = c.rewrite_under-2.ensures.grows in
    let g23 : WorkGrows h one three = WorkGrows-trans h one two three g2 g3 in
    let g123 : WorkGrows h old three = WorkGrows-trans h old two three g12 g3 in
    rewritten_after h old three g123 hyps c.args.parts.test c.args.test (can_term h old hyps c.args.t c.args.parts.test c.requires.can c.requires.parts.test) c.requires.test

pub testing::rewrite_branches-join-requires-clause-denied : goal.testing::rewrite_branches-join-requires-clause-denied
testing::rewrite_branches-join-requires-clause-denied t c =
    let h : List Entry = c.args.history.now in
    let hyps : List TermId = c.args.assumed.now in
    let old : Work = c.args.work.now in
    let one : Work = c.deny.new.work in
    let g1 : WorkGrows h old one = c.deny.ensures.grows in
    let can1 : CanRewrite h one hyps c.args.t = can_grown h old one g1 hyps c.args.t c.requires.can in
    let if1 : IsIfOf h one c.args.t c.args.parts = if_grown h old one g1 c.args.t c.args.parts c.requires.can.stands c.requires.can.term c.requires.parts in
    let test1 : IsTermIn h one c.args.test.term = term_grown h old one c.args.test.term c.requires.can.stands g1 c.requires.test.new in
    let two : Work = c.rewrite_under.new.work in
    let g2 : WorkGrows h one two = c.rewrite_under.ensures.grows in
    let g12 : WorkGrows h old two = WorkGrows-trans h old one two g1 g2 in
    let can2 : CanRewrite h two hyps c.args.t = can_grown h one two g2 hyps c.args.t can1 in
    let if2 : IsIfOf h two c.args.t c.args.parts = if_grown h one two g2 c.args.t c.args.parts g1.stands can1.term if1 in
    let denied2 : IsTermIn h two c.in_ok-denied.denied = term_grown h one two c.in_ok-denied.denied g1.stands g2 c.in_ok-denied.ensures.over in
    let three : Work = c.rewrite_under-2.new.work in
    let g3 : WorkGrows h two three = c.rewrite_under-2.ensures.grows in
    let g23 : WorkGrows h one three = WorkGrows-trans h one two three g2 g3 in
    let g123 : WorkGrows h old three = WorkGrows-trans h old two three g12 g3 in
    denied_now h old one three c.args.test.term c.in_ok-denied.denied g1 g23 c.requires.test.new c.in_ok-denied.ensures.denied

pub testing::rewrite_branches-join-requires-clause-over : goal.testing::rewrite_branches-join-requires-clause-over
testing::rewrite_branches-join-requires-clause-over t c =
    let h : List Entry = c.args.history.now in
    let hyps : List TermId = c.args.assumed.now in
    let old : Work = c.args.work.now in
    let one : Work = c.deny.new.work in
    let g1 : WorkGrows h old one = c.deny.ensures.grows in
    let can1 : CanRewrite h one hyps c.args.t = can_grown h old one g1 hyps c.args.t c.requires.can in
    let if1 : IsIfOf h one c.args.t c.args.parts = if_grown h old one g1 c.args.t c.args.parts c.requires.can.stands c.requires.can.term c.requires.parts in
    let test1 : IsTermIn h one c.args.test.term = term_grown h old one c.args.test.term c.requires.can.stands g1 c.requires.test.new in
    let two : Work = c.rewrite_under.new.work in
    let g2 : WorkGrows h one two = c.rewrite_under.ensures.grows in
    let g12 : WorkGrows h old two = WorkGrows-trans h old one two g1 g2 in
    let can2 : CanRewrite h two hyps c.args.t = can_grown h one two g2 hyps c.args.t can1 in
    let if2 : IsIfOf h two c.args.t c.args.parts = if_grown h one two g2 c.args.t c.args.parts g1.stands can1.term if1 in
    let denied2 : IsTermIn h two c.in_ok-denied.denied = term_grown h one two c.in_ok-denied.denied g1.stands g2 c.in_ok-denied.ensures.over in
    let three : Work = c.rewrite_under-2.new.work in
    let g3 : WorkGrows h two three = c.rewrite_under-2.ensures.grows in
    let g23 : WorkGrows h one three = WorkGrows-trans h one two three g2 g3 in
    let g123 : WorkGrows h old three = WorkGrows-trans h old two three g12 g3 in
    term_grown h two three c.in_ok-denied.denied g12.stands g3 denied2

pub testing::rewrite_branches-join-requires-clause-first : goal.testing::rewrite_branches-join-requires-clause-first
testing::rewrite_branches-join-requires-clause-first t c =
    let h : List Entry = c.args.history.now in
    let hyps : List TermId = c.args.assumed.now in
    let old : Work = c.args.work.now in
    let one : Work = c.deny.new.work in
    let g1 : WorkGrows h old one = c.deny.ensures.grows in
    let can1 : CanRewrite h one hyps c.args.t = can_grown h old one g1 hyps c.args.t c.requires.can in
    let if1 : IsIfOf h one c.args.t c.args.parts = if_grown h old one g1 c.args.t c.args.parts c.requires.can.stands c.requires.can.term c.requires.parts in
    let test1 : IsTermIn h one c.args.test.term = term_grown h old one c.args.test.term c.requires.can.stands g1 c.requires.test.new in
    let two : Work = c.rewrite_under.new.work in
    let g2 : WorkGrows h one two = c.rewrite_under.ensures.grows in
    let g12 : WorkGrows h old two = WorkGrows-trans h old one two g1 g2 in
    let can2 : CanRewrite h two hyps c.args.t = can_grown h one two g2 hyps c.args.t can1 in
    let if2 : IsIfOf h two c.args.t c.args.parts = if_grown h one two g2 c.args.t c.args.parts g1.stands can1.term if1 in
    let denied2 : IsTermIn h two c.in_ok-denied.denied = term_grown h one two c.in_ok-denied.denied g1.stands g2 c.in_ok-denied.ensures.over in
    let three : Work = c.rewrite_under-2.new.work in
    let g3 : WorkGrows h two three = c.rewrite_under-2.ensures.grows in
    let g23 : WorkGrows h one three = WorkGrows-trans h one two three g2 g3 in
    let g123 : WorkGrows h old three = WorkGrows-trans h old two three g12 g3 in
    rewritten_carried h (c.args.test.term ∷ hyps) one two three c.args.parts.first c.in_ok-first.first g2 g3 (can_more h hyps one c.args.test.term c.args.parts.first (can_term h one hyps c.args.t c.args.parts.first can1 if1.first) test1) c.in_ok-first.ensures.ok

pub testing::rewrite_branches-join-requires-clause-second : goal.testing::rewrite_branches-join-requires-clause-second
testing::rewrite_branches-join-requires-clause-second t c =
    let h : List Entry = c.args.history.now in
    let hyps : List TermId = c.args.assumed.now in
    let old : Work = c.args.work.now in
    let one : Work = c.deny.new.work in
    let g1 : WorkGrows h old one = c.deny.ensures.grows in
    let can1 : CanRewrite h one hyps c.args.t = can_grown h old one g1 hyps c.args.t c.requires.can in
    let if1 : IsIfOf h one c.args.t c.args.parts = if_grown h old one g1 c.args.t c.args.parts c.requires.can.stands c.requires.can.term c.requires.parts in
    let test1 : IsTermIn h one c.args.test.term = term_grown h old one c.args.test.term c.requires.can.stands g1 c.requires.test.new in
    let two : Work = c.rewrite_under.new.work in
    let g2 : WorkGrows h one two = c.rewrite_under.ensures.grows in
    let g12 : WorkGrows h old two = WorkGrows-trans h old one two g1 g2 in
    let can2 : CanRewrite h two hyps c.args.t = can_grown h one two g2 hyps c.args.t can1 in
    let if2 : IsIfOf h two c.args.t c.args.parts = if_grown h one two g2 c.args.t c.args.parts g1.stands can1.term if1 in
    let denied2 : IsTermIn h two c.in_ok-denied.denied = term_grown h one two c.in_ok-denied.denied g1.stands g2 c.in_ok-denied.ensures.over in
    let three : Work = c.rewrite_under-2.new.work in
    let g3 : WorkGrows h two three = c.rewrite_under-2.ensures.grows in
    let g23 : WorkGrows h one three = WorkGrows-trans h one two three g2 g3 in
    let g123 : WorkGrows h old three = WorkGrows-trans h old two three g12 g3 in
    subst (λ u. IsRewritten h three (u ∷ terms_at three.bank hyps) (term_at three.bank c.args.parts.second) c.in_ok-second.second) (denied_now h old one three c.args.test.term c.in_ok-denied.denied g1 g23 c.requires.test.new c.in_ok-denied.ensures.denied).denotes (rewritten_now h (c.in_ok-denied.denied ∷ hyps) two three c.args.parts.second c.in_ok-second.second g3 (can_more h hyps two c.in_ok-denied.denied c.args.parts.second (can_term h two hyps c.args.t c.args.parts.second can2 if2.second) denied2) c.in_ok-second.ensures.ok)

pub testing::rewrite_branches-returns-clause-ok : goal.testing::rewrite_branches-returns-clause-ok
testing::rewrite_branches-returns-clause-ok t c =
    let h : List Entry = c.args.history.now in
    let hyps : List TermId = c.args.assumed.now in
    let old : Work = c.args.work.now in
    let one : Work = c.deny.new.work in
    let g1 : WorkGrows h old one = c.deny.ensures.grows in
    let can1 : CanRewrite h one hyps c.args.t = can_grown h old one g1 hyps c.args.t c.requires.can in
    let if1 : IsIfOf h one c.args.t c.args.parts = if_grown h old one g1 c.args.t c.args.parts c.requires.can.stands c.requires.can.term c.requires.parts in
    let test1 : IsTermIn h one c.args.test.term = term_grown h old one c.args.test.term c.requires.can.stands g1 c.requires.test.new in
    let two : Work = c.rewrite_under.new.work in
    let g2 : WorkGrows h one two = c.rewrite_under.ensures.grows in
    let g12 : WorkGrows h old two = WorkGrows-trans h old one two g1 g2 in
    let can2 : CanRewrite h two hyps c.args.t = can_grown h one two g2 hyps c.args.t can1 in
    let if2 : IsIfOf h two c.args.t c.args.parts = if_grown h one two g2 c.args.t c.args.parts g1.stands can1.term if1 in
    let denied2 : IsTermIn h two c.in_ok-denied.denied = term_grown h one two c.in_ok-denied.denied g1.stands g2 c.in_ok-denied.ensures.over in
    let three : Work = c.rewrite_under-2.new.work in
    let g3 : WorkGrows h two three = c.rewrite_under-2.ensures.grows in
    let g23 : WorkGrows h one three = WorkGrows-trans h one two three g2 g3 in
    let g123 : WorkGrows h old three = WorkGrows-trans h old two three g12 g3 in
    let four : Work = c.join.new.work in
    told_before h hyps old three four c.args.t c.join.result g123 c.requires.can c.join.ensures.ok

pub testing::rewrite_branches-returns-clause-grows : goal.testing::rewrite_branches-returns-clause-grows
testing::rewrite_branches-returns-clause-grows t c =
    let h : List Entry = c.args.history.now in
    let hyps : List TermId = c.args.assumed.now in
    let old : Work = c.args.work.now in
    let one : Work = c.deny.new.work in
    let g1 : WorkGrows h old one = c.deny.ensures.grows in
    let can1 : CanRewrite h one hyps c.args.t = can_grown h old one g1 hyps c.args.t c.requires.can in
    let if1 : IsIfOf h one c.args.t c.args.parts = if_grown h old one g1 c.args.t c.args.parts c.requires.can.stands c.requires.can.term c.requires.parts in
    let test1 : IsTermIn h one c.args.test.term = term_grown h old one c.args.test.term c.requires.can.stands g1 c.requires.test.new in
    let two : Work = c.rewrite_under.new.work in
    let g2 : WorkGrows h one two = c.rewrite_under.ensures.grows in
    let g12 : WorkGrows h old two = WorkGrows-trans h old one two g1 g2 in
    let can2 : CanRewrite h two hyps c.args.t = can_grown h one two g2 hyps c.args.t can1 in
    let if2 : IsIfOf h two c.args.t c.args.parts = if_grown h one two g2 c.args.t c.args.parts g1.stands can1.term if1 in
    let denied2 : IsTermIn h two c.in_ok-denied.denied = term_grown h one two c.in_ok-denied.denied g1.stands g2 c.in_ok-denied.ensures.over in
    let three : Work = c.rewrite_under-2.new.work in
    let g3 : WorkGrows h two three = c.rewrite_under-2.ensures.grows in
    let g23 : WorkGrows h one three = WorkGrows-trans h one two three g2 g3 in
    let g123 : WorkGrows h old three = WorkGrows-trans h old two three g12 g3 in
    let four : Work = c.join.new.work in
    WorkGrows-trans h old three four g123 c.join.ensures.grows

pub testing::rewrite_branches-returns-then-search-clause-ok : goal.testing::rewrite_branches-returns-then-search-clause-ok
testing::rewrite_branches-returns-then-search-clause-ok t c =
    let h : List Entry = c.args.history.now in
    let hyps : List TermId = c.args.assumed.now in
    let old : Work = c.args.work.now in
    let one : Work = c.deny.new.work in
    let g1 : WorkGrows h old one = c.deny.ensures.grows in
    let two : Work = c.rewrite_under.new.work in
    let g2 : WorkGrows h one two = c.rewrite_under.ensures.grows in
    let three : Work = c.rewrite_under-2.new.work in
    let g3 : WorkGrows h two three = c.rewrite_under-2.ensures.grows in
    unchanged_after h old three hyps c.args.t c.unchanged.result (WorkGrows-trans h old two three (WorkGrows-trans h old one two g1 g2) g3) c.requires.can c.unchanged.ensures.term c.unchanged.ensures.line

pub testing::rewrite_branches-returns-then-search-clause-grows : goal.testing::rewrite_branches-returns-then-search-clause-grows
testing::rewrite_branches-returns-then-search-clause-grows t c =
    let h : List Entry = c.args.history.now in
    let hyps : List TermId = c.args.assumed.now in
    let old : Work = c.args.work.now in
    let one : Work = c.deny.new.work in
    let g1 : WorkGrows h old one = c.deny.ensures.grows in
    let two : Work = c.rewrite_under.new.work in
    let g2 : WorkGrows h one two = c.rewrite_under.ensures.grows in
    let three : Work = c.rewrite_under-2.new.work in
    let g3 : WorkGrows h two three = c.rewrite_under-2.ensures.grows in
    (WorkGrows-trans h old two three (WorkGrows-trans h old one two g1 g2) g3)

pub testing::rewrite_under-returns-in_err-all-clause-grows : goal.testing::rewrite_under-returns-in_err-all-clause-grows
testing::rewrite_under-returns-in_err-all-clause-grows t c =
    WorkGrows-refl c.args.history.now c.args.work.now c.requires.can.stands

pub outside::rewrite_call-rewrite_on-requires : goal.outside::rewrite_call-rewrite_on-requires
outside::rewrite_call-rewrite_on-requires t c =
    let h : List Entry = c.args.history.now in
    let hyps : List TermId = c.args.assumed.now in
    let old : Work = c.args.work.now in
    let one : Work = c.reduce_numbered.new.work in
    let g1 : WorkGrows h old one = c.reduce_numbered.ensures.grows in
    let fewer : one.counter.limit - one.counter.used ≤ old.counter.limit - old.counter.used = fewer_left h old one g1 in
    (omega (arith, fewer), (c.requires.depth, ((can_grown h old one g1 hyps c.args.t c.requires.can), rewritten_now h hyps old one c.args.t c.in_ok-step.step g1 c.requires.can c.in_ok-step.ensures.ok)))

pub outside::rewrite_call-returns-in-Some-clause-ok : goal.outside::rewrite_call-returns-in-Some-clause-ok
outside::rewrite_call-returns-in-Some-clause-ok t c =
    let h : List Entry = c.args.history.now in
    let hyps : List TermId = c.args.assumed.now in
    let old : Work = c.args.work.now in
    let one : Work = c.reduce_numbered.new.work in
    let g1 : WorkGrows h old one = c.reduce_numbered.ensures.grows in
    let two : Work = c.rewrite_on.new.work in
    let g2 : WorkGrows h one two = c.rewrite_on.ensures.grows in
    told_before h hyps old one two c.args.t c.rewrite_on.result g1 c.requires.can c.rewrite_on.ensures.ok

pub outside::rewrite_call-returns-in-Some-clause-grows : goal.outside::rewrite_call-returns-in-Some-clause-grows
outside::rewrite_call-returns-in-Some-clause-grows t c =
    let h : List Entry = c.args.history.now in
    let hyps : List TermId = c.args.assumed.now in
    let old : Work = c.args.work.now in
    let one : Work = c.reduce_numbered.new.work in
    let g1 : WorkGrows h old one = c.reduce_numbered.ensures.grows in
    let two : Work = c.rewrite_on.new.work in
    let g2 : WorkGrows h one two = c.rewrite_on.ensures.grows in
    (WorkGrows-trans h old one two g1 g2)

pub outside::rewrite_call-rewrite_remade-requires : goal.outside::rewrite_call-rewrite_remade-requires
outside::rewrite_call-rewrite_remade-requires t c =
    let h : List Entry = c.args.history.now in
    let hyps : List TermId = c.args.assumed.now in
    let old : Work = c.args.work.now in
    let one : Work = c.reduce_numbered.new.work in
    let g1 : WorkGrows h old one = c.reduce_numbered.ensures.grows in
    let fewer : one.counter.limit - one.counter.used ≤ old.counter.limit - old.counter.used = fewer_left h old one g1 in
    (omega (arith, fewer), (c.requires.depth, (can_grown h old one g1 hyps c.args.t c.requires.can)))

pub outside::rewrite_call-returns-in-None-clause-ok : goal.outside::rewrite_call-returns-in-None-clause-ok
outside::rewrite_call-returns-in-None-clause-ok t c =
    let h : List Entry = c.args.history.now in
    let hyps : List TermId = c.args.assumed.now in
    let old : Work = c.args.work.now in
    let one : Work = c.reduce_numbered.new.work in
    let g1 : WorkGrows h old one = c.reduce_numbered.ensures.grows in
    let two : Work = c.rewrite_remade.new.work in
    let g2 : WorkGrows h one two = c.rewrite_remade.ensures.grows in
    told_before h hyps old one two c.args.t c.rewrite_remade.result g1 c.requires.can c.rewrite_remade.ensures.ok

pub outside::rewrite_call-returns-in-None-clause-grows : goal.outside::rewrite_call-returns-in-None-clause-grows
outside::rewrite_call-returns-in-None-clause-grows t c =
    let h : List Entry = c.args.history.now in
    let hyps : List TermId = c.args.assumed.now in
    let old : Work = c.args.work.now in
    let one : Work = c.reduce_numbered.new.work in
    let g1 : WorkGrows h old one = c.reduce_numbered.ensures.grows in
    let two : Work = c.rewrite_remade.new.work in
    let g2 : WorkGrows h one two = c.rewrite_remade.ensures.grows in
    (WorkGrows-trans h old one two g1 g2)

pub outside::rewrite_on-rewrite_term-requires : goal.outside::rewrite_on-rewrite_term-requires
outside::rewrite_on-rewrite_term-requires t c =
    let h : List Entry = c.args.history.now in
    let hyps : List TermId = c.args.assumed.now in
    let old : Work = c.args.work.now in
    (omega arith, (can_term h old hyps c.args.t c.args.step.term c.requires.can c.requires.step.new))

pub outside::rewrite_on-follow-requires-clause-can : goal.outside::rewrite_on-follow-requires-clause-can
outside::rewrite_on-follow-requires-clause-can t c =
    let h : List Entry = c.args.history.now in
    let hyps : List TermId = c.args.assumed.now in
    let old : Work = c.args.work.now in
    let one : Work = c.rewrite_term.new.work in
    let g1 : WorkGrows h old one = c.rewrite_term.ensures.grows in
    (can_grown h old one g1 hyps c.args.t c.requires.can)

pub outside::rewrite_on-follow-requires-clause-first : goal.outside::rewrite_on-follow-requires-clause-first
outside::rewrite_on-follow-requires-clause-first t c =
    let h : List Entry = c.args.history.now in
    let hyps : List TermId = c.args.assumed.now in
    let old : Work = c.args.work.now in
    let one : Work = c.rewrite_term.new.work in
    let g1 : WorkGrows h old one = c.rewrite_term.ensures.grows in
    rewritten_after h old one g1 hyps c.args.t c.args.step c.requires.can c.requires.step

pub outside::rewrite_on-follow-requires-clause-second : goal.outside::rewrite_on-follow-requires-clause-second
outside::rewrite_on-follow-requires-clause-second t c =
    let h : List Entry = c.args.history.now in
    let hyps : List TermId = c.args.assumed.now in
    let old : Work = c.args.work.now in
    let one : Work = c.rewrite_term.new.work in
    let g1 : WorkGrows h old one = c.rewrite_term.ensures.grows in
    rewritten_now h hyps old one c.args.step.term c.in_ok-rest.rest g1 (can_term h old hyps c.args.t c.args.step.term c.requires.can c.requires.step.new) c.in_ok-rest.ensures.ok

pub outside::rewrite_on-returns-clause-ok : goal.outside::rewrite_on-returns-clause-ok
outside::rewrite_on-returns-clause-ok t c =
    let h : List Entry = c.args.history.now in
    let hyps : List TermId = c.args.assumed.now in
    let old : Work = c.args.work.now in
    let one : Work = c.rewrite_term.new.work in
    let g1 : WorkGrows h old one = c.rewrite_term.ensures.grows in
    let two : Work = c.follow.new.work in
    let g2 : WorkGrows h one two = c.follow.ensures.grows in
    told_before h hyps old one two c.args.t c.follow.result g1 c.requires.can c.follow.ensures.ok

pub outside::rewrite_on-returns-clause-grows : goal.outside::rewrite_on-returns-clause-grows
outside::rewrite_on-returns-clause-grows t c =
    let h : List Entry = c.args.history.now in
    let hyps : List TermId = c.args.assumed.now in
    let old : Work = c.args.work.now in
    let one : Work = c.rewrite_term.new.work in
    let g1 : WorkGrows h old one = c.rewrite_term.ensures.grows in
    let two : Work = c.follow.new.work in
    let g2 : WorkGrows h one two = c.follow.ensures.grows in
    (WorkGrows-trans h old one two g1 g2)

pub outside::rewrite_further-returns-then-is_bad-clause-grows : goal.outside::rewrite_further-returns-then-is_bad-clause-grows
outside::rewrite_further-returns-then-is_bad-clause-grows t c =
    WorkGrows-refl c.args.history.now c.args.work.now c.requires.can.stands

pub outside::rewrite_further-rewrite_by_fact-requires : goal.outside::rewrite_further-rewrite_by_fact-requires
outside::rewrite_further-rewrite_by_fact-requires t c =
    let h : List Entry = c.args.history.now in
    let hyps : List TermId = c.args.assumed.now in
    let old : Work = c.args.work.now in
    let one : Work = c.try_rules.new.work in
    let g1 : WorkGrows h old one = c.try_rules.ensures.grows in
    let fewer : one.counter.limit - one.counter.used ≤ old.counter.limit - old.counter.used = fewer_left h old one g1 in
    (omega (arith, fewer), (c.requires.depth, ((can_grown h old one g1 hyps c.args.t c.requires.can), held_now h old one g1 hyps c.args.t c.requires.can c.in-Some.fact (subst (λ o. IfSome o (IsHeld h one (terms_at old.bank hyps))) c.in-Some.is c.in_ok-fact.ensures.held))))

pub outside::rewrite_further-returns-in-Some-clause-ok : goal.outside::rewrite_further-returns-in-Some-clause-ok
outside::rewrite_further-returns-in-Some-clause-ok t c =
    let h : List Entry = c.args.history.now in
    let hyps : List TermId = c.args.assumed.now in
    let old : Work = c.args.work.now in
    let one : Work = c.try_rules.new.work in
    let g1 : WorkGrows h old one = c.try_rules.ensures.grows in
    let two : Work = c.rewrite_by_fact.new.work in
    let g2 : WorkGrows h one two = c.rewrite_by_fact.ensures.grows in
    told_before h hyps old one two c.args.t c.rewrite_by_fact.result g1 c.requires.can c.rewrite_by_fact.ensures.ok

pub outside::rewrite_further-returns-in-Some-clause-grows : goal.outside::rewrite_further-returns-in-Some-clause-grows
outside::rewrite_further-returns-in-Some-clause-grows t c =
    let h : List Entry = c.args.history.now in
    let hyps : List TermId = c.args.assumed.now in
    let old : Work = c.args.work.now in
    let one : Work = c.try_rules.new.work in
    let g1 : WorkGrows h old one = c.try_rules.ensures.grows in
    let two : Work = c.rewrite_by_fact.new.work in
    let g2 : WorkGrows h one two = c.rewrite_by_fact.ensures.grows in
    (WorkGrows-trans h old one two g1 g2)

pub outside::rewrite_further-rewrite_by_opening-requires : goal.outside::rewrite_further-rewrite_by_opening-requires
outside::rewrite_further-rewrite_by_opening-requires t c =
    let h : List Entry = c.args.history.now in
    let hyps : List TermId = c.args.assumed.now in
    let old : Work = c.args.work.now in
    let one : Work = c.try_rules.new.work in
    let g1 : WorkGrows h old one = c.try_rules.ensures.grows in
    let fewer : one.counter.limit - one.counter.used ≤ old.counter.limit - old.counter.used = fewer_left h old one g1 in
    (omega (arith, fewer), (c.requires.depth, (can_grown h old one g1 hyps c.args.t c.requires.can)))

pub outside::rewrite_further-returns-in-None-clause-ok : goal.outside::rewrite_further-returns-in-None-clause-ok
outside::rewrite_further-returns-in-None-clause-ok t c =
    let h : List Entry = c.args.history.now in
    let hyps : List TermId = c.args.assumed.now in
    let old : Work = c.args.work.now in
    let one : Work = c.try_rules.new.work in
    let g1 : WorkGrows h old one = c.try_rules.ensures.grows in
    let two : Work = c.rewrite_by_opening.new.work in
    let g2 : WorkGrows h one two = c.rewrite_by_opening.ensures.grows in
    told_before h hyps old one two c.args.t c.rewrite_by_opening.result g1 c.requires.can c.rewrite_by_opening.ensures.ok

pub outside::rewrite_further-returns-in-None-clause-grows : goal.outside::rewrite_further-returns-in-None-clause-grows
outside::rewrite_further-returns-in-None-clause-grows t c =
    let h : List Entry = c.args.history.now in
    let hyps : List TermId = c.args.assumed.now in
    let old : Work = c.args.work.now in
    let one : Work = c.try_rules.new.work in
    let g1 : WorkGrows h old one = c.try_rules.ensures.grows in
    let two : Work = c.rewrite_by_opening.new.work in
    let g2 : WorkGrows h one two = c.rewrite_by_opening.ensures.grows in
    (WorkGrows-trans h old one two g1 g2)

pub outside::rewrite_by_fact-rewrite_on-requires : goal.outside::rewrite_by_fact-rewrite_on-requires
outside::rewrite_by_fact-rewrite_on-requires t c =
    let h : List Entry = c.args.history.now in
    let hyps : List TermId = c.args.assumed.now in
    let old : Work = c.args.work.now in
    let one : Work = c.rewritten_by.new.work in
    let g1 : WorkGrows h old one = c.rewritten_by.ensures.grows in
    let fewer : one.counter.limit - one.counter.used ≤ old.counter.limit - old.counter.used = fewer_left h old one g1 in
    (omega (arith, fewer), (c.requires.depth, ((can_grown h old one g1 hyps c.args.t c.requires.can), rewritten_now h hyps old one c.args.t c.in_ok-step.step g1 c.requires.can c.in_ok-step.ensures.ok)))

pub outside::rewrite_by_fact-returns-in-Some-clause-ok : goal.outside::rewrite_by_fact-returns-in-Some-clause-ok
outside::rewrite_by_fact-returns-in-Some-clause-ok t c =
    let h : List Entry = c.args.history.now in
    let hyps : List TermId = c.args.assumed.now in
    let old : Work = c.args.work.now in
    let one : Work = c.rewritten_by.new.work in
    let g1 : WorkGrows h old one = c.rewritten_by.ensures.grows in
    let two : Work = c.rewrite_on.new.work in
    let g2 : WorkGrows h one two = c.rewrite_on.ensures.grows in
    told_before h hyps old one two c.args.t c.rewrite_on.result g1 c.requires.can c.rewrite_on.ensures.ok

pub outside::rewrite_by_fact-returns-in-Some-clause-grows : goal.outside::rewrite_by_fact-returns-in-Some-clause-grows
outside::rewrite_by_fact-returns-in-Some-clause-grows t c =
    let h : List Entry = c.args.history.now in
    let hyps : List TermId = c.args.assumed.now in
    let old : Work = c.args.work.now in
    let one : Work = c.rewritten_by.new.work in
    let g1 : WorkGrows h old one = c.rewritten_by.ensures.grows in
    let two : Work = c.rewrite_on.new.work in
    let g2 : WorkGrows h one two = c.rewrite_on.ensures.grows in
    (WorkGrows-trans h old one two g1 g2)

pub outside::rewrite_by_fact-rewrite_by_opening-requires : goal.outside::rewrite_by_fact-rewrite_by_opening-requires
outside::rewrite_by_fact-rewrite_by_opening-requires t c =
    let h : List Entry = c.args.history.now in
    let hyps : List TermId = c.args.assumed.now in
    let old : Work = c.args.work.now in
    let one : Work = c.rewritten_by.new.work in
    let g1 : WorkGrows h old one = c.rewritten_by.ensures.grows in
    let fewer : one.counter.limit - one.counter.used ≤ old.counter.limit - old.counter.used = fewer_left h old one g1 in
    (omega (arith, fewer), (c.requires.depth, (can_grown h old one g1 hyps c.args.t c.requires.can)))

pub outside::rewrite_by_fact-returns-in-None-clause-ok : goal.outside::rewrite_by_fact-returns-in-None-clause-ok
outside::rewrite_by_fact-returns-in-None-clause-ok t c =
    let h : List Entry = c.args.history.now in
    let hyps : List TermId = c.args.assumed.now in
    let old : Work = c.args.work.now in
    let one : Work = c.rewritten_by.new.work in
    let g1 : WorkGrows h old one = c.rewritten_by.ensures.grows in
    let two : Work = c.rewrite_by_opening.new.work in
    let g2 : WorkGrows h one two = c.rewrite_by_opening.ensures.grows in
    told_before h hyps old one two c.args.t c.rewrite_by_opening.result g1 c.requires.can c.rewrite_by_opening.ensures.ok

pub outside::rewrite_by_fact-returns-in-None-clause-grows : goal.outside::rewrite_by_fact-returns-in-None-clause-grows
outside::rewrite_by_fact-returns-in-None-clause-grows t c =
    let h : List Entry = c.args.history.now in
    let hyps : List TermId = c.args.assumed.now in
    let old : Work = c.args.work.now in
    let one : Work = c.rewritten_by.new.work in
    let g1 : WorkGrows h old one = c.rewritten_by.ensures.grows in
    let two : Work = c.rewrite_by_opening.new.work in
    let g2 : WorkGrows h one two = c.rewrite_by_opening.ensures.grows in
    (WorkGrows-trans h old one two g1 g2)

pub opening::rewrite_opening-rewrite_body-requires : goal.opening::rewrite_opening-rewrite_body-requires
opening::rewrite_opening-rewrite_body-requires t c =
    let h : List Entry = c.args.history.now in
    let hyps : List TermId = c.args.assumed.now in
    let old : Work = c.args.work.now in
    let one : Work = c.opening_of.new.work in
    let g1 : WorkGrows h old one = c.opening_of.ensures.grows in
    let fewer : one.counter.limit - one.counter.used ≤ old.counter.limit - old.counter.used = fewer_left h old one g1 in
    (omega (arith, fewer), (c.requires.depth, ((can_grown h old one g1 hyps c.args.t c.requires.can), rewritten_now h hyps old one c.args.t c.in_ok-step.step g1 c.requires.can c.in_ok-step.ensures.ok)))

pub opening::rewrite_opening-returns-in-Some-clause-ok : goal.opening::rewrite_opening-returns-in-Some-clause-ok
opening::rewrite_opening-returns-in-Some-clause-ok t c =
    let h : List Entry = c.args.history.now in
    let hyps : List TermId = c.args.assumed.now in
    let old : Work = c.args.work.now in
    let one : Work = c.opening_of.new.work in
    let g1 : WorkGrows h old one = c.opening_of.ensures.grows in
    let two : Work = c.rewrite_body.new.work in
    let g2 : WorkGrows h one two = c.rewrite_body.ensures.grows in
    told_before h hyps old one two c.args.t c.rewrite_body.result g1 c.requires.can c.rewrite_body.ensures.ok

pub opening::rewrite_opening-returns-in-Some-clause-grows : goal.opening::rewrite_opening-returns-in-Some-clause-grows
opening::rewrite_opening-returns-in-Some-clause-grows t c =
    let h : List Entry = c.args.history.now in
    let hyps : List TermId = c.args.assumed.now in
    let old : Work = c.args.work.now in
    let one : Work = c.opening_of.new.work in
    let g1 : WorkGrows h old one = c.opening_of.ensures.grows in
    let two : Work = c.rewrite_body.new.work in
    let g2 : WorkGrows h one two = c.rewrite_body.ensures.grows in
    (WorkGrows-trans h old one two g1 g2)

pub opening::rewrite_opening-rewrite_on-requires : goal.opening::rewrite_opening-rewrite_on-requires
opening::rewrite_opening-rewrite_on-requires t c =
    let h : List Entry = c.args.history.now in
    let hyps : List TermId = c.args.assumed.now in
    let old : Work = c.args.work.now in
    let one : Work = c.opening_of.new.work in
    let g1 : WorkGrows h old one = c.opening_of.ensures.grows in
    let fewer : one.counter.limit - one.counter.used ≤ old.counter.limit - old.counter.used = fewer_left h old one g1 in
    (omega (arith, fewer), (c.requires.depth, ((can_grown h old one g1 hyps c.args.t c.requires.can), rewritten_now h hyps old one c.args.t c.in_ok-step.step g1 c.requires.can c.in_ok-step.ensures.ok)))

pub opening::rewrite_opening-returns-in-None-clause-ok : goal.opening::rewrite_opening-returns-in-None-clause-ok
opening::rewrite_opening-returns-in-None-clause-ok t c =
    let h : List Entry = c.args.history.now in
    let hyps : List TermId = c.args.assumed.now in
    let old : Work = c.args.work.now in
    let one : Work = c.opening_of.new.work in
    let g1 : WorkGrows h old one = c.opening_of.ensures.grows in
    let two : Work = c.rewrite_on.new.work in
    let g2 : WorkGrows h one two = c.rewrite_on.ensures.grows in
    told_before h hyps old one two c.args.t c.rewrite_on.result g1 c.requires.can c.rewrite_on.ensures.ok

pub opening::rewrite_opening-returns-in-None-clause-grows : goal.opening::rewrite_opening-returns-in-None-clause-grows
opening::rewrite_opening-returns-in-None-clause-grows t c =
    let h : List Entry = c.args.history.now in
    let hyps : List TermId = c.args.assumed.now in
    let old : Work = c.args.work.now in
    let one : Work = c.opening_of.new.work in
    let g1 : WorkGrows h old one = c.opening_of.ensures.grows in
    let two : Work = c.rewrite_on.new.work in
    let g2 : WorkGrows h one two = c.rewrite_on.ensures.grows in
    (WorkGrows-trans h old one two g1 g2)

pub opening::rewrite_body-returns-in_err-within-clause-grows : goal.opening::rewrite_body-returns-in_err-within-clause-grows
opening::rewrite_body-returns-in_err-within-clause-grows t c =
    WorkGrows-refl c.args.history.now c.args.work.now c.requires.can.stands

pub opening::rewrite_body-rewrite_term-requires : goal.opening::rewrite_body-rewrite_term-requires
opening::rewrite_body-rewrite_term-requires t c =
    let h : List Entry = c.args.history.now in
    let hyps : List TermId = c.args.assumed.now in
    let old : Work = c.args.work.now in
    (omega arith, (can_term h old hyps c.args.t c.args.step.term c.requires.can c.requires.step.new))

pub opening::rewrite_body-rewrite_opened-requires : goal.opening::rewrite_body-rewrite_opened-requires
opening::rewrite_body-rewrite_opened-requires t c =
    let h : List Entry = c.args.history.now in
    let hyps : List TermId = c.args.assumed.now in
    let old : Work = c.args.work.now in
    let one : Work = c.rewrite_term.new.work in
    let g1 : WorkGrows h old one = c.rewrite_term.ensures.grows in
    let fewer : one.counter.limit - one.counter.used ≤ old.counter.limit - old.counter.used = fewer_left h old one g1 in
    (omega (arith, fewer), (c.requires.depth, ((can_grown h old one g1 hyps c.args.t c.requires.can), (rewritten_after h old one g1 hyps c.args.t c.args.step c.requires.can c.requires.step, rewritten_now h hyps old one c.args.step.term c.in_ok-body.body g1 (can_term h old hyps c.args.t c.args.step.term c.requires.can c.requires.step.new) c.in_ok-body.ensures.ok))))

pub opening::rewrite_body-returns-clause-ok : goal.opening::rewrite_body-returns-clause-ok
opening::rewrite_body-returns-clause-ok t c =
    let h : List Entry = c.args.history.now in
    let hyps : List TermId = c.args.assumed.now in
    let old : Work = c.args.work.now in
    let one : Work = c.rewrite_term.new.work in
    let g1 : WorkGrows h old one = c.rewrite_term.ensures.grows in
    let two : Work = c.rewrite_opened.new.work in
    let g2 : WorkGrows h one two = c.rewrite_opened.ensures.grows in
    told_before h hyps old one two c.args.t c.rewrite_opened.result g1 c.requires.can c.rewrite_opened.ensures.ok

pub opening::rewrite_body-returns-clause-grows : goal.opening::rewrite_body-returns-clause-grows
opening::rewrite_body-returns-clause-grows t c =
    let h : List Entry = c.args.history.now in
    let hyps : List TermId = c.args.assumed.now in
    let old : Work = c.args.work.now in
    let one : Work = c.rewrite_term.new.work in
    let g1 : WorkGrows h old one = c.rewrite_term.ensures.grows in
    let two : Work = c.rewrite_opened.new.work in
    let g2 : WorkGrows h one two = c.rewrite_opened.ensures.grows in
    (WorkGrows-trans h old one two g1 g2)

pub opening::rewrite_opened-returns-in_err-kept-clause-grows : goal.opening::rewrite_opened-returns-in_err-kept-clause-grows
opening::rewrite_opened-returns-in_err-kept-clause-grows t c =
    WorkGrows-refl c.args.history.now c.args.work.now c.requires.can.stands

pub opening::rewrite_opened-returns-then-not-kept-clause-grows : goal.opening::rewrite_opened-returns-then-not-kept-clause-grows
opening::rewrite_opened-returns-then-not-kept-clause-grows t c =
    WorkGrows-refl c.args.history.now c.args.work.now c.requires.can.stands

pub opening::rewrite_opened-rewrite_on-requires : goal.opening::rewrite_opened-rewrite_on-requires
opening::rewrite_opened-rewrite_on-requires t c =
    let h : List Entry = c.args.history.now in
    let hyps : List TermId = c.args.assumed.now in
    let old : Work = c.args.work.now in
    let one : Work = c.follow.new.work in
    let g1 : WorkGrows h old one = c.follow.ensures.grows in
    let fewer : one.counter.limit - one.counter.used ≤ old.counter.limit - old.counter.used = fewer_left h old one g1 in
    (omega (arith, fewer), (c.requires.depth, ((can_grown h old one g1 hyps c.args.t c.requires.can), rewritten_now h hyps old one c.args.t c.in_ok-whole.whole g1 c.requires.can c.in_ok-whole.ensures.ok)))

pub opening::rewrite_opened-returns-clause-ok : goal.opening::rewrite_opened-returns-clause-ok
opening::rewrite_opened-returns-clause-ok t c =
    let h : List Entry = c.args.history.now in
    let hyps : List TermId = c.args.assumed.now in
    let old : Work = c.args.work.now in
    let one : Work = c.follow.new.work in
    let g1 : WorkGrows h old one = c.follow.ensures.grows in
    let two : Work = c.rewrite_on.new.work in
    let g2 : WorkGrows h one two = c.rewrite_on.ensures.grows in
    told_before h hyps old one two c.args.t c.rewrite_on.result g1 c.requires.can c.rewrite_on.ensures.ok

pub opening::rewrite_opened-returns-clause-grows : goal.opening::rewrite_opened-returns-clause-grows
opening::rewrite_opened-returns-clause-grows t c =
    let h : List Entry = c.args.history.now in
    let hyps : List TermId = c.args.assumed.now in
    let old : Work = c.args.work.now in
    let one : Work = c.follow.new.work in
    let g1 : WorkGrows h old one = c.follow.ensures.grows in
    let two : Work = c.rewrite_on.new.work in
    let g2 : WorkGrows h one two = c.rewrite_on.ensures.grows in
    (WorkGrows-trans h old one two g1 g2)

pub reducing::try_rules-loop-place-init : goal.reducing::try_rules-loop-place-init
reducing::try_rules-loop-place-init t c =
    record { grows = WorkGrows-refl c.args.history.now c.args.work.now c.requires.can.stands }

pub reducing::try_rules-try_place-requires : goal.reducing::try_rules-try_place-requires
reducing::try_rules-try_place-requires t c =
    let old : Work = c.args.work.now in
    let one : Work = c.loop-place.work in
    let fewer : one.counter.limit - one.counter.used ≤ old.counter.limit - old.counter.used = fewer_left c.args.history.now old one c.loop-place.invariant.grows in
    (omega (arith, fewer), (c.requires.depth, (can_grown c.args.history.now c.args.work.now c.loop-place.work c.loop-place.invariant.grows c.args.assumed.now c.args.t c.requires.can)))

pub reducing::try_rules-returns-in_err-found-clause-grows : goal.reducing::try_rules-returns-in_err-found-clause-grows
reducing::try_rules-returns-in_err-found-clause-grows t c =
    WorkGrows-trans c.args.history.now c.args.work.now c.loop-place.work c.try_place.new.work c.loop-place.invariant.grows c.try_place.ensures.grows

pub reducing::try_rules-returns-then-is_some-clause-grows : goal.reducing::try_rules-returns-then-is_some-clause-grows
reducing::try_rules-returns-then-is_some-clause-grows t c =
    WorkGrows-trans c.args.history.now c.args.work.now c.loop-place.work c.try_place.new.work c.loop-place.invariant.grows c.try_place.ensures.grows

pub reducing::try_rules-returns-then-is_some-clause-held : goal.reducing::try_rules-returns-then-is_some-clause-held
reducing::try_rules-returns-then-is_some-clause-held t c =
    held_before c.args.history.now c.args.work.now c.loop-place.work c.loop-place.invariant.grows c.args.assumed.now c.args.t c.requires.can c.try_place.new.work (Ok c.in_ok-found.found) c.in_ok-found.ensures.held

pub reducing::try_rules-loop-place-preserved : goal.reducing::try_rules-loop-place-preserved
reducing::try_rules-loop-place-preserved t c =
    record { grows = WorkGrows-trans c.args.history.now c.args.work.now c.loop-place.work c.try_place.new.work c.loop-place.invariant.grows c.try_place.ensures.grows }

pub reducing::try_place-returns-in-None-clause-grows : goal.reducing::try_place-returns-in-None-clause-grows
reducing::try_place-returns-in-None-clause-grows t c =
    WorkGrows-refl c.args.history.now c.args.work.now c.requires.can.stands

pub reducing::try_head-returns-else-head-len-clause-grows : goal.reducing::try_head-returns-else-head-len-clause-grows
reducing::try_head-returns-else-head-len-clause-grows t c =
    WorkGrows-refl c.args.history.now c.args.work.now c.requires.can.stands

pub reducing::try_head-try_rule-requires : goal.reducing::try_head-try_rule-requires
reducing::try_head-try_rule-requires t c =
    (omega arith, (c.requires.depth, (c.requires.can, (subst (EntryStands c.args.work.now.bank) (sym c.entry.ensures) (c.requires.can.stands.history.entries c.args.head.place c.entry.result.now (omega arith))).name)))

pub reducing::try_rule-try_instance-requires : goal.reducing::try_rule-try_instance-requires
reducing::try_rule-try_instance-requires t c =
    let h : List Entry = c.args.history.now in
    let hyps : List TermId = c.args.assumed.now in
    let old : Work = c.args.work.now in
    let one : Work = c.rule_at_hand.new.work in
    let g1 : WorkGrows h old one = c.rule_at_hand.ensures.grows in
    let fewer : one.counter.limit - one.counter.used ≤ old.counter.limit - old.counter.used = fewer_left h old one g1 in
    (omega (arith, fewer), (c.requires.depth, ((can_grown h old one g1 hyps c.args.t c.requires.can), held_now h old one g1 hyps c.args.t c.requires.can c.in-Some.fact (subst (λ o. IfSome o (IsHeld h one (terms_at old.bank hyps))) c.in-Some.is c.in_ok-fact.ensures.held))))

pub reducing::try_rule-returns-in-Some-clause-held : goal.reducing::try_rule-returns-in-Some-clause-held
reducing::try_rule-returns-in-Some-clause-held t c =
    let h : List Entry = c.args.history.now in
    let hyps : List TermId = c.args.assumed.now in
    let old : Work = c.args.work.now in
    let one : Work = c.rule_at_hand.new.work in
    let g1 : WorkGrows h old one = c.rule_at_hand.ensures.grows in
    let two : Work = c.try_instance.new.work in
    let g2 : WorkGrows h one two = c.try_instance.ensures.grows in
    held_before h old one g1 hyps c.args.t c.requires.can two c.try_instance.result c.try_instance.ensures.held

pub reducing::try_rule-returns-in-Some-clause-grows : goal.reducing::try_rule-returns-in-Some-clause-grows
reducing::try_rule-returns-in-Some-clause-grows t c =
    let h : List Entry = c.args.history.now in
    let hyps : List TermId = c.args.assumed.now in
    let old : Work = c.args.work.now in
    let one : Work = c.rule_at_hand.new.work in
    let g1 : WorkGrows h old one = c.rule_at_hand.ensures.grows in
    let two : Work = c.try_instance.new.work in
    let g2 : WorkGrows h one two = c.try_instance.ensures.grows in
    (WorkGrows-trans h old one two g1 g2)

pub reducing::try_instance-returns-else-is_allowed-clause-grows : goal.reducing::try_instance-returns-else-is_allowed-clause-grows
reducing::try_instance-returns-else-is_allowed-clause-grows t c =
    WorkGrows-refl c.args.history.now c.args.work.now c.requires.can.stands

pub reducing::reduce-returns-in_err-enter-clause-grows : goal.reducing::reduce-returns-in_err-enter-clause-grows
reducing::reduce-returns-in_err-enter-clause-grows t c =
    entered_grows c.args.history.now c.args.work.now c.enter.new.self c.enter.result _ c.requires.can.stands c.enter.ensures.same c.enter.ensures.out c.enter.ensures.not_memory c.enter.ensures.limit (subst (λ n. n ≤ c.args.work.now.counter.limit) c.used.ensures.value c.used.ensures.within) c.in_err-enter.was

pub reducing::reduce_implication-relieve-requires : goal.reducing::reduce_implication-relieve-requires
reducing::reduce_implication-relieve-requires t c =
    let h : List Entry = c.args.history.now in
    let hyps : List TermId = c.args.assumed.now in
    let old : Work = c.args.work.now in
    (omega arith, (c.requires.depth, can_term h old hyps c.args.t c.args.condition c.requires.can c.requires.condition))

pub reducing::reduce_implication-reduce_relieved-requires : goal.reducing::reduce_implication-reduce_relieved-requires
reducing::reduce_implication-reduce_relieved-requires t c =
    let h : List Entry = c.args.history.now in
    let hyps : List TermId = c.args.assumed.now in
    let old : Work = c.args.work.now in
    let one : Work = c.relieve.new.work in
    let g1 : WorkGrows h old one = c.relieve.ensures.grows in
    let fewer : one.counter.limit - one.counter.used ≤ old.counter.limit - old.counter.used = fewer_left h old one g1 in
    (omega (arith, fewer), (c.requires.depth, ((can_grown h old one g1 hyps c.args.t c.requires.can), (held_after h old one g1 hyps c.args.t c.requires.can c.args.fact c.requires.fact, held_now h old one g1 hyps c.args.t c.requires.can c.in-Some.shown (subst (λ o. IfSome o (IsHeld h one (terms_at old.bank hyps))) c.in-Some.is c.in_ok-shown.ensures.held)))))

pub reducing::reduce_implication-returns-in-Some-clause-held : goal.reducing::reduce_implication-returns-in-Some-clause-held
reducing::reduce_implication-returns-in-Some-clause-held t c =
    let h : List Entry = c.args.history.now in
    let hyps : List TermId = c.args.assumed.now in
    let old : Work = c.args.work.now in
    let one : Work = c.relieve.new.work in
    let g1 : WorkGrows h old one = c.relieve.ensures.grows in
    let two : Work = c.reduce_relieved.new.work in
    let g2 : WorkGrows h one two = c.reduce_relieved.ensures.grows in
    held_before h old one g1 hyps c.args.t c.requires.can two c.reduce_relieved.result c.reduce_relieved.ensures.held

pub reducing::reduce_implication-returns-in-Some-clause-grows : goal.reducing::reduce_implication-returns-in-Some-clause-grows
reducing::reduce_implication-returns-in-Some-clause-grows t c =
    let h : List Entry = c.args.history.now in
    let hyps : List TermId = c.args.assumed.now in
    let old : Work = c.args.work.now in
    let one : Work = c.relieve.new.work in
    let g1 : WorkGrows h old one = c.relieve.ensures.grows in
    let two : Work = c.reduce_relieved.new.work in
    let g2 : WorkGrows h one two = c.reduce_relieved.ensures.grows in
    (WorkGrows-trans h old one two g1 g2)

pub reducing::reduce_relieved-reduce-requires : goal.reducing::reduce_relieved-reduce-requires
reducing::reduce_relieved-reduce-requires t c =
    let h : List Entry = c.args.history.now in
    let hyps : List TermId = c.args.assumed.now in
    let old : Work = c.args.work.now in
    let one : Work = c.conclusion_for.new.work in
    let g1 : WorkGrows h old one = c.conclusion_for.ensures.grows in
    let fewer : one.counter.limit - one.counter.used ≤ old.counter.limit - old.counter.used = fewer_left h old one g1 in
    (omega (arith, fewer), ((can_grown h old one g1 hyps c.args.t c.requires.can), held_now h old one g1 hyps c.args.t c.requires.can c.in-Some.next (subst (λ o. IfSome o (IsHeld h one (terms_at old.bank hyps))) c.in-Some.is c.in_ok-next.ensures.held)))

pub reducing::reduce_relieved-returns-in-Some-clause-held : goal.reducing::reduce_relieved-returns-in-Some-clause-held
reducing::reduce_relieved-returns-in-Some-clause-held t c =
    let h : List Entry = c.args.history.now in
    let hyps : List TermId = c.args.assumed.now in
    let old : Work = c.args.work.now in
    let one : Work = c.conclusion_for.new.work in
    let g1 : WorkGrows h old one = c.conclusion_for.ensures.grows in
    let two : Work = c.reduce.new.work in
    let g2 : WorkGrows h one two = c.reduce.ensures.grows in
    held_before h old one g1 hyps c.args.t c.requires.can two c.reduce.result c.reduce.ensures.held

pub reducing::reduce_relieved-returns-in-Some-clause-grows : goal.reducing::reduce_relieved-returns-in-Some-clause-grows
reducing::reduce_relieved-returns-in-Some-clause-grows t c =
    let h : List Entry = c.args.history.now in
    let hyps : List TermId = c.args.assumed.now in
    let old : Work = c.args.work.now in
    let one : Work = c.conclusion_for.new.work in
    let g1 : WorkGrows h old one = c.conclusion_for.ensures.grows in
    let two : Work = c.reduce.new.work in
    let g2 : WorkGrows h one two = c.reduce.ensures.grows in
    (WorkGrows-trans h old one two g1 g2)

pub reducing::reduce_conclusion-reduce-requires : goal.reducing::reduce_conclusion-reduce-requires
reducing::reduce_conclusion-reduce-requires t c =
    let h : List Entry = c.args.history.now in
    let hyps : List TermId = c.args.assumed.now in
    let old : Work = c.args.work.now in
    let one : Work = c.part_for.new.work in
    let g1 : WorkGrows h old one = c.part_for.ensures.grows in
    let fewer : one.counter.limit - one.counter.used ≤ old.counter.limit - old.counter.used = fewer_left h old one g1 in
    (omega (arith, fewer), ((can_grown h old one g1 hyps c.args.t c.requires.can), held_now h old one g1 hyps c.args.t c.requires.can c.in-Some.next (subst (λ o. IfSome o (IsHeld h one (terms_at old.bank hyps))) c.in-Some.is c.in_ok-next.ensures.held)))

pub reducing::reduce_conclusion-returns-in-Some-clause-held : goal.reducing::reduce_conclusion-returns-in-Some-clause-held
reducing::reduce_conclusion-returns-in-Some-clause-held t c =
    let h : List Entry = c.args.history.now in
    let hyps : List TermId = c.args.assumed.now in
    let old : Work = c.args.work.now in
    let one : Work = c.part_for.new.work in
    let g1 : WorkGrows h old one = c.part_for.ensures.grows in
    let two : Work = c.reduce.new.work in
    let g2 : WorkGrows h one two = c.reduce.ensures.grows in
    held_before h old one g1 hyps c.args.t c.requires.can two c.reduce.result c.reduce.ensures.held

pub reducing::reduce_conclusion-returns-in-Some-clause-grows : goal.reducing::reduce_conclusion-returns-in-Some-clause-grows
reducing::reduce_conclusion-returns-in-Some-clause-grows t c =
    let h : List Entry = c.args.history.now in
    let hyps : List TermId = c.args.assumed.now in
    let old : Work = c.args.work.now in
    let one : Work = c.part_for.new.work in
    let g1 : WorkGrows h old one = c.part_for.ensures.grows in
    let two : Work = c.reduce.new.work in
    let g2 : WorkGrows h one two = c.reduce.ensures.grows in
    (WorkGrows-trans h old one two g1 g2)

pub reducing::reduce_conclusion-returns-in-None-clause-held : goal.reducing::reduce_conclusion-returns-in-None-clause-held
reducing::reduce_conclusion-returns-in-None-clause-held t c =
    let h : List Entry = c.args.history.now in
    let hyps : List TermId = c.args.assumed.now in
    let old : Work = c.args.work.now in
    let one : Work = c.part_for.new.work in
    let g1 : WorkGrows h old one = c.part_for.ensures.grows in
    held_grown h old one g1 (terms_at old.bank hyps) c.args.fact c.requires.can.stands c.requires.fact

pub reducing::relieve-returns-else-may_relieve-clause-grows : goal.reducing::relieve-returns-else-may_relieve-clause-grows
reducing::relieve-returns-else-may_relieve-clause-grows t c =
    WorkGrows-refl c.args.history.now c.args.work.now c.requires.can.stands

pub reducing::relieve_within-returns-in_err-within-clause-grows : goal.reducing::relieve_within-returns-in_err-within-clause-grows
reducing::relieve_within-returns-in_err-within-clause-grows t c =
    WorkGrows-refl c.args.history.now c.args.work.now c.requires.can.stands

pub reducing::relieve_within-known_test-requires : goal.reducing::relieve_within-known_test-requires
reducing::relieve_within-known_test-requires t c =
    let h : List Entry = c.args.history.now in
    let hyps : List TermId = c.args.assumed.now in
    let old : Work = c.args.work.now in
    let one : Work = c.rewrite_term.new.work in
    let g1 : WorkGrows h old one = c.rewrite_term.ensures.grows in
    let fewer : one.counter.limit - one.counter.used ≤ old.counter.limit - old.counter.used = fewer_left h old one g1 in
    (omega (arith, fewer), (c.requires.depth, (can_term h one hyps c.args.t c.in_ok-new.new.term (can_grown h old one g1 hyps c.args.t c.requires.can) c.in_ok-new.ensures.ok.new)))

pub reducing::relieve_within-returns-in_err-known-clause-grows : goal.reducing::relieve_within-returns-in_err-known-clause-grows
reducing::relieve_within-returns-in_err-known-clause-grows t c =
    let h : List Entry = c.args.history.now in
    let hyps : List TermId = c.args.assumed.now in
    let old : Work = c.args.work.now in
    let one : Work = c.rewrite_term.new.work in
    let g1 : WorkGrows h old one = c.rewrite_term.ensures.grows in
    let two : Work = c.known_test.new.work in
    let g2 : WorkGrows h one two = c.known_test.ensures.grows in
    (WorkGrows-trans h old one two g1 g2)

pub reducing::relieve_within-relieved_by-requires-clause-can : goal.reducing::relieve_within-relieved_by-requires-clause-can
reducing::relieve_within-relieved_by-requires-clause-can t c =
    let h : List Entry = c.args.history.now in
    let hyps : List TermId = c.args.assumed.now in
    let old : Work = c.args.work.now in
    let one : Work = c.rewrite_term.new.work in
    let g1 : WorkGrows h old one = c.rewrite_term.ensures.grows in
    let two : Work = c.known_test.new.work in
    let g2 : WorkGrows h one two = c.known_test.ensures.grows in
    (can_grown h old two (WorkGrows-trans h old one two g1 g2) hyps c.args.t c.requires.can)

pub reducing::relieve_within-relieved_by-requires-clause-new : goal.reducing::relieve_within-relieved_by-requires-clause-new
reducing::relieve_within-relieved_by-requires-clause-new t c =
    let h : List Entry = c.args.history.now in
    let hyps : List TermId = c.args.assumed.now in
    let old : Work = c.args.work.now in
    let one : Work = c.rewrite_term.new.work in
    let g1 : WorkGrows h old one = c.rewrite_term.ensures.grows in
    let two : Work = c.known_test.new.work in
    let g2 : WorkGrows h one two = c.known_test.ensures.grows in
    rewritten_carried h hyps old one two c.args.t c.in_ok-new.new g1 g2 c.requires.can c.in_ok-new.ensures.ok

pub reducing::relieve_within-relieved_by-requires-clause-known : goal.reducing::relieve_within-relieved_by-requires-clause-known
reducing::relieve_within-relieved_by-requires-clause-known t c =
    let h : List Entry = c.args.history.now in
    let hyps : List TermId = c.args.assumed.now in
    let old : Work = c.args.work.now in
    let one : Work = c.rewrite_term.new.work in
    let g1 : WorkGrows h old one = c.rewrite_term.ensures.grows in
    let two : Work = c.known_test.new.work in
    let g2 : WorkGrows h one two = c.known_test.ensures.grows in
    known_now h hyps one two c.in_ok-new.new.term c.in-Some.known g2 (can_term h one hyps c.args.t c.in_ok-new.new.term (can_grown h old one g1 hyps c.args.t c.requires.can) c.in_ok-new.ensures.ok.new) (subst (λ o. IfSome o (IsKnown two (terms_at one.bank hyps) (term_at one.bank c.in_ok-new.new.term))) c.in-Some.is c.in_ok-known.ensures.known)

pub reducing::relieve_within-returns-in-Some-clause-held : goal.reducing::relieve_within-returns-in-Some-clause-held
reducing::relieve_within-returns-in-Some-clause-held t c =
    let h : List Entry = c.args.history.now in
    let hyps : List TermId = c.args.assumed.now in
    let old : Work = c.args.work.now in
    let one : Work = c.rewrite_term.new.work in
    let g1 : WorkGrows h old one = c.rewrite_term.ensures.grows in
    let two : Work = c.known_test.new.work in
    let g2 : WorkGrows h one two = c.known_test.ensures.grows in
    let three : Work = c.relieved_by.new.work in
    let g3 : WorkGrows h two three = c.relieved_by.ensures.grows in
    held_before h old two (WorkGrows-trans h old one two g1 g2) hyps c.args.t c.requires.can three c.relieved_by.result c.relieved_by.ensures.held

pub reducing::relieve_within-returns-in-Some-clause-grows : goal.reducing::relieve_within-returns-in-Some-clause-grows
reducing::relieve_within-returns-in-Some-clause-grows t c =
    let h : List Entry = c.args.history.now in
    let hyps : List TermId = c.args.assumed.now in
    let old : Work = c.args.work.now in
    let one : Work = c.rewrite_term.new.work in
    let g1 : WorkGrows h old one = c.rewrite_term.ensures.grows in
    let two : Work = c.known_test.new.work in
    let g2 : WorkGrows h one two = c.known_test.ensures.grows in
    let three : Work = c.relieved_by.new.work in
    let g3 : WorkGrows h two three = c.relieved_by.ensures.grows in
    (WorkGrows-trans h old two three (WorkGrows-trans h old one two g1 g2) g3)

pub reducing::relieve_within-returns-clause-grows : goal.reducing::relieve_within-returns-clause-grows
reducing::relieve_within-returns-clause-grows t c =
    let h : List Entry = c.args.history.now in
    let hyps : List TermId = c.args.assumed.now in
    let old : Work = c.args.work.now in
    let one : Work = c.rewrite_term.new.work in
    let g1 : WorkGrows h old one = c.rewrite_term.ensures.grows in
    let two : Work = c.known_test.new.work in
    let g2 : WorkGrows h one two = c.known_test.ensures.grows in
    (WorkGrows-trans h old one two g1 g2)

pub selecting::rewrite_answered-rewrite_on-requires : goal.selecting::rewrite_answered-rewrite_on-requires
selecting::rewrite_answered-rewrite_on-requires t c =
    let h : List Entry = c.args.history.now in
    let hyps : List TermId = c.args.assumed.now in
    let old : Work = c.args.work.now in
    let one : Work = c.reduce_numbered.new.work in
    let g1 : WorkGrows h old one = c.reduce_numbered.ensures.grows in
    let fewer : one.counter.limit - one.counter.used ≤ old.counter.limit - old.counter.used = fewer_left h old one g1 in
    (omega (arith, fewer), (c.requires.depth, ((can_grown h old one g1 hyps c.args.t c.requires.can), rewritten_now h hyps old one c.args.t c.in_ok-step.step g1 c.requires.can c.in_ok-step.ensures.ok)))

pub selecting::rewrite_answered-returns-in-Some-clause-ok : goal.selecting::rewrite_answered-returns-in-Some-clause-ok
selecting::rewrite_answered-returns-in-Some-clause-ok t c =
    let h : List Entry = c.args.history.now in
    let hyps : List TermId = c.args.assumed.now in
    let old : Work = c.args.work.now in
    let one : Work = c.reduce_numbered.new.work in
    let g1 : WorkGrows h old one = c.reduce_numbered.ensures.grows in
    let two : Work = c.rewrite_on.new.work in
    let g2 : WorkGrows h one two = c.rewrite_on.ensures.grows in
    told_before h hyps old one two c.args.t c.rewrite_on.result g1 c.requires.can c.rewrite_on.ensures.ok

pub selecting::rewrite_answered-returns-in-Some-clause-grows : goal.selecting::rewrite_answered-returns-in-Some-clause-grows
selecting::rewrite_answered-returns-in-Some-clause-grows t c =
    let h : List Entry = c.args.history.now in
    let hyps : List TermId = c.args.assumed.now in
    let old : Work = c.args.work.now in
    let one : Work = c.reduce_numbered.new.work in
    let g1 : WorkGrows h old one = c.reduce_numbered.ensures.grows in
    let two : Work = c.rewrite_on.new.work in
    let g2 : WorkGrows h one two = c.rewrite_on.ensures.grows in
    (WorkGrows-trans h old one two g1 g2)

pub selecting::rewrite_answered-rewrite_parts-requires : goal.selecting::rewrite_answered-rewrite_parts-requires
selecting::rewrite_answered-rewrite_parts-requires t c =
    let h : List Entry = c.args.history.now in
    let hyps : List TermId = c.args.assumed.now in
    let old : Work = c.args.work.now in
    let one : Work = c.reduce_numbered.new.work in
    let g1 : WorkGrows h old one = c.reduce_numbered.ensures.grows in
    let fewer : one.counter.limit - one.counter.used ≤ old.counter.limit - old.counter.used = fewer_left h old one g1 in
    (omega (arith, fewer), (c.requires.depth, (can_grown h old one g1 hyps c.args.t c.requires.can)))

pub selecting::rewrite_answered-returns-in-None-clause-ok : goal.selecting::rewrite_answered-returns-in-None-clause-ok
selecting::rewrite_answered-returns-in-None-clause-ok t c =
    let h : List Entry = c.args.history.now in
    let hyps : List TermId = c.args.assumed.now in
    let old : Work = c.args.work.now in
    let one : Work = c.reduce_numbered.new.work in
    let g1 : WorkGrows h old one = c.reduce_numbered.ensures.grows in
    let two : Work = c.rewrite_parts.new.work in
    let g2 : WorkGrows h one two = c.rewrite_parts.ensures.grows in
    told_before h hyps old one two c.args.t c.rewrite_parts.result g1 c.requires.can c.rewrite_parts.ensures.ok

pub selecting::rewrite_answered-returns-in-None-clause-grows : goal.selecting::rewrite_answered-returns-in-None-clause-grows
selecting::rewrite_answered-returns-in-None-clause-grows t c =
    let h : List Entry = c.args.history.now in
    let hyps : List TermId = c.args.assumed.now in
    let old : Work = c.args.work.now in
    let one : Work = c.reduce_numbered.new.work in
    let g1 : WorkGrows h old one = c.reduce_numbered.ensures.grows in
    let two : Work = c.rewrite_parts.new.work in
    let g2 : WorkGrows h one two = c.rewrite_parts.ensures.grows in
    (WorkGrows-trans h old one two g1 g2)

pub selecting::rewrite_asked_if-rewrite_asked_by-requires : goal.selecting::rewrite_asked_if-rewrite_asked_by-requires
selecting::rewrite_asked_if-rewrite_asked_by-requires t c =
    let h : List Entry = c.args.history.now in
    let hyps : List TermId = c.args.assumed.now in
    let old : Work = c.args.work.now in
    let one : Work = c.rewrite_term.new.work in
    let g1 : WorkGrows h old one = c.rewrite_term.ensures.grows in
    let fewer : one.counter.limit - one.counter.used ≤ old.counter.limit - old.counter.used = fewer_left h old one g1 in
    (omega (arith, fewer), (c.requires.depth, ((can_grown h old one g1 hyps c.args.t c.requires.can), ((argument_grown h old one g1 c.args.t 1 c.args.a c.requires.can.stands c.requires.can.term c.requires.argument), ((if_grown h old one g1 c.args.a c.args.parts c.requires.can.stands c.requires.argument.argument c.requires.parts), rewritten_now h hyps old one c.args.parts.test c.in_ok-test.test g1 (can_term h old hyps c.args.t c.args.parts.test c.requires.can c.requires.parts.test) c.in_ok-test.ensures.ok)))))

pub selecting::rewrite_asked_if-returns-clause-ok : goal.selecting::rewrite_asked_if-returns-clause-ok
selecting::rewrite_asked_if-returns-clause-ok t c =
    let h : List Entry = c.args.history.now in
    let hyps : List TermId = c.args.assumed.now in
    let old : Work = c.args.work.now in
    let one : Work = c.rewrite_term.new.work in
    let g1 : WorkGrows h old one = c.rewrite_term.ensures.grows in
    let two : Work = c.rewrite_asked_by.new.work in
    let g2 : WorkGrows h one two = c.rewrite_asked_by.ensures.grows in
    told_before h hyps old one two c.args.t c.rewrite_asked_by.result g1 c.requires.can c.rewrite_asked_by.ensures.ok

pub selecting::rewrite_asked_if-returns-clause-grows : goal.selecting::rewrite_asked_if-returns-clause-grows
selecting::rewrite_asked_if-returns-clause-grows t c =
    let h : List Entry = c.args.history.now in
    let hyps : List TermId = c.args.assumed.now in
    let old : Work = c.args.work.now in
    let one : Work = c.rewrite_term.new.work in
    let g1 : WorkGrows h old one = c.rewrite_term.ensures.grows in
    let two : Work = c.rewrite_asked_by.new.work in
    let g2 : WorkGrows h one two = c.rewrite_asked_by.ensures.grows in
    (WorkGrows-trans h old one two g1 g2)

pub selecting::rewrite_asked_by-known_test-requires : goal.selecting::rewrite_asked_by-known_test-requires
selecting::rewrite_asked_by-known_test-requires t c =
    let h : List Entry = c.args.history.now in
    let hyps : List TermId = c.args.assumed.now in
    let old : Work = c.args.work.now in
    (omega arith, (c.requires.depth, (can_term h old hyps c.args.t c.args.test.term c.requires.can c.requires.test.new)))

pub selecting::rewrite_asked_by-rewrite_asked_chosen-requires : goal.selecting::rewrite_asked_by-rewrite_asked_chosen-requires
selecting::rewrite_asked_by-rewrite_asked_chosen-requires t c =
    let h : List Entry = c.args.history.now in
    let hyps : List TermId = c.args.assumed.now in
    let old : Work = c.args.work.now in
    let one : Work = c.known_test.new.work in
    let g1 : WorkGrows h old one = c.known_test.ensures.grows in
    let fewer : one.counter.limit - one.counter.used ≤ old.counter.limit - old.counter.used = fewer_left h old one g1 in
    (omega (arith, fewer), (c.requires.depth, ((can_grown h old one g1 hyps c.args.t c.requires.can), ((argument_grown h old one g1 c.args.t 1 c.args.a c.requires.can.stands c.requires.can.term c.requires.argument), ((if_grown h old one g1 c.args.a c.args.parts c.requires.can.stands c.requires.argument.argument c.requires.parts), (rewritten_after h old one g1 hyps c.args.parts.test c.args.test (can_term h old hyps c.args.t c.args.parts.test c.requires.can c.requires.parts.test) c.requires.test, known_now h hyps old one c.args.test.term c.in-Some.known g1 (can_term h old hyps c.args.t c.args.test.term c.requires.can c.requires.test.new) (subst (λ o. IfSome o (IsKnown one (terms_at old.bank hyps) (term_at old.bank c.args.test.term))) c.in-Some.is c.in_ok-known.ensures.known)))))))

pub selecting::rewrite_asked_by-returns-in-Some-clause-ok : goal.selecting::rewrite_asked_by-returns-in-Some-clause-ok
selecting::rewrite_asked_by-returns-in-Some-clause-ok t c =
    let h : List Entry = c.args.history.now in
    let hyps : List TermId = c.args.assumed.now in
    let old : Work = c.args.work.now in
    let one : Work = c.known_test.new.work in
    let g1 : WorkGrows h old one = c.known_test.ensures.grows in
    let two : Work = c.rewrite_asked_chosen.new.work in
    let g2 : WorkGrows h one two = c.rewrite_asked_chosen.ensures.grows in
    told_before h hyps old one two c.args.t c.rewrite_asked_chosen.result g1 c.requires.can c.rewrite_asked_chosen.ensures.ok

pub selecting::rewrite_asked_by-returns-in-Some-clause-grows : goal.selecting::rewrite_asked_by-returns-in-Some-clause-grows
selecting::rewrite_asked_by-returns-in-Some-clause-grows t c =
    let h : List Entry = c.args.history.now in
    let hyps : List TermId = c.args.assumed.now in
    let old : Work = c.args.work.now in
    let one : Work = c.known_test.new.work in
    let g1 : WorkGrows h old one = c.known_test.ensures.grows in
    let two : Work = c.rewrite_asked_chosen.new.work in
    let g2 : WorkGrows h one two = c.rewrite_asked_chosen.ensures.grows in
    (WorkGrows-trans h old one two g1 g2)

pub selecting::rewrite_asked_by-rewrite_asked_both-requires : goal.selecting::rewrite_asked_by-rewrite_asked_both-requires
selecting::rewrite_asked_by-rewrite_asked_both-requires t c =
    let h : List Entry = c.args.history.now in
    let hyps : List TermId = c.args.assumed.now in
    let old : Work = c.args.work.now in
    let one : Work = c.known_test.new.work in
    let g1 : WorkGrows h old one = c.known_test.ensures.grows in
    let fewer : one.counter.limit - one.counter.used ≤ old.counter.limit - old.counter.used = fewer_left h old one g1 in
    (omega (arith, fewer), (c.requires.depth, ((can_grown h old one g1 hyps c.args.t c.requires.can), ((argument_grown h old one g1 c.args.t 1 c.args.a c.requires.can.stands c.requires.can.term c.requires.argument), ((if_grown h old one g1 c.args.a c.args.parts c.requires.can.stands c.requires.argument.argument c.requires.parts), rewritten_after h old one g1 hyps c.args.parts.test c.args.test (can_term h old hyps c.args.t c.args.parts.test c.requires.can c.requires.parts.test) c.requires.test)))))

pub selecting::rewrite_asked_by-returns-in-None-clause-ok : goal.selecting::rewrite_asked_by-returns-in-None-clause-ok
selecting::rewrite_asked_by-returns-in-None-clause-ok t c =
    let h : List Entry = c.args.history.now in
    let hyps : List TermId = c.args.assumed.now in
    let old : Work = c.args.work.now in
    let one : Work = c.known_test.new.work in
    let g1 : WorkGrows h old one = c.known_test.ensures.grows in
    let two : Work = c.rewrite_asked_both.new.work in
    let g2 : WorkGrows h one two = c.rewrite_asked_both.ensures.grows in
    told_before h hyps old one two c.args.t c.rewrite_asked_both.result g1 c.requires.can c.rewrite_asked_both.ensures.ok

pub selecting::rewrite_asked_by-returns-in-None-clause-grows : goal.selecting::rewrite_asked_by-returns-in-None-clause-grows
selecting::rewrite_asked_by-returns-in-None-clause-grows t c =
    let h : List Entry = c.args.history.now in
    let hyps : List TermId = c.args.assumed.now in
    let old : Work = c.args.work.now in
    let one : Work = c.known_test.new.work in
    let g1 : WorkGrows h old one = c.known_test.ensures.grows in
    let two : Work = c.rewrite_asked_both.new.work in
    let g2 : WorkGrows h one two = c.rewrite_asked_both.ensures.grows in
    (WorkGrows-trans h old one two g1 g2)

pub selecting::rewrite_asked_both-rewrite_divided-requires : goal.selecting::rewrite_asked_both-rewrite_divided-requires
selecting::rewrite_asked_both-rewrite_divided-requires t c =
    let h : List Entry = c.args.history.now in
    let hyps : List TermId = c.args.assumed.now in
    let old : Work = c.args.work.now in
    let one : Work = c.asked_of_tested.new.work in
    let g1 : WorkGrows h old one = c.asked_of_tested.ensures.grows in
    let fewer : one.counter.limit - one.counter.used ≤ old.counter.limit - old.counter.used = fewer_left h old one g1 in
    (omega (arith, fewer), (c.requires.depth, ((can_term h one hyps c.args.t c.in_ok-whole.whole.term (can_grown h old one g1 hyps c.args.t c.requires.can) c.in_ok-whole.ensures.ok.new), (term_grown h old one c.dividing_test-p.result c.requires.can.stands g1 c.dividing_test-p.ensures))))

pub selecting::rewrite_asked_both-returns-in_err-rest-clause-grows : goal.selecting::rewrite_asked_both-returns-in_err-rest-clause-grows
selecting::rewrite_asked_both-returns-in_err-rest-clause-grows t c =
    let h : List Entry = c.args.history.now in
    let hyps : List TermId = c.args.assumed.now in
    let old : Work = c.args.work.now in
    let one : Work = c.asked_of_tested.new.work in
    let g1 : WorkGrows h old one = c.asked_of_tested.ensures.grows in
    let two : Work = c.rewrite_divided.new.work in
    let g2 : WorkGrows h one two = c.rewrite_divided.ensures.grows in
    (WorkGrows-trans h old one two g1 g2)

pub selecting::rewrite_asked_both-follow-requires-clause-can : goal.selecting::rewrite_asked_both-follow-requires-clause-can
selecting::rewrite_asked_both-follow-requires-clause-can t c =
    let h : List Entry = c.args.history.now in
    let hyps : List TermId = c.args.assumed.now in
    let old : Work = c.args.work.now in
    let one : Work = c.asked_of_tested.new.work in
    let g1 : WorkGrows h old one = c.asked_of_tested.ensures.grows in
    let two : Work = c.rewrite_divided.new.work in
    let g2 : WorkGrows h one two = c.rewrite_divided.ensures.grows in
    (can_grown h old two (WorkGrows-trans h old one two g1 g2) hyps c.args.t c.requires.can)

pub selecting::rewrite_asked_both-follow-requires-clause-first : goal.selecting::rewrite_asked_both-follow-requires-clause-first
selecting::rewrite_asked_both-follow-requires-clause-first t c =
    let h : List Entry = c.args.history.now in
    let hyps : List TermId = c.args.assumed.now in
    let old : Work = c.args.work.now in
    let one : Work = c.asked_of_tested.new.work in
    let g1 : WorkGrows h old one = c.asked_of_tested.ensures.grows in
    let two : Work = c.rewrite_divided.new.work in
    let g2 : WorkGrows h one two = c.rewrite_divided.ensures.grows in
    rewritten_carried h hyps old one two c.args.t c.in_ok-whole.whole g1 g2 c.requires.can c.in_ok-whole.ensures.ok

pub selecting::rewrite_asked_both-follow-requires-clause-second : goal.selecting::rewrite_asked_both-follow-requires-clause-second
selecting::rewrite_asked_both-follow-requires-clause-second t c =
    let h : List Entry = c.args.history.now in
    let hyps : List TermId = c.args.assumed.now in
    let old : Work = c.args.work.now in
    let one : Work = c.asked_of_tested.new.work in
    let g1 : WorkGrows h old one = c.asked_of_tested.ensures.grows in
    let two : Work = c.rewrite_divided.new.work in
    let g2 : WorkGrows h one two = c.rewrite_divided.ensures.grows in
    rewritten_now h hyps one two c.in_ok-whole.whole.term c.in_ok-rest.rest g2 (can_term h one hyps c.args.t c.in_ok-whole.whole.term (can_grown h old one g1 hyps c.args.t c.requires.can) c.in_ok-whole.ensures.ok.new) c.in_ok-rest.ensures.ok

pub selecting::rewrite_asked_both-returns-clause-ok : goal.selecting::rewrite_asked_both-returns-clause-ok
selecting::rewrite_asked_both-returns-clause-ok t c =
    let h : List Entry = c.args.history.now in
    let hyps : List TermId = c.args.assumed.now in
    let old : Work = c.args.work.now in
    let one : Work = c.asked_of_tested.new.work in
    let g1 : WorkGrows h old one = c.asked_of_tested.ensures.grows in
    let two : Work = c.rewrite_divided.new.work in
    let g2 : WorkGrows h one two = c.rewrite_divided.ensures.grows in
    let three : Work = c.follow.new.work in
    let g3 : WorkGrows h two three = c.follow.ensures.grows in
    told_before h hyps old two three c.args.t c.follow.result (WorkGrows-trans h old one two g1 g2) c.requires.can c.follow.ensures.ok

pub selecting::rewrite_asked_both-returns-clause-grows : goal.selecting::rewrite_asked_both-returns-clause-grows
selecting::rewrite_asked_both-returns-clause-grows t c =
    let h : List Entry = c.args.history.now in
    let hyps : List TermId = c.args.assumed.now in
    let old : Work = c.args.work.now in
    let one : Work = c.asked_of_tested.new.work in
    let g1 : WorkGrows h old one = c.asked_of_tested.ensures.grows in
    let two : Work = c.rewrite_divided.new.work in
    let g2 : WorkGrows h one two = c.rewrite_divided.ensures.grows in
    let three : Work = c.follow.new.work in
    let g3 : WorkGrows h two three = c.follow.ensures.grows in
    (WorkGrows-trans h old two three (WorkGrows-trans h old one two g1 g2) g3)

pub selecting::rewrite_asked_chosen-rewrite_on-requires : goal.selecting::rewrite_asked_chosen-rewrite_on-requires
selecting::rewrite_asked_chosen-rewrite_on-requires t c =
    let h : List Entry = c.args.history.now in
    let hyps : List TermId = c.args.assumed.now in
    let old : Work = c.args.work.now in
    let one : Work = c.asked_of_branch.new.work in
    let g1 : WorkGrows h old one = c.asked_of_branch.ensures.grows in
    let fewer : one.counter.limit - one.counter.used ≤ old.counter.limit - old.counter.used = fewer_left h old one g1 in
    (omega (arith, fewer), (c.requires.depth, ((can_grown h old one g1 hyps c.args.t c.requires.can), rewritten_now h hyps old one c.args.t c.in_ok-step.step g1 c.requires.can c.in_ok-step.ensures.ok)))

pub selecting::rewrite_asked_chosen-returns-clause-ok : goal.selecting::rewrite_asked_chosen-returns-clause-ok
selecting::rewrite_asked_chosen-returns-clause-ok t c =
    let h : List Entry = c.args.history.now in
    let hyps : List TermId = c.args.assumed.now in
    let old : Work = c.args.work.now in
    let one : Work = c.asked_of_branch.new.work in
    let g1 : WorkGrows h old one = c.asked_of_branch.ensures.grows in
    let two : Work = c.rewrite_on.new.work in
    let g2 : WorkGrows h one two = c.rewrite_on.ensures.grows in
    told_before h hyps old one two c.args.t c.rewrite_on.result g1 c.requires.can c.rewrite_on.ensures.ok

pub selecting::rewrite_asked_chosen-returns-clause-grows : goal.selecting::rewrite_asked_chosen-returns-clause-grows
selecting::rewrite_asked_chosen-returns-clause-grows t c =
    let h : List Entry = c.args.history.now in
    let hyps : List TermId = c.args.assumed.now in
    let old : Work = c.args.work.now in
    let one : Work = c.asked_of_branch.new.work in
    let g1 : WorkGrows h old one = c.asked_of_branch.ensures.grows in
    let two : Work = c.rewrite_on.new.work in
    let g2 : WorkGrows h one two = c.rewrite_on.ensures.grows in
    (WorkGrows-trans h old one two g1 g2)

pub selecting::rewrite_opened_call-rewrite_asked_body-requires : goal.selecting::rewrite_opened_call-rewrite_asked_body-requires
selecting::rewrite_opened_call-rewrite_asked_body-requires t c =
    let h : List Entry = c.args.history.now in
    let hyps : List TermId = c.args.assumed.now in
    let old : Work = c.args.work.now in
    let one : Work = c.asked_of_opened.new.work in
    let g1 : WorkGrows h old one = c.asked_of_opened.ensures.grows in
    let fewer : one.counter.limit - one.counter.used ≤ old.counter.limit - old.counter.used = fewer_left h old one g1 in
    (omega (arith, fewer), (c.requires.depth, ((can_grown h old one g1 hyps c.args.t c.requires.can), rewritten_now h hyps old one c.args.t c.in_ok-step.step g1 c.requires.can c.in_ok-step.ensures.ok)))

pub selecting::rewrite_opened_call-returns-clause-ok : goal.selecting::rewrite_opened_call-returns-clause-ok
selecting::rewrite_opened_call-returns-clause-ok t c =
    let h : List Entry = c.args.history.now in
    let hyps : List TermId = c.args.assumed.now in
    let old : Work = c.args.work.now in
    let one : Work = c.asked_of_opened.new.work in
    let g1 : WorkGrows h old one = c.asked_of_opened.ensures.grows in
    let two : Work = c.rewrite_asked_body.new.work in
    let g2 : WorkGrows h one two = c.rewrite_asked_body.ensures.grows in
    told_before h hyps old one two c.args.t c.rewrite_asked_body.result g1 c.requires.can c.rewrite_asked_body.ensures.ok

pub selecting::rewrite_opened_call-returns-clause-grows : goal.selecting::rewrite_opened_call-returns-clause-grows
selecting::rewrite_opened_call-returns-clause-grows t c =
    let h : List Entry = c.args.history.now in
    let hyps : List TermId = c.args.assumed.now in
    let old : Work = c.args.work.now in
    let one : Work = c.asked_of_opened.new.work in
    let g1 : WorkGrows h old one = c.asked_of_opened.ensures.grows in
    let two : Work = c.rewrite_asked_body.new.work in
    let g2 : WorkGrows h one two = c.rewrite_asked_body.ensures.grows in
    (WorkGrows-trans h old one two g1 g2)

pub selecting::rewrite_selection-returns-in-None-clause-grows : goal.selecting::rewrite_selection-returns-in-None-clause-grows
selecting::rewrite_selection-returns-in-None-clause-grows t c =
    WorkGrows-refl c.args.history.now c.args.work.now c.requires.can.stands

pub selecting::rewrite_asked_call-returns-in-None-clause-grows : goal.selecting::rewrite_asked_call-returns-in-None-clause-grows
selecting::rewrite_asked_call-returns-in-None-clause-grows t c =
    WorkGrows-refl c.args.history.now c.args.work.now c.requires.can.stands

pub selecting::rewrite_asked_body-returns-in_err-within-clause-grows : goal.selecting::rewrite_asked_body-returns-in_err-within-clause-grows
selecting::rewrite_asked_body-returns-in_err-within-clause-grows t c =
    WorkGrows-refl c.args.history.now c.args.work.now c.requires.can.stands

pub selecting::rewrite_asked_body-rewrite_term-requires : goal.selecting::rewrite_asked_body-rewrite_term-requires
selecting::rewrite_asked_body-rewrite_term-requires t c =
    let h : List Entry = c.args.history.now in
    let hyps : List TermId = c.args.assumed.now in
    let old : Work = c.args.work.now in
    (omega arith, (can_term h old hyps c.args.t c.args.step.term c.requires.can c.requires.step.new))

pub selecting::rewrite_asked_body-rewrite_asked_opened-requires : goal.selecting::rewrite_asked_body-rewrite_asked_opened-requires
selecting::rewrite_asked_body-rewrite_asked_opened-requires t c =
    let h : List Entry = c.args.history.now in
    let hyps : List TermId = c.args.assumed.now in
    let old : Work = c.args.work.now in
    let one : Work = c.rewrite_term.new.work in
    let g1 : WorkGrows h old one = c.rewrite_term.ensures.grows in
    let fewer : one.counter.limit - one.counter.used ≤ old.counter.limit - old.counter.used = fewer_left h old one g1 in
    (omega (arith, fewer), (c.requires.depth, ((can_grown h old one g1 hyps c.args.t c.requires.can), (rewritten_after h old one g1 hyps c.args.t c.args.step c.requires.can c.requires.step, rewritten_now h hyps old one c.args.step.term c.in_ok-body.body g1 (can_term h old hyps c.args.t c.args.step.term c.requires.can c.requires.step.new) c.in_ok-body.ensures.ok))))

pub selecting::rewrite_asked_body-returns-clause-ok : goal.selecting::rewrite_asked_body-returns-clause-ok
selecting::rewrite_asked_body-returns-clause-ok t c =
    let h : List Entry = c.args.history.now in
    let hyps : List TermId = c.args.assumed.now in
    let old : Work = c.args.work.now in
    let one : Work = c.rewrite_term.new.work in
    let g1 : WorkGrows h old one = c.rewrite_term.ensures.grows in
    let two : Work = c.rewrite_asked_opened.new.work in
    let g2 : WorkGrows h one two = c.rewrite_asked_opened.ensures.grows in
    told_before h hyps old one two c.args.t c.rewrite_asked_opened.result g1 c.requires.can c.rewrite_asked_opened.ensures.ok

pub selecting::rewrite_asked_body-returns-clause-grows : goal.selecting::rewrite_asked_body-returns-clause-grows
selecting::rewrite_asked_body-returns-clause-grows t c =
    let h : List Entry = c.args.history.now in
    let hyps : List TermId = c.args.assumed.now in
    let old : Work = c.args.work.now in
    let one : Work = c.rewrite_term.new.work in
    let g1 : WorkGrows h old one = c.rewrite_term.ensures.grows in
    let two : Work = c.rewrite_asked_opened.new.work in
    let g2 : WorkGrows h one two = c.rewrite_asked_opened.ensures.grows in
    (WorkGrows-trans h old one two g1 g2)

pub selecting::rewrite_asked_opened-returns-in_err-kept-clause-grows : goal.selecting::rewrite_asked_opened-returns-in_err-kept-clause-grows
selecting::rewrite_asked_opened-returns-in_err-kept-clause-grows t c =
    WorkGrows-refl c.args.history.now c.args.work.now c.requires.can.stands

pub selecting::rewrite_asked_opened-returns-then-not-kept-clause-grows : goal.selecting::rewrite_asked_opened-returns-then-not-kept-clause-grows
selecting::rewrite_asked_opened-returns-then-not-kept-clause-grows t c =
    WorkGrows-refl c.args.history.now c.args.work.now c.requires.can.stands

pub selecting::rewrite_asked_opened-rewrite_on-requires : goal.selecting::rewrite_asked_opened-rewrite_on-requires
selecting::rewrite_asked_opened-rewrite_on-requires t c =
    let h : List Entry = c.args.history.now in
    let hyps : List TermId = c.args.assumed.now in
    let old : Work = c.args.work.now in
    let one : Work = c.follow.new.work in
    let g1 : WorkGrows h old one = c.follow.ensures.grows in
    let fewer : one.counter.limit - one.counter.used ≤ old.counter.limit - old.counter.used = fewer_left h old one g1 in
    (omega (arith, fewer), (c.requires.depth, ((can_grown h old one g1 hyps c.args.t c.requires.can), rewritten_now h hyps old one c.args.t c.in_ok-whole.whole g1 c.requires.can c.in_ok-whole.ensures.ok)))

pub selecting::rewrite_asked_opened-returns-clause-ok : goal.selecting::rewrite_asked_opened-returns-clause-ok
selecting::rewrite_asked_opened-returns-clause-ok t c =
    let h : List Entry = c.args.history.now in
    let hyps : List TermId = c.args.assumed.now in
    let old : Work = c.args.work.now in
    let one : Work = c.follow.new.work in
    let g1 : WorkGrows h old one = c.follow.ensures.grows in
    let two : Work = c.rewrite_on.new.work in
    let g2 : WorkGrows h one two = c.rewrite_on.ensures.grows in
    told_before h hyps old one two c.args.t c.rewrite_on.result g1 c.requires.can c.rewrite_on.ensures.ok

pub selecting::rewrite_asked_opened-returns-clause-grows : goal.selecting::rewrite_asked_opened-returns-clause-grows
selecting::rewrite_asked_opened-returns-clause-grows t c =
    let h : List Entry = c.args.history.now in
    let hyps : List TermId = c.args.assumed.now in
    let old : Work = c.args.work.now in
    let one : Work = c.follow.new.work in
    let g1 : WorkGrows h old one = c.follow.ensures.grows in
    let two : Work = c.rewrite_on.new.work in
    let g2 : WorkGrows h one two = c.rewrite_on.ensures.grows in
    (WorkGrows-trans h old one two g1 g2)

pub selecting::rewrite_asked_body-returns-in_err-leave_question-clause-grows : goal.selecting::rewrite_asked_body-returns-in_err-leave_question-clause-grows
selecting::rewrite_asked_body-returns-in_err-leave_question-clause-grows t c =
    WorkGrows-refl c.args.history.now c.args.work.now c.requires.can.stands

pub selecting::rewrite_asked_body-returns-then-not-tells-clause-grows : goal.selecting::rewrite_asked_body-returns-then-not-tells-clause-grows
selecting::rewrite_asked_body-returns-then-not-tells-clause-grows t c =
    WorkGrows-refl c.args.history.now c.args.work.now c.requires.can.stands

pub remaking::rewrite_remade_number-rewrite_where-requires : goal.remaking::rewrite_remade_number-rewrite_where-requires
remaking::rewrite_remade_number-rewrite_where-requires t c =
    let h : List Entry = c.args.history.now in
    let hyps : List TermId = c.args.assumed.now in
    let old : Work = c.args.work.now in
    let one : Work = c.above_zero.new.work in
    let g1 : WorkGrows h old one = c.above_zero.ensures.grows in
    let fewer : one.counter.limit - one.counter.used ≤ old.counter.limit - old.counter.used = fewer_left h old one g1 in
    (omega (arith, fewer), (c.requires.depth, ((can_grown h old one g1 hyps c.args.t c.requires.can), c.in_ok-test.ensures.test)))

pub remaking::rewrite_remade_number-returns-clause-ok : goal.remaking::rewrite_remade_number-returns-clause-ok
remaking::rewrite_remade_number-returns-clause-ok t c =
    let h : List Entry = c.args.history.now in
    let hyps : List TermId = c.args.assumed.now in
    let old : Work = c.args.work.now in
    let one : Work = c.above_zero.new.work in
    let g1 : WorkGrows h old one = c.above_zero.ensures.grows in
    let two : Work = c.rewrite_where.new.work in
    let g2 : WorkGrows h one two = c.rewrite_where.ensures.grows in
    told_before h hyps old one two c.args.t c.rewrite_where.result g1 c.requires.can c.rewrite_where.ensures.ok

pub remaking::rewrite_remade_number-returns-clause-grows : goal.remaking::rewrite_remade_number-returns-clause-grows
remaking::rewrite_remade_number-returns-clause-grows t c =
    let h : List Entry = c.args.history.now in
    let hyps : List TermId = c.args.assumed.now in
    let old : Work = c.args.work.now in
    let one : Work = c.above_zero.new.work in
    let g1 : WorkGrows h old one = c.above_zero.ensures.grows in
    let two : Work = c.rewrite_where.new.work in
    let g2 : WorkGrows h one two = c.rewrite_where.ensures.grows in
    (WorkGrows-trans h old one two g1 g2)

pub remaking::rewrite_where-relieve-requires : goal.remaking::rewrite_where-relieve-requires
remaking::rewrite_where-relieve-requires t c =
    let h : List Entry = c.args.history.now in
    let hyps : List TermId = c.args.assumed.now in
    let old : Work = c.args.work.now in
    (omega arith, (c.requires.depth, can_term h old hyps c.args.t c.args.test c.requires.can c.requires.test))

pub remaking::rewrite_where-rewrite_shown-requires : goal.remaking::rewrite_where-rewrite_shown-requires
remaking::rewrite_where-rewrite_shown-requires t c =
    let h : List Entry = c.args.history.now in
    let hyps : List TermId = c.args.assumed.now in
    let old : Work = c.args.work.now in
    let one : Work = c.relieve.new.work in
    let g1 : WorkGrows h old one = c.relieve.ensures.grows in
    let fewer : one.counter.limit - one.counter.used ≤ old.counter.limit - old.counter.used = fewer_left h old one g1 in
    (omega (arith, fewer), (c.requires.depth, ((can_grown h old one g1 hyps c.args.t c.requires.can), held_now h old one g1 hyps c.args.t c.requires.can c.in-Some.shown (subst (λ o. IfSome o (IsHeld h one (terms_at old.bank hyps))) c.in-Some.is c.in_ok-shown.ensures.held))))

pub remaking::rewrite_where-returns-in-Some-clause-ok : goal.remaking::rewrite_where-returns-in-Some-clause-ok
remaking::rewrite_where-returns-in-Some-clause-ok t c =
    let h : List Entry = c.args.history.now in
    let hyps : List TermId = c.args.assumed.now in
    let old : Work = c.args.work.now in
    let one : Work = c.relieve.new.work in
    let g1 : WorkGrows h old one = c.relieve.ensures.grows in
    let two : Work = c.rewrite_shown.new.work in
    let g2 : WorkGrows h one two = c.rewrite_shown.ensures.grows in
    told_before h hyps old one two c.args.t c.rewrite_shown.result g1 c.requires.can c.rewrite_shown.ensures.ok

pub remaking::rewrite_where-returns-in-Some-clause-grows : goal.remaking::rewrite_where-returns-in-Some-clause-grows
remaking::rewrite_where-returns-in-Some-clause-grows t c =
    let h : List Entry = c.args.history.now in
    let hyps : List TermId = c.args.assumed.now in
    let old : Work = c.args.work.now in
    let one : Work = c.relieve.new.work in
    let g1 : WorkGrows h old one = c.relieve.ensures.grows in
    let two : Work = c.rewrite_shown.new.work in
    let g2 : WorkGrows h one two = c.rewrite_shown.ensures.grows in
    (WorkGrows-trans h old one two g1 g2)

pub remaking::rewrite_where-rewrite_further-requires : goal.remaking::rewrite_where-rewrite_further-requires
remaking::rewrite_where-rewrite_further-requires t c =
    let h : List Entry = c.args.history.now in
    let hyps : List TermId = c.args.assumed.now in
    let old : Work = c.args.work.now in
    let one : Work = c.relieve.new.work in
    let g1 : WorkGrows h old one = c.relieve.ensures.grows in
    let fewer : one.counter.limit - one.counter.used ≤ old.counter.limit - old.counter.used = fewer_left h old one g1 in
    (omega (arith, fewer), (c.requires.depth, (can_grown h old one g1 hyps c.args.t c.requires.can)))

pub remaking::rewrite_where-returns-in-None-clause-ok : goal.remaking::rewrite_where-returns-in-None-clause-ok
remaking::rewrite_where-returns-in-None-clause-ok t c =
    let h : List Entry = c.args.history.now in
    let hyps : List TermId = c.args.assumed.now in
    let old : Work = c.args.work.now in
    let one : Work = c.relieve.new.work in
    let g1 : WorkGrows h old one = c.relieve.ensures.grows in
    let two : Work = c.rewrite_further.new.work in
    let g2 : WorkGrows h one two = c.rewrite_further.ensures.grows in
    told_before h hyps old one two c.args.t c.rewrite_further.result g1 c.requires.can c.rewrite_further.ensures.ok

pub remaking::rewrite_where-returns-in-None-clause-grows : goal.remaking::rewrite_where-returns-in-None-clause-grows
remaking::rewrite_where-returns-in-None-clause-grows t c =
    let h : List Entry = c.args.history.now in
    let hyps : List TermId = c.args.assumed.now in
    let old : Work = c.args.work.now in
    let one : Work = c.relieve.new.work in
    let g1 : WorkGrows h old one = c.relieve.ensures.grows in
    let two : Work = c.rewrite_further.new.work in
    let g2 : WorkGrows h one two = c.rewrite_further.ensures.grows in
    (WorkGrows-trans h old one two g1 g2)

pub remaking::rewrite_shown-rewrite_on-requires : goal.remaking::rewrite_shown-rewrite_on-requires
remaking::rewrite_shown-rewrite_on-requires t c =
    let h : List Entry = c.args.history.now in
    let hyps : List TermId = c.args.assumed.now in
    let old : Work = c.args.work.now in
    let one : Work = c.reduce_under.new.work in
    let g1 : WorkGrows h old one = c.reduce_under.ensures.grows in
    let fewer : one.counter.limit - one.counter.used ≤ old.counter.limit - old.counter.used = fewer_left h old one g1 in
    (omega (arith, fewer), (c.requires.depth, ((can_grown h old one g1 hyps c.args.t c.requires.can), rewritten_now h hyps old one c.args.t c.in_ok-step.step g1 c.requires.can c.in_ok-step.ensures.ok)))

pub remaking::rewrite_shown-returns-in-Some-clause-ok : goal.remaking::rewrite_shown-returns-in-Some-clause-ok
remaking::rewrite_shown-returns-in-Some-clause-ok t c =
    let h : List Entry = c.args.history.now in
    let hyps : List TermId = c.args.assumed.now in
    let old : Work = c.args.work.now in
    let one : Work = c.reduce_under.new.work in
    let g1 : WorkGrows h old one = c.reduce_under.ensures.grows in
    let two : Work = c.rewrite_on.new.work in
    let g2 : WorkGrows h one two = c.rewrite_on.ensures.grows in
    told_before h hyps old one two c.args.t c.rewrite_on.result g1 c.requires.can c.rewrite_on.ensures.ok

pub remaking::rewrite_shown-returns-in-Some-clause-grows : goal.remaking::rewrite_shown-returns-in-Some-clause-grows
remaking::rewrite_shown-returns-in-Some-clause-grows t c =
    let h : List Entry = c.args.history.now in
    let hyps : List TermId = c.args.assumed.now in
    let old : Work = c.args.work.now in
    let one : Work = c.reduce_under.new.work in
    let g1 : WorkGrows h old one = c.reduce_under.ensures.grows in
    let two : Work = c.rewrite_on.new.work in
    let g2 : WorkGrows h one two = c.rewrite_on.ensures.grows in
    (WorkGrows-trans h old one two g1 g2)

pub remaking::rewrite_shown-rewrite_further-requires : goal.remaking::rewrite_shown-rewrite_further-requires
remaking::rewrite_shown-rewrite_further-requires t c =
    let h : List Entry = c.args.history.now in
    let hyps : List TermId = c.args.assumed.now in
    let old : Work = c.args.work.now in
    let one : Work = c.reduce_under.new.work in
    let g1 : WorkGrows h old one = c.reduce_under.ensures.grows in
    let fewer : one.counter.limit - one.counter.used ≤ old.counter.limit - old.counter.used = fewer_left h old one g1 in
    (omega (arith, fewer), (c.requires.depth, (can_grown h old one g1 hyps c.args.t c.requires.can)))

pub remaking::rewrite_shown-returns-in-None-clause-ok : goal.remaking::rewrite_shown-returns-in-None-clause-ok
remaking::rewrite_shown-returns-in-None-clause-ok t c =
    let h : List Entry = c.args.history.now in
    let hyps : List TermId = c.args.assumed.now in
    let old : Work = c.args.work.now in
    let one : Work = c.reduce_under.new.work in
    let g1 : WorkGrows h old one = c.reduce_under.ensures.grows in
    let two : Work = c.rewrite_further.new.work in
    let g2 : WorkGrows h one two = c.rewrite_further.ensures.grows in
    told_before h hyps old one two c.args.t c.rewrite_further.result g1 c.requires.can c.rewrite_further.ensures.ok

pub remaking::rewrite_shown-returns-in-None-clause-grows : goal.remaking::rewrite_shown-returns-in-None-clause-grows
remaking::rewrite_shown-returns-in-None-clause-grows t c =
    let h : List Entry = c.args.history.now in
    let hyps : List TermId = c.args.assumed.now in
    let old : Work = c.args.work.now in
    let one : Work = c.reduce_under.new.work in
    let g1 : WorkGrows h old one = c.reduce_under.ensures.grows in
    let two : Work = c.rewrite_further.new.work in
    let g2 : WorkGrows h one two = c.rewrite_further.ensures.grows in
    (WorkGrows-trans h old one two g1 g2)
