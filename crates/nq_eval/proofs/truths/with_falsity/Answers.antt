use Rattle.std.proofs.Common.{List, ◌≡◌, ◌≤◌, ◌∙◌, refl, sym, ap, subst, arith}
use Rattle.nq_history.specs.declared.entry.Entry.{Entry}
use Rattle.nq_kernel.specs.declared.work.Work.{Work}
use Rattle.nq_kernel.specs.Growing.{WorkStands}
use Rattle.nq_eval.specs.Lines.{GrowsUncounted, IsUsable}
use Rattle.nq_eval.proofs.LineLemmas.{grown_trans}
use Rattle.nq_logic.specs.Sizes.{depth_of}
use Rattle.nq_logic.specs.Ground.{symbols_of}
use Rattle.nq_bank.specs.declared.node.TermId.{TermId}
use Rattle.nq_bank.specs.Content.{term_at}
use Rattle.nq_history.specs.Events.{events_at}
use Rattle.nq_kernel.specs.Over.{IsVariable, IsTermOf}
use Rattle.nq_eval.specs.Truths.{IsTruth, IsFalsity}
use Rattle.nq_eval.proofs.ClosingLemmas.{usable_after, same_after}
use Rattle.nq_eval.proofs.TruthLemmas.{equal_false, twice_false, truth_after, falsity_after, falsity_is, small_depth, first_depth, second_depth, with_false, equation_usable_from}
use Rattle.nq_eval.proofs.truths.with_falsity.Goals as goal

pub equation-requires-clause-left : goal.equation-requires-clause-left
equation-requires-clause-left c =
    let h : List Entry = c.args.history.now in
    let w0 : Work = c.args.work.now in
    let s0 : WorkStands h w0 = c.requires.stands in
    let w1 : Work = c.falsity.new.work in
    let d1 : GrowsUncounted h w0 w1 = c.falsity.ensures.grows in
    let g1 : GrowsUncounted h w0 w1 = d1 in
    let v : TermId = c.args.v in
    let t1 : IsTruth w1.bank h v = truth_after h w0 w1 s0 g1 v c.requires.truth in
    t1.usable

pub equation-requires-clause-right : goal.equation-requires-clause-right
equation-requires-clause-right c =
    let h : List Entry = c.args.history.now in
    let w1 : Work = c.falsity.new.work in
    let f : TermId = c.in_ok-f.f in
    let f1 : IsFalsity w1.bank h f = falsity_is w1.bank h f c.in_ok-f.ensures.term in
    f1.usable

pub equation-requires-2-clause-left : goal.equation-requires-2-clause-left
equation-requires-2-clause-left c =
    let h : List Entry = c.args.history.now in
    let w0 : Work = c.args.work.now in
    let s0 : WorkStands h w0 = c.requires.stands in
    let w1 : Work = c.falsity.new.work in
    let d1 : GrowsUncounted h w0 w1 = c.falsity.ensures.grows in
    let g1 : GrowsUncounted h w0 w1 = d1 in
    let s1 : WorkStands h w1 = d1.grows.stands in
    let w2 : Work = c.equation.new.work in
    let d2 : GrowsUncounted h w1 w2 = c.equation.ensures.grows in
    let v : TermId = c.args.v in
    let f : TermId = c.in_ok-f.f in
    let e : TermId = c.in_ok-e.e in
    let t1 : IsTruth w1.bank h v = truth_after h w0 w1 s0 g1 v c.requires.truth in
    let f1 : IsFalsity w1.bank h f = falsity_is w1.bank h f c.in_ok-f.ensures.term in
    let t2 : IsTruth w2.bank h v = truth_after h w1 w2 s1 d2 v t1 in
    let same2 : term_at w2.bank v ≡ term_at w1.bank v = same_after h w1 w2 s1 d2 v t1.usable in
    let is2 : term_at w2.bank e ≡ equal_false (term_at w2.bank v) = with_false w1.bank w2.bank e v f (term_at w1.bank v) c.in_ok-e.ensures.equation refl f1.is ∙ ap equal_false (sym same2) in
    let few2 : depth_of (term_at w2.bank v) ≤ 1900 = small_depth (term_at w2.bank v) t2.small in
    let u2 : IsUsable w2.bank h e = equation_usable_from w2.bank h e (term_at w2.bank v) c.in_ok-e.ensures.equation.stands is2 t2.usable.over (let k = first_depth (term_at w2.bank v) few2 in omega (arith, k)) in
    u2

pub equation-requires-2-clause-right : goal.equation-requires-2-clause-right
equation-requires-2-clause-right c =
    let h : List Entry = c.args.history.now in
    let w0 : Work = c.args.work.now in
    let w1 : Work = c.falsity.new.work in
    let d1 : GrowsUncounted h w0 w1 = c.falsity.ensures.grows in
    let s1 : WorkStands h w1 = d1.grows.stands in
    let w2 : Work = c.equation.new.work in
    let d2 : GrowsUncounted h w1 w2 = c.equation.ensures.grows in
    let f : TermId = c.in_ok-f.f in
    let f1 : IsFalsity w1.bank h f = falsity_is w1.bank h f c.in_ok-f.ensures.term in
    let f2 : IsFalsity w2.bank h f = falsity_after h w1 w2 s1 d2 f f1 in
    f2.usable

pub returns-clause-denied : goal.returns-clause-denied
returns-clause-denied c =
    let h : List Entry = c.args.history.now in
    let w0 : Work = c.args.work.now in
    let s0 : WorkStands h w0 = c.requires.stands in
    let w1 : Work = c.falsity.new.work in
    let d1 : GrowsUncounted h w0 w1 = c.falsity.ensures.grows in
    let g1 : GrowsUncounted h w0 w1 = d1 in
    let s1 : WorkStands h w1 = d1.grows.stands in
    let w2 : Work = c.equation.new.work in
    let d2 : GrowsUncounted h w1 w2 = c.equation.ensures.grows in
    let s2 : WorkStands h w2 = d2.grows.stands in
    let w3 : Work = c.equation-2.new.work in
    let d3 : GrowsUncounted h w2 w3 = c.equation-2.ensures.grows in
    let v : TermId = c.args.v in
    let f : TermId = c.in_ok-f.f in
    let e : TermId = c.in_ok-e.e in
    let w : TermId = c.in_ok-w.w in
    let t1 : IsTruth w1.bank h v = truth_after h w0 w1 s0 g1 v c.requires.truth in
    let f1 : IsFalsity w1.bank h f = falsity_is w1.bank h f c.in_ok-f.ensures.term in
    let t2 : IsTruth w2.bank h v = truth_after h w1 w2 s1 d2 v t1 in
    let f2 : IsFalsity w2.bank h f = falsity_after h w1 w2 s1 d2 f f1 in
    let same2 : term_at w2.bank v ≡ term_at w1.bank v = same_after h w1 w2 s1 d2 v t1.usable in
    let is2 : term_at w2.bank e ≡ equal_false (term_at w2.bank v) = with_false w1.bank w2.bank e v f (term_at w1.bank v) c.in_ok-e.ensures.equation refl f1.is ∙ ap equal_false (sym same2) in
    let few2 : depth_of (term_at w2.bank v) ≤ 1900 = small_depth (term_at w2.bank v) t2.small in
    let u2 : IsUsable w2.bank h e = equation_usable_from w2.bank h e (term_at w2.bank v) c.in_ok-e.ensures.equation.stands is2 t2.usable.over (let k = first_depth (term_at w2.bank v) few2 in omega (arith, k)) in
    let t3 : IsTruth w3.bank h v = truth_after h w2 w3 s2 d3 v t2 in
    let same3 : term_at w3.bank v ≡ term_at w2.bank v = same_after h w2 w3 s2 d3 v t2.usable in
    let u3 : IsUsable w3.bank h e = usable_after h w2 w3 s2 d3 e u2 in
    let is3 : term_at w3.bank e ≡ equal_false (term_at w3.bank v) = same_after h w2 w3 s2 d3 e u2 ∙ is2 ∙ ap equal_false (sym same3) in
    let whole3 : term_at w3.bank w ≡ twice_false (term_at w3.bank v) = with_false w2.bank w3.bank w e f (equal_false (term_at w2.bank v)) c.in_ok-w.ensures.equation is2 f2.is ∙ ap twice_false (sym same3) in
    let over3 : IsTermOf IsVariable (symbols_of (events_at w3.bank h)) (equal_false (term_at w3.bank v)) = subst (IsTermOf IsVariable (symbols_of (events_at w3.bank h))) is3 u3.over in
    let few3 : depth_of (term_at w3.bank v) ≤ 1900 = small_depth (term_at w3.bank v) t3.small in
    let f3 : IsFalsity w3.bank h f = falsity_after h w2 w3 s2 d3 f f2 in
    record {
      falsity = f3;
      equation = u3;
      equation_is = is3;
      whole = equation_usable_from w3.bank h w (equal_false (term_at w3.bank v)) c.in_ok-w.ensures.equation.stands whole3 over3 (let k = second_depth (term_at w3.bank v) few3 in omega (arith, k));
      whole_is = whole3;
    }

pub returns-in_err-e-clause-grows : goal.returns-in_err-e-clause-grows
returns-in_err-e-clause-grows c =
    let h : List Entry = c.args.history.now in
    let w0 : Work = c.args.work.now in
    let w1 : Work = c.falsity.new.work in
    let d1 : GrowsUncounted h w0 w1 = c.falsity.ensures.grows in
    let g1 : GrowsUncounted h w0 w1 = d1 in
    let w2 : Work = c.equation.new.work in
    let d2 : GrowsUncounted h w1 w2 = c.equation.ensures.grows in
    let g2 : GrowsUncounted h w0 w2 = grown_trans h w0 w1 w2 g1 d2 in
    g2

pub returns-in_err-w-clause-grows : goal.returns-in_err-w-clause-grows
returns-in_err-w-clause-grows c =
    let h : List Entry = c.args.history.now in
    let w0 : Work = c.args.work.now in
    let w1 : Work = c.falsity.new.work in
    let d1 : GrowsUncounted h w0 w1 = c.falsity.ensures.grows in
    let g1 : GrowsUncounted h w0 w1 = d1 in
    let w2 : Work = c.equation.new.work in
    let d2 : GrowsUncounted h w1 w2 = c.equation.ensures.grows in
    let g2 : GrowsUncounted h w0 w2 = grown_trans h w0 w1 w2 g1 d2 in
    let w3 : Work = c.equation-2.new.work in
    let d3 : GrowsUncounted h w2 w3 = c.equation-2.ensures.grows in
    let g3 : GrowsUncounted h w0 w3 = grown_trans h w0 w2 w3 g2 d3 in
    g3

pub returns-clause-grows : goal.returns-clause-grows
returns-clause-grows c =
    let h : List Entry = c.args.history.now in
    let w0 : Work = c.args.work.now in
    let w1 : Work = c.falsity.new.work in
    let d1 : GrowsUncounted h w0 w1 = c.falsity.ensures.grows in
    let g1 : GrowsUncounted h w0 w1 = d1 in
    let w2 : Work = c.equation.new.work in
    let d2 : GrowsUncounted h w1 w2 = c.equation.ensures.grows in
    let g2 : GrowsUncounted h w0 w2 = grown_trans h w0 w1 w2 g1 d2 in
    let w3 : Work = c.equation-2.new.work in
    let d3 : GrowsUncounted h w2 w3 = c.equation-2.ensures.grows in
    let g3 : GrowsUncounted h w0 w3 = grown_trans h w0 w2 w3 g2 d3 in
    g3
