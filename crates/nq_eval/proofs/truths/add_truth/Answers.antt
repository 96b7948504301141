use Rattle.std.proofs.Common.{List, ◌≡◌, ◌∙◌, ◌∷◌, [], sym, ap, subst, ℕ, Some}
use Rattle.nq_history.specs.declared.entry.Entry.{Entry}
use Rattle.nq_kernel.specs.declared.work.Work.{Work}
use Rattle.nq_kernel.specs.Growing.{WorkStands, LineHolds}
use Rattle.nq_eval.specs.Lines.{GrowsUncounted}
use Rattle.nq_eval.proofs.LineLemmas.{grown_trans, held_after}
use Rattle.nq_logic.specs.Words.{false_term, not_term, equal_term}
use Rattle.nq_bank.specs.declared.node.TermId.{TermId}
use Rattle.nq_bank.specs.Content.{term_at}
use Rattle.nq_eval.specs.Truths.{IsTruth, IsDenied}
use Rattle.nq_eval.specs.declared.truths.Denied.{Denied}
use Rattle.nq_eval.proofs.ClosingLemmas.{small_value}
use Rattle.nq_eval.proofs.TruthLemmas.{equal_false, truth_after, denied_after, equal_false_value}
use Rattle.nq_proof.specs.Values.{value_of}
use Rattle.nq_eval.proofs.truths.add_truth.Goals as goal

pub add_value-requires-clause-term : goal.add_value-requires-clause-term
add_value-requires-clause-term c =
    let h : List Entry = c.args.history.now in
    let w1 : Work = c.with_falsity.new.work in
    let v : TermId = c.args.v in
    let d : Denied = c.in_ok-d.d in
    let k1 : IsDenied w1.bank h v d = c.in_ok-d.ensures.denied in
    k1.equation

pub add_value-requires-clause-known : goal.add_value-requires-clause-known
add_value-requires-clause-known c =
    let h : List Entry = c.args.history.now in
    let w1 : Work = c.with_falsity.new.work in
    let v : TermId = c.args.v in
    let d : Denied = c.in_ok-d.d in
    let k1 : IsDenied w1.bank h v d = c.in_ok-d.ensures.denied in
    k1.falsity.usable

pub add_value-requires-clause-value : goal.add_value-requires-clause-value
add_value-requires-clause-value c =
    let h : List Entry = c.args.history.now in
    let w0 : Work = c.args.work.now in
    let s0 : WorkStands h w0 = c.requires.stands in
    let w1 : Work = c.with_falsity.new.work in
    let d1 : GrowsUncounted h w0 w1 = c.with_falsity.ensures.grows in
    let g1 : GrowsUncounted h w0 w1 = d1 in
    let v : TermId = c.args.v in
    let d : Denied = c.in_ok-d.d in
    let t1 : IsTruth w1.bank h v = truth_after h w0 w1 s0 g1 v c.requires.truth in
    let k1 : IsDenied w1.bank h v d = c.in_ok-d.ensures.denied in
    let value1 = equal_false_value (term_at w1.bank v) (small_value (term_at w1.bank v) t1.small) t1.is_true in
    ap value_of k1.equation_is ∙ value1 ∙ ap Some (sym k1.falsity.is)

pub add_either-requires-clause-truth : goal.add_either-requires-clause-truth
add_either-requires-clause-truth c =
    let h : List Entry = c.args.history.now in
    let w0 : Work = c.args.work.now in
    let s0 : WorkStands h w0 = c.requires.stands in
    let w1 : Work = c.with_falsity.new.work in
    let d1 : GrowsUncounted h w0 w1 = c.with_falsity.ensures.grows in
    let g1 : GrowsUncounted h w0 w1 = d1 in
    let s1 : WorkStands h w1 = d1.grows.stands in
    let w2 : Work = c.add_value.new.work in
    let d2 : GrowsUncounted h w1 w2 = c.add_value.ensures.grows in
    let v : TermId = c.args.v in
    let t1 : IsTruth w1.bank h v = truth_after h w0 w1 s0 g1 v c.requires.truth in
    let t2 : IsTruth w2.bank h v = truth_after h w1 w2 s1 d2 v t1 in
    t2

pub add_replaced-requires-clause-truth : goal.add_replaced-requires-clause-truth
add_replaced-requires-clause-truth c =
    let h : List Entry = c.args.history.now in
    let w0 : Work = c.args.work.now in
    let s0 : WorkStands h w0 = c.requires.stands in
    let w1 : Work = c.with_falsity.new.work in
    let d1 : GrowsUncounted h w0 w1 = c.with_falsity.ensures.grows in
    let g1 : GrowsUncounted h w0 w1 = d1 in
    let s1 : WorkStands h w1 = d1.grows.stands in
    let w2 : Work = c.add_value.new.work in
    let d2 : GrowsUncounted h w1 w2 = c.add_value.ensures.grows in
    let s2 : WorkStands h w2 = d2.grows.stands in
    let w3 : Work = c.add_either.new.work in
    let d3 : GrowsUncounted h w2 w3 = c.add_either.ensures.grows in
    let v : TermId = c.args.v in
    let t1 : IsTruth w1.bank h v = truth_after h w0 w1 s0 g1 v c.requires.truth in
    let t2 : IsTruth w2.bank h v = truth_after h w1 w2 s1 d2 v t1 in
    let t3 : IsTruth w3.bank h v = truth_after h w2 w3 s2 d3 v t2 in
    t3

pub add_replaced-requires-clause-falsity : goal.add_replaced-requires-clause-falsity
add_replaced-requires-clause-falsity c =
    let h : List Entry = c.args.history.now in
    let w0 : Work = c.args.work.now in
    let s0 : WorkStands h w0 = c.requires.stands in
    let w1 : Work = c.with_falsity.new.work in
    let d1 : GrowsUncounted h w0 w1 = c.with_falsity.ensures.grows in
    let g1 : GrowsUncounted h w0 w1 = d1 in
    let s1 : WorkStands h w1 = d1.grows.stands in
    let w2 : Work = c.add_value.new.work in
    let d2 : GrowsUncounted h w1 w2 = c.add_value.ensures.grows in
    let s2 : WorkStands h w2 = d2.grows.stands in
    let w3 : Work = c.add_either.new.work in
    let d3 : GrowsUncounted h w2 w3 = c.add_either.ensures.grows in
    let v : TermId = c.args.v in
    let d : Denied = c.in_ok-d.d in
    let t1 : IsTruth w1.bank h v = truth_after h w0 w1 s0 g1 v c.requires.truth in
    let k1 : IsDenied w1.bank h v d = c.in_ok-d.ensures.denied in
    let t2 : IsTruth w2.bank h v = truth_after h w1 w2 s1 d2 v t1 in
    let k2 : IsDenied w2.bank h v d = denied_after h w1 w2 s1 d2 v d t1.usable k1 in
    let k3 : IsDenied w3.bank h v d = denied_after h w2 w3 s2 d3 v d t2.usable k2 in
    k3.falsity

pub add_value_or_falsity-requires-clause-truth : goal.add_value_or_falsity-requires-clause-truth
add_value_or_falsity-requires-clause-truth c =
    let h : List Entry = c.args.history.now in
    let w0 : Work = c.args.work.now in
    let s0 : WorkStands h w0 = c.requires.stands in
    let w1 : Work = c.with_falsity.new.work in
    let d1 : GrowsUncounted h w0 w1 = c.with_falsity.ensures.grows in
    let g1 : GrowsUncounted h w0 w1 = d1 in
    let s1 : WorkStands h w1 = d1.grows.stands in
    let w2 : Work = c.add_value.new.work in
    let d2 : GrowsUncounted h w1 w2 = c.add_value.ensures.grows in
    let s2 : WorkStands h w2 = d2.grows.stands in
    let w3 : Work = c.add_either.new.work in
    let d3 : GrowsUncounted h w2 w3 = c.add_either.ensures.grows in
    let s3 : WorkStands h w3 = d3.grows.stands in
    let w4 : Work = c.add_replaced.new.work in
    let d4 : GrowsUncounted h w3 w4 = c.add_replaced.ensures.grows in
    let v : TermId = c.args.v in
    let t1 : IsTruth w1.bank h v = truth_after h w0 w1 s0 g1 v c.requires.truth in
    let t2 : IsTruth w2.bank h v = truth_after h w1 w2 s1 d2 v t1 in
    let t3 : IsTruth w3.bank h v = truth_after h w2 w3 s2 d3 v t2 in
    let t4 : IsTruth w4.bank h v = truth_after h w3 w4 s3 d4 v t3 in
    t4

pub add_value_or_falsity-requires-clause-term : goal.add_value_or_falsity-requires-clause-term
add_value_or_falsity-requires-clause-term c =
    let h : List Entry = c.args.history.now in
    let w0 : Work = c.args.work.now in
    let s0 : WorkStands h w0 = c.requires.stands in
    let w1 : Work = c.with_falsity.new.work in
    let d1 : GrowsUncounted h w0 w1 = c.with_falsity.ensures.grows in
    let g1 : GrowsUncounted h w0 w1 = d1 in
    let s1 : WorkStands h w1 = d1.grows.stands in
    let w2 : Work = c.add_value.new.work in
    let d2 : GrowsUncounted h w1 w2 = c.add_value.ensures.grows in
    let s2 : WorkStands h w2 = d2.grows.stands in
    let w3 : Work = c.add_either.new.work in
    let d3 : GrowsUncounted h w2 w3 = c.add_either.ensures.grows in
    let s3 : WorkStands h w3 = d3.grows.stands in
    let w4 : Work = c.add_replaced.new.work in
    let d4 : GrowsUncounted h w3 w4 = c.add_replaced.ensures.grows in
    let v : TermId = c.args.v in
    let d : Denied = c.in_ok-d.d in
    let t1 : IsTruth w1.bank h v = truth_after h w0 w1 s0 g1 v c.requires.truth in
    let k1 : IsDenied w1.bank h v d = c.in_ok-d.ensures.denied in
    let t2 : IsTruth w2.bank h v = truth_after h w1 w2 s1 d2 v t1 in
    let k2 : IsDenied w2.bank h v d = denied_after h w1 w2 s1 d2 v d t1.usable k1 in
    let t3 : IsTruth w3.bank h v = truth_after h w2 w3 s2 d3 v t2 in
    let k3 : IsDenied w3.bank h v d = denied_after h w2 w3 s2 d3 v d t2.usable k2 in
    let k4 : IsDenied w4.bank h v d = denied_after h w3 w4 s3 d4 v d t3.usable k3 in
    k4.whole

pub add_value_or_falsity-requires-clause-is : goal.add_value_or_falsity-requires-clause-is
add_value_or_falsity-requires-clause-is c =
    let h : List Entry = c.args.history.now in
    let w0 : Work = c.args.work.now in
    let s0 : WorkStands h w0 = c.requires.stands in
    let w1 : Work = c.with_falsity.new.work in
    let d1 : GrowsUncounted h w0 w1 = c.with_falsity.ensures.grows in
    let g1 : GrowsUncounted h w0 w1 = d1 in
    let s1 : WorkStands h w1 = d1.grows.stands in
    let w2 : Work = c.add_value.new.work in
    let d2 : GrowsUncounted h w1 w2 = c.add_value.ensures.grows in
    let s2 : WorkStands h w2 = d2.grows.stands in
    let w3 : Work = c.add_either.new.work in
    let d3 : GrowsUncounted h w2 w3 = c.add_either.ensures.grows in
    let s3 : WorkStands h w3 = d3.grows.stands in
    let w4 : Work = c.add_replaced.new.work in
    let d4 : GrowsUncounted h w3 w4 = c.add_replaced.ensures.grows in
    let v : TermId = c.args.v in
    let d : Denied = c.in_ok-d.d in
    let t1 : IsTruth w1.bank h v = truth_after h w0 w1 s0 g1 v c.requires.truth in
    let k1 : IsDenied w1.bank h v d = c.in_ok-d.ensures.denied in
    let t2 : IsTruth w2.bank h v = truth_after h w1 w2 s1 d2 v t1 in
    let k2 : IsDenied w2.bank h v d = denied_after h w1 w2 s1 d2 v d t1.usable k1 in
    let t3 : IsTruth w3.bank h v = truth_after h w2 w3 s2 d3 v t2 in
    let k3 : IsDenied w3.bank h v d = denied_after h w2 w3 s2 d3 v d t2.usable k2 in
    let k4 : IsDenied w4.bank h v d = denied_after h w3 w4 s3 d4 v d t3.usable k3 in
    k4.whole_is

pub add_value_or_falsity-requires-clause-first : goal.add_value_or_falsity-requires-clause-first
add_value_or_falsity-requires-clause-first c =
    let h : List Entry = c.args.history.now in
    let w0 : Work = c.args.work.now in
    let s0 : WorkStands h w0 = c.requires.stands in
    let w1 : Work = c.with_falsity.new.work in
    let d1 : GrowsUncounted h w0 w1 = c.with_falsity.ensures.grows in
    let g1 : GrowsUncounted h w0 w1 = d1 in
    let s1 : WorkStands h w1 = d1.grows.stands in
    let w2 : Work = c.add_value.new.work in
    let d2 : GrowsUncounted h w1 w2 = c.add_value.ensures.grows in
    let s2 : WorkStands h w2 = d2.grows.stands in
    let w3 : Work = c.add_either.new.work in
    let d3 : GrowsUncounted h w2 w3 = c.add_either.ensures.grows in
    let s3 : WorkStands h w3 = d3.grows.stands in
    let w4 : Work = c.add_replaced.new.work in
    let d4 : GrowsUncounted h w3 w4 = c.add_replaced.ensures.grows in
    let v : TermId = c.args.v in
    let d : Denied = c.in_ok-d.d in
    let t1 : IsTruth w1.bank h v = truth_after h w0 w1 s0 g1 v c.requires.truth in
    let k1 : IsDenied w1.bank h v d = c.in_ok-d.ensures.denied in
    let t2 : IsTruth w2.bank h v = truth_after h w1 w2 s1 d2 v t1 in
    let k2 : IsDenied w2.bank h v d = denied_after h w1 w2 s1 d2 v d t1.usable k1 in
    let t3 : IsTruth w3.bank h v = truth_after h w2 w3 s2 d3 v t2 in
    let k3 : IsDenied w3.bank h v d = denied_after h w2 w3 s2 d3 v d t2.usable k2 in
    let k4 : IsDenied w4.bank h v d = denied_after h w3 w4 s3 d4 v d t3.usable k3 in
    let n : ℕ = c.in_ok-first.first in
    let l2 : LineHolds w2 n (equal_term (term_at w2.bank d.equation) (term_at w2.bank d.falsity) ∷ []) = c.in_ok-first.ensures.line in
    let l3 : LineHolds w3 n (equal_term (term_at w3.bank d.equation) (term_at w3.bank d.falsity) ∷ []) = held_after h w2 w3 n d.equation d.falsity (λ t u. equal_term t u ∷ []) s2 d3 k2.equation.stands k2.falsity.usable.stands l2 in
    let l4 : LineHolds w4 n (equal_term (term_at w4.bank d.equation) (term_at w4.bank d.falsity) ∷ []) = held_after h w3 w4 n d.equation d.falsity (λ t u. equal_term t u ∷ []) s3 d4 k3.equation.stands k3.falsity.usable.stands l3 in
    let same4 : equal_term (term_at w4.bank d.equation) (term_at w4.bank d.falsity) ≡ term_at w4.bank d.whole = ap (λ t. equal_term t (term_at w4.bank d.falsity)) k4.equation_is ∙ ap (equal_term (equal_false (term_at w4.bank v))) k4.falsity.is ∙ sym k4.whole_is in
    subst (λ t. LineHolds w4 n (t ∷ [])) same4 l4

pub add_value_or_falsity-requires-clause-second : goal.add_value_or_falsity-requires-clause-second
add_value_or_falsity-requires-clause-second c =
    let h : List Entry = c.args.history.now in
    let w0 : Work = c.args.work.now in
    let s0 : WorkStands h w0 = c.requires.stands in
    let w1 : Work = c.with_falsity.new.work in
    let d1 : GrowsUncounted h w0 w1 = c.with_falsity.ensures.grows in
    let g1 : GrowsUncounted h w0 w1 = d1 in
    let s1 : WorkStands h w1 = d1.grows.stands in
    let w2 : Work = c.add_value.new.work in
    let d2 : GrowsUncounted h w1 w2 = c.add_value.ensures.grows in
    let s2 : WorkStands h w2 = d2.grows.stands in
    let w3 : Work = c.add_either.new.work in
    let d3 : GrowsUncounted h w2 w3 = c.add_either.ensures.grows in
    let s3 : WorkStands h w3 = d3.grows.stands in
    let w4 : Work = c.add_replaced.new.work in
    let d4 : GrowsUncounted h w3 w4 = c.add_replaced.ensures.grows in
    let v : TermId = c.args.v in
    let d : Denied = c.in_ok-d.d in
    let t1 : IsTruth w1.bank h v = truth_after h w0 w1 s0 g1 v c.requires.truth in
    let k1 : IsDenied w1.bank h v d = c.in_ok-d.ensures.denied in
    let t2 : IsTruth w2.bank h v = truth_after h w1 w2 s1 d2 v t1 in
    let k2 : IsDenied w2.bank h v d = denied_after h w1 w2 s1 d2 v d t1.usable k1 in
    let t3 : IsTruth w3.bank h v = truth_after h w2 w3 s2 d3 v t2 in
    let k3 : IsDenied w3.bank h v d = denied_after h w2 w3 s2 d3 v d t2.usable k2 in
    let k4 : IsDenied w4.bank h v d = denied_after h w3 w4 s3 d4 v d t3.usable k3 in
    subst (λ t. LineHolds w4 c.in_ok-second.second (term_at w4.bank v ∷ false_term ∷ not_term t ∷ [])) (sym k4.whole_is) c.in_ok-second.ensures.line

pub add_without_falsity-requires-clause-truth : goal.add_without_falsity-requires-clause-truth
add_without_falsity-requires-clause-truth c =
    let h : List Entry = c.args.history.now in
    let w0 : Work = c.args.work.now in
    let s0 : WorkStands h w0 = c.requires.stands in
    let w1 : Work = c.with_falsity.new.work in
    let d1 : GrowsUncounted h w0 w1 = c.with_falsity.ensures.grows in
    let g1 : GrowsUncounted h w0 w1 = d1 in
    let s1 : WorkStands h w1 = d1.grows.stands in
    let w2 : Work = c.add_value.new.work in
    let d2 : GrowsUncounted h w1 w2 = c.add_value.ensures.grows in
    let s2 : WorkStands h w2 = d2.grows.stands in
    let w3 : Work = c.add_either.new.work in
    let d3 : GrowsUncounted h w2 w3 = c.add_either.ensures.grows in
    let s3 : WorkStands h w3 = d3.grows.stands in
    let w4 : Work = c.add_replaced.new.work in
    let d4 : GrowsUncounted h w3 w4 = c.add_replaced.ensures.grows in
    let s4 : WorkStands h w4 = d4.grows.stands in
    let w5 : Work = c.add_value_or_falsity.new.work in
    let d5 : GrowsUncounted h w4 w5 = c.add_value_or_falsity.ensures.grows in
    let v : TermId = c.args.v in
    let t1 : IsTruth w1.bank h v = truth_after h w0 w1 s0 g1 v c.requires.truth in
    let t2 : IsTruth w2.bank h v = truth_after h w1 w2 s1 d2 v t1 in
    let t3 : IsTruth w3.bank h v = truth_after h w2 w3 s2 d3 v t2 in
    let t4 : IsTruth w4.bank h v = truth_after h w3 w4 s3 d4 v t3 in
    let t5 : IsTruth w5.bank h v = truth_after h w4 w5 s4 d5 v t4 in
    t5

pub add_without_falsity-requires-clause-falsity : goal.add_without_falsity-requires-clause-falsity
add_without_falsity-requires-clause-falsity c =
    let h : List Entry = c.args.history.now in
    let w0 : Work = c.args.work.now in
    let s0 : WorkStands h w0 = c.requires.stands in
    let w1 : Work = c.with_falsity.new.work in
    let d1 : GrowsUncounted h w0 w1 = c.with_falsity.ensures.grows in
    let g1 : GrowsUncounted h w0 w1 = d1 in
    let s1 : WorkStands h w1 = d1.grows.stands in
    let w2 : Work = c.add_value.new.work in
    let d2 : GrowsUncounted h w1 w2 = c.add_value.ensures.grows in
    let s2 : WorkStands h w2 = d2.grows.stands in
    let w3 : Work = c.add_either.new.work in
    let d3 : GrowsUncounted h w2 w3 = c.add_either.ensures.grows in
    let s3 : WorkStands h w3 = d3.grows.stands in
    let w4 : Work = c.add_replaced.new.work in
    let d4 : GrowsUncounted h w3 w4 = c.add_replaced.ensures.grows in
    let s4 : WorkStands h w4 = d4.grows.stands in
    let w5 : Work = c.add_value_or_falsity.new.work in
    let d5 : GrowsUncounted h w4 w5 = c.add_value_or_falsity.ensures.grows in
    let v : TermId = c.args.v in
    let d : Denied = c.in_ok-d.d in
    let t1 : IsTruth w1.bank h v = truth_after h w0 w1 s0 g1 v c.requires.truth in
    let k1 : IsDenied w1.bank h v d = c.in_ok-d.ensures.denied in
    let t2 : IsTruth w2.bank h v = truth_after h w1 w2 s1 d2 v t1 in
    let k2 : IsDenied w2.bank h v d = denied_after h w1 w2 s1 d2 v d t1.usable k1 in
    let t3 : IsTruth w3.bank h v = truth_after h w2 w3 s2 d3 v t2 in
    let k3 : IsDenied w3.bank h v d = denied_after h w2 w3 s2 d3 v d t2.usable k2 in
    let t4 : IsTruth w4.bank h v = truth_after h w3 w4 s3 d4 v t3 in
    let k4 : IsDenied w4.bank h v d = denied_after h w3 w4 s3 d4 v d t3.usable k3 in
    let k5 : IsDenied w5.bank h v d = denied_after h w4 w5 s4 d5 v d t4.usable k4 in
    k5.falsity

pub returns-in_err-first-clause-grows : goal.returns-in_err-first-clause-grows
returns-in_err-first-clause-grows c =
    let h : List Entry = c.args.history.now in
    let w0 : Work = c.args.work.now in
    let w1 : Work = c.with_falsity.new.work in
    let d1 : GrowsUncounted h w0 w1 = c.with_falsity.ensures.grows in
    let g1 : GrowsUncounted h w0 w1 = d1 in
    let w2 : Work = c.add_value.new.work in
    let d2 : GrowsUncounted h w1 w2 = c.add_value.ensures.grows in
    let g2 : GrowsUncounted h w0 w2 = grown_trans h w0 w1 w2 g1 d2 in
    g2

pub returns-in_err-either-clause-grows : goal.returns-in_err-either-clause-grows
returns-in_err-either-clause-grows c =
    let h : List Entry = c.args.history.now in
    let w0 : Work = c.args.work.now in
    let w1 : Work = c.with_falsity.new.work in
    let d1 : GrowsUncounted h w0 w1 = c.with_falsity.ensures.grows in
    let g1 : GrowsUncounted h w0 w1 = d1 in
    let w2 : Work = c.add_value.new.work in
    let d2 : GrowsUncounted h w1 w2 = c.add_value.ensures.grows in
    let g2 : GrowsUncounted h w0 w2 = grown_trans h w0 w1 w2 g1 d2 in
    let w3 : Work = c.add_either.new.work in
    let d3 : GrowsUncounted h w2 w3 = c.add_either.ensures.grows in
    let g3 : GrowsUncounted h w0 w3 = grown_trans h w0 w2 w3 g2 d3 in
    g3

pub returns-in_err-second-clause-grows : goal.returns-in_err-second-clause-grows
returns-in_err-second-clause-grows c =
    let h : List Entry = c.args.history.now in
    let w0 : Work = c.args.work.now in
    let w1 : Work = c.with_falsity.new.work in
    let d1 : GrowsUncounted h w0 w1 = c.with_falsity.ensures.grows in
    let g1 : GrowsUncounted h w0 w1 = d1 in
    let w2 : Work = c.add_value.new.work in
    let d2 : GrowsUncounted h w1 w2 = c.add_value.ensures.grows in
    let g2 : GrowsUncounted h w0 w2 = grown_trans h w0 w1 w2 g1 d2 in
    let w3 : Work = c.add_either.new.work in
    let d3 : GrowsUncounted h w2 w3 = c.add_either.ensures.grows in
    let g3 : GrowsUncounted h w0 w3 = grown_trans h w0 w2 w3 g2 d3 in
    let w4 : Work = c.add_replaced.new.work in
    let d4 : GrowsUncounted h w3 w4 = c.add_replaced.ensures.grows in
    let g4 : GrowsUncounted h w0 w4 = grown_trans h w0 w3 w4 g3 d4 in
    g4

pub returns-in_err-line-clause-grows : goal.returns-in_err-line-clause-grows
returns-in_err-line-clause-grows c =
    let h : List Entry = c.args.history.now in
    let w0 : Work = c.args.work.now in
    let w1 : Work = c.with_falsity.new.work in
    let d1 : GrowsUncounted h w0 w1 = c.with_falsity.ensures.grows in
    let g1 : GrowsUncounted h w0 w1 = d1 in
    let w2 : Work = c.add_value.new.work in
    let d2 : GrowsUncounted h w1 w2 = c.add_value.ensures.grows in
    let g2 : GrowsUncounted h w0 w2 = grown_trans h w0 w1 w2 g1 d2 in
    let w3 : Work = c.add_either.new.work in
    let d3 : GrowsUncounted h w2 w3 = c.add_either.ensures.grows in
    let g3 : GrowsUncounted h w0 w3 = grown_trans h w0 w2 w3 g2 d3 in
    let w4 : Work = c.add_replaced.new.work in
    let d4 : GrowsUncounted h w3 w4 = c.add_replaced.ensures.grows in
    let g4 : GrowsUncounted h w0 w4 = grown_trans h w0 w3 w4 g3 d4 in
    let w5 : Work = c.add_value_or_falsity.new.work in
    let d5 : GrowsUncounted h w4 w5 = c.add_value_or_falsity.ensures.grows in
    let g5 : GrowsUncounted h w0 w5 = grown_trans h w0 w4 w5 g4 d5 in
    g5

pub returns-clause-grows : goal.returns-clause-grows
returns-clause-grows c =
    let h : List Entry = c.args.history.now in
    let w0 : Work = c.args.work.now in
    let w1 : Work = c.with_falsity.new.work in
    let d1 : GrowsUncounted h w0 w1 = c.with_falsity.ensures.grows in
    let g1 : GrowsUncounted h w0 w1 = d1 in
    let w2 : Work = c.add_value.new.work in
    let d2 : GrowsUncounted h w1 w2 = c.add_value.ensures.grows in
    let g2 : GrowsUncounted h w0 w2 = grown_trans h w0 w1 w2 g1 d2 in
    let w3 : Work = c.add_either.new.work in
    let d3 : GrowsUncounted h w2 w3 = c.add_either.ensures.grows in
    let g3 : GrowsUncounted h w0 w3 = grown_trans h w0 w2 w3 g2 d3 in
    let w4 : Work = c.add_replaced.new.work in
    let d4 : GrowsUncounted h w3 w4 = c.add_replaced.ensures.grows in
    let g4 : GrowsUncounted h w0 w4 = grown_trans h w0 w3 w4 g3 d4 in
    let w5 : Work = c.add_value_or_falsity.new.work in
    let d5 : GrowsUncounted h w4 w5 = c.add_value_or_falsity.ensures.grows in
    let g5 : GrowsUncounted h w0 w5 = grown_trans h w0 w4 w5 g4 d5 in
    let w6 : Work = c.add_without_falsity.new.work in
    let d6 : GrowsUncounted h w5 w6 = c.add_without_falsity.ensures.grows in
    let g6 : GrowsUncounted h w0 w6 = grown_trans h w0 w5 w6 g5 d6 in
    g6
