use Rattle.std.proofs.Common.{◌≡◌, ◌∷◌, [], ◌++◌, refl, ap}
use Rattle.std.specs.Prelude.{codes, All}
use Rattle.nq_logic.specs.Terms.{Substitution}
use Rattle.nq_bank.specs.Content.{term_at}
use Rattle.nq_rule.proofs.Made.{for_ok}
use Rattle.nq_kernel.specs.declared.work.Work.{Work}
use Rattle.nq_kernel.specs.Growing.{WorkGrows}
use Rattle.nq_kernel.proofs.GrowingLemmas.{WorkGrows-trans}
use Rattle.nq_lines.specs.Lines.{IsTermIn}
use Rattle.nq_lines.proofs.TermLemmas.{term_grown, same_term_grown}
use Rattle.nq_clause.specs.Substitution.{substitution_at, PairStands}
use Rattle.nq_lines.specs.Branches.{law_pairs_at}
use Rattle.nq_lines.proofs.BranchLemmas.{none_stand}
use Rattle.nq_clause.specs.declared.substitution.Pair.{Pair}
use Rattle.std.specs.declared.alloc.Global.{Global}
use Rattle.std.specs.Prelude.{Vec}
use Rattle.nq_lines.specs.Instances.{ArePairsIn}
use Rattle.nq_lines.proofs.BranchLemmas.{added_to, pairs_in_by}
use Rattle.nq_lines.proofs.TermLemmas.{both_ok}
use Rattle.nq_lines.proofs.PairLemmas.{over_still, x_plain, y_plain}
use Rattle.nq_lines.proofs.BranchLemmas.{p_plain, q_plain, u_plain, v_plain}
use Rattle.nq_bank.specs.declared.node.TermId.{TermId}
use Rattle.nq_lines.proofs.joining.law_pairs.Goals as goal

pub with_pair-requires-clause-term : goal.with_pair-requires-clause-term
with_pair-requires-clause-term c = c.requires.before.test

pub with_pair-requires-2-clause-term : goal.with_pair-requires-2-clause-term
with_pair-requires-2-clause-term c = (term_grown c.args.history.now c.args.work.now c.with_pair.new.work c.args.before.first c.requires.stands c.with_pair.ensures.grows c.requires.before.first)

pub with_pair-requires-3-clause-term : goal.with_pair-requires-3-clause-term
with_pair-requires-3-clause-term c = (term_grown c.args.history.now c.args.work.now c.with_pair-2.new.work c.args.before.second c.requires.stands (WorkGrows-trans c.args.history.now c.args.work.now c.with_pair.new.work c.with_pair-2.new.work c.with_pair.ensures.grows c.with_pair-2.ensures.grows) c.requires.before.second)

pub with_pair-requires-4-clause-term : goal.with_pair-requires-4-clause-term
with_pair-requires-4-clause-term c = (term_grown c.args.history.now c.args.work.now c.with_pair-3.new.work c.args.after.test c.requires.stands (WorkGrows-trans c.args.history.now c.args.work.now c.with_pair.new.work c.with_pair-3.new.work c.with_pair.ensures.grows (WorkGrows-trans c.args.history.now c.with_pair.new.work c.with_pair-2.new.work c.with_pair-3.new.work c.with_pair-2.ensures.grows c.with_pair-3.ensures.grows)) c.requires.after.test)

pub with_pair-requires-5-clause-term : goal.with_pair-requires-5-clause-term
with_pair-requires-5-clause-term c = (term_grown c.args.history.now c.args.work.now c.with_pair-4.new.work c.args.after.first c.requires.stands (WorkGrows-trans c.args.history.now c.args.work.now c.with_pair.new.work c.with_pair-4.new.work c.with_pair.ensures.grows (WorkGrows-trans c.args.history.now c.with_pair.new.work c.with_pair-2.new.work c.with_pair-4.new.work c.with_pair-2.ensures.grows (WorkGrows-trans c.args.history.now c.with_pair-2.new.work c.with_pair-3.new.work c.with_pair-4.new.work c.with_pair-3.ensures.grows c.with_pair-4.ensures.grows))) c.requires.after.first)

pub with_pair-requires-6-clause-term : goal.with_pair-requires-6-clause-term
with_pair-requires-6-clause-term c = (term_grown c.args.history.now c.args.work.now c.with_pair-5.new.work c.args.after.second c.requires.stands (WorkGrows-trans c.args.history.now c.args.work.now c.with_pair.new.work c.with_pair-5.new.work c.with_pair.ensures.grows (WorkGrows-trans c.args.history.now c.with_pair.new.work c.with_pair-2.new.work c.with_pair-5.new.work c.with_pair-2.ensures.grows (WorkGrows-trans c.args.history.now c.with_pair-2.new.work c.with_pair-3.new.work c.with_pair-5.new.work c.with_pair-3.ensures.grows (WorkGrows-trans c.args.history.now c.with_pair-3.new.work c.with_pair-4.new.work c.with_pair-5.new.work c.with_pair-4.ensures.grows c.with_pair-5.ensures.grows)))) c.requires.after.second)

pub with_pair-requires-clause-pairs : goal.with_pair-requires-clause-pairs
with_pair-requires-clause-pairs c = none_stand c.args.work.now.bank c.new-none.result.items c.new-none.ensures.items

pub returns-in_err-two-clause-grows : goal.returns-in_err-two-clause-grows
returns-in_err-two-clause-grows c = (WorkGrows-trans c.args.history.now c.args.work.now c.with_pair.new.work c.with_pair-2.new.work c.with_pair.ensures.grows c.with_pair-2.ensures.grows)

pub returns-in_err-three-clause-grows : goal.returns-in_err-three-clause-grows
returns-in_err-three-clause-grows c = (WorkGrows-trans c.args.history.now c.args.work.now c.with_pair.new.work c.with_pair-3.new.work c.with_pair.ensures.grows (WorkGrows-trans c.args.history.now c.with_pair.new.work c.with_pair-2.new.work c.with_pair-3.new.work c.with_pair-2.ensures.grows c.with_pair-3.ensures.grows))

pub returns-in_err-four-clause-grows : goal.returns-in_err-four-clause-grows
returns-in_err-four-clause-grows c = (WorkGrows-trans c.args.history.now c.args.work.now c.with_pair.new.work c.with_pair-4.new.work c.with_pair.ensures.grows (WorkGrows-trans c.args.history.now c.with_pair.new.work c.with_pair-2.new.work c.with_pair-4.new.work c.with_pair-2.ensures.grows (WorkGrows-trans c.args.history.now c.with_pair-2.new.work c.with_pair-3.new.work c.with_pair-4.new.work c.with_pair-3.ensures.grows c.with_pair-4.ensures.grows)))

pub returns-in_err-five-clause-grows : goal.returns-in_err-five-clause-grows
returns-in_err-five-clause-grows c = (WorkGrows-trans c.args.history.now c.args.work.now c.with_pair.new.work c.with_pair-5.new.work c.with_pair.ensures.grows (WorkGrows-trans c.args.history.now c.with_pair.new.work c.with_pair-2.new.work c.with_pair-5.new.work c.with_pair-2.ensures.grows (WorkGrows-trans c.args.history.now c.with_pair-2.new.work c.with_pair-3.new.work c.with_pair-5.new.work c.with_pair-3.ensures.grows (WorkGrows-trans c.args.history.now c.with_pair-3.new.work c.with_pair-4.new.work c.with_pair-5.new.work c.with_pair-4.ensures.grows c.with_pair-5.ensures.grows))))

pub returns-clause-grows : goal.returns-clause-grows
returns-clause-grows c = (WorkGrows-trans c.args.history.now c.args.work.now c.with_pair.new.work c.with_pair-6.new.work c.with_pair.ensures.grows (WorkGrows-trans c.args.history.now c.with_pair.new.work c.with_pair-2.new.work c.with_pair-6.new.work c.with_pair-2.ensures.grows (WorkGrows-trans c.args.history.now c.with_pair-2.new.work c.with_pair-3.new.work c.with_pair-6.new.work c.with_pair-3.ensures.grows (WorkGrows-trans c.args.history.now c.with_pair-3.new.work c.with_pair-4.new.work c.with_pair-6.new.work c.with_pair-4.ensures.grows (WorkGrows-trans c.args.history.now c.with_pair-4.new.work c.with_pair-5.new.work c.with_pair-6.new.work c.with_pair-5.ensures.grows c.with_pair-6.ensures.grows)))))

pub returns-clause-pairs : goal.returns-clause-pairs
returns-clause-pairs c =
    let h = c.args.history.now in
    let w0 : Work = c.args.work.now in
    let w1 : Work = c.with_pair.new.work in
    let w2 : Work = c.with_pair-2.new.work in
    let w3 : Work = c.with_pair-3.new.work in
    let w4 : Work = c.with_pair-4.new.work in
    let w5 : Work = c.with_pair-5.new.work in
    let w6 : Work = c.with_pair-6.new.work in
    let g01 : WorkGrows h w0 w1 = c.with_pair.ensures.grows in
    let g02 : WorkGrows h w0 w2 = (WorkGrows-trans c.args.history.now c.args.work.now c.with_pair.new.work c.with_pair-2.new.work c.with_pair.ensures.grows c.with_pair-2.ensures.grows) in
    let g03 : WorkGrows h w0 w3 = (WorkGrows-trans c.args.history.now c.args.work.now c.with_pair.new.work c.with_pair-3.new.work c.with_pair.ensures.grows (WorkGrows-trans c.args.history.now c.with_pair.new.work c.with_pair-2.new.work c.with_pair-3.new.work c.with_pair-2.ensures.grows c.with_pair-3.ensures.grows)) in
    let g04 : WorkGrows h w0 w4 = (WorkGrows-trans c.args.history.now c.args.work.now c.with_pair.new.work c.with_pair-4.new.work c.with_pair.ensures.grows (WorkGrows-trans c.args.history.now c.with_pair.new.work c.with_pair-2.new.work c.with_pair-4.new.work c.with_pair-2.ensures.grows (WorkGrows-trans c.args.history.now c.with_pair-2.new.work c.with_pair-3.new.work c.with_pair-4.new.work c.with_pair-3.ensures.grows c.with_pair-4.ensures.grows))) in
    let g05 : WorkGrows h w0 w5 = (WorkGrows-trans c.args.history.now c.args.work.now c.with_pair.new.work c.with_pair-5.new.work c.with_pair.ensures.grows (WorkGrows-trans c.args.history.now c.with_pair.new.work c.with_pair-2.new.work c.with_pair-5.new.work c.with_pair-2.ensures.grows (WorkGrows-trans c.args.history.now c.with_pair-2.new.work c.with_pair-3.new.work c.with_pair-5.new.work c.with_pair-3.ensures.grows (WorkGrows-trans c.args.history.now c.with_pair-3.new.work c.with_pair-4.new.work c.with_pair-5.new.work c.with_pair-4.ensures.grows c.with_pair-5.ensures.grows)))) in
    let b = c.args.before in
    let a = c.args.after in
    let p = term_at w0.bank b.test in
    let x = term_at w0.bank b.first in
    let y = term_at w0.bank b.second in
    let q = term_at w0.bank a.test in
    let u = term_at w0.bank a.first in
    let v = term_at w0.bank a.second in
    let s0 : substitution_at w0.bank c.new-none.result.items ≡ [] = ap (substitution_at w0.bank) c.new-none.ensures.items in
    let s1 : substitution_at w1.bank c.in_ok-one.one.items ≡ ((codes "P", p) ∷ []) = added_to (substitution_at w1.bank c.in_ok-one.one.items) (substitution_at w0.bank c.new-none.result.items) [] (codes "P") (term_at w0.bank b.test) p c.in_ok-one.ensures.pairs s0 refl in
    let s2 : substitution_at w2.bank c.in_ok-two.two.items ≡ ((codes "P", p) ∷ (codes "X", x) ∷ []) = added_to (substitution_at w2.bank c.in_ok-two.two.items) (substitution_at w1.bank c.in_ok-one.one.items) ((codes "P", p) ∷ []) (codes "X") (term_at w1.bank b.first) x c.in_ok-two.ensures.pairs s1 (same_term_grown h w0 w1 b.first g01 c.requires.before.first) in
    let s3 : substitution_at w3.bank c.in_ok-three.three.items ≡ ((codes "P", p) ∷ (codes "X", x) ∷ (codes "Y", y) ∷ []) = added_to (substitution_at w3.bank c.in_ok-three.three.items) (substitution_at w2.bank c.in_ok-two.two.items) ((codes "P", p) ∷ (codes "X", x) ∷ []) (codes "Y") (term_at w2.bank b.second) y c.in_ok-three.ensures.pairs s2 (same_term_grown h w0 w2 b.second g02 c.requires.before.second) in
    let s4 : substitution_at w4.bank c.in_ok-four.four.items ≡ ((codes "P", p) ∷ (codes "X", x) ∷ (codes "Y", y) ∷ (codes "Q", q) ∷ []) = added_to (substitution_at w4.bank c.in_ok-four.four.items) (substitution_at w3.bank c.in_ok-three.three.items) ((codes "P", p) ∷ (codes "X", x) ∷ (codes "Y", y) ∷ []) (codes "Q") (term_at w3.bank a.test) q c.in_ok-four.ensures.pairs s3 (same_term_grown h w0 w3 a.test g03 c.requires.after.test) in
    let s5 : substitution_at w5.bank c.in_ok-five.five.items ≡ ((codes "P", p) ∷ (codes "X", x) ∷ (codes "Y", y) ∷ (codes "Q", q) ∷ (codes "U", u) ∷ []) = added_to (substitution_at w5.bank c.in_ok-five.five.items) (substitution_at w4.bank c.in_ok-four.four.items) ((codes "P", p) ∷ (codes "X", x) ∷ (codes "Y", y) ∷ (codes "Q", q) ∷ []) (codes "U") (term_at w4.bank a.first) u c.in_ok-five.ensures.pairs s4 (same_term_grown h w0 w4 a.first g04 c.requires.after.first) in
    let v5 : term_at w5.bank a.second ≡ v = same_term_grown h w0 w5 a.second g05 c.requires.after.second in
    let whole : Substitution = law_pairs_at w0.bank b a in
    let P : Vec Pair Global → Type 0 = λ ps. substitution_at w6.bank ps.items ≡ substitution_at w5.bank c.in_ok-five.five.items ++ (codes "V", term_at w5.bank a.second) ∷ [] in
    let is : (ps : Vec Pair Global) → P ps → substitution_at w6.bank ps.items ≡ whole = λ (ps : Vec Pair Global) (e : P ps). added_to (substitution_at w6.bank ps.items) (substitution_at w5.bank c.in_ok-five.five.items) ((codes "P", p) ∷ (codes "X", x) ∷ (codes "Y", y) ∷ (codes "Q", q) ∷ (codes "U", u) ∷ []) (codes "V") (term_at w5.bank a.second) v e s5 v5 in
    for_ok c.with_pair-6.result P (λ ps. substitution_at w6.bank ps.items ≡ whole) is c.with_pair-6.ensures.pairs

pub returns-clause-over : goal.returns-clause-over
returns-clause-over c =
    let h = c.args.history.now in
    let w0 : Work = c.args.work.now in
    let w1 : Work = c.with_pair.new.work in
    let w2 : Work = c.with_pair-2.new.work in
    let w3 : Work = c.with_pair-3.new.work in
    let w4 : Work = c.with_pair-4.new.work in
    let w5 : Work = c.with_pair-5.new.work in
    let w6 : Work = c.with_pair-6.new.work in
    let g01 : WorkGrows h w0 w1 = c.with_pair.ensures.grows in
    let g02 : WorkGrows h w0 w2 = (WorkGrows-trans c.args.history.now c.args.work.now c.with_pair.new.work c.with_pair-2.new.work c.with_pair.ensures.grows c.with_pair-2.ensures.grows) in
    let g03 : WorkGrows h w0 w3 = (WorkGrows-trans c.args.history.now c.args.work.now c.with_pair.new.work c.with_pair-3.new.work c.with_pair.ensures.grows (WorkGrows-trans c.args.history.now c.with_pair.new.work c.with_pair-2.new.work c.with_pair-3.new.work c.with_pair-2.ensures.grows c.with_pair-3.ensures.grows)) in
    let g04 : WorkGrows h w0 w4 = (WorkGrows-trans c.args.history.now c.args.work.now c.with_pair.new.work c.with_pair-4.new.work c.with_pair.ensures.grows (WorkGrows-trans c.args.history.now c.with_pair.new.work c.with_pair-2.new.work c.with_pair-4.new.work c.with_pair-2.ensures.grows (WorkGrows-trans c.args.history.now c.with_pair-2.new.work c.with_pair-3.new.work c.with_pair-4.new.work c.with_pair-3.ensures.grows c.with_pair-4.ensures.grows))) in
    let g05 : WorkGrows h w0 w5 = (WorkGrows-trans c.args.history.now c.args.work.now c.with_pair.new.work c.with_pair-5.new.work c.with_pair.ensures.grows (WorkGrows-trans c.args.history.now c.with_pair.new.work c.with_pair-2.new.work c.with_pair-5.new.work c.with_pair-2.ensures.grows (WorkGrows-trans c.args.history.now c.with_pair-2.new.work c.with_pair-3.new.work c.with_pair-5.new.work c.with_pair-3.ensures.grows (WorkGrows-trans c.args.history.now c.with_pair-3.new.work c.with_pair-4.new.work c.with_pair-5.new.work c.with_pair-4.ensures.grows c.with_pair-5.ensures.grows)))) in
    let b = c.args.before in
    let a = c.args.after in
    let p = term_at w0.bank b.test in
    let x = term_at w0.bank b.first in
    let y = term_at w0.bank b.second in
    let q = term_at w0.bank a.test in
    let u = term_at w0.bank a.first in
    let v = term_at w0.bank a.second in
    let s0 : substitution_at w0.bank c.new-none.result.items ≡ [] = ap (substitution_at w0.bank) c.new-none.ensures.items in
    let s1 : substitution_at w1.bank c.in_ok-one.one.items ≡ ((codes "P", p) ∷ []) = added_to (substitution_at w1.bank c.in_ok-one.one.items) (substitution_at w0.bank c.new-none.result.items) [] (codes "P") (term_at w0.bank b.test) p c.in_ok-one.ensures.pairs s0 refl in
    let s2 : substitution_at w2.bank c.in_ok-two.two.items ≡ ((codes "P", p) ∷ (codes "X", x) ∷ []) = added_to (substitution_at w2.bank c.in_ok-two.two.items) (substitution_at w1.bank c.in_ok-one.one.items) ((codes "P", p) ∷ []) (codes "X") (term_at w1.bank b.first) x c.in_ok-two.ensures.pairs s1 (same_term_grown h w0 w1 b.first g01 c.requires.before.first) in
    let s3 : substitution_at w3.bank c.in_ok-three.three.items ≡ ((codes "P", p) ∷ (codes "X", x) ∷ (codes "Y", y) ∷ []) = added_to (substitution_at w3.bank c.in_ok-three.three.items) (substitution_at w2.bank c.in_ok-two.two.items) ((codes "P", p) ∷ (codes "X", x) ∷ []) (codes "Y") (term_at w2.bank b.second) y c.in_ok-three.ensures.pairs s2 (same_term_grown h w0 w2 b.second g02 c.requires.before.second) in
    let s4 : substitution_at w4.bank c.in_ok-four.four.items ≡ ((codes "P", p) ∷ (codes "X", x) ∷ (codes "Y", y) ∷ (codes "Q", q) ∷ []) = added_to (substitution_at w4.bank c.in_ok-four.four.items) (substitution_at w3.bank c.in_ok-three.three.items) ((codes "P", p) ∷ (codes "X", x) ∷ (codes "Y", y) ∷ []) (codes "Q") (term_at w3.bank a.test) q c.in_ok-four.ensures.pairs s3 (same_term_grown h w0 w3 a.test g03 c.requires.after.test) in
    let s5 : substitution_at w5.bank c.in_ok-five.five.items ≡ ((codes "P", p) ∷ (codes "X", x) ∷ (codes "Y", y) ∷ (codes "Q", q) ∷ (codes "U", u) ∷ []) = added_to (substitution_at w5.bank c.in_ok-five.five.items) (substitution_at w4.bank c.in_ok-four.four.items) ((codes "P", p) ∷ (codes "X", x) ∷ (codes "Y", y) ∷ (codes "Q", q) ∷ []) (codes "U") (term_at w4.bank a.first) u c.in_ok-five.ensures.pairs s4 (same_term_grown h w0 w4 a.first g04 c.requires.after.first) in
    let v5 : term_at w5.bank a.second ≡ v = same_term_grown h w0 w5 a.second g05 c.requires.after.second in
    let whole : Substitution = law_pairs_at w0.bank b a in
    let P : Vec Pair Global → Type 0 = λ ps. substitution_at w6.bank ps.items ≡ substitution_at w5.bank c.in_ok-five.five.items ++ (codes "V", term_at w5.bank a.second) ∷ [] in
    let is : (ps : Vec Pair Global) → P ps → substitution_at w6.bank ps.items ≡ whole = λ (ps : Vec Pair Global) (e : P ps). added_to (substitution_at w6.bank ps.items) (substitution_at w5.bank c.in_ok-five.five.items) ((codes "P", p) ∷ (codes "X", x) ∷ (codes "Y", y) ∷ (codes "Q", q) ∷ (codes "U", u) ∷ []) (codes "V") (term_at w5.bank a.second) v e s5 v5 in
    let g06 : WorkGrows h w0 w6 = (WorkGrows-trans c.args.history.now c.args.work.now c.with_pair.new.work c.with_pair-6.new.work c.with_pair.ensures.grows (WorkGrows-trans c.args.history.now c.with_pair.new.work c.with_pair-2.new.work c.with_pair-6.new.work c.with_pair-2.ensures.grows (WorkGrows-trans c.args.history.now c.with_pair-2.new.work c.with_pair-3.new.work c.with_pair-6.new.work c.with_pair-3.ensures.grows (WorkGrows-trans c.args.history.now c.with_pair-3.new.work c.with_pair-4.new.work c.with_pair-6.new.work c.with_pair-4.ensures.grows (WorkGrows-trans c.args.history.now c.with_pair-4.new.work c.with_pair-5.new.work c.with_pair-6.new.work c.with_pair-5.ensures.grows c.with_pair-6.ensures.grows))))) in
    let still = λ (t : TermId) (k : IsTermIn h w0 t). over_still h w0 w6 t c.requires.stands g06 k in
    both_ok c.with_pair-6.result P (λ ps. All (PairStands w6.bank) ps.items) (λ ps. ArePairsIn h w6 ps.items)
    (λ ps e stand. pairs_in_by h w6 ps.items whole (is ps e) stand refl
    (still b.test c.requires.before.test, (still b.first c.requires.before.first, (still b.second c.requires.before.second, (still a.test c.requires.after.test, (still a.first c.requires.after.first, (still a.second c.requires.after.second, tt))))))
    (p_plain, (x_plain, (y_plain, (q_plain, (u_plain, (v_plain, tt)))))))
    c.with_pair-6.ensures.pairs c.with_pair-6.ensures.stand
