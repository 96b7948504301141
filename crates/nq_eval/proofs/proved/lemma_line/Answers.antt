use Rattle.std.proofs.Common.{List, ◌∙◌, ◌∷◌, [], sym, ap}
use Rattle.nq_history.specs.declared.entry.Entry.{Entry}
use Rattle.nq_kernel.specs.declared.work.Work.{Work}
use Rattle.nq_kernel.specs.Growing.{WorkStands}
use Rattle.nq_eval.specs.Lines.{GrowsUncounted, IsUsable}
use Rattle.nq_eval.proofs.LineLemmas.{grown_trans, held_after, equates_grown}
use Rattle.nq_logic.specs.Words.{not_term, equal_term}
use Rattle.nq_bank.specs.declared.node.TermId.{TermId}
use Rattle.nq_bank.specs.Content.{IsIdOf, term_at}
use Rattle.nq_eval.proofs.ClosingLemmas.{usable_after, same_after}
use Rattle.nq_eval.proofs.proved.lemma_line.Goals as goal

pub add_backwards-requires-clause-term : goal.add_backwards-requires-clause-term
add_backwards-requires-clause-term c =
    let h : List Entry = c.args.history.now in
    let w0 : Work = c.args.work.now in
    let s0 : WorkStands h w0 = c.requires.stands in
    let w1 : Work = c.add_truth.new.work in
    let d1 : GrowsUncounted h w0 w1 = c.add_truth.ensures.grows in
    let g1 : GrowsUncounted h w0 w1 = d1 in
    let t : TermId = c.args.t in
    let u1 : IsUsable w1.bank h t = usable_after h w0 w1 s0 g1 t c.requires.term in
    u1

pub add_backwards-requires-clause-value : goal.add_backwards-requires-clause-value
add_backwards-requires-clause-value c =
    let h : List Entry = c.args.history.now in
    let w0 : Work = c.args.work.now in
    let s0 : WorkStands h w0 = c.requires.stands in
    let w1 : Work = c.add_truth.new.work in
    let d1 : GrowsUncounted h w0 w1 = c.add_truth.ensures.grows in
    let g1 : GrowsUncounted h w0 w1 = d1 in
    let v : TermId = c.args.v in
    let v0 : IsUsable w0.bank h v = c.requires.truth.usable in
    let v1 : IsUsable w1.bank h v = usable_after h w0 w1 s0 g1 v v0 in
    v1

pub equation-requires-clause-left : goal.equation-requires-clause-left
equation-requires-clause-left c =
    let h : List Entry = c.args.history.now in
    let w0 : Work = c.args.work.now in
    let s0 : WorkStands h w0 = c.requires.stands in
    let w1 : Work = c.add_truth.new.work in
    let d1 : GrowsUncounted h w0 w1 = c.add_truth.ensures.grows in
    let g1 : GrowsUncounted h w0 w1 = d1 in
    let s1 : WorkStands h w1 = d1.grows.stands in
    let w2 : Work = c.add_backwards.new.work in
    let d2 : GrowsUncounted h w1 w2 = c.add_backwards.ensures.grows in
    let t : TermId = c.args.t in
    let u1 : IsUsable w1.bank h t = usable_after h w0 w1 s0 g1 t c.requires.term in
    let u2 : IsUsable w2.bank h t = usable_after h w1 w2 s1 d2 t u1 in
    u2

pub equation-requires-clause-right : goal.equation-requires-clause-right
equation-requires-clause-right c =
    let h : List Entry = c.args.history.now in
    let w0 : Work = c.args.work.now in
    let s0 : WorkStands h w0 = c.requires.stands in
    let w1 : Work = c.add_truth.new.work in
    let d1 : GrowsUncounted h w0 w1 = c.add_truth.ensures.grows in
    let g1 : GrowsUncounted h w0 w1 = d1 in
    let s1 : WorkStands h w1 = d1.grows.stands in
    let w2 : Work = c.add_backwards.new.work in
    let d2 : GrowsUncounted h w1 w2 = c.add_backwards.ensures.grows in
    let v : TermId = c.args.v in
    let v0 : IsUsable w0.bank h v = c.requires.truth.usable in
    let v1 : IsUsable w1.bank h v = usable_after h w0 w1 s0 g1 v v0 in
    let v2 : IsUsable w2.bank h v = usable_after h w1 w2 s1 d2 v v1 in
    v2

pub cut_equation-requires-clause-term : goal.cut_equation-requires-clause-term
cut_equation-requires-clause-term c =
    let h : List Entry = c.args.history.now in
    let w0 : Work = c.args.work.now in
    let s0 : WorkStands h w0 = c.requires.stands in
    let w1 : Work = c.add_truth.new.work in
    let d1 : GrowsUncounted h w0 w1 = c.add_truth.ensures.grows in
    let g1 : GrowsUncounted h w0 w1 = d1 in
    let s1 : WorkStands h w1 = d1.grows.stands in
    let w2 : Work = c.add_backwards.new.work in
    let d2 : GrowsUncounted h w1 w2 = c.add_backwards.ensures.grows in
    let s2 : WorkStands h w2 = d2.grows.stands in
    let w3 : Work = c.equation.new.work in
    let d3 : GrowsUncounted h w2 w3 = c.equation.ensures.grows in
    let t : TermId = c.args.t in
    let u1 : IsUsable w1.bank h t = usable_after h w0 w1 s0 g1 t c.requires.term in
    let u2 : IsUsable w2.bank h t = usable_after h w1 w2 s1 d2 t u1 in
    let u3 : IsUsable w3.bank h t = usable_after h w2 w3 s2 d3 t u2 in
    u3

pub cut_equation-requires-clause-value : goal.cut_equation-requires-clause-value
cut_equation-requires-clause-value c =
    let h : List Entry = c.args.history.now in
    let w0 : Work = c.args.work.now in
    let s0 : WorkStands h w0 = c.requires.stands in
    let w1 : Work = c.add_truth.new.work in
    let d1 : GrowsUncounted h w0 w1 = c.add_truth.ensures.grows in
    let g1 : GrowsUncounted h w0 w1 = d1 in
    let s1 : WorkStands h w1 = d1.grows.stands in
    let w2 : Work = c.add_backwards.new.work in
    let d2 : GrowsUncounted h w1 w2 = c.add_backwards.ensures.grows in
    let s2 : WorkStands h w2 = d2.grows.stands in
    let w3 : Work = c.equation.new.work in
    let d3 : GrowsUncounted h w2 w3 = c.equation.ensures.grows in
    let v : TermId = c.args.v in
    let v0 : IsUsable w0.bank h v = c.requires.truth.usable in
    let v1 : IsUsable w1.bank h v = usable_after h w0 w1 s0 g1 v v0 in
    let v2 : IsUsable w2.bank h v = usable_after h w1 w2 s1 d2 v v1 in
    let v3 : IsUsable w3.bank h v = usable_after h w2 w3 s2 d3 v v2 in
    v3

pub cut_equation-requires-clause-equation : goal.cut_equation-requires-clause-equation
cut_equation-requires-clause-equation c =
    let h : List Entry = c.args.history.now in
    let w0 : Work = c.args.work.now in
    let s0 : WorkStands h w0 = c.requires.stands in
    let w1 : Work = c.add_truth.new.work in
    let d1 : GrowsUncounted h w0 w1 = c.add_truth.ensures.grows in
    let g1 : GrowsUncounted h w0 w1 = d1 in
    let s1 : WorkStands h w1 = d1.grows.stands in
    let w2 : Work = c.add_backwards.new.work in
    let d2 : GrowsUncounted h w1 w2 = c.add_backwards.ensures.grows in
    let s2 : WorkStands h w2 = d2.grows.stands in
    let w3 : Work = c.equation.new.work in
    let d3 : GrowsUncounted h w2 w3 = c.equation.ensures.grows in
    let t : TermId = c.args.t in
    let v : TermId = c.args.v in
    let v0 : IsUsable w0.bank h v = c.requires.truth.usable in
    let u1 : IsUsable w1.bank h t = usable_after h w0 w1 s0 g1 t c.requires.term in
    let v1 : IsUsable w1.bank h v = usable_after h w0 w1 s0 g1 v v0 in
    let u2 : IsUsable w2.bank h t = usable_after h w1 w2 s1 d2 t u1 in
    let v2 : IsUsable w2.bank h v = usable_after h w1 w2 s1 d2 v v1 in
    let id3 : IsIdOf w3.bank c.in_ok-e.e (equal_term (term_at w3.bank t) (term_at w3.bank v)) = record { stands = c.in_ok-e.ensures.equation.stands; denotes = c.in_ok-e.ensures.equation.denotes ∙ ap (λ a. equal_term a (term_at w2.bank v)) (sym (same_after h w2 w3 s2 d3 t u2)) ∙ ap (equal_term (term_at w3.bank t)) (sym (same_after h w2 w3 s2 d3 v v2)) } in
    id3

pub cut_equation-requires-clause-first : goal.cut_equation-requires-clause-first
cut_equation-requires-clause-first c =
    let h : List Entry = c.args.history.now in
    let w0 : Work = c.args.work.now in
    let s0 : WorkStands h w0 = c.requires.stands in
    let w1 : Work = c.add_truth.new.work in
    let d1 : GrowsUncounted h w0 w1 = c.add_truth.ensures.grows in
    let g1 : GrowsUncounted h w0 w1 = d1 in
    let w2 : Work = c.add_backwards.new.work in
    let d2 : GrowsUncounted h w1 w2 = c.add_backwards.ensures.grows in
    let g2 : GrowsUncounted h w0 w2 = grown_trans h w0 w1 w2 g1 d2 in
    let w3 : Work = c.equation.new.work in
    let d3 : GrowsUncounted h w2 w3 = c.equation.ensures.grows in
    let g3 : GrowsUncounted h w0 w3 = grown_trans h w0 w2 w3 g2 d3 in
    let t : TermId = c.args.t in
    let v : TermId = c.args.v in
    let v0 : IsUsable w0.bank h v = c.requires.truth.usable in
    equates_grown h w0 w3 c.args.line t v s0 g3.grows c.requires.term v0 c.requires.line

pub cut_equation-requires-clause-second : goal.cut_equation-requires-clause-second
cut_equation-requires-clause-second c =
    let h : List Entry = c.args.history.now in
    let w0 : Work = c.args.work.now in
    let s0 : WorkStands h w0 = c.requires.stands in
    let w1 : Work = c.add_truth.new.work in
    let d1 : GrowsUncounted h w0 w1 = c.add_truth.ensures.grows in
    let g1 : GrowsUncounted h w0 w1 = d1 in
    let s1 : WorkStands h w1 = d1.grows.stands in
    let w2 : Work = c.add_backwards.new.work in
    let d2 : GrowsUncounted h w1 w2 = c.add_backwards.ensures.grows in
    let s2 : WorkStands h w2 = d2.grows.stands in
    let w3 : Work = c.equation.new.work in
    let d3 : GrowsUncounted h w2 w3 = c.equation.ensures.grows in
    let t : TermId = c.args.t in
    let v : TermId = c.args.v in
    let v0 : IsUsable w0.bank h v = c.requires.truth.usable in
    let u1 : IsUsable w1.bank h t = usable_after h w0 w1 s0 g1 t c.requires.term in
    let v1 : IsUsable w1.bank h v = usable_after h w0 w1 s0 g1 v v0 in
    let u2 : IsUsable w2.bank h t = usable_after h w1 w2 s1 d2 t u1 in
    let v2 : IsUsable w2.bank h v = usable_after h w1 w2 s1 d2 v v1 in
    held_after h w2 w3 c.in_ok-second.second t v (λ a b. a ∷ not_term (equal_term a b) ∷ []) s2 d3 u2.stands v2.stands c.in_ok-second.ensures.line

pub returns-in_err-second-clause-grows : goal.returns-in_err-second-clause-grows
returns-in_err-second-clause-grows c =
    let h : List Entry = c.args.history.now in
    let w0 : Work = c.args.work.now in
    let w1 : Work = c.add_truth.new.work in
    let d1 : GrowsUncounted h w0 w1 = c.add_truth.ensures.grows in
    let g1 : GrowsUncounted h w0 w1 = d1 in
    let w2 : Work = c.add_backwards.new.work in
    let d2 : GrowsUncounted h w1 w2 = c.add_backwards.ensures.grows in
    let g2 : GrowsUncounted h w0 w2 = grown_trans h w0 w1 w2 g1 d2 in
    g2

pub returns-in_err-e-clause-grows : goal.returns-in_err-e-clause-grows
returns-in_err-e-clause-grows c =
    let h : List Entry = c.args.history.now in
    let w0 : Work = c.args.work.now in
    let w1 : Work = c.add_truth.new.work in
    let d1 : GrowsUncounted h w0 w1 = c.add_truth.ensures.grows in
    let g1 : GrowsUncounted h w0 w1 = d1 in
    let w2 : Work = c.add_backwards.new.work in
    let d2 : GrowsUncounted h w1 w2 = c.add_backwards.ensures.grows in
    let g2 : GrowsUncounted h w0 w2 = grown_trans h w0 w1 w2 g1 d2 in
    let w3 : Work = c.equation.new.work in
    let d3 : GrowsUncounted h w2 w3 = c.equation.ensures.grows in
    let g3 : GrowsUncounted h w0 w3 = grown_trans h w0 w2 w3 g2 d3 in
    g3

pub returns-clause-grows : goal.returns-clause-grows
returns-clause-grows c =
    let h : List Entry = c.args.history.now in
    let w0 : Work = c.args.work.now in
    let w1 : Work = c.add_truth.new.work in
    let d1 : GrowsUncounted h w0 w1 = c.add_truth.ensures.grows in
    let g1 : GrowsUncounted h w0 w1 = d1 in
    let w2 : Work = c.add_backwards.new.work in
    let d2 : GrowsUncounted h w1 w2 = c.add_backwards.ensures.grows in
    let g2 : GrowsUncounted h w0 w2 = grown_trans h w0 w1 w2 g1 d2 in
    let w3 : Work = c.equation.new.work in
    let d3 : GrowsUncounted h w2 w3 = c.equation.ensures.grows in
    let g3 : GrowsUncounted h w0 w3 = grown_trans h w0 w2 w3 g2 d3 in
    let w4 : Work = c.cut_equation.new.work in
    let d4 : GrowsUncounted h w3 w4 = c.cut_equation.ensures.grows in
    let g4 : GrowsUncounted h w0 w4 = grown_trans h w0 w3 w4 g3 d4 in
    g4
