use Rattle.std.proofs.Common.{◌≤◌, ap₂, sym, subst}
use Rattle.nq_logic.specs.Words.{add1_term, call2}
use Rattle.nq_logic.specs.Sizes.{depth_of}
use Rattle.nq_bank.specs.Content.{IsIdOf, term_at}
use Rattle.nq_rule.proofs.Made.{for_ok}
use Rattle.nq_lines.specs.Lines.{IsTermIn}
use Rattle.nq_lines.proofs.TermLemmas.{id_in, same_term_grown}
use Rattle.nq_lines.proofs.PairLemmas.{over_still}
use Rattle.nq_replay.proofs.UncountedLemmas.{grown_trans}
use Rattle.nq_part_lines.specs.LawLines.{term_room}
use Rattle.nq_part_lines.proofs.SumLemmas.{less_over, less_shallow, more_shallow}
use Rattle.nq_part_lines.proofs.terms.less_than_more.Goals as goal

pub ground_call-requires-clause-shallow : goal.ground_call-requires-clause-shallow
ground_call-requires-clause-shallow c = more_shallow (term_at c.args.work.now.bank c.args.u) c.requires.right_room

pub ground_call-requires-2-clause-shallow : goal.ground_call-requires-2-clause-shallow
ground_call-requires-2-clause-shallow c =
    let old = c.args.work.now in
    let mid = c.ground_call.new.work in
    let same = same_term_grown c.args.history.now old mid c.args.t c.ground_call.ensures.grows.grows c.requires.left in
    less_shallow (term_at mid.bank c.args.t) (term_at old.bank c.args.u) (term_at mid.bank c.in_ok-more.more) (subst (λ v. depth_of v ≤ term_room) (sym same) c.requires.left_room) c.requires.right_room c.in_ok-more.ensures.call.denotes

pub returns-clause-less : goal.returns-clause-less
returns-clause-less c =
    let old = c.args.work.now in
    let mid = c.ground_call.new.work in
    let new = c.ground_call-2.new.work in
    let same = same_term_grown c.args.history.now old mid c.args.t c.ground_call.ensures.grows.grows c.requires.left in
    for_ok c.ground_call-2.result (λ s. IsIdOf new.bank s (call2 "LESSP" (term_at mid.bank c.args.t) (term_at mid.bank c.in_ok-more.more))) (λ s. IsIdOf new.bank s (call2 "LESSP" (term_at old.bank c.args.t) (add1_term (term_at old.bank c.args.u)))) (λ s h. subst (IsIdOf new.bank s) (ap₂ (call2 "LESSP") same c.in_ok-more.ensures.call.denotes) h) c.ground_call-2.ensures.call

pub returns-clause-over : goal.returns-clause-over
returns-clause-over c =
    let h = c.args.history.now in
    let old = c.args.work.now in
    let mid = c.ground_call.new.work in
    let new = c.ground_call-2.new.work in
    let grown = grown_trans h old mid new c.ground_call.ensures.grows c.ground_call-2.ensures.grows in
    let t = term_at old.bank c.args.t in
    let u = term_at old.bank c.args.u in
    let over = less_over h new t u (over_still h old new c.args.t c.requires.stands grown.grows c.requires.left) (over_still h old new c.args.u c.requires.stands grown.grows c.requires.right) in
    let same = same_term_grown h old mid c.args.t c.ground_call.ensures.grows.grows c.requires.left in
    for_ok c.ground_call-2.result (λ s. IsIdOf new.bank s (call2 "LESSP" (term_at mid.bank c.args.t) (term_at mid.bank c.in_ok-more.more))) (λ s. IsTermIn h new s) (λ s is. id_in h new s (call2 "LESSP" t (add1_term u)) (subst (IsIdOf new.bank s) (ap₂ (call2 "LESSP") same c.in_ok-more.ensures.call.denotes) is) over) c.ground_call-2.ensures.call

pub returns-clause-grows : goal.returns-clause-grows
returns-clause-grows c = grown_trans c.args.history.now c.args.work.now c.ground_call.new.work c.ground_call-2.new.work c.ground_call.ensures.grows c.ground_call-2.ensures.grows
