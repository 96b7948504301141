use Rattle.std.proofs.Common.{◌≤◌, sym, subst}
use Rattle.nq_logic.specs.Words.{call2}
use Rattle.nq_logic.specs.Sizes.{depth_of, depth_limit}
use Rattle.nq_bank.specs.Content.{IsIdOf, term_at}
use Rattle.nq_rule.proofs.Made.{for_ok}
use Rattle.nq_arith.specs.Nests.{is_smaller}
use Rattle.nq_lines.specs.Lines.{IsTermIn}
use Rattle.nq_lines.proofs.TermLemmas.{term_grown, id_in}
use Rattle.nq_lines.proofs.PairLemmas.{over_still}
use Rattle.nq_replay.proofs.UncountedLemmas.{grown_trans}
use Rattle.nq_part_lines.proofs.TermLemmas.{smaller_depth, smaller_over, sizes_same}
use Rattle.nq_part_lines.proofs.terms.smaller_term.Goals as goal

pub size_term-requires-2-clause-term : goal.size_term-requires-2-clause-term
size_term-requires-2-clause-term c = term_grown c.args.history.now c.args.work.now c.size_term.new.work c.args.u c.requires.stands c.size_term.ensures.grows.grows c.requires.right

pub returns-in_err-right-clause-grows : goal.returns-in_err-right-clause-grows
returns-in_err-right-clause-grows c = grown_trans c.args.history.now c.args.work.now c.size_term.new.work c.size_term-2.new.work c.size_term.ensures.grows c.size_term-2.ensures.grows

pub ground_call-requires-clause-shallow : goal.ground_call-requires-clause-shallow
ground_call-requires-clause-shallow c =
    let t = term_at c.args.work.now.bank c.args.t in
    let u = term_at c.args.work.now.bank c.args.u in
    let same = sizes_same c.args.history.now c.args.work.now c.size_term.new.work c.size_term-2.new.work c.args.t c.args.u c.in_ok-left.left c.in_ok-right.right c.size_term.ensures.grows.grows c.size_term-2.ensures.grows.grows c.requires.right c.in_ok-left.ensures.size c.in_ok-right.ensures.size in
    subst (λ v. depth_of v ≤ depth_limit) (sym same) (smaller_depth t u c.requires.left_room c.requires.right_room)

pub returns-clause-smaller : goal.returns-clause-smaller
returns-clause-smaller c =
    let t = term_at c.args.work.now.bank c.args.t in
    let u = term_at c.args.work.now.bank c.args.u in
    let new = c.ground_call.new.work in
    let mid = c.size_term-2.new.work in
    let same = sizes_same c.args.history.now c.args.work.now c.size_term.new.work mid c.args.t c.args.u c.in_ok-left.left c.in_ok-right.right c.size_term.ensures.grows.grows c.size_term-2.ensures.grows.grows c.requires.right c.in_ok-left.ensures.size c.in_ok-right.ensures.size in
    for_ok c.ground_call.result (λ s. IsIdOf new.bank s (call2 "LESSP" (term_at mid.bank c.in_ok-left.left) (term_at mid.bank c.in_ok-right.right))) (λ s. IsIdOf new.bank s (is_smaller t u)) (λ s h. subst (IsIdOf new.bank s) same h) c.ground_call.ensures.call

pub returns-clause-over : goal.returns-clause-over
returns-clause-over c =
    let old = c.args.work.now in
    let t = term_at old.bank c.args.t in
    let u = term_at old.bank c.args.u in
    let new = c.ground_call.new.work in
    let mid = c.size_term-2.new.work in
    let grown = grown_trans c.args.history.now old c.size_term.new.work new c.size_term.ensures.grows (grown_trans c.args.history.now c.size_term.new.work mid new c.size_term-2.ensures.grows c.ground_call.ensures.grows) in
    let over = smaller_over c.args.history.now new t u (over_still c.args.history.now old new c.args.t c.requires.stands grown.grows c.requires.left) (over_still c.args.history.now old new c.args.u c.requires.stands grown.grows c.requires.right) in
    let same = sizes_same c.args.history.now old c.size_term.new.work mid c.args.t c.args.u c.in_ok-left.left c.in_ok-right.right c.size_term.ensures.grows.grows c.size_term-2.ensures.grows.grows c.requires.right c.in_ok-left.ensures.size c.in_ok-right.ensures.size in
    for_ok c.ground_call.result (λ s. IsIdOf new.bank s (call2 "LESSP" (term_at mid.bank c.in_ok-left.left) (term_at mid.bank c.in_ok-right.right))) (λ s. IsTermIn c.args.history.now new s) (λ s h. id_in c.args.history.now new s (is_smaller t u) (subst (IsIdOf new.bank s) same h) over) c.ground_call.ensures.call

pub returns-clause-grows : goal.returns-clause-grows
returns-clause-grows c = grown_trans c.args.history.now c.args.work.now c.size_term.new.work c.ground_call.new.work c.size_term.ensures.grows (grown_trans c.args.history.now c.size_term.new.work c.size_term-2.new.work c.ground_call.new.work c.size_term-2.ensures.grows c.ground_call.ensures.grows)
