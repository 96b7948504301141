use Rattle.std.proofs.Common.{subst}
use Rattle.nq_bank.specs.Content.{IsIdOf, term_at}
use Rattle.nq_logic.specs.Ground.{symbols_of}
use Rattle.nq_history.specs.Events.{events_at}
use Rattle.nq_rule.proofs.Made.{for_ok}
use Rattle.nq_rule.specs.Results.{with_argument}
use Rattle.nq_kernel.proofs.GrowingLemmas.{WorkGrows-trans}
use Rattle.nq_lines.proofs.TermLemmas.{term_grown}
use Rattle.nq_lines.proofs.ArgumentLemmas.{argument_over}
use Rattle.nq_moves.specs.Swapped.{reading_at, crossed}
use Rattle.nq_moves.proofs.SwappedLemmas.{place_grown, crossed_is}
use Rattle.nq_moves.proofs.swapping.cross.Goals as goal

pub swap_in_term-requires-clause-term : goal.swap_in_term-requires-clause-term
swap_in_term-requires-clause-term c =
    let w = c.args.work.now in
    record { stands = c.argument_at-part.ensures.stands; over = argument_over (symbols_of (events_at w.bank c.args.history.now)) (term_at w.bank c.args.x.whole) c.args.x.place (term_at w.bank c.argument_at-part.result) c.requires.whole.over c.argument_at-part.ensures.argument }

pub changed_call-requires-clause-call : goal.changed_call-requires-clause-call
changed_call-requires-clause-call c = term_grown c.args.history.now c.args.work.now c.swap_in_term.new.work c.args.x.whole c.requires.stands c.swap_in_term.ensures.grows c.requires.whole

pub changed_call-requires-clause-place : goal.changed_call-requires-clause-place
changed_call-requires-clause-place c = place_grown c.args.history.now c.args.work.now c.swap_in_term.new.work c.swap_in_term.ensures.grows c.args.r c.args.x.whole c.argument_at-part.result c.in_ok-made.made c.args.x.place c.requires.whole c.requires.place

pub returns-clause-term : goal.returns-clause-term
returns-clause-term c =
    let old = c.args.work.now in
    let mid = c.swap_in_term.new.work in
    let new = c.changed_call.new.work in
    let is = crossed_is c.args.history.now old mid c.swap_in_term.ensures.grows c.args.r c.args.x.whole c.argument_at-part.result c.in_ok-made.made c.args.x.place c.requires.whole c.argument_at-part.ensures.argument c.in_ok-made.ensures.term in
    for_ok c.changed_call.result (λ u. IsIdOf new.bank u (with_argument c.args.x.place (term_at mid.bank c.in_ok-made.made) (term_at mid.bank c.args.x.whole))) (λ u. IsIdOf new.bank u (crossed (reading_at old.bank c.args.r) c.args.x.place (term_at old.bank c.args.x.whole)))
    (λ u id. subst (IsIdOf new.bank u) is id) c.changed_call.ensures.call

pub returns-clause-grows : goal.returns-clause-grows
returns-clause-grows c = WorkGrows-trans c.args.history.now c.args.work.now c.swap_in_term.new.work c.changed_call.new.work c.swap_in_term.ensures.grows c.changed_call.ensures.grows
