use Rattle.std.proofs.Common.{◌≡◌, ◌∷◌, [], ◌∙◌, ℕ, List, ap, sym, subst}
use Rattle.std.specs.Prelude.{All, is_some}
use Rattle.nq_logic.specs.Terms.{Each, Term}
use Rattle.nq_logic.specs.Words.{not_term}
use Rattle.nq_logic.specs.Ground.{symbols_of}
use Rattle.nq_bank.specs.declared.node.TermId.{TermId}
use Rattle.nq_bank.specs.Content.{Stands, term_at, terms_at}
use Rattle.nq_proof.specs.Clauses.{distinct}
use Rattle.nq_rule.proofs.Made.{for_ok}
use Rattle.nq_history.specs.Events.{events_at}
use Rattle.nq_kernel.specs.declared.rule.Rule.TheVariants.{Taut}
use Rattle.nq_kernel.specs.Meaning.{clause_at, conclusion_at}
use Rattle.nq_kernel.specs.Over.{IsTermOf, IsVariable}
use Rattle.nq_lines.specs.Lines.{LineLeads}
use Rattle.nq_lines.proofs.LineLemmas.{leads_distinct, opposites_given}
use Rattle.nq_lines.proofs.PairLemmas.{over_still}
use Rattle.nq_lines.proofs.TermLemmas.{id_in, not_over, same_term_grown, term_grown}
use Rattle.nq_replay.proofs.UncountedLemmas.{all_shallow, grown_trans}
use Rattle.nq_part_lines.proofs.MovedLemmas.{denied_now, denied_room, opposites_low, two_all}
use Rattle.nq_part_lines.proofs.ReadingLemmas.{small_grown}
use Rattle.nq_part_lines.proofs.replacing.opposites.Goals as goal

pub ground_call-requires-clause-shallow : goal.ground_call-requires-clause-shallow
ground_call-requires-clause-shallow c = denied_room (term_at c.args.work.now.bank c.args.t) c.requires.term.room

pub add_line-requires-clause-rule : goal.add_line-requires-clause-rule
add_line-requires-clause-rule c =
    let h = c.args.history.now in
    let old = c.args.work.now in
    let mid = c.ground_call.new.work in
    let t : TermId = c.args.t in
    let denied : TermId = c.in_ok-denied.denied in
    let there = term_grown h old mid t c.requires.stands c.ground_call.ensures.grows.grows c.requires.term.inside in
    subst (All (Stands mid.bank)) (sym c.in_ok-terms.ensures.items) (two_all (Stands mid.bank) t denied there.stands c.in_ok-denied.ensures.call.stands)

pub add_line-requires-clause-over : goal.add_line-requires-clause-over
add_line-requires-clause-over c =
    let h = c.args.history.now in
    let old = c.args.work.now in
    let mid = c.ground_call.new.work in
    let t : TermId = c.args.t in
    let denied : TermId = c.in_ok-denied.denied in
    let P : Term → Type 0 = IsTermOf IsVariable (symbols_of (events_at mid.bank h)) in
    let grows = c.ground_call.ensures.grows.grows in
    let there = term_grown h old mid t c.requires.stands grows c.requires.term.inside in
    let made = id_in h mid denied (not_term (term_at old.bank t)) c.in_ok-denied.ensures.call (not_over h mid (term_at old.bank t) (over_still h old mid t c.requires.stands grows c.requires.term.inside)) in
    record { terms = subst (λ (ids : List TermId). Each P (terms_at mid.bank ids)) (sym c.in_ok-terms.ensures.items) (there.over, (made.over, tt)); names = tt }

pub add_line-requires-clause-allowed : goal.add_line-requires-clause-allowed
add_line-requires-clause-allowed c =
    let mid = c.ground_call.new.work in
    ap is_some (opposites_given c.args.history.now mid c.in_ok-terms.terms c.args.t c.in_ok-denied.denied c.in_ok-terms.ensures.items (denied_now c.args.history.now c.args.work.now mid c.args.t c.in_ok-denied.denied c.ground_call.ensures.grows.grows c.requires.term.inside c.in_ok-denied.ensures.call))

pub add_line-requires-clause-shallow : goal.add_line-requires-clause-shallow
add_line-requires-clause-shallow c =
    let h = c.args.history.now in
    let old = c.args.work.now in
    let mid = c.ground_call.new.work in
    let u = term_at mid.bank c.args.t in
    let grows = c.ground_call.ensures.grows.grows in
    let room = (small_grown h old mid c.args.t c.requires.stands grows c.requires.term).room in
    all_shallow (conclusion_at mid.bank h mid.log (Taut c.in_ok-terms.terms)) (distinct (u ∷ not_term u ∷ []))
    (opposites_given h mid c.in_ok-terms.terms c.args.t c.in_ok-denied.denied c.in_ok-terms.ensures.items (denied_now h old mid c.args.t c.in_ok-denied.denied grows c.requires.term.inside c.in_ok-denied.ensures.call))
    (opposites_low u room)

pub returns-clause-line : goal.returns-clause-line
returns-clause-line c =
    let h = c.args.history.now in
    let old = c.args.work.now in
    let mid = c.ground_call.new.work in
    let new = c.add_line.new.work in
    let u = term_at mid.bank c.args.t in
    let grows = c.ground_call.ensures.grows.grows in
    let P : ℕ → Type 0 = λ n. clause_at new.bank new.log n ≡ conclusion_at mid.bank h mid.log (Taut c.in_ok-terms.terms) in
    let given = opposites_given h mid c.in_ok-terms.terms c.args.t c.in_ok-denied.denied c.in_ok-terms.ensures.items (denied_now h old mid c.args.t c.in_ok-denied.denied grows c.requires.term.inside c.in_ok-denied.ensures.call) in
    for_ok c.add_line.result P (λ n. LineLeads new n (term_at old.bank c.args.t) (not_term (term_at old.bank c.args.t) ∷ [])) (λ n e.
    subst (λ v. LineLeads new n v (not_term v ∷ [])) (same_term_grown h old mid c.args.t grows c.requires.term.inside) (leads_distinct new n u (not_term u ∷ []) (not_term u ∷ []) (e ∙ given) (λ t m. m))) c.add_line.ensures.line

pub returns-clause-grows : goal.returns-clause-grows
returns-clause-grows c = grown_trans c.args.history.now c.args.work.now c.ground_call.new.work c.add_line.new.work c.ground_call.ensures.grows c.add_line.ensures.grows
