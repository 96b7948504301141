use Rattle.std.proofs.Common.{◌<◌, ◌∷◌, [], ◌∙◌, Some, ap, sym, subst}
use Rattle.nq_logic.specs.Terms.{Term}
use Rattle.nq_logic.specs.Words.{not_term, equal_term}
use Rattle.nq_logic.specs.Sizes.{depth_of, depth_limit}
use Rattle.nq_bank.specs.Content.{term_at}
use Rattle.nq_bank.proofs.Standing.{id_grown}
use Rattle.nq_proof.specs.Clauses.{Clause, distinct}
use Rattle.nq_rule.proofs.Made.{for_ok}
use Rattle.nq_kernel.specs.declared.work.Work.{Work}
use Rattle.nq_kernel.specs.Growing.{LineHolds}
use Rattle.nq_kernel.proofs.GrowingLemmas.{WorkGrows-trans}
use Rattle.nq_kernel.proofs.HeldLines.{holds_stands}
use Rattle.nq_quick.specs.Lines.{LineHasOnly, signed, denial, definition_of}
use Rattle.nq_quick.specs.Patterns.{pattern_term, IsOpening}
use Rattle.nq_quick.proofs.LineLemmas.{CutsTo, grown_trans, only_stands, one_only}
use Rattle.nq_quick.proofs.GrownLemmas.{opening_grown}
use Rattle.nq_quick.proofs.PatternLemmas.{pattern_depth, opening_is}
use Rattle.nq_quick.proofs.InLemmas.{pattern_in, equation_in}
use Rattle.nq_quick.proofs.patterns.add_folding.Goals as goal

pub add_either-requires-clause-room : goal.add_either-requires-clause-room
add_either-requires-clause-room c = subst (λ (t : Term). depth_of t < depth_limit) (sym c.requires.whole.denotes) (pattern_depth c.args.connective)

pub add_replaced-requires-clause-either : goal.add_replaced-requires-clause-either
add_replaced-requires-clause-either c = subst (λ (t : Term). LineHolds c.add_either.new.work c.in_ok-either.either (distinct (t ∷ not_term t ∷ []))) c.requires.whole.denotes c.in_ok-either.ensures.line

pub add_replaced-requires-clause-body : goal.add_replaced-requires-clause-body
add_replaced-requires-clause-body c = id_grown c.args.work.now.bank c.add_either.new.work.bank c.args.opened.body _ c.add_either.ensures.grows.grows.bank c.requires.opened.body

pub add_cut-requires-clause-first : goal.add_cut-requires-clause-first
add_cut-requires-clause-first c =
    let grown = WorkGrows-trans c.args.history.now c.args.work.now c.add_either.new.work c.add_replaced.new.work c.add_either.ensures.grows.grows c.add_replaced.ensures.grows.grows in
    let opened = opening_grown c.args.history.now c.args.work.now c.add_replaced.new.work c.args.connective c.args.opened c.requires.stands grown c.requires.opened in
    holds_stands c.add_replaced.new.work c.args.opened.line _ opened.line

pub add_cut-requires-clause-second : goal.add_cut-requires-clause-second
add_cut-requires-clause-second c = only_stands c.add_replaced.new.work c.in_ok-replaced.replaced _ c.in_ok-replaced.ensures.line

pub add_cut-requires-clause-term : goal.add_cut-requires-clause-term
add_cut-requires-clause-term c =
    let grown = WorkGrows-trans c.args.history.now c.args.work.now c.add_either.new.work c.add_replaced.new.work c.add_either.ensures.grows.grows c.add_replaced.ensures.grows.grows in
    (opening_grown c.args.history.now c.args.work.now c.add_replaced.new.work c.args.connective c.args.opened c.requires.stands grown c.requires.opened).equation.stands

pub returns-clause-line : goal.returns-clause-line
returns-clause-line c =
    let two : Work = c.add_replaced.new.work in
    let new : Work = c.add_cut.new.work in
    let grown = WorkGrows-trans c.args.history.now c.args.work.now c.add_either.new.work two c.add_either.ensures.grows.grows c.add_replaced.ensures.grows.grows in
    let opened : IsOpening two c.args.connective c.args.opened = opening_grown c.args.history.now c.args.work.now two c.args.connective c.args.opened c.requires.stands grown c.requires.opened in
    let e : Term = equal_term (pattern_term c.args.connective) (definition_of c.args.connective).body in
    let t : Term = term_at two.bank c.args.opened.equation in
    let these : Clause = denial c.args.value (definition_of c.args.connective).body ∷ signed c.args.value (pattern_term c.args.connective) ∷ [] in
    let first : LineHasOnly two c.args.opened.line (e ∷ these) = one_only two c.args.opened.line e these (opened.line ∙ ap Some (opening_is c.args.connective)) in
    for_ok c.add_cut.result (CutsTo two new t c.args.opened.line c.in_ok-replaced.replaced) (λ n. LineHasOnly new n these) (λ n cuts.
    cuts these (subst (λ u. LineHasOnly two c.args.opened.line (u ∷ these)) (sym opened.equation.denotes) first) (subst (λ u. LineHasOnly two c.in_ok-replaced.replaced (not_term u ∷ these)) (sym opened.equation.denotes) c.in_ok-replaced.ensures.line)) c.add_cut.ensures.line

pub returns-clause-grows : goal.returns-clause-grows
returns-clause-grows c =
    grown_trans c.args.history.now c.args.work.now c.add_either.new.work c.add_cut.new.work c.add_either.ensures.grows (grown_trans c.args.history.now c.add_either.new.work c.add_replaced.new.work c.add_cut.new.work c.add_replaced.ensures.grows c.add_cut.ensures.grows)

pub returns-in_err-replaced-clause-grows : goal.returns-in_err-replaced-clause-grows
returns-in_err-replaced-clause-grows c = grown_trans c.args.history.now c.args.work.now c.add_either.new.work c.add_replaced.new.work c.add_either.ensures.grows c.add_replaced.ensures.grows

pub add_either-requires-clause-over : goal.add_either-requires-clause-over
add_either-requires-clause-over c = pattern_in c.args.work.now.bank c.args.history.now c.args.connective c.args.whole c.requires.whole

pub add_cut-requires-clause-over : goal.add_cut-requires-clause-over
add_cut-requires-clause-over c =
    let grown = WorkGrows-trans c.args.history.now c.args.work.now c.add_either.new.work c.add_replaced.new.work c.add_either.ensures.grows.grows c.add_replaced.ensures.grows.grows in
    equation_in c.add_replaced.new.work.bank c.args.history.now c.args.connective c.args.opened.equation (opening_grown c.args.history.now c.args.work.now c.add_replaced.new.work c.args.connective c.args.opened c.requires.stands grown c.requires.opened).equation
