use Rattle.std.proofs.Common.{◌≤◌, sym, subst, arith}
use Rattle.nq_logic.specs.Terms.{Variable}
use Rattle.nq_logic.specs.Shells.{whole}
use Rattle.nq_logic.specs.Sizes.{depth_of}
use Rattle.nq_bank.specs.Content.{IsIdOf, text_at}
use Rattle.nq_rule.proofs.Made.{for_ok}
use Rattle.nq_kernel.specs.Over.{IsVariable}
use Rattle.nq_lines.specs.Lines.{IsTermIn}
use Rattle.nq_lines.proofs.PairLemmas.{x_plain}
use Rattle.nq_lines.proofs.TermLemmas.{both_ok}
use Rattle.nq_replay.proofs.UncountedLemmas.{grown_trans}
use Rattle.nq_part_lines.specs.LawLines.{term_room}
use Rattle.nq_part_lines.specs.Small.{IsSmallIn}
use Rattle.nq_part_lines.proofs.RoomLemmas.{variable_low}
use Rattle.nq_part_lines.proofs.wholes.whole.Goals as goal

pub variable-requires-clause-variable : goal.variable-requires-clause-variable
variable-requires-clause-variable c = subst IsVariable (sym c.in_ok-x.ensures.name.reads) x_plain

pub returns-clause-whole : goal.returns-clause-whole
returns-clause-whole c =
    let mid = c.symbol.new.work in
    let new = c.variable.new.work in
    for_ok c.variable.result (λ t. IsIdOf new.bank t (Variable (text_at mid.bank c.in_ok-x.x))) (λ t. IsIdOf new.bank t whole) (λ t h. subst (λ n. IsIdOf new.bank t (Variable n)) c.in_ok-x.ensures.name.reads h) c.variable.ensures.variable

pub returns-clause-small : goal.returns-clause-small
returns-clause-small c =
    let mid = c.symbol.new.work in
    let new = c.variable.new.work in
    let x = text_at mid.bank c.in_ok-x.x in
    both_ok c.variable.result (λ t. IsIdOf new.bank t (Variable x)) (IsTermIn c.args.history.now new) (IsSmallIn c.args.history.now new) (λ t is inside.
    let low : depth_of (Variable x) ≤ 1 = variable_low x in
    let few : depth_of (Variable x) ≤ term_room = omega (arith, low) in
    record { inside = inside; room = subst (λ u. depth_of u ≤ term_room) (sym is.denotes) few }) c.variable.ensures.variable c.variable.ensures.over

pub returns-clause-grows : goal.returns-clause-grows
returns-clause-grows c = grown_trans c.args.history.now c.args.work.now c.symbol.new.work c.variable.new.work c.symbol.ensures.grows c.variable.ensures.grows
