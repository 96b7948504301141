use Rattle.std.proofs.Common.{◌≤◌, ◌∷◌, [], arith, subst}
use Rattle.nq_logic.specs.Terms.{call}
use Rattle.nq_logic.specs.Sizes.{depth_of}
use Rattle.nq_bank.specs.Content.{term_at}
use Rattle.nq_bank.specs.Soundness.{ground_text}
use Rattle.nq_rule.proofs.Made.{for_ok}
use Rattle.nq_lines.specs.Lines.{CutsTo}
use Rattle.nq_lines.proofs.LineLemmas.{line_grown}
use Rattle.nq_lines.proofs.TermLemmas.{id_in}
use Rattle.nq_replay.proofs.UncountedLemmas.{grown_trans}
use Rattle.nq_part_lines.specs.LawLines.{term_room}
use Rattle.nq_part_lines.proofs.CallLemmas.{call_depth, call_over, cut_since}
use Rattle.nq_part_lines.proofs.cutting.cut_by.Goals as goal

pub ground_call-requires-clause-shallow : goal.ground_call-requires-clause-shallow
ground_call-requires-clause-shallow c =
    let b = c.args.work.now.bank in
    let deep = call_depth (ground_text c.args.f) (term_at b c.args.t) (term_at b c.args.u) in
    let left : depth_of (term_at b c.args.t) ≤ term_room = c.requires.left.room in
    let right : depth_of (term_at b c.args.u) ≤ term_room = c.requires.right.room in
    omega (arith, deep, left, right)

pub cut-requires-clause-first : goal.cut-requires-clause-first
cut-requires-clause-first c = line_grown c.args.history.now c.args.work.now c.ground_call.new.work c.args.a c.requires.stands c.ground_call.ensures.grows.grows c.requires.first

pub cut-requires-clause-second : goal.cut-requires-clause-second
cut-requires-clause-second c = line_grown c.args.history.now c.args.work.now c.ground_call.new.work c.args.b c.requires.stands c.ground_call.ensures.grows.grows c.requires.second

pub cut-requires-clause-term : goal.cut-requires-clause-term
cut-requires-clause-term c =
    let old = c.args.work.now in
    let mid = c.ground_call.new.work in
    let v = call (ground_text c.args.f) (term_at old.bank c.args.t ∷ term_at old.bank c.args.u ∷ []) in
    id_in c.args.history.now mid c.in_ok-literal.literal v c.in_ok-literal.ensures.call (call_over c.args.history.now old mid c.requires.stands c.ground_call.ensures.grows.grows (ground_text c.args.f) c.args.t c.args.u c.requires.symbol c.requires.left.inside c.requires.right.inside)

pub returns-clause-line : goal.returns-clause-line
returns-clause-line c =
    let old = c.args.work.now in
    let mid = c.ground_call.new.work in
    let new = c.cut.new.work in
    let v = call (ground_text c.args.f) (term_at old.bank c.args.t ∷ term_at old.bank c.args.u ∷ []) in
    for_ok c.cut.result (CutsTo mid new (term_at mid.bank c.in_ok-literal.literal) c.args.a c.args.b) (CutsTo old new v c.args.a c.args.b) (λ n h.
    cut_since c.args.history.now old mid c.ground_call.ensures.grows.grows v c.args.a c.args.b n new c.requires.stands (subst (λ u. CutsTo mid new u c.args.a c.args.b n) c.in_ok-literal.ensures.call.denotes h)) c.cut.ensures.line

pub returns-clause-grows : goal.returns-clause-grows
returns-clause-grows c = grown_trans c.args.history.now c.args.work.now c.ground_call.new.work c.cut.new.work c.ground_call.ensures.grows c.cut.ensures.grows
