use Rattle.std.proofs.Common.{◌≤◌, sym, subst}
use Rattle.nq_logic.specs.Terms.{Each}
use Rattle.nq_logic.specs.Sizes.{depth_of}
use Rattle.nq_bank.specs.Content.{term_at}
use Rattle.nq_clause.specs.Substitution.{substitution_at}
use Rattle.nq_proof.specs.Rules.{pair_terms}
use Rattle.nq_rule.proofs.Made.{for_ok}
use Rattle.nq_kernel.specs.Growing.{held}
use Rattle.nq_lines.specs.Instances.{InstancesTo}
use Rattle.nq_lines.proofs.LineLemmas.{line_grown}
use Rattle.nq_replay.proofs.UncountedLemmas.{grown_trans}
use Rattle.nq_replay.proofs.HeldLemmas.{held_grown}
use Rattle.nq_part_lines.specs.LawLines.{IsLaw, term_room}
use Rattle.nq_part_lines.specs.Pairs.{three_pairs}
use Rattle.nq_part_lines.proofs.LawLemmas.{law_shallow}
use Rattle.nq_part_lines.proofs.GrownLemmas.{instances_since}
use Rattle.nq_part_lines.proofs.lines.at_three.Goals as goal

pub instance-requires-clause-line : goal.instance-requires-clause-line
instance-requires-clause-line c = line_grown c.args.history.now c.args.work.now c.pairs_of_three.new.work c.args.line c.requires.stands c.pairs_of_three.ensures.grows.grows c.requires.line

pub instance-requires-clause-shallow : goal.instance-requires-clause-shallow
instance-requires-clause-shallow c =
    let old = c.args.work.now in
    let new = c.pairs_of_three.new.work in
    let same = held_grown c.args.history.now old new c.args.line c.requires.stands c.pairs_of_three.ensures.grows.grows c.requires.line in
    law_shallow (substitution_at new.bank c.in_ok-pairs.pairs.items) (held new c.args.line) (subst IsLaw (sym same) c.requires.law)
    (subst (λ s. Each (λ t. depth_of t ≤ term_room) (pair_terms s)) (sym c.in_ok-pairs.ensures.pairs) (c.requires.first_room, (c.requires.second_room, (c.requires.third_room, tt))))

pub returns-clause-line : goal.returns-clause-line
returns-clause-line c =
    let old = c.args.work.now in
    let mid = c.pairs_of_three.new.work in
    let new = c.instance.new.work in
    let s = three_pairs (term_at old.bank c.args.x) (term_at old.bank c.args.y) (term_at old.bank c.args.z) in
    for_ok c.instance.result (InstancesTo mid new (substitution_at mid.bank c.in_ok-pairs.pairs.items) c.args.line) (InstancesTo old new s c.args.line) (λ n h.
    instances_since c.args.history.now old mid new s c.args.line n c.requires.stands c.pairs_of_three.ensures.grows.grows (subst (λ s. InstancesTo mid new s c.args.line n) c.in_ok-pairs.ensures.pairs h)) c.instance.ensures.line

pub returns-clause-grows : goal.returns-clause-grows
returns-clause-grows c = grown_trans c.args.history.now c.args.work.now c.pairs_of_three.new.work c.instance.new.work c.pairs_of_three.ensures.grows c.instance.ensures.grows
