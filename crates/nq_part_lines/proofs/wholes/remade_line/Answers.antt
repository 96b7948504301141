use Rattle.std.proofs.Common.{◌≡◌, ◌∙◌, length, sym, ap, arith}
use Rattle.std.proofs.lemmas.List.{length-map}
use Rattle.nq_logic.specs.Histories.{Shell}
use Rattle.nq_logic.specs.Shells.{accessed, made, whole}
use Rattle.nq_bank.specs.Shells.{part_at, shell_at}
use Rattle.nq_clause.specs.Substitution.{substitution_at}
use Rattle.nq_history.proofs.ShellLemmas.{shell_at-grown}
use Rattle.nq_rule.proofs.Made.{for_ok}
use Rattle.nq_lines.specs.Instances.{InstancesTo}
use Rattle.nq_lines.proofs.LineLemmas.{only_stands}
use Rattle.nq_replay.proofs.UncountedLemmas.{grown_trans}
use Rattle.nq_part_lines.specs.Wholes.{RemadeLine, part_pairs}
use Rattle.nq_part_lines.proofs.ObjectLemmas.{some_part}
use Rattle.nq_part_lines.proofs.PartCallLemmas.{calls_grown, same_calls}
use Rattle.nq_part_lines.proofs.RemadeLemmas.{remade_only, remade_shallow}
use Rattle.nq_part_lines.proofs.wholes.remade_line.Goals as goal

pub pairs_of-requires-clause-object : goal.pairs_of-requires-clause-object
pairs_of-requires-clause-object c = c.in_ok-taken.ensures.taken.object

pub pairs_of-requires-clause-made : goal.pairs_of-requires-clause-made
pairs_of-requires-clause-made c =
    let same = shell_at-grown c.args.work.now.bank c.taken_line.new.work.bank c.taken_line.ensures.grows.grows.bank c.args.shell.now c.requires.shell in
    c.in_ok-taken.ensures.taken.object_is ∙ sym (ap made same)

pub pairs_of-requires-clause-calls : goal.pairs_of-requires-clause-calls
pairs_of-requires-clause-calls c =
    let same = shell_at-grown c.args.work.now.bank c.taken_line.new.work.bank c.taken_line.ensures.grows.grows.bank c.args.shell.now c.requires.shell in
    same_calls c.args.history.now c.args.work.now c.taken_line.new.work c.requires.stands c.taken_line.ensures.grows.grows c.args.calls.now c.requires.small ∙ c.requires.calls ∙ sym (ap (λ (s : Shell). accessed whole s.parts) same)

pub pairs_of-requires-clause-small : goal.pairs_of-requires-clause-small
pairs_of-requires-clause-small c = calls_grown c.args.history.now c.args.work.now c.taken_line.new.work c.requires.stands c.taken_line.ensures.grows.grows c.args.calls.now c.requires.small

pub instance-requires-clause-line : goal.instance-requires-clause-line
instance-requires-clause-line c =
    let s = shell_at c.args.work.now.bank c.args.shell.now in
    let many : length s.parts ≡ length c.args.shell.now.parts.items = length-map c.args.shell.now.parts.items (part_at c.args.work.now.bank) in
    let below = c.requires.place in
    let part = some_part s.parts c.args.place (omega (arith, many, below)) in
    only_stands c.taken_line.new.work c.in_ok-taken.taken.line _ (c.in_ok-taken.ensures.taken.line part.0 part.1)

pub instance-requires-clause-pairs : goal.instance-requires-clause-pairs
instance-requires-clause-pairs c = c.in_ok-pairs.ensures.over

pub instance-requires-clause-shallow : goal.instance-requires-clause-shallow
instance-requires-clause-shallow c =
    let mid = c.taken_line.new.work in
    let s = shell_at c.args.work.now.bank c.args.shell.now in
    let same = shell_at-grown c.args.work.now.bank mid.bank c.taken_line.ensures.grows.grows.bank c.args.shell.now c.requires.shell in
    let many : length s.parts ≡ length c.args.shell.now.parts.items = length-map c.args.shell.now.parts.items (part_at c.args.work.now.bank) in
    let below = c.requires.place in
    let part = some_part s.parts c.args.place (omega (arith, many, below)) in
    let pairs : substitution_at mid.bank c.in_ok-pairs.pairs.items ≡ part_pairs 0 s.parts = c.in_ok-pairs.ensures.pairs ∙ ap (λ (r : Shell). part_pairs 0 r.parts) same in
    remade_shallow s (substitution_at mid.bank c.in_ok-pairs.pairs.items) pairs mid c.in_ok-taken.taken.line part.0 (c.in_ok-taken.ensures.taken.line part.0 part.1)

pub returns-clause-line : goal.returns-clause-line
returns-clause-line c =
    let mid = c.taken_line.new.work in
    let new = c.instance.new.work in
    let s = shell_at c.args.work.now.bank c.args.shell.now in
    let same = shell_at-grown c.args.work.now.bank mid.bank c.taken_line.ensures.grows.grows.bank c.args.shell.now c.requires.shell in
    let sub = substitution_at mid.bank c.in_ok-pairs.pairs.items in
    let pairs : sub ≡ part_pairs 0 s.parts = c.in_ok-pairs.ensures.pairs ∙ ap (λ (r : Shell). part_pairs 0 r.parts) same in
    for_ok c.instance.result (InstancesTo mid new sub c.in_ok-taken.taken.line) (λ n. RemadeLine new s c.args.place n) (λ n h. remade_only s sub pairs mid new c.args.place c.in_ok-taken.taken.line n c.in_ok-taken.ensures.taken.line h) c.instance.ensures.line

pub returns-clause-grows : goal.returns-clause-grows
returns-clause-grows c = grown_trans c.args.history.now c.args.work.now c.taken_line.new.work c.instance.new.work c.taken_line.ensures.grows c.instance.ensures.grows
