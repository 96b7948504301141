use Rattle.std.proofs.Common.{◌≡◌, ◌<◌, length, get_or, arith}
use Rattle.std.proofs.lemmas.Result.{IfOk-weaker}
use Rattle.nq_logic.specs.RuleShapes.{variables_of}
use Rattle.nq_bank.specs.Content.{term_at, text_at}
use Rattle.nq_clause.specs.declared.substitution.Pair.{Pair}
use Rattle.nq_clause.specs.Substitution.{substitution_at}
use Rattle.nq_tracer.specs.Cases.{change_of, changes_of, image_by}
use Rattle.nq_tracer.proofs.ChangeSteps.{is_measured, not_measured}
use Rattle.nq_tracer.proofs.changes.+changes_at.Goals as goal

pub returns-then-measured-clause-is : goal.returns-then-measured-clause-is
returns-then-measured-clause-is t c =
    let old = c.args.bank.now in
    let b1 = c.changes_at.new.bank in
    let new = c.change_first.new.bank in
    let here = c.args.here.now in
    let there = c.args.there.now in
    let left = c.args.left.now in
    let later = c.in_ok-later-in-len1-up.later.items in
    let d : Pair = record { variable = record { 0 = 0 }; term = record { 0 = 0 } } in
    let first : Pair = get_or left 0 d in
    let some : 0 < length left = omega (arith, c.in-len1-up.len_at_least) in
    IfOk-weaker c.change_first.result
    (λ v. substitution_at new v.items ≡ change_of (term_at b1 first.term) (image_by (substitution_at b1 here) (substitution_at b1 there) (text_at b1 first.variable)) (substitution_at b1 later))
    (λ v. substitution_at new v.items ≡ changes_of (variables_of (term_at old c.args.measure)) (image_by (substitution_at old here) (substitution_at old there)) (substitution_at old left))
    (λ v is.
    is_measured old b1 c.args.measure here there left d c.in-len1-up.len_at_least c.changes_at.ensures.grows c.requires.measure (c.requires.left 0 d some) c.in-Ok.measured (substitution_at new v.items) later c.in-Ok.ensures
    c.if-measured.true c.requires.here c.requires.there c.in_ok-later-in-len1-up.ensures.is is)
    c.change_first.ensures.is

pub returns-else-measured-clause-is : goal.returns-else-measured-clause-is
returns-else-measured-clause-is t c =
    let old = c.args.bank.now in
    let b1 = c.changes_at.new.bank in
    let left = c.args.left.now in
    let d : Pair = record { variable = record { 0 = 0 }; term = record { 0 = 0 } } in
    let some : 0 < length left = omega (arith, c.in-len1-up.len_at_least) in
    not_measured old b1 c.args.measure c.args.here.now c.args.there.now left d c.in-len1-up.len_at_least c.changes_at.ensures.grows c.requires.measure (c.requires.left 0 d some) c.in-Ok.measured
    (substitution_at b1 c.in_ok-later-in-len1-up.later.items) c.in-Ok.ensures c.if-measured.false c.in_ok-later-in-len1-up.ensures.is
