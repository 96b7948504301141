use Rattle.std.proofs.Common.{◌∙◌, ap, sym, arith}
use Rattle.nq_bank.specs.Content.{terms_at}
use Rattle.nq_kernel.proofs.GrowingLemmas.{WorkGrows-refl, WorkGrows-trans}
use Rattle.nq_goals.specs.NewVariables.{numbered}
use Rattle.nq_moves.specs.Naming.{occurs_in_one}
use Rattle.nq_moves.specs.Numbering.{IsNewAt}
use Rattle.nq_moves.proofs.NumberingLemmas.{none_as, one_more_used, some_is}
use Rattle.nq_moves.proofs.SwappedLemmas.{goal_in_grown, goal_same}
use Rattle.nq_moves.proofs.UsedLemmas.{names_grown}
use Rattle.nq_moves.proofs.numbering.next_name.Goals as goal

pub loop-number-init : goal.loop-number-init
loop-number-init c = record { grows = WorkGrows-refl c.args.history.now c.args.work.now c.requires.stands; used = λ k least below. absurd (omega (arith, least, below)) }

pub new_name-requires-clause-literals : goal.new_name-requires-clause-literals
new_name-requires-clause-literals c = goal_in_grown c.args.history.now c.args.work.now c.loop-number.work c.requires.stands c.loop-number.invariant.grows c.args.literals.now c.requires.literals

pub new_name-requires-clause-names : goal.new_name-requires-clause-names
new_name-requires-clause-names c =
    let h = c.args.history.now in
    let old = c.args.work.now in
    let mid = c.loop-number.work in
    let literals = c.args.literals.now in
    let grows = c.loop-number.invariant.grows in
    names_grown old.bank mid.bank c.args.names.now (terms_at old.bank literals) (terms_at mid.bank literals) grows.bank (goal_same h old mid c.requires.stands grows literals c.requires.literals) c.requires.names

pub returns-in_err-name-clause-grows : goal.returns-in_err-name-clause-grows
returns-in_err-name-clause-grows c = WorkGrows-trans c.args.history.now c.args.work.now c.loop-number.work c.new_name.new.work c.loop-number.invariant.grows c.new_name.ensures.grows

pub returns-in-Some-clause-grows : goal.returns-in-Some-clause-grows
returns-in-Some-clause-grows c = WorkGrows-trans c.args.history.now c.args.work.now c.loop-number.work c.new_name.new.work c.loop-number.invariant.grows c.new_name.ensures.grows

pub returns-in-Some-clause-name : goal.returns-in-Some-clause-name
returns-in-Some-clause-name c =
    let h = c.args.history.now in
    let old = c.args.work.now in
    let new = c.new_name.new.work in
    let same = goal_same h old new c.requires.stands (WorkGrows-trans h old c.loop-number.work new c.loop-number.invariant.grows c.new_name.ensures.grows) c.args.literals.now c.requires.literals in
    record {
      new = some_is _ (IsNewAt new c.args.literals.now c.loop-number.number) c.in_ok-name.field-0 c.in-Some.name c.in_ok-name.ensures.name c.in-Some.is;
      least = omega (arith, c.loop-number-test);
      used = λ k least below. ap (occurs_in_one (numbered k)) same ∙ c.loop-number.invariant.used k least below;
    }

pub loop-number-preserved : goal.loop-number-preserved
loop-number-preserved c =
    let h = c.args.history.now in
    let old = c.args.work.now in
    let new = c.new_name.new.work in
    let grows = WorkGrows-trans h old c.loop-number.work new c.loop-number.invariant.grows c.new_name.ensures.grows in
    let same = goal_same h old new c.requires.stands grows c.args.literals.now c.requires.literals in
    let here = none_as _ (IsNewAt new c.args.literals.now c.loop-number.number) c.in_ok-name.field-0 c.in_ok-name.ensures.name c.in-None.is in
    record {
      grows = grows;
      used = one_more_used c.args.first c.loop-number.number (λ k. occurs_in_one (numbered k) (terms_at old.bank c.args.literals.now)) c.loop-number.invariant.used (sym (ap (occurs_in_one (numbered c.loop-number.number)) same) ∙ here);
    }
