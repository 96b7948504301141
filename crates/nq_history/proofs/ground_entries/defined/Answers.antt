use Rattle.std.proofs.Common.{ap, ◌∙◌, map}
use Rattle.nq_bank.specs.Content.{Content, text_at}
use Rattle.nq_bank.proofs.Growth.{Grows-trans}
use Rattle.nq_history.specs.GroundTable.{letter, made_of, measure_of}
use Rattle.nq_history.proofs.GroundLemmas.{defined_stands, defined_event, name_event}
use Rattle.nq_history.proofs.ground_entries.defined.Goals as goal

pub returns-clause-stands : goal.returns-clause-stands
returns-clause-stands c =
    let first : Content = c.formals_of.new.bank in
    let second : Content = c.term_of_steps.new.bank in
    let third : Content = c.measure_of_steps.new.bank in
    record {
      name = c.ground_name.ensures.stands;
      kind = defined_stands first second third c.in_ok-formals.formals.items c.in_ok-t.t c.in_ok-t.ensures.grows c.in_ok-size.ensures.grows c.in_ok-formals.ensures.stand c.in_ok-t.ensures.stands c.in_ok-size.size c.in_ok-size.ensures.stands;
    }

pub returns-clause-event : goal.returns-clause-event
returns-clause-event c =
    let first : Content = c.formals_of.new.bank in
    let second : Content = c.term_of_steps.new.bank in
    let third : Content = c.measure_of_steps.new.bank in
    let formals = map letter c.args.letters.now in
    let body = made_of c.args.body.now in
    let measure = measure_of c.args.measure.now in
    defined_event first second third c.in_ok-formals.formals.items c.in_ok-t.t c.in_ok-t.ensures.grows c.in_ok-size.ensures.grows c.in_ok-formals.ensures.stand c.in_ok-t.ensures.stands c.in_ok-size.size (text_at third c.ground_name.result) formals body measure c.in_ok-formals.ensures.formals c.in_ok-t.ensures.term c.in_ok-size.ensures.measure ∙
    ap (λ name. name_event name formals body measure) c.ground_name.ensures.reads

pub returns-clause-grows : goal.returns-clause-grows
returns-clause-grows c =
    let old : Content = c.args.bank.now in
    let first : Content = c.formals_of.new.bank in
    let second : Content = c.term_of_steps.new.bank in
    let third : Content = c.measure_of_steps.new.bank in
    Grows-trans old first third c.formals_of.ensures.grows (Grows-trans first second third c.term_of_steps.ensures.grows c.measure_of_steps.ensures.grows)

pub returns-in_err-size-clause-grows : goal.returns-in_err-size-clause-grows
returns-in_err-size-clause-grows c =
    let old : Content = c.args.bank.now in
    let first : Content = c.formals_of.new.bank in
    let second : Content = c.term_of_steps.new.bank in
    let third : Content = c.measure_of_steps.new.bank in
    Grows-trans old first third c.formals_of.ensures.grows (Grows-trans first second third c.term_of_steps.ensures.grows c.measure_of_steps.ensures.grows)

pub returns-in_err-t-clause-grows : goal.returns-in_err-t-clause-grows
returns-in_err-t-clause-grows c =
    let old : Content = c.args.bank.now in
    let first : Content = c.formals_of.new.bank in
    let second : Content = c.term_of_steps.new.bank in
    Grows-trans old first second c.formals_of.ensures.grows c.term_of_steps.ensures.grows
