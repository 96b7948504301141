use Rattle.std.proofs.Common.{◌<◌, length, get_or, sym, subst, arith}
use Rattle.std.specs.Prelude.{All}
use Rattle.nq_logic.specs.Admissible.{matched}
use Rattle.nq_logic.specs.RuleShapes.{variables_of}
use Rattle.nq_bank.specs.Parts.{occurs}
use Rattle.nq_bank.specs.Content.{Stands, term_at, terms_at, text_at}
use Rattle.nq_bank.specs.Shells.{texts_at}
use Rattle.nq_events.specs.Inductions.{measured}
use Rattle.nq_event.proofs.DefinitionLemmas.{measured_more, all_measured, one_if, no_more, occurs_is}
use Rattle.nq_event.proofs.inductions.measured.Goals as goal

pub loop-i-preserved : goal.loop-i-preserved
loop-i-preserved c =
    let bank = c.args.bank.now in
    let formals = c.args.formals.now in
    let arguments = c.args.arguments.now in
    let i = c.loop-i.i in
    let m = term_at bank c.args.measure in
    let vs = variables_of m in
    let lt : i < length formals = omega (arith, c.min-count.ensures, c.loop-i-test.true) in
    let below : i < length arguments = omega (arith, c.min-count.ensures, c.loop-i-test.true) in
    let x = text_at bank (get_or formals i (record { 0 = 0 })) in
    let t = get_or arguments i (record { 0 = 0 }) in
    let ids = c.loop-i.ids.items in
    record {
      stand = subst (All (Stands bank)) (sym c.in_ok-add_measured.ensures) (one_if bank ids (occurs x m) t c.loop-i.invariant.stand (c.requires.arguments i (record { 0 = 0 }) below));
      are =
          measured_more vs bank formals arguments i ids c.add_measured.new.ids.items (record { 0 = 0 }) (record { 0 = 0 }) (occurs x m) lt below (sym (occurs_is x m)) c.in_ok-add_measured.ensures
          (measured vs (matched (texts_at bank formals) (terms_at bank arguments))) c.loop-i.invariant.are;
    }

pub returns-clause-are : goal.returns-clause-are
returns-clause-are c =
    let bank = c.args.bank.now in
    let formals = c.args.formals.now in
    let arguments = c.args.arguments.now in
    let vs = variables_of (term_at bank c.args.measure) in
    all_measured (measured vs (matched (texts_at bank formals) (terms_at bank arguments))) (terms_at bank c.loop-i.ids.items) _ c.loop-i.invariant.are
    (no_more vs bank formals arguments c.loop-i.i c.min-count.result c.min-count.ensures c.loop-i-test.false)
