use Rattle.std.proofs.Common.{◌+◌, ◌∙◌, drop, refl, ap, sym, subst}
use Rattle.std.specs.Prelude.{IsSome, is_some, All}
use Rattle.nq_bank.specs.Content.{terms_at}
use Rattle.nq_bank.specs.Shells.{texts_at}
use Rattle.nq_bank.proofs.Standing.{All-push}
use Rattle.nq_kernel.specs.Growing.{LineStands}
use Rattle.nq_replay.proofs.UncountedLemmas.{grown_refl, grown_trans}
use Rattle.nq_replay.specs.Replaying.{after_rules}
use Rattle.nq_replay.specs.Parts.{lines_held}
use Rattle.nq_replay.proofs.HeldLemmas.{one_line, stand_grown}
use Rattle.nq_replay.proofs.LoopLemmas.{next_rule, line_same}
use Rattle.nq_replay.proofs.replaying.add_rules.Goals as goal

pub loop-rule-init : goal.loop-rule-init
loop-rule-init c = record { grows = grown_refl c.args.history.now c.args.work.now c.requires.stands; lines = c.requires.lines; rest = refl }

pub add_rule-requires-clause-rule : goal.add_rule-requires-clause-rule
add_rule-requires-clause-rule c =
    let old = c.args.work.now.bank in
    let now = c.loop-rule.work in
    let parts = c.args.parts.now in
    let some = subst IsSome (sym c.loop-rule.invariant.rest) c.requires.rules in
    let next = next_rule (texts_at old parts.names.items) (terms_at old parts.terms.items) (lines_held now c.loop-rule.numbers.items) c.args.rules.now c.loop-rule.rule-index _ c.loop-rule-test.true some in
    ap is_some (line_same old now.bank parts (lines_held now c.as_slice.result.now) (lines_held now c.loop-rule.numbers.items) _ c.loop-rule.invariant.grows.grows.bank c.requires.parts (ap (lines_held now) c.as_slice.ensures.value) ∙ next.1)

pub returns-in_err-n-clause-grows : goal.returns-in_err-n-clause-grows
returns-in_err-n-clause-grows c = grown_trans c.args.history.now c.args.work.now c.loop-rule.work c.add_rule.new.work c.loop-rule.invariant.grows c.add_rule.ensures.grows

pub returns-in_err-push-clause-grows : goal.returns-in_err-push-clause-grows
returns-in_err-push-clause-grows c = grown_trans c.args.history.now c.args.work.now c.loop-rule.work c.add_rule.new.work c.loop-rule.invariant.grows c.add_rule.ensures.grows

pub loop-rule-preserved : goal.loop-rule-preserved
loop-rule-preserved c =
    let history = c.args.history.now in
    let old = c.args.work.now.bank in
    let now = c.loop-rule.work in
    let new = c.add_rule.new.work in
    let parts = c.args.parts.now in
    let numbers = c.loop-rule.numbers.items in
    let i = c.loop-rule.rule-index in
    let xs = texts_at old parts.names.items in
    let ts = terms_at old parts.terms.items in
    let some = subst IsSome (sym c.loop-rule.invariant.rest) c.requires.rules in
    let next = next_rule xs ts (lines_held now numbers) c.args.rules.now i _ c.loop-rule-test.true some in
    let line = c.in_ok-n.ensures.line ∙ line_same old now.bank parts (lines_held now c.as_slice.result.now) (lines_held now numbers) _ c.loop-rule.invariant.grows.grows.bank c.requires.parts (ap (lines_held now) c.as_slice.ensures.value) ∙ next.1 in
    let stands = c.loop-rule.invariant.grows.grows.stands in
    let grows = c.add_rule.ensures.grows.grows in
    let lines = c.loop-rule.invariant.lines in
    record {
      grows = grown_trans history c.args.work.now now new c.loop-rule.invariant.grows c.add_rule.ensures.grows;
      lines = subst (All (LineStands new)) (sym c.in_ok-push.ensures.items) (All-push (LineStands new) numbers c.in_ok-n.n (stand_grown history now new numbers stands grows lines) (ap is_some line));
      rest =
          ap (λ ns. after_rules xs ts (lines_held new ns) (drop (i + 1) c.args.rules.now)) c.in_ok-push.ensures.items ∙
          ap (λ cs. after_rules xs ts cs (drop (i + 1) c.args.rules.now)) (one_line history now new numbers c.in_ok-n.n next.0 stands grows lines line) ∙
          sym next.2 ∙ c.loop-rule.invariant.rest;
    }
