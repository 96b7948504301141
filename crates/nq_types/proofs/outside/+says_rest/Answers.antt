use Rattle.std.proofs.Common.{◌<◌, ◌∙◌, length, sym, arith}
use Rattle.nq_bank.specs.Content.{term_at}
use Rattle.nq_history.specs.Events.{events_at}
use Rattle.nq_proof.proofs.Tests.{and_left, and_right}
use Rattle.nq_types.specs.TypeSets.{recognizers}
use Rattle.nq_types.proofs.OutsideLemmas.{rest_in, rest_last, rest_more}
use Rattle.nq_types.proofs.outside.+says_rest.Goals as goal

pub returns-then-has : goal.returns-then-has
returns-then-has t c =
    let bank = c.args.bank.now in
    let h = events_at bank c.args.history.now in
    let below : c.args.from < length (recognizers h) = omega (arith, c.recognizer_count-count.ensures.count, c.if-from-count.false) in
    λ e. rest_in h c.args.set.0 c.args.from (term_at bank c.args.t) (term_at bank c.args.literal) below (sym c.has.ensures ∙ c.if-has.true) (c.says_rest.ensures e)

pub returns-then-is_full : goal.returns-then-is_full
returns-then-is_full t c =
    let bank = c.args.bank.now in
    let h = events_at bank c.args.history.now in
    λ e. rest_last h c.args.set.0 c.args.from (term_at bank c.args.t) (term_at bank c.args.literal) (sym c.has.ensures ∙ c.if-has.false) (λ k least below. c.is_full.ensures c.if-is_full.true k least (omega (arith, below, c.recognizer_count-count.ensures.count))) (c.denies_at.ensures e)

pub returns-in-Some : goal.returns-in-Some
returns-in-Some t c =
    let bank = c.args.bank.now in
    let h = events_at bank c.args.history.now in
    let first = c.denies_at-first.result in
    let rest = c.says_rest-rest.result in
    λ e.
    let both = sym c.is_both.ensures ∙ e in
    rest_more h c.args.set.0 c.args.from (term_at bank c.args.t) (term_at bank c.args.literal) (term_at bank c.in-Some.both.first) (term_at bank c.in-Some.both.rest) (sym c.has.ensures ∙ c.if-has.false) (c.denies_at-first.ensures (and_left first rest both)) (c.says_rest-rest.ensures (and_right first rest both)) c.in-Some.ensures.whole
