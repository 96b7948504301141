use Rattle.std.proofs.Common.{◌≡◌, ℕ, suc, ◌+◌, ◌-◌, ◌∙◌, Bool, length, get_or, ap, sym, arith}
use Rattle.nq_table.specs.Tables.{found_from}
use Rattle.nq_table.proofs.Finding.{found_from-end, found_from-empty, found_from-here, found_from-on}
use Rattle.nq_bank.specs.Places.{is_at}
use Rattle.nq_bank.proofs.Hashing.{empty_tag, full_tag}
use Rattle.nq_bank.proofs.nodes.found_from.Goals as goal

pub returns-then-tags-place-eq0 : goal.returns-then-tags-place-eq0
returns-then-tags-place-eq0 c =
    let t : ℕ → Bool = is_at c.args.pages.now c.args.node c.args.arguments.now in
    let empty = empty_tag c.args.pages.now c.args.places.now c.args.tags.now c.loop-step.place c.requires.table c.if-tags-place-eq0.true in
    sym (c.loop-step.invariant.1 ∙ found_from-empty t c.args.places.now (length c.args.places.now - c.loop-step.step) c.loop-step.place empty)

pub is_here-requires-clause-some : goal.is_here-requires-clause-some
is_here-requires-clause-some c = full_tag c.args.pages.now c.args.places.now c.args.tags.now c.loop-step.place c.requires.table c.if-tags-place-eq0.false

pub returns-then-is_here : goal.returns-then-is_here
returns-then-is_here c =
    let t : ℕ → Bool = is_at c.args.pages.now c.args.node c.args.arguments.now in
    let v : ℕ = get_or c.args.places.now c.loop-step.place 0 in
    let full = full_tag c.args.pages.now c.args.places.now c.args.tags.now c.loop-step.place c.requires.table c.if-tags-place-eq0.false in
    let some : v ≡ suc (v - 1) = omega (arith, full) in
    sym (c.loop-step.invariant.1 ∙ found_from-here t c.args.places.now (length c.args.places.now - c.loop-step.step) c.loop-step.place (v - 1) (omega (arith, c.loop-step-test.true)) some (sym c.is_here.ensures ∙ c.if-is_here.true))

pub loop-step-preserved : goal.loop-step-preserved
loop-step-preserved c =
    let t : ℕ → Bool = is_at c.args.pages.now c.args.node c.args.arguments.now in
    let v : ℕ = get_or c.args.places.now c.loop-step.place 0 in
    let full = full_tag c.args.pages.now c.args.places.now c.args.tags.now c.loop-step.place c.requires.table c.if-tags-place-eq0.false in
    let some : v ≡ suc (v - 1) = omega (arith, full) in
    let left : ℕ = length c.args.places.now - (c.loop-step.step + 1) in
    let one : length c.args.places.now - c.loop-step.step ≡ suc left = omega (arith, c.loop-step-test.true) in (
      c.next_place-place.ensures.within,
      c.loop-step.invariant.1
          ∙ found_from-on t c.args.places.now (length c.args.places.now - c.loop-step.step) left c.loop-step.place (v - 1) one some (sym c.is_here.ensures ∙ c.if-is_here.false)
          ∙ ap (found_from t c.args.places.now left) (sym c.next_place-place.ensures.value),
    )

pub returns : goal.returns
returns c =
    let t : ℕ → Bool = is_at c.args.pages.now c.args.node c.args.arguments.now in
    sym (c.loop-step.invariant.1 ∙ found_from-end t c.args.places.now (length c.args.places.now - c.loop-step.step) c.loop-step.place (omega (arith, c.loop-step-test.false)))
