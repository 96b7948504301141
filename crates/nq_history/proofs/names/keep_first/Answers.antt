use Rattle.std.proofs.Common.{◌≡◌, ◌≤◌, ◌+◌, ℕ, Bool, true, false, nat_lt, List, length, take, refl, sym, ap, ◌∙◌, arith}
use Rattle.std.proofs.lemmas.Bool.{ltb-true, ltb-false}
use Rattle.std.proofs.lemmas.List.{take_all}
use Rattle.nq_bank.specs.declared.node.Sym.{Sym}
use Rattle.nq_history.proofs.names.keep_first.Goals as goal

-- the names that are left once the loop has ended
left_at_end : (left names : List Sym) (count dropped : ℕ) → length left + dropped ≡ length names + count → left ≡ take (length left) names → (length names ≤ count → left ≡ names)
    → length names ≤ dropped → (count ≤ length names → dropped ≤ length names) → left ≡ take count names
left_at_end left names count dropped size front all past end = pick (nat_lt count (length names)) refl
  where
    pick : (b : Bool) → nat_lt count (length names) ≡ b → left ≡ take count names
    pick true k =
        let few = ltb-true count (length names) k in
        let last = end (omega (arith, few)) in
        let kept : length left ≡ count = omega (arith, size, past, last) in
        front ∙ ap (λ n. take n names) kept
    pick false k =
        let many = ltb-false count (length names) k in
        all many ∙ sym (take_all count names many)

pub returns-clause-list : goal.returns-clause-list
returns-clause-list c =
    let old = c.args.list.now in
    let length_is = c.len-length.ensures ∙ old.ok.0 in
    let loop = c.loop-dropped in
    left_at_end loop.list.items old.items c.args.count loop.dropped (omega (arith, loop.invariant.count, length_is)) loop.invariant.list
    (λ few. loop.invariant.all (omega (arith, length_is, few)))
    (omega (arith, length_is, c.loop-dropped-test.false))
    (λ few. let end = loop.auto.dropped-end (omega (arith, length_is, few)) in omega (arith, end, length_is))
