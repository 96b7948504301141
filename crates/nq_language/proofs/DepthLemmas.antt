-- A term is deeper than its parts, but for the numerals.
use Rattle.std.proofs.Common.{◌≡◌, ℕ, ◌+◌, ◌<◌, max, Bool, true, false, refl, ap, arith, cond}
use Rattle.std.specs.Prelude.{Option, None, Some, is_some, bytes_eq, codes, if◌then◌else◌}
use Rattle.nq_logic.specs.Terms.{Term, Variable, Function, Applied}
use Rattle.nq_logic.specs.Numerals.{next_number, number_after, number_of, is_numeral}
use Rattle.nq_logic.specs.Sizes.{tree_depth, depth_of}
use Rattle.nq_language.specs.Depths.{PartsAreShallower}

next_some : (b : Bool) (o : Option ℕ) → is_some (if b then next_number o else None) ≡ true → is_some o ≡ true
next_some true None h = absurd (cc)
next_some true (Some n) h = refl
next_some false o h = absurd (cc)

-- the argument of a numeral is one
after_some : (t : Term) (o : Option ℕ) → is_some (number_after t o) ≡ true → is_some o ≡ true
after_some (Variable x) o h = absurd (cc)
after_some (Function f) o h = next_some (bytes_eq f (codes "ADD1")) o h
after_some (Applied t u) o h = absurd (cc)

one_deep : (t : Term) → is_numeral t ≡ true → depth_of t ≡ 1
one_deep t h = ap (λ c. cond c 1 (tree_depth t)) h

part_shallower : (b : Bool) (d e : ℕ) → (b ≡ true → e ≡ 1) → 1 < e → e < (if b then 1 else max d (e + 1))
part_shallower true d e f h = let one : e ≡ 1 = f refl in absurd (omega arith)
part_shallower false d e f h = omega arith

pub parts_are_shallower : PartsAreShallower
unfolding number_of tree_depth
parts_are_shallower t u h = part_shallower (is_numeral (Applied t u)) (tree_depth t) (depth_of u) (λ e. one_deep u (after_some t (number_of u) e)) h
