-- The lines with their DROP lines have spellings.
use Rattle.std.proofs.Common.{◌≡◌, ℕ, zero, suc, ◌+◌, ◌<◌, ◌≤◌, ◌^◌, Bool, true, false, List, [], ◌∷◌, ◌++◌, length, map, nat_eq, length-append, ap, arith, if◌then◌else◌}
use Rattle.nq_logtext.specs.Lines.{Line, IsSpellable, spelling}
use Rattle.nq_logic.specs.Terms.{Each}
use Rattle.nq_logic.proofs.Lists.{each_append}
use Rattle.nq_log.specs.Blocks.{lines_text}
use Rattle.nq_drops.specs.Uses.{uses, last_use, is_rule}
use Rattle.nq_drops.specs.Drops.{drop_line, numbers_where, ended_at, dropping, is_drop, without_drops, with_drops}

-- numbers from k on are below k + m
numbers_below : (p : ℕ → Bool) (k m : ℕ) → k + m ≤ 2 ^ 64 → Each (λ l. l < 2 ^ 64) (numbers_where p k m)
numbers_below p k zero high = tt
numbers_below p k (suc m) high = by_test (p k) (numbers_below p (suc k) m (omega (arith, high)))
  where
    by_test : (b : Bool) → Each (λ l. l < 2 ^ 64) (numbers_where p (suc k) m) → Each (λ l. l < 2 ^ 64) (if b then k ∷ numbers_where p (suc k) m else numbers_where p (suc k) m)
    by_test true rest = (omega (arith, high), rest)
    by_test false rest = rest

drops_spelled : (ls : List ℕ) → Each (λ l. l < 2 ^ 64) ls → Each IsSpellable (map drop_line ls)
drops_spelled [] all = tt
drops_spelled (l ∷ ls) all = ((all.0, tt), drops_spelled ls all.1)

-- behind n rule lines
dropping_spelled : (all : List (List ℕ)) (n : ℕ) (lines : List Line) → n + length lines < 2 ^ 64 → Each IsSpellable lines → Each IsSpellable (dropping (ended_at all) n lines)
dropping_spelled all n [] few each = tt
dropping_spelled all n (line ∷ lines) few each =
    by_rule (is_rule line.word) (dropping_spelled all (suc n) lines (omega (arith, few)) each.1) (dropping_spelled all n lines (omega (arith, few)) each.1)
  where
    by_rule : (b : Bool) → Each IsSpellable (dropping (ended_at all) (suc n) lines) → Each IsSpellable (dropping (ended_at all) n lines) →
        Each IsSpellable (if b then line ∷ (map drop_line (ended_at all (suc n)) ++ dropping (ended_at all) (suc n) lines) else line ∷ dropping (ended_at all) n lines)
    by_rule true after same = (
      each.0,
      each_append IsSpellable (map drop_line (ended_at all (suc n))) (dropping (ended_at all) (suc n) lines)
          (drops_spelled (ended_at all (suc n)) (numbers_below (λ l. nat_eq (last_use all l) (suc n)) 1 (suc n) (omega (arith, few)))) after,
    )
    by_rule false after same = (each.0, same)

-- without the block's own DROP lines
bare_spelled : (lines : List Line) → Each IsSpellable lines → Each IsSpellable (without_drops lines)
bare_spelled [] each = tt
bare_spelled (line ∷ lines) each = by_drop (is_drop line.word) (bare_spelled lines each.1)
  where
    by_drop : (b : Bool) → Each IsSpellable (without_drops lines) → Each IsSpellable (if b then without_drops lines else line ∷ without_drops lines)
    by_drop true rest = rest
    by_drop false rest = (each.0, rest)

bare_fewer : (lines : List Line) → length (without_drops lines) ≤ length lines
bare_fewer [] = omega arith
bare_fewer (line ∷ lines) = by_drop (is_drop line.word) (bare_fewer lines)
  where
    by_drop : (b : Bool) → length (without_drops lines) ≤ length lines → length (if b then without_drops lines else line ∷ without_drops lines) ≤ suc (length lines)
    by_drop true fewer = omega (arith, fewer)
    by_drop false fewer = omega (arith, fewer)

-- each line takes a byte
fewer_lines : (lines : List Line) → length lines ≤ length (lines_text lines)
fewer_lines [] = omega arith
fewer_lines (line ∷ lines) =
    let rest = fewer_lines lines in
    let longer = length-append (spelling line) (10 ∷ lines_text lines) in
    omega (arith, rest, longer)

pub with_drops_spelled : (text : List ℕ) (lines : List Line) → length text < 2 ^ 64 → Each IsSpellable lines → text ≡ lines_text lines → Each IsSpellable (with_drops lines)
with_drops_spelled text lines small each reads =
    let fewer = bare_fewer lines in
    let as_long = fewer_lines lines in
    let same : length text ≡ length (lines_text lines) = ap length reads in
    dropping_spelled (uses [] (without_drops lines)) 0 (without_drops lines) (omega (arith, fewer, as_long, same, small)) (bare_spelled lines each)
