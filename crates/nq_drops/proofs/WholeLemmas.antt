-- The lists that are made are those of the block's uses.
use Rattle.std.proofs.Common.{◌≡◌, ℕ, suc, ◌-◌, ◌<◌, ◌≤◌, List, [], length, get_or, nat_eq, sym, ap, ◌∙◌, subst, arith}
use Rattle.nq_logtext.specs.Lines.{Line, IsSpellable}
use Rattle.nq_logic.specs.Terms.{Each}
use Rattle.nq_log.specs.Blocks.{lines_text}
use Rattle.nq_log.specs.Logs.{cut_lines}
use Rattle.nq_drops.specs.Uses.{uses, last_use}
use Rattle.nq_drops.specs.Drops.{numbers_where, ended_at, dropping, with_drops}
use Rattle.nq_drops.specs.Texts.{lines_found}
use Rattle.nq_drops.proofs.EndLemmas.{numbers_same}
use Rattle.nq_drops.proofs.TextLemmas.{dropping_same, text_found}

module _ (found : List Line) (all : List (List ℕ)) (last : List ℕ) (ended : ℕ → List ℕ) (all_is : all ≡ uses [] found) (count : length last ≡ length all)
    (lasts : (k : ℕ) → k < length all → get_or last k 0 ≡ last_use all (suc k)) (ends : (n : ℕ) → n ≤ length last → ended n ≡ numbers_where (λ l. nat_eq (get_or last (l - 1) 0) n) 1 n) where
  last_is : (l : ℕ) → 1 ≤ l → l ≤ length all → get_or last (l - 1) 0 ≡ last_use all l
  last_is l first low = lasts (l - 1) (omega (arith, first, low)) ∙ ap (last_use all) (next l first)
    where
      next : (l : ℕ) → 1 ≤ l → suc (l - 1) ≡ l
      next l first = omega (arith, first)

  ended_is : (n : ℕ) → suc n ≤ length all → ended n ≡ ended_at all n
  ended_is n low = ends n (omega (arith, count, low)) ∙ numbers_same (λ l. nat_eq (get_or last (l - 1) 0) n) (λ l. nat_eq (last_use all l) n) 1 n (λ l first high. ap (λ x. nat_eq x n) (last_is l first (omega (arith, high, low))))

  all_dropped : dropping ended 0 found ≡ dropping (ended_at (uses [] found)) 0 found
  all_dropped =
      dropping_same ended (ended_at all) 0 [] found (λ m low. ended_is m (subst (λ us. suc m ≤ length us) (sym all_is) (omega (arith, low))))
      ∙ ap (λ us. dropping (ended_at us) 0 found) all_is

  -- the text that is made of a block's text
  pub whole_text : (text : List ℕ) (lines : List Line) → Each IsSpellable lines → text ≡ lines_text lines → found ≡ lines_found (cut_lines text).0 → lines_text (dropping ended 0 found) ≡ lines_text (with_drops lines)
  whole_text text lines spelled reads is =
      ap lines_text all_dropped ∙ ap (λ ls. lines_text (dropping (ended_at (uses [] ls)) 0 ls)) (is ∙ text_found text lines spelled reads)
