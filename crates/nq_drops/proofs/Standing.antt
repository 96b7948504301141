-- DROP lines stand where they belong.
use Rattle.std.proofs.Common.{◌≡◌, ℕ, suc, Bool, true, false, ◌++◌, List, [], ◌∷◌, map, refl, ap, ◌∙◌, if◌then◌else◌}
use Rattle.nq_logtext.specs.Lines.{Line}
use Rattle.std.specs.Prelude.{⊤}
use Rattle.nq_drops.specs.Uses.{uses, is_rule}
use Rattle.nq_drops.specs.Drops.{drop_line, ended_at, dropping, is_drop, without_drops}
use Rattle.nq_drops.specs.Laws.{DropsStand}

-- the DROP lines are taken out again
drops_out : (ls : List ℕ) (rest : List Line) → without_drops (map drop_line ls ++ rest) ≡ without_drops rest
drops_out [] rest = refl
drops_out (l ∷ ls) rest = drops_out ls rest

abbrev Bare : List Line → Type 0
Bare [] = ⊤
Bare (line ∷ lines) = (is_drop line.word ≡ false) × Bare lines

bare : (lines : List Line) → Bare (without_drops lines)
bare [] = tt
bare (line ∷ lines) = by_drop (is_drop line.word) refl (bare lines)
  where
    by_drop : (b : Bool) → is_drop line.word ≡ b → Bare (without_drops lines) → Bare (if b then without_drops lines else line ∷ without_drops lines)
    by_drop true e rest = rest
    by_drop false e rest = (e, rest)

-- what has none keeps them out
out_again : (ended : ℕ → List ℕ) (n : ℕ) (lines : List Line) → Bare lines → without_drops (dropping ended n lines) ≡ lines
out_again ended n [] w = refl
out_again ended n (line ∷ lines) w = by_rule (is_rule line.word) (λ n. out_again ended n lines w.1)
  where
    kept : (rest : List Line) → without_drops (line ∷ rest) ≡ line ∷ without_drops rest
    kept rest = ap (λ b. if b then without_drops rest else line ∷ without_drops rest) w.0

    by_rule : (b : Bool) → ((n : ℕ) → without_drops (dropping ended n lines) ≡ lines) →
        without_drops (if b then line ∷ (map drop_line (ended (suc n)) ++ dropping ended (suc n) lines) else line ∷ dropping ended n lines) ≡ line ∷ lines
    by_rule true again =
        kept (map drop_line (ended (suc n)) ++ dropping ended (suc n) lines)
        ∙ ap (λ rest. line ∷ rest) (drops_out (ended (suc n)) (dropping ended (suc n) lines) ∙ again (suc n))
    by_rule false again = kept (dropping ended n lines) ∙ ap (λ rest. line ∷ rest) (again n)

pub drops_stand_law : DropsStand
drops_stand_law lines = ap (λ bare. dropping (ended_at (uses [] bare)) 0 bare) (out_again (ended_at (uses [] (without_drops lines))) 0 (without_drops lines) (bare lines))
