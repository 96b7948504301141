-- A block whose lines are dropped, each as soon as it is used no more.
use Rattle.std.specs.Prelude.{◌≡◌, ℕ, zero, suc, nat_eq, Bool, true, false, if◌then◌else◌, List, [], ◌∷◌, ◌++◌, map}
use Rattle.nq_logtext.specs.Fields.{number}
use Rattle.nq_logtext.specs.Lines.{Line}
use Rattle.nq_logtext.specs.declared.word.Word.{Word}
use Rattle.nq_logtext.specs.declared.word.Word.TheVariants as word
use Rattle.nq_drops.specs.Uses.{uses, is_rule, last_use}

-- DROP l
abbrev pub drop_line : ℕ → Line
drop_line l = record { word = word.Drop; fields = number l ∷ [] }

-- so many numbers from k on, of those that pass
abbrev pub numbers_where : (ℕ → Bool) → ℕ → ℕ → List ℕ
numbers_where p k zero = []
numbers_where p k (suc m) = if p k then k ∷ numbers_where p (suc k) m else numbers_where p (suc k) m

-- the lines up to n that are used last by line n, in ascending order
abbrev pub ended_at : List (List ℕ) → ℕ → List ℕ
ended_at all n = numbers_where (λ l. nat_eq (last_use all l) n) 1 n

-- The lines, of which the first comes after n rule lines. Directly after each rule line stand the DROP lines of those that end
-- there.
abbrev pub dropping : (ℕ → List ℕ) → ℕ → List Line → List Line
dropping ended n [] = []
dropping ended n (line ∷ lines) =
    if is_rule line.word then line ∷ (map drop_line (ended (suc n)) ++ dropping ended (suc n) lines) else line ∷ dropping ended n lines

abbrev pub is_drop : Word → Bool
is_drop word.Drop = true
is_drop w = false

abbrev pub without_drops : List Line → List Line
without_drops [] = []
without_drops (line ∷ lines) = if is_drop line.word then without_drops lines else line ∷ without_drops lines

-- The lines of a block, without its own DROP lines, and with one for each rule line that the closing line does not cite:
-- directly after the last line that cites it, or after itself where none does, several at one place in ascending order.
abbrev pub with_drops : List Line → List Line
with_drops lines = dropping (ended_at (uses [] (without_drops lines))) 0 (without_drops lines)

-- the block's DROP lines are just those, and stand there
abbrev pub IsDropped : List Line → Type 0
IsDropped lines = with_drops lines ≡ lines
