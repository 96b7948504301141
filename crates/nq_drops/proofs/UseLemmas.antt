-- The uses of lines, one after the other, and the notes of the last ones.
use Rattle.std.proofs.Common.{◌≡◌, ℕ, suc, Bool, true, false, ◌||◌, List, [], ◌∷◌, ◌++◌, nat_eq, refl, sym, ap, ◌∙◌, append_assoc, if◌then◌else◌}
use Rattle.nq_logtext.specs.Lines.{Line}
use Rattle.nq_logtext.specs.Views.{one_number}
use Rattle.std.specs.List.{flat_map}
use Rattle.std.specs.Prelude.{Result, Ok, Err, IfOk}
use Rattle.nq_drops.specs.Uses.{uses, cited, is_rule, is_induction, is_listed, all_numbers}

pub numbers_back : (ns : List ℕ) → all_numbers (flat_map one_number ns) ≡ ns
numbers_back [] = refl
numbers_back (n ∷ ns) = ap (λ rest. n ∷ rest) (numbers_back ns)

module _ (all : List (List ℕ)) (waiting : List ℕ) (line : Line) (rest : List Line) (whole : List (List ℕ)) (so_far : all ++ uses waiting (line ∷ rest) ≡ whole) where
  pub induction_used : is_induction line.word ≡ true → (all ++ ((waiting ++ cited line) ∷ [])) ++ uses [] rest ≡ whole
  induction_used i =
      append_assoc all ((waiting ++ cited line) ∷ []) (uses [] rest)
      ∙ ap (λ b. all ++ (if b then (waiting ++ cited line) ∷ uses [] rest else (if is_rule line.word then cited line ∷ uses waiting rest else uses (waiting ++ cited line) rest))) (sym i)
      ∙ so_far

  pub rule_used : is_induction line.word ≡ false → is_rule line.word ≡ true → (all ++ (cited line ∷ [])) ++ uses waiting rest ≡ whole
  rule_used i r =
      append_assoc all (cited line ∷ []) (uses waiting rest)
      ∙ ap (λ b. all ++ (if b then cited line ∷ uses waiting rest else uses (waiting ++ cited line) rest)) (sym r)
      ∙ ap (λ b. all ++ (if b then (waiting ++ cited line) ∷ uses [] rest else (if is_rule line.word then cited line ∷ uses waiting rest else uses (waiting ++ cited line) rest))) (sym i)
      ∙ so_far

  pub other_used : is_induction line.word ≡ false → is_rule line.word ≡ false → all ++ uses (waiting ++ cited line) rest ≡ whole
  other_used i r =
      ap (λ b. all ++ (if b then cited line ∷ uses waiting rest else uses (waiting ++ cited line) rest)) (sym r)
      ∙ ap (λ b. all ++ (if b then (waiting ++ cited line) ∷ uses [] rest else (if is_rule line.word then cited line ∷ uses waiting rest else uses (waiting ++ cited line) rest))) (sym i)
      ∙ so_far

-- a line is noted, or stays as it was
pub noted_more : (l j n old new whole : ℕ) (rest : List ℕ) → new ≡ (if nat_eq l (suc j) then n else old) → (if is_listed (suc j) (l ∷ rest) then n else old) ≡ whole → (if is_listed (suc j) rest then n else new) ≡ whole
noted_more l j n old new whole rest is e = ap (λ m. if is_listed (suc j) rest then n else m) is ∙ by_same (nat_eq l (suc j)) e
  where
    itself : (b : Bool) → (if b then n else n) ≡ n
    itself true = refl
    itself false = refl

    by_same : (b : Bool) → (if b || is_listed (suc j) rest then n else old) ≡ whole → (if is_listed (suc j) rest then n else (if b then n else old)) ≡ whole
    by_same true f = itself (is_listed (suc j) rest) ∙ f
    by_same false f = f

pub if_ok : {A E : Type 0} {P Q : A → Type 0} (r : Result A E) → ((x : A) → P x → Q x) → IfOk r P → IfOk r Q
if_ok (Ok x) f p = f x p
if_ok (Err e) f p = tt
