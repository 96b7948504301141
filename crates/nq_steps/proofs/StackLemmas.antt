-- Steps on a stack.
use Rattle.std.proofs.Common.{◌≡◌, ◌-◌, ℕ, List, [], ◌∷◌, ◌++◌, length, take, drop, reverse, append_assoc, refl, sym, ap, ◌∙◌, arith}
use Rattle.std.specs.Prelude.{Result, Ok, Err, OnOk, IfOk}
use Rattle.std.proofs.Math.Seq.{take-append_seam, drop-append_seam}
use Rattle.std.proofs.lemmas.List.{length-reverse, reverse-reverse}
use Rattle.std.proofs.lemmas.Grind.{reverse_onto}
use Rattle.nq_logic.specs.Terms.{Name, Term, call}
use Rattle.nq_bank.specs.Content.{Content}
use Rattle.nq_steps.specs.declared.steps.Step.{Step}
use Rattle.nq_steps.specs.Steps.{called, called_times, nest, pushed, step_taken, steps_taken, stack_of}

steps_taken-push : (bank : Content) (steps : List Step) (step : Step) (ts : List Term) → steps_taken bank (steps ++ step ∷ []) ts ≡ step_taken bank step (steps_taken bank steps ts)
steps_taken-push bank [] step ts = refl
steps_taken-push bank (other ∷ steps) step ts = steps_taken-push bank steps step (step_taken bank other ts)

pub stack_of-push : (bank : Content) (steps : List Step) (step : Step) → stack_of bank (steps ++ step ∷ []) ≡ step_taken bank step (stack_of bank steps)
stack_of-push bank steps step = steps_taken-push bank steps step []

-- the terms on the stack, joined as many times as it takes
pub joined : (f : Name) (none t : Term) (ts rest : List Term) → called_times f (length ts) (pushed (t ∷ ts) rest) ≡ nest f none (t ∷ ts) ∷ rest
joined f none t [] rest = refl
joined f none t (u ∷ ts) rest = ap (called f 2) (joined f none u ts (t ∷ rest))

pub joined_all : (f : Name) (none : Term) (ts rest : List Term) (count : ℕ) → (count ≡ 0 → ⊥) → length ts ≡ count → called_times f (count - 1) (pushed ts rest) ≡ nest f none ts ∷ rest
joined_all f none [] rest count some is = absurd (some (sym is))
joined_all f none (t ∷ ts) rest count some is =
    let less : count - 1 ≡ length ts = omega (arith, is) in
    ap (λ n. called_times f n (pushed (t ∷ ts) rest)) less ∙ joined f none t ts rest

pub on_ok : {X E : Type 0} (r : Result X E) {A B : Type 0} → (A → B) → OnOk r A → OnOk r B
on_ok (Ok x) f h = f h
on_ok (Err e) f h = tt

reverse_more : (t : Term) (ts rest : List Term) → reverse (t ∷ ts) ++ rest ≡ reverse ts ++ (t ∷ rest)
reverse_more t ts rest = ap (λ xs. xs ++ rest) (reverse_onto ts t []) ∙ append_assoc (reverse ts) (t ∷ []) rest

pub pushed_is : (ts rest : List Term) → pushed ts rest ≡ reverse ts ++ rest
pushed_is [] rest = refl
pushed_is (t ∷ ts) rest = pushed_is ts (t ∷ rest) ∙ sym (reverse_more t ts rest)

pub called_of : (f : Name) (vs ts rest : List Term) (n : ℕ) → length vs ≡ n → reverse vs ≡ ts → called f n (vs ++ rest) ≡ call f ts ∷ rest
called_of f vs ts rest n size back =
    let first : take (length vs) (vs ++ rest) ≡ vs = take-append_seam vs rest in
    let last : drop (length vs) (vs ++ rest) ≡ rest = drop-append_seam vs rest in
    ap (λ m. called f m (vs ++ rest)) (sym size) ∙ (rw (first, last, back) refl)

-- a call of the terms that were put last
pub called-pushed : (f : Name) (ts rest : List Term) (n : ℕ) → length ts ≡ n → called f n (pushed ts rest) ≡ call f ts ∷ rest
called-pushed f ts rest n count =
    ap (called f n) (pushed_is ts rest) ∙ called_of f (reverse ts) ts rest n (length-reverse ts ∙ count) (reverse-reverse ts)

pub if_ok : {X E : Type 0} (r : Result X E) {P Q : X → Type 0} → ((x : X) → P x → Q x) → IfOk r P → IfOk r Q
if_ok (Ok x) f h = f x h
if_ok (Err e) f h = tt
