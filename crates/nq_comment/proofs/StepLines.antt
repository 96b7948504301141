-- The lines of steps, one step after another.
use Rattle.std.proofs.Common.{◌≡◌, ◌∙◌, ◌+◌, ◌<◌, ℕ, List, [], ◌∷◌, ◌++◌, length, get_or, take, append-nil, append_assoc, ap, sym, arith}
use Rattle.std.proofs.lemmas.List.{take_more, map_push, length-map, length-take-le}
use Rattle.nq_comment.specs.Reports as model
use Rattle.nq_comment.specs.declared.step.ShownStep.{ShownStep}
use Rattle.nq_comment.specs.ReportViews.{step_of, steps_of}
use Rattle.nq_comment.specs.Text.{step_line, step_lines_from}

-- the line of a step behind the lines of others
steps_push : (n : ℕ) (xs : List model.ShownStep) (s : model.ShownStep) → step_lines_from n (xs ++ s ∷ []) ≡ step_lines_from n xs ++ step_line (n + length xs) s
steps_push n [] s = append-nil (step_line n s) ∙ ap (λ (k : ℕ). step_line k s) (omega arith)
steps_push n (x ∷ xs) s =
    ap (λ (t : List ℕ). step_line n x ++ t) (steps_push (n + 1) xs s ∙ ap (λ (k : ℕ). step_lines_from (n + 1) xs ++ step_line k s) (omega arith))
    ∙ sym (append_assoc (step_line n x) (step_lines_from (n + 1) xs) (step_line (n + length (x ∷ xs)) s))

-- one step more of those of a slice
pub steps_more : (steps : List ShownStep) (i : ℕ) (d : ShownStep) → i < length steps →
    step_lines_from 1 (steps_of (take (i + 1) steps)) ≡ step_lines_from 1 (steps_of (take i steps)) ++ step_line (i + 1) (step_of (get_or steps i d))
steps_more steps i d lt =
    let long : length (steps_of (take i steps)) ≡ i = length-map (take i steps) step_of ∙ length-take-le i steps (omega arith) in
    ap (λ (xs : List ShownStep). step_lines_from 1 (steps_of xs)) (take_more steps i d lt)
    ∙ ap (step_lines_from 1) (map_push step_of (take i steps) (get_or steps i d))
    ∙ steps_push 1 (steps_of (take i steps)) (step_of (get_or steps i d))
    ∙ ap (λ (k : ℕ). step_lines_from 1 (steps_of (take i steps)) ++ step_line k (step_of (get_or steps i d))) (omega (arith, long))

-- the line of this step, put behind the lines of those before it
pub step_put : (steps : List ShownStep) (i number : ℕ) (d : ShownStep) (old line new : List ℕ) → i < length steps → old ≡ step_lines_from 1 (steps_of (take i steps)) → number ≡ i + 1 →
    d ≡ get_or steps i d → line ≡ step_line number (step_of d) → new ≡ old ++ line → new ≡ step_lines_from 1 (steps_of (take (i + 1) steps))
step_put steps i number d old line new lt before counted is here put =
    put ∙ ap (λ (t : List ℕ). t ++ line) before
    ∙ ap (λ (t : List ℕ). step_lines_from 1 (steps_of (take i steps)) ++ t)
    (here ∙ ap (λ (k : ℕ). step_line k (step_of d)) counted ∙ ap (λ (s : ShownStep). step_line (i + 1) (step_of s)) is)
    ∙ sym (steps_more steps i d lt)
