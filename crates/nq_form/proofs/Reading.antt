-- The spelling of a form is read as that form.
use Rattle.std.proofs.Common.{◌≡◌, ℕ, zero, suc, ◌-◌, ◌^◌, ◌<◌, ◌≤◌, Bool, true, false, List, [], ◌∷◌, ◌++◌, refl, ap, sym, subst, append_assoc, append-nil, arith, cond}
use Rattle.std.specs.Prelude.{IsTrue, not, ◌&&◌, map}
use Rattle.std.specs.List.{list_all}
use Rattle.std.specs.Fmt.{decimal}
use Rattle.std.proofs.lemmas.Fmt.{decimal_is_IsNumeral_wide}
use Rattle.std.proofs.lemmas.Grind.{common_steps}
use Rattle.nq_form.specs.Form.{Form, Forms, symbol, numeral, text, quoted, listed, end, dotted, next, push, append}
use Rattle.nq_form.specs.Bytes.{is_constituent, is_between, is_closed, upper}
use Rattle.nq_form.specs.Token.{IsSymbol, Writes, IsNumber, plain, minus, name, number}
use Rattle.nq_form.specs.Blank.{separator}
use Rattle.nq_form.specs.Grammar.{Items, none, blank, token, quote, nested, tailed}
use Rattle.nq_form.specs.Spelling.{spelled, spelled_rest, spelled_number, nesting, nesting_of_all, is_capital, IsWritten, IsPlain, AllPlain, SpellingIsRead}

and_left : (a b : Bool) → IsTrue (a && b) → IsTrue a
and_left true b h = refl
and_left false b h = h

and_right : (a b : Bool) → IsTrue (a && b) → IsTrue b
and_right true b h = h
and_right false b h = cc

and_true : (a b : Bool) → IsTrue a → IsTrue b → IsTrue (a && b)
and_true true b g h = h
and_true false b g h = g

not_true : (b : Bool) → IsTrue (not b) → b ≡ false
not_true true h = cc
not_true false h = refl

all_constituents : (w : List ℕ) → IsTrue (list_all is_capital w) → IsTrue (list_all is_constituent w)
all_constituents [] h = refl
all_constituents (b ∷ bs) h = and_true (is_constituent b) _ (and_left (is_constituent b) _ (and_left (is_capital b) _ h)) (all_constituents bs (and_right (is_capital b) _ h))

upper_same : (w : List ℕ) → IsTrue (list_all is_capital w) → map upper w ≡ w
upper_same [] h = refl
upper_same (b ∷ bs) h =
    let one : upper b ≡ b = ap (λ z. cond z (b - 32) b) (not_true (is_between 97 122 b) (and_right (is_constituent b) _ (and_left (is_capital b) _ h))) in
    rw (one, upper_same bs (and_right (is_capital b) _ h)) refl

append-end : (fs : Forms) → append fs end ≡ fs
append-end end = refl
append-end (dotted f) = refl
append-end (next f fs) = ap (λ (z : Forms). next f z) (append-end fs)

closed-append : (t u : List ℕ) (b : ℕ) → IsTrue (is_closed (b ∷ u)) → IsTrue (is_closed (t ++ b ∷ u))
closed-append [] u b h = h
closed-append (a ∷ []) u b h = h
closed-append (a ∷ c ∷ t) u b h = closed-append (c ∷ t) u b h

written : (n : ℕ) → n < 2 ^ 128 → Writes (decimal n) n
written n h = let d = decimal_is_IsNumeral_wide n (omega arith) in record { digits_only = d.0; value = d.1; narrow = h }

number_read : (negative : Bool) (n : ℕ) → IsWritten negative n → IsNumber (spelled_number negative n) negative n
number_read false n h = plain (written n h)
number_read true n h = minus (written n h.1) h.0

append-push : (fs gs : Forms) (f : Form) → append (push fs f) gs ≡ append fs (next f gs)
append-push end gs f = refl
append-push (dotted g) gs f = refl
append-push (next g fs) gs f = ap (λ (z : Forms). next g z) (append-push fs gs f)

end_seam : (t u : List ℕ) → t ++ 40 ∷ (u ++ []) ++ 41 ∷ [] ≡ t ++ 40 ∷ u ++ 41 ∷ []
end_seam t u = rw (append-nil u) refl

dot_seam : (t u v : List ℕ) → t ++ 40 ∷ (u ++ 32 ∷ []) ++ 46 ∷ (32 ∷ v) ++ 41 ∷ [] ≡ t ++ 40 ∷ (u ++ 32 ∷ 46 ∷ 32 ∷ v) ++ 41 ∷ []
dot_seam t u v = grind (arith, common_steps)

next_seam : (t u v w : List ℕ) → t ++ 40 ∷ (((u ++ 32 ∷ []) ++ v) ++ w) ++ 41 ∷ [] ≡ t ++ 40 ∷ (u ++ ((32 ∷ v) ++ w)) ++ 41 ∷ []
next_seam t u v w = grind (arith, common_steps)

mutual
  unfolding spelled nesting

  -- a form behind a text that no token ends
  form_behind : (f : Form) (levels : ℕ) (t : List ℕ) (fs : Forms) → IsPlain f → nesting f ≤ levels → Items levels t fs → IsTrue (is_closed t) → Items levels (t ++ spelled f) (push fs f)
  form_behind (symbol x) levels t fs p n i c =
      let s : IsSymbol x = record { constituents = all_constituents x p.capitals; front = p.front; short = p.short } in
      subst (λ (z : List ℕ). Items levels (t ++ x) (push fs (symbol z))) (upper_same x p.capitals) (token x i c (name s))
  form_behind (numeral negative n) levels t fs p h i c = token (spelled_number negative n) i c (number (number_read negative n p))
  form_behind (text bytes) levels t fs p n i c = absurd p
  form_behind (quoted f) zero t fs p n i c = absurd (omega arith)
  form_behind (quoted f) (suc levels) t fs p n i c = quote i (form_behind f levels [] end p (omega arith) none refl)
  form_behind (listed fs) zero t gs p n i c = absurd (omega arith)
  form_behind (listed end) (suc levels) t gs p n i c = subst (λ (z : List ℕ). Items (suc levels) z (push gs (listed end))) (append_assoc t (40 ∷ []) (41 ∷ [])) (nested i none)
  form_behind (listed (dotted f)) (suc levels) t gs p n i c = absurd p
  form_behind (listed (next f fs)) (suc levels) t gs p n i c =
      subst (λ (z : List ℕ). Items (suc levels) z (push gs (listed (next f fs)))) (append_assoc t (40 ∷ (spelled f ++ spelled_rest fs)) (41 ∷ []))
      (list_behind fs levels t gs (spelled f) f end p.1 (omega arith) i (form_behind f levels [] end p.0 (omega arith) none refl))

  -- a list, of which the first elements have been read
  list_behind : (fs : Forms) (levels : ℕ) (t : List ℕ) (gs : Forms) (u : List ℕ) (g : Form) (hs : Forms) → AllPlain fs → nesting_of_all fs ≤ levels → Items (suc levels) t gs → Items levels u (next g hs)
      → Items (suc levels) (t ++ 40 ∷ (u ++ spelled_rest fs) ++ 41 ∷ []) (push gs (listed (append (next g hs) fs)))
  list_behind end levels t gs u g hs p n i j =
      subst (λ (z : List ℕ). Items (suc levels) z (push gs (listed (append (next g hs) end)))) (sym (end_seam t u))
      (subst (λ (z : Forms). Items (suc levels) (t ++ 40 ∷ u ++ 41 ∷ []) (push gs (listed z))) (sym (append-end (next g hs))) (nested i j))
  list_behind (dotted f) levels t gs u g hs p n i j =
      subst (λ (z : List ℕ). Items (suc levels) z (push gs (listed (append (next g hs) (dotted f))))) (dot_seam t u (spelled f))
      (tailed i (blank (32 ∷ []) j (separator 32 refl)) (form_behind f levels (32 ∷ []) end p n (blank (32 ∷ []) none (separator 32 refl)) refl) (closed-append u [] 32 refl) refl)
  list_behind (next f fs) levels t gs u g hs p n i j =
      let more : Items levels ((u ++ 32 ∷ []) ++ spelled f) (next g (push hs f)) = form_behind f levels (u ++ 32 ∷ []) (next g hs) p.0 (omega arith) (blank (32 ∷ []) j (separator 32 refl)) (closed-append u [] 32 refl) in
      subst (λ (z : List ℕ). Items (suc levels) z (push gs (listed (append (next g hs) (next f fs))))) (next_seam t u (spelled f) (spelled_rest fs))
      (subst (λ (z : Forms). Items (suc levels) (t ++ 40 ∷ (((u ++ 32 ∷ []) ++ spelled f) ++ spelled_rest fs) ++ 41 ∷ []) (push gs (listed (next g z)))) (append-push hs fs f)
      (list_behind fs levels t gs ((u ++ 32 ∷ []) ++ spelled f) g (push hs f) p.1 (omega arith) i more))

pub spelling_is_read : SpellingIsRead
spelling_is_read levels f p n = form_behind f levels [] end p n none refl
