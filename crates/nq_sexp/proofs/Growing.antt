-- Which forms stand whole after a step of the machine: those before, or one more.
use Rattle.std.proofs.Common.{◌≡◌, ℕ, zero, suc, ◌+◌, ◌≤◌, arith, Bool, true, false, List, [], ◌∷◌, refl, inl, inr, nat_eq}
use Rattle.std.specs.Prelude.{Option, None, Some, ◌⊎◌, ◌&&◌}
use Rattle.nq_form.specs.Form.{Form, Forms, text, quoted, listed, end, dotted, next, push, append}
use Rattle.nq_form.specs.Bytes.{is_separator, is_opening, is_constituent}
use Rattle.nq_form.specs.Grammar.{takes_dot}
use Rattle.nq_form.specs.Kinds.{Kind, form, single_dot, too_wide, no_token, kind_of}
use Rattle.nq_form.specs.Machine.{Opened, list, dot, mark, Frame, Stack, Mode, word, sharp, line, block, string, State, live, stopped, idle, outer, outer_of, spot_of, put, put_at, takes, given, dotted_at, judged, judge, deeper, opening, opening_kind, close, close_at, close_dot, close_mark, first_list, apart_kind, apart_byte, line_step, sharp_step, block_end, block_step, string_step, grow}
use Rattle.nq_sexp.specs.Modes.{nested_in, settled, stepped, word_stepped}

-- A form was ended outside all that is open.
pub record Ended (fs : Forms) (k : Stack) (m : Mode) : Type 0 where
  pub form : Form
  pub outside : k.frames ≡ []
  pub forms : k.forms ≡ push fs form
  pub idle_is : m ≡ word 0 []

-- and no more comments than these are open around the innermost one
abbrev pub Grown : Forms → ℕ → State → Type 0
Grown fs most (live k m) = ((outer_of k ≡ fs) ⊎ Ended fs k m) × (nested_in m ≤ most)
Grown fs most (stopped gs e) = Unit {0}

put-grown : (most : ℕ) (frames : List Frame) (fs : Forms) (d : ℕ) (g : Form) → Grown (outer frames fs) most (idle (put frames fs d g))
put-grown most [] fs d g = (inr (record { form = g; outside = refl; forms = refl; idle_is = refl }), omega arith)
put-grown most (f ∷ frames) fs d g = at f.opened (put-grown most frames f.forms (suc d) (quoted g))
  where
    at : (o : Opened) → Grown (outer frames f.forms) most (idle (put frames f.forms (suc d) (quoted g))) → Grown (outer frames f.forms) most (idle (put_at o f frames fs d g (put frames f.forms (suc d) (quoted g))))
    at list h = (inl refl, omega arith)
    at dot h = (inl refl, omega arith)
    at mark h = h

judged-grown : (most : ℕ) (kind : Kind) (p : ℕ) (k : Stack) → Grown (outer_of k) most (judged kind p k)
judged-grown most (form g) p k = at (takes k)
  where
    at : (free : Bool) → Grown (outer_of k) most (given free k g)
    at true = put-grown most k.frames k.forms k.depth g
    at false = tt
judged-grown most single_dot p k = at (takes_dot (spot_of k.frames k.forms))
  where
    at : (free : Bool) → Grown (outer_of k) most (dotted_at free p k)
    at true = (inl refl, omega arith)
    at false = tt
judged-grown most too_wide p k = tt
judged-grown most no_token p k = tt

judge-grown : (most p : ℕ) (k : Stack) (w : List ℕ) → Grown (outer_of k) most (judge kind_of p k w)
judge-grown most p k [] = (inl refl, omega arith)
judge-grown most p k (b ∷ w) = judged-grown most (kind_of (b ∷ w)) p k

close_dot-grown : (most : ℕ) (fs : Forms) (p : Frame) (frames : List Frame) (d at : ℕ) → Grown (outer frames p.forms) most (close_dot fs p frames d at)
close_dot-grown most fs p [] d at = tt
close_dot-grown most end p (f ∷ frames) d at = tt
close_dot-grown most (dotted g) p (f ∷ frames) d at = tt
close_dot-grown most (next g gs) p (f ∷ frames) d at = put-grown most frames f.forms (suc d) (listed (append p.forms (dotted g)))

close-grown : (most : ℕ) (frames : List Frame) (fs : Forms) (d at : ℕ) → Grown (outer frames fs) most (close frames fs d at)
close-grown most [] fs d at = tt
close-grown most (f ∷ frames) fs d at = of f.opened
  where
    marked : (o : Option ℕ) → Grown (outer frames f.forms) most (close_mark o (f ∷ frames) fs at)
    marked None = tt
    marked (Some place) = tt

    of : (o : Opened) → Grown (outer frames f.forms) most (close_at o f frames fs d at)
    of list = put-grown most frames f.forms (suc d) (listed fs)
    of dot = close_dot-grown most fs f frames d at
    of mark = marked (first_list frames)

deeper-grown : (most d : ℕ) (what : Opened) (at : ℕ) (k : Stack) → Grown (outer_of k) most (deeper d what at k)
deeper-grown most zero what at k = tt
deeper-grown most (suc d) what at k = (inl refl, omega arith)

apart_kind-grown : (most : ℕ) (s o c l h : Bool) (at : ℕ) (k : Stack) (b : ℕ) → Grown (outer_of k) most (apart_kind s o c l h at k b)
apart_kind-grown most true o c l h at k b = (inl refl, omega arith)
apart_kind-grown most false true c l h at k b = of (takes k)
  where
    kinds : (q m : Bool) → Grown (outer_of k) most (opening_kind q m at k)
    kinds true m = (inl refl, omega arith)
    kinds false true = deeper-grown most k.depth mark at k
    kinds false false = deeper-grown most k.depth list at k

    of : (free : Bool) → Grown (outer_of k) most (opening free at k b)
    of true = kinds (nat_eq b 34) (nat_eq b 39)
    of false = tt
apart_kind-grown most false false true l h at k b = close-grown most k.frames k.forms k.depth at
apart_kind-grown most false false false true h at k b = (inl refl, omega arith)
apart_kind-grown most false false false false true at k b = (inl refl, omega arith)
apart_kind-grown most false false false false false at k b = tt

apart-grown : (most at : ℕ) (k : Stack) (b : ℕ) → Grown (outer_of k) most (apart_byte at k b)
apart-grown most at k b = apart_kind-grown most (is_separator b) (is_opening b) (nat_eq b 41) (nat_eq b 59) (nat_eq b 35) at k b

pub settled-grown : (over : Bool) (k : Stack) (m : Mode) → Grown (outer_of k) (nested_in m) (settled over k m)
settled-grown false k m = (inl refl, omega arith)
settled-grown true k (word p w) = judge-grown 0 p k w
settled-grown true k (sharp p) = (inl refl, omega arith)
settled-grown true k line = (inl refl, omega arith)
settled-grown true k (block p n q) = (inl refl, omega arith)
settled-grown true k (string p bytes e) = (inl refl, omega arith)

pub stepped-grown : (at : ℕ) (k : Stack) (m : Mode) (b : ℕ) → Grown (outer_of k) (nested_in m + 1) (stepped at k m b)
stepped-grown at k (word p w) b = of (is_constituent b)
  where
    token : (w : List ℕ) → Grown (outer_of k) 1 (live k (grow at p w b))
    token [] = (inl refl, omega arith)
    token (c ∷ w) = (inl refl, omega arith)

    of : (c : Bool) → Grown (outer_of k) 1 (word_stepped c at k p w b)
    of true = token w
    of false = apart-grown 1 at k b
stepped-grown at k (sharp p) b = of (nat_eq b 124)
  where
    of : (c : Bool) → Grown (outer_of k) 1 (sharp_step c p k)
    of true = (inl refl, omega arith)
    of false = tt
stepped-grown at k line b = of (nat_eq b 10)
  where
    of : (c : Bool) → Grown (outer_of k) 1 (line_step c k)
    of true = (inl refl, omega arith)
    of false = (inl refl, omega arith)
stepped-grown at k (block p n q) b = of (nat_eq q 124 && nat_eq b 35) (nat_eq q 35 && nat_eq b 124)
  where
    over : (l : ℕ) → Grown (outer_of k) (l + 1) (block_end l p k)
    over zero = (inl refl, omega arith)
    over (suc n) = (inl refl, omega arith)

    of : (x y : Bool) → Grown (outer_of k) (n + 1) (block_step x y p n k b)
    of true y = over n
    of false true = (inl refl, omega arith)
    of false false = (inl refl, omega arith)
stepped-grown at k (string p bytes e) b = of e (nat_eq b 34) (nat_eq b 92)
  where
    of : (x y z : Bool) → Grown (outer_of k) 1 (string_step x y z p bytes k b)
    of true y z = (inl refl, omega arith)
    of false true z = put-grown 1 k.frames k.forms k.depth (text bytes)
    of false false true = (inl refl, omega arith)
    of false false false = (inl refl, omega arith)
