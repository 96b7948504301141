-- What the machine does with pieces of a text.
use Rattle.std.proofs.Common.{◌≡◌, ℕ, zero, suc, ◌+◌, ◌<◌, ◌≤◌, Bool, true, false, List, [], ◌∷◌, ◌++◌, length, refl, ap, sym, ◌∙◌, arith, append_assoc, append-nil, nat_eq}
use Rattle.std.specs.Prelude.{IsTrue, not, ◌&&◌, ◌||◌, nat_le}
use Rattle.std.specs.List.{list_all}
use Rattle.std.proofs.lemmas.Grind.{common_steps}
use Rattle.std.proofs.lemmas.Bool.Decides.{nat_tests}
use Rattle.nq_form.specs.Form.{Forms}
use Rattle.nq_form.specs.Bytes.{is_separator, is_opening, is_constituent}
use Rattle.nq_form.specs.Blank.{is_no_line_end, makes_pair, Comment, Commenting, outside, cut, closes, opens, other, IsBlank, separator, line as line_blank, block as block_blank, Quotes, empty, plain, escaped}
use Rattle.nq_form.specs.Grammar.{Ending}
use Rattle.nq_form.proofs.Spelling.{is_false, and_front, and_back, separator-apart}
use Rattle.nq_form.specs.Kinds.{Kind}
use Rattle.nq_form.specs.Machine.{Stack, Mode, word, sharp, line, block, string, State, live, stopped, idle, apart, apart_byte, apart_kind, line_step, block_step, string_step, judge, word_step, go, limited, step, run}

pub below_limit : (limit at : ℕ) → at < limit → nat_le limit at ≡ false
below_limit limit at h = grind (arith, nat_tests)

pub differs : (a b : ℕ) → (a ≡ b → ⊥) → nat_eq a b ≡ false
differs a b h = grind (arith, nat_tests)

module _ (kind_of : List ℕ → Kind) (limit : ℕ) where
  pub run-nothing : (at : ℕ) (s : State) → run kind_of limit at s [] ≡ s
  unfolding run
  run-nothing at s = refl

  pub run-first : (at : ℕ) (s : State) (b : ℕ) (t : List ℕ) → run kind_of limit at s (b ∷ t) ≡ run kind_of limit (at + 1) (step kind_of limit at s b) t
  unfolding run
  run-first at s b t = refl

  pub run-append : (at : ℕ) (s : State) (t u : List ℕ) → run kind_of limit at s (t ++ u) ≡ run kind_of limit (at + length t) (run kind_of limit at s t) u
  run-append at s [] u = let e : at ≡ at + length {A = ℕ} [] = omega arith in ap (λ (n : ℕ). run kind_of limit n s u) e ∙ ap (λ (z : State). run kind_of limit (at + length {A = ℕ} []) z u) (sym (run-nothing at s))
  run-append at s (b ∷ t) u =
      let e : at + 1 + length t ≡ at + length (b ∷ t) = grind (arith, common_steps) in
      run-first at s b (t ++ u) ∙ run-append (at + 1) (step kind_of limit at s b) t u
      ∙ ap (λ (n : ℕ). run kind_of limit n (run kind_of limit (at + 1) (step kind_of limit at s b) t) u) e
      ∙ ap (λ (z : State). run kind_of limit (at + length (b ∷ t)) z u) (sym (run-first at s b t))

  pub run-stopped : (at : ℕ) (fs : Forms) (e : Ending) (t : List ℕ) → run kind_of limit at (stopped fs e) t ≡ stopped fs e
  run-stopped at fs e [] = run-nothing at _
  run-stopped at fs e (b ∷ t) = run-first at (stopped fs e) b t ∙ run-stopped (at + 1) fs e t

  pub step-go : (at : ℕ) (k : Stack) (m : Mode) (b : ℕ) → at < limit → step kind_of limit at (live k m) b ≡ go kind_of at k m b
  step-go at k m b h = ap (λ (z : Bool). limited kind_of z at k m b) (below_limit limit at h)

  -- the next byte, below the limit
  pub run-go : (at : ℕ) (k : Stack) (m : Mode) (b : ℕ) (t : List ℕ) → at < limit → run kind_of limit at (live k m) (b ∷ t) ≡ run kind_of limit (at + 1) (go kind_of at k m b) t
  run-go at k m b t h = run-first at (live k m) b t ∙ ap (λ (z : State). run kind_of limit (at + 1) z t) (step-go at k m b h)

  -- a byte that is no constituent ends the token
  pub run-apart : (at : ℕ) (k : Stack) (p : ℕ) (w : List ℕ) (b : ℕ) (t : List ℕ) → at < limit → IsTrue (not (is_constituent b))
      → run kind_of limit at (live k (word p w)) (b ∷ t) ≡ run kind_of limit (at + 1) (apart at (judge kind_of p k w) b) t
  run-apart at k p w b t h c =
      run-go at k (word p w) b t h ∙ ap (λ (z : Bool). run kind_of limit (at + 1) (word_step kind_of z at k p w b) t) (is_false (is_constituent b) c)

  -- the same where the token was ended before
  pub run-idle : (at : ℕ) (k : Stack) (b : ℕ) (t : List ℕ) → at < limit → IsTrue (not (is_constituent b)) → run kind_of limit at (idle k) (b ∷ t) ≡ run kind_of limit (at + 1) (apart_byte at k b) t
  run-idle at k b t h c = run-apart at k 0 [] b t h c

  run-more : (at : ℕ) (k : Stack) (p : ℕ) (c : ℕ) (w v : List ℕ) → at + length v ≤ limit → IsTrue (list_all is_constituent v) → run kind_of limit at (live k (word p (c ∷ w))) v ≡ live k (word p (c ∷ w ++ v))
  run-more at k p c w [] h a = run-nothing at _ ∙ ap (λ (z : List ℕ). live k (word p (c ∷ z))) (sym (append-nil w))
  run-more at k p c w (b ∷ v) h a =
      let lt : at < limit = grind (arith, common_steps) in
      let room : at + 1 + length v ≤ limit = grind (arith, common_steps) in
      let one : is_constituent b ≡ true = and_front _ _ a in
      run-go at k (word p (c ∷ w)) b v lt ∙ ap (λ (z : Bool). run kind_of limit (at + 1) (word_step kind_of z at k p (c ∷ w) b) v) one
      ∙ run-more (at + 1) k p c (w ++ b ∷ []) v room (and_back _ _ a) ∙ ap (λ (z : List ℕ). live k (word p (c ∷ z))) (append_assoc w (b ∷ []) v)

  -- a token is collected
  pub run-word : (at : ℕ) (k : Stack) (b : ℕ) (w : List ℕ) → at + length (b ∷ w) ≤ limit → IsTrue (list_all is_constituent (b ∷ w)) → run kind_of limit at (idle k) (b ∷ w) ≡ live k (word at (b ∷ w))
  run-word at k b w h a =
      let lt : at < limit = grind (arith, common_steps) in
      let room : at + 1 + length w ≤ limit = grind (arith, common_steps) in
      let one : is_constituent b ≡ true = and_front _ _ a in
      run-go at k (word 0 []) b w lt ∙ ap (λ (z : Bool). run kind_of limit (at + 1) (word_step kind_of z at k 0 [] b) w) one ∙ run-more (at + 1) k at b [] w room (and_back _ _ a)

  pub run-line : (at : ℕ) (k : Stack) (c : List ℕ) → at + length c ≤ limit → IsTrue (list_all is_no_line_end c) → run kind_of limit at (live k line) c ≡ live k line
  run-line at k [] h a = run-nothing at _
  run-line at k (b ∷ c) h a =
      let lt : at < limit = grind (arith, common_steps) in
      let room : at + 1 + length c ≤ limit = grind (arith, common_steps) in
      let no_end : nat_eq b 10 ≡ false = is_false (nat_eq b 10) (and_front _ _ a) in
      run-go at k line b c lt ∙ ap (λ (z : Bool). run kind_of limit (at + 1) (line_step z k) c) no_end ∙ run-line (at + 1) k c room (and_back _ _ a)

  apart_pair : (b c : ℕ) (v : List ℕ) → makes_pair b (c ∷ v) ≡ false → (p n : ℕ) (k : Stack) → block_step (nat_eq b 124 && nat_eq c 35) (nat_eq b 35 && nat_eq c 124) p n k c ≡ live k (block p n c)
  apart_pair b c v h p n k = no_pair (nat_eq b 35 && nat_eq c 124) (nat_eq b 124 && nat_eq c 35) h
    where
      no_pair : (o e : Bool) → (o || e) ≡ false → block_step e o p n k c ≡ live k (block p n c)
      no_pair true e h = cc
      no_pair false true h = cc
      no_pair false false h = refl

  pub no_pair-0 : (v : List ℕ) → makes_pair 0 v ≡ false
  no_pair-0 [] = refl
  no_pair-0 (c ∷ v) = refl

  comment-over : (u : List ℕ) → Comment 0 u → u ≡ []
  comment-over u outside = refl

  -- the end of the innermost comment or the outermost
  pub run-comment : (at : ℕ) (k : Stack) (p n q : ℕ) (v : List ℕ) → Comment (suc n) v → makes_pair q v ≡ false → at + length v ≤ limit → run kind_of limit at (live k (block p n q)) v ≡ idle k
  run-comment at k p n q v (closes {n = zero} {v = u} c) e h =
      let lt : at < limit = grind (arith, common_steps) in
      let lt_next : at + 1 < limit = grind (arith, common_steps) in
      run-go at k (block p 0 q) 124 (35 ∷ u) lt ∙ ap (λ (z : State). run kind_of limit (at + 1) z (35 ∷ u)) (apart_pair q 124 (35 ∷ u) e p 0 k)
      ∙ run-go (at + 1) k (block p 0 124) 35 u lt_next ∙ ap (λ (z : List ℕ). run kind_of limit (at + 1 + 1) (idle k) z) (comment-over u c) ∙ run-nothing (at + 1 + 1) (idle k)
  run-comment at k p n q v (closes {n = suc m} {v = u} c) e h =
      let lt : at < limit = grind (arith, common_steps) in
      let lt_next : at + 1 < limit = grind (arith, common_steps) in
      let room : at + 1 + 1 + length u ≤ limit = grind (arith, common_steps) in
      run-go at k (block p (suc m) q) 124 (35 ∷ u) lt ∙ ap (λ (z : State). run kind_of limit (at + 1) z (35 ∷ u)) (apart_pair q 124 (35 ∷ u) e p (suc m) k)
      ∙ run-go (at + 1) k (block p (suc m) 124) 35 u lt_next ∙ run-comment (at + 1 + 1) k p m 0 u c (no_pair-0 u) room
  run-comment at k p n q v (opens {v = u} c) e h =
      let lt : at < limit = grind (arith, common_steps) in
      let lt_next : at + 1 < limit = grind (arith, common_steps) in
      let room : at + 1 + 1 + length u ≤ limit = grind (arith, common_steps) in
      run-go at k (block p n q) 35 (124 ∷ u) lt ∙ ap (λ (z : State). run kind_of limit (at + 1) z (124 ∷ u)) (apart_pair q 35 (124 ∷ u) e p n k)
      ∙ run-go (at + 1) k (block p n 35) 124 u lt_next ∙ run-comment (at + 1 + 1) k p (suc n) 0 u c (no_pair-0 u) room
  run-comment at k p n q v (other {v = u} b f c) e h =
      let lt : at < limit = grind (arith, common_steps) in
      let room : at + 1 + length u ≤ limit = grind (arith, common_steps) in
      run-go at k (block p n q) b u lt ∙ ap (λ (z : State). run kind_of limit (at + 1) z u) (apart_pair q b u e p n k)
      ∙ run-comment (at + 1) k p n b u c (is_false (makes_pair b u) f) room

  -- comments whose end isn't there
  pub run-commenting : (at : ℕ) (k : Stack) (p n q : ℕ) (v : List ℕ) → Commenting (suc n) v → makes_pair q v ≡ false → at + length v ≤ limit
      → (m : ℕ) × (r : ℕ) × (run kind_of limit at (live k (block p n q)) v ≡ live k (block p m r))
  run-commenting at k p n q v cut e h = (n, q, run-nothing at _)
  run-commenting at k p n q v (closes {n = zero} {v = u} c) e h = absurd (commenting-over u c)
    where
      commenting-over : (u : List ℕ) → Commenting 0 u → ⊥
      commenting-over u c = elim c [ ]
  run-commenting at k p n q v (closes {n = suc m} {v = u} c) e h =
      let lt : at < limit = grind (arith, common_steps) in
      let lt_next : at + 1 < limit = grind (arith, common_steps) in
      let room : at + 1 + 1 + length u ≤ limit = grind (arith, common_steps) in
      let more = run-commenting (at + 1 + 1) k p m 0 u c (no_pair-0 u) room in (
        more.0,
        more.1,
        run-go at k (block p (suc m) q) 124 (35 ∷ u) lt ∙ ap (λ (z : State). run kind_of limit (at + 1) z (35 ∷ u)) (apart_pair q 124 (35 ∷ u) e p (suc m) k)
            ∙ run-go (at + 1) k (block p (suc m) 124) 35 u lt_next ∙ more.2,
      )
  run-commenting at k p n q v (opens {v = u} c) e h =
      let lt : at < limit = grind (arith, common_steps) in
      let lt_next : at + 1 < limit = grind (arith, common_steps) in
      let room : at + 1 + 1 + length u ≤ limit = grind (arith, common_steps) in
      let more = run-commenting (at + 1 + 1) k p (suc n) 0 u c (no_pair-0 u) room in (
        more.0,
        more.1,
        run-go at k (block p n q) 35 (124 ∷ u) lt ∙ ap (λ (z : State). run kind_of limit (at + 1) z (124 ∷ u)) (apart_pair q 35 (124 ∷ u) e p n k)
            ∙ run-go (at + 1) k (block p n 35) 124 u lt_next ∙ more.2,
      )
  run-commenting at k p n q v (other {v = u} b f c) e h =
      let lt : at < limit = grind (arith, common_steps) in
      let room : at + 1 + length u ≤ limit = grind (arith, common_steps) in
      let more = run-commenting (at + 1) k p n b u c (is_false (makes_pair b u) f) room in
      (more.0, more.1, run-go at k (block p n q) b u lt ∙ ap (λ (z : State). run kind_of limit (at + 1) z u) (apart_pair q b u e p n k) ∙ more.2)

  pub run-quotes : (at : ℕ) (k : Stack) (p : ℕ) (before : List ℕ) (s bytes : List ℕ) → Quotes s bytes → at + length s ≤ limit → run kind_of limit at (live k (string p before false)) s ≡ live k (string p (before ++ bytes) false)
  run-quotes at k p before s bytes empty h = run-nothing at _ ∙ ap (λ (z : List ℕ). live k (string p z false)) (sym (append-nil before))
  run-quotes at k p before s bytes (plain {s = r} {bytes = more} b no_quote no_slash q) h =
      let lt : at < limit = grind (arith, common_steps) in
      let room : at + 1 + length r ≤ limit = grind (arith, common_steps) in
      run-go at k (string p before false) b r lt
      ∙ ap (λ (z : Bool). run kind_of limit (at + 1) (string_step false z (nat_eq b 92) p before k b) r) (differs b 34 no_quote)
      ∙ ap (λ (z : Bool). run kind_of limit (at + 1) (string_step false false z p before k b) r) (differs b 92 no_slash)
      ∙ run-quotes (at + 1) k p (before ++ b ∷ []) r more q room ∙ ap (λ (z : List ℕ). live k (string p z false)) (append_assoc before (b ∷ []) more)
  run-quotes at k p before s bytes (escaped {s = r} {bytes = more} b q) h =
      let lt : at < limit = grind (arith, common_steps) in
      let lt_next : at + 1 < limit = grind (arith, common_steps) in
      let room : at + 1 + 1 + length r ≤ limit = grind (arith, common_steps) in
      run-go at k (string p before false) 92 (b ∷ r) lt ∙ run-go (at + 1) k (string p before true) b r lt_next
      ∙ run-quotes (at + 1 + 1) k p (before ++ b ∷ []) r more q room ∙ ap (λ (z : List ℕ). live k (string p z false)) (append_assoc before (b ∷ []) more)

  pub run-blank : (at : ℕ) (k : Stack) (v : List ℕ) → IsBlank v → at + length v ≤ limit → run kind_of limit at (idle k) v ≡ idle k
  run-blank at k v (separator b h) room =
      run-idle at k b [] (grind (arith, common_steps)) (separator-apart b h) ∙ ap (λ (z : State). run kind_of limit (at + 1) z []) (blank_byte b h) ∙ run-nothing (at + 1) (idle k)
    where
      blank_byte : (b : ℕ) → IsTrue (is_separator b) → apart_byte at k b ≡ idle k
      blank_byte b h = ap (λ (z : Bool). apart_kind z (is_opening b) (nat_eq b 41) (nat_eq b 59) (nat_eq b 35) at k b) h
  run-blank at k v (line_blank c a) room =
      let lt : at < limit = grind (arith, common_steps) in
      let inside : at + 1 + length c ≤ limit = grind (arith, common_steps) in
      let last : at + 1 + length c < limit = grind (arith, common_steps) in
      run-idle at k 59 (c ++ 10 ∷ []) lt refl ∙ run-append (at + 1) (live k line) c (10 ∷ []) ∙ ap (λ (z : State). run kind_of limit (at + 1 + length c) z (10 ∷ [])) (run-line (at + 1) k c inside a)
      ∙ run-go (at + 1 + length c) k line 10 [] last ∙ run-nothing (at + 1 + length c + 1) (idle k)
  run-blank at k v (block_blank {c = c} h) room =
      let lt : at < limit = grind (arith, common_steps) in
      let lt_next : at + 1 < limit = grind (arith, common_steps) in
      let inside : at + 1 + 1 + length c ≤ limit = grind (arith, common_steps) in
      run-idle at k 35 (124 ∷ c) lt refl ∙ run-go (at + 1) k (sharp at) 124 c lt_next ∙ run-comment (at + 1 + 1) k at 0 0 c h (no_pair-0 c) inside
