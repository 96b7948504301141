-- What has begun goes on.
use Rattle.std.proofs.Common.{◌≡◌, ℕ, zero, suc, ◌+◌, ◌<◌, Bool, true, false, List, [], ◌∷◌, ◌++◌, length, refl, ap, sym, ◌∙◌, subst, arith, append_assoc, append-nil, inl, inr, nat_eq}
use Rattle.std.specs.Prelude.{IsTrue, not, ◌&&◌, ◌≢◌}
use Rattle.std.specs.List.{list_all}
use Rattle.std.proofs.lemmas.Grind.{common_steps}
use Rattle.std.proofs.lemmas.Bool.{eqb-true}
use Rattle.std.proofs.lemmas.Bool.Decides.{nat_tests}
use Rattle.nq_form.specs.Form.{text, push}
use Rattle.nq_form.specs.Bytes.{is_constituent}
use Rattle.nq_form.specs.Blank.{is_no_line_end, line as line_blank, block as block_blank, Comment, Commenting, Quotes, empty, plain, escaped}
use Rattle.nq_form.specs.Grammar.{Items, string as string_item, Seam, fault, Reads, sharp as sharp_reads}
use Rattle.nq_form.specs.Machine.{Stack, Mode, word, sharp, line, block, string, outer_of, takes, give, line_step, sharp_step, block_end, block_step, string_step, grow}
use Rattle.nq_form.proofs.Spelling.{not_both, and_front, and_back, closed-last}
use Rattle.nq_form.proofs.Built.{Piece, After, after-as, built-blank, built-give, opening-of}
use Rattle.nq_form.proofs.Commented.{Carries, carries-start, carries-close, carries-open, carries-other, comment-whole, whole_comments, cut_comments, quotes-more}
use Rattle.nq_form.proofs.Stepping.{Going, nothing, in_token, in_sharp, in_line, in_block, in_string, in_escape, Standing, IsRight, closed-standing}

and-map : (a b c : Bool) → (IsTrue b → IsTrue c) → IsTrue (a && b) → IsTrue (a && c)
and-map true b c f h = f h
and-map false b c f h = h

list_all-last : (p : ℕ → Bool) (xs : List ℕ) (x : ℕ) → IsTrue (list_all p xs) → IsTrue (p x) → IsTrue (list_all p (xs ++ x ∷ []))
list_all-last p [] x h k = grind (arith, common_steps)
list_all-last p (y ∷ ys) x h k = and-map (p y) _ _ (λ r. list_all-last p ys x r k) h

is_not : (a b : ℕ) → nat_eq a b ≡ false → a ≢ b
is_not a b e = grind (arith, nat_tests)

module _ (base levels limit : ℕ) (k : Stack) where
  -- one byte more of what has begun
  grown : (m : Mode) (t before begun : List ℕ) (b : ℕ) → t ≡ before ++ begun → After base levels k before → Seam before (begun ++ b ∷ []) → Going base k (length before) m (begun ++ b ∷ []) → Standing base levels k m (t ++ b ∷ [])
  grown m t before begun b e a s g =
      record { before = before; begun = begun ++ b ∷ []; text = ap (λ (z : List ℕ). z ++ b ∷ []) e ∙ append_assoc before begun (b ∷ []); after = a; seam = s; going = g }

  module _ (t : List ℕ) (b : ℕ) where
    -- a token
    pub grow-right : (p : ℕ) (w : List ℕ) → Standing base levels k (word p w) t → is_constituent b ≡ true → Standing base levels k (grow (base + length t) p w b) (t ++ b ∷ [])
    grow-right p w s c = at s.before s.begun (word p w) p w refl s.text s.after s.seam s.going
      where
        here : (before : List ℕ) → t ≡ before ++ [] → before ≡ t
        here before e = sym (e ∙ append-nil before)

        at : (before begun : List ℕ) (m : Mode) (p : ℕ) (w : List ℕ) → m ≡ word p w → t ≡ before ++ begun → After base levels k before → Seam before begun → Going base k (length before) m begun
            → Standing base levels k (grow (base + length t) p w b) (t ++ b ∷ [])
        at before begun m p [] i e a (inl d) nothing =
            let place : base + length before ≡ base + length t = ap (λ (z : List ℕ). base + length z) (here before e) in
            grown (word (base + length t) (b ∷ [])) t before [] b e a (inl d) (subst (λ (z : ℕ). Going base k (length before) (word z (b ∷ [])) (b ∷ [])) place (in_token b [] (list_all-last is_constituent [] b refl c)))
        at before begun m p [] i e a (inr d) nothing = absurd (omega (arith, d.1))
        at before begun m p (x ∷ w) i e a s nothing = cc
        at before begun m p [] i e a s (in_token x y h) = cc
        at before begun m p (x ∷ w) i e a (inl d) (in_token y v h) =
            let first : y ≡ x = cc in
            let rest : v ≡ w = cc in
            let place : base + length before ≡ p = cc in
            let word_is : Going base k (length before) (word (base + length before) (y ∷ (v ++ b ∷ []))) (y ∷ (v ++ b ∷ [])) = in_token y (v ++ b ∷ []) (list_all-last is_constituent (y ∷ v) b h c) in
            let placed : Going base k (length before) (word p (y ∷ (v ++ b ∷ []))) (y ∷ (v ++ b ∷ [])) = subst (λ (z : ℕ). Going base k (length before) (word z (y ∷ (v ++ b ∷ []))) (y ∷ (v ++ b ∷ []))) place word_is in
            let mode_is : word p (y ∷ (v ++ b ∷ [])) ≡ word p (x ∷ (w ++ b ∷ [])) = cc in
            grown (word p (x ∷ (w ++ b ∷ []))) t before (y ∷ v) b e a (inl d) (subst (λ (z : Mode). Going base k (length before) z (y ∷ (v ++ b ∷ []))) mode_is placed)
        at before begun m p (x ∷ w) i e a (inr d) (in_token y v h) = absurd (not_both (is_constituent y) (and_front _ _ h) d.0)
        at before begun m p w i e a s in_sharp = cc
        at before begun m p w i e a s (in_line c h) = cc
        at before begun m p w i e a s (in_block c h j) = cc
        at before begun m p w i e a s (in_string h q) = cc
        at before begun m p w i e a s (in_escape h q) = cc

    module _ (lt : length t < limit) where
      -- behind a sharp sign
      sharp-at : (bar : Bool) (before : List ℕ) → nat_eq b 124 ≡ bar → t ≡ before ++ 35 ∷ [] → After base levels k before → IsRight base levels limit (t ++ b ∷ []) (sharp_step bar (base + length before) k)
      sharp-at true before e i a =
          let same : b ≡ 124 = eqb-true b 124 e in
          grown (block (base + length before) 0 0) t before (35 ∷ []) b i a (inr (refl, omega arith))
          (subst (λ (z : ℕ). Going base k (length before) (block (base + length before) 0 0) (35 ∷ z ∷ [])) (sym same) (in_block [] (carries-start Comment whole_comments) (carries-start Commenting cut_comments)))
      sharp-at false before e i a = λ more.
          let o = opening-of base k.frames k.forms k.depth before a.built in
          let joined : before ++ 35 ∷ (b ∷ more) ≡ (t ++ b ∷ []) ++ more = sym (ap (λ (z : List ℕ). (z ++ b ∷ []) ++ more) i ∙ regroup before b more) in
          let short : length (before ++ 35 ∷ []) < limit = subst (λ (z : List ℕ). length z < limit) i lt in (
            length before,
            refl,
            subst (λ (z : List ℕ). Reads levels limit z (outer_of k) (fault 2 (length before))) joined
                (sharp_reads (b ∷ more) o.is a.all (ap not e) (omega (arith, short), inr short)),
          )
        where
          regroup : (x : List ℕ) (b : ℕ) (m : List ℕ) → ((x ++ 35 ∷ []) ++ b ∷ []) ++ m ≡ x ++ 35 ∷ (b ∷ m)
          regroup x b m = grind (arith, common_steps)

      pub sharp-right : (p : ℕ) → Standing base levels k (sharp p) t → IsRight base levels limit (t ++ b ∷ []) (sharp_step (nat_eq b 124) p k)
      sharp-right p s = at s.before s.begun (sharp p) refl s.text s.after s.going
        where
          at : (before begun : List ℕ) (m : Mode) → m ≡ sharp p → t ≡ before ++ begun → After base levels k before → Going base k (length before) m begun → IsRight base levels limit (t ++ b ∷ []) (sharp_step (nat_eq b 124) p k)
          at before begun m i e a in_sharp =
              let place : base + length before ≡ p = cc in
              subst (λ (z : ℕ). IsRight base levels limit (t ++ b ∷ []) (sharp_step (nat_eq b 124) z k)) place (sharp-at (nat_eq b 124) before refl e a)
          at before begun m i e a nothing = cc
          at before begun m i e a (in_token x w h) = cc
          at before begun m i e a (in_line c h) = cc
          at before begun m i e a (in_block c h j) = cc
          at before begun m i e a (in_string h q) = cc
          at before begun m i e a (in_escape h q) = cc

      -- a comment to the end of its line
      line-at : (last : Bool) (before c : List ℕ) → nat_eq b 10 ≡ last → t ≡ before ++ 59 ∷ c → After base levels k before → IsTrue (list_all is_no_line_end c) → IsRight base levels limit (t ++ b ∷ []) (line_step last k)
      line-at true before c e i a h =
          let same : b ≡ 10 = eqb-true b 10 e in
          let joined : before ++ (59 ∷ c ++ 10 ∷ []) ≡ t ++ b ∷ [] = sym (append_assoc before (59 ∷ c) (10 ∷ [])) ∙ ap (λ (z : List ℕ). z ++ 10 ∷ []) (sym i) ∙ ap (λ (z : ℕ). t ++ z ∷ []) (sym same) in
          closed-standing base levels limit k 0 (t ++ b ∷ [])
          (after-as base levels _ _ _ joined (record { built = built-blank base k.frames k.forms k.depth before (59 ∷ c ++ 10 ∷ []) a.built (line_blank c h); all = a.all }))
          (closed-last t b (subst (λ (z : ℕ). IsTrue (not (is_constituent z))) (sym same) refl))
      line-at false before c e i a h = grown line t before (59 ∷ c) b i a (inr (refl, omega arith)) (in_line (c ++ b ∷ []) (list_all-last is_no_line_end c b h (ap not e)))

      pub line-right : Standing base levels k line t → IsRight base levels limit (t ++ b ∷ []) (line_step (nat_eq b 10) k)
      line-right s = at s.before s.begun line refl s.text s.after s.going
        where
          at : (before begun : List ℕ) (m : Mode) → m ≡ line → t ≡ before ++ begun → After base levels k before → Going base k (length before) m begun → IsRight base levels limit (t ++ b ∷ []) (line_step (nat_eq b 10) k)
          at before begun m i e a (in_line c h) = line-at (nat_eq b 10) before c refl e a h
          at before begun m i e a nothing = cc
          at before begun m i e a (in_token x w h) = cc
          at before begun m i e a in_sharp = cc
          at before begun m i e a (in_block c h j) = cc
          at before begun m i e a (in_string h q) = cc
          at before begun m i e a (in_escape h q) = cc

      -- a nested comment
      block-end : (n q : ℕ) (before c : List ℕ) → t ≡ before ++ 35 ∷ 124 ∷ c → After base levels k before → Carries Comment n q c → Carries Commenting n q c → q ≡ 124 → b ≡ 35 → IsRight base levels limit (t ++ b ∷ []) (block_end n (base + length before) k)
      block-end zero q before c i a h j e f =
          let joined : before ++ (35 ∷ 124 ∷ (c ++ 35 ∷ [])) ≡ t ++ b ∷ [] = sym (append_assoc before (35 ∷ 124 ∷ c) (35 ∷ [])) ∙ ap (λ (z : List ℕ). z ++ 35 ∷ []) (sym i) ∙ ap (λ (z : ℕ). t ++ z ∷ []) (sym f) in
          closed-standing base levels limit k 0 (t ++ b ∷ [])
          (after-as base levels _ _ _ joined (record { built = built-blank base k.frames k.forms k.depth before (35 ∷ 124 ∷ (c ++ 35 ∷ [])) a.built (block_blank (comment-whole q c h e)); all = a.all }))
          (closed-last t b (subst (λ (z : ℕ). IsTrue (not (is_constituent z))) (sym f) refl))
      block-end (suc n) q before c i a h j e f =
          grown (block (base + length before) n 0) t before (35 ∷ 124 ∷ c) b i a (inr (refl, omega arith))
          (subst (λ (z : ℕ). Going base k (length before) (block (base + length before) n 0) (35 ∷ 124 ∷ (c ++ z ∷ []))) (sym f)
          (in_block (c ++ 35 ∷ []) (carries-close Comment whole_comments n q c h e) (carries-close Commenting cut_comments n q c j e)))

      block-at : (x y : Bool) (n q : ℕ) (before c : List ℕ) → (nat_eq q 124 && nat_eq b 35) ≡ x → (nat_eq q 35 && nat_eq b 124) ≡ y → t ≡ before ++ 35 ∷ 124 ∷ c → After base levels k before → Carries Comment n q c → Carries Commenting n q c
          → IsRight base levels limit (t ++ b ∷ []) (block_step x y (base + length before) n k b)
      block-at true y n q before c e f i a h j = block-end n q before c i a h j (eqb-true q 124 (and_front _ _ e)) (eqb-true b 35 (and_back (nat_eq q 124) _ e))
      block-at false true n q before c e f i a h j =
          let first : q ≡ 35 = eqb-true q 35 (and_front _ _ f) in
          let second : b ≡ 124 = eqb-true b 124 (and_back (nat_eq q 35) _ f) in
          grown (block (base + length before) (suc n) 0) t before (35 ∷ 124 ∷ c) b i a (inr (refl, omega arith))
          (subst (λ (z : ℕ). Going base k (length before) (block (base + length before) (suc n) 0) (35 ∷ 124 ∷ (c ++ z ∷ []))) (sym second)
          (in_block (c ++ 124 ∷ []) (carries-open Comment whole_comments n q c h first) (carries-open Commenting cut_comments n q c j first)))
      block-at false false n q before c e f i a h j =
          grown (block (base + length before) n b) t before (35 ∷ 124 ∷ c) b i a (inr (refl, omega arith))
          (in_block (c ++ b ∷ []) (carries-other Comment whole_comments n q c b h e f) (carries-other Commenting cut_comments n q c b j e f))

      pub block-right : (p n q : ℕ) → Standing base levels k (block p n q) t → IsRight base levels limit (t ++ b ∷ []) (block_step (nat_eq q 124 && nat_eq b 35) (nat_eq q 35 && nat_eq b 124) p n k b)
      block-right p n q s = at s.before s.begun (block p n q) refl s.text s.after s.going
        where
          at : (before begun : List ℕ) (m : Mode) → m ≡ block p n q → t ≡ before ++ begun → After base levels k before → Going base k (length before) m begun
              → IsRight base levels limit (t ++ b ∷ []) (block_step (nat_eq q 124 && nat_eq b 35) (nat_eq q 35 && nat_eq b 124) p n k b)
          at before begun m i e a (in_block {m = l} {q = r} c h j) =
              let place : base + length before ≡ p = cc in
              let depth : l ≡ n = cc in
              let last : r ≡ q = cc in
              let whole_c : Carries Comment n q c = subst (λ (z : ℕ). Carries Comment z q c) depth (subst (λ (z : ℕ). Carries Comment l z c) last h) in
              let cut_c : Carries Commenting n q c = subst (λ (z : ℕ). Carries Commenting z q c) depth (subst (λ (z : ℕ). Carries Commenting l z c) last j) in
              subst (λ (z : ℕ). IsRight base levels limit (t ++ b ∷ []) (block_step (nat_eq q 124 && nat_eq b 35) (nat_eq q 35 && nat_eq b 124) z n k b)) place
              (block-at (nat_eq q 124 && nat_eq b 35) (nat_eq q 35 && nat_eq b 124) n q before c refl refl e a whole_c cut_c)
          at before begun m i e a nothing = cc
          at before begun m i e a (in_token x w h) = cc
          at before begun m i e a in_sharp = cc
          at before begun m i e a (in_line c h) = cc
          at before begun m i e a (in_string h z) = cc
          at before begun m i e a (in_escape h z) = cc

      -- a string
      string-at : (q e : Bool) (before s bytes : List ℕ) → nat_eq b 34 ≡ q → nat_eq b 92 ≡ e → t ≡ before ++ 34 ∷ s → After base levels k before → IsTrue (takes k) → Quotes s bytes
          → IsRight base levels limit (t ++ b ∷ []) (string_step false q e (base + length before) bytes k b)
      string-at true e before s bytes f g i a h z =
          let same : b ≡ 34 = eqb-true b 34 f in
          let joined : before ++ (34 ∷ s ++ 34 ∷ []) ≡ t ++ b ∷ [] = sym (append_assoc before (34 ∷ s) (34 ∷ [])) ∙ ap (λ (y : List ℕ). y ++ 34 ∷ []) (sym i) ∙ ap (λ (y : ℕ). t ++ y ∷ []) (sym same) in
          let piece : Piece k.depth (34 ∷ s ++ 34 ∷ []) (text bytes) =
          record { adds = λ x fs p y. subst (λ (u : List ℕ). Items k.depth u (push fs (text bytes))) (append_assoc x (34 ∷ s) (34 ∷ [])) (string_item p z) } in
          closed-standing base levels limit (give k (text bytes)) 0 (t ++ b ∷ [])
          (after-as base levels _ _ _ joined (built-give base levels k.frames k.forms k.depth before (34 ∷ s ++ 34 ∷ []) (text bytes) a.built a.all h piece (inr refl)))
          (closed-last t b (subst (λ (y : ℕ). IsTrue (not (is_constituent y))) (sym same) refl))
      string-at false true before s bytes f g i a h z =
          let same : b ≡ 92 = eqb-true b 92 g in
          grown (string (base + length before) bytes true) t before (34 ∷ s) b i a (inr (refl, omega arith))
          (subst (λ (y : ℕ). Going base k (length before) (string (base + length before) bytes true) (34 ∷ s ++ y ∷ [])) (sym same) (in_escape h z))
      string-at false false before s bytes f g i a h z =
          grown (string (base + length before) (bytes ++ b ∷ []) false) t before (34 ∷ s) b i a (inr (refl, omega arith))
          (in_string h (quotes-more s bytes (b ∷ []) (b ∷ []) z (plain b (is_not b 34 f) (is_not b 92 g) empty)))

      escape-at : (q e : Bool) (before s bytes : List ℕ) → t ≡ before ++ (34 ∷ s ++ 92 ∷ []) → After base levels k before → IsTrue (takes k) → Quotes s bytes
          → IsRight base levels limit (t ++ b ∷ []) (string_step true q e (base + length before) bytes k b)
      escape-at q e before s bytes i a h z =
          let more : Going base k (length before) (string (base + length before) (bytes ++ b ∷ []) false) (34 ∷ (s ++ 92 ∷ b ∷ [])) = in_string h (quotes-more s bytes (92 ∷ b ∷ []) (b ∷ []) z (escaped b empty)) in
          let joined : 34 ∷ (s ++ 92 ∷ b ∷ []) ≡ (34 ∷ s ++ 92 ∷ []) ++ b ∷ [] = ap (λ (y : List ℕ). 34 ∷ y) (sym (append_assoc s (92 ∷ []) (b ∷ []))) in
          grown (string (base + length before) (bytes ++ b ∷ []) false) t before (34 ∷ s ++ 92 ∷ []) b i a (inr (refl, omega arith))
          (subst (λ (y : List ℕ). Going base k (length before) (string (base + length before) (bytes ++ b ∷ []) false) y) joined more)

      pub string-right : (p : ℕ) (bytes : List ℕ) (escape : Bool) → Standing base levels k (string p bytes escape) t → IsRight base levels limit (t ++ b ∷ []) (string_step escape (nat_eq b 34) (nat_eq b 92) p bytes k b)
      string-right p bytes escape s = at s.before s.begun (string p bytes escape) refl s.text s.after s.going
        where
          at : (before begun : List ℕ) (m : Mode) → m ≡ string p bytes escape → t ≡ before ++ begun → After base levels k before → Going base k (length before) m begun
              → IsRight base levels limit (t ++ b ∷ []) (string_step escape (nat_eq b 34) (nat_eq b 92) p bytes k b)
          at before begun m i e a (in_string {s = s} {bytes = y} h q) =
              let place : base + length before ≡ p = cc in
              let same : y ≡ bytes = cc in
              let no : false ≡ escape = cc in
              subst (λ (z : Bool). IsRight base levels limit (t ++ b ∷ []) (string_step z (nat_eq b 34) (nat_eq b 92) p bytes k b)) no
              (subst (λ (z : List ℕ). IsRight base levels limit (t ++ b ∷ []) (string_step false (nat_eq b 34) (nat_eq b 92) p z k b)) same
              (subst (λ (z : ℕ). IsRight base levels limit (t ++ b ∷ []) (string_step false (nat_eq b 34) (nat_eq b 92) z y k b)) place
              (string-at (nat_eq b 34) (nat_eq b 92) before s y refl refl e a h q)))
          at before begun m i e a (in_escape {s = s} {bytes = y} h q) =
              let place : base + length before ≡ p = cc in
              let same : y ≡ bytes = cc in
              let yes : true ≡ escape = cc in
              subst (λ (z : Bool). IsRight base levels limit (t ++ b ∷ []) (string_step z (nat_eq b 34) (nat_eq b 92) p bytes k b)) yes
              (subst (λ (z : List ℕ). IsRight base levels limit (t ++ b ∷ []) (string_step true (nat_eq b 34) (nat_eq b 92) p z k b)) same
              (subst (λ (z : ℕ). IsRight base levels limit (t ++ b ∷ []) (string_step true (nat_eq b 34) (nat_eq b 92) z y k b)) place
              (escape-at (nat_eq b 34) (nat_eq b 92) before s y e a h q)))
          at before begun m i e a nothing = cc
          at before begun m i e a (in_token x w h) = cc
          at before begun m i e a in_sharp = cc
          at before begun m i e a (in_line c h) = cc
          at before begun m i e a (in_block c h j) = cc
