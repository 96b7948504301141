-- Where the machine stands behind whole forms.
use Rattle.std.proofs.Common.{◌≡◌, ℕ, suc, ◌+◌, ◌-◌, ◌<◌, ◌≤◌, Bool, false, List, [], ◌∷◌, ◌++◌, length, refl, ap, sym, ◌∙◌, subst, arith, append_assoc, inl, inr}
use Rattle.std.specs.Prelude.{IsTrue, not, ◌⊎◌}
use Rattle.std.specs.List.{list_all}
use Rattle.std.proofs.lemmas.Grind.{common_steps}
use Rattle.nq_form.specs.Form.{Form, Forms, text, quoted, listed, end, dotted, next, append}
use Rattle.nq_form.specs.Bytes.{is_constituent, is_closed, begins_apart}
use Rattle.nq_form.specs.Token.{Token}
use Rattle.nq_form.specs.Blank.{IsBlank, separator, line as line_blank, block as block_blank, Quotes}
use Rattle.nq_form.specs.Grammar.{Items, none, blank, token, string, quote, nested, tailed, Seam, takes_dot}
use Rattle.nq_form.proofs.Spelling.{not_both, and_front, and_back, separator-apart, closed-back}
use Rattle.nq_form.specs.Kinds.{Kind, form, single_dot}
use Rattle.nq_form.specs.Machine.{Stack, word, string as string_mode, State, live, idle, Opened, list, dot, mark, put, give, takes, opened_on, given, dotted_at, judged, deeper, opening, apart, judge, run, spot_of}
use Rattle.nq_form.proofs.Giving.{give_all, TakesAll, IsProper, items-proper, give-push, takes-front, takes-last, give-depth, list_on, list-takes_all, give-list}
use Rattle.nq_form.proofs.Running.{run-nothing, run-append, run-go, run-apart, run-idle, run-word, run-blank, run-quotes}

pub constituents-open : (b : ℕ) (w : List ℕ) → IsTrue (list_all is_constituent (b ∷ w)) → IsTrue (is_closed (b ∷ w)) → ⊥
constituents-open b [] h k = not_both (is_constituent b) (and_front _ _ h) k
constituents-open b (c ∷ w) h k = constituents-open c w (and_back _ _ h) k

pub blank-front : (v : List ℕ) → IsBlank v → IsTrue (begins_apart v) × (0 < length v)
blank-front v (separator b h) = (separator-apart b h, omega arith)
blank-front v (line_blank c a) = (refl, omega arith)
blank-front v (block_blank c) = (refl, omega arith)

pub front-before : (v x : List ℕ) → IsTrue (begins_apart v) → IsTrue (begins_apart x) → IsTrue (begins_apart (v ++ x))
front-before [] x h k = k
front-before (b ∷ v) x h k = h

-- a token has a first byte
pub record IsToken (kind_of : List ℕ → Kind) (w : List ℕ) (f : Form) : Type 0 where
  pub first : ℕ
  pub rest : List ℕ
  pub bytes : w ≡ first ∷ rest
  pub constituents : IsTrue (list_all is_constituent (first ∷ rest))
  pub kind : kind_of (first ∷ rest) ≡ form f

module _ (kind_of : List ℕ → Kind) (limit : ℕ) where
  -- The text leads from a state to one that stands so when its token is ended.
  pub record Reach (at : ℕ) (s : State) (t : List ℕ) (k : Stack) : Type 0 where
    pub under : Stack
    pub place : ℕ
    pub token : List ℕ
    pub reached : run kind_of limit at s t ≡ live under (word place token)
    pub settled : judge kind_of place under token ≡ idle k
    pub apart : IsTrue (is_closed t) → run kind_of limit at s t ≡ idle k

  pub reach-idle : (at : ℕ) (s : State) (t : List ℕ) (k : Stack) → run kind_of limit at s t ≡ idle k → Reach at s t k
  reach-idle at s t k e = record { under = k; place = 0; token = []; reached = e; settled = refl; apart = λ _. e }

  pub reach-as : (at : ℕ) (s : State) (t : List ℕ) (k l : Stack) → k ≡ l → Reach at s t k → Reach at s t l
  reach-as at s t k l e r = subst (λ (z : Stack). Reach at s t z) e r

  -- behind a text that leads to another state
  pub reach-behind : (at then : ℕ) (s r : State) (t u : List ℕ) (k : Stack) → run kind_of limit at s t ≡ run kind_of limit then r u → (IsTrue (is_closed t) → IsTrue (is_closed u)) → Reach then r u k → Reach at s t k
  reach-behind at then s r t u k e c x = record { under = x.under; place = x.place; token = x.token; reached = e ∙ x.reached; settled = x.settled; apart = λ h. e ∙ x.apart (c h) }

  pub reach-apart : (at : ℕ) (s : State) (t : List ℕ) (k : Stack) (b : ℕ) (u : List ℕ) → Reach at s t k → IsTrue (not (is_constituent b)) → at + length t < limit
      → run kind_of limit at s (t ++ b ∷ u) ≡ run kind_of limit (at + length t) (idle k) (b ∷ u)
  reach-apart at s t k b u r h lt =
      run-append kind_of limit at s t (b ∷ u) ∙ ap (λ (z : State). run kind_of limit (at + length t) z (b ∷ u)) r.reached
      ∙ run-apart kind_of limit (at + length t) r.under r.place r.token b u lt h
      ∙ ap (λ (z : State). run kind_of limit (at + length t + 1) (apart (at + length t) z b) u) r.settled
      ∙ sym (run-idle kind_of limit (at + length t) k b u lt h)

  pub reach-closed : (at : ℕ) (s : State) (t : List ℕ) (k : Stack) (u : List ℕ) → Reach at s t k → IsTrue (is_closed t) → run kind_of limit at s (t ++ u) ≡ run kind_of limit (at + length t) (idle k) u
  reach-closed at s t k u r c = run-append kind_of limit at s t u ∙ ap (λ (z : State). run kind_of limit (at + length t) z u) (r.apart c)

  pub reach-seam : (at : ℕ) (s : State) (t : List ℕ) (k : Stack) (u : List ℕ) → Reach at s t k → Seam t u → at + length (t ++ u) ≤ limit
      → run kind_of limit at s (t ++ u) ≡ run kind_of limit (at + length t) (idle k) u
  reach-seam at s t k u r (inl c) h = reach-closed at s t k u r c
  reach-seam at s t k [] r (inr a) h = absurd (omega (arith, a.1))
  reach-seam at s t k (b ∷ u) r (inr a) h = let lt : at + length t < limit = grind (arith, common_steps) in reach-apart at s t k b u r a.0 lt

  run-string : (at : ℕ) (k : Stack) (s bytes : List ℕ) → Quotes s bytes → IsTrue (takes k) → at + length (34 ∷ s ++ 34 ∷ []) ≤ limit → run kind_of limit at (idle k) (34 ∷ s ++ 34 ∷ []) ≡ idle (give k (text bytes))
  run-string at k s bytes q h room =
      let lt : at < limit = grind (arith, common_steps) in
      let inside : at + 1 + length s ≤ limit = grind (arith, common_steps) in
      let last : at + 1 + length s < limit = grind (arith, common_steps) in
      run-idle kind_of limit at k 34 (s ++ 34 ∷ []) lt refl ∙ ap (λ (z : Bool). run kind_of limit (at + 1) (opening z at k 34) (s ++ 34 ∷ [])) h
      ∙ run-append kind_of limit (at + 1) (live k (string_mode at [] false)) s (34 ∷ [])
      ∙ ap (λ (z : State). run kind_of limit (at + 1 + length s) z (34 ∷ [])) (run-quotes kind_of limit (at + 1) k at [] s bytes q inside)
      ∙ run-go kind_of limit (at + 1 + length s) k (string_mode at bytes false) 34 [] last ∙ run-nothing kind_of limit (at + 1 + length s + 1) _

  -- one level deeper
  pub run-open : (what : Opened) (b at : ℕ) (k : Stack) (u : List ℕ) → at < limit → IsTrue (takes k) → 0 < k.depth → (b ≡ 40) × (what ≡ list) ⊎ ((b ≡ 39) × (what ≡ mark))
      → run kind_of limit at (idle k) (b ∷ u) ≡ run kind_of limit (at + 1) (idle (opened_on what at k (k.depth - 1))) u
  run-open what b at k u lt h some (inl e) =
      let depth : k.depth ≡ suc (k.depth - 1) = omega arith in
      ap (λ (z : ℕ). run kind_of limit at (idle k) (z ∷ u)) e.0 ∙ run-idle kind_of limit at k 40 u lt refl ∙ ap (λ (z : Bool). run kind_of limit (at + 1) (opening z at k 40) u) h
      ∙ ap (λ (z : ℕ). run kind_of limit (at + 1) (deeper z list at k) u) depth ∙ ap (λ (z : Opened). run kind_of limit (at + 1) (idle (opened_on z at k (k.depth - 1))) u) (sym e.1)
  run-open what b at k u lt h some (inr e) =
      let depth : k.depth ≡ suc (k.depth - 1) = omega arith in
      ap (λ (z : ℕ). run kind_of limit at (idle k) (z ∷ u)) e.0 ∙ run-idle kind_of limit at k 39 u lt refl ∙ ap (λ (z : Bool). run kind_of limit (at + 1) (opening z at k 39) u) h
      ∙ ap (λ (z : ℕ). run kind_of limit (at + 1) (deeper z mark at k) u) depth ∙ ap (λ (z : Opened). run kind_of limit (at + 1) (idle (opened_on z at k (k.depth - 1))) u) (sym e.1)

  -- a token
  pub reach-token : (at : ℕ) (k : Stack) (w : List ℕ) (f : Form) → IsToken kind_of w f → IsTrue (takes k) → at + length w ≤ limit → Reach at (idle k) w (give k f)
  reach-token at k w f i h room =
      let short : at + length (i.first ∷ i.rest) ≤ limit = subst (λ (z : List ℕ). at + length z ≤ limit) i.bytes room in
      subst (λ (z : List ℕ). Reach at (idle k) z (give k f)) (sym i.bytes) (record {
        under = k;
        place = at;
        token = i.first ∷ i.rest;
        reached = run-word kind_of limit at k i.first i.rest short i.constituents;
        settled = ap (λ (z : Kind). judged z at k) i.kind ∙ ap (λ (z : Bool). given z k f) h;
        apart = λ c. absurd (constituents-open i.first i.rest i.constituents c);
      })

  pub reach-dot : (at : ℕ) (k : Stack) → kind_of (46 ∷ []) ≡ single_dot → IsTrue (takes_dot (spot_of k.frames k.forms)) → at < limit → Reach at (idle k) (46 ∷ []) (opened_on dot at k k.depth)
  reach-dot at k e h lt = record {
    under = k;
    place = at;
    token = 46 ∷ [];
    reached = run-word kind_of limit at k 46 [] (grind (arith, common_steps)) refl;
    settled = ap (λ (z : Kind). judged z at k) e ∙ ap (λ (z : Bool). dotted_at z at k) h;
    apart = λ c. cc;
  }

  module _ (named : (w : List ℕ) (f : Form) → Token w f → IsToken kind_of w f) (dot_kind : kind_of (46 ∷ []) ≡ single_dot) where
    behind-seam : (t : List ℕ) (b : ℕ) (u : List ℕ) → IsTrue (is_closed (t ++ b ∷ u)) → IsTrue (is_closed u)
    behind-seam t b [] h = refl
    behind-seam t b (c ∷ u) h = closed-back t b (c ∷ u) h

    pub reach-items : (at d : ℕ) (k : Stack) (t : List ℕ) (fs : Forms) → Items d t fs → d ≤ k.depth → TakesAll k fs → at + length t ≤ limit → Reach at (idle k) t (give_all k fs)
    reach-items at d k t fs none low all room = reach-idle at (idle k) [] k (run-nothing kind_of limit at (idle k))
    reach-items at d k t fs (blank {t = u} v p b) low all room =
        let short : at + length u ≤ limit = grind (arith, common_steps) in
        let behind : at + length u + length v ≤ limit = grind (arith, common_steps) in
        reach-idle at (idle k) (u ++ v) (give_all k fs)
        (reach-seam at (idle k) u (give_all k fs) v (reach-items at d k u fs p low all short) (inr (blank-front v b)) room ∙ run-blank kind_of limit (at + length u) (give_all k fs) v b behind)
    reach-items at d k t fs (token {t = u} {fs = gs} {f = f} w p c i) low all room =
        let short : at + length u ≤ limit = grind (arith, common_steps) in
        let behind : at + length u + length w ≤ limit = grind (arith, common_steps) in
        let proper : IsProper gs = items-proper d u gs p in
        let last : Reach (at + length u) (idle (give_all k gs)) w (give (give_all k gs) f) =
        reach-token (at + length u) (give_all k gs) w f (named w f i) (takes-last k gs f proper all) behind in
        reach-as at (idle k) (u ++ w) _ _ (sym (give-push k gs f proper))
        (reach-behind at (at + length u) (idle k) (idle (give_all k gs)) (u ++ w) w _
        (reach-closed at (idle k) u (give_all k gs) w (reach-items at d k u gs p low (takes-front k gs f proper all) short) c) (token-closed u w f (named w f i)) last)
      where
        token-closed : (u w : List ℕ) (f : Form) → IsToken kind_of w f → IsTrue (is_closed (u ++ w)) → IsTrue (is_closed w)
        token-closed u w f i h =
            let more : IsTrue (is_closed (u ++ i.first ∷ i.rest)) = subst (λ (z : List ℕ). IsTrue (is_closed (u ++ z))) i.bytes h in
            subst (λ (z : List ℕ). IsTrue (is_closed z)) (sym i.bytes) (closed-back u i.first i.rest more)
    reach-items at d k t fs (string {t = u} {s = s} {bytes = bytes} {fs = gs} p q) low all room =
        let short : at + length u ≤ limit = grind (arith, common_steps) in
        let behind : at + length u + length (34 ∷ s ++ 34 ∷ []) ≤ limit = grind (arith, common_steps) in
        let all_room : at + length (u ++ (34 ∷ s ++ 34 ∷ [])) ≤ limit = grind (arith, common_steps) in
        let proper : IsProper gs = items-proper d u gs p in
        reach-as at (idle k) _ _ _ (sym (give-push k gs (text bytes) proper))
        (reach-idle at (idle k) (u ++ 34 ∷ s ++ 34 ∷ []) (give (give_all k gs) (text bytes))
        (ap (λ (z : List ℕ). run kind_of limit at (idle k) z) (append_assoc u (34 ∷ s) (34 ∷ []))
        ∙ reach-seam at (idle k) u (give_all k gs) (34 ∷ s ++ 34 ∷ []) (reach-items at d k u gs p low (takes-front k gs (text bytes) proper all) short) (inr (refl, omega arith)) all_room
        ∙ run-string (at + length u) (give_all k gs) s bytes q (takes-last k gs (text bytes) proper all) behind))
    reach-items at d k t fs (quote {d = lower} {t = u} {u = v} {fs = gs} {f = f} p q) low all room =
        let short : at + length u ≤ limit = grind (arith, common_steps) in
        let lt : at + length u < limit = grind (arith, common_steps) in
        let behind : at + length u + 1 + length v ≤ limit = grind (arith, common_steps) in
        let proper : IsProper gs = items-proper (suc lower) u gs p in
        let deep : suc lower ≤ (give_all k gs).depth = give-depth (suc lower) k gs low in
        let depth : suc ((give_all k gs).depth - 1) ≡ (give_all k gs).depth = omega (arith, deep) in
        let marked : Stack = opened_on mark (at + length u) (give_all k gs) ((give_all k gs).depth - 1) in
        let inner : Reach (at + length u + 1) (idle marked) v (give marked f) = reach-items (at + length u + 1) lower marked v (next f end) q (omega (arith, deep)) (refl, tt) behind in
        reach-as at (idle k) _ _ _ (ap (λ (z : ℕ). put (give_all k gs).frames (give_all k gs).forms z (quoted f)) depth ∙ sym (give-push k gs (quoted f) proper))
        (reach-behind at (at + length u + 1) (idle k) (idle marked) (u ++ 39 ∷ v) v (give marked f)
        (reach-seam at (idle k) u (give_all k gs) (39 ∷ v) (reach-items at (suc lower) k u gs p low (takes-front k gs (quoted f) proper all) short) (inr (refl, omega arith)) room
        ∙ run-open mark 39 (at + length u) (give_all k gs) v lt (takes-last k gs (quoted f) proper all) (omega (arith, deep)) (inr (refl, refl))) (behind-seam u 39 v) inner)
    reach-items at d k t fs (nested {d = lower} {t = u} {u = v} {fs = gs} {gs = hs} p q) low all room =
        let short : at + length u ≤ limit = grind (arith, common_steps) in
        let lt : at + length u < limit = grind (arith, common_steps) in
        let behind : at + length u + 1 + length v ≤ limit = grind (arith, common_steps) in
        let last : at + length u + 1 + length v < limit = grind (arith, common_steps) in
        let all_room : at + length (u ++ (40 ∷ v ++ 41 ∷ [])) ≤ limit = grind (arith, common_steps) in
        let proper : IsProper gs = items-proper (suc lower) u gs p in
        let deep : suc lower ≤ (give_all k gs).depth = give-depth (suc lower) k gs low in
        let depth : suc ((give_all k gs).depth - 1) ≡ (give_all k gs).depth = omega (arith, deep) in
        let opened : Stack = opened_on list (at + length u) (give_all k gs) ((give_all k gs).depth - 1) in
        let full : Stack = list_on (give_all k gs).forms (at + length u) (give_all k gs).frames hs ((give_all k gs).depth - 1) in
        let inner : Reach (at + length u + 1) (idle opened) v full =
        reach-as (at + length u + 1) (idle opened) v _ _ (give-list hs _ _ _ _ (items-proper lower v hs q))
        (reach-items (at + length u + 1) lower opened v hs q (omega (arith, deep)) (list-takes_all hs _ _ _ end _) behind) in
        reach-as at (idle k) _ _ _ (ap (λ (z : ℕ). put (give_all k gs).frames (give_all k gs).forms z (listed hs)) depth ∙ sym (give-push k gs (listed hs) proper))
        (reach-idle at (idle k) (u ++ 40 ∷ v ++ 41 ∷ []) _
        (ap (λ (z : List ℕ). run kind_of limit at (idle k) z) (append_assoc u (40 ∷ v) (41 ∷ []))
        ∙ reach-seam at (idle k) u (give_all k gs) (40 ∷ v ++ 41 ∷ []) (reach-items at (suc lower) k u gs p low (takes-front k gs (listed hs) proper all) short) (inr (refl, omega arith)) all_room
        ∙ run-open list 40 (at + length u) (give_all k gs) (v ++ 41 ∷ []) lt (takes-last k gs (listed hs) proper all) (omega (arith, deep)) (inl (refl, refl))
        ∙ reach-apart (at + length u + 1) (idle opened) v full 41 [] inner refl last
        ∙ run-idle kind_of limit (at + length u + 1 + length v) full 41 [] last refl ∙ run-nothing kind_of limit (at + length u + 1 + length v + 1) _))
    reach-items at d k t fs (tailed {d = lower} {t = u} {u = v} {v = x} {fs = gs} {gs = hs} {f = f} {g = h} p q r c a) low all room =
        let short : at + length u ≤ limit = grind (arith, common_steps) in
        let lt : at + length u < limit = grind (arith, common_steps) in
        let behind : at + length u + 1 + length v ≤ limit = grind (arith, common_steps) in
        let dot_place : at + length u + 1 + length v < limit = grind (arith, common_steps) in
        let tail_room : at + length u + 1 + length v + 1 + length x ≤ limit = grind (arith, common_steps) in
        let last : at + length u + 1 + length v + 1 + length x < limit = grind (arith, common_steps) in
        let tail_seam : at + length u + 1 + length v + length ((46 ∷ []) ++ x ++ 41 ∷ []) ≤ limit = grind (arith, common_steps) in
        let joined : u ++ 40 ∷ v ++ 46 ∷ x ++ 41 ∷ [] ≡ u ++ (40 ∷ (v ++ (46 ∷ x ++ 41 ∷ []))) = grind (arith, common_steps) in
        let all_room : at + length (u ++ (40 ∷ (v ++ (46 ∷ x ++ 41 ∷ [])))) ≤ limit = grind (arith, common_steps) in
        let some : 0 < length (x ++ 41 ∷ []) = grind (arith, common_steps) in
        let proper : IsProper gs = items-proper (suc lower) u gs p in
        let deep : suc lower ≤ (give_all k gs).depth = give-depth (suc lower) k gs low in
        let depth : suc ((give_all k gs).depth - 1) ≡ (give_all k gs).depth = omega (arith, deep) in
        let opened : Stack = opened_on list (at + length u) (give_all k gs) ((give_all k gs).depth - 1) in
        let full : Stack = list_on (give_all k gs).forms (at + length u) (give_all k gs).frames (next h hs) ((give_all k gs).depth - 1) in
        let pointed : Stack = opened_on dot (at + length u + 1 + length v) full full.depth in
        let inner : Reach (at + length u + 1) (idle opened) v full =
        reach-as (at + length u + 1) (idle opened) v _ _ (give-list (next h hs) _ _ _ _ (items-proper lower v (next h hs) q))
        (reach-items (at + length u + 1) lower opened v (next h hs) q (omega (arith, deep)) (list-takes_all (next h hs) _ _ _ end _) behind) in
        let tail : Reach (at + length u + 1 + length v + 1) (idle pointed) x (give pointed f) =
        reach-items (at + length u + 1 + length v + 1) lower pointed x (next f end) r (omega (arith, deep)) (refl, tt) tail_room in
        reach-as at (idle k) _ _ _ (ap (λ (z : ℕ). put (give_all k gs).frames (give_all k gs).forms z (listed (append (next h hs) (dotted f)))) depth ∙ sym (give-push k gs (listed (append (next h hs) (dotted f))) proper))
        (reach-idle at (idle k) (u ++ 40 ∷ v ++ 46 ∷ x ++ 41 ∷ []) _
        (ap (λ (z : List ℕ). run kind_of limit at (idle k) z) joined
        ∙ reach-seam at (idle k) u (give_all k gs) (40 ∷ (v ++ (46 ∷ x ++ 41 ∷ [])))
        (reach-items at (suc lower) k u gs p low (takes-front k gs (listed (append (next h hs) (dotted f))) proper all) short) (inr (refl, omega arith)) all_room
        ∙ run-open list 40 (at + length u) (give_all k gs) (v ++ (46 ∷ x ++ 41 ∷ [])) lt (takes-last k gs (listed (append (next h hs) (dotted f))) proper all) (omega (arith, deep)) (inl (refl, refl))
        ∙ reach-closed (at + length u + 1) (idle opened) v full (46 ∷ x ++ 41 ∷ []) inner c
        ∙ reach-seam (at + length u + 1 + length v) (idle full) (46 ∷ []) pointed (x ++ 41 ∷ []) (reach-dot (at + length u + 1 + length v) full dot_kind refl dot_place)
        (inr (front-before x (41 ∷ []) a refl, some)) tail_seam
        ∙ reach-apart (at + length u + 1 + length v + 1) (idle pointed) x (give pointed f) 41 [] tail refl last
        ∙ run-idle kind_of limit (at + length u + 1 + length v + 1 + length x) (give pointed f) 41 [] last refl ∙ run-nothing kind_of limit (at + length u + 1 + length v + 1 + length x + 1) _))
