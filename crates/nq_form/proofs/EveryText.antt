-- Every text has a reading: that of the machine.
use Rattle.std.proofs.Common.{◌≡◌, ℕ, ◌+◌, ◌<◌, ◌≤◌, Bool, true, false, List, [], ◌∷◌, ◌++◌, length, refl, ap, sym, ◌∙◌, subst, arith, append_assoc, append-nil, inl, inr}
use Rattle.std.specs.Prelude.{IsTrue, not, ◌⊎◌, nat_le}
use Rattle.std.proofs.lemmas.Grind.{common_steps}
use Rattle.std.proofs.lemmas.Bool.Decides.{nat_tests}
use Rattle.nq_form.specs.Form.{Forms, end}
use Rattle.nq_form.specs.Bytes.{is_constituent, begins_apart}
use Rattle.nq_form.specs.Grammar.{none, Seam, Seen, bare, Ending, done, fault, too_long, Reads, past, EveryTextReads}
use Rattle.nq_form.specs.Kinds.{kind_of}
use Rattle.nq_form.specs.Machine.{Stack, Mode, word, sharp, line, block, string, State, live, stopped, outer_of, first_list, judge, end_of, finish, apart_byte, grow}
use Rattle.nq_form.proofs.Giving.{top_of}
use Rattle.nq_form.proofs.Built.{bottom, After}
use Rattle.nq_form.proofs.Settling.{Faulty, IsOver, judge-over}
use Rattle.nq_form.proofs.Spelling.{not_both, and_front}
use Rattle.nq_form.proofs.Stepping.{Going, nothing, in_token, in_sharp, in_line, in_block, in_string, in_escape, Standing, IsRight, apart-right, closed-standing}
use Rattle.nq_form.proofs.Following.{grow-right, sharp-right, line-right, block-right, string-right}
use Rattle.nq_form.proofs.Stopping.{Comes, end-right, finish-right, standing-holds}

-- a token that is over: no bytes, or some
pub settle-over : (base levels limit : ℕ) (k : Stack) (p : ℕ) (w t more : List ℕ) → Standing base levels k (word p w) t → IsTrue (begins_apart more) → Seen limit t more → IsOver base levels limit t more (judge kind_of p k w)
settle-over base levels limit k p w t more s h r = at s.before s.begun (word p w) p w refl s.text s.after s.seam s.going
  where
    at : (before begun : List ℕ) (m : Mode) (p : ℕ) (w : List ℕ) → m ≡ word p w → t ≡ before ++ begun → After base levels k before → Seam before begun → Going base k (length before) m begun → IsOver base levels limit t more (judge kind_of p k w)
    at before begun m p [] i e a d nothing = (refl, subst (λ (z : List ℕ). After base levels k z) (sym (append-nil before) ∙ sym e) a)
    at before begun m p (x ∷ w) i e a d nothing = cc
    at before begun m p [] i e a d (in_token y v j) = cc
    at before begun m p (x ∷ w) i e a (inr d) (in_token y v j) = absurd (not_both (is_constituent y) (and_front _ _ j) d.0)
    at before begun m p (x ∷ w) i e a (inl d) (in_token y v j) =
        let place : base + length before ≡ p = cc in
        let bytes : (y ∷ v) ≡ (x ∷ w) = cc in
        let over : IsOver base levels limit (before ++ y ∷ v) more (judge kind_of (base + length before) k (y ∷ v)) =
        judge-over base levels limit k before y v more a d j h (subst (λ (z : List ℕ). Seen limit z more) e r) in
        subst (λ (z : List ℕ). IsOver base levels limit t more (judge kind_of p k z)) bytes
        (subst (λ (z : ℕ). IsOver base levels limit t more (judge kind_of z k (y ∷ v))) place
        (subst (λ (z : List ℕ). IsOver base levels limit z more (judge kind_of (base + length before) k (y ∷ v))) (sym e) over))
    at before begun m p w i e a d in_sharp = cc
    at before begun m p w i e a d (in_line c j) = cc
    at before begun m p w i e a d (in_block c j l) = cc
    at before begun m p w i e a d (in_string j q) = cc
    at before begun m p w i e a d (in_escape j q) = cc

abbrev Read : ℕ → ℕ → List ℕ → Type 0
Read levels limit t = (fs : Forms) × (e : Ending) × Reads levels limit t fs e

module _ (levels limit : ℕ) where
  read-as : (t u : List ℕ) → t ≡ u → Read levels limit t → Read levels limit u
  read-as t u e r = subst (λ (z : List ℕ). Read levels limit z) e r

  come-read : (t : List ℕ) (fs : Forms) (e : Ending) → Comes 0 levels limit t fs e → Read levels limit t
  come-read t fs done c = (fs, done, c)
  come-read t fs (fault code place) c = (fs, fault code c.0, c.2)
  come-read t fs too_long c = absurd c

  fault-read : (t : List ℕ) (fs : Forms) (e : Ending) → Faulty 0 levels limit t fs e → Read levels limit t
  fault-read t fs done c = absurd c
  fault-read t fs (fault code place) c = (fs, fault code c.0, c.2)
  fault-read t fs too_long c = absurd c

  one_byte : (t : List ℕ) (b : ℕ) (r : List ℕ) → (t ++ b ∷ []) ++ r ≡ t ++ b ∷ r
  one_byte t b r = append_assoc t (b ∷ []) r

  end-read : (t : List ℕ) (s : State) → IsOver 0 levels limit t [] s → length t ≤ limit → Read levels limit t
  end-read t (live k m) o room =
      read-as (t ++ []) t (append-nil t)
      (come-read (t ++ []) (end_of (first_list k.frames) k).forms (end_of (first_list k.frames) k).ending (end-right 0 levels limit (first_list k.frames) k t [] refl o.1 bare (subst (λ (z : List ℕ). length z ≤ limit) (sym (append-nil t)) room)))
  end-read t (stopped fs e) o room = read-as (t ++ []) t (append-nil t) (fault-read (t ++ []) fs e o)

  -- one byte more: a fault, or the machine goes on
  abbrev OneMore : List ℕ → ℕ → List ℕ → Type 0
  OneMore t b r = Read levels limit (t ++ b ∷ r) ⊎ ((k : Stack) × (m : Mode) × Standing 0 levels k m (t ++ b ∷ []) × (length (t ++ b ∷ []) ≤ limit))

  right-read : (r t : List ℕ) (b : ℕ) (s : State) → length t < limit → IsRight 0 levels limit (t ++ b ∷ []) s → OneMore t b r
  right-read r t b (live k m) lt s = inr (k, m, s, grind (arith, common_steps, lt))
  right-read r t b (stopped fs f) lt s = inl (read-as ((t ++ b ∷ []) ++ r) (t ++ b ∷ r) (one_byte t b r) (fault-read ((t ++ b ∷ []) ++ r) fs f (s r)))

  over-read : (r t : List ℕ) (b : ℕ) (s : State) → is_constituent b ≡ false → length t < limit → IsOver 0 levels limit t (b ∷ r) s → OneMore t b r
  over-read r t b (live k m) e lt o = right-read r t b (apart_byte (0 + length t) k b) lt (apart-right 0 levels limit k t b o.1 (ap not e) lt)
  over-read r t b (stopped fs f) e lt o = inl (fault-read (t ++ b ∷ r) fs f o)

  word-read : (c : Bool) (b : ℕ) (r : List ℕ) (k : Stack) (p : ℕ) (w t : List ℕ) → is_constituent b ≡ c → length t < limit → Standing 0 levels k (word p w) t → OneMore t b r
  word-read true b r k p w t e lt s = right-read r t b (live k (grow (0 + length t) p w b)) lt (grow-right 0 levels limit k t b p w s e)
  word-read false b r k p w t e lt s = over-read r t b (judge kind_of p k w) e lt (settle-over 0 levels limit k p w t (b ∷ r) s (ap not e) (omega arith, inr lt))

  below-read : (b : ℕ) (r : List ℕ) (k : Stack) (m : Mode) (t : List ℕ) → length t < limit → Standing 0 levels k m t → OneMore t b r
  below-read b r k (word p w) t lt s = word-read (is_constituent b) b r k p w t refl lt s
  below-read b r k (sharp p) t lt s = right-read r t b _ lt (sharp-right 0 levels limit k t b lt p s)
  below-read b r k line t lt s = right-read r t b _ lt (line-right 0 levels limit k t b lt s)
  below-read b r k (block p n q) t lt s = right-read r t b _ lt (block-right 0 levels limit k t b lt p n q s)
  below-read b r k (string p bytes x) t lt s = right-read r t b _ lt (string-right 0 levels limit k t b lt p bytes x s)

  limited-read : (full : Bool) (b : ℕ) (r : List ℕ) (k : Stack) (m : Mode) (t : List ℕ) → nat_le limit (length t) ≡ full → Standing 0 levels k m t → length t ≤ limit → OneMore t b r
  limited-read true b r k m t e s room = inl (outer_of k, too_long, past b r (standing-holds 0 levels limit k m t s) (full e room))
    where
      full : nat_le limit (length t) ≡ true → length t ≤ limit → length t ≡ limit
      full e h = grind (arith, nat_tests)
  limited-read false b r k m t e s room = below-read b r k m t (below e) s
    where
      below : nat_le limit (length t) ≡ false → length t < limit
      below e = grind (arith, nat_tests)

  standing-end : (k : Stack) (m : Mode) (t : List ℕ) → Standing 0 levels k m t → length t ≤ limit → Read levels limit t
  standing-end k (word p w) t s room = end-read t (judge kind_of p k w) (settle-over 0 levels limit k p w t [] s refl (room, inl refl)) room
  standing-end k (sharp p) t s room = come-read t (finish kind_of (live k (sharp p))).forms (finish kind_of (live k (sharp p))).ending (finish-right 0 levels limit k (sharp p) t s refl room)
  standing-end k line t s room = come-read t (finish kind_of (live k line)).forms (finish kind_of (live k line)).ending (finish-right 0 levels limit k line t s refl room)
  standing-end k (block p n q) t s room = come-read t (finish kind_of (live k (block p n q))).forms (finish kind_of (live k (block p n q))).ending (finish-right 0 levels limit k (block p n q) t s refl room)
  standing-end k (string p bytes e) t s room = come-read t (finish kind_of (live k (string p bytes e))).forms (finish kind_of (live k (string p bytes e))).ending (finish-right 0 levels limit k (string p bytes e) t s refl room)

  standing-read : (r : List ℕ) (k : Stack) (m : Mode) (t : List ℕ) → Standing 0 levels k m t → length t ≤ limit → Read levels limit (t ++ r)
  standing-read [] k m t s room = read-as t (t ++ []) (sym (append-nil t)) (standing-end k m t s room)
  standing-read (b ∷ r) k m t s room = elim (limited-read (nat_le limit (length t)) b r k m t refl s room) [
    | inl h ↦ h
    | inr h ↦ read-as ((t ++ b ∷ []) ++ r) (t ++ b ∷ r) (one_byte t b r) (standing-read r h.0 h.1 (t ++ b ∷ []) h.2 h.3)
  ]

pub every_text_reads : EveryTextReads
every_text_reads levels limit t = standing-read levels limit t (top_of end levels) (word 0 []) [] (closed-standing 0 levels limit (top_of end levels) 0 [] (record { built = bottom none; all = omega arith }) refl) (omega arith)
