-- Shells of ready histories are within limits, and the default of a part is T, F, or the base of a shell.
use Rattle.std.proofs.Common.{◌≡◌, Bool, true, false, ◌||◌, ◌⊎◌, Some, [], ◌∷◌, ◌++◌, List, inl, inr, refl, sym, ap, ◌∙◌, subst}
use Rattle.nq_logic.specs.Terms.{Name, IsAmong, Each}
use Rattle.nq_logic.specs.Ground.{ground_shells}
use Rattle.nq_logic.specs.Histories.{History, Part, Shell, AddShell, Declaration, Defines, Axiom, Lemma, Toggle, events_shells}
use Rattle.nq_logic.specs.ShellPrinciple.{IsDefault, Meets, is_base, known_recognizers, listed, recognizers, shells_of}
use Rattle.nq_logic.proofs.Lists.{each_among, each_at}
use Rattle.nq_bank.proofs.Texts.{eq-bytes_eq}
use Rattle.nq_proof.specs.Closed.{MeetsShellPrinciple}
use Rattle.nq_proof.proofs.AcceptedShells.{HasKind, IsPlaced, base, default_kind, falsity, in_all, placed, recognizer_of, truth}
use Rattle.nq_kernel.specs.Ready.{IsLimitedShell, IsReady, ReadyFrom}
use Rattle.nq_part_lines.specs.Defaults.{HasTruthDefault, IsKind, has_base, is_free}

limited_from : (b h : History) (s : Shell) → ReadyFrom b h → IsAmong s (events_shells h) → IsLimitedShell s
limited_from b [] s w m = absurd m
limited_from b (AddShell t ∷ h) s w (inl e) = subst IsLimitedShell (sym e) w.0.spelled
limited_from b (AddShell t ∷ h) s w (inr m) = limited_from (b ++ (AddShell t ∷ [])) h s w.1 m
limited_from b (Declaration f n ∷ h) s w m = limited_from (b ++ (Declaration f n ∷ [])) h s w.1 m
limited_from b (Defines d ∷ h) s w m = limited_from (b ++ (Defines d ∷ [])) h s w.1 m
limited_from b (Axiom n classes t ∷ h) s w m = limited_from (b ++ (Axiom n classes t ∷ [])) h s w.1 m
limited_from b (Lemma n classes t ∷ h) s w m = limited_from (b ++ (Lemma n classes t ∷ [])) h s w.1 m
limited_from b (Toggle n old x ∷ h) s w m = limited_from (b ++ (Toggle n old x ∷ [])) h s w.1 m

-- each user's shell of a ready history is within limits
pub limited : (h : History) (s : Shell) → IsReady h → IsAmong s (events_shells h) → IsLimitedShell s
limited h s ready m = limited_from [] h s ready m

right_true : (a b : Bool) → b ≡ true → (a || b) ≡ true
right_true true b e = refl
right_true false b e = e

left_true : (a b : Bool) → a ≡ true → (a || b) ≡ true
left_true true b e = refl
left_true false b e = absurd cc

-- a shell's base is one
pub base_there : (d : Name) (shells : List Shell) (t : Shell) → IsAmong t shells → t.base ≡ Some d → has_base d shells ≡ true
base_there d [] t m e = absurd m
base_there d (s ∷ shells) t (inl same) e =
    let here : is_base d s.base ≡ true = ap (is_base d) (ap (λ (x : Shell). x.base) (sym same) ∙ e) ∙ eq-bytes_eq d d refl in
    left_true (is_base d s.base) (has_base d shells) here
base_there d (s ∷ shells) t (inr m) e = right_true (is_base d s.base) (has_base d shells) (base_there d shells t m e)

recognizer_there : (t : Shell) (shells : List Shell) → IsAmong t shells → IsAmong t.recognizer (recognizers shells)
recognizer_there t [] m = absurd m
recognizer_there t (s ∷ shells) (inl same) = inl (ap (λ (x : Shell). x.recognizer) same)
recognizer_there t (s ∷ shells) (inr m) = inr (recognizer_there t shells m)

module _ (h : History) (accepted : MeetsShellPrinciple h) (s : Shell) (m : IsAmong s (ground_shells ++ events_shells h)) where
  abbrev place : IsPlaced h s
  place = placed h accepted s m

  -- what a restriction may name
  kind_there : (r : Name) → IsAmong r (known_recognizers place.earlier s) → IsKind h r
  kind_there r (inl e) = inl e
  kind_there r (inr (inl e)) = inr (inl e)
  kind_there r (inr (inr i)) =
      let t = recognizer_of r (s ∷ place.earlier) i in
      inr (inr (subst (λ n. IsAmong n (recognizers (shells_of h))) (sym t.2) (recognizer_there t.0 (shells_of h) (in_all place.earlier place.later s t.0 place.at t.1))))

  kinds_there : (part : Part) → IsAmong part s.parts → Each (IsKind h) (listed part.restriction)
  kinds_there part i =
      let known = each_at (λ part. Each (λ r. IsAmong r (known_recognizers place.earlier s)) (listed part.restriction)) part s.parts place.parts.known i in
      each_among (IsKind h) (listed part.restriction) (λ r j. kind_there r (each_at (λ r. IsAmong r (known_recognizers place.earlier s)) r (listed part.restriction) known j))

  abbrev Told : Part → Type 0
  Told part = (is_free part.restriction || has_base part.default (shells_of h)) ≡ true ⊎ ((yes : Bool) × HasTruthDefault h part yes)

  by_kind : (part : Part) (r : Name) → IsAmong part s.parts → Meets part.restriction r → HasKind (s ∷ place.earlier) part.default r → Told part
  by_kind part r i meets (truth e f) = inr (true, record { is = e; kinds = kinds_there part i; meets = subst (Meets part.restriction) f meets })
  by_kind part r i meets (falsity e f) = inr (false, record { is = e; kinds = kinds_there part i; meets = subst (Meets part.restriction) f meets })
  by_kind part r i meets (base t j e f) = inl (right_true (is_free part.restriction) (has_base part.default (shells_of h)) (base_there part.default (shells_of h) t (in_all place.earlier place.later s t place.at j) e))

  -- what the default of a part is
  pub default_told : (part : Part) → IsAmong part s.parts → Told part
  default_told part i =
      let default = each_at (IsDefault place.earlier s) part s.parts place.parts.defaults i in
      by_kind part default.kind i default.meets (default_kind place.earlier s part.default default.kind default.is)
