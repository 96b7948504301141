-- Where the shells of a history were accepted, their parts name the history's functions, and each default has its kind.
use Rattle.std.proofs.Common.{◌≡◌, Bool, true, false, ℕ, List, [], ◌∷◌, ◌++◌, if◌then◌else◌, inl, inr, refl, sym, ap, ◌∙◌, subst, append_assoc}
use Rattle.std.specs.Prelude.{Option, Some, None, bytes_eq, codes}
use Rattle.nq_logic.specs.Terms.{Name, IsAmong, Each}
use Rattle.nq_logic.specs.Histories.{History, Event, AddShell, Declaration, Defines, Axiom, Lemma, Toggle, Shell, Part, events_shells}
use Rattle.nq_logic.specs.Ground.{symbols_of, ground_shells, numbers, pairs, atoms, negatives}
use Rattle.nq_logic.specs.ShellPrinciple.{listed, is_base, kind_of_base, kind_of_default, known_recognizers, recognizers, IsDefault}
use Rattle.nq_logic.proofs.Lists.{among_left, among_right, each_among, each_at}
use Rattle.nq_logic.proofs.Symbols.{true_symbol, false_symbol, truep_symbol, falsep_symbol}
use Rattle.nq_proof.specs.Closed.{PartOver, MeetsShellPrinciple}
use Rattle.nq_proof.specs.Laws.{AcceptedShellsAreClosed}
use Rattle.nq_proof.proofs.Tests.{names_same, none_is_not_some, some_same}
use Rattle.nq_proof.proofs.ShellSymbols.{ShellOver, base_among, recognizer_among, events_join, shell_named, shell_over}

-- the recognizers of the shell's restrictions are known, and its defaults are such as their restrictions ask
pub record HasKnownParts (earlier : List Shell) (s : Shell) : Type 0 where
  pub known : Each (λ part. Each (λ r. IsAmong r (known_recognizers earlier s)) (listed part.restriction)) s.parts
  pub defaults : Each (IsDefault earlier s) s.parts

-- the shell stands in the history, behind the earlier ones that its parts may name
pub record IsPlaced (h : History) (s : Shell) : Type 0 where
  pub earlier : List Shell
  pub later : List Shell
  pub at : ground_shells ++ events_shells h ≡ earlier ++ (s ∷ later)
  pub parts : HasKnownParts earlier s

-- where in a history a shell was added
abbrev IsAddedIn : Shell → History → Type 0
IsAddedIn s h = (b : History) × (a : History) × (h ≡ b ++ (AddShell s ∷ a))

further : (s : Shell) (before l : History) (e : Event) → IsAddedIn s ((before ++ (e ∷ [])) ++ l) → IsAddedIn s (before ++ (e ∷ l))
further s before l e r = subst (IsAddedIn s) (append_assoc before (e ∷ []) l) r

added_at : (s : Shell) (before l : History) → IsAmong s (events_shells l) → IsAddedIn s (before ++ l)
added_at s before [] m = absurd m
added_at s before (AddShell t ∷ l) (inl e) = (before, l, ap (λ x. before ++ (AddShell x ∷ l)) (sym e))
added_at s before (AddShell t ∷ l) (inr m) = further s before l (AddShell t) (added_at s (before ++ (AddShell t ∷ [])) l m)
added_at s before (Declaration f n ∷ l) m = further s before l (Declaration f n) (added_at s (before ++ (Declaration f n ∷ [])) l m)
added_at s before (Defines d ∷ l) m = further s before l (Defines d) (added_at s (before ++ (Defines d ∷ [])) l m)
added_at s before (Axiom n classes t ∷ l) m = further s before l (Axiom n classes t) (added_at s (before ++ (Axiom n classes t ∷ [])) l m)
added_at s before (Lemma n classes t ∷ l) m = further s before l (Lemma n classes t) (added_at s (before ++ (Lemma n classes t ∷ [])) l m)
added_at s before (Toggle n old b ∷ l) m = further s before l (Toggle n old b) (added_at s (before ++ (Toggle n old b ∷ [])) l m)

module _ (h : History) (accepted : MeetsShellPrinciple h) where
  added_placed : (s : Shell) → IsAmong s (events_shells h) → IsPlaced h s
  added_placed s m =
      let a = added_at s [] h m in
      let ok = accepted a.0 a.1 s a.2 in
      record {
        earlier = ground_shells ++ events_shells a.0;
        later = events_shells a.1;
        at = ap (λ shells. ground_shells ++ shells) (ap events_shells a.2 ∙ events_join a.0 (AddShell s ∷ a.1)) ∙ sym (append_assoc ground_shells (events_shells a.0) (s ∷ events_shells a.1));
        parts = record { known = ok.known; defaults = ok.defaults };
      }

  pub placed : (s : Shell) → IsAmong s (ground_shells ++ events_shells h) → IsPlaced h s
  placed s (inl e) = subst (IsPlaced h) (sym e) (
      record {
        earlier = [];
        later = pairs ∷ atoms ∷ negatives ∷ events_shells h;
        at = refl;
        parts = record { known = ((inr (inr (inl refl)), tt), tt); defaults = (record { kind = codes "NUMBERP"; is = refl; meets = inl refl }, tt) };
      }
      )
  placed s (inr (inl e)) = subst (IsPlaced h) (sym e) (
      record {
        earlier = numbers ∷ [];
        later = atoms ∷ negatives ∷ events_shells h;
        at = refl;
        parts =
            record { known = (tt, (tt, tt)); defaults = (record { kind = codes "NUMBERP"; is = refl; meets = λ m. absurd m }, (record { kind = codes "NUMBERP"; is = refl; meets = λ m. absurd m }, tt)) };
      }
      )
  placed s (inr (inr (inl e))) = subst (IsPlaced h) (sym e) (
      record {
        earlier = numbers ∷ pairs ∷ [];
        later = negatives ∷ events_shells h;
        at = refl;
        parts = record { known = (tt, tt); defaults = (record { kind = codes "NUMBERP"; is = refl; meets = λ m. absurd m }, tt) };
      }
      )
  placed s (inr (inr (inr (inl e)))) = subst (IsPlaced h) (sym e) (
      record {
        earlier = numbers ∷ pairs ∷ atoms ∷ [];
        later = events_shells h;
        at = refl;
        parts = record { known = ((inr (inr (inr (inl refl))), tt), tt); defaults = (record { kind = codes "NUMBERP"; is = refl; meets = inl refl }, tt) };
      }
      )
  placed s (inr (inr (inr (inr m)))) = added_placed s m

-- of which kind the constant (d) is: T, F, or the base of one of these shells
pub data HasKind (shells : List Shell) (d r : List ℕ) : Type 0 where
  truth : d ≡ codes "TRUE" → r ≡ codes "TRUEP" → HasKind shells d r
  falsity : d ≡ codes "FALSE" → r ≡ codes "FALSEP" → HasKind shells d r
  base : (t : Shell) → IsAmong t shells → t.base ≡ Some d → t.recognizer ≡ r → HasKind shells d r

-- a shell with this base, and with this recognizer
abbrev IsBased : List Shell → Name → Name → Type 0
IsBased shells d r = (t : Shell) × IsAmong t shells × (t.base ≡ Some d) × (t.recognizer ≡ r)

is_base_tells : (d : Name) (o : Option Name) → is_base d o ≡ true → o ≡ Some d
is_base_tells d None e = absurd cc
is_base_tells d (Some b) e = ap Some (sym (names_same d b e))

based : (d r : Name) (shells : List Shell) → kind_of_base d shells ≡ Some r → IsBased shells d r
based d r [] e = absurd (none_is_not_some r e)
based d r (s ∷ shells) e = by_base (is_base d s.base) refl (λ e. based d r shells e) e
  where
    by_base : (b : Bool) → is_base d s.base ≡ b → (kind_of_base d shells ≡ Some r → IsBased shells d r) → (if b then Some s.recognizer else kind_of_base d shells) ≡ Some r → IsBased (s ∷ shells) d r
    by_base true f again g = (s, inl refl, is_base_tells d s.base f, some_same s.recognizer r g)
    by_base false f again g = let t = again g in (t.0, inr t.1, t.2, t.3)

pub default_kind : (earlier : List Shell) (s : Shell) (d r : Name) → kind_of_default earlier s d ≡ Some r → HasKind (s ∷ earlier) d r
default_kind earlier s d r e = by_truth (bytes_eq d (codes "TRUE")) refl e
  where
    by_falsity : (b : Bool) → bytes_eq d (codes "FALSE") ≡ b → (if b then Some (codes "FALSEP") else kind_of_base d (s ∷ earlier)) ≡ Some r → HasKind (s ∷ earlier) d r
    by_falsity true f g = falsity (names_same d (codes "FALSE") f) (sym (some_same (codes "FALSEP") r g))
    by_falsity false f g = let t = based d r (s ∷ earlier) g in base t.0 t.1 t.2 t.3

    by_truth : (b : Bool) → bytes_eq d (codes "TRUE") ≡ b → (if b then Some (codes "TRUEP") else if bytes_eq d (codes "FALSE") then Some (codes "FALSEP") else kind_of_base d (s ∷ earlier)) ≡ Some r →
        HasKind (s ∷ earlier) d r
    by_truth true f g = truth (names_same d (codes "TRUE") f) (sym (some_same (codes "TRUEP") r g))
    by_truth false f g = by_falsity (bytes_eq d (codes "FALSE")) refl g

-- a recognizer of these shells is that of one of them
pub recognizer_of : (r : Name) (shells : List Shell) → IsAmong r (recognizers shells) → (t : Shell) × IsAmong t shells × (r ≡ t.recognizer)
recognizer_of r [] m = absurd m
recognizer_of r (s ∷ shells) (inl e) = (s, inl refl, e)
recognizer_of r (s ∷ shells) (inr m) = let t = recognizer_of r shells m in (t.0, inr t.1, t.2)

-- the shell and those before it stand in the whole list
pub in_all : {all : List Shell} (earlier later : List Shell) (s t : Shell) → all ≡ earlier ++ (s ∷ later) → IsAmong t (s ∷ earlier) → IsAmong t all
in_all earlier later s t e (inl f) = subst (IsAmong t) (sym e) (among_right t earlier (s ∷ later) (inl f))
in_all earlier later s t e (inr m) = subst (IsAmong t) (sym e) (among_left t earlier (s ∷ later) m)

module _ (h : History) (accepted : MeetsShellPrinciple h) where
  abbrev all : List Shell
  all = ground_shells ++ events_shells h

  module _ (s : Shell) (m : IsAmong s (ground_shells ++ events_shells h)) where
    abbrev place : IsPlaced h s
    place = placed h accepted s m

    known_over : (r : Name) → IsAmong r (known_recognizers place.earlier s) → IsAmong (r, 1) (symbols_of h)
    known_over r (inl e) = subst (λ r. IsAmong (r, 1) (symbols_of h)) (sym e) (truep_symbol h)
    known_over r (inr (inl e)) = subst (λ r. IsAmong (r, 1) (symbols_of h)) (sym e) (falsep_symbol h)
    known_over r (inr (inr (inl e))) = subst (λ r. IsAmong (r, 1) (symbols_of h)) (sym e) (shell_named h s m (s.recognizer, 1) (recognizer_among s))
    known_over r (inr (inr (inr i))) =
        let t = recognizer_of r place.earlier i in
        subst (λ r. IsAmong (r, 1) (symbols_of h)) (sym t.2) (shell_named h t.0 (in_all place.earlier place.later s t.0 place.at (inr t.1)) (t.0.recognizer, 1) (recognizer_among t.0))

    default_over : (d r : Name) → HasKind (s ∷ place.earlier) d r → IsAmong (d, 0) (symbols_of h)
    default_over d r (truth e f) = subst (λ d. IsAmong (d, 0) (symbols_of h)) (sym e) (true_symbol h)
    default_over d r (falsity e f) = subst (λ d. IsAmong (d, 0) (symbols_of h)) (sym e) (false_symbol h)
    default_over d r (base t i e f) = shell_named h t (in_all place.earlier place.later s t place.at i) (d, 0) (base_among t d e)

    part_over : (part : Part) → IsAmong part s.parts → PartOver (symbols_of h) part
    part_over part i =
        let known = each_at (λ part. Each (λ r. IsAmong r (known_recognizers place.earlier s)) (listed part.restriction)) part s.parts place.parts.known i in
        let default = each_at (IsDefault place.earlier s) part s.parts place.parts.defaults i in
        record {
          recognizers = each_among (λ r. IsAmong (r, 1) (symbols_of h)) (listed part.restriction) (λ r j. known_over r (each_at (λ r. IsAmong r (known_recognizers place.earlier s)) r (listed part.restriction) known j));
          default = default_over part.default default.kind (default_kind place.earlier s part.default default.kind default.is);
        }

    one_over : ShellOver (symbols_of h) s
    one_over = shell_over h s m (each_among (PartOver (symbols_of h)) s.parts (λ part i. part_over part i))

  -- the names of each shell are symbols of the history
  pub accepted_over : Each (ShellOver (symbols_of h)) (ground_shells ++ events_shells h)
  accepted_over = each_among (ShellOver (symbols_of h)) (ground_shells ++ events_shells h) (λ s m. one_over s m)

pub accepted_law : AcceptedShellsAreClosed
accepted_law h s accepted m = (each_at (ShellOver (symbols_of h)) s (ground_shells ++ events_shells h) (accepted_over h accepted) m).parts
