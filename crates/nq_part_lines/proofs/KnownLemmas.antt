-- The users' shells of a ready history are known.
use Rattle.std.proofs.Common.{◌≡◌, ℕ, suc, Bool, true, false, Option, Some, None, List, [], ◌∷◌, ◌++◌, length, inl, inr, refl, sym, ap, subst, append_assoc, append-nil}
use Rattle.std.specs.Prelude.{bytes_eq, codes, slice_get}
use Rattle.nq_logic.specs.Terms.{Name, Term, Function, IsAmong, Each}
use Rattle.nq_logic.specs.Words.{call1, not_term, equal_term, zero_term, true_term, false_term}
use Rattle.nq_logic.specs.Ground.{symbols_of, ground_shells}
use Rattle.nq_logic.specs.Names.{is_in_use, symbol_names}
use Rattle.nq_logic.specs.Histories.{History, Event, AddShell, Declaration, Defines, Axiom, Lemma, Toggle, Part, Shell, accessor_symbols, base_symbols, events_shells}
use Rattle.nq_logic.specs.ShellPrinciple.{shell_names, shells_of}
use Rattle.nq_logic.specs.Shells.{made, made_with, part_variable, remade, whole, recognizes, is_base}
use Rattle.nq_logic.proofs.Lists.{each_at, each_among, among_right, among_at}
use Rattle.nq_proof.specs.Clauses.{Clause}
use Rattle.nq_proof.specs.Closed.{MeetsShellPrinciple}
use Rattle.nq_proof.specs.Rows.{base_row, found_row}
use Rattle.nq_proof.proofs.AcceptedShells.{accepted_over}
use Rattle.nq_proof.proofs.ShellSymbols.{ShellOver}
use Rattle.nq_proof.proofs.Tests.{names_same}
use Rattle.nq_log.specs.Laws.{EventHolds, HoldFrom}
use Rattle.nq_kernel.specs.Ready.{IsLimitedShell, IsReady}
use Rattle.nq_kernel.proofs.ReadyLemmas.{ready_sound}
use Rattle.nq_arith.specs.Nests.{accessor_of}
use Rattle.nq_lines.specs.OwnTerms.{HasOwnTerms}
use Rattle.nq_part_lines.specs.Known.{AreNoObjects, IsKnownPart, IsKnownShell, HasZeroBases, HasKnownRows, allowed, size_is}
use Rattle.nq_part_lines.proofs.DefaultLemmas.{default_told, limited}
use Rattle.nq_part_lines.proofs.RowLemmas.{row_there}
use Rattle.nq_part_lines.proofs.RoomLemmas.{IsFew, again_low, allowed_low, allowed_row_low, constant_low, denied_low, put_low, recognizes_low, size_row_low, taken_low, variable_low, zero_low}

hold_at : (b before after : History) (e : Event) → HoldFrom b (before ++ (e ∷ after)) → EventHolds (b ++ before) e
hold_at b [] after e w = subst (λ k. EventHolds k e) (sym (append-nil b)) w.0
hold_at b (x ∷ before) after e w = subst (λ k. EventHolds k e) (append_assoc b (x ∷ []) before) (hold_at (b ++ (x ∷ [])) before after e w.1)

-- the shells of a ready history were accepted
pub shells_accepted : (h : History) → IsReady h → MeetsShellPrinciple h
shells_accepted h ready before after s e = hold_at [] before after (AddShell s) (subst (HoldFrom []) e (ready_sound h ready))

-- where in a history a shell was added
abbrev IsAddedIn : Shell → History → Type 0
IsAddedIn s h = (b : History) × (a : History) × (h ≡ b ++ (AddShell s ∷ a))

further : (s : Shell) (before l : History) (e : Event) → IsAddedIn s ((before ++ (e ∷ [])) ++ l) → IsAddedIn s (before ++ (e ∷ l))
further s before l e r = subst (IsAddedIn s) (append_assoc before (e ∷ []) l) r

added_at : (s : Shell) (before l : History) → IsAmong s (events_shells l) → IsAddedIn s (before ++ l)
added_at s before [] m = absurd m
added_at s before (AddShell t ∷ l) (inl e) = (before, l, ap (λ x. before ++ (AddShell x ∷ l)) (sym e))
added_at s before (AddShell t ∷ l) (inr m) = further s before l (AddShell t) (added_at s (before ++ (AddShell t ∷ [])) l m)
added_at s before (Declaration f n ∷ l) m = further s before l (Declaration f n) (added_at s (before ++ (Declaration f n ∷ [])) l m)
added_at s before (Defines d ∷ l) m = further s before l (Defines d) (added_at s (before ++ (Defines d ∷ [])) l m)
added_at s before (Axiom n classes t ∷ l) m = further s before l (Axiom n classes t) (added_at s (before ++ (Axiom n classes t ∷ [])) l m)
added_at s before (Lemma n classes t ∷ l) m = further s before l (Lemma n classes t) (added_at s (before ++ (Lemma n classes t ∷ [])) l m)
added_at s before (Toggle n old b ∷ l) m = further s before l (Toggle n old b) (added_at s (before ++ (Toggle n old b ∷ [])) l m)

-- the names of a user's shell are new in the history before it
pub new_names : (h : History) (s : Shell) → MeetsShellPrinciple h → IsAmong s (events_shells h) → (b : History) × Each (λ name. is_in_use name b ≡ false) (shell_names s)
new_names h s accepted m =
    let a = added_at s [] h m in
    (a.0, (accepted a.0 a.1 s a.2).unused)

-- so they are other than each name of the ground history
pub other_name : (b : History) (n g : Name) → is_in_use n b ≡ false → is_in_use g b ≡ true → bytes_eq n g ≡ false
other_name b n g new used = by_test (bytes_eq n g) refl
  where
    by_test : (x : Bool) → bytes_eq n g ≡ x → x ≡ false
    by_test true e = (let same : is_in_use n b ≡ is_in_use g b = ap (λ y. is_in_use y b) (names_same n g e) in cc)
    by_test false e = refl

pub add1_used : (b : History) → is_in_use (codes "ADD1") b ≡ true
add1_used b = refl

accessor_name : (part : Part) (parts : List Part) → IsAmong part parts → IsAmong part.accessor (symbol_names (accessor_symbols parts))
accessor_name part [] m = absurd m
accessor_name part (p ∷ parts) (inl e) = inl (ap (λ (p : Part). p.accessor) e)
accessor_name part (p ∷ parts) (inr m) = inr (accessor_name part parts m)

behind_base : (n : Name) (s : Shell) (o : Option Name) → IsAmong n (symbol_names ((s.recognizer, 1) ∷ accessor_symbols s.parts)) → IsAmong n (symbol_names (base_symbols o ++ ((s.recognizer, 1) ∷ accessor_symbols s.parts)))
behind_base n s None m = m
behind_base n s (Some b) m = inr m

pub accessor_named : (s : Shell) (part : Part) → IsAmong part s.parts → IsAmong part.accessor (shell_names s)
accessor_named s part m = inr (behind_base part.accessor s s.base (inr (accessor_name part s.parts m)))

pub recognizer_named : (s : Shell) → IsAmong s.recognizer (shell_names s)
recognizer_named s = inr (behind_base s.recognizer s s.base (inl refl))

pub base_named : (s : Shell) (b : Name) → s.base ≡ Some b → IsAmong b (shell_names s)
base_named s b e = subst (λ o. IsAmong b (symbol_names ((s.constructor, length s.parts) ∷ (base_symbols o ++ ((s.recognizer, 1) ∷ accessor_symbols s.parts))))) (sym e) (inr (inl refl))

-- the part at a place
at_place : (P : ℕ → Part → Clause) (parts : List Part) (k : ℕ) (part : Part) → slice_get parts k ≡ Some part → found_row (suc k) (λ k part. Some (P k part)) parts ≡ Some (P k part)
at_place P parts k part e = ap (λ o. elim o as (λ o. Option (List Term)) [ None ↦ None | Some x ↦ Some (P k x) ]) e

module _ (h : History) (ready : IsReady h) where
  pub zero_bases : HasZeroBases h
  zero_bases b d m e =
      record {
        is = row_there 15 0 h b (equal_term (call1 "COUNT" (Function d)) zero_term ∷ []) refl refl ready m (λ earlier. ap (base_row 0 (λ d. equal_term (call1 "COUNT" (Function d)) zero_term ∷ [])) e);
        low = (zero_low d, tt);
      }

  -- T and F are no objects of a shell
  no_objects : (s : Shell) → IsAmong s (shells_of h) → AreNoObjects h s
  no_objects s m =
      record {
        truth = record { is = row_there 11 0 h s (not_term (recognizes s true_term) ∷ []) refl refl ready m (λ earlier. refl); low = (recognizes_low s (codes "TRUE"), tt) };
        falsity = record { is = row_there 12 0 h s (not_term (recognizes s false_term) ∷ []) refl refl ready m (λ earlier. refl); low = (recognizes_low s (codes "FALSE"), tt) };
      }

  pub known_rows : HasOwnTerms h → HasKnownRows h
  known_rows own = record { bases = zero_bases; truths = each_among (AreNoObjects h) (shells_of h) no_objects; own = own }

  module _ (s : Shell) (m : IsAmong s (events_shells h)) where
    here : IsAmong s (shells_of h)
    here = among_right s ground_shells (events_shells h) m

    accepted : MeetsShellPrinciple h
    accepted = shells_accepted h ready

    few : IsLimitedShell s
    few = limited h s ready m

    part_known : (k : ℕ) (part : Part) → slice_get s.parts k ≡ Some part → IsKnownPart h s k part
    part_known k part e =
        let among : IsAmong part s.parts = among_at part s.parts k e in
        let little : IsFew part = each_at IsFew part s.parts few.few_recognizers among in
        let names = new_names h s accepted m in
        let new : is_in_use part.accessor names.0 ≡ false = each_at (λ name. is_in_use name names.0 ≡ false) part.accessor (shell_names s) names.1 (accessor_named s part among) in
        record {
          taken =
              record {
                is = row_there 6 (suc k) h s (not_term (allowed k part) ∷ equal_term (accessor_of part (made s)) (part_variable k) ∷ []) refl refl ready here (λ earlier. at_place (λ k part. not_term (allowed k part) ∷ equal_term (accessor_of part (made s)) (part_variable k) ∷ []) s.parts k part e);
                low = (denied_low (allowed k part) (allowed_low k part little), (taken_low s part (part_variable k) (variable_low _), tt));
              };
          wrong =
              record {
                is = row_there 7 (suc k) h s (allowed k part ∷ equal_term (accessor_of part (made s)) (Function part.default) ∷ []) refl refl ready here (λ earlier. at_place (λ k part. allowed k part ∷ equal_term (accessor_of part (made s)) (Function part.default) ∷ []) s.parts k part e);
                low = (allowed_row_low k part little, (taken_low s part (Function part.default) (constant_low part.default), tt));
              };
          same =
              record {
                is = row_there 10 (suc k) h s (allowed k part ∷ equal_term (made s) (made_with s k (Function part.default)) ∷ []) refl refl ready here (λ earlier. at_place (λ k part. allowed k part ∷ equal_term (made s) (made_with s k (Function part.default)) ∷ []) s.parts k part e);
                low = (allowed_row_low k part little, (put_low s k (Function part.default) (constant_low part.default), tt));
              };
          other = other_name names.0 part.accessor (codes "ADD1") new (add1_used names.0);
          few = little;
          default_is = default_told h accepted s here part among;
        }

    pub known_shell : IsKnownShell h s
    known_shell =
        let over : ShellOver (symbols_of h) s = each_at (ShellOver (symbols_of h)) s (shells_of h) (accepted_over h accepted) here in
        record {
          again = record { is = row_there 5 0 h s (not_term (recognizes s whole) ∷ (is_base s.base ++ (equal_term (remade s) whole ∷ []))) refl refl ready here (λ earlier. refl); low = again_low s };
          size = record { is = row_there 14 0 h s (size_is s ∷ []) refl refl ready here (λ earlier. refl); low = (size_row_low s few.few_parts few.few_recognizers, tt) };
          parts = part_known;
          accessors = over.accessors;
        }

pub user_names : (h : History) (s : Shell) (n g : Name) → IsReady h → IsAmong s (events_shells h) → IsAmong n (shell_names s) → ((b : History) → is_in_use g b ≡ true) → bytes_eq n g ≡ false
user_names h s n g ready m named used =
    let names = new_names h s (shells_accepted h ready) m in
    other_name names.0 n g (each_at (λ name. is_in_use name names.0 ≡ false) n (shell_names s) names.1 named) (used names.0)
