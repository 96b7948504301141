-- Users' shells of ready histories, and what is found of nests of their accessors.
use Rattle.std.proofs.Common.{◌≡◌, ◌⊎◌, ◌≤◌, ◌-◌, ℕ, suc, true, false, Option, Some, None, List, [], ◌∷◌, ◌++◌, map, length, get_or, take, drop, inl, inr, refl, sym, ap, ◌∙◌, subst, arith}
use Rattle.std.proofs.lemmas.List.{drop-map, length-drop, length-map, take_all}
use Rattle.std.specs.Prelude.{bytes_eq, codes, All, MatchOption}
use Rattle.nq_logic.specs.Terms.{Name, Term, IsAmong, Each}
use Rattle.nq_logic.specs.Words.{not_term}
use Rattle.nq_logic.specs.Ground.{symbols_of, ground_shells, numbers, pairs}
use Rattle.nq_logic.specs.Histories.{History, Shell, events_shells}
use Rattle.nq_logic.specs.Names.{is_in_use}
use Rattle.nq_logic.specs.ShellPrinciple.{shell_names}
use Rattle.nq_logic.proofs.Lists.{among_left, among_right, each_at}
use Rattle.nq_bank.specs.declared.shell.Shell.{Shell as BankShell}
use Rattle.nq_bank.specs.Content.{Content, Grows}
use Rattle.nq_bank.specs.Shells.{ShellStands, shell_at, shells_at}
use Rattle.nq_bank.proofs.NodesLemmas.{All-head, All-tail}
use Rattle.nq_proof.proofs.AcceptedShells.{accepted_over}
use Rattle.nq_proof.proofs.ShellSymbols.{ShellOver}
use Rattle.nq_history.proofs.Lists.{All-drop}
use Rattle.nq_history.proofs.ShellLemmas.{ShellStands-grown, shell_at-grown}
use Rattle.nq_kernel.specs.Ready.{IsReady}
use Rattle.nq_kernel.specs.declared.work.Work.{Work}
use Rattle.nq_arith.specs.Nests.{IsShellOf}
use Rattle.nq_arith.specs.Structural.{IsStructuralNest}
use Rattle.nq_part_lines.specs.KnownLaws.{UserNamesAreNew}
use Rattle.nq_part_lines.proofs.KnownLemmas.{base_named, recognizer_named, shells_accepted}
use Rattle.nq_decrease.specs.OwnGuards.{IsOtherBase, IsUserShell}
use Rattle.nq_decrease.specs.Nests.{IsNestOf, IsNestLine, IsDecreaseLine, IsShellNestLine, Lowers}
use Rattle.nq_decrease.specs.Levels.{shell_of}
use Rattle.nq_decrease.specs.declared.kind.Kind.{Kind}
use Rattle.nq_decrease.proofs.NestLemmas.{kind_here}

module _ (names : UserNamesAreNew) (h : History) (s : Shell) (ready : IsReady h) (among : IsAmong s (events_shells h)) where
  -- the name of a user's shell is none that every history has
  new_name : (n g : Name) → IsAmong n (shell_names s) → ((b : History) → is_in_use g b ≡ true) → bytes_eq n g ≡ false
  new_name n g named used = names h s n g ready among named used

  constructor_is_not : (t : Shell) → ((b : History) → is_in_use t.constructor b ≡ true) → bytes_eq t.constructor t.constructor ≡ true → s ≡ t → ⊥
  constructor_is_not t used same e =
      let other : bytes_eq s.constructor t.constructor ≡ false = new_name s.constructor t.constructor (inl refl) used in
      let here : bytes_eq s.constructor t.constructor ≡ true = ap (λ (s : Shell). bytes_eq s.constructor t.constructor) e ∙ same in
      absurd cc

  base_is_other : (o : Option Name) → s.base ≡ o → IsOtherBase o
  base_is_other None e = tt
  base_is_other (Some b) e = new_name b (codes "ZERO") (base_named s b e) (λ b. refl)

  -- so it is a user's
  pub user_shell : IsUserShell s
  user_shell =
      record {
        no_list = constructor_is_not pairs (λ b. refl) refl;
        no_number = constructor_is_not numbers (λ b. refl) refl;
        recognizer = new_name s.recognizer (codes "ADD1") (recognizer_named s) (λ b. refl);
        base = base_is_other s.base refl;
      }

-- the accessors of a shell of a ready history are functions of it
pub shell_accessors : (h : History) (s : Shell) → IsReady h → IsShellOf h s → Each (λ part. IsAmong (part.accessor, 1) (symbols_of h)) s.parts
shell_accessors h s ready here =
    let over : ShellOver (symbols_of h) s = each_at (ShellOver (symbols_of h)) s (ground_shells ++ events_shells h) (accepted_over h (shells_accepted h ready)) here in
    over.accessors

shell_either : (s : Shell) (these those : List Shell) → IsAmong s (these ++ those) → IsAmong s these ⊎ IsAmong s those
shell_either s [] those m = inr m
shell_either s (t ∷ these) those (inl e) = inl (inl e)
shell_either s (t ∷ these) those (inr m) = elim (shell_either s these those m) [ inl k ↦ inl (inr k) | inr k ↦ inr k ]

module _ (h : History) (work : Work) (tests : List Term) (x t : Term) where
  -- a line of a shell's nest is one of a shell of the history
  pub ground_found : (kind : Kind) (n : ℕ) → IsNestLine work (shell_of kind) tests x t n → IsShellNestLine h work tests x t n
  ground_found kind n line = record { shell = shell_of kind; here = among_left (shell_of kind) ground_shells (events_shells h) (kind_here kind); line = line }

  pub own_found : (s : Shell) (n : ℕ) → IsAmong s (events_shells h) → IsNestLine work s tests x t n → IsShellNestLine h work tests x t n
  own_found s n m line = record { shell = s; here = among_right s ground_shells (events_shells h) m; line = line }

  -- the line of a nest, lowered
  pub shell_decrease : (new : Work) (line n : ℕ) → IsShellNestLine h work tests x t line → Lowers work new t x line n → IsDecreaseLine h new tests x t n
  shell_decrease new line n l lowers =
      let is = l.line.is in
      record { structural = record { shell = l.shell; here = l.here; first = is.first; rest = is.rest; parts = is.parts; is = is.is; guarded = is.guarded }; line = lowers (map not_term tests) l.line.line }

  -- where neither a ground shell nor a user's has such a nest, there is no structural one
  pub none_structural : (IsStructuralNest [] x tests t → ⊥) → Each (λ s. IsNestOf s tests x t → ⊥) (events_shells h) → IsStructuralNest h x tests t → ⊥
  none_structural ground own n =
      let nested : IsNestOf n.shell tests x t = record { first = n.first; rest = n.rest; parts = n.parts; is = n.is; guarded = n.guarded } in
      elim (shell_either n.shell ground_shells (events_shells h) n.here) [
        | inl m ↦ ground (record { shell = n.shell; here = m; first = n.first; rest = n.rest; parts = n.parts; is = n.is; guarded = n.guarded })
        | inr m ↦ each_at (λ s. IsNestOf s tests x t → ⊥) n.shell (events_shells h) own m nested
      ]

module _ (h : History) (new : Work) (tests : List Term) (x t : Term) where
  -- a line of a nest, or that none of these shells has one
  abbrev pub OwnFound : List Shell → Option ℕ → Type 0
  OwnFound shells r = MatchOption r (Each (λ s. IsNestOf s tests x t → ⊥) shells) (IsShellNestLine h new tests x t)

  pub own_more : (s : Shell) (shells : List Shell) (r : Option ℕ) → (IsNestOf s tests x t → ⊥) → OwnFound shells r → OwnFound (s ∷ shells) r
  own_more s shells None none f = (none, f)
  own_more s shells (Some n) none f = f

  -- a line of a nest, or that there is no structural one
  abbrev pub NestFound : Option ℕ → Type 0
  NestFound r = MatchOption r (IsStructuralNest h x tests t → ⊥) (IsShellNestLine h new tests x t)

  pub nest_found : (r : Option ℕ) → (IsStructuralNest [] x tests t → ⊥) → OwnFound (events_shells h) r → NestFound r
  nest_found None ground own = none_structural h new tests x t ground own
  nest_found (Some n) ground own = own

  -- a line of a nest that is below, or that there is no structural one
  abbrev pub IsFound : Option ℕ → Type 0
  IsFound r = MatchOption r (IsStructuralNest h x tests t → ⊥) (IsDecreaseLine h new tests x t)

-- what is told in the terms of one bank is told in those of another
pub own_moved : (new : Work) (h k : History) (shells shells' : List Shell) (tests tests' : List Term) (x x' t t' : Term) (r : Option ℕ) → k ≡ h → shells' ≡ shells → tests' ≡ tests → x' ≡ x → t' ≡ t → OwnFound k new tests' x' t' shells' r → OwnFound h new tests x t shells r
own_moved new h k shells shells' tests tests' x x' t t' r e_h e_s e_tests e_x e_t f =
    subst (λ h. OwnFound h new tests x t shells r) e_h
    (subst (λ ss. OwnFound k new tests x t ss r) e_s
    (subst (λ us. OwnFound k new us x t shells' r) e_tests (subst (λ u. OwnFound k new tests' u t shells' r) e_x (subst (λ u. OwnFound k new tests' x' u shells' r) e_t f))))

pub found_moved : (new : Work) (h k : History) (tests tests' : List Term) (x x' t t' : Term) (r : Option ℕ) → k ≡ h → tests' ≡ tests → x' ≡ x → t' ≡ t → IsFound k new tests' x' t' r → IsFound h new tests x t r
found_moved new h k tests tests' x x' t t' r e_h e_tests e_x e_t f =
    subst (λ h. IsFound h new tests x t r) e_h (subst (λ us. IsFound k new us x t r) e_tests (subst (λ u. IsFound k new tests' u t r) e_x (subst (λ u. IsFound k new tests' x' u r) e_t f)))

-- the first of some, and those behind it
pub first_apart : {X : Type 0} (xs : List X) (x : X) → 1 ≤ length xs → x ≡ get_or xs 0 x → xs ≡ x ∷ take (length xs - 1) (drop 1 xs)
first_apart [] x least is = absurd (omega (arith, least))
first_apart (y ∷ ys) x least is = ap (λ zs. y ∷ zs) (sym (take_all (length (y ∷ ys) - 1) ys (omega arith))) ∙ ap (λ z. z ∷ take (length (y ∷ ys) - 1) ys) (sym is)

-- shells, however the bank grows
module _ (old new : Content) (grows : Grows old new) where
  pub shells_stand : (shells : List BankShell) → All (ShellStands old) shells → All (ShellStands new) shells
  shells_stand shells all i d below = ShellStands-grown old new grows (get_or shells i d) (all i d below)

  pub shells_same : (shells : List BankShell) → All (ShellStands old) shells → shells_at new shells ≡ shells_at old shells
  shells_same [] all = refl
  shells_same (s ∷ shells) all =
      ap (λ t. t ∷ shells_at new shells) (shell_at-grown old new grows s (All-head (ShellStands old) s shells all)) ∙
      ap (λ ts. shell_at old s ∷ ts) (shells_same shells (All-tail (ShellStands old) s shells all))

-- users' shells stand behind those of the ground history
module _ (bank : Content) (shells : List BankShell) (own : List Shell) (e : shells_at bank shells ≡ ground_shells ++ own) where
  pub ground_first : 4 ≤ length shells
  ground_first =
      let many : length shells ≡ length (ground_shells ++ own) = sym (length-map shells (shell_at bank)) ∙ ap length e in
      let four : length (ground_shells ++ own) ≡ suc (suc (suc (suc (length own)))) = refl in
      omega (arith, many, four)

  all_behind : take (length shells - 4) (drop 4 shells) ≡ drop 4 shells
  all_behind = let few : length (drop 4 shells) ≡ length shells - 4 = length-drop 4 shells in take_all (length shells - 4) (drop 4 shells) (omega (arith, few))

  pub own_behind : shells_at bank (take (length shells - 4) (drop 4 shells)) ≡ own
  own_behind = ap (shells_at bank) all_behind ∙ sym (drop-map (shell_at bank) 4 shells) ∙ ap (λ ss. drop 4 ss) e

  pub behind_stand : All (ShellStands bank) shells → All (ShellStands bank) (take (length shells - 4) (drop 4 shells))
  behind_stand all = subst (All (ShellStands bank)) (sym all_behind) (All-drop (ShellStands bank) 4 shells all)
