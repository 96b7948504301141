-- Nests of users' shells' accessors over the history's functions, and their lines.
use Rattle.std.proofs.Common.{◌≡◌, ℕ, Some, List, [], ◌∷◌, map, inl, inr, sym, ap, ◌∙◌, subst}
use Rattle.nq_logic.specs.Terms.{Name, Term, Function, Applied, IsAmong, Each}
use Rattle.nq_logic.specs.Words.{not_term}
use Rattle.nq_logic.specs.Histories.{Part, Shell}
use Rattle.nq_logic.specs.Ground.{symbols_of}
use Rattle.nq_logic.proofs.Lists.{each_at, among_at}
use Rattle.nq_bank.specs.declared.node.TermId.{TermId}
use Rattle.nq_bank.specs.declared.shell.Shell.{Shell as BankShell}
use Rattle.nq_bank.specs.Content.{Stands, term_at}
use Rattle.nq_bank.specs.Shells.{ShellStands, shell_at}
use Rattle.nq_history.specs.declared.entry.Entry.{Entry}
use Rattle.nq_history.specs.Events.{events_at}
use Rattle.nq_kernel.specs.declared.work.Work.{Work}
use Rattle.nq_kernel.specs.Growing.{WorkStands, WorkGrows}
use Rattle.nq_arith.specs.Nests.{accessor_of, is_smaller, nest}
use Rattle.nq_lines.specs.Lines.{IsTermIn, LineHasOnly, AreAmong}
use Rattle.nq_lines.proofs.LineLemmas.{only_grown, only_more}
use Rattle.nq_lines.proofs.TermLemmas.{IsOver, same_term_grown}
use Rattle.nq_part_lines.specs.Known.{IsKnownShell}
use Rattle.nq_decrease.specs.declared.own_level.OwnLevel.{OwnLevel}
use Rattle.nq_decrease.specs.Nests.{IsNestOf, IsNestLine, JoinsSizes}
use Rattle.nq_decrease.specs.OwnLevels.{AddsOwnLevel, IsOwnLevelOf, IsPartAt, OwnLevelLine, made_tests}
use Rattle.nq_decrease.proofs.NestLines.{denied_among, more_denied}
use Rattle.nq_decrease.proofs.OwnGrownLemmas.{same_shell}
use Rattle.nq_decrease.proofs.OwnNestLemmas.{last_own, more_own}

module _ (history : List Entry) (work : Work) (s : Shell) (accessors : Each (λ part. IsAmong (part.accessor, 1) (symbols_of (events_at work.bank history))) s.parts) where
  nest_over : (x : Term) (ps : List Part) → Each (λ part. IsAmong part s.parts) ps → IsOver history work x → IsOver history work (nest x ps)
  nest_over x [] all k = k
  nest_over x (p ∷ ps) all k =
      let below = nest_over x ps all.1 k in
      record { over = (each_at (λ part. IsAmong (part.accessor, 1) (symbols_of (events_at work.bank history))) p s.parts accessors all.0, below.over); variables = (tt, below.variables) }

  -- a nest around a term of the history is one
  pub own_nest_in : (tests : List Term) (x t : TermId) → Stands work.bank t → IsTermIn history work x → IsNestOf s tests (term_at work.bank x) (term_at work.bank t) → IsTermIn history work t
  own_nest_in tests x t stands k n = record { stands = stands; over = subst (IsOver history work) (sym n.is) (nest_over (term_at work.bank x) (n.first ∷ n.rest) n.parts k.over) }

some_same : (p q : Part) → Some p ≡ Some q → p ≡ q
some_same p q e = cc

module _ (new : Work) (s : Shell) (tests : List Term) (x t : Term) (f : Name) (y : Term) (call : t ≡ Applied (Function f) y) (level : OwnLevel) (l : IsOwnLevelOf s f y tests level) where
  part_is : t ≡ accessor_of l.has.part y
  part_is = call ∙ ap (λ g. Applied (Function g) y) l.has.accessor

  among : IsAmong l.has.part s.parts
  among = among_at l.has.part s.parts level.place l.has.at

  pub own_part : IsPartAt s level.place y t
  own_part part at = part_is ∙ ap (λ p. accessor_of p y) (some_same l.has.part part (sym l.has.at ∙ at))

  -- the innermost level
  pub own_last_line : (n : ℕ) → y ≡ x → OwnLevelLine new s level y n → IsNestLine new s tests x t n
  own_last_line n e line =
      let denied : List Term = map not_term (made_tests s level.guard y) in
      let here : LineHasOnly new n (is_smaller (accessor_of l.has.part y) y ∷ denied) = line l.has.part l.has.at in
      let moved : LineHasOnly new n (is_smaller t y ∷ denied) = subst (λ u. LineHasOnly new n (is_smaller u y ∷ denied)) (sym part_is) here in
      let wide : LineHasOnly new n (is_smaller t y ∷ map not_term tests) = only_more new n (is_smaller t y ∷ denied) (is_smaller t y ∷ map not_term tests) (more_denied (is_smaller t y) (made_tests s level.guard y) tests l.among) moved in
      record { is = last_own s tests x t f y call l.has.part among l.has.accessor l.guarded e; line = subst (λ u. LineHasOnly new n (is_smaller t u ∷ map not_term tests)) e wide }

  -- a further level
  pub own_more_line : (old : Work) (inner n : ℕ) → IsNestLine old s tests x y inner → AddsOwnLevel old new s level y x inner n → IsNestLine new s tests x t n
  own_more_line old inner n below adds =
      record {
        is = more_own s tests x t f y call l.has.part among l.has.accessor l.guarded below.is;
        line = subst (λ u. LineHasOnly new n (is_smaller u x ∷ map not_term tests)) (sym part_is) (adds l.has.part (map not_term tests) l.has.at below.line (denied_among (made_tests s level.guard y) tests l.among));
      }

-- a level's line, and then a join
pub own_leveled : (history : List Entry) (old one two : Work) (s : Shell) (level : OwnLevel) (t y z : Term) (inner first n : ℕ) → WorkStands history old → WorkGrows history old one → IsPartAt s level.place y t → OwnLevelLine one s level y first → JoinsSizes one two t y z first inner n → AddsOwnLevel old two s level y z inner n
own_leveled history old one two s level t y z inner first n stands grows is line joins part these at below within =
    let e : t ≡ accessor_of part y = is part at in
    let denied : List Term = map not_term (made_tests s level.guard y) in
    let here : LineHasOnly one first (is_smaller t y ∷ denied) = subst (λ u. LineHasOnly one first (is_smaller u y ∷ denied)) (sym e) (line part at) in
    let lower : LineHasOnly one first (is_smaller t y ∷ these) = only_more one first (is_smaller t y ∷ denied) (is_smaller t y ∷ these) (first_kept (is_smaller t y) denied these within) here in
    subst (λ u. LineHasOnly two n (is_smaller u z ∷ these)) e (joins these lower (only_grown history old one inner (is_smaller y z ∷ these) stands grows below))
  where
    first_kept : (a : Term) (c these : List Term) → AreAmong c these → AreAmong (a ∷ c) (a ∷ these)
    first_kept a c these within v m = elim m [ inl e ↦ inl e | inr k ↦ inr (within v k) ]

module _ (history : List Entry) (old new : Work) (grows : WorkGrows history old new) where
  module _ (shell : BankShell) (named : ShellStands old.bank shell) where
    -- what is added to lines of terms of grown work
    pub own_adds_grown : (two : Work) (level : OwnLevel) (y z : TermId) (inner n : ℕ) → IsTermIn history old y → IsTermIn history old z → AddsOwnLevel new two (shell_at new.bank shell) level (term_at new.bank y) (term_at new.bank z) inner n →
        AddsOwnLevel new two (shell_at old.bank shell) level (term_at old.bank y) (term_at old.bank z) inner n
    own_adds_grown two level y z inner n ky kz h =
        subst (λ s. AddsOwnLevel new two s level (term_at old.bank y) (term_at old.bank z) inner n) (same_shell history old new grows shell named)
        (subst (λ u. AddsOwnLevel new two (shell_at new.bank shell) level u (term_at old.bank z) inner n) (same_term_grown history old new y grows ky)
        (subst (λ u. AddsOwnLevel new two (shell_at new.bank shell) level (term_at new.bank y) u inner n) (same_term_grown history old new z grows kz) h))

    -- a level around a nest whose line was found
    module _ (tests : List Term) (x y t : TermId) (f : Name) (stands_y : Stands old.bank y) (stands_t : Stands old.bank t) (whole : IsTermIn history old x) (known : IsKnownShell (events_at old.bank history) (shell_at old.bank shell)) (call : term_at old.bank t ≡ Applied (Function f) (term_at old.bank y)) (level : OwnLevel)
        (l : IsOwnLevelOf (shell_at old.bank shell) f (term_at old.bank y) tests level) (inner : ℕ) (below : IsNestLine new (shell_at old.bank shell) tests (term_at old.bank x) (term_at old.bank y) inner) where
      pub own_inner_in : IsTermIn history old y
      own_inner_in = own_nest_in history old (shell_at old.bank shell) known.accessors tests x y stands_y whole below.is

      pub own_outer_in : IsTermIn history old t
      own_outer_in =
          own_nest_in history old (shell_at old.bank shell) known.accessors tests x t stands_t whole
          (more_own (shell_at old.bank shell) tests (term_at old.bank x) (term_at old.bank t) f (term_at old.bank y) call l.has.part (among_at l.has.part (shell_at old.bank shell).parts level.place l.has.at) l.has.accessor l.guarded below.is)

      pub own_outer_part : IsPartAt (shell_at new.bank shell) level.place (term_at new.bank y) (term_at new.bank t)
      own_outer_part =
          subst (λ s. IsPartAt s level.place (term_at new.bank y) (term_at new.bank t)) (sym (same_shell history old new grows shell named))
          (subst (λ u. IsPartAt (shell_at old.bank shell) level.place u (term_at new.bank t)) (sym (same_term_grown history old new y grows own_inner_in))
          (subst (λ u. IsPartAt (shell_at old.bank shell) level.place (term_at old.bank y) u) (sym (same_term_grown history old new t grows own_outer_in))
          (own_part new (shell_at old.bank shell) tests (term_at old.bank x) (term_at old.bank t) f (term_at old.bank y) call level l)))

      pub own_outer_made : (third : Work) (n : ℕ) → AddsOwnLevel new third (shell_at new.bank shell) level (term_at new.bank y) (term_at new.bank x) inner n → IsNestLine third (shell_at old.bank shell) tests (term_at old.bank x) (term_at old.bank t) n
      own_outer_made third n adds =
          own_more_line third (shell_at old.bank shell) tests (term_at old.bank x) (term_at old.bank t) f (term_at old.bank y) call level l new inner n below (own_adds_grown third level y x inner n own_inner_in whole adds)
