-- Nests over the history's functions, and their lines.
use Rattle.std.proofs.Common.{◌≡◌, ◌≤◌, ◌+◌, ℕ, Bool, true, false, max, Option, Some, None, List, [], ◌∷◌, map, inl, inr, refl, sym, ap, ◌∙◌, subst, arith}
use Rattle.std.specs.Prelude.{codes, bytes_eq, is_some, if◌then◌else◌, MatchOption}
use Rattle.nq_logic.specs.Terms.{Name, Term, Variable, Function, Applied, IsAmong, Each}
use Rattle.nq_logic.specs.Words.{not_term}
use Rattle.nq_logic.specs.Histories.{Part}
use Rattle.nq_logic.specs.Ground.{symbols_of}
use Rattle.nq_logic.specs.Numerals.{number_of, next_number, is_numeral}
use Rattle.nq_logic.specs.Sizes.{depth_of, tree_depth}
use Rattle.nq_logic.proofs.Symbols.{car_symbol, cdr_symbol, sub1_symbol, unpack_symbol, negative_guts_symbol}
use Rattle.nq_bank.specs.declared.node.TermId.{TermId}
use Rattle.nq_bank.specs.Content.{Stands, term_at}
use Rattle.nq_history.specs.declared.entry.Entry.{Entry}
use Rattle.nq_history.specs.Events.{events_at}
use Rattle.nq_kernel.specs.declared.work.Work.{Work}
use Rattle.nq_kernel.specs.Growing.{WorkGrows}
use Rattle.nq_arith.specs.Nests.{is_smaller, accessor_of, nest}
use Rattle.nq_lines.specs.Lines.{IsTermIn, LineHasOnly, AreAmong}
use Rattle.nq_lines.proofs.LineLemmas.{only_more}
use Rattle.nq_lines.proofs.TermLemmas.{IsOver, same_term_grown}
use Rattle.nq_decrease.specs.declared.level.Level.{Level}
use Rattle.nq_decrease.specs.declared.kind.Kind.{Kind}
use Rattle.nq_decrease.specs.declared.kind.Kind.TheVariants.{Numbers, Pairs, Atoms, Negatives}
use Rattle.nq_part_lines.specs.LawLines.{term_room}
use Rattle.nq_decrease.specs.Levels.{part_of, tests_of, shell_of}
use Rattle.nq_decrease.specs.Nests.{IsNestOf, IsNestLine, AddsLevel, Lowers}
use Rattle.nq_decrease.proofs.NestLemmas.{IsLevelOf, last_nest, more_nest}

-- an argument is no deeper than its call
pub part_depth : (f : Name) (y : Term) → depth_of y ≤ depth_of (Applied (Function f) y)
unfolding number_of tree_depth
part_depth f y = by_test (is_numeral (Applied (Function f) y)) refl
  where
    number_some : (b : Bool) (o : Option ℕ) → is_some (if b then next_number o else None) ≡ true → is_some o ≡ true
    number_some true None e = e
    number_some true (Some n) e = refl
    number_some false None e = e
    number_some false (Some n) e = refl

    by_test : (b : Bool) → is_numeral (Applied (Function f) y) ≡ b → depth_of y ≤ depth_of (Applied (Function f) y)
    by_test true e =
        let whole : depth_of (Applied (Function f) y) ≡ 1 = ap (λ b. if b then 1 else tree_depth (Applied (Function f) y)) e in
        let part : depth_of y ≡ 1 = ap (λ b. if b then 1 else tree_depth y) (number_some (bytes_eq f (codes "ADD1")) (number_of y) e) in
        omega (arith, whole, part)
    by_test false e =
        let whole : depth_of (Applied (Function f) y) ≡ max 1 (depth_of y + 1) = ap (λ b. if b then 1 else tree_depth (Applied (Function f) y)) e in
        omega (arith, whole)

pub room_within : (t y : Term) (f : Name) (n : ℕ) → t ≡ Applied (Function f) y → depth_of t ≤ n → depth_of y ≤ n
room_within t y f n e h =
    let whole : depth_of t ≡ depth_of (Applied (Function f) y) = ap depth_of e in
    let part = part_depth f y in
    omega (arith, whole, part, h)

module _ (history : List Entry) (work : Work) where
  accessor_over : (kind : Kind) (p : Part) (t : Term) → IsAmong p (shell_of kind).parts → IsOver history work t → IsOver history work (accessor_of p t)
  accessor_over kind p t m k = record { over = (symbol kind m, k.over); variables = (tt, k.variables) }
    where
      named : (name : List ℕ) → p.accessor ≡ name → IsAmong (name, 1) (symbols_of (events_at work.bank history)) → IsAmong (p.accessor, 1) (symbols_of (events_at work.bank history))
      named name e h = subst (λ n. IsAmong (n, 1) (symbols_of (events_at work.bank history))) (sym e) h

      symbol : (kind : Kind) → IsAmong p (shell_of kind).parts → IsAmong (p.accessor, 1) (symbols_of (events_at work.bank history))
      symbol Numbers (inl e) = named (codes "SUB1") (ap (λ (p : Part). p.accessor) e) (sub1_symbol (events_at work.bank history))
      symbol Numbers (inr none) = absurd none
      symbol Pairs (inl e) = named (codes "CAR") (ap (λ (p : Part). p.accessor) e) (car_symbol (events_at work.bank history))
      symbol Pairs (inr (inl e)) = named (codes "CDR") (ap (λ (p : Part). p.accessor) e) (cdr_symbol (events_at work.bank history))
      symbol Pairs (inr (inr none)) = absurd none
      symbol Atoms (inl e) = named (codes "UNPACK") (ap (λ (p : Part). p.accessor) e) (unpack_symbol (events_at work.bank history))
      symbol Atoms (inr none) = absurd none
      symbol Negatives (inl e) = named (codes "NEGATIVE-GUTS") (ap (λ (p : Part). p.accessor) e) (negative_guts_symbol (events_at work.bank history))
      symbol Negatives (inr none) = absurd none

  nest_over : (kind : Kind) (x : Term) (ps : List Part) → Each (λ part. IsAmong part (shell_of kind).parts) ps → IsOver history work x → IsOver history work (nest x ps)
  nest_over kind x [] all k = k
  nest_over kind x (p ∷ ps) all k = accessor_over kind p (nest x ps) all.0 (nest_over kind x ps all.1 k)

  -- a nest around a term of the history is one
  pub nest_in : (kind : Kind) (tests : List Term) (x t : TermId) → Stands work.bank t → IsTermIn history work x → IsNestOf (shell_of kind) tests (term_at work.bank x) (term_at work.bank t) → IsTermIn history work t
  nest_in kind tests x t stands k n =
      record { stands = stands; over = subst (IsOver history work) (sym n.is) (nest_over kind (term_at work.bank x) (n.first ∷ n.rest) n.parts k.over) }

pub denied_among : (c d : List Term) → AreAmong c d → AreAmong (map not_term c) (map not_term d)
denied_among [] d within v m = absurd m
denied_among (t ∷ c) d within v (inl e) = subst (λ u. IsAmong u (map not_term d)) (sym e) (denied_one t d (within t (inl refl)))
  where
    denied_one : (t : Term) (d : List Term) → IsAmong t d → IsAmong (not_term t) (map not_term d)
    denied_one t [] i = absurd i
    denied_one t (u ∷ d) (inl e) = inl (ap not_term e)
    denied_one t (u ∷ d) (inr i) = inr (denied_one t d i)
denied_among (t ∷ c) d within v (inr m) = denied_among c d (λ u i. within u (inr i)) v m

pub more_denied : (a : Term) (c d : List Term) → AreAmong c d → AreAmong (a ∷ map not_term c) (a ∷ map not_term d)
more_denied a c d within v (inl e) = inl e
more_denied a c d within v (inr m) = inr (denied_among c d within v m)

module _ (new : Work) (kind : Kind) (tests : List Term) (x t : Term) (f : Name) (y : Term) (call : t ≡ Applied (Function f) y) (level : Level) (l : IsLevelOf kind f y tests level) where
  abbrev part : Term → Term
  part u = accessor_of (part_of level) u

  part_is : t ≡ part y
  part_is = call ∙ ap (λ g. Applied (Function g) y) l.accessor

  -- the innermost level
  pub last_line : (n : ℕ) → y ≡ x → LineHasOnly new n (is_smaller (part y) y ∷ map not_term (tests_of level y)) → IsNestLine new (shell_of kind) tests x t n
  last_line n e line =
      let moved : LineHasOnly new n (is_smaller t y ∷ map not_term (tests_of level y)) = subst (λ u. LineHasOnly new n (is_smaller u y ∷ map not_term (tests_of level y))) (sym part_is) line in
      let wide : LineHasOnly new n (is_smaller t y ∷ map not_term tests) = only_more new n (is_smaller t y ∷ map not_term (tests_of level y)) (is_smaller t y ∷ map not_term tests) (more_denied (is_smaller t y) (tests_of level y) tests l.among) moved in
      record { is = last_nest kind tests x t f y call level l e; line = subst (λ u. LineHasOnly new n (is_smaller t u ∷ map not_term tests)) e wide }

  -- a further level
  pub more_line : (old : Work) (inner n : ℕ) → IsNestLine old (shell_of kind) tests x y inner → AddsLevel old new level y x inner n → IsNestLine new (shell_of kind) tests x t n
  more_line old inner n below adds =
      record {
        is = more_nest kind tests x t f y call level l below.is;
        line = subst (λ u. LineHasOnly new n (is_smaller u x ∷ map not_term tests)) (sym part_is) (adds (map not_term tests) below.line (denied_among (tests_of level y) tests l.among));
      }

-- what is added to lines of terms of grown work
pub adds_grown : (history : List Entry) (old one two : Work) → WorkGrows history old one → (level : Level) (y z : TermId) (inner n : ℕ) → IsTermIn history old y → IsTermIn history old z →
    AddsLevel one two level (term_at one.bank y) (term_at one.bank z) inner n → AddsLevel one two level (term_at old.bank y) (term_at old.bank z) inner n
adds_grown history old one two grows level y z inner n ky kz h =
    subst (λ u. AddsLevel one two level u (term_at old.bank z) inner n) (same_term_grown history old one y grows ky)
    (subst (λ u. AddsLevel one two level (term_at one.bank y) u inner n) (same_term_grown history old one z grows kz) h)

pub lowers_grown : (history : List Entry) (old one two : Work) → WorkGrows history old one → (t z : TermId) (line n : ℕ) → IsTermIn history old t → IsTermIn history old z →
    Lowers one two (term_at one.bank t) (term_at one.bank z) line n → Lowers one two (term_at old.bank t) (term_at old.bank z) line n
lowers_grown history old one two grows t z line n kt kz h =
    subst (λ u. Lowers one two u (term_at old.bank z) line n) (same_term_grown history old one t grows kt)
    (subst (λ u. Lowers one two (term_at one.bank t) u line n) (same_term_grown history old one z grows kz) h)

-- what was found, where it was something, and where it was nothing
pub found_some : (P : Type 0) (Q : ℕ → Type 0) (r : Option ℕ) (n : ℕ) → r ≡ Some n → MatchOption r P Q → Q n
found_some P Q r n e h = subst (λ r. MatchOption r P Q) e h

pub found_none : (P : Type 0) (Q : ℕ → Type 0) (r : Option ℕ) → r ≡ None → MatchOption r P Q → P
found_none P Q r e h = subst (λ r. MatchOption r P Q) e h

-- the same term is in
pub same_in : (history : List Entry) (work : Work) (x y : TermId) → Stands work.bank y → term_at work.bank y ≡ term_at work.bank x → IsTermIn history work x → IsTermIn history work y
same_in history work x y stands e k = record { stands = stands; over = subst (IsOver history work) (sym e) k.over }

module _ (history : List Entry) (old new : Work) (grows : WorkGrows history old new) (kind : Kind) (tests : List Term) (x y t : TermId) (f : Name) (stands_y : Stands old.bank y) (stands_t : Stands old.bank t) (whole : IsTermIn history old x) (call : term_at old.bank t ≡ Applied (Function f) (term_at old.bank y)) (level : Level)
    (l : IsLevelOf kind f (term_at old.bank y) tests level) (inner : ℕ) (below : IsNestLine new (shell_of kind) tests (term_at old.bank x) (term_at old.bank y) inner) where
  pub inner_in : IsTermIn history old y
  inner_in = nest_in history old kind tests x y stands_y whole below.is

  pub outer_in : IsTermIn history old t
  outer_in = nest_in history old kind tests x t stands_t whole (more_nest kind tests (term_at old.bank x) (term_at old.bank t) f (term_at old.bank y) call level l below.is)

  pub outer_part : term_at new.bank t ≡ accessor_of (part_of level) (term_at new.bank y)
  outer_part =
      same_term_grown history old new t grows outer_in ∙ part_is new kind tests (term_at old.bank x) (term_at old.bank t) f (term_at old.bank y) call level l ∙
      ap (λ u. accessor_of (part_of level) u) (sym (same_term_grown history old new y grows inner_in))

  pub outer_made : (third : Work) (n : ℕ) → AddsLevel new third level (term_at new.bank y) (term_at new.bank x) inner n → IsNestLine third (shell_of kind) tests (term_at old.bank x) (term_at old.bank t) n
  outer_made third n adds =
      more_line third kind tests (term_at old.bank x) (term_at old.bank t) f (term_at old.bank y) call level l new inner n below (adds_grown history old new third grows level y x inner n inner_in whole adds)

pub variable_room : (x : Name) → depth_of (Variable x) ≤ term_room
unfolding number_of tree_depth
variable_room x = omega arith
