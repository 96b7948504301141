-- Levels of nests, and nests of them.
use Rattle.std.proofs.Common.{◌≡◌, ◌⊎◌, Bool, true, false, ◌||◌, Option, Some, None, List, [], ◌∷◌, inl, inr, refl, sym, ap, ◌∙◌, subst}
use Rattle.std.specs.Prelude.{codes, bytes_eq, is_some, if◌then◌else◌, MatchOption}
use Rattle.nq_logic.specs.Terms.{Name, Term, Function, Applied, IsAmong, Each}
use Rattle.nq_logic.specs.Words.{call1, not_term, equal_term, zero_term}
use Rattle.nq_logic.specs.Histories.{Shell, Part}
use Rattle.nq_logic.specs.Ground.{numbers, pairs, atoms, negatives, ground_shells}
use Rattle.nq_bank.proofs.Texts.{bytes_eq-true, eq-bytes_eq}
use Rattle.nq_proof.specs.Clauses.{Clause, same_term, has_term}
use Rattle.nq_proof.proofs.Tests.{found, none_is_not_some}
use Rattle.nq_rule.proofs.LiteralLemmas.{true_same}
use Rattle.nq_arith.specs.Nests.{nest, IsGuarded, AreGuarded, recognized, no_atom, no_base, no_base_turned, no_zero}
use Rattle.nq_arith.specs.Structural.{IsStructuralNest}
use Rattle.nq_lines.specs.Lines.{AreAmong}
use Rattle.nq_decrease.specs.declared.level.Level.{Level}
use Rattle.nq_decrease.specs.declared.level.Level.TheVariants.{First, FirstByNoAtom, Rest, RestByNoAtom, AtomPart, NegativePart, OneLessByNoZero, OneLessOfNumber, OneLessOfNumberTurned}
use Rattle.nq_decrease.specs.declared.kind.Kind.{Kind}
use Rattle.nq_decrease.specs.declared.kind.Kind.TheVariants.{Numbers, Pairs, Atoms, Negatives}
use Rattle.nq_bank.specs.declared.node.TermId.{TermId}
use Rattle.nq_bank.specs.Content.{Content, text_at, term_at}
use Rattle.nq_decrease.specs.declared.calls.OneCall.{OneCall}
use Rattle.nq_decrease.specs.Guards.{IsNoCall, IsOneCall}
use Rattle.nq_decrease.specs.Levels.{part_of, tests_of, shell_of, kind_at, level_at, list_level, number_level}
use Rattle.nq_decrease.specs.Nests.{IsNestOf, IsOfShell, IsOfNoShell}

-- names that differ
apart : (f g : Name) → f ≡ g → bytes_eq f g ≡ false → ⊥
apart f g e h = let same : bytes_eq f g ≡ true = eq-bytes_eq f g e in absurd cc

or_true : (b : Bool) → (b || true) ≡ true
or_true true = refl
or_true false = refl

pub has_among : (t : Term) (c : Clause) → IsAmong t c → has_term t c ≡ true
has_among t [] m = absurd m
has_among t (u ∷ c) (inl e) = ap (λ b. b || has_term t c) (true_same t u e)
has_among t (u ∷ c) (inr m) = ap (λ b. same_term t u || b) (has_among t c m) ∙ or_true (same_term t u)

-- which way a choice went
pick : (b : Bool) (o p : Option Level) (l : Level) → (if b then o else p) ≡ Some l → ((b ≡ true) × (o ≡ Some l)) ⊎ (p ≡ Some l)
pick true o p l e = inl (refl, e)
pick false o p l e = inr e

one_among : (t : Term) (ts : List Term) → has_term t ts ≡ true → AreAmong (t ∷ []) ts
one_among t ts h u (inl e) = subst (λ v. IsAmong v ts) (sym e) (found t ts h)
one_among t ts h u (inr none) = absurd none

two_among : (t v : Term) (ts : List Term) → has_term t ts ≡ true → has_term v ts ≡ true → AreAmong (t ∷ v ∷ []) ts
two_among t v ts h k u (inl e) = subst (λ v. IsAmong v ts) (sym e) (found t ts h)
two_among t v ts h k u (inr m) = one_among v ts k u m

-- the level is right for this accessor of y
pub record IsLevelOf (kind : Kind) (f : Name) (y : Term) (tests : List Term) (level : Level) : Type 0 where
  pub accessor : f ≡ (part_of level).accessor
  pub part : IsAmong (part_of level) (shell_of kind).parts
  pub guarded : IsGuarded tests (shell_of kind) y
  pub among : AreAmong (tests_of level y) tests

level_same : (kind : Kind) (f : Name) (y : Term) (tests : List Term) (l m : Level) → Some l ≡ Some m → IsLevelOf kind f y tests l → IsLevelOf kind f y tests m
level_same kind f y tests l m e h = let same : l ≡ m = cc in subst (IsLevelOf kind f y tests) same h

module _ (f : Name) (y : Term) (tests : List Term) (level : Level) where
  first_right : f ≡ codes "CAR" → list_level y tests First FirstByNoAtom ≡ Some level → IsLevelOf Pairs f y tests level
  first_right a e =
      elim (pick (has_term (call1 "LISTP" y) tests) (Some First) (if has_term (not_term (call1 "NLISTP" y)) tests then Some FirstByNoAtom else None) level e) [
        | inl h ↦ level_same Pairs f y tests First level h.1 (record { accessor = a; part = inl refl; guarded = recognized refl (found (call1 "LISTP" y) tests h.0); among = one_among (call1 "LISTP" y) tests h.0 })
        | inr k ↦ elim (pick (has_term (not_term (call1 "NLISTP" y)) tests) (Some FirstByNoAtom) None level k) [
          | inl h ↦ level_same Pairs f y tests FirstByNoAtom level h.1 (record { accessor = a; part = inl refl; guarded = no_atom refl (found (not_term (call1 "NLISTP" y)) tests h.0); among = one_among (not_term (call1 "NLISTP" y)) tests h.0 })
          | inr n ↦ absurd (none_is_not_some level n)
        ]
      ]

  rest_right : f ≡ codes "CDR" → list_level y tests Rest RestByNoAtom ≡ Some level → IsLevelOf Pairs f y tests level
  rest_right a e =
      elim (pick (has_term (call1 "LISTP" y) tests) (Some Rest) (if has_term (not_term (call1 "NLISTP" y)) tests then Some RestByNoAtom else None) level e) [
        | inl h ↦ level_same Pairs f y tests Rest level h.1 (record { accessor = a; part = inr (inl refl); guarded = recognized refl (found (call1 "LISTP" y) tests h.0); among = one_among (call1 "LISTP" y) tests h.0 })
        | inr k ↦ elim (pick (has_term (not_term (call1 "NLISTP" y)) tests) (Some RestByNoAtom) None level k) [
          | inl h ↦ level_same Pairs f y tests RestByNoAtom level h.1 (record { accessor = a; part = inr (inl refl); guarded = no_atom refl (found (not_term (call1 "NLISTP" y)) tests h.0); among = one_among (not_term (call1 "NLISTP" y)) tests h.0 })
          | inr n ↦ absurd (none_is_not_some level n)
        ]
      ]

  number_right : f ≡ codes "SUB1" → number_level y tests ≡ Some level → IsLevelOf Numbers f y tests level
  number_right a e =
      let by_zero : Term = not_term (call1 "ZEROP" y) in
      let number : Term = call1 "NUMBERP" y in
      let plain : Term = not_term (equal_term y zero_term) in
      let turned : Term = not_term (equal_term zero_term y) in
      let last : Option Level = if has_term turned tests then Some OneLessOfNumberTurned else None in
      let inner : Option Level = if has_term plain tests then Some OneLessOfNumber else last in
      elim (pick (has_term by_zero tests) (Some OneLessByNoZero) (if has_term number tests then inner else None) level e) [
        | inl h ↦ level_same Numbers f y tests OneLessByNoZero level h.1 (record { accessor = a; part = inl refl; guarded = no_zero refl (found by_zero tests h.0); among = one_among by_zero tests h.0 })
        | inr k ↦ elim (pick (has_term number tests) inner None level k) [
          | inl r ↦ elim (pick (has_term plain tests) (Some OneLessOfNumber) last level r.1) [
            | inl h ↦ level_same Numbers f y tests OneLessOfNumber level h.1 (record { accessor = a; part = inl refl; guarded = no_base (codes "ZERO") refl (found number tests r.0) (found plain tests h.0); among = two_among number plain tests r.0 h.0 })
            | inr m ↦ elim (pick (has_term turned tests) (Some OneLessOfNumberTurned) None level m) [
              | inl h ↦ level_same Numbers f y tests OneLessOfNumberTurned level h.1 (record { accessor = a; part = inl refl; guarded = no_base_turned (codes "ZERO") refl (found number tests r.0) (found turned tests h.0); among = two_among number turned tests r.0 h.0 })
              | inr n ↦ absurd (none_is_not_some level n)
            ]
          ]
          | inr n ↦ absurd (none_is_not_some level n)
        ]
      ]

  atom_right : f ≡ codes "UNPACK" → (if has_term (call1 "LITATOM" y) tests then Some AtomPart else None) ≡ Some level → IsLevelOf Atoms f y tests level
  atom_right a e =
      elim (pick (has_term (call1 "LITATOM" y) tests) (Some AtomPart) None level e) [
        | inl h ↦ level_same Atoms f y tests AtomPart level h.1 (record { accessor = a; part = inl refl; guarded = recognized refl (found (call1 "LITATOM" y) tests h.0); among = one_among (call1 "LITATOM" y) tests h.0 })
        | inr n ↦ absurd (none_is_not_some level n)
      ]

  negative_right : f ≡ codes "NEGATIVE-GUTS" → (if has_term (call1 "NEGATIVEP" y) tests then Some NegativePart else None) ≡ Some level → IsLevelOf Negatives f y tests level
  negative_right a e =
      elim (pick (has_term (call1 "NEGATIVEP" y) tests) (Some NegativePart) None level e) [
        | inl h ↦ level_same Negatives f y tests NegativePart level h.1 (record { accessor = a; part = inl refl; guarded = recognized refl (found (call1 "NEGATIVEP" y) tests h.0); among = one_among (call1 "NEGATIVEP" y) tests h.0 })
        | inr n ↦ absurd (none_is_not_some level n)
      ]

-- the level that is chosen is right
pub level_right : (kind : Kind) (f : Name) (y : Term) (tests : List Term) (level : Level) → level_at kind f y tests ≡ Some level → IsLevelOf kind f y tests level
level_right Pairs f y tests level e =
    elim (pick (bytes_eq f (codes "CAR")) (list_level y tests First FirstByNoAtom) (if bytes_eq f (codes "CDR") then list_level y tests Rest RestByNoAtom else None) level e) [
      | inl h ↦ first_right f y tests level (bytes_eq-true f (codes "CAR") h.0) h.1
      | inr k ↦ elim (pick (bytes_eq f (codes "CDR")) (list_level y tests Rest RestByNoAtom) None level k) [
        | inl h ↦ rest_right f y tests level (bytes_eq-true f (codes "CDR") h.0) h.1
        | inr n ↦ absurd (none_is_not_some level n)
      ]
    ]
level_right Numbers f y tests level e =
    elim (pick (bytes_eq f (codes "SUB1")) (number_level y tests) None level e) [ inl h ↦ number_right f y tests level (bytes_eq-true f (codes "SUB1") h.0) h.1 | inr n ↦ absurd (none_is_not_some level n) ]
level_right Atoms f y tests level e =
    elim (pick (bytes_eq f (codes "UNPACK")) (if has_term (call1 "LITATOM" y) tests then Some AtomPart else None) None level e) [ inl h ↦ atom_right f y tests level (bytes_eq-true f (codes "UNPACK") h.0) h.1 | inr n ↦ absurd (none_is_not_some level n) ]
level_right Negatives f y tests level e =
    elim (pick (bytes_eq f (codes "NEGATIVE-GUTS")) (if has_term (call1 "NEGATIVEP" y) tests then Some NegativePart else None) None level e) [ inl h ↦ negative_right f y tests level (bytes_eq-true f (codes "NEGATIVE-GUTS") h.0) h.1 | inr n ↦ absurd (none_is_not_some level n) ]

-- choices that give something
abbrev some_list : Bool → Bool → Level → Level → Bool
some_list a b l m = is_some (if a then Some l else if b then Some m else None)

either_some : (a b : Bool) (l m : Level) → b ≡ true → some_list a b l m ≡ true
either_some true b l m e = refl
either_some false true l m e = refl
either_some false false l m e = absurd cc

list_some : (y : Term) (tests : List Term) (l m : Level) → IsGuarded tests pairs y → is_some (list_level y tests l m) ≡ true
list_some y tests l m (recognized e a) = ap (λ b. some_list b (has_term (not_term (call1 "NLISTP" y)) tests) l m) (has_among (call1 "LISTP" y) tests a)
list_some y tests l m (no_atom e a) = either_some (has_term (call1 "LISTP" y) tests) (has_term (not_term (call1 "NLISTP" y)) tests) l m (has_among (not_term (call1 "NLISTP" y)) tests a)
list_some y tests l m (no_base b e a d) = absurd (none_is_not_some b e)
list_some y tests l m (no_base_turned b e a d) = absurd (none_is_not_some b e)
list_some y tests l m (no_zero e a) = let bases : None ≡ Some (codes "ZERO") = ap (λ (s : Shell). s.base) e in absurd (none_is_not_some (codes "ZERO") bases)

abbrev some_number : Bool → Bool → Bool → Bool → Bool
some_number a b d e = is_some (if a then Some OneLessByNoZero else if b then if d then Some OneLessOfNumber else if e then Some OneLessOfNumberTurned else None else None)

number_plain : (a b d e : Bool) → b ≡ true → d ≡ true → some_number a b d e ≡ true
number_plain true b d e h k = refl
number_plain false true true e h k = refl
number_plain false true false e h k = absurd cc
number_plain false false d e h k = absurd cc

number_turned : (a b d e : Bool) → b ≡ true → e ≡ true → some_number a b d e ≡ true
number_turned true b d e h k = refl
number_turned false true true e h k = refl
number_turned false true false true h k = refl
number_turned false true false false h k = absurd cc
number_turned false false d e h k = absurd cc

number_some : (y : Term) (tests : List Term) → IsGuarded tests numbers y → is_some (number_level y tests) ≡ true
number_some y tests (recognized e a) = absurd cc
number_some y tests (no_atom e a) = let bases : Some (codes "ZERO") ≡ None = ap (λ (s : Shell). s.base) e in absurd (none_is_not_some (codes "ZERO") (sym bases))
number_some y tests (no_base b e a d) =
    let named : codes "ZERO" ≡ b = cc in
    let at_zero : IsAmong (not_term (equal_term y zero_term)) tests = subst (λ n. IsAmong (not_term (equal_term y (Function n))) tests) (sym named) d in
    number_plain (has_term (not_term (call1 "ZEROP" y)) tests) (has_term (call1 "NUMBERP" y) tests) (has_term (not_term (equal_term y zero_term)) tests) (has_term (not_term (equal_term zero_term y)) tests)
    (has_among (call1 "NUMBERP" y) tests a) (has_among (not_term (equal_term y zero_term)) tests at_zero)
number_some y tests (no_base_turned b e a d) =
    let named : codes "ZERO" ≡ b = cc in
    let at_zero : IsAmong (not_term (equal_term zero_term y)) tests = subst (λ n. IsAmong (not_term (equal_term (Function n) y)) tests) (sym named) d in
    number_turned (has_term (not_term (call1 "ZEROP" y)) tests) (has_term (call1 "NUMBERP" y) tests) (has_term (not_term (equal_term y zero_term)) tests) (has_term (not_term (equal_term zero_term y)) tests)
    (has_among (call1 "NUMBERP" y) tests a) (has_among (not_term (equal_term zero_term y)) tests at_zero)
number_some y tests (no_zero e a) =
    ap (λ b. some_number b (has_term (call1 "NUMBERP" y) tests) (has_term (not_term (equal_term y zero_term)) tests) (has_term (not_term (equal_term zero_term y)) tests)) (has_among (not_term (call1 "ZEROP" y)) tests a)

abbrev some_one : Bool → Level → Bool
some_one b l = is_some (if b then Some l else None)

atom_some : (y : Term) (tests : List Term) → IsGuarded tests atoms y → some_one (has_term (call1 "LITATOM" y) tests) AtomPart ≡ true
atom_some y tests (recognized e a) = ap (λ b. some_one b AtomPart) (has_among (call1 "LITATOM" y) tests a)
atom_some y tests (no_atom e a) = absurd (apart (codes "PACK") (codes "CONS") (ap (λ (s : Shell). s.constructor) e) refl)
atom_some y tests (no_base b e a d) = absurd (none_is_not_some b e)
atom_some y tests (no_base_turned b e a d) = absurd (none_is_not_some b e)
atom_some y tests (no_zero e a) = absurd (apart (codes "PACK") (codes "ADD1") (ap (λ (s : Shell). s.constructor) e) refl)

negative_some : (y : Term) (tests : List Term) → IsGuarded tests negatives y → some_one (has_term (call1 "NEGATIVEP" y) tests) NegativePart ≡ true
negative_some y tests (recognized e a) = ap (λ b. some_one b NegativePart) (has_among (call1 "NEGATIVEP" y) tests a)
negative_some y tests (no_atom e a) = absurd (apart (codes "MINUS") (codes "CONS") (ap (λ (s : Shell). s.constructor) e) refl)
negative_some y tests (no_base b e a d) = absurd (none_is_not_some b e)
negative_some y tests (no_base_turned b e a d) = absurd (none_is_not_some b e)
negative_some y tests (no_zero e a) = absurd (apart (codes "MINUS") (codes "ADD1") (ap (λ (s : Shell). s.constructor) e) refl)

-- where the tests say so, there is a level
level_some : (kind : Kind) (f : Name) (y : Term) (tests : List Term) (p : Part) → IsAmong p (shell_of kind).parts → f ≡ p.accessor → IsGuarded tests (shell_of kind) y → is_some (level_at kind f y tests) ≡ true
level_some Pairs f y tests p (inl e) a g =
    subst (λ f. is_some (level_at Pairs f y tests) ≡ true) (sym (a ∙ ap (λ (p : Part). p.accessor) e)) (list_some y tests First FirstByNoAtom g)
level_some Pairs f y tests p (inr (inl e)) a g =
    subst (λ f. is_some (level_at Pairs f y tests) ≡ true) (sym (a ∙ ap (λ (p : Part). p.accessor) e)) (list_some y tests Rest RestByNoAtom g)
level_some Pairs f y tests p (inr (inr none)) a g = absurd none
level_some Numbers f y tests p (inl e) a g = subst (λ f. is_some (level_at Numbers f y tests) ≡ true) (sym (a ∙ ap (λ (p : Part). p.accessor) e)) (number_some y tests g)
level_some Numbers f y tests p (inr none) a g = absurd none
level_some Atoms f y tests p (inl e) a g = subst (λ f. is_some (level_at Atoms f y tests) ≡ true) (sym (a ∙ ap (λ (p : Part). p.accessor) e)) (atom_some y tests g)
level_some Atoms f y tests p (inr none) a g = absurd none
level_some Negatives f y tests p (inl e) a g = subst (λ f. is_some (level_at Negatives f y tests) ≡ true) (sym (a ∙ ap (λ (p : Part). p.accessor) e)) (negative_some y tests g)
level_some Negatives f y tests p (inr none) a g = absurd none

not_adder : (kind : Kind) (p : Part) → IsAmong p (shell_of kind).parts → p.accessor ≡ codes "ADD1" → ⊥
not_adder Pairs p (inl e) a = apart (codes "CAR") (codes "ADD1") (sym (ap (λ (p : Part). p.accessor) e) ∙ a) refl
not_adder Pairs p (inr (inl e)) a = apart (codes "CDR") (codes "ADD1") (sym (ap (λ (p : Part). p.accessor) e) ∙ a) refl
not_adder Pairs p (inr (inr none)) a = absurd none
not_adder Numbers p (inl e) a = apart (codes "SUB1") (codes "ADD1") (sym (ap (λ (p : Part). p.accessor) e) ∙ a) refl
not_adder Numbers p (inr none) a = absurd none
not_adder Atoms p (inl e) a = apart (codes "UNPACK") (codes "ADD1") (sym (ap (λ (p : Part). p.accessor) e) ∙ a) refl
not_adder Atoms p (inr none) a = absurd none
not_adder Negatives p (inl e) a = apart (codes "NEGATIVE-GUTS") (codes "ADD1") (sym (ap (λ (p : Part). p.accessor) e) ∙ a) refl
not_adder Negatives p (inr none) a = absurd none

same_name : (f g : Name) (t u : Term) → Applied (Function f) t ≡ Applied (Function g) u → f ≡ g
same_name f g t u e = cc

same_argument : (f g : Name) (t u : Term) → Applied (Function f) t ≡ Applied (Function g) u → t ≡ u
same_argument f g t u e = cc

module _ (kind : Kind) (tests : List Term) (x t : Term) where
  abbrev Here : Type 0
  Here = IsNestOf (shell_of kind) tests x t

  -- what is no call is no nest
  pub no_call_nest : IsNoCall t → Here → ⊥
  no_call_nest none n = not_adder kind n.first n.parts.0 (none n.first.accessor (nest x n.rest) n.is)

  module _ (f : Name) (y : Term) (call : t ≡ Applied (Function f) y) where
    -- nor is what has no level
    pub no_level_nest : level_at kind f y tests ≡ None → Here → ⊥
    no_level_nest none n =
        let both : Applied (Function f) y ≡ Applied (Function n.first.accessor) (nest x n.rest) = sym call ∙ n.is in
        let guarded : IsGuarded tests (shell_of kind) y = subst (IsGuarded tests (shell_of kind)) (sym (same_argument f n.first.accessor y (nest x n.rest) both)) n.guarded.0 in
        let some : is_some (level_at kind f y tests) ≡ true = level_some kind f y tests n.first n.parts.0 (same_name f n.first.accessor y (nest x n.rest) both) guarded in
        let other : is_some (level_at kind f y tests) ≡ false = ap is_some none in
        absurd cc

    -- nor a call of what is neither the term nor a nest
    pub no_rest_nest : same_term y x ≡ false → (IsNestOf (shell_of kind) tests x y → ⊥) → Here → ⊥
    no_rest_nest other none n = by_rest n.rest n.parts n.is n.guarded
      where
        by_rest : (ps : List Part) → Each (λ part. IsAmong part (shell_of kind).parts) (n.first ∷ ps) → t ≡ nest x (n.first ∷ ps) → AreGuarded tests (shell_of kind) x (n.first ∷ ps) → ⊥
        by_rest [] all e g =
            let same : y ≡ x = same_argument f n.first.accessor y x (sym call ∙ e) in
            let equal : same_term y x ≡ true = true_same y x same in
            absurd cc
        by_rest (q ∷ ps) all e g = none (record { first = q; rest = ps; parts = all.1; is = same_argument f n.first.accessor y (nest x (q ∷ ps)) (sym call ∙ e); guarded = g.1 })

    module _ (level : Level) (l : IsLevelOf kind f y tests level) where
      whole_is : (z : Term) → y ≡ z → t ≡ Applied (Function (part_of level).accessor) z
      whole_is z e = call ∙ ap (λ g. Applied (Function g) y) l.accessor ∙ ap (λ u. Applied (Function (part_of level).accessor) u) e

      -- the accessor's call of the term is a nest
      pub last_nest : y ≡ x → Here
      last_nest e = record { first = part_of level; rest = []; parts = (l.part, tt); is = whole_is x e; guarded = (subst (IsGuarded tests (shell_of kind)) e l.guarded, tt) }

      -- so is that of a nest
      pub more_nest : IsNestOf (shell_of kind) tests x y → Here
      more_nest n =
          record {
            first = part_of level;
            rest = n.first ∷ n.rest;
            parts = (l.part, n.parts);
            is = whole_is (nest x (n.first ∷ n.rest)) n.is;
            guarded = (subst (IsGuarded tests (shell_of kind)) n.is l.guarded, n.guarded);
          }

pub kind_here : (kind : Kind) → IsAmong (shell_of kind) ground_shells
kind_here Numbers = inl refl
kind_here Pairs = inr (inl refl)
kind_here Atoms = inr (inr (inl refl))
kind_here Negatives = inr (inr (inr (inl refl)))

-- which shell has this part
record HasKind (s : Shell) (p : Part) : Type 0 where
  kind : Kind
  shell : s ≡ shell_of kind
  kind_is : kind_at p.accessor ≡ Some kind

part_kind : (s : Shell) (p : Part) → IsAmong s ground_shells → IsAmong p s.parts → HasKind s p
part_kind s p (inl e) m =
    elim (subst (λ (s : Shell). IsAmong p s.parts) e m) [ inl a ↦ record { kind = Numbers; shell = e; kind_is = ap (λ (p : Part). kind_at p.accessor) a } | inr none ↦ absurd none ]
part_kind s p (inr (inl e)) m =
    elim (subst (λ (s : Shell). IsAmong p s.parts) e m) [
      | inl a ↦ record { kind = Pairs; shell = e; kind_is = ap (λ (p : Part). kind_at p.accessor) a }
      | inr k ↦ elim k [ inl a ↦ record { kind = Pairs; shell = e; kind_is = ap (λ (p : Part). kind_at p.accessor) a } | inr none ↦ absurd none ]
    ]
part_kind s p (inr (inr (inl e))) m =
    elim (subst (λ (s : Shell). IsAmong p s.parts) e m) [ inl a ↦ record { kind = Atoms; shell = e; kind_is = ap (λ (p : Part). kind_at p.accessor) a } | inr none ↦ absurd none ]
part_kind s p (inr (inr (inr (inl e)))) m =
    elim (subst (λ (s : Shell). IsAmong p s.parts) e m) [ inl a ↦ record { kind = Negatives; shell = e; kind_is = ap (λ (p : Part). kind_at p.accessor) a } | inr none ↦ absurd none ]
part_kind s p (inr (inr (inr (inr none)))) m = absurd none

same_kind : (a b : Kind) → Some a ≡ Some b → a ≡ b
same_kind a b e = cc

-- a structural nest is one of the shell whose accessor is outermost
pub structural_nest : (kind : Kind) (tests : List Term) (x t : Term) → IsOfShell t kind → IsStructuralNest [] x tests t → IsNestOf (shell_of kind) tests x t
structural_nest kind tests x t of n =
    let k : HasKind n.shell n.first = part_kind n.shell n.first n.here n.parts.0 in
    let names : of.accessor ≡ n.first.accessor = same_name of.accessor n.first.accessor of.argument (nest x n.rest) (sym of.whole ∙ n.is) in
    let kinds : k.kind ≡ kind = same_kind k.kind kind (sym k.kind_is ∙ ap kind_at (sym names) ∙ of.kind_is) in
    let nested : IsNestOf n.shell tests x t = record { first = n.first; rest = n.rest; parts = n.parts; is = n.is; guarded = n.guarded } in
    subst (λ s. IsNestOf s tests x t) (k.shell ∙ ap shell_of kinds) nested

-- what is of no shell is not structural
pub no_structural : (tests : List Term) (x t : Term) → IsOfNoShell t → IsStructuralNest [] x tests t → ⊥
no_structural tests x t none n =
    let k : HasKind n.shell n.first = part_kind n.shell n.first n.here n.parts.0 in
    none_is_not_some k.kind (sym (none n.first.accessor (nest x n.rest) n.is) ∙ k.kind_is)

-- what is no call is of no shell
pub no_call_shell : (t : Term) → IsNoCall t → IsOfNoShell t
no_call_shell t none f u e = ap kind_at (none f u e)

-- the shell of a call of one argument
pub shell_found : (bank : Content) (t : TermId) (c : OneCall) (r : Option Kind) → IsOneCall bank t c → r ≡ kind_at (text_at bank c.function) → MatchOption r (IsOfNoShell (term_at bank t)) (IsOfShell (term_at bank t))
shell_found bank t c None is e = λ f u same. ap kind_at (sym (same_name (text_at bank c.function) f (term_at bank c.argument) u (sym is.whole ∙ same))) ∙ sym e
shell_found bank t c (Some kind) is e = record { accessor = text_at bank c.function; argument = term_at bank c.argument; whole = is.whole; kind_is = sym e }
