-- Which literals the lines of the rules may hold.
use Rattle.std.proofs.Common.{◌≡◌, ◌≤◌, ◌⊎◌, ℕ, Bool, true, false, Option, Some, None, List, [], ◌∷◌, ◌++◌, length, get_or, take, drop, ◌-◌, refl, sym, ap, ◌∙◌, subst, inl, inr, arith}
use Rattle.std.proofs.lemmas.List.{take_all}
use Rattle.std.specs.Prelude.{is_some, IsSome, unwrap_or, if◌then◌else◌, ◌||◌, Vec, Result, IfOk}
use Rattle.std.specs.declared.alloc.AllocError.{AllocError}
use Rattle.nq_rule.proofs.Made.{for_ok}
use Rattle.std.specs.declared.alloc.Global.{Global}
use Rattle.nq_logic.specs.Terms.{Term, IsAmong}
use Rattle.nq_logic.specs.Words.{not_term, if_term}
use Rattle.nq_proof.specs.Clauses.{Clause, same_term, without, distinct, has_opposite}
use Rattle.nq_proof.specs.Rules.{given, when}
use Rattle.nq_rule.proofs.LiteralLemmas.{true_same}
use Rattle.nq_rule.specs.Results.{cut_of, join_of}
use Rattle.nq_bank.specs.Soundness.{IsSound}
use Rattle.nq_logic.specs.Sizes.{depth_of, depth_limit}
use Rattle.nq_rule.specs.declared.branching.Branches.{Branches}
use Rattle.nq_bank.specs.declared.node.TermId.{TermId}
use Rattle.nq_bank.specs.Content.{Content, term_at, terms_at, Stands, IsIdOf}
use Rattle.nq_history.specs.declared.entry.Entry.{Entry}
use Rattle.nq_kernel.specs.declared.work.Work.{Work}
use Rattle.nq_kernel.specs.declared.rule.Rule.TheVariants.{Cut, Join, Taut}
use Rattle.nq_kernel.specs.Meaning.{conclusion_at, clause_at}
use Rattle.nq_kernel.specs.Growing.{WorkStands, WorkGrows, LineStands, LineHolds, held}
use Rattle.nq_kernel.proofs.GrowingLemmas.{LineHolds-grown, WorkGrows-refl, WorkGrows-trans}
use Rattle.nq_kernel.proofs.HeldLines.{cut_held}
use Rattle.nq_quick.specs.Lines.{AreAmong, HasOnly, LineHasOnly, IsShallow, GrowsUncounted, if_at, signed, denial}
use Rattle.nq_quick.proofs.DepthLemmas.{id_shallow, line_shallow, stand_shallow, all_shallow}

-- a term that is left where u is taken out
record Left (t u : Term) (c : Clause) : Type 0 where
  among : IsAmong t c
  differs : t ≡ u → ⊥

left_without : (t u : Term) (c : Clause) → IsAmong t (without u c) → Left t u c
left_without t u [] m = absurd m
left_without t u (v ∷ c) m = by_test (λ k. left_without t u c k) (same_term u v) refl m
  where
    further : Left t u c → Left t u (v ∷ c)
    further l = record { among = inr l.among; differs = l.differs }

    by_test : (IsAmong t (without u c) → Left t u c) → (b : Bool) → same_term u v ≡ b → IsAmong t (if b then without u c else v ∷ without u c) → Left t u (v ∷ c)
    by_test f true e k = further (f k)
    by_test f false e (inr k) = further (f k)
    by_test f false e (inl k) = record { among = inl k; differs = λ same. let yes : same_term u v ≡ true = true_same u v (sym same ∙ k) in absurd cc }

pub from_distinct : (t : Term) (c : Clause) → IsAmong t (distinct c) → IsAmong t c
from_distinct t [] m = m
from_distinct t (u ∷ c) (inl e) = inl e
from_distinct t (u ∷ c) (inr m) = inr (from_distinct t c (left_without t u (distinct c) m).among)

pub among_either : (t : Term) (c d : Clause) → IsAmong t (c ++ d) → IsAmong t c ⊎ IsAmong t d
among_either t [] d m = inr m
among_either t (u ∷ c) d (inl e) = inl (inl e)
among_either t (u ∷ c) d (inr m) = elim (among_either t c d m) [ inl k ↦ inl (inr k) | inr k ↦ inr k ]

pub left_among : (t u : Term) (c : Clause) → IsAmong t (without u c) → IsAmong t c
left_among t u c m = (left_without t u c m).among

-- what is left of a clause that has only t and these
left_these : (t : Term) (c these : Clause) → ((u : Term) → IsAmong u c → IsAmong u (t ∷ these)) → (u : Term) → IsAmong u (without t c) → IsAmong u these
left_these t c these only u m =
    let l : Left u t c = left_without u t c m in
    elim (only u l.among) [ inl e ↦ absurd (l.differs e) | inr k ↦ k ]

cut_literals : (t : Term) (c d these : Clause) → ((u : Term) → IsAmong u c → IsAmong u (t ∷ these)) → ((u : Term) → IsAmong u d → IsAmong u (not_term t ∷ these)) → (u : Term) → IsAmong u (cut_of t c d) → IsAmong u these
cut_literals t c d these first second u m =
    elim (among_either u (without t c) (without (not_term t) d) (from_distinct u (without t c ++ without (not_term t) d) m)) [
      | inl k ↦ left_these t c these first u k
      | inr k ↦ left_these (not_term t) d these second u k
    ]

left_these_two : (t v : Term) (c these : Clause) → ((u : Term) → IsAmong u c → IsAmong u (t ∷ v ∷ these)) → (u : Term) → IsAmong u (without t (without v c)) → IsAmong u these
left_these_two t v c these only u m =
    let outer : Left u t (without v c) = left_without u t (without v c) m in
    let inner : Left u v c = left_without u v c outer.among in
    elim (only u inner.among) [
      | inl e ↦ absurd (outer.differs e)
      | inr k ↦ elim k [ inl e ↦ absurd (inner.differs e) | inr more ↦ more ]
    ]

join_literals : (p x y : Term) (c d these : Clause) → ((u : Term) → IsAmong u c → IsAmong u (not_term p ∷ x ∷ these)) → ((u : Term) → IsAmong u d → IsAmong u (p ∷ y ∷ these)) → (u : Term) → IsAmong u (join_of p x y c d) → IsAmong u (if_term p x y ∷ these)
join_literals p x y c d these first second u m =
    let left : Clause = without (not_term p) (without x c) in
    let right : Clause = without p (without y d) in
    elim (among_either u left (right ++ (if_term p x y ∷ [])) (from_distinct u (left ++ (right ++ (if_term p x y ∷ []))) m)) [
      | inl k ↦ inr (left_these_two (not_term p) x c these first u k)
      | inr k ↦ elim (among_either u right (if_term p x y ∷ []) k) [
        | inl r ↦ inr (left_these_two p y d these second u r)
        | inr r ↦ elim r [ inl e ↦ inl e | inr none ↦ absurd none ]
      ]
    ]

held_holds : (work : Work) (n : ℕ) → LineStands work n → LineHolds work n (held work n)
held_holds work n h = by_clause (clause_at work.bank work.log n) h
  where
    by_clause : (o : Option Clause) → IsSome o → o ≡ Some (unwrap_or o [])
    by_clause None h = absurd cc
    by_clause (Some c) h = refl

module _ (history : List Entry) (work : Work) where
  cut_stands : (first second : ℕ) (t : TermId) (o q : Option Clause) → IsSome o → IsSome q → IsSome (given o (λ c. given q (λ d. Some (cut_of (term_at work.bank t) c d))))
  cut_stands first second t None q h k = absurd cc
  cut_stands first second t (Some c) None h k = absurd cc
  cut_stands first second t (Some c) (Some d) h k = refl

  pub cut_allowed : (first second : ℕ) (t : TermId) → LineStands work first → LineStands work second → IsSome (conclusion_at work.bank history work.log (Cut first second t))
  unfolding conclusion_at
  cut_allowed first second t h k = cut_stands first second t (clause_at work.bank work.log first) (clause_at work.bank work.log second) h k

  pub cut_only : (first second : ℕ) (t : TermId) (these : Clause) → LineHasOnly work first (term_at work.bank t ∷ these) → LineHasOnly work second (not_term (term_at work.bank t) ∷ these) → HasOnly (conclusion_at work.bank history work.log (Cut first second t)) these
  unfolding conclusion_at
  cut_only first second t these h k =
      record {
        literals = cut_of (term_at work.bank t) h.literals k.literals;
        stands =
            ap (λ o. given o (λ c. given (clause_at work.bank work.log second) (λ d. Some (cut_of (term_at work.bank t) c d)))) h.stands ∙
            ap (λ o. given o (λ d. Some (cut_of (term_at work.bank t) h.literals d))) k.stands;
        only = cut_literals (term_at work.bank t) h.literals k.literals these h.only k.only;
      }

  opposite_found : (a b rest : Bool) → b ≡ true → ((a || (b || false)) || rest) ≡ true
  opposite_found true b rest h = refl
  opposite_found false true rest h = refl
  opposite_found false false rest h = absurd cc

  -- the clause of a term and its NOT
  pub opposites_given : (terms : Vec TermId Global) (t denied : TermId) → terms.items ≡ t ∷ denied ∷ [] → IsIdOf work.bank denied (not_term (term_at work.bank t)) → conclusion_at work.bank history work.log (Taut terms) ≡ Some (distinct (term_at work.bank t ∷ not_term (term_at work.bank t) ∷ []))
  unfolding conclusion_at
  opposites_given terms t denied e is =
      let u : Term = term_at work.bank t in
      let F : List Term → Option Clause = λ ts. when (has_opposite ts ts) (distinct ts) in
      let pair : List Term = u ∷ not_term u ∷ [] in
      ap (λ ids. F (terms_at work.bank ids)) e ∙ ap (λ v. F (u ∷ v ∷ [])) is.denotes ∙
      ap (λ b. when b (distinct pair)) (opposite_found (same_term (not_term u) u) (same_term (not_term u) (not_term u)) (has_opposite (not_term u ∷ []) pair) (true_same (not_term u) (not_term u) refl))

  join_stands : (p x y : Term) (o q : Option Clause) → IsSome o → IsSome q → IsSome (given o (λ c. given q (λ d. Some (join_of p x y c d))))
  join_stands p x y None q h k = absurd cc
  join_stands p x y (Some c) None h k = absurd cc
  join_stands p x y (Some c) (Some d) h k = refl

  pub join_allowed : (first second : ℕ) (parts : Branches) → LineStands work first → LineStands work second → IsSome (conclusion_at work.bank history work.log (Join first second parts))
  unfolding conclusion_at
  join_allowed first second parts h k = join_stands (term_at work.bank parts.test) (term_at work.bank parts.first) (term_at work.bank parts.second) (clause_at work.bank work.log first) (clause_at work.bank work.log second) h k

  pub join_only : (first second : ℕ) (parts : Branches) (these : Clause) → LineHasOnly work first (not_term (term_at work.bank parts.test) ∷ term_at work.bank parts.first ∷ these) → LineHasOnly work second (term_at work.bank parts.test ∷ term_at work.bank parts.second ∷ these) → HasOnly (conclusion_at work.bank history work.log (Join first second parts)) (if_term (term_at work.bank parts.test) (term_at work.bank parts.first) (term_at work.bank parts.second) ∷ these)
  unfolding conclusion_at
  join_only first second parts these h k =
      let p : Term = term_at work.bank parts.test in
      let x : Term = term_at work.bank parts.first in
      let y : Term = term_at work.bank parts.second in
      record {
        literals = join_of p x y h.literals k.literals;
        stands =
            ap (λ o. given o (λ c. given (clause_at work.bank work.log second) (λ d. Some (join_of p x y c d)))) h.stands ∙
            ap (λ o. given o (λ d. Some (join_of p x y h.literals d))) k.stands;
        only = join_literals p x y h.literals k.literals these h.only k.only;
      }

  -- what a cut gives is not too deep
  pub cut_shallow : (first second : ℕ) (t : TermId) → IsSound work.bank → WorkStands history work → LineStands work first → LineStands work second → IsShallow (conclusion_at work.bank history work.log (Cut first second t))
  cut_shallow first second t sound stands h k =
      let u : Term = term_at work.bank t in
      let c : Clause = held work first in
      let d : Clause = held work second in
      all_shallow (conclusion_at work.bank history work.log (Cut first second t)) (cut_of u c d) (cut_held history work (Cut first second t) first second t refl h k) (λ v m.
      elim (among_either v (without u c) (without (not_term u) d) (from_distinct v (without u c ++ without (not_term u) d) m)) [
        | inl l ↦ line_shallow history work first c v sound stands (held_holds work first h) (left_among v u c l)
        | inr r ↦ line_shallow history work second d v sound stands (held_holds work second k) (left_among v (not_term u) d r)
      ]
      )

  join_held : (p x y : Term) (o q : Option Clause) → IsSome o → IsSome q → given o (λ c. given q (λ d. Some (join_of p x y c d))) ≡ Some (join_of p x y (unwrap_or o []) (unwrap_or q []))
  join_held p x y None q h k = absurd cc
  join_held p x y (Some c) None h k = absurd cc
  join_held p x y (Some c) (Some d) h k = refl

  -- what a join gives is not too deep
  pub join_shallow : (first second : ℕ) (parts : Branches) (t : TermId) → IsSound work.bank → WorkStands history work → LineStands work first → LineStands work second → IsIdOf work.bank t (if_at work.bank parts) → IsShallow (conclusion_at work.bank history work.log (Join first second parts))
  unfolding conclusion_at
  join_shallow first second parts t sound stands h k whole =
      let p : Term = term_at work.bank parts.test in
      let x : Term = term_at work.bank parts.first in
      let y : Term = term_at work.bank parts.second in
      let c : Clause = held work first in
      let d : Clause = held work second in
      let left : Clause = without (not_term p) (without x c) in
      let right : Clause = without p (without y d) in
      all_shallow (conclusion_at work.bank history work.log (Join first second parts)) (join_of p x y c d) (join_held p x y (clause_at work.bank work.log first) (clause_at work.bank work.log second) h k) (λ v m.
      elim (among_either v left (right ++ (if_term p x y ∷ [])) (from_distinct v (left ++ (right ++ (if_term p x y ∷ []))) m)) [
        | inl l ↦ line_shallow history work first c v sound stands (held_holds work first h) (left_among v x c (left_among v (not_term p) (without x c) l))
        | inr r ↦ elim (among_either v right (if_term p x y ∷ []) r) [
          | inl q ↦ line_shallow history work second d v sound stands (held_holds work second k) (left_among v y d (left_among v p (without y d) q))
          | inr q ↦ elim q [ inl e ↦ subst (λ w. depth_of w ≤ depth_limit) (sym e) (id_shallow work.bank t (if_term p x y) sound whole) | inr none ↦ absurd none ]
        ]
      ]
      )

  -- what TAUT gives of a term and its NOT is not too deep
  pub opposites_shallow : (terms : Vec TermId Global) (t denied : TermId) → terms.items ≡ t ∷ denied ∷ [] → IsSound work.bank → Stands work.bank t → IsIdOf work.bank denied (not_term (term_at work.bank t)) → IsShallow (conclusion_at work.bank history work.log (Taut terms))
  opposites_shallow terms t denied e sound stands is =
      let u : Term = term_at work.bank t in
      all_shallow (conclusion_at work.bank history work.log (Taut terms)) (distinct (u ∷ not_term u ∷ [])) (opposites_given terms t denied e is) (λ v m.
      elim (from_distinct v (u ∷ not_term u ∷ []) m) [
        | inl k ↦ subst (λ w. depth_of w ≤ depth_limit) (sym k) (stand_shallow work.bank t sound stands)
        | inr k ↦ elim k [ inl l ↦ subst (λ w. depth_of w ≤ depth_limit) (sym l) (id_shallow work.bank denied (not_term u) sound is) | inr none ↦ absurd none ]
      ]
      )

-- the clause of a line that was added
pub only_same : (o q : Option Clause) (these : Clause) → o ≡ q → HasOnly q these → HasOnly o these
only_same o q these e h = record { literals = h.literals; stands = e ∙ h.stands; only = h.only }

-- a line has only these literals however the work grows
pub only_grown : (history : List Entry) (old new : Work) (n : ℕ) (these : Clause) → WorkStands history old → WorkGrows history old new → LineHasOnly old n these → LineHasOnly new n these
only_grown history old new n these stands grows h =
    record { literals = h.literals; stands = LineHolds-grown history old new n h.literals stands grows h.stands; only = h.only }

pub only_stands : (work : Work) (n : ℕ) (these : Clause) → LineHasOnly work n these → LineStands work n
only_stands work n these h = ap is_some h.stands

pub only_more : (o : Option Clause) (these more : Clause) → ((t : Term) → IsAmong t these → IsAmong t more) → HasOnly o these → HasOnly o more
only_more o these more within h = record { literals = h.literals; stands = h.stands; only = λ t m. within t (h.only t m) }

-- work that grew twice without counting
pub grown_refl : (history : List Entry) (work : Work) → WorkStands history work → GrowsUncounted history work work
grown_refl history work stands = record { grows = WorkGrows-refl history work stands; uncounted = refl }

pub grown_trans : (history : List Entry) (first second third : Work) → GrowsUncounted history first second → GrowsUncounted history second third → GrowsUncounted history first third
grown_trans history first second third one two =
    record { grows = WorkGrows-trans history first second third one.grows two.grows; uncounted = two.uncounted ∙ one.uncounted }

-- the line of a term and its NOT
pub either_only : (work : Work) (n : ℕ) (t : Term) (b : Bool) (these : Clause) → LineHolds work n (distinct (t ∷ not_term t ∷ [])) → IsAmong (denial b t) these → LineHasOnly work n (signed b t ∷ these)
either_only work n t b these holds among = record { literals = distinct (t ∷ not_term t ∷ []); stands = holds; only = λ u m. by_value b among u (from_distinct u (t ∷ not_term t ∷ []) m) }
  where
    by_value : (b : Bool) → IsAmong (denial b t) these → (u : Term) → IsAmong u (t ∷ not_term t ∷ []) → IsAmong u (signed b t ∷ these)
    by_value true k u (inl e) = inl e
    by_value true k u (inr (inl e)) = inr (subst (λ v. IsAmong v these) (sym e) k)
    by_value true k u (inr (inr none)) = absurd none
    by_value false k u (inl e) = inr (subst (λ v. IsAmong v these) (sym e) k)
    by_value false k u (inr (inl e)) = inl e
    by_value false k u (inr (inr none)) = absurd none

-- a line of one literal
pub one_only : (work : Work) (n : ℕ) (t : Term) (these : Clause) → LineHolds work n (t ∷ []) → LineHasOnly work n (t ∷ these)
one_only work n t these holds = record { literals = t ∷ []; stands = holds; only = λ u m. elim m [ inl e ↦ inl e | inr none ↦ absurd none ] }

-- the first two literals exchanged
pub exchanged : (work : Work) (n : ℕ) (t u : Term) (these : Clause) → LineHasOnly work n (t ∷ u ∷ these) → LineHasOnly work n (u ∷ t ∷ these)
exchanged work n t u these h = only_more _ (t ∷ u ∷ these) (u ∷ t ∷ these) (λ v m. elim m [ inl e ↦ inr (inl e) | inr k ↦ elim k [ inl e ↦ inl e | inr more ↦ inr (inr more) ] ]) h

-- a cut of the line of t and a line that holds its opposite
abbrev pub CutsTo : Work → Work → Term → ℕ → ℕ → ℕ → Type 0
CutsTo old new t first second n = (these : List Term) → LineHasOnly old first (t ∷ these) → LineHasOnly old second (not_term t ∷ these) → LineHasOnly new n these

abbrev pub ResolvesTo : Work → Work → Bool → Term → ℕ → ℕ → ℕ → Type 0
ResolvesTo old new b t line other n = (these : List Term) → LineHasOnly old line (signed b t ∷ these) → LineHasOnly old other (denial b t ∷ these) → LineHasOnly new n these

pub resolved_true : (old new : Work) (r : Result ℕ AllocError) (b : Bool) (t : Term) (line other : ℕ) → b ≡ true → IfOk r (CutsTo old new t line other) → IfOk r (ResolvesTo old new b t line other)
resolved_true old new r b t line other e h = subst (λ v. IfOk r (ResolvesTo old new v t line other)) (sym e) h

pub resolved_false : (old new : Work) (r : Result ℕ AllocError) (b : Bool) (t : Term) (line other : ℕ) → b ≡ false → IfOk r (CutsTo old new t other line) → IfOk r (ResolvesTo old new b t line other)
resolved_false old new r b t line other e h =
    subst (λ v. IfOk r (ResolvesTo old new v t line other)) (sym e) (for_ok r (CutsTo old new t other line) (ResolvesTo old new false t line other) (λ n k these one two. k these two one) h)

-- the ids of a clause, the first and the rest
pub first_and_rest : (ids : List TermId) (d : TermId) → 1 ≤ length ids → get_or ids 0 d ∷ take (length ids - 1) (drop 1 ids) ≡ ids
first_and_rest [] d h = absurd (omega arith)
first_and_rest (a ∷ ids) d h = ap (λ xs. a ∷ xs) (take_all (length (a ∷ ids) - 1) ids (omega arith))

pub first_among : (bank : Content) (ids : List TermId) (d : TermId) (these : Clause) → 1 ≤ length ids → IsAmong (term_at bank (get_or ids 0 d)) these → AreAmong (terms_at bank (take (length ids - 1) (drop 1 ids))) these → AreAmong (terms_at bank ids) these
first_among bank ids d these h first rest =
    subst (λ xs. AreAmong (terms_at bank xs) these) (first_and_rest ids d h) (λ u m. elim m [ inl e ↦ subst (λ v. IsAmong v these) (sym e) first | inr k ↦ rest u k ])
