-- Which literals the lines of the rules may hold.
use Rattle.std.proofs.Common.{◌≡◌, ◌⊎◌, ℕ, Bool, true, false, Option, Some, None, List, [], ◌∷◌, ◌++◌, refl, sym, ap, ◌∙◌, inl, inr}
use Rattle.std.specs.Prelude.{is_some, IsSome, if◌then◌else◌, ◌||◌, Vec}
use Rattle.std.specs.declared.alloc.Global.{Global}
use Rattle.nq_logic.specs.Terms.{Term, IsAmong}
use Rattle.nq_logic.specs.Words.{not_term, equal_term}
use Rattle.nq_proof.specs.Clauses.{Clause, same_term, without, distinct, has_opposite}
use Rattle.nq_proof.specs.Paths.{replaced_at}
use Rattle.nq_proof.specs.Rules.{given, when, used_equation}
use Rattle.nq_rule.proofs.LiteralLemmas.{true_same}
use Rattle.nq_rule.specs.Results.{cut_of, replacement_of}
use Rattle.nq_rule.specs.Sides.{side_of}
use Rattle.nq_rule.specs.declared.replacing.Side.{Side}
use Rattle.nq_bank.specs.declared.node.TermId.{TermId}
use Rattle.nq_bank.specs.Content.{term_at, terms_at, IsIdOf}
use Rattle.nq_history.specs.declared.entry.Entry.{Entry}
use Rattle.nq_kernel.specs.declared.work.Work.{Work}
use Rattle.nq_kernel.specs.declared.rule.Rule.TheVariants.{Cut, Taut, Replace, Reflexive}
use Rattle.nq_kernel.specs.Meaning.{conclusion_at, clause_at}
use Rattle.nq_kernel.specs.Growing.{WorkStands, WorkGrows, LineStands, LineHolds}
use Rattle.nq_kernel.proofs.GrowingLemmas.{LineHolds-grown}
use Rattle.nq_lines.specs.Lines.{AreAmong, HasOnly, LineHasOnly, LineLeads}

-- a term that is left where u is taken out
record Left (t u : Term) (c : Clause) : Type 0 where
  among : IsAmong t c
  differs : t ≡ u → ⊥

left_without : (t u : Term) (c : Clause) → IsAmong t (without u c) → Left t u c
left_without t u [] m = absurd m
left_without t u (v ∷ c) m = by_test (λ k. left_without t u c k) (same_term u v) refl m
  where
    further : Left t u c → Left t u (v ∷ c)
    further l = record { among = inr l.among; differs = l.differs }

    by_test : (IsAmong t (without u c) → Left t u c) → (b : Bool) → same_term u v ≡ b → IsAmong t (if b then without u c else v ∷ without u c) → Left t u (v ∷ c)
    by_test f true e k = further (f k)
    by_test f false e (inr k) = further (f k)
    by_test f false e (inl k) = record { among = inl k; differs = λ same. let yes : same_term u v ≡ true = true_same u v (sym same ∙ k) in absurd cc }

pub from_distinct : (t : Term) (c : Clause) → IsAmong t (distinct c) → IsAmong t c
from_distinct t [] m = m
from_distinct t (u ∷ c) (inl e) = inl e
from_distinct t (u ∷ c) (inr m) = inr (from_distinct t c (left_without t u (distinct c) m).among)

pub among_either : (t : Term) (c d : Clause) → IsAmong t (c ++ d) → IsAmong t c ⊎ IsAmong t d
among_either t [] d m = inr m
among_either t (u ∷ c) d (inl e) = inl (inl e)
among_either t (u ∷ c) d (inr m) = elim (among_either t c d m) [ inl k ↦ inl (inr k) | inr k ↦ inr k ]

pub left_among : (t u : Term) (c : Clause) → IsAmong t (without u c) → IsAmong t c
left_among t u c m = (left_without t u c m).among

-- what is left of a clause that has only t and these
pub left_these : (t : Term) (c these : Clause) → ((u : Term) → IsAmong u c → IsAmong u (t ∷ these)) → (u : Term) → IsAmong u (without t c) → IsAmong u these
left_these t c these only u m =
    let l : Left u t c = left_without u t c m in
    elim (only u l.among) [ inl e ↦ absurd (l.differs e) | inr k ↦ k ]

cut_literals : (t : Term) (c d these : Clause) → ((u : Term) → IsAmong u c → IsAmong u (t ∷ these)) → ((u : Term) → IsAmong u d → IsAmong u (not_term t ∷ these)) → (u : Term) → IsAmong u (cut_of t c d) → IsAmong u these
cut_literals t c d these first second u m =
    elim (among_either u (without t c) (without (not_term t) d) (from_distinct u (without t c ++ without (not_term t) d) m)) [
      | inl k ↦ left_these t c these first u k
      | inr k ↦ left_these (not_term t) d these second u k
    ]

module _ (history : List Entry) (work : Work) where
  cut_stands : (t : Term) (o q : Option Clause) → IsSome o → IsSome q → IsSome (given o (λ c. given q (λ d. Some (cut_of t c d))))
  cut_stands t None q h k = absurd cc
  cut_stands t (Some c) None h k = absurd cc
  cut_stands t (Some c) (Some d) h k = refl

  pub cut_allowed : (a b : ℕ) (t : TermId) → LineStands work a → LineStands work b → IsSome (conclusion_at work.bank history work.log (Cut a b t))
  unfolding conclusion_at
  cut_allowed a b t h k = cut_stands (term_at work.bank t) (clause_at work.bank work.log a) (clause_at work.bank work.log b) h k

  pub cut_only : (a b : ℕ) (t : TermId) (these : Clause) → LineHasOnly work a (term_at work.bank t ∷ these) → LineHasOnly work b (not_term (term_at work.bank t) ∷ these) → HasOnly (conclusion_at work.bank history work.log (Cut a b t)) these
  unfolding conclusion_at
  cut_only a b t these h k =
      record {
        literals = cut_of (term_at work.bank t) h.literals k.literals;
        stands =
            ap (λ o. given o (λ c. given (clause_at work.bank work.log b) (λ d. Some (cut_of (term_at work.bank t) c d)))) h.stands ∙
            ap (λ o. given o (λ d. Some (cut_of (term_at work.bank t) h.literals d))) k.stands;
        only = cut_literals (term_at work.bank t) h.literals k.literals these h.only k.only;
      }

  -- what REPLACE gives in the first literal
  pub replace_given : (line : ℕ) (path : Vec ℕ Global) (u : TermId) (side : Side) (first : Term) (rest : Clause) (change : Term × Term) → LineHolds work line (first ∷ rest) → replaced_at path.items (term_at work.bank u) first ≡ Some change → conclusion_at work.bank history work.log (Replace line 1 path u side) ≡ Some (distinct (change.1 ∷ (rest ++ (used_equation (side_of side) change.0 (term_at work.bank u) ∷ []))))
  unfolding conclusion_at
  replace_given line path u side first rest change holds changed =
      ap (λ o. given o (replacement_of 1 path.items (term_at work.bank u) (side_of side))) holds ∙
      ap (λ o. given o (λ change. Some (distinct (change.1 ∷ (rest ++ (used_equation (side_of side) change.0 (term_at work.bank u) ∷ [])))))) changed

  opposite_found : (a b rest : Bool) → b ≡ true → ((a || (b || false)) || rest) ≡ true
  opposite_found true b rest h = refl
  opposite_found false true rest h = refl
  opposite_found false false rest h = absurd cc

  -- the clause of a term and its NOT
  pub opposites_given : (terms : Vec TermId Global) (t denied : TermId) → terms.items ≡ t ∷ denied ∷ [] → IsIdOf work.bank denied (not_term (term_at work.bank t)) → conclusion_at work.bank history work.log (Taut terms) ≡ Some (distinct (term_at work.bank t ∷ not_term (term_at work.bank t) ∷ []))
  unfolding conclusion_at
  opposites_given terms t denied e is =
      let u : Term = term_at work.bank t in
      let F : List Term → Option Clause = λ ts. when (has_opposite ts ts) (distinct ts) in
      let pair : List Term = u ∷ not_term u ∷ [] in
      ap (λ ids. F (terms_at work.bank ids)) e ∙ ap (λ v. F (u ∷ v ∷ [])) is.denotes ∙
      ap (λ b. when b (distinct pair)) (opposite_found (same_term (not_term u) u) (same_term (not_term u) (not_term u)) (has_opposite (not_term u ∷ []) pair) (true_same (not_term u) (not_term u) refl))

  pub reflexive_given : (t : TermId) → conclusion_at work.bank history work.log (Reflexive t) ≡ Some (equal_term (term_at work.bank t) (term_at work.bank t) ∷ [])
  unfolding conclusion_at
  reflexive_given t = refl

-- a clause without later copies leads with its first literal
pub leads_distinct : (work : Work) (n : ℕ) (t : Term) (c these : Clause) → LineHolds work n (distinct (t ∷ c)) → AreAmong c these → LineLeads work n t these
leads_distinct work n t c these holds only =
    record { rest = without t (distinct c); holds = holds; only = λ u m. only u (from_distinct u c (left_among u t (distinct c) m)) }

pub leads_only : (work : Work) (n : ℕ) (t : Term) (these : Clause) → LineLeads work n t these → LineHasOnly work n (t ∷ these)
leads_only work n t these l = record { literals = t ∷ l.rest; stands = l.holds; only = λ u m. elim m [ inl e ↦ inl e | inr k ↦ inr (l.only u k) ] }

-- the clause of a line that was added
pub only_same : (o q : Option Clause) (these : Clause) → o ≡ q → HasOnly q these → HasOnly o these
only_same o q these e h = record { literals = h.literals; stands = e ∙ h.stands; only = h.only }

-- a line has only these literals however the work grows
pub only_grown : (history : List Entry) (old new : Work) (n : ℕ) (these : Clause) → WorkStands history old → WorkGrows history old new → LineHasOnly old n these → LineHasOnly new n these
only_grown history old new n these stands grows h =
    record { literals = h.literals; stands = LineHolds-grown history old new n h.literals stands grows h.stands; only = h.only }

pub leads_grown : (history : List Entry) (old new : Work) (n : ℕ) (t : Term) (these : Clause) → WorkStands history old → WorkGrows history old new → LineLeads old n t these → LineLeads new n t these
leads_grown history old new n t these stands grows l =
    record { rest = l.rest; holds = LineHolds-grown history old new n (t ∷ l.rest) stands grows l.holds; only = l.only }

-- a line that stands stands however the work grows
pub line_grown : (history : List Entry) (old new : Work) (n : ℕ) → WorkStands history old → WorkGrows history old new → LineStands old n → LineStands new n
line_grown history old new n stands grows h = by_clause (clause_at old.bank old.log n) refl h
  where
    by_clause : (o : Option Clause) → clause_at old.bank old.log n ≡ o → IsSome o → LineStands new n
    by_clause None e k = absurd cc
    by_clause (Some c) e k = ap is_some (LineHolds-grown history old new n c stands grows e)

pub only_stands : (work : Work) (n : ℕ) (these : Clause) → LineHasOnly work n these → LineStands work n
only_stands work n these h = ap is_some h.stands

-- a line that has only these has only more
pub only_more : (work : Work) (n : ℕ) (these more : Clause) → AreAmong these more → LineHasOnly work n these → LineHasOnly work n more
only_more work n these more within h = record { literals = h.literals; stands = h.stands; only = λ t m. within t (h.only t m) }

pub with_last_among : (c these : Clause) (t : Term) → AreAmong c these → AreAmong (c ++ (t ∷ [])) (t ∷ these)
with_last_among c these t only u m = elim (among_either u c (t ∷ []) m) [ inl k ↦ inr (only u k) | inr k ↦ elim k [ inl e ↦ inl e | inr none ↦ absurd none ] ]
