-- The clauses of an IF that is split.
use Rattle.std.proofs.Common.{◌≡◌, ◌≤◌, ◌<◌, ℕ, Bool, true, false, Option, Some, List, [], ◌∷◌, ◌++◌, refl, ap, inl, inr, arith}
use Rattle.nq_logic.specs.Terms.{Term, IsAmong}
use Rattle.nq_logic.specs.Sizes.{depth_of, depth_limit}
use Rattle.nq_logic.specs.Words.{not_term}
use Rattle.nq_proof.specs.Clauses.{Clause, distinct, without, literal_at, in_place}
use Rattle.nq_proof.specs.Paths.{if_parts}
use Rattle.nq_proof.specs.Rules.{given}
use Rattle.nq_proof.proofs.Tests.{distinct_in}
use Rattle.nq_bank.specs.Content.{term_at, Stands}
use Rattle.nq_bank.specs.Soundness.{IsSound}
use Rattle.nq_rule.specs.declared.branching.Branches.{Branches}
use Rattle.nq_rule.specs.Branches.{BranchesStand}
use Rattle.nq_history.specs.declared.entry.Entry.{Entry}
use Rattle.nq_kernel.specs.declared.work.Work.{Work}
use Rattle.nq_kernel.specs.declared.rule.Rule.TheVariants.{SplitFirst, SplitSecond}
use Rattle.nq_kernel.specs.Meaning.{conclusion_at}
use Rattle.nq_kernel.specs.Growing.{WorkStands, LineHolds}
use Rattle.nq_quick.specs.Choices.{branch_of}
use Rattle.nq_quick.specs.Lines.{HasOnly, IsShallow, if_at, denial}
use Rattle.nq_quick.proofs.DepthLemmas.{only_shallow, line_shallow, stand_shallow, denial_shallow, test_shallower}
use Rattle.nq_quick.proofs.LineLemmas.{from_distinct, among_either, left_among}
use Rattle.nq_logic.proofs.Lists.{among_left, among_right}

pub branch_stands : (work : Work) (parts : Branches) (test : Bool) → BranchesStand work.bank parts → Stands work.bank (branch_of parts test)
branch_stands work parts true h = h.first
branch_stands work parts false h = h.second

module _ (history : List Entry) (work : Work) where
  -- what is left of the line of an IF or its NOT
  abbrev rest_of : Term → Clause
  rest_of t = without t (not_term t ∷ [])

  split_literals : (t : Term) (these : Clause) (u : Term) → IsAmong u (distinct (these ++ rest_of t)) → IsAmong u (these ++ (not_term t ∷ []))
  split_literals t these u m =
      elim (among_either u these (rest_of t) (from_distinct u (these ++ rest_of t) m)) [
        | inl k ↦ among_left u these (not_term t ∷ []) k
        | inr k ↦ among_right u these (not_term t ∷ []) (left_among u t (not_term t ∷ []) k)
      ]

  pub first_split_given : (line : ℕ) (parts : Branches) → LineHolds work line (distinct (if_at work.bank parts ∷ not_term (if_at work.bank parts) ∷ [])) → conclusion_at work.bank history work.log (SplitFirst line 1) ≡ Some (distinct ((not_term (term_at work.bank parts.test) ∷ term_at work.bank parts.first ∷ []) ++ rest_of (if_at work.bank parts)))
  unfolding conclusion_at
  first_split_given line parts h =
      ap (λ o. given o (λ c. given (literal_at 1 c) (λ a. given (if_parts a) (λ found. Some (distinct (in_place 1 (not_term found.test ∷ found.first ∷ []) c)))))) h

  pub second_split_given : (line : ℕ) (parts : Branches) → LineHolds work line (distinct (if_at work.bank parts ∷ not_term (if_at work.bank parts) ∷ [])) → conclusion_at work.bank history work.log (SplitSecond line 1) ≡ Some (distinct ((term_at work.bank parts.test ∷ term_at work.bank parts.second ∷ []) ++ rest_of (if_at work.bank parts)))
  unfolding conclusion_at
  second_split_given line parts h =
      ap (λ o. given o (λ c. given (literal_at 1 c) (λ a. given (if_parts a) (λ found. Some (distinct (in_place 1 (found.test ∷ found.second ∷ []) c)))))) h

  pub split_only : (o : Option Clause) (t p x : Term) → o ≡ Some (distinct ((p ∷ x ∷ []) ++ rest_of t)) → HasOnly o (p ∷ x ∷ not_term t ∷ [])
  split_only o t p x e = record { literals = distinct ((p ∷ x ∷ []) ++ rest_of t); stands = e; only = split_literals t (p ∷ x ∷ []) }

  -- what an IF's split leaves is not too deep
  pub split_shallow : (o : Option Clause) (line : ℕ) (parts : Branches) (test : Bool) → IsSound work.bank → WorkStands history work → BranchesStand work.bank parts → LineHolds work line (distinct (if_at work.bank parts ∷ not_term (if_at work.bank parts) ∷ [])) → HasOnly o (denial test (term_at work.bank parts.test) ∷ term_at work.bank (branch_of parts test) ∷ not_term (if_at work.bank parts) ∷ []) → IsShallow o
  split_shallow o line parts test sound stands parts_stand holds only =
      let p = term_at work.bank parts.test in
      let whole = if_at work.bank parts in
      let pair : Clause = whole ∷ not_term whole ∷ [] in
      let deep : depth_of whole ≤ depth_limit = line_shallow history work line (distinct pair) whole sound stands holds (distinct_in whole pair (inl refl)) in
      let below : depth_of p < depth_of whole = test_shallower p (term_at work.bank parts.first) (term_at work.bank parts.second) in
      let room : depth_of p < depth_limit = omega (arith, deep, below) in
      let denied : depth_of (not_term whole) ≤ depth_limit = line_shallow history work line (distinct pair) (not_term whole) sound stands holds (distinct_in (not_term whole) pair (inr (inl refl))) in
      only_shallow o (denial test p ∷ term_at work.bank (branch_of parts test) ∷ not_term whole ∷ []) only (denial_shallow test p room, (stand_shallow work.bank (branch_of parts test) sound (branch_stands work parts test parts_stand), (denied, tt)))
