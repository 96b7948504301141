-- The clauses of lines that stand.
use Rattle.std.proofs.Common.{◌≡◌, ℕ, Bool, true, Option, Some, None, List, [], refl, ap, ◌∙◌}
use Rattle.std.specs.Prelude.{is_some, IsSome, unwrap_or}
use Rattle.nq_logic.specs.Terms.{Term, Substitution}
use Rattle.nq_bank.specs.declared.node.TermId.{TermId}
use Rattle.nq_bank.specs.Content.{term_at}
use Rattle.nq_proof.specs.Clauses.{Clause}
use Rattle.nq_proof.specs.Rules as tree
use Rattle.nq_proof.specs.Rules.{given, when, is_substitution}
use Rattle.nq_kernel.specs.declared.rule.Rule.{Rule}
use Rattle.nq_history.specs.declared.entry.Entry.{Entry}
use Rattle.nq_kernel.specs.declared.work.Work.{Work}
use Rattle.nq_history.specs.Events.{events_at}
use Rattle.nq_kernel.specs.Meaning.{rule_at, conclusion_at, clause_at}
use Rattle.nq_rule.specs.Results.{cut_of, instance_of}
use Rattle.nq_kernel.specs.Growing.{WorkStands, WorkGrows, LineStands, LineHolds, held}
use Rattle.nq_kernel.proofs.GrowingLemmas.{LineHolds-grown}

cut_given : (t : Term) (o p : Option Clause) → IsSome o → IsSome p → given o (λ c1. given p (λ c2. Some (cut_of t c1 c2))) ≡ Some (cut_of t (unwrap_or o []) (unwrap_or p []))
cut_given t None p h k = absurd cc
cut_given t (Some c1) None h k = absurd cc
cut_given t (Some c1) (Some c2) h k = refl

instance_given : (s : Substitution) (b : Bool) (o : Option Clause) → IsSome o → b ≡ true → given o (λ c. when b (instance_of s c)) ≡ Some (instance_of s (unwrap_or o []))
instance_given s b None h k = absurd cc
instance_given s b (Some c) h k = ap (λ b. when b (instance_of s c)) k

-- what a cut of two lines gives
pub cut_held : (history : List Entry) (work : Work) (rule : Rule) (first second : ℕ) (t : TermId) → rule_at work.bank rule ≡ tree.Cut first second (term_at work.bank t) → LineStands work first → LineStands work second → conclusion_at work.bank history work.log rule ≡ Some (cut_of (term_at work.bank t) (held work first) (held work second))
unfolding conclusion_at
cut_held history work rule first second t e h k =
    ap (tree.conclusion (events_at work.bank history) (clause_at work.bank work.log)) e ∙ cut_given (term_at work.bank t) (clause_at work.bank work.log first) (clause_at work.bank work.log second) h k

-- what an instance of a line gives
pub instance_held : (history : List Entry) (work : Work) (rule : Rule) (line : ℕ) (s : Substitution) → rule_at work.bank rule ≡ tree.Instance line s → LineStands work line → is_substitution s ≡ true → conclusion_at work.bank history work.log rule ≡ Some (instance_of s (held work line))
unfolding conclusion_at
instance_held history work rule line s e h k =
    ap (tree.conclusion (events_at work.bank history) (clause_at work.bank work.log)) e ∙ instance_given s (is_substitution s) (clause_at work.bank work.log line) h k

held_holds : (work : Work) (n : ℕ) → LineStands work n → LineHolds work n (held work n)
held_holds work n h = by_clause (clause_at work.bank work.log n) h
  where
    by_clause : (o : Option Clause) → IsSome o → o ≡ Some (unwrap_or o [])
    by_clause None h = absurd cc
    by_clause (Some c) h = refl

-- a line that holds a clause stands with it
pub holds_stands : (work : Work) (n : ℕ) (c : Clause) → LineHolds work n c → LineStands work n
holds_stands work n c h = ap is_some h

pub holds_held : (work : Work) (n : ℕ) (c : Clause) → LineHolds work n c → held work n ≡ c
holds_held work n c h = ap (λ o. unwrap_or o []) h

-- a line that stands holds its clause however the work grows
pub held_grown : (history : List Entry) (old new : Work) (n : ℕ) → WorkStands history old → WorkGrows history old new → LineStands old n → LineHolds new n (held old n)
held_grown history old new n stands grows h = LineHolds-grown history old new n (held old n) stands grows (held_holds old n h)
