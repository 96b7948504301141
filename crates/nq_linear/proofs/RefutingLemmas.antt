-- The line of a refutation has only the literals.
use Rattle.std.proofs.Common.{◌≡◌, ◌⊎◌, Bool, true, false, ◌&&◌, ◌||◌, if◌then◌else◌, List, [], ◌∷◌, map, get_or, length, ◌<◌, ℕ, zero, suc, Option, Some, refl, sym, ap, ◌∙◌, subst, inl, inr}
use Rattle.std.specs.Prelude.{All}
use Rattle.nq_logic.specs.Terms.{Term, IsAmong, Each}
use Rattle.nq_logic.specs.Ground.{symbols_of}
use Rattle.nq_bank.specs.declared.node.TermId.{TermId}
use Rattle.nq_bank.specs.Content.{Content, Stands, Grows, term_at, terms_at}
use Rattle.nq_bank.proofs.NodesLemmas.{All-head, All-tail}
use Rattle.nq_bank.proofs.Growth.{terms_at-grown}
use Rattle.nq_proof.specs.Clauses.{Clause, same_term, has_term, is_within, without, distinct}
use Rattle.nq_proof.specs.Rules as tree
use Rattle.nq_proof.specs.Rules.{when, is_refuted, has_only}
use Rattle.nq_proof.proofs.Tests.{and_left, and_right}
use Rattle.nq_rule.proofs.LiteralLemmas.{true_same}
use Rattle.nq_linear_rule.specs.declared.summand.Summand.{Summand}
use Rattle.nq_linear_rule.specs.Sums.{summands_at, LiteralsStand, linear_clause}
use Rattle.nq_history.specs.declared.entry.Entry.{Entry}
use Rattle.nq_history.specs.Events.{events_at}
use Rattle.nq_kernel.specs.Over.{IsTermOf, IsVariable, RuleIsOver, TermIsIn}
use Rattle.nq_linear.specs.Inequalities.{Draws, AllDraw}

either_left : (a b : Bool) → a ≡ true → (a || b) ≡ true
either_left true b e = refl
either_left false b e = absurd cc

either_right : (a b : Bool) → b ≡ true → (a || b) ≡ true
either_right true b e = refl
either_right false b e = e

both : (a b : Bool) → a ≡ true → b ≡ true → (a && b) ≡ true
both true b e k = k
both false b e k = absurd cc

has_among : (t : Term) (c : Clause) → IsAmong t c → has_term t c ≡ true
has_among t [] m = absurd m
has_among t (u ∷ c) (inl same) = either_left (same_term t u) (has_term t c) (true_same t u same)
has_among t (u ∷ c) (inr m) = either_right (same_term t u) (has_term t c) (has_among t c m)

-- what is within these is so without a term, and without later copies
within_rest : (t u : Term) (c these : Clause) → has_term u these ≡ true → is_within (without t c) these ≡ true → (b : Bool) → is_within (if b then without t c else u ∷ without t c) these ≡ true
within_rest t u c these here rest true = rest
within_rest t u c these here rest false = both (has_term u these) (is_within (without t c) these) here rest

within_without : (t : Term) (c these : Clause) → is_within c these ≡ true → is_within (without t c) these ≡ true
within_without t [] these e = refl
within_without t (u ∷ c) these e =
    within_rest t u c these (and_left (has_term u these) (is_within c these) e) (within_without t c these (and_right (has_term u these) (is_within c these) e)) (same_term t u)

within_distinct : (c these : Clause) → Each (λ t. IsAmong t these) c → is_within (distinct c) these ≡ true
within_distinct [] these m = refl
within_distinct (t ∷ c) these m =
    both (has_term t these) (is_within (without t (distinct c)) these) (has_among t these m.0) (within_without t (distinct c) these (within_distinct c these m.1))

module _ (bank : Content) (literals : List TermId) where
  each_drawn : (summands : List Summand) → AllDraw bank literals summands → Each (λ t. IsAmong t (terms_at bank literals)) (map (λ s. s.literal) (summands_at bank summands))
  each_drawn [] h = tt
  each_drawn (s ∷ summands) h =
      let here : Draws bank literals s = All-head (Draws bank literals) s summands h in
      (here.among, each_drawn summands (All-tail (Draws bank literals) s summands h))

  pub drawn_stand : (summands : List Summand) → AllDraw bank literals summands → LiteralsStand bank summands
  drawn_stand summands h = λ k d below. (h k d below).stands

  -- the terms that the rule names are over the functions of the history, since the literals are
  pub drawn_over : (history : List Entry) (summands : List Summand) → AllDraw bank literals summands → All (TermIsIn bank history) literals → RuleIsOver IsVariable (symbols_of (events_at bank history)) (tree.Linear (summands_at bank summands))
  drawn_over history summands h over = record { terms = each_over (map (λ s. s.literal) (summands_at bank summands)) (each_drawn summands h); names = tt }
    where
      at_literal : (t : Term) (ids : List TermId) → All (TermIsIn bank history) ids → IsAmong t (terms_at bank ids) → IsTermOf IsVariable (symbols_of (events_at bank history)) t
      at_literal t [] all m = absurd m
      at_literal t (id ∷ ids) all (inl same) = subst (IsTermOf IsVariable (symbols_of (events_at bank history))) (sym same) (All-head (TermIsIn bank history) id ids all)
      at_literal t (id ∷ ids) all (inr m) = at_literal t ids (All-tail (TermIsIn bank history) id ids all) m

      each_over : (ts : List Term) → Each (λ t. IsAmong t (terms_at bank literals)) ts → Each (IsTermOf IsVariable (symbols_of (events_at bank history))) ts
      each_over [] m = tt
      each_over (t ∷ ts) m = (at_literal t literals over m.0, each_over ts m.1)

-- the clause of the line has only the literals
pub only_literals : (old new : Content) (literals : List TermId) (summands : List Summand) (o : Option Clause) → Grows old new → All (Stands old) literals → AllDraw old literals summands → is_refuted (summands_at old summands) ≡ true →
    o ≡ linear_clause (summands_at old summands) → has_only o (terms_at new literals) ≡ true
only_literals old new literals summands o grows stand draws refuted is =
    let clause = distinct (map (λ s. s.literal) (summands_at old summands)) in
    let given : o ≡ Some clause = is ∙ ap (λ b. when b clause) refuted in
    ap (λ p. has_only p (terms_at new literals)) given
    ∙ ap (is_within clause) (terms_at-grown old new literals grows stand)
    ∙ within_distinct (map (λ s. s.literal) (summands_at old summands)) (terms_at old literals) (each_drawn old literals summands draws)
