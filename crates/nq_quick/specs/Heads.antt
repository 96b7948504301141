-- What stands at the head of a proposition, over ids.
use Rattle.std.specs.Prelude.{◌≡◌, ◌<◌, ⊤}
use Rattle.nq_logic.specs.Terms.{Term}
use Rattle.nq_logic.specs.Words.{true_term, false_term, if_term, not_term, and_term, or_term, implies_term, iff_term}
use Rattle.nq_bank.specs.declared.node.TermId.{TermId}
use Rattle.nq_bank.specs.Content.{Content, term_at}
use Rattle.nq_fragments.specs.declared.connective.Connective.{Connective}
use Rattle.nq_fragments.specs.declared.connective.Connective.TheVariants.{And, Or, Implies, Iff}
use Rattle.nq_quick.specs.declared.heads.Head.{Head}
use Rattle.nq_quick.specs.declared.heads.Head.TheVariants as head
use Rattle.nq_fragments.specs.Propositions.{Proposition, Other, Truth, Falsity, Choice, Denial, Joined, proposition_of}

-- two terms joined
abbrev pub joined_term : Connective → Term → Term → Term
joined_term And p q = and_term p q
joined_term Or p q = or_term p q
joined_term Implies p q = implies_term p q
joined_term Iff p q = iff_term p q

-- the proposition of a term with this head
abbrev pub proposition_at : Content → TermId → Head → Proposition
proposition_at bank t head.Other = Other (term_at bank t)
proposition_at bank t head.Truth = Truth
proposition_at bank t head.Falsity = Falsity
proposition_at bank t (head.Choice parts) = Choice (proposition_of (term_at bank parts.test)) (proposition_of (term_at bank parts.first)) (proposition_of (term_at bank parts.second))
proposition_at bank t (head.Denial p) = Denial (proposition_of (term_at bank p))
proposition_at bank t (head.Joined connective p q) = Joined connective (proposition_of (term_at bank p)) (proposition_of (term_at bank q))

-- the term with this head
abbrev pub term_of_head : Content → TermId → Head → Term
term_of_head bank t head.Other = term_at bank t
term_of_head bank t head.Truth = true_term
term_of_head bank t head.Falsity = false_term
term_of_head bank t (head.Choice parts) = if_term (term_at bank parts.test) (term_at bank parts.first) (term_at bank parts.second)
term_of_head bank t (head.Denial p) = not_term (term_at bank p)
term_of_head bank t (head.Joined connective p q) = joined_term connective (term_at bank p) (term_at bank q)

-- the ids in the head stand before t
abbrev pub StandsBefore : TermId → Head → Type 0
StandsBefore t head.Other = ⊤
StandsBefore t head.Truth = ⊤
StandsBefore t head.Falsity = ⊤
StandsBefore t (head.Choice parts) = (parts.test.0 < t.0) × (parts.first.0 < t.0) × (parts.second.0 < t.0)
StandsBefore t (head.Denial p) = p.0 < t.0
StandsBefore t (head.Joined connective p q) = (p.0 < t.0) × (q.0 < t.0)

-- the term of t has this head
pub record HasHead (bank : Content) (t : TermId) (found : Head) : Type 0 where
  pub proposition : proposition_of (term_at bank t) ≡ proposition_at bank t found
  pub term : term_at bank t ≡ term_of_head bank t found
  pub before : StandsBefore t found
