-- Lines that decide a proposition under an assignment.
use Rattle.std.specs.Prelude.{◌≡◌, ◌<◌, ◌≤◌, ◌+◌, ℕ, Bool, true, false, List, [], ◌∷◌, All}
use Rattle.nq_logic.specs.Terms.{Term, IsAmong}
use Rattle.nq_logic.specs.Sizes.{depth_of, depth_limit}
use Rattle.nq_logic.specs.Ground.{p_term, q_term}
use Rattle.nq_proof.specs.Clauses.{has_term}
use Rattle.nq_bank.specs.declared.node.TermId.{TermId}
use Rattle.nq_bank.specs.Content.{Content, Stands, IsIdOf, term_at, terms_at}
use Rattle.nq_history.specs.declared.entry.Entry.{Entry}
use Rattle.nq_history.specs.Events.{HistoryStands}
use Rattle.nq_kernel.specs.Over.{TermIsIn}
use Rattle.nq_kernel.specs.declared.work.Work.{Work}
use Rattle.nq_quick.specs.declared.assignments.Assignment.{Assignment}
use Rattle.nq_quick.specs.declared.heads.Head.TheVariants as head
use Rattle.nq_quick.specs.declared.patterns.Case.{Case}
use Rattle.nq_quick.specs.Heads.{HasHead, joined_term}
use Rattle.nq_quick.specs.Patterns.{case_truth}
use Rattle.nq_fragments.specs.Propositions.{Proposition, Other, Truth, Falsity, Choice, Denial, Joined, proposition_of, others_in}
use Rattle.nq_quick.specs.Assignments.{truth_with}
use Rattle.nq_quick.specs.Lines.{Says, denial}

-- the terms that an assignment makes true, and the literals that are false
abbrev pub trues_at : Content → Assignment → List Term
trues_at bank a = terms_at bank a.trues.items

abbrev pub denials_at : Content → Assignment → List Term
denials_at bank a = terms_at bank a.denials.items

-- whether the proposition of t is true under the assignment
abbrev pub truth_at : Content → Assignment → TermId → Bool
truth_at bank a t = truth_with (trues_at bank a) (proposition_of (term_at bank t))

-- for each other term of the proposition, the literal that is false is among the denials
abbrev pub AreDenied : List Term → List Term → Proposition → Type 0
AreDenied trues denials p = (u : Term) → IsAmong u (others_in p) → IsAmong (denial (has_term u trues) u) denials

-- the ids of the assignment stand
pub record AssignmentStands (bank : Content) (a : Assignment) : Type 0 where
  pub trues : All (Stands bank) a.trues.items
  pub denials : All (Stands bank) a.denials.items

-- the history stands, and t is over its functions, with variables that a log can spell
pub record IsInHistory (bank : Content) (history : List Entry) (t : TermId) : Type 0 where
  pub stands : HistoryStands bank history
  pub over : TermIsIn bank history t

-- the assignment makes each other term of t true or false, and where it makes t false there is room for the NOT of t
pub record CanDecide (bank : Content) (history : List Entry) (a : Assignment) (t : TermId) : Type 0 where
  pub term : Stands bank t
  pub assignment : AssignmentStands bank a
  pub denied : AreDenied (trues_at bank a) (denials_at bank a) (proposition_of (term_at bank t))
  pub over : IsInHistory bank history t
  pub shallow : depth_of (term_at bank t) ≤ depth_limit
  pub room : truth_at bank a t ≡ false → depth_of (term_at bank t) < depth_limit

-- t is a connective of p and q, which are true or false as the case says
pub record IsCaseOf (bank : Content) (a : Assignment) (t : TermId) (case : Case) (p q : TermId) : Type 0 where
  pub head : HasHead bank t (head.Joined case.connective p q)
  pub left : case.left ≡ truth_at bank a p
  pub right : case.right ≡ truth_at bank a q

-- t is the connective of p and q, which have room under a NOT, as t has where it is false in the case
pub record CanInstantiate (bank : Content) (history : List Entry) (case : Case) (t p q : TermId) : Type 0 where
  pub whole : IsIdOf bank t (joined_term case.connective (term_at bank p) (term_at bank q))
  pub left : Stands bank p
  pub right : Stands bank q
  pub over : IsInHistory bank history t
  pub left_room : depth_of (term_at bank p) < depth_limit
  pub right_room : depth_of (term_at bank q) < depth_limit
  pub room : case_truth case ≡ false → depth_of (term_at bank t) < depth_limit

-- those of two things that are true
abbrev pub true_sides : {X : Type 0} → Bool → Bool → X → X → List X
true_sides true true p q = p ∷ q ∷ []
true_sides true false p q = p ∷ []
true_sides false true p q = q ∷ []
true_sides false false p q = []

abbrev pub case_trues : Bool → Bool → List Term
case_trues left right = true_sides left right p_term q_term

-- P and Q are true or false as the case says
pub record IsCaseAssignment (bank : Content) (case : Case) (a : Assignment) : Type 0 where
  pub stands : AssignmentStands bank a
  pub trues : trues_at bank a ≡ case_trues case.left case.right
  pub denials : denials_at bank a ≡ denial case.left p_term ∷ denial case.right q_term ∷ []

-- line n has only t or its NOT, as the assignment makes t true or false, and its denials
abbrev pub Decides : Work → ℕ → Assignment → TermId → Type 0
Decides work n a t = Says work n (truth_at work.bank a t) t a.denials.items

-- The work of deciding a proposition: a connective weighs more than the body of its definition.
abbrev pub weight : Proposition → ℕ
weight (Other t) = 0
weight Truth = 0
weight Falsity = 0
weight (Choice p x y) = 1 + weight p + weight x + weight y
weight (Denial p) = 1 + weight p
weight (Joined connective p q) = 9 + weight p + weight q

abbrev pub weight_at : Content → TermId → ℕ
weight_at bank t = weight (proposition_of (term_at bank t))
