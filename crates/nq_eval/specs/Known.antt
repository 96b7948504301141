-- What is known of terms that were evaluated.
use Rattle.std.specs.Prelude.{◌≡◌, ◌≤◌, ◌-◌, ℕ, nat_eq, true, List, Some}
use Rattle.std.specs.declared.hash.FoldHasher.{FoldHasher}
use Rattle.std.specs.declared.hash.BuildHasherDefault.{BuildHasherDefault}
use Rattle.std.specs.HashMap.{get, HashMap}
use Rattle.nq_logic.specs.Terms.{Name}
use Rattle.nq_logic.specs.Histories.{History, Definition, Defines}
use Rattle.nq_logic.specs.Names.{looked_up, are_distinct}
use Rattle.nq_logic.specs.Terms.{Each}
use Rattle.nq_logic.specs.Sizes.{depth_of}
use Rattle.nq_logic.specs.Ground.{symbols_of}
use Rattle.nq_bank.specs.declared.node.TermId.{TermId}
use Rattle.nq_bank.specs.Content.{Stands, term_at}
use Rattle.nq_history.specs.declared.entry.Entry.{Entry}
use Rattle.nq_history.specs.Events.{events_at}
use Rattle.nq_kernel.specs.declared.work.Work.{Work}
use Rattle.nq_kernel.specs.Over.{IsVariable, IsTermOf}
use Rattle.nq_fragments.specs.Outcomes.{Outcome, BlockedAt, OutOfFuel, is_small}
use Rattle.nq_fragments.specs.Evaluation.{outcome_within, on_values}
use Rattle.nq_eval.specs.Costs.{inner, Takes, CallTakes}
use Rattle.nq_eval.specs.Lines.{IsUsable, Equates}
use Rattle.nq_eval.specs.declared.found.Known.{Known}
use Rattle.nq_eval.specs.declared.found.Found.{Found}
use Rattle.nq_eval.specs.declared.found.Found.TheVariants as found

-- the ids are one, or line n has their equation
abbrev pub AreEqual : Work → ℕ → TermId → TermId → Type 0
AreEqual work n t u = (t.0 ≡ u.0 → ⊥) → Equates work n t u

-- the value of t, and what it takes, wherever t stands
pub record IsKnown (history : List Entry) (work : Work) (t : TermId) (k : Known) : Type 0 where
  pub value : IsUsable work.bank history k.value
  pub small : is_small (term_at work.bank k.value) ≡ true
  pub takes : Takes (events_at work.bank history) (term_at work.bank t) (term_at work.bank k.value) k.calls k.nesting
  pub line : AreEqual work k.line t k.value

-- known terms, by their ids
abbrev pub Memo : Type 0
Memo = HashMap ℕ Known (BuildHasherDefault FoldHasher)

-- what is kept for a term is known of it
pub record Knows (history : List Entry) (work : Work) (memo : Memo) : Type 0 where
  pub usable : (t : TermId) (k : Known) → get nat_eq memo t.0 ≡ Some k → IsUsable work.bank history t
  pub known : (t : TermId) (k : Known) → get nat_eq memo t.0 ≡ Some k → IsKnown history work t k

-- what a term gives, where openings may nest so far and so many calls are left
abbrev pub outcome_at : List Entry → Work → TermId → ℕ → ℕ → Outcome
outcome_at history work t n left = outcome_within (events_at work.bank history) n (term_at work.bank t) left

pub record IsReached (history : List Entry) (work : Work) (t : TermId) (n left : ℕ) (k : Known) : Type 0 where
  pub known : IsKnown history work t k
  pub calls : k.calls ≤ left
  pub nesting : k.nesting ≤ n

pub record IsBlocked (work : Work) (u : TermId) (o : Outcome) : Type 0 where
  pub stands : Stands work.bank u
  pub blocked : o ≡ BlockedAt (term_at work.bank u)

-- what was found is what the term gives
abbrev pub IsFoundFor : List Entry → Work → TermId → ℕ → ℕ → Found → Type 0
IsFoundFor history work t n left (found.Value k) = IsReached history work t n left k
IsFoundFor history work t n left (found.Blocked u) = IsBlocked work u (outcome_at history work t n left)
IsFoundFor history work t n left found.Fuel = outcome_at history work t n left ≡ OutOfFuel

-- the same of a call on values
abbrev pub call_outcome : List Entry → Work → TermId → ℕ → ℕ → Outcome
call_outcome history work u n left = on_values (events_at work.bank history) (inner (events_at work.bank history) n) (term_at work.bank u) left

pub record IsCallReached (history : List Entry) (work : Work) (u : TermId) (n left : ℕ) (k : Known) : Type 0 where
  pub value : IsUsable work.bank history k.value
  pub small : is_small (term_at work.bank k.value) ≡ true
  pub takes : CallTakes (events_at work.bank history) (term_at work.bank u) (term_at work.bank k.value) k.calls k.nesting
  pub line : AreEqual work k.line u k.value
  pub calls : k.calls ≤ left
  pub nesting : k.nesting ≤ n

abbrev pub IsFoundOn : List Entry → Work → TermId → ℕ → ℕ → Found → Type 0
IsFoundOn history work u n left (found.Value k) = IsCallReached history work u n left k
IsFoundOn history work u n left (found.Blocked w) = IsBlocked work w (call_outcome history work u n left)
IsFoundOn history work u n left found.Fuel = call_outcome history work u n left ≡ OutOfFuel

-- of so many calls these are left once it was found
abbrev pub left_on : ℕ → Found → ℕ
left_on left (found.Value k) = left - k.calls
left_on left (found.Blocked u) = 0
left_on left found.Fuel = 0
