-- Events that a ready history may gain.
use Rattle.std.proofs.Common.{◌≡◌, ◌≤◌, ℕ, Bool, true, List, sym, subst, leb-true}
use Rattle.std.specs.Prelude.{None, nat_le}
use Rattle.nq_logic.specs.Terms.{Name, Term}
use Rattle.nq_logic.specs.Formulas.{holds}
use Rattle.nq_logic.specs.Derivations.{Derivable}
use Rattle.nq_logic.specs.Histories.{History, RuleClass}
use Rattle.nq_logic.specs.Histories as logic
use Rattle.nq_logic.specs.Sizes.{depth_of, size_of}
use Rattle.nq_logic.specs.Admissible.{IsMeasured}
use Rattle.nq_logic.proofs.Tests.{names_distinct_law, variables_told_law}
use Rattle.nq_proof.proofs.Tests.{and_right}
use Rattle.nq_log.specs.Sizes.{is_small}
use Rattle.nq_kernel.specs.Ready.{IsReadyEvent, body_depth}
use Rattle.nq_block.specs.Closings.{CanDefine, IsFree}
use Rattle.nq_events.specs.AllowedEvents.{plain_definition}
use Rattle.nq_spelling.specs.SpelledEvents.{IsSpelledDefinition, IsSpelledFormula}

module _ (h : History) (name : Name) (free : IsFree h name) where
  pub declared_ready : (n : ℕ) → IsReadyEvent h (logic.Declaration name n)
  declared_ready n = record { unused = free.unused; holds = tt; spelled = tt }

  pub toggled_ready : (old : Name) (disabled : Bool) → IsReadyEvent h (logic.Toggle name old disabled)
  toggled_ready old disabled = record { unused = free.unused; holds = tt; spelled = tt }

  pub axiom_ready : (classes : List RuleClass) (t : Term) → IsSpelledFormula h name t → IsReadyEvent h (logic.Axiom name classes t)
  axiom_ready classes t spelled = record { unused = free.unused; holds = spelled.claimable.over.over; spelled = spelled.claimable.over }

  -- a lemma that is derivable
  pub lemma_ready : (classes : List RuleClass) (t : Term) → IsSpelledFormula h name t → Derivable h (holds t) → IsReadyEvent h (logic.Lemma name classes t)
  lemma_ready classes t spelled shown = record { unused = free.unused; holds = shown; spelled = spelled.claimable.over }

-- a term that may be claimed is not too deep
pub small_depth : (t : Term) → is_small t ≡ true → depth_of t ≤ body_depth
small_depth t small = leb-true (depth_of t) body_depth (and_right (nat_le (size_of t) 100000) (nat_le (depth_of t) body_depth) small)

pub defined_ready : (h : History) (name : Name) (formals : List Name) (body : Term) → CanDefine h name formals body → IsSpelledDefinition h name formals body
    → IsReadyEvent h (logic.Defines (plain_definition name formals body))
defined_ready h name formals body can spelled = record {
  unused = can.free.unused;
  holds = record {
    unused = can.free.unused;
    distinct = (names_distinct_law formals).0 can.distinct;
    closed = (variables_told_law formals body).0 can.within;
    over = spelled.over.over;
    measured = subst (λ (b : Bool). IsMeasured h (plain_definition name formals body) b None) (sym can.plain) tt;
  };
  spelled = (can.spelled, small_depth body spelled.small);
}
