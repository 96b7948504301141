-- Literals that a line shows, and that another rests on.
use Rattle.std.specs.Prelude.{◌≡◌, ◌⊎◌, List, [], ◌∷◌, All}
use Rattle.nq_bank.specs.declared.node.TermId.{TermId}
use Rattle.nq_history.specs.declared.entry.Entry.{Entry}
use Rattle.nq_kernel.specs.declared.work.Work.{Work}
use Rattle.nq_lines.specs.Lines.{IsTermIn}
use Rattle.nq_instances.specs.Parts.{IsLine}
use Rattle.nq_arithmetic.specs.declared.reading.Operands.{Operands}
use Rattle.nq_arithmetic.specs.declared.claims.Claim.{Claim}
use Rattle.nq_arithmetic.specs.declared.assumptions.Assumption.{Assumption}
use Rattle.nq_arithmetic.specs.declared.assumptions.Source.{Source}
use Rattle.nq_arithmetic.specs.declared.assumptions.Source.TheVariants.{Law, Lemma}

-- both terms are over the functions of the history, with variables that a log can spell
pub record AreOperandsIn (history : List Entry) (work : Work) (at : Operands) : Type 0 where
  pub first : IsTermIn history work at.first
  pub second : IsTermIn history work at.second

-- so are a claim's term and its NOT
pub record IsClaimIn (history : List Entry) (work : Work) (claim : Claim) : Type 0 where
  pub test : IsTermIn history work claim.test
  pub denial : IsTermIn history work claim.denial

-- so are the terms of which a law speaks; the instance of a lemma is so, and has a line
abbrev pub IsSourceIn : List Entry → Work → Source → Type 0
IsSourceIn history work (Law template at) = AreOperandsIn history work at
IsSourceIn history work (Lemma fact) = IsLine history work fact

-- so are the claim of a fact, and that from which its line is made
pub record IsAssumptionIn (history : List Entry) (work : Work) (assumption : Assumption) : Type 0 where
  pub claim : IsClaimIn history work assumption.claim
  pub source : IsSourceIn history work assumption.source

-- the id is one of these
abbrev pub IsOneOf : List TermId → TermId → Type 0
IsOneOf [] t = ⊥
IsOneOf (u ∷ ids) t = (t ≡ u) ⊎ IsOneOf ids t

-- each id is one of these
abbrev pub AreOf : List TermId → List TermId → Type 0
AreOf ids ts = All (IsOneOf ids) ts
