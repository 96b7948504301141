-- What a prover has learnt, and what its answers say.
use Rattle.std.specs.Prelude.{◌≡◌, ◌≤◌, ◌++◌, ℕ, ⊤, true, List, [], ◌∷◌, length, take}
use Rattle.nq_logic.specs.Terms.{Term}
use Rattle.nq_logic.specs.Histories.{History}
use Rattle.nq_proof.specs.Rules.{has_only}
use Rattle.nq_fragments.specs.Tautologies.{IsSmallTautology}
use Rattle.nq_fragments.specs.Fragments.{IsFirstByEvaluation, IsFirstByInstance, IsInNoFragment}
use Rattle.nq_bank.specs.Content.{Content}
use Rattle.nq_history.specs.declared.entry.Entry.{Entry}
use Rattle.nq_history.specs.Events.{ground_length, HistoryStands}
use Rattle.nq_kernel.specs.declared.verdict.Quick.{Quick}
use Rattle.nq_kernel.specs.declared.verdict.Quick.TheVariants.{Taut, Eval, Inst}
use Rattle.nq_kernel.specs.declared.verdict.Proof.{Proof}
use Rattle.nq_kernel.specs.declared.verdict.Proof.TheVariants.{First, Waterfall}
use Rattle.nq_kernel.specs.declared.verdict.Verdict.{Verdict}
use Rattle.nq_kernel.specs.declared.verdict.Verdict.TheVariants.{Proved, Failed, OutOfSteps, NotYet}
use Rattle.nq_kernel.specs.declared.work.Work.{Work}
use Rattle.nq_kernel.specs.Meaning.{clause_at}

-- all entries but the last are learnt
pub record AllButLast (IsLearnt : List Entry → Type 0) (entries : List Entry) : Type 0 where
  pub before : List Entry
  pub last : Entry
  pub whole : entries ≡ before ++ last ∷ []
  pub learnt : IsLearnt before

-- the ground history is learnt, whatever ids it stands under
abbrev pub HasGround : (List Entry → Type 0) → Type 0
HasGround IsLearnt = (bank : Content) (entries : List Entry) → HistoryStands bank entries → IsLearnt (take ground_length entries)

-- so many entries are learnt, or more
pub record AtLeast (IsLearnt : List Entry → Type 0) (kept : ℕ) : Type 0 where
  pub entries : List Entry
  pub learnt : IsLearnt entries
  pub within : kept ≤ length entries

-- the fragment is the first that holds a lemma
abbrev pub IsFirstFragment : History → Term → Quick → Type 0
IsFirstFragment h t Taut = IsSmallTautology t
IsFirstFragment h t Eval = IsFirstByEvaluation h t
IsFirstFragment h t Inst = IsFirstByInstance h t

-- whether a proof is by a fragment
abbrev pub IsProofOf : History → Term → Proof → Type 0
IsProofOf h t (First fragment) = IsFirstFragment h t fragment
IsProofOf h t (Waterfall path) = IsInNoFragment h t

-- A lemma is proved by the first fragment that holds it. Each other answer comes only where no fragment does.
abbrev pub IsFirstPass : History → Term → Verdict → Type 0
IsFirstPass h t (Proved line proof) = IsProofOf h t proof
IsFirstPass h t (Failed path cause) = IsInNoFragment h t
IsFirstPass h t OutOfSteps = IsInNoFragment h t
IsFirstPass h t (NotYet path) = IsInNoFragment h t

-- the line of a proof has only the lemma, and steps ran out only where the counter is at its limit
abbrev pub IsTold : Work → Term → Verdict → Type 0
IsTold work t (Proved line proof) = has_only (clause_at work.bank work.log line) (t ∷ []) ≡ true
IsTold work t (Failed path cause) = ⊤
IsTold work t OutOfSteps = work.counter.used ≡ work.counter.limit
IsTold work t (NotYet path) = ⊤
