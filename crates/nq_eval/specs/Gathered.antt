-- The values of arguments.
use Rattle.std.specs.Prelude.{◌≡◌, ◌≤◌, ◌<◌, ℕ, List, [], ◌∷◌, map, ⊤, true, All}
use Rattle.nq_logic.specs.Terms.{Term, call}
use Rattle.nq_logic.specs.Sizes.{depth_of}
use Rattle.nq_bank.specs.declared.node.TermId.{TermId}
use Rattle.nq_bank.specs.declared.node.Sym.{Sym}
use Rattle.nq_bank.specs.Content.{Content, Stands, IsNamed, text_at, term_at, terms_at}
use Rattle.nq_history.specs.declared.entry.Entry.{Entry}
use Rattle.nq_history.specs.Events.{events_at}
use Rattle.nq_kernel.specs.declared.work.Work.{Work}
use Rattle.nq_kernel.specs.Growing.{WorkStands}
use Rattle.nq_fragments.specs.Outcomes.{Outcome, BlockedAt, OutOfFuel, term_depth, is_small}
use Rattle.nq_fragments.specs.Evaluation.{Way, applied_to, on_values, outcome_within}
use Rattle.nq_eval.specs.Costs.{granted, inner, TakesEach}
use Rattle.nq_eval.specs.Lines.{IsUsable}
use Rattle.nq_eval.specs.declared.found.Known.{Known}
use Rattle.nq_eval.specs.declared.gathered.Values.{Values}
use Rattle.nq_eval.specs.declared.gathered.Gathered.{Gathered}
use Rattle.nq_eval.specs.declared.gathered.Gathered.TheVariants as gathered
use Rattle.nq_eval.specs.declared.gathered.ValuesCall.{ValuesCall}
use Rattle.nq_eval.specs.Known.{IsKnown, AreEqual, Memo, Knows}
use Rattle.nq_kernel.specs.Ready.{HasUsableDefinitions}

-- the work stands, the history can be opened, and what is kept is known
pub record CanEvaluate (history : List Entry) (work : Work) (memo : Memo) : Type 0 where
  pub stands : WorkStands history work
  pub definitions : HasUsableDefinitions (events_at work.bank history)
  pub knows : Knows history work memo

-- t may be an argument of a term that may have a value
pub record HasRoom (bank : Content) (history : List Entry) (t : TermId) : Type 0 where
  pub usable : IsUsable bank history t
  pub room : depth_of (term_at bank t) < term_depth

-- each of these is known so, one by one
abbrev pub AreKnown : List Entry → Work → List TermId → List Known → Type 0
AreKnown history work [] [] = ⊤
AreKnown history work [] (k ∷ ks) = ⊥
AreKnown history work (t ∷ ts) [] = ⊥
AreKnown history work (t ∷ ts) (k ∷ ks) = IsKnown history work t k × AreKnown history work ts ks

-- the ids of the values
abbrev pub values_of : List Known → List TermId
values_of ks = map (λ k. k.value) ks

abbrev pub values_at : Content → List Known → List Term
values_at bank ks = terms_at bank (values_of ks)

-- all arguments have values
pub record AreReached (history : List Entry) (work : Work) (ts : List TermId) (n left : ℕ) (v : Values) : Type 0 where
  pub known : AreKnown history work ts v.known.items
  pub takes : TakesEach (events_at work.bank history) (terms_at work.bank ts) (values_at work.bank v.known.items) v.calls v.nesting
  pub calls : v.calls ≤ left
  pub nesting : v.nesting ≤ n

-- whatever the function and whatever follows, this comes of the arguments
abbrev pub Stops : List Entry → Work → List TermId → ℕ → ℕ → Outcome → Type 0
Stops history work ts n left o = (u : Term) (next : Term → Way) → applied_to next u (map (outcome_within (events_at work.bank history) n) (terms_at work.bank ts)) left ≡ o

abbrev pub IsGathered : List Entry → Work → List TermId → ℕ → ℕ → Gathered → Type 0
IsGathered history work ts n left (gathered.Values v) = AreReached history work ts n left v
IsGathered history work ts n left (gathered.Blocked u) = Stands work.bank u × Stops history work ts n left (BlockedAt (term_at work.bank u))
IsGathered history work ts n left gathered.Fuel = Stops history work ts n left OutOfFuel

-- the term is a call of f on the values
pub record IsValuesCall (history : List Entry) (work : Work) (f : Sym) (c : ValuesCall) : Type 0 where
  pub term : IsUsable work.bank history c.term
  pub name : IsNamed work.bank f
  pub is : term_at work.bank c.term ≡ call (text_at work.bank f) (terms_at work.bank c.values.items)
  pub stand : All (Stands work.bank) c.values.items
  pub small : All (λ v. is_small (term_at work.bank v) ≡ true) c.values.items

-- the term is the call of f on the values of the arguments, and the line has its equation with t
pub record IsCallOf (history : List Entry) (work : Work) (t : TermId) (f : Sym) (ks : List Known) (c : ValuesCall) : Type 0 where
  pub call : IsValuesCall history work f c
  pub items : c.values.items ≡ values_of ks
  pub line : AreEqual work c.line t c.term

-- where the call of the values gives an outcome in what is left, so does t, and what it takes is added
pub record IsReduced (history : List Entry) (work : Work) (t : TermId) (n left : ℕ) (a k : ℕ) (c : ValuesCall) : Type 0 where
  pub term : IsUsable work.bank history t
  pub call : IsUsable work.bank history c.term
  pub line : AreEqual work c.line t c.term
  pub calls : a ≤ left
  pub nesting : k ≤ n
  pub within : (n left : ℕ) → outcome_within (events_at work.bank history) n (term_at work.bank t) left ≡ granted a k n left (on_values (events_at work.bank history) (inner (events_at work.bank history) n) (term_at work.bank c.term))
