-- The scheme of one case, whose test says that the measure falls.
use Rattle.std.proofs.Common.{◌≡◌, ◌<◌, ℕ, Bool, true, false, List, [], ◌∷◌, ◌++◌, length, refl, sym, ap₂, subst, inl, inr, arith}
use Rattle.std.specs.Prelude.{All, IsTrue, ◌↔◌, Vec}
use Rattle.std.specs.declared.alloc.Global.{Global}
use Rattle.nq_logic.specs.Terms.{Term, IsAmong, Substitution, substituted}
use Rattle.nq_logic.specs.Words.{call2, not_term}
use Rattle.nq_bank.specs.declared.node.TermId.{TermId}
use Rattle.nq_bank.specs.Content.{Content, IsIdOf, term_at, terms_at}
use Rattle.nq_clause.specs.declared.substitution.Pair.{Pair}
use Rattle.nq_rule.specs.declared.induction.InductionStep.{InductionStep}
use Rattle.nq_history.specs.declared.entry.Entry.{Entry}
use Rattle.nq_kernel.specs.declared.work.Work.{Work}
use Rattle.nq_kernel.specs.Growing.{WorkStands, WorkGrows}
use Rattle.nq_lines.specs.Lines.{IsTermIn, LineHasOnly, LineLeads}
use Rattle.nq_lines.specs.Instances.{ArePairsIn}
use Rattle.nq_lines.specs.declared.facts.Fact.{Fact}
use Rattle.nq_lines.proofs.Among.{none_among, and_among, on_left, on_right}
use Rattle.nq_lines.proofs.LineLemmas.{leads_only, only_more}
use Rattle.nq_lines.proofs.TermLemmas.{same_term_grown}
use Rattle.nq_induct.specs.declared.scheme.Case.{Case}
use Rattle.nq_induct.specs.Claims.{any_of, GathersTo}
use Rattle.nq_induct.specs.Schemes.{IsStepIn, IsCaseIn}
use Rattle.nq_induct.proofs.GrownLemmas.{same_pairs}
use Rattle.nq_schemes.specs.Single.{fall_of}
use Rattle.nq_schemes.proofs.GrownLemmas.{one_all}

-- a list with one more has one
pub some_pushed : {X : Type 0} (xs ys : List X) (x : X) → ys ≡ xs ++ x ∷ [] → 0 < length ys
some_pushed [] ys x is = subst (λ zs. 0 < length zs) (sym is) (omega arith)
some_pushed (z ∷ xs) ys x is = subst (λ zs. 0 < length zs) (sym is) (omega arith)

pub some_one : {X : Type 0} (xs : List X) (x : X) → xs ≡ x ∷ [] → 0 < length xs
some_one xs x is = some_pushed [] xs x is

-- and the last is among them
pub last_among : (bank : Content) (xs ys : List TermId) (x : TermId) (t : Term) → ys ≡ xs ++ x ∷ [] → term_at bank x ≡ t → IsAmong t (terms_at bank ys)
last_among bank [] ys x t is same = subst (λ zs. IsAmong t (terms_at bank zs)) (sym is) (inl (sym same))
last_among bank (z ∷ xs) ys x t is same = subst (λ zs. IsAmong t (terms_at bank zs)) (sym is) (inr (last_among bank xs (xs ++ x ∷ []) x t refl same))

-- the line of a term and its denial, where the denial is gathered with others
pub fall_claimed : (w1 w2 : Work) (literals : List Term) (t : Term) (line : ℕ) (f : Fact) → LineLeads w1 line t (not_term t ∷ []) → IsAmong (not_term t) literals → IsIdOf w2.bank f.term (any_of literals) → GathersTo w1 w2 literals (any_of literals) line f.line → LineHasOnly w2 f.line (term_at w2.bank f.term ∷ t ∷ [])
fall_claimed w1 w2 literals t line f leads m id gathers =
    let whole : List Term = literals ++ (t ∷ []) in
    let told : LineHasOnly w1 line whole =
    only_more w1 line (t ∷ not_term t ∷ []) whole
    (and_among t (not_term t ∷ []) whole (on_right literals (t ∷ []) t (inl refl)) (and_among (not_term t) [] whole (on_left literals (t ∷ []) (not_term t) m) (none_among whole))) (leads_only w1 line t (not_term t ∷ []) leads) in
    subst (λ (u : Term). LineHasOnly w2 f.line (u ∷ t ∷ [])) (sym id.denotes) (gathers (t ∷ []) told)

-- what falls is the same in later work
pub same_fall : (history : List Entry) (old new : Work) → WorkStands history old → WorkGrows history old new → (measure : TermId) (pairs : List Pair) → IsTermIn history old measure → ArePairsIn history old pairs → fall_of new.bank measure pairs ≡ fall_of old.bank measure pairs
same_fall history old new stands grows measure pairs m ps =
    ap₂ (λ (s : Substitution) (u : Term). call2 "ORD-LESSP" (substituted s u) u) (same_pairs history old new stands grows pairs ps) (same_term_grown history old new measure grows m)

-- the case of one step
pub case_single : (history : List Entry) (work : Work) (measure : TermId) (c : Case) (test : Fact) (pairs : Vec Pair Global) → c.test ≡ test.term → c.steps.items ≡ (record { line = test.line; pairs = pairs }) ∷ [] → IsTermIn history work test.term → ArePairsIn history work pairs.items
    → LineHasOnly work test.line (not_term (term_at work.bank test.term) ∷ fall_of work.bank measure pairs.items ∷ []) → IsCaseIn history work measure c
case_single history work measure c test pairs same is over ps falls =
    let s : InductionStep = record { line = test.line; pairs = pairs } in
    let step : IsStepIn history work measure test.term s = record { pairs = ps; falls = falls } in
    record {
      test = subst (IsTermIn history work) (sym same) over;
      steps = subst (λ (q : TermId). All (IsStepIn history work measure q) c.steps.items) (sym same) (subst (All (IsStepIn history work measure test.term)) (sym is) (one_all (IsStepIn history work measure test.term) s step));
    }

-- no pairs
pub pairs_none : (history : List Entry) (work : Work) (pairs : List Pair) → pairs ≡ [] → ArePairsIn history work pairs
pairs_none history work pairs is = subst (ArePairsIn history work) (sym is) (record { stand = λ k d below. absurd (omega (arith, below)); distinct = refl; terms = tt; names = tt })

-- a list of terms is empty where it is told that it is not filled
pub none_told : (ts : List Term) (b : Bool) → IsTrue b ↔ (ts ≡ [] → ⊥) → b ≡ false → ts ≡ []
none_told [] b told isnt = refl
none_told (t ∷ ts) b told isnt =
    let yes : b ≡ true = told.1 (λ e. cc) in
    absurd cc
