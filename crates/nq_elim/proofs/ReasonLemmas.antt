-- Why variables can give way.
use Rattle.std.proofs.Common.{◌≡◌, ◌<◌, ℕ, zero, suc, List, [], ◌∷◌, ◌++◌, length, map, get_or, refl, sym, ap, ap₂, ◌∙◌, subst, inl, inr, arith}
use Rattle.std.specs.Prelude.{All}
use Rattle.nq_logic.specs.Terms.{Term, IsAmong}
use Rattle.nq_logic.specs.Words.{not_term}
use Rattle.nq_bank.specs.declared.node.TermId.{TermId}
use Rattle.nq_bank.specs.Content.{Content, term_at, terms_at}
use Rattle.nq_bank.proofs.NodesLemmas.{All-head, All-tail}
use Rattle.nq_proof.specs.Clauses.{Clause}
use Rattle.nq_history.specs.declared.entry.Entry.{Entry}
use Rattle.nq_kernel.specs.declared.work.Work.{Work}
use Rattle.nq_kernel.specs.Growing.{WorkStands, WorkGrows}
use Rattle.nq_lines.specs.Lines.{AreAmong, IsTermIn, LineHasOnly}
use Rattle.nq_lines.proofs.LineLemmas.{only_grown}
use Rattle.nq_lines.proofs.TermLemmas.{term_grown, same_term_grown}
use Rattle.nq_elim.proofs.GrownLemmas.{same_terms, terms_grown}
use Rattle.nq_reduce.specs.Clauses.{AreLiterals}
use Rattle.nq_lines.specs.declared.facts.Fact.{Fact}
use Rattle.nq_elim.specs.declared.reasons.Reason.{Reason}
use Rattle.nq_elim.specs.Reasons.{FactHolds, IsReason, denied_at, whole_at}
use Rattle.nq_elim.proofs.ListLemmas.{all_append}
use Rattle.nq_elim.proofs.CaseLemmas.{cases_grown, literals_in}

-- the rest is over the history
pub rest_in : (history : List Entry) (work : Work) (goal : List TermId) (r : Reason) → All (IsTermIn history work) goal → IsReason history work goal r → All (IsTermIn history work) r.rest.items
rest_in history work goal r all h =
    subst (All (IsTermIn history work)) (sym h.rest_is) (all_append (IsTermIn history work) (map (λ c. c.literal) r.cases.items) goal (literals_in history work r.cases.items h.cases) all)

-- facts hold however the work grows
module _ (history : List Entry) (old new : Work) (stands : WorkStands history old) (grows : WorkGrows history old new) (these : Clause) where
  pub fact_grown : (f : Fact) → FactHolds history old these f → FactHolds history new these f
  fact_grown f h =
      record {
        term = term_grown history old new f.term stands grows h.term;
        says =
            subst (λ t. LineHasOnly new f.line (t ∷ these)) (sym (same_term_grown history old new f.term grows h.term)) (
            only_grown history old new f.line (term_at old.bank f.term ∷ these) stands grows h.says);
      }

  pub facts_grown : (facts : List Fact) → All (FactHolds history old these) facts → All (FactHolds history new these) facts
  facts_grown facts h = λ i d below. fact_grown (get_or facts i d) (h i d below)

  pub denied_same : (facts : List Fact) → All (FactHolds history old these) facts → denied_at new.bank facts ≡ denied_at old.bank facts
  denied_same [] h = refl
  denied_same (f ∷ facts) h =
      ap₂ (λ (t : Term) (ts : Clause). not_term t ∷ ts) (same_term_grown history old new f.term grows (All-head (FactHolds history old these) f facts h).term)
      (denied_same facts (All-tail (FactHolds history old these) f facts h))

-- a reason serves however the work grows
module _ (history : List Entry) (old new : Work) (stands : WorkStands history old) (grows : WorkGrows history old new) (goal : List TermId) (all : All (IsTermIn history old) goal) (r : Reason) (h : IsReason history old goal r) where
  pub same_rest : terms_at new.bank r.rest.items ≡ terms_at old.bank r.rest.items
  same_rest = same_terms history old new stands grows r.rest.items (rest_in history old goal r all h)

  pub same_whole : whole_at new.bank r ≡ whole_at old.bank r
  same_whole = ap₂ (λ (a b : Clause). a ++ b) (denied_same history old new stands grows (terms_at old.bank r.rest.items) r.facts.items h.facts) same_rest

  pub reason_grown : IsReason history new goal r
  reason_grown =
      record {
        equation = term_grown history old new r.equation stands grows h.equation;
        cases = cases_grown history old new stands grows r.cases.items h.cases;
        rest_is = h.rest_is;
        facts =
            subst (λ (ts : Clause). All (FactHolds history new ts) r.facts.items) (sym same_rest) (
            facts_grown history old new stands grows (terms_at old.bank r.rest.items) r.facts.items h.facts);
      }

-- each of some terms is among others
pub all_among : (bank : Content) (ids : List TermId) (these : Clause) → All (λ t. IsAmong (term_at bank t) these) ids → AreAmong (terms_at bank ids) these
all_among bank [] these h u m = absurd m
all_among bank (t ∷ ids) these h u (inl e) = subst (λ v. IsAmong v these) (sym e) (All-head (λ t. IsAmong (term_at bank t) these) t ids h)
all_among bank (t ∷ ids) these h u (inr m) = all_among bank ids these (All-tail (λ t. IsAmong (term_at bank t) these) t ids h) u m

-- the line of literals that are all among these
pub has_only_these : (history : List Entry) (work : Work) (line : ℕ) (ids : List TermId) (these : Clause) → AreLiterals history work line ids → All (λ t. IsAmong (term_at work.bank t) these) ids → LineHasOnly work line these
has_only_these history work line ids these h all = record { literals = terms_at work.bank ids; stands = h.holds; only = all_among work.bank ids these all }
