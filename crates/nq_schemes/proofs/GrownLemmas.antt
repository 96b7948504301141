-- What the lines of a scheme stand on, however the work grows.
use Rattle.std.proofs.Common.{◌≡◌, ◌<◌, ◌∙◌, ℕ, List, [], ◌∷◌, length, get_or, refl, sym, ap, subst, arith}
use Rattle.std.specs.Prelude.{All, Option, Some, None, IfSome, Vec}
use Rattle.std.specs.declared.alloc.Global.{Global}
use Rattle.nq_logic.specs.Terms.{Term, Variable}
use Rattle.nq_logic.specs.Words.{call1}
use Rattle.nq_logic.specs.Histories.{History}
use Rattle.nq_bank.specs.declared.node.Sym.{Sym}
use Rattle.nq_bank.specs.declared.node.TermId.{TermId}
use Rattle.nq_bank.proofs.Growth.{IsNamed-grown, text_at-grown}
use Rattle.nq_bank.proofs.Standing.{All-push}
use Rattle.nq_rule.specs.declared.induction.InductionStep.{InductionStep}
use Rattle.nq_history.specs.declared.entry.Entry.{Entry}
use Rattle.nq_kernel.specs.declared.work.Work.{Work}
use Rattle.nq_history.specs.Events.{events_at}
use Rattle.nq_history.proofs.HistoryLemmas.{events_at-grown}
use Rattle.nq_kernel.specs.Growing.{WorkStands, WorkGrows}
use Rattle.nq_kernel.specs.Ready.{IsReady}
use Rattle.nq_lines.specs.Lines.{IsTermIn, LineHasOnly}
use Rattle.nq_lines.proofs.FactLemmas.{own_terms_grown}
use Rattle.nq_lines.proofs.LineLemmas.{only_grown, line_grown}
use Rattle.nq_lines.proofs.TermLemmas.{term_grown, same_term_grown}
use Rattle.nq_lines.proofs.InstanceLemmas.{pairs_in_grown}
use Rattle.nq_induct.specs.declared.scheme.Case.{Case}
use Rattle.nq_induct.specs.Schemes.{IsStepIn, IsCaseIn}
use Rattle.nq_induct.proofs.GrownLemmas.{step_grown, case_grown, shown_truth_grown}
use Rattle.nq_schemes.specs.declared.opened.Opened.{Opened}
use Rattle.nq_schemes.specs.declared.basis.SizedVariable.{SizedVariable}
use Rattle.nq_schemes.specs.declared.basis.Basis.{Basis}
use Rattle.nq_schemes.specs.Known.{IsNameOf, IsOpenedIn, with_some}
use Rattle.nq_schemes.specs.Owed.{AreGoalsIn}
use Rattle.nq_schemes.specs.Steps.{IsBasisIn, IsOrdinalIn, IsSizedIn, IsStartIn}
use Rattle.nq_lines.specs.declared.facts.Fact.{Fact}

-- what holds of each of a list holds with one more of which it holds
pub all_with : {X : Type 0} (P : X → Type 0) (xs ys : List X) (found : Option X) → ys ≡ with_some xs found → All P xs → IfSome found P → All P ys
all_with P xs ys None is h k = subst (All P) (sym is) h
all_with P xs ys (Some x) is h k = subst (All P) (sym is) (All-push P xs x h k)

module _ (history : List Entry) (old new : Work) (stands : WorkStands history old) (grows : WorkGrows history old new) where
  pub opened_grown : (os : List Opened) → All (IsOpenedIn history old) os → All (IsOpenedIn history new) os
  opened_grown os h = λ k d below. record { call = term_grown history old new (get_or os k d).call stands grows (h k d below).call; body = term_grown history old new (get_or os k d).body stands grows (h k d below).body }

  pub terms_grown : (ts : List TermId) → All (IsTermIn history old) ts → All (IsTermIn history new) ts
  terms_grown ts h = λ k d below. term_grown history old new (get_or ts k d) stands grows (h k d below)

  pub name_grown : (t : TermId) (x : Sym) → IsNameOf history old t x → IsNameOf history new t x
  name_grown t x h =
      record {
        term = term_grown history old new t stands grows h.term;
        named = IsNamed-grown old.bank new.bank x grows.bank h.named;
        names = same_term_grown history old new t grows h.term ∙ h.names ∙ ap Variable (sym (text_at-grown old.bank new.bank x grows.bank h.named));
      }

  pub sized_grown : (v : Option SizedVariable) → IfSome v (IsSizedIn history old) → IfSome v (IsSizedIn history new)
  sized_grown None h = tt
  sized_grown (Some v) h = name_grown v.variable v.name h

  pub ordinal_grown : (f : Fact) → IsOrdinalIn history old f → IsOrdinalIn history new f
  ordinal_grown f h =
      record {
        term = term_grown history old new f.term stands grows h.term;
        line = subst (λ (t : Term). LineHasOnly new f.line (call1 "ORDINALP" t ∷ [])) (sym (same_term_grown history old new f.term grows h.term)) (only_grown history old new f.line _ stands grows h.line);
      }

  pub ready_grown : IsReady (events_at old.bank history) → IsReady (events_at new.bank history)
  ready_grown ready = subst (λ (h : History). IsReady h) (sym (events_at-grown old.bank new.bank grows.bank history stands.history.entries)) ready

  pub basis_grown : (b : Basis) → IsBasisIn history old b → IsBasisIn history new b
  basis_grown b h =
      let kept : IsOrdinalIn history new (record { term = b.measure; line = b.ordinal }) = ordinal_grown (record { term = b.measure; line = b.ordinal }) (record { term = h.measure; line = h.ordinal }) in
      record {
        opened = opened_grown b.opened.items h.opened;
        sized = sized_grown b.sized h.sized;
        measure = kept.term;
        ordinal = kept.line;
        shown = shown_truth_grown history old new stands grows b.shown h.shown;
        ready = ready_grown h.ready;
        own = own_terms_grown history old new grows stands h.own;
      }

  pub start_grown : (s : InductionStep) → IsStartIn history old s → IsStartIn history new s
  start_grown s h = record { line = line_grown history old new s.line stands grows h.line; pairs = pairs_in_grown history old new s.pairs.items stands grows h.pairs }

  pub starts_grown : (ss : List InductionStep) → All (IsStartIn history old) ss → All (IsStartIn history new) ss
  starts_grown ss h = λ k d below. start_grown (get_or ss k d) (h k d below)

  pub steps_grown : (measure test : TermId) (ss : List InductionStep) → IsTermIn history old measure → IsTermIn history old test → All (IsStepIn history old measure test) ss → All (IsStepIn history new measure test) ss
  steps_grown measure test ss m q h = λ k d below. step_grown history old new stands grows measure test (get_or ss k d) m q (h k d below)

  pub cases_grown : (measure : TermId) (cs : List Case) → IsTermIn history old measure → All (IsCaseIn history old measure) cs → All (IsCaseIn history new measure) cs
  cases_grown measure cs m h = λ k d below. case_grown history old new stands grows measure (get_or cs k d) m (h k d below)

  pub goals_grown : (gs : List (Vec TermId Global)) → AreGoalsIn history old gs → AreGoalsIn history new gs
  goals_grown gs h = λ k d below. terms_grown (get_or gs k d).items (h k d below)

-- nothing yet, and one of a list
pub none_all : {X : Type 0} (P : X → Type 0) (xs : List X) → xs ≡ [] → All P xs
none_all P xs is = subst (All P) (sym is) (λ k d below. absurd (omega (arith, below)))

pub item_all : {X : Type 0} (P : X → Type 0) (xs : List X) (i : ℕ) (x : X) → All P xs → i < length xs → x ≡ get_or xs i x → P x
item_all P xs i x all below is = subst P (sym is) (all i x below)

pub one_all : {X : Type 0} (P : X → Type 0) (x : X) → P x → All P (x ∷ [])
one_all P x h = All-push P [] x (none_all P [] refl) h
