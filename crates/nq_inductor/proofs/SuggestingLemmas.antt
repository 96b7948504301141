-- Calls of a goal by which an induction may go.
use Rattle.std.proofs.Common.{◌≡◌, ◌<◌, Bool, true, false, ℕ, zero, suc, List, [], ◌∷◌, ◌++◌, length, get_or, refl, sym, subst, inl, inr, arith}
use Rattle.std.specs.Prelude.{All, if◌then◌else◌}
use Rattle.std.proofs.lemmas.List.Elements.{All-append, All-push, All-weaker}
use Rattle.nq_logic.specs.Terms.{Term, IsAmong, Each}
use Rattle.nq_logic.specs.Histories.{History}
use Rattle.nq_logic.specs.Laws.{InductionCase}
use Rattle.nq_logic.proofs.Lists.{among_left, among_right}
use Rattle.nq_bank.specs.declared.node.TermId.{TermId}
use Rattle.nq_bank.specs.Content.{Content, term_at, terms_at}
use Rattle.nq_bank.specs.Parts.{parts_of}
use Rattle.nq_bank.proofs.Growth.{term_at-grown, terms_at-grown}
use Rattle.nq_history.specs.declared.entry.Entry.{Entry}
use Rattle.nq_history.specs.Events.{events_at}
use Rattle.nq_history.proofs.HistoryLemmas.{events_at-grown}
use Rattle.nq_events.specs.Inductions.{suggests_induction}
use Rattle.nq_goals.specs.Inducting.{IsCase, IsScheme, suggesting_among, suggesting_in}
use Rattle.nq_goals.specs.Replacing.{parts_in, parts_in_all}
use Rattle.nq_kernel.specs.declared.work.Work.{Work}
use Rattle.nq_kernel.specs.Growing.{WorkGrows, WorkStands}
use Rattle.nq_lines.proofs.TermLemmas.{term_grown}
use Rattle.nq_waterfall.specs.Ready.{IsGoalIn}
use Rattle.nq_tracer.proofs.FoundLemmas.{part_found}
use Rattle.nq_legal.specs.Inducting.{IsInductionBy}
use Rattle.nq_inductor.specs.Suggesting.{IsSuggestingCall, IsSuggestingPart}
use Rattle.nq_inductor.proofs.CountedLemmas.{literals_stand}

-- ---- where they stand

-- the calls within an argument are calls within the term
pub inner_calls : (history : List Entry) (work : Work) (t : TermId) (ids : List TermId) (i : ℕ) (d : TermId) (before inner after : List TermId) → i < length ids → terms_at work.bank ids ≡ parts_of (term_at work.bank t) → after ≡ before ++ inner
    → All (IsSuggestingPart history work t) before → All (IsSuggestingPart history work (get_or ids i d)) inner → All (IsSuggestingPart history work t) after
inner_calls history work t ids i d before inner after below parts whole these those =
    let lift : (u : TermId) → IsSuggestingPart history work (get_or ids i d) u → IsSuggestingPart history work t u =
    λ u k. record { here = k.here; part = part_found work.bank t ids i d u below parts k.part; suggests = k.suggests } in
    subst (All (IsSuggestingPart history work t)) (sym whole)
    (All-append (IsSuggestingPart history work t) before inner these (All-weaker (IsSuggestingPart history work (get_or ids i d)) (IsSuggestingPart history work t) lift inner those))

-- and so is the term, where it suggests one
pub own_too : (history : List Entry) (work : Work) (t : TermId) (before after : List TermId) (here : Bool) → after ≡ (if here then before ++ t ∷ [] else before) → (here ≡ true → IsSuggestingPart history work t t)
    → All (IsSuggestingPart history work t) before → All (IsSuggestingPart history work t) after
own_too history work t before after true is told these = subst (All (IsSuggestingPart history work t)) (sym is) (All-push (IsSuggestingPart history work t) before t these (told refl))
own_too history work t before after false is told these = subst (All (IsSuggestingPart history work t)) (sym is) these

suggesting_found : (h : History) (t : Term) (ts : List Term) → IsAmong t ts → suggests_induction h t ≡ true → IsAmong t (suggesting_among h ts)
suggesting_found h t [] m e = absurd m
suggesting_found h t (u ∷ ts) (inl same) e = subst (λ (b : Bool). IsAmong t (if b then u ∷ suggesting_among h ts else suggesting_among h ts)) (sym (subst (λ (z : Term). suggests_induction h z ≡ true) same e)) (inl same)
suggesting_found h t (u ∷ ts) (inr m) e = by_test (suggests_induction h u) (suggesting_found h t ts m e)
  where
    by_test : (b : Bool) → IsAmong t (suggesting_among h ts) → IsAmong t (if b then u ∷ suggesting_among h ts else suggesting_among h ts)
    by_test true i = inr i
    by_test false i = i

part_in_all : (bank : Content) (ids : List TermId) (i : ℕ) (d : TermId) (u : Term) → i < length ids → IsAmong u (parts_in (term_at bank (get_or ids i d))) → IsAmong u (parts_in_all (terms_at bank ids))
part_in_all bank [] i d u below m = absurd (omega (arith, below))
part_in_all bank (x ∷ ids) zero d u below m = among_left u (parts_in (term_at bank x)) (parts_in_all (terms_at bank ids)) m
part_in_all bank (x ∷ ids) (suc i) d u below m = among_right u (parts_in (term_at bank x)) (parts_in_all (terms_at bank ids)) (part_in_all bank ids i d u (omega (arith, below)) m)

-- those within a literal are calls of the goal
pub literal_calls : (history : List Entry) (work : Work) (goal : List TermId) (i : ℕ) (d : TermId) (before inner after : List TermId) → i < length goal → after ≡ before ++ inner
    → All (IsSuggestingCall history work goal) before → All (IsSuggestingPart history work (get_or goal i d)) inner → All (IsSuggestingCall history work goal) after
literal_calls history work goal i d before inner after below whole these those =
    let h : History = events_at work.bank history in
    let lift : (u : TermId) → IsSuggestingPart history work (get_or goal i d) u → IsSuggestingCall history work goal u =
    λ u k. record { here = k.here; among = suggesting_found h (term_at work.bank u) (parts_in_all (terms_at work.bank goal)) (part_in_all work.bank goal i d (term_at work.bank u) below k.part.among) k.suggests } in
    subst (All (IsSuggestingCall history work goal)) (sym whole)
    (All-append (IsSuggestingCall history work goal) before inner these (All-weaker (IsSuggestingPart history work (get_or goal i d)) (IsSuggestingCall history work goal) lift inner those))

-- ---- as the work grows

pub call_grown : (history : List Entry) (old new : Work) (goal : List TermId) → WorkStands history old → WorkGrows history old new → IsGoalIn history old goal → (u : TermId) → IsSuggestingCall history old goal u → IsSuggestingCall history new goal u
call_grown history old new goal stands grows goal_in u k =
    record {
      here = term_grown history old new u stands grows k.here;
      among =
          subst (λ (t : Term). IsAmong t (suggesting_in (events_at new.bank history) (terms_at new.bank goal))) (sym (term_at-grown old.bank new.bank u grows.bank k.here.stands))
          (subst (λ (es : History). IsAmong (term_at old.bank u) (suggesting_in es (terms_at new.bank goal))) (sym (events_at-grown old.bank new.bank grows.bank history stands.history.entries))
          (subst (λ (ts : List Term). IsAmong (term_at old.bank u) (suggesting_in (events_at old.bank history) ts)) (sym (terms_at-grown old.bank new.bank goal grows.bank (literals_stand history old goal goal_in))) k.among));
    }

pub calls_grown : (history : List Entry) (old new : Work) (goal calls : List TermId) → WorkStands history old → WorkGrows history old new → IsGoalIn history old goal → All (IsSuggestingCall history old goal) calls → All (IsSuggestingCall history new goal) calls
calls_grown history old new goal calls stands grows goal_in these = All-weaker (IsSuggestingCall history old goal) (IsSuggestingCall history new goal) (call_grown history old new goal stands grows goal_in) calls these

-- ---- their schemes

case_of_more : (h : History) (c : Term) (calls : List Term) (m : Term) (k : InductionCase) → IsAmong c calls → IsCase h (c ∷ []) m k → IsCase h calls m k
case_of_more h c calls m k in_calls i = record { suggesting = i.suggesting; among = by_place i.among; goes = i.goes; falls = i.falls }
  where
    by_place : IsAmong i.suggesting (c ∷ []) → IsAmong i.suggesting calls
    by_place (inl e) = subst (λ (t : Term). IsAmong t calls) (sym e) in_calls
    by_place (inr n) = absurd n

cases_of_more : (h : History) (c : Term) (calls : List Term) (m : Term) (ks : List InductionCase) → IsAmong c calls → Each (IsCase h (c ∷ []) m) ks → Each (IsCase h calls m) ks
cases_of_more h c calls m [] in_calls e = tt
cases_of_more h c calls m (k ∷ ks) in_calls e = (case_of_more h c calls m k in_calls e.0, cases_of_more h c calls m ks in_calls e.1)

-- an induction by one of some calls is one by these
pub by_one_of : (h : History) (c : Term) (calls goal : List Term) (nexts : List (List Term)) → IsAmong c calls → IsInductionBy h (c ∷ []) goal nexts → IsInductionBy h calls goal nexts
by_one_of h c calls goal nexts in_calls i = record { scheme = i.scheme; suggested = more; next = i.next }
  where
    more : IsScheme h calls i.scheme
    more = record { ordinal = i.suggested.ordinal; some_case = i.suggested.some_case; cases = cases_of_more h c calls i.scheme.measure i.scheme.cases in_calls i.suggested.cases }
