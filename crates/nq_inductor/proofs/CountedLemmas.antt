-- Work whose bank grew, and in which steps were counted.
use Rattle.std.proofs.Common.{◌≡◌, List, [], ◌∷◌, Option, Some, None, sym, subst}
use Rattle.std.specs.Prelude.{All, IfSome}
use Rattle.nq_logic.specs.Terms.{Term}
use Rattle.nq_logic.specs.Histories.{History}
use Rattle.nq_bank.specs.declared.node.TermId.{TermId}
use Rattle.nq_bank.specs.Content.{Content, Grows, Stands, term_at, terms_at}
use Rattle.nq_bank.proofs.Growth.{term_at-grown, terms_at-grown}
use Rattle.nq_steps.proofs.NameLemmas.{no_names}
use Rattle.nq_history.specs.declared.entry.Entry.{Entry}
use Rattle.nq_history.specs.Events.{events_at}
use Rattle.nq_history.proofs.HistoryLemmas.{events_at-grown}
use Rattle.nq_kernel.specs.declared.work.Work.{Work}
use Rattle.nq_kernel.specs.Growing.{CountsUp, WorkGrows, WorkStands}
use Rattle.nq_kernel.proofs.GrowingLemmas.{bank_grows}
use Rattle.nq_lines.specs.Lines.{IsTermIn}
use Rattle.nq_waterfall.specs.Ready.{IsGoalIn}
use Rattle.nq_tracer.specs.declared.nexts.Nexts.{Nexts}
use Rattle.nq_tracer.specs.Leads.{IsInductionBy}

pub literals_stand : (history : List Entry) (work : Work) (goal : List TermId) → IsGoalIn history work goal → All (Stands work.bank) goal
literals_stand history work goal k = λ i d below. (k i d below).stands

module _ (history : List Entry) (old : Work) (bank : Content) (later : Work) (stands : WorkStands history old) (grows : Grows old.bank bank) (same : later ≡ record { bank = bank; log = old.log; counter = later.counter; known = old.known }) where
  pub counted_grows : bank.names ≡ old.bank.names → CountsUp old.counter later.counter → WorkGrows history old later
  counted_grows names up = subst (WorkGrows history old) (sym same) (bank_grows history old bank later.counter stands grows (no_names old.bank bank names) up)

  module _ (goal : List TermId) (goal_in : IsGoalIn history old goal) where
    -- an induction that was found before is one still
    by_later : (calls : List Term) (n : Nexts) → IsInductionBy (events_at old.bank history) calls (terms_at old.bank goal) (term_at bank n.base) (term_at bank n.step) → IsInductionBy (events_at later.bank history) calls (terms_at later.bank goal) (term_at later.bank n.base) (term_at later.bank n.step)
    by_later calls n i =
        subst (λ (w : Work). IsInductionBy (events_at w.bank history) calls (terms_at w.bank goal) (term_at w.bank n.base) (term_at w.bank n.step)) (sym same)
        (subst (λ (es : History). IsInductionBy es calls (terms_at bank goal) (term_at bank n.base) (term_at bank n.step)) (sym (events_at-grown old.bank bank grows history stands.history.entries))
        (subst (λ (ts : List Term). IsInductionBy (events_at old.bank history) calls ts (term_at bank n.base) (term_at bank n.step)) (sym (terms_at-grown old.bank bank goal grows (literals_stand history old goal goal_in))) i))

    pub call_later : (call : TermId) (found : Option Nexts) → IsTermIn history old call → IfSome found (λ n. IsInductionBy (events_at old.bank history) (term_at old.bank call ∷ []) (terms_at old.bank goal) (term_at bank n.base) (term_at bank n.step))
        → IfSome found (λ n. IsInductionBy (events_at later.bank history) (term_at later.bank call ∷ []) (terms_at later.bank goal) (term_at later.bank n.base) (term_at later.bank n.step))
    call_later call None call_in k = tt
    call_later call (Some n) call_in k =
        subst (λ (w : Work). IsInductionBy (events_at later.bank history) (term_at w.bank call ∷ []) (terms_at later.bank goal) (term_at later.bank n.base) (term_at later.bank n.step)) (sym same)
        (subst (λ (u : Term). IsInductionBy (events_at later.bank history) (u ∷ []) (terms_at later.bank goal) (term_at later.bank n.base) (term_at later.bank n.step)) (sym (term_at-grown old.bank bank call grows call_in.stands)) (by_later (term_at old.bank call ∷ []) n k))
