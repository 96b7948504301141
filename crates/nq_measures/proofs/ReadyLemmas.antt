-- Ready histories as a search goes on.
use Rattle.std.proofs.Common.{List, [], ◌∷◌, ◌++◌, sym, subst, append_assoc, append-nil}
use Rattle.nq_logic.specs.Histories.{History, Event, AddShell}
use Rattle.nq_bank.specs.Content.{Content, Grows}
use Rattle.nq_proof.specs.Closed.{MeetsShellPrinciple}
use Rattle.nq_log.specs.Laws.{EventHolds, HoldFrom}
use Rattle.nq_history.specs.declared.entry.Entry.{Entry}
use Rattle.nq_history.specs.Events.{events_at, HistoryStands}
use Rattle.nq_history.proofs.HistoryLemmas.{events_at-grown}
use Rattle.nq_kernel.specs.declared.work.Work.{Work}
use Rattle.nq_kernel.specs.Growing.{WorkGrows}
use Rattle.nq_kernel.specs.Ready.{IsReady}
use Rattle.nq_kernel.specs.ReadyLaws.{GrownWorkHolds}
use Rattle.nq_kernel.proofs.ReadyLemmas.{ready_sound}
use Rattle.nq_measures.specs.Trials.{IsSearching}

hold_at : (b before after : History) (e : Event) → HoldFrom b (before ++ (e ∷ after)) → EventHolds (b ++ before) e
hold_at b [] after e w = subst (λ k. EventHolds k e) (sym (append-nil b)) w.0
hold_at b (x ∷ before) after e w = subst (λ k. EventHolds k e) (append_assoc b (x ∷ []) before) (hold_at (b ++ (x ∷ [])) before after e w.1)

-- the shells of a ready history were accepted
pub shells_accepted : (h : History) → IsReady h → MeetsShellPrinciple h
shells_accepted h ready before after s e = hold_at [] before after (AddShell s) (subst (HoldFrom []) e (ready_sound h ready))

pub ready_on : (history : List Entry) (old new : Content) → HistoryStands old history → Grows old new → IsReady (events_at old history) → IsReady (events_at new history)
ready_on history old new stands grows ready = subst (λ (h : History). IsReady h) (sym (events_at-grown old new grows history stands.entries)) ready

-- a search goes on as the work grows
pub searching_on : (L M : List Entry → Type 0) (history : List Entry) (old new : Work) → GrownWorkHolds → IsSearching L history old → M history → WorkGrows history old new → IsSearching M history new
searching_on L M history old new law s learnt grows =
    record { stands = grows.stands; learnt = learnt; ready = ready_on history old.bank new.bank s.stands.history grows.bank s.ready; holds = law history old new s.stands s.ready s.holds grows }
