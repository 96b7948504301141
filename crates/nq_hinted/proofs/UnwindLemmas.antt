-- The line of a first goal, and of its lemma.
use Rattle.std.proofs.Common.{◌≡◌, ◌∙◌, ℕ, List, [], ◌∷◌, map, refl, sym, ap, subst, inl, inr}
use Rattle.std.specs.Prelude.{All}
use Rattle.nq_logic.specs.Terms.{Term, IsAmong}
use Rattle.nq_logic.specs.Histories.{History}
use Rattle.nq_bank.specs.Content.{Content, Grows}
use Rattle.nq_history.specs.declared.entry.Entry.{Entry}
use Rattle.nq_history.specs.declared.hints.Instance.{Instance}
use Rattle.nq_history.specs.Events.{events_at}
use Rattle.nq_history.specs.Hints.{InstanceStands}
use Rattle.nq_history.proofs.HistoryLemmas.{events_at-grown}
use Rattle.nq_events.specs.Events as model
use Rattle.nq_event.specs.EventsAt.{instance_at}
use Rattle.nq_event.proofs.GrownLemmas.{instances_stay, map_grown}
use Rattle.nq_goals.specs.Hints.{denied_instances}
use Rattle.nq_proof.specs.Clauses.{Clause}
use Rattle.nq_kernel.specs.declared.work.Work.{Work}
use Rattle.nq_kernel.specs.Counting.{Counting}
use Rattle.nq_kernel.specs.Growing.{CountsUp, WorkStands, WorkGrows}
use Rattle.nq_kernel.proofs.GrowingLemmas.{bank_grows, uncounted}
use Rattle.nq_steps.proofs.NameLemmas.{no_names}
use Rattle.nq_eval.specs.Lines.{GrowsUncounted}
use Rattle.nq_lines.specs.Lines.{AreAmong, LineHasOnly}
use Rattle.nq_lines.proofs.LineLemmas.{from_distinct, only_more}
use Rattle.nq_hinted.specs.Nests.{OpensTo, nest}
use Rattle.nq_hinted.specs.Answers.{UnwindsTo}

first_among : (u : Term) (these : List Term) → AreAmong (u ∷ []) (u ∷ these)
first_among u these v (inl e) = inl e
first_among u these v (inr m) = absurd m

-- what is cut away in grown work is what the hints say in the work before
pub denied_same : (history : List Entry) (w0 w1 : Work) (instances : List Instance) (these : List Term) → WorkStands history w0 → WorkGrows history w0 w1 → All (InstanceStands w0.bank) instances →
    denied_instances (events_at w1.bank history) (map (instance_at w1.bank) instances) these ≡ denied_instances (events_at w0.bank history) (map (instance_at w0.bank) instances) these
denied_same history w0 w1 instances these stands grows all =
    ap (λ (h : History). denied_instances h (map (instance_at w1.bank) instances) these) (events_at-grown w0.bank w1.bank grows.bank history stands.history.entries)
    ∙ ap (λ (is : List model.Instance). denied_instances (events_at w0.bank history) is these) (map_grown InstanceStands instance_at instances_stay w0.bank w1.bank grows.bank instances all)

-- a nest that is taken apart, and then cut
pub unwound : (history : List Entry) (w0 w1 w2 : Work) (instances : List Instance) (first whole : Term) (rest : List Term) (line opened n : ℕ) → WorkStands history w0 → WorkGrows history w0 w1 → All (InstanceStands w0.bank) instances →
    whole ≡ nest first rest → LineHasOnly w0 line (whole ∷ []) → OpensTo w0 w1 first rest line opened →
    ((these : List Term) → LineHasOnly w1 opened (denied_instances (events_at w1.bank history) (map (instance_at w1.bank) instances) these) → LineHasOnly w2 n these) →
    UnwindsTo w2 (denied_instances (events_at w0.bank history) (map (instance_at w0.bank) instances)) (first ∷ rest) n
unwound history w0 w1 w2 instances first whole rest line opened n stands grows stand is holds opens cuts lemma goal =
    let all : Clause = denied_instances (events_at w0.bank history) (map (instance_at w0.bank) instances) (lemma ∷ []) in
    let among : AreAmong (first ∷ rest) all = λ t m. from_distinct t all (subst (IsAmong t) goal m) in
    let here : LineHasOnly w0 line (nest first rest ∷ all) = subst (λ (u : Term). LineHasOnly w0 line (u ∷ all)) is (only_more w0 line (whole ∷ []) (whole ∷ all) (first_among whole all) holds) in
    cuts (lemma ∷ []) (subst (LineHasOnly w1 opened) (sym (denied_same history w0 w1 instances (lemma ∷ []) stands grows stand)) (opens all among here))

-- the work with another counter
abbrev pub counted_by : Counting → Work → Work
counted_by counter work = record work { counter = counter }

stands_counted : (history : List Entry) (work : Work) (counter : Counting) → WorkStands history work → WorkStands history (counted_by counter work)
stands_counted history work counter stands = record { log = stands.log; history = stands.history; known = stands.known }

-- what grew while it was counted by another counter, and has its own again
pub grown_counted : (history : List Entry) (w0 w1 : Work) (long counter : Counting) → WorkGrows history (counted_by long w0) w1 → counter ≡ w0.counter → GrowsUncounted history w0 (counted_by counter w1)
grown_counted history w0 w1 long counter g is = record {
  grows = record { bank = g.bank; names = g.names; log = g.log; rules = g.rules; counter = subst (CountsUp w0.counter) (sym is) (uncounted w0.counter); known = g.known; stands = stands_counted history w1 counter g.stands };
  uncounted = is;
}

-- the work with a bank that grew
abbrev pub with_bank : Content → Work → Work
with_bank bank work = record work { bank = bank }

pub grows_bank : (history : List Entry) (w0 : Work) (bank : Content) → WorkStands history w0 → Grows w0.bank bank → bank.names ≡ w0.bank.names → GrowsUncounted history w0 (with_bank bank w0)
grows_bank history w0 bank stands grows same = record { grows = bank_grows history w0 bank w0.counter stands grows (no_names w0.bank bank same) (uncounted w0.counter); uncounted = refl }
