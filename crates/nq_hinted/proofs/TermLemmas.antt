-- The terms of instances are over the history.
use Rattle.std.proofs.Common.{◌≡◌, Option, Some, None, List, sym, subst}
use Rattle.std.specs.Prelude.{IfSome}
use Rattle.std.specs.Option.{option_map}
use Rattle.nq_logic.specs.Histories.{History}
use Rattle.nq_logic.specs.Ground.{symbols_of}
use Rattle.nq_bank.specs.declared.node.TermId.{TermId}
use Rattle.nq_bank.specs.Content.{Content, Grows, Stands, term_at}
use Rattle.nq_history.specs.declared.entry.Entry.{Entry}
use Rattle.nq_history.specs.declared.hints.Instance.{Instance}
use Rattle.nq_history.specs.Events.{events_at}
use Rattle.nq_history.proofs.HistoryLemmas.{events_at-grown}
use Rattle.nq_events.specs.HintRefusals.{instance_term}
use Rattle.nq_event.specs.EventsAt.{instance_at}
use Rattle.nq_kernel.specs.declared.work.Work.{Work}
use Rattle.nq_kernel.specs.Growing.{WorkStands}
use Rattle.nq_kernel.specs.Over.{IsVariable, IsTermOf}
use Rattle.nq_kernel.specs.Ready.{IsReady}
use Rattle.nq_lines.specs.Instances.{ArePairsIn}
use Rattle.nq_lines.specs.Lines.{IsTermIn}
use Rattle.nq_uses.proofs.Overs.{instance_term_over}

module _ (history : List Entry) (work : Work) (bank : Content) (i : Instance) where
  -- the term of an instance is over the history
  pub instance_over : (found : Option TermId) → WorkStands history work → Grows work.bank bank → IsReady (events_at work.bank history) → ArePairsIn history work i.pairs.items →
      option_map (term_at bank) found ≡ instance_term (events_at work.bank history) (instance_at work.bank i) → IfSome found (Stands bank) → IfSome found (IsTermIn history (record work { bank = bank }))
  instance_over None stands grows ready pairs is k = tt
  instance_over (Some t) stands grows ready pairs is k =
      let over : IsTermOf IsVariable (symbols_of (events_at work.bank history)) (term_at bank t) = instance_term_over (events_at work.bank history) ready (instance_at work.bank i) (term_at bank t) pairs.terms (sym is) in
      record { stands = k; over = subst (λ (h : History). IsTermOf IsVariable (symbols_of h) (term_at bank t)) (sym (events_at-grown work.bank bank grows history stands.history.entries)) over }
