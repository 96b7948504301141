-- What instances are instances of, and whether they pass the limits.
use Rattle.std.proofs.Common.{◌≡◌, ℕ, suc, ◌+◌, ◌<◌, Bool, true, false, List, [], ◌∷◌, length, get_or, drop, map, sym, ap, ◌∙◌, subst, drop-cons, add-one}
use Rattle.std.specs.Prelude.{All, Option, Some, nat_eq, if◌then◌else◌}
use Rattle.nq_logic.specs.Histories.{History}
use Rattle.nq_language.specs.Refusals as language
use Rattle.nq_bank.specs.declared.node.Sym.{Sym}
use Rattle.nq_bank.specs.Content.{Content}
use Rattle.nq_bank.proofs.NodesLemmas.{All-head, All-tail}
use Rattle.nq_history.specs.declared.entry.Entry.{Entry}
use Rattle.nq_history.specs.Events.{EntryStands}
use Rattle.nq_history.specs.Lookups.{entry_named}
use Rattle.nq_events.specs.Refusals.{Refusal, OfLanguage}
use Rattle.nq_events.specs.HintRefusals.{instance_term, instances_refusal, is_large_instance}
use Rattle.nq_history.specs.declared.hints.Instance.{Instance}
use Rattle.nq_event.specs.EventsAt.{instance_at}

-- an entry that is found stands
found_stands : (bank : Content) (b : Bool) (e f : Entry) (rest : Option Entry) → EntryStands bank f → (Some e ≡ rest → EntryStands bank e) → Some e ≡ (if b then Some f else rest) → EntryStands bank e
found_stands bank true e f rest h more is = let same : f ≡ e = cc in subst (EntryStands bank) same h
found_stands bank false e f rest h more is = more is

pub entry_stands : (bank : Content) (name : Sym) (entries : List Entry) (e : Entry) → All (EntryStands bank) entries → Some e ≡ entry_named name entries → EntryStands bank e
entry_stands bank name [] e h is = absurd (cc)
entry_stands bank name (f ∷ entries) e h is =
    found_stands bank (nat_eq name.0 f.name.0) e f (entry_named name entries) (All-head (EntryStands bank) f entries h) (entry_stands bank name entries e (All-tail (EntryStands bank) f entries h)) is

-- the instance at a place
module _ (h : History) (bank : Content) (instances : List Instance) (i : ℕ) (item : Instance) (lt : i < length instances) (is : item ≡ get_or instances i item) where
  abbrev from_place : ℕ → Option Refusal
  from_place n = instances_refusal h (map (instance_at bank) (drop n instances))

  abbrev chosen : Bool → Option Refusal
  chosen b = if b then Some (OfLanguage language.TooLarge) else from_place (i + 1)

  pub instance_here : (b : Bool) → b ≡ is_large_instance (instance_term h (instance_at bank item)) → from_place i ≡ chosen b
  instance_here b e =
      ap (λ xs. instances_refusal h (map (instance_at bank) xs)) (drop-cons instances i item lt) ∙
      ap (λ x. instances_refusal h (instance_at bank x ∷ map (instance_at bank) (drop (suc i) instances))) (sym is) ∙
      ap (λ n. instances_refusal h (instance_at bank item ∷ map (instance_at bank) (drop n instances))) (sym (add-one i)) ∙ ap chosen (sym e)
