use Rattle.std.proofs.Common.{◌≡◌, ◌∙◌, Some, List, sym, ap, subst}
use Rattle.std.specs.Prelude.{option_copied}
use Rattle.nq_bank.specs.declared.node.Sym.{Sym}
use Rattle.nq_bank.specs.Content.{Content}
use Rattle.nq_history.specs.declared.entry.Entry.{Entry}
use Rattle.nq_history.specs.Events.{events_at, EntryStands}
use Rattle.nq_eval.specs.Opened.{IsDefinedBy}
use Rattle.nq_eval.proofs.FormalsLemmas.{named_entry, defined}
use Rattle.nq_eval.proofs.openings.formals_of.Goals as goal

pub returns-in-Defn : goal.returns-in-Defn
returns-in-Defn c =
    let bank : Content = c.args.bank.now in
    let history : List Entry = c.args.history.now in
    let f : Sym = c.args.f in
    let e : Entry = c.in_ok-e.e.now in
    let found : option_copied c.lookup.result ≡ Some e = ap option_copied c.in_ok-e.was in
    let stands : EntryStands bank e = named_entry (EntryStands bank) f history e c.requires.history.entries (sym c.lookup.ensures.entry ∙ found) in
    subst (λ (xs : List Sym). IsDefinedBy bank (events_at bank history) f xs) (sym c.as_slice.ensures.value)
    (defined bank history f (option_copied c.lookup.result) e (c.lookup.ensures.event bank c.is_sound.ensures c.requires.history c.requires.name) found c.in-Defn.formals c.in-Defn.field-1 c.in-Defn.field-2 c.in-Defn.is stands)
