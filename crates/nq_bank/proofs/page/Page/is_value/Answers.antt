use Rattle.std.proofs.Common.{◌∙◌, List, get_or, ap, sym}
use Rattle.nq_bank.specs.declared.record.Record.{Record}
use Rattle.nq_bank.specs.Entries.{Stored, no_record}
use Rattle.nq_bank.proofs.PageLemmas.{below, reads}
use Rattle.nq_bank.proofs.page.Page.is_value.Goals as goal

pub record_at-requires : goal.record_at-requires
record_at-requires c = rw c.deref.ensures.value (below c.self.inside.words.items c.self.inside.records.items c.args.self.now c.args.i c.self.view_is c.requires)

pub returns : goal.returns
returns c =
    let rs : List Record = c.self.inside.records.items in
    ap (λ (r : Record). r.value) (c.record_at.ensures ∙ ap (λ xs. get_or xs c.args.i no_record) c.deref.ensures.value) ∙ sym (ap (λ (e : Stored). e.value) (reads c.self.inside.words.items rs c.args.self.now c.args.i c.self.view_is c.requires))
