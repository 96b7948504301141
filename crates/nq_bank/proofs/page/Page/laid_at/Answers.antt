use Rattle.std.proofs.Common.{◌≡◌, ◌∙◌, List, length, get_or, ap, sym, arith}
use Rattle.nq_bank.specs.declared.node.TermId.{TermId}
use Rattle.nq_bank.specs.declared.record.Record.{Record}
use Rattle.nq_bank.specs.Entries.{part, no_record, start_at, entry_with, entry_of}
use Rattle.nq_bank.proofs.PageLemmas.{below, reads, lies}
use Rattle.nq_bank.proofs.page.Page.laid_at.Goals as goal

pub start_of-start-requires : goal.start_of-start-requires
start_of-start-requires c = rw c.deref.ensures.value (below c.self.inside.words.items c.self.inside.records.items c.args.self.now c.args.i c.self.view_is c.requires)

pub record_at-record-requires : goal.record_at-record-requires
record_at-record-requires c = rw c.deref-2.ensures.value (below c.self.inside.words.items c.self.inside.records.items c.args.self.now c.args.i c.self.view_is c.requires)

pub part-requires-clause-forward : goal.part-requires-clause-forward
part-requires-clause-forward c =
    let rs : List Record = c.self.inside.records.items in
    let ids : List TermId = c.self.inside.words.items in
    let start : c.start_of-start.result ≡ start_at rs c.args.i = c.start_of-start.ensures ∙ ap (λ xs. start_at xs c.args.i) c.deref.ensures.value in
    let end : c.record_at-record.result.end ≡ (get_or rs c.args.i no_record).end = ap (λ (r : Record). r.end) (c.record_at-record.ensures ∙ ap (λ xs. get_or xs c.args.i no_record) c.deref-2.ensures.value) in
    let within = lies ids rs c.args.i c.self.invariant (below ids rs c.args.self.now c.args.i c.self.view_is c.requires) in
    omega (arith, start, end, within.forward)

pub part-requires-clause-within : goal.part-requires-clause-within
part-requires-clause-within c =
    let rs : List Record = c.self.inside.records.items in
    let ids : List TermId = c.self.inside.words.items in
    let end : c.record_at-record.result.end ≡ (get_or rs c.args.i no_record).end = ap (λ (r : Record). r.end) (c.record_at-record.ensures ∙ ap (λ xs. get_or xs c.args.i no_record) c.deref-2.ensures.value) in
    let within = lies ids rs c.args.i c.self.invariant (below ids rs c.args.self.now c.args.i c.self.view_is c.requires) in
    omega (arith, end, within.within, ap length c.deref-3.ensures.value)

pub returns : goal.returns
returns c =
    let rs : List Record = c.self.inside.records.items in
    let ids : List TermId = c.self.inside.words.items in
    let start : c.start_of-start.result ≡ start_at rs c.args.i = c.start_of-start.ensures ∙ ap (λ xs. start_at xs c.args.i) c.deref.ensures.value in
    ap (entry_with c.record_at-record.result) (c.part.ensures
    ∙ ap (λ xs. part xs c.start_of-start.result c.record_at-record.result.end) c.deref-3.ensures.value
    ∙ ap (λ n. part ids n c.record_at-record.result.end) start)
    ∙ ap (entry_of ids (start_at rs c.args.i)) (c.record_at-record.ensures ∙ ap (λ xs. get_or xs c.args.i no_record) c.deref-2.ensures.value)
    ∙ sym (reads ids rs c.args.self.now c.args.i c.self.view_is c.requires)
