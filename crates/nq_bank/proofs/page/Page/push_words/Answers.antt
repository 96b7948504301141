use Rattle.std.proofs.Common.{◌≡◌, ◌+◌, List, [], ◌∷◌, ◌++◌, length, ap, arith, vec_len, length-append}
use Rattle.nq_bank.specs.declared.node.TermId.{TermId}
use Rattle.nq_bank.specs.declared.record.Record.{Record}
use Rattle.nq_bank.specs.Entries.{record_of}
use Rattle.nq_bank.proofs.PageLemmas.{pushed}
use Rattle.nq_bank.proofs.page.Page.push_words.Goals as goal

pub invariant_of-self-in-Ok : goal.invariant_of-self-in-Ok
invariant_of-self-in-Ok c =
    let rs : List Record = c.self.inside.records.items in
    let ids : List TermId = c.self.inside.words.items in
    let r : Record = record_of c.args.kind c.args.name c.len.result c.args.kept in
    let items : c.extend_from_slice.new.self.items ≡ ids ++ c.args.words.now = c.in_ok-extend_from_slice.ensures.items in
    let records : c.push_record.new.records.items ≡ rs ++ r ∷ [] = c.in-Ok.ensures in
    let count : c.len.result ≡ vec_len c.extend_from_slice.new.self = c.len.ensures in
    let end : c.len.result ≡ length ids + length c.args.words.now = omega (arith, count, c.extend_from_slice.new.self.ok.0, ap length items, length-append ids c.args.words.now) in
    rw (items, records) (pushed ids c.args.words.now rs r c.args.self.now c.self.view_is c.self.invariant end).laid

pub returns-in-Ok : goal.returns-in-Ok
returns-in-Ok c =
    let rs : List Record = c.self.inside.records.items in
    let ids : List TermId = c.self.inside.words.items in
    let r : Record = record_of c.args.kind c.args.name c.len.result c.args.kept in
    let items : c.extend_from_slice.new.self.items ≡ ids ++ c.args.words.now = c.in_ok-extend_from_slice.ensures.items in
    let records : c.push_record.new.records.items ≡ rs ++ r ∷ [] = c.in-Ok.ensures in
    let count : c.len.result ≡ vec_len c.extend_from_slice.new.self = c.len.ensures in
    let end : c.len.result ≡ length ids + length c.args.words.now = omega (arith, count, c.extend_from_slice.new.self.ok.0, ap length items, length-append ids c.args.words.now) in
    rw (items, records) (pushed ids c.args.words.now rs r c.args.self.now c.self.view_is c.self.invariant end).view
