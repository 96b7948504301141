use Rattle.std.proofs.Common.{◌≡◌, ℕ, ◌-◌, ◌<◌, ◌∙◌, List, length, take, ap, sym, arith}
use Rattle.nq_bank.specs.declared.node.TermId.{TermId}
use Rattle.nq_bank.specs.declared.record.Record.{Record}
use Rattle.nq_bank.specs.Entries.{start_at}
use Rattle.nq_bank.proofs.PageLemmas.{below, cut, length-entries}
use Rattle.nq_bank.proofs.page.Page.pop.Goals as goal

pub overflow_sub-last : goal.overflow_sub-last
overflow_sub-last c = let some = below c.self.inside.words.items c.self.inside.records.items c.args.self.now 0 c.self.view_is c.requires in omega (arith, some, c.len-last.ensures, c.self.inside.records.ok.0)

pub start_of-start-requires : goal.start_of-start-requires
start_of-start-requires c =
    let some = below c.self.inside.words.items c.self.inside.records.items c.args.self.now 0 c.self.view_is c.requires in
    omega (arith, some, c.len-last.ensures, c.self.inside.records.ok.0, ap length c.deref.ensures.value)

pub invariant_of-self : goal.invariant_of-self
invariant_of-self c =
    let rs : List Record = c.self.inside.records.items in
    let ids : List TermId = c.self.inside.words.items in
    let last : ℕ = c.len-last.result - 1 in
    let some = below ids rs c.args.self.now 0 c.self.view_is c.requires in
    let less : last < length rs = omega (arith, some, c.len-last.ensures, c.self.inside.records.ok.0) in
    let start : c.start_of-start.result ≡ start_at rs last = c.start_of-start.ensures ∙ ap (λ xs. start_at xs last) c.deref.ensures.value in
    rw (c.truncate-2.ensures.items, c.truncate.ensures.items, start) (cut ids rs last c.args.self.now c.self.view_is c.self.invariant less).laid

pub returns : goal.returns
returns c =
    let rs : List Record = c.self.inside.records.items in
    let ids : List TermId = c.self.inside.words.items in
    let last : ℕ = c.len-last.result - 1 in
    let some = below ids rs c.args.self.now 0 c.self.view_is c.requires in
    let less : last < length rs = omega (arith, some, c.len-last.ensures, c.self.inside.records.ok.0) in
    let start : c.start_of-start.result ≡ start_at rs last = c.start_of-start.ensures ∙ ap (λ xs. start_at xs last) c.deref.ensures.value in
    let count : length c.args.self.now ≡ length rs = ap length (sym c.self.view_is) ∙ length-entries ids 0 rs in
    let one : last ≡ length c.args.self.now - 1 = omega (arith, count, c.len-last.ensures, c.self.inside.records.ok.0) in
    rw (c.truncate-2.ensures.items, c.truncate.ensures.items, start) ((cut ids rs last c.args.self.now c.self.view_is c.self.invariant less).view ∙ ap (λ n. take n c.args.self.now) one)
