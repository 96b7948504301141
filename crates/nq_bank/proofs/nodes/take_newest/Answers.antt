use Rattle.std.proofs.Common.{◌≡◌, ℕ, ◌+◌, ◌-◌, ◌∙◌, List, length, set, ap, arith}
use Rattle.nq_table.specs.Tables.{taken_out, place_from}
use Rattle.nq_bank.specs.Entries.{Stored, entry_at}
use Rattle.nq_bank.specs.Hashes.{hash_of, hash_of_entry}
use Rattle.nq_bank.proofs.Hashing.{fewer_tagged}
use Rattle.nq_bank.proofs.nodes.take_newest.Goals as goal

pub returns-clause-table : goal.returns-clause-table
returns-clause-table c =
    let es : List Stored = c.args.pages.now in
    let places : List ℕ = c.args.places.now in
    let tags : List ℕ = c.args.tags.now in
    let k : ℕ = length es - 1 in
    let hash : ℕ = hash_of_entry (entry_at es k) in
    let last : c.len-id.result - 1 ≡ k = ap (λ n. n - 1) c.len-id.ensures in
    let is : c.hash_of-hash.result ≡ hash = c.hash_of-hash.ensures ∙ ap (λ n. hash_of n c.args-2.result.now) c.node.ensures ∙ ap (hash_of (entry_at es (c.len-id.result - 1)).node) c.args-2.ensures ∙ ap (λ n. hash_of_entry (entry_at es n)) last in
    let out : c.take_tagged.new.places ≡ taken_out places hash k = c.take_tagged.ensures.places ∙ ap (λ h. taken_out places h (c.len-id.result - 1)) is ∙ ap (taken_out places hash) last in
    let bare : c.take_tagged.new.tags ≡ set tags (place_from places (k + 1) hash) 0 = c.take_tagged.ensures.tags ∙ ap (λ h. set tags (place_from places (c.len-id.result - 1 + 1) h) 0) is ∙ ap (λ n. set tags (place_from places (n + 1) hash) 0) last in
    rw (out, bare, c.pop.ensures) (fewer_tagged es places tags k c.requires.table (omega (arith, c.requires.some)))
