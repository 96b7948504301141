use Rattle.std.proofs.Common.{◌≡◌, ℕ, ◌+◌, ◌∙◌, List, length, set, ap}
use Rattle.nq_table.specs.Tables.{place_from, tag}
use Rattle.nq_bank.specs.Entries.{Stored, stored}
use Rattle.nq_bank.specs.Hashes.{hash_of_entry}
use Rattle.nq_bank.proofs.Hashing.{more_tagged}
use Rattle.nq_bank.proofs.nodes.push_in.Goals as goal

pub returns-clause-table : goal.returns-clause-table
returns-clause-table c =
    let es : List Stored = c.args.pages.now in
    let places : List ℕ = c.args.places.now in
    let tags : List ℕ = c.args.tags.now in
    let e : Stored = stored c.args.node c.args.arguments.now c.args.kept in
    let hash : ℕ = hash_of_entry e in
    let new : c.put_tagged.new.places ≡ set places (place_from tags 0 hash) (length es + 1) = c.put_tagged.ensures.places ∙ ap (λ h. set places (place_from tags 0 h) (c.len-id.result + 1)) c.hash_of-hash.ensures ∙ ap (λ n. set places (place_from tags 0 hash) (n + 1)) c.len-id.ensures in
    let marks : c.put_tagged.new.tags ≡ set tags (place_from tags 0 hash) (tag hash) = c.put_tagged.ensures.tags ∙ ap (λ h. set tags (place_from tags 0 h) (tag h)) c.hash_of-hash.ensures in
    rw (new, marks, c.in_ok-push.ensures) (more_tagged es e places tags c.requires.table c.requires.room)
