use Rattle.std.proofs.Common.{◌≡◌, ℕ, ◌+◌, ◌∙◌, List, get_or, set, ap, sym}
use Rattle.nq_table.specs.Tables.{put_in, place_from, tag, tags_of}
use Rattle.nq_table.proofs.Tags.{empty_from_tags}
use Rattle.nq_bank.specs.Entries.{Stored, entry_at}
use Rattle.nq_bank.specs.Hashes.{hashes, hash_of}
use Rattle.nq_bank.proofs.Hashing.{hash_at, tags_put}
use Rattle.nq_bank.proofs.nodes.put_entry.Goals as goal

pub returns-clause-places : goal.returns-clause-places
returns-clause-places c =
    let es : List Stored = c.args.pages.now in
    let places : List ℕ = c.args.places.now in
    let id : ℕ = c.args.id in
    let hash : c.hash_of-hash.result ≡ get_or (hashes es) id 0 = c.hash_of-hash.ensures ∙ ap (λ n. hash_of n c.args-2.result.now) c.node.ensures ∙ ap (hash_of (entry_at es id).node) c.args-2.ensures ∙ sym (hash_at es id c.requires.id) in
    c.put_tagged.ensures.places
    ∙ ap (λ ts. set places (place_from ts 0 c.hash_of-hash.result) (id + 1)) c.requires.tags
    ∙ ap (λ n. set places n (id + 1)) (empty_from_tags (hashes es) places c.hash_of-hash.result)
    ∙ ap (λ h. put_in places h id) hash

pub returns-clause-tags : goal.returns-clause-tags
returns-clause-tags c =
    let es : List Stored = c.args.pages.now in
    let places : List ℕ = c.args.places.now in
    let id : ℕ = c.args.id in
    let h : ℕ = c.hash_of-hash.result in
    let hash : h ≡ get_or (hashes es) id 0 = c.hash_of-hash.ensures ∙ ap (λ n. hash_of n c.args-2.result.now) c.node.ensures ∙ ap (hash_of (entry_at es id).node) c.args-2.ensures ∙ sym (hash_at es id c.requires.id) in
    let new : c.put_tagged.new.places ≡ put_in places h id = c.put_tagged.ensures.places ∙ ap (λ ts. set places (place_from ts 0 h) (id + 1)) c.requires.tags ∙ ap (λ n. set places n (id + 1)) (empty_from_tags (hashes es) places h) in
    c.put_tagged.ensures.tags
    ∙ ap (λ ts. set ts (place_from ts 0 h) (tag h)) c.requires.tags
    ∙ tags_put (hashes es) places h id (sym hash)
    ∙ ap (tags_of (hashes es)) (sym new)
