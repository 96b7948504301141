use Rattle.std.proofs.Common.{◌≡◌, ℕ, suc, ◌+◌, ◌∙◌, List, length, get_or, ap, sym, arith}
use Rattle.nq_table.specs.Tables.{put_in, table_of, tags_of}
use Rattle.nq_table.proofs.Made.{table_of-none, table_of-more}
use Rattle.nq_bank.specs.Hashes.{hashes}
use Rattle.nq_bank.proofs.Hashing.{empty_tags}
use Rattle.nq_bank.proofs.nodes.fill.Goals as goal

pub loop-id-init : goal.loop-id-init
loop-id-init c =
    let hs : List ℕ = hashes c.args.pages.now in
    let count : ℕ = length c.args.places.now in
    (c.requires.places ∙ sym (table_of-none count hs), c.requires.tags ∙ sym (empty_tags hs count) ∙ ap (tags_of hs) (sym c.requires.places))

pub loop-id-preserved : goal.loop-id-preserved
loop-id-preserved c =
    let hs : List ℕ = hashes c.args.pages.now in
    let count : ℕ = length c.args.places.now in
    let id : ℕ = c.loop-id.id in
    let one : suc id ≡ id + 1 = omega arith in
    (c.put_entry.ensures.places ∙ ap (λ p. put_in p (get_or hs id 0) id) c.loop-id.invariant.0 ∙ sym (table_of-more count hs id) ∙ ap (table_of count hs) one, c.put_entry.ensures.tags)
