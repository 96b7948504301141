use Rattle.std.proofs.Common.{◌≢◌, ◌-◌, ◌∙◌, get_or, sym}
use Rattle.std.proofs.lemmas.Bool.{false_from_ne_true, ne_eqb}
use Rattle.nq_table.specs.Tables.{tag}
use Rattle.nq_bank.specs.Hashes.{hash_of}
use Rattle.nq_bank.specs.Places.{is_at}
use Rattle.nq_bank.proofs.Hashing.{id_below, other_tag}
use Rattle.nq_bank.proofs.nodes.is_here.Goals as goal

pub is_node-requires : goal.is_node-requires
is_node-requires c = id_below c.args.pages.now c.args.places.now c.args.place c.requires.table.table c.requires.some

pub returns-else-tags-place : goal.returns-else-tags-place
returns-else-tags-place c =
    let differs : get_or c.args.tags.now c.args.place 0 ≢ tag (hash_of c.args.node c.args.arguments.now) = λ e. c.if-tags-place.false (e ∙ sym c.requires.sought) in
    ne_eqb (get_or c.args.tags.now c.args.place 0) c.args.sought c.if-tags-place.false ∙ sym (false_from_ne_true (is_at c.args.pages.now c.args.node c.args.arguments.now (get_or c.args.places.now c.args.place 0 - 1)) (other_tag c.args.pages.now c.args.places.now c.args.tags.now c.args.place c.args.node c.args.arguments.now c.requires.table c.requires.some differs))
