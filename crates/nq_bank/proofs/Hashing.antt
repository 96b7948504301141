-- The table of the nodes, with one more and with one fewer, and what a search of it finds.
use Rattle.std.proofs.Common.{◌≡◌, ◌≢◌, ℕ, zero, suc, ◌+◌, ◌-◌, ◌/◌, ◌%◌, ◌^◌, ◌<◌, ◌≤◌, true, None, Some, List, [], ◌∷◌, ◌++◌, length, get_or, take, drop, set, replicate, refl, sym, ap, ◌∙◌, subst, arith, length-set}
use Rattle.std.specs.Prelude.{All}
use Rattle.std.specs.List.{fold}
use Rattle.std.proofs.lemmas.List.{length-map, map-set, length_push, get_or-take, get_or_default, length-take-le, take-append-le, take_all}
use Rattle.std.proofs.Math.Nat.{mod-lt, div-lt_iff_lt-mul}
use Rattle.nq_table.specs.Tables.{place_from, put_in, taken_out, table_of, found, AreHashes, tag, tag_of, tags_of}
use Rattle.nq_table.proofs.Made.{length-table, older, newest_out, same_table, found-is, found-none, table_of-more, table_of-none}
use Rattle.nq_table.proofs.Tags.{tag_at, no_tag, some_tag, empty_from_tags, same_tags, same_tag}
use Rattle.nq_bank.specs.declared.node.TermId.{TermId}
use Rattle.nq_bank.specs.declared.node.Node.{Node}
use Rattle.nq_bank.specs.declared.node.Node.TheVariants.{Var, Num, App}
use Rattle.nq_bank.specs.Entries.{Stored, blank, entry_at}
use Rattle.nq_bank.specs.Hashes.{mixed, product, head_hash, hash_of, hash_of_entry, hashes}
use Rattle.nq_bank.specs.Nodes.{IsStored, IsStoredAt}
use Rattle.nq_bank.specs.Places.{IsTable, IsTagged, is_at}
use Rattle.nq_bank.proofs.NodeTable.{wanted_is}

mixed_fits : (hash word : ℕ) → mixed hash word < 2 ^ 64
unfolding mixed
mixed_fits hash word = mod-lt (product hash word + product hash word / 2 ^ 32) (omega arith)

head_fits : (node : Node) → head_hash node < 2 ^ 64
unfolding head_hash
head_fits (Var s) = mixed_fits 1 s.0
head_fits (Num n) = mixed_fits (mixed 2 (n % 2 ^ 64)) (n / 2 ^ 64)
head_fits (App f count) = mixed_fits 3 f.0

fold_fits : (hash : ℕ) (ids : List TermId) → hash < 2 ^ 64 → fold (λ h a. mixed h a.0) hash ids < 2 ^ 64
fold_fits hash [] h = h
fold_fits hash (a ∷ ids) h = fold_fits (mixed hash a.0) ids (mixed_fits hash a.0)

pub hash_fits : (node : Node) (ids : List TermId) → hash_of node ids < 2 ^ 32
unfolding hash_of
hash_fits node ids = (div-lt_iff_lt-mul {k = 2 ^ 32} (omega arith)).1 (omega (arith, fold_fits (head_hash node) ids (head_fits node)))

pub are_hashes : (es : List Stored) → AreHashes (hashes es)
are_hashes [] i = omega arith
are_hashes (e ∷ es) zero = hash_fits e.node e.arguments
are_hashes (e ∷ es) (suc i) = are_hashes es i

pub hash_at : (es : List Stored) (i : ℕ) → i < length es → get_or (hashes es) i 0 ≡ hash_of_entry (entry_at es i)
hash_at [] i h = absurd (omega arith)
hash_at (e ∷ es) zero h = refl
hash_at (e ∷ es) (suc i) h = hash_at es i (omega arith)

-- a table of all nodes
pub new_table : (es : List Stored) (count : ℕ) → length es ≤ count → count ≤ 2 ^ 31 → IsTable es (table_of count (hashes es) (length es))
new_table es count room few =
    let long = length-table count (hashes es) (length es) in
    record {
      made = ap (λ n. table_of n (hashes es) (length es)) (sym long);
      few = omega (arith, long);
      room = omega (arith, long);
    }

entry_before : (es : List Stored) (e : Stored) (i : ℕ) → i < length es → entry_at (es ++ e ∷ []) i ≡ entry_at es i
entry_before [] e i h = absurd (omega arith)
entry_before (x ∷ es) e zero h = refl
entry_before (x ∷ es) e (suc i) h = entry_before es e i (omega arith)

entry_last : (es : List Stored) (e : Stored) → entry_at (es ++ e ∷ []) (length es) ≡ e
entry_last [] e = refl
entry_last (x ∷ es) e = entry_last es e

-- one more node
pub more_table : (es : List Stored) (e : Stored) (places : List ℕ) → IsTable es places → length es < length places → IsTable (es ++ e ∷ []) (put_in places (hash_of_entry e) (length es))
more_table es e places table room =
    let more = es ++ e ∷ [] in
    let ids : ℕ = length es in
    let count : ℕ = length places in
    let one : length more ≡ suc ids = omega (arith, length_push es e) in
    let long : length (put_in places (hash_of_entry e) ids) ≡ count = length-set places (place_from places 0 (hash_of_entry e)) (ids + 1) in
    let hash : get_or (hashes more) ids 0 ≡ hash_of_entry e = hash_at more ids (omega (arith, one)) ∙ ap hash_of_entry (entry_last es e) in
    let same : table_of count (hashes more) ids ≡ table_of count (hashes es) ids = same_table count (hashes more) (hashes es) ids (λ i less. hash_at more i (omega (arith, one, less)) ∙ ap hash_of_entry (entry_before es e i less) ∙ sym (hash_at es i less)) in
    record {
      made = sym (
          ap (λ n. table_of n (hashes more) (length more)) long
          ∙ ap (table_of count (hashes more)) one
          ∙ table_of-more count (hashes more) ids
          ∙ ap (λ h. put_in (table_of count (hashes more) ids) h ids) hash
          ∙ ap (λ p. put_in p (hash_of_entry e) ids) (same ∙ sym table.made)
          );
      few = omega (arith, long, table.few);
      room = omega (arith, long, one, room);
    }

-- the newest node taken out
pub fewer_table : (es : List Stored) (places : List ℕ) (k : ℕ) → IsTable es places → length es ≡ suc k → IsTable (take k es) (taken_out places (hash_of_entry (entry_at es k)) k)
fewer_table es places k table one =
    let fewer = take k es in
    let count : ℕ = length places in
    let hash : get_or (hashes es) k 0 ≡ hash_of_entry (entry_at es k) = hash_at es k (omega (arith, one)) in
    let out = taken_out places (hash_of_entry (entry_at es k)) k in
    let long : length out ≡ count = length-set places (place_from places (k + 1) (hash_of_entry (entry_at es k))) 0 in
    let left : length fewer ≡ k = length-take-le k es (omega (arith, one)) in
    let same : table_of count (hashes es) k ≡ table_of count (hashes fewer) k = same_table count (hashes es) (hashes fewer) k (λ i less. hash_at es i (omega (arith, one, less)) ∙ ap hash_of_entry (sym (get_or-take k es i blank less)) ∙ sym (hash_at fewer i (omega (arith, left, less)))) in
    let whole : places ≡ table_of count (hashes es) (suc k) = table.made ∙ ap (table_of count (hashes es)) one in
    record {
      made =
          ap (λ h. taken_out places h k) (sym hash)
          ∙ ap (λ p. taken_out p (get_or (hashes es) k 0) k) whole
          ∙ newest_out count (hashes es) k (are_hashes es) (omega (arith, one, table.room))
          ∙ same
          ∙ ap (table_of count (hashes fewer)) (sym left)
          ∙ ap (λ n. table_of n (hashes fewer) (length fewer)) (sym long);
      few = omega (arith, long, table.few);
      room = omega (arith, long, left, one, table.room);
    }

-- what a search finds is the node that is sought
pub node_found : (es : List Stored) (places : List ℕ) (hash : ℕ) (node : Node) (ids : List TermId) (t : TermId) → IsTable es places → found (is_at es node ids) places hash ≡ Some t.0 → IsStoredAt es t node ids
node_found es places hash node ids t table e =
    let made = ap (λ p. found (is_at es node ids) p hash) (sym table.made) ∙ e in
    let is = found-is (is_at es node ids) (length places) (hashes es) (length es) hash t.0 made in
    record { stored = entry_at es t.0; stands = is.0; is = get_or_default es t.0 blank (entry_at es t.0) is.0; same = (wanted_is node ids (entry_at es t.0)).0 is.1 }

pub no_node_found : (es : List Stored) (places : List ℕ) (node : Node) (ids : List TermId) → IsTable es places → found (is_at es node ids) places (hash_of node ids) ≡ None → All (λ e. ¬ IsStored e node ids) es
no_node_found es places node ids table e k d below same =
    let made = ap (λ p. found (is_at es node ids) p (hash_of node ids)) (sym table.made) ∙ e in
    let at : get_or es k d ≡ entry_at es k = get_or_default es k d blank below in
    let here : IsStored (entry_at es k) node ids = subst (λ x. IsStored x node ids) at same in
    let hash : get_or (hashes es) k 0 ≡ hash_of node ids = hash_at es k below ∙ ap (λ n. hash_of n (entry_at es k).arguments) here.0 ∙ ap (hash_of node) here.1 in
    found-none (is_at es node ids) (length places) (hashes es) (length es) (hash_of node ids) k (are_hashes es) table.room made below hash ((wanted_is node ids (entry_at es k)).1 here)

pub no_table : (es : List Stored) (places : List ℕ) → es ≡ [] → places ≡ [] → IsTable es places
no_table es places none empty =
    subst (λ xs. IsTable xs places) (sym none) (subst (IsTable []) (sym empty) (record { made = sym (table_of-none 0 []); few = omega arith; room = omega arith }))

-- what a place holds is one more than the id of a node
pub id_below : (es : List Stored) (places : List ℕ) (k : ℕ) → IsTable es places → get_or places k 0 ≢ 0 → get_or places k 0 - 1 < length es
id_below es places k table some =
    let most = subst (λ p. get_or p k 0 ≤ length es) (sym table.made) (older (length places) (hashes es) (length es) k) in
    omega (arith, most, some)

-- a slice written over the whole of a list
pub written_whole : (len : ℕ) (new items : List ℕ) → length new ≡ length items → len ≡ length items → take len (new ++ drop (length new) items) ≡ new
written_whole len new items same whole = take-append-le len new (drop (length new) items) (omega (arith, same, whole)) ∙ take_all len new (omega (arith, same, whole))

pub filled : (count len : ℕ) (xs : List ℕ) → xs ≡ [] → len ≡ 0 → take count xs ++ replicate (count - len) 0 ≡ replicate count 0
filled count len xs none zeros =
    let n : count - len ≡ count = omega (arith, zeros) in
    ap (λ ys. take count ys ++ replicate (count - len) 0) none ∙ ap (λ ys. ys ++ replicate (count - len) 0) (take_all count [] (omega arith)) ∙ ap (λ m. replicate m 0) n

-- what the places hold is at most so many
abbrev pub IsAtMost : ℕ → List ℕ → Type 0
IsAtMost ids places = (k : ℕ) → get_or places k 0 ≤ ids

table_most : (es : List Stored) (places : List ℕ) → IsTable es places → IsAtMost (length es) places
table_most es places table k = subst (λ p. get_or p k 0 ≤ length es) (sym table.made) (older (length places) (hashes es) (length es) k)

-- tags written where an id is put in
pub tags_put : (hs places : List ℕ) (hash id : ℕ) → get_or hs id 0 ≡ hash → set (tags_of hs places) (place_from (tags_of hs places) 0 hash) (tag hash) ≡ tags_of hs (put_in places hash id)
tags_put hs places hash id is =
    let at = place_from places 0 hash in
    let one : suc id ≡ id + 1 = omega arith in
    ap (λ n. set (tags_of hs places) n (tag hash)) (empty_from_tags hs places hash)
    ∙ ap (λ h. set (tags_of hs places) at (tag h)) (sym is)
    ∙ ap (λ v. set (tags_of hs places) at (tag_of hs v)) one
    ∙ sym (map-set (tag_of hs) places at (id + 1))

pub more_tagged : (es : List Stored) (e : Stored) (places tags : List ℕ) → IsTagged es places tags → length es < length places → IsTagged (es ++ e ∷ []) (set places (place_from tags 0 (hash_of_entry e)) (length es + 1)) (set tags (place_from tags 0 (hash_of_entry e)) (tag (hash_of_entry e)))
more_tagged es e places tags tagged room =
    let more = es ++ e ∷ [] in
    let ids : ℕ = length es in
    let hash : ℕ = hash_of_entry e in
    let one : length more ≡ suc ids = omega (arith, length_push es e) in
    let old : tags_of (hashes es) places ≡ tags_of (hashes more) places =
    same_tags (hashes es) (hashes more) places (λ k. same_tag (hashes es) (hashes more) ids (get_or places k 0) (λ i less. hash_at es i less ∙ ap hash_of_entry (sym (entry_before es e i less)) ∙ sym (hash_at more i (omega (arith, one, less)))) (table_most es places tagged.table k)) in
    let now : tags ≡ tags_of (hashes more) places = tagged.are ∙ old in
    let is : get_or (hashes more) ids 0 ≡ hash = hash_at more ids (omega (arith, one)) ∙ ap hash_of_entry (entry_last es e) in
    let at : place_from tags 0 hash ≡ place_from places 0 hash = ap (λ ts. place_from ts 0 hash) now ∙ empty_from_tags (hashes more) places hash in
    let new : set places (place_from tags 0 hash) (ids + 1) ≡ put_in places hash ids = ap (λ n. set places n (ids + 1)) at in
    record {
      table = subst (IsTable more) (sym new) (more_table es e places tagged.table room);
      are = ap (λ ts. set ts (place_from ts 0 hash) (tag hash)) now ∙ tags_put (hashes more) places hash ids is ∙ ap (tags_of (hashes more)) (sym new);
    }

pub fewer_tagged : (es : List Stored) (places tags : List ℕ) (k : ℕ) → IsTagged es places tags → length es ≡ suc k → IsTagged (take k es) (taken_out places (hash_of_entry (entry_at es k)) k) (set tags (place_from places (k + 1) (hash_of_entry (entry_at es k))) 0)
fewer_tagged es places tags k tagged one =
    let fewer = take k es in
    let hash : ℕ = hash_of_entry (entry_at es k) in
    let at = place_from places (k + 1) hash in
    let out = taken_out places hash k in
    let table = fewer_table es places k tagged.table one in
    let left : length fewer ≡ k = length-take-le k es (omega (arith, one)) in
    let same : tags_of (hashes es) out ≡ tags_of (hashes fewer) out =
    same_tags (hashes es) (hashes fewer) out (λ i. same_tag (hashes es) (hashes fewer) k (get_or out i 0) (λ j less. hash_at es j (omega (arith, one, less)) ∙ ap hash_of_entry (sym (get_or-take k es j blank less)) ∙ sym (hash_at fewer j (omega (arith, left, less)))) (let most = table_most fewer out table i in omega (arith, most, left))) in
    record {
      table = table;
      are = ap (λ ts. set ts at 0) tagged.are ∙ sym (map-set (tag_of (hashes es)) places at 0) ∙ same;
    }

pub no_tagged : (es : List Stored) (places tags : List ℕ) → es ≡ [] → places ≡ [] → tags ≡ [] → IsTagged es places tags
no_tagged es places tags none empty bare = record { table = no_table es places none empty; are = bare ∙ ap (tags_of (hashes es)) (sym empty) }

-- where the tags differ it is not the node
pub other_tag : (es : List Stored) (places tags : List ℕ) (place : ℕ) (node : Node) (ids : List TermId) → IsTagged es places tags → get_or places place 0 ≢ 0 → get_or tags place 0 ≢ tag (hash_of node ids) → is_at es node ids (get_or places place 0 - 1) ≢ true
other_tag es places tags place node ids tagged some differs passes =
    let v : ℕ = get_or places place 0 in
    let id : ℕ = v - 1 in
    let one : v ≡ suc id = omega (arith, some) in
    let below = id_below es places place tagged.table some in
    let is = (wanted_is node ids (entry_at es id)).0 passes in
    let hash : get_or (hashes es) id 0 ≡ hash_of node ids = hash_at es id below ∙ ap (λ n. hash_of n (entry_at es id).arguments) is.0 ∙ ap (hash_of node) is.1 in
    differs (ap (λ ts. get_or ts place 0) tagged.are ∙ tag_at (hashes es) places place ∙ ap (tag_of (hashes es)) one ∙ ap tag hash)

pub empty_tag : (es : List Stored) (places tags : List ℕ) (place : ℕ) → IsTagged es places tags → get_or tags place 0 ≡ 0 → get_or places place 0 ≡ 0
empty_tag es places tags place tagged e = no_tag (hashes es) (get_or places place 0) (sym (ap (λ ts. get_or ts place 0) tagged.are ∙ tag_at (hashes es) places place) ∙ e)

pub full_tag : (es : List Stored) (places tags : List ℕ) (place : ℕ) → IsTagged es places tags → get_or tags place 0 ≢ 0 → get_or places place 0 ≢ 0
full_tag es places tags place tagged some = some_tag (hashes es) (get_or places place 0) (λ e. some (ap (λ ts. get_or ts place 0) tagged.are ∙ tag_at (hashes es) places place ∙ e))

pub length-tags : (es : List Stored) (places tags : List ℕ) → IsTagged es places tags → length tags ≡ length places
length-tags es places tags tagged = ap length tagged.are ∙ length-map places (tag_of (hashes es))

pub empty_tags : (hs : List ℕ) (n : ℕ) → tags_of hs (replicate n 0) ≡ replicate n 0
empty_tags hs zero = refl
empty_tags hs (suc n) = ap (λ xs. 0 ∷ xs) (empty_tags hs n)
