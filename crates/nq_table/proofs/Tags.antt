-- The tags of a table.
use Rattle.std.proofs.Common.{◌≡◌, ◌≢◌, ℕ, zero, suc, ◌<◌, ◌≤◌, List, [], ◌∷◌, length, get_or, inl, inr, refl, sym, ap, ◌∙◌, arith}
use Rattle.std.proofs.lemmas.Bool.{cases_eq}
use Rattle.std.proofs.lemmas.List.{length-map}
use Rattle.nq_table.specs.Tables.{first_place, next_place, place_of, place_from, tag, tag_of, tags_of}
use Rattle.nq_table.proofs.Walks.{place_of-here, place_of-on}

pub tag_at : (hashes places : List ℕ) (k : ℕ) → get_or (tags_of hashes places) k 0 ≡ tag_of hashes (get_or places k 0)
tag_at hashes [] k = refl
tag_at hashes (v ∷ places) zero = refl
tag_at hashes (v ∷ places) (suc k) = tag_at hashes places k

pub no_tag : (hashes : List ℕ) (v : ℕ) → tag_of hashes v ≡ 0 → v ≡ 0
no_tag hashes zero e = refl
no_tag hashes (suc id) e = absurd (omega (arith, e))

pub some_tag : (hashes : List ℕ) (v : ℕ) → tag_of hashes v ≢ 0 → v ≢ 0
some_tag hashes v some e = some (ap (tag_of hashes) e)

-- the first empty place is that of the tags
pub empty_by_tags : (hashes places : List ℕ) (steps place : ℕ) → place_of (tags_of hashes places) 0 steps place ≡ place_of places 0 steps place
unfolding place_of
empty_by_tags hashes places zero place = refl
empty_by_tags hashes places (suc steps) place =
    let tags = tags_of hashes places in
    elim (cases_eq (get_or places place 0) 0) [
      | inl e ↦ place_of-here tags 0 (suc steps) place (tag_at hashes places place ∙ ap (tag_of hashes) e) (omega arith) ∙ sym (place_of-here places 0 (suc steps) place e (omega arith))
      | inr e ↦
          place_of-on tags 0 (suc steps) steps place refl (λ none. e (no_tag hashes (get_or places place 0) (sym (tag_at hashes places place) ∙ none)))
          ∙ ap (λ n. place_of tags 0 steps (next_place n place)) (length-map places (tag_of hashes))
          ∙ empty_by_tags hashes places steps (next_place (length places) place)
          ∙ sym (place_of-on places 0 (suc steps) steps place refl e)
    ]

pub empty_from_tags : (hashes places : List ℕ) (hash : ℕ) → place_from (tags_of hashes places) 0 hash ≡ place_from places 0 hash
empty_from_tags hashes places hash =
    ap (λ n. place_of (tags_of hashes places) 0 n (first_place n hash)) (length-map places (tag_of hashes)) ∙ empty_by_tags hashes places (length places) (first_place (length places) hash)

-- only the hashes of the ids that stand in the places count
pub same_tags : (hashes others places : List ℕ) → ((k : ℕ) → tag_of hashes (get_or places k 0) ≡ tag_of others (get_or places k 0)) → tags_of hashes places ≡ tags_of others places
same_tags hashes others [] same = refl
same_tags hashes others (v ∷ places) same =
    ap (λ x. x ∷ tags_of hashes places) (same 0) ∙ ap (λ xs. tag_of others v ∷ xs) (same_tags hashes others places (λ k. same (suc k)))

pub same_tag : (hashes others : List ℕ) (ids v : ℕ) → ((i : ℕ) → i < ids → get_or hashes i 0 ≡ get_or others i 0) → v ≤ ids → tag_of hashes v ≡ tag_of others v
same_tag hashes others ids zero same below = refl
same_tag hashes others ids (suc id) same below = ap tag (same id (omega arith))
