-- Where a node lies in pages; pages with one node more and with one fewer.
use Rattle.std.proofs.Common.{◌≡◌, ℕ, zero, suc, ◌+◌, ◌-◌, ◌*◌, ◌/◌, ◌%◌, ◌<◌, ◌≤◌, List, [], ◌∷◌, ◌++◌, length, get_or, take, set, refl, sym, ap, ◌∙◌, subst, arith, length-append, length-set}
use Rattle.std.proofs.lemmas.List.{take_all, get_or_append_left, get_or-append-add, set-get_or, get_or-take, get_or_default, length-take-le, append-nil}
use Rattle.std.specs.Prelude.{Bool, true, false, if◌then◌else◌}
use Rattle.std.proofs.Math.Seq.{take-suc, take-suc-set, take-append-add}
use Rattle.nq_bank.specs.Entries.{Stored, blank, entry_at}
use Rattle.nq_bank.specs.Paging.{page_size, joined, AreFull, AreWithin, ArePages, last_page, HasNode}

-- where a node lies
pub record LiesAt (pages : List (List Stored)) (page place i : ℕ) : Type 0 where
  pub page_below : page < length pages
  pub below : place < length (get_or pages page [])
  pub is : entry_at (get_or pages page []) place ≡ entry_at (joined pages) i

fuller : (page : List Stored) (pages : List (List Stored)) → AreFull (page ∷ pages) → AreFull pages
fuller page pages full i h = full (suc i) (omega (arith, h))

narrower : (page : List Stored) (pages : List (List Stored)) → AreWithin (page ∷ pages) → AreWithin pages
narrower page pages within i = within (suc i)

first_has : (first : List Stored) (pages : List (List Stored)) (place : ℕ) → AreFull (first ∷ pages) → place < page_size → 0 * page_size + place < length (first ++ joined pages) → place < length first
unfolding joined
first_has first [] place full h below = omega (arith, below, length-append first [])
first_has first (next ∷ pages) place full h below = omega (arith, full 0 (omega arith), h)

first_full : (first : List Stored) (pages : List (List Stored)) (page place : ℕ) → AreFull (first ∷ pages) → length first ≤ page_size → suc page * page_size + place < length (first ++ joined pages) → length first ≡ page_size
unfolding joined
first_full first [] page place full few below = absurd (omega (arith, below, few, length-append first []))
first_full first (next ∷ pages) page place full few below = full 0 (omega arith)

lies_from : (pages : List (List Stored)) (page place : ℕ) → AreFull pages → AreWithin pages → place < page_size → page * page_size + place < length (joined pages) → LiesAt pages page place (page * page_size + place)
unfolding joined
lies_from [] page place full within h below = absurd (omega (arith, below))
lies_from (first ∷ pages) zero place full within h below =
    let here : place < length first = first_has first pages place full h below in
    let at : place ≡ 0 * page_size + place = omega arith in
    record { page_below = omega arith; below = here; is = sym (get_or_append_left first (joined pages) blank place here) ∙ ap (entry_at (first ++ joined pages)) at }
lies_from (first ∷ pages) (suc page) place full within h below =
    let count : length first ≡ page_size = first_full first pages page place full (within 0) below in
    let rest : page * page_size + place < length (joined pages) = omega (arith, below, count, length-append first (joined pages)) in
    let later = lies_from pages page place (fuller first pages full) (narrower first pages within) h rest in
    let i : ℕ = page * page_size + place in
    let at : suc page * page_size + place ≡ length first + i = omega (arith, count) in
    record {
      page_below = omega (arith, later.page_below);
      below = later.below;
      is = later.is ∙ sym (get_or-append-add first (joined pages) i blank) ∙ ap (entry_at (first ++ joined pages)) (sym at);
    }

-- a node lies in the page of its place
pub lies_at : (pages : List (List Stored)) (i : ℕ) → ArePages pages → i < length (joined pages) → LiesAt pages (i / page_size) (i % page_size) i
lies_at pages i are h =
    let whole : i / page_size * page_size + i % page_size ≡ i = omega arith in
    subst (LiesAt pages (i / page_size) (i % page_size)) whole (lies_from pages (i / page_size) (i % page_size) are.full are.within (omega arith) (omega (arith, whole, h)))

-- the pages with one more
pub joined_push : (pages : List (List Stored)) (page : List Stored) → joined (pages ++ page ∷ []) ≡ joined pages ++ page
unfolding joined
joined_push [] page = append-nil page
joined_push (first ∷ pages) page = ap (λ es. first ++ es) (joined_push pages page) ∙ append_assoc first (joined pages) page
  where
    append_assoc : (xs ys zs : List Stored) → xs ++ (ys ++ zs) ≡ (xs ++ ys) ++ zs
    append_assoc [] ys zs = refl
    append_assoc (x ∷ xs) ys zs = ap (λ es. x ∷ es) (append_assoc xs ys zs)

-- the pages are those before the last, and the last
split_last : (pages : List (List Stored)) (k : ℕ) → length pages ≡ suc k → pages ≡ take k pages ++ get_or pages k [] ∷ []
split_last pages k one = sym (take_all (suc k) pages (omega (arith, one))) ∙ take-suc pages k [] (omega (arith, one))

pub joined_last : (pages : List (List Stored)) (k : ℕ) → length pages ≡ suc k → joined pages ≡ joined (take k pages) ++ get_or pages k []
joined_last pages k one = ap joined (split_last pages k one) ∙ joined_push (take k pages) (get_or pages k [])

-- another last page
pub joined_set : (pages : List (List Stored)) (k : ℕ) (page : List Stored) → length pages ≡ suc k → joined (set pages k page) ≡ joined (take k pages) ++ page
joined_set pages k page one =
    let whole : set pages k page ≡ take k pages ++ page ∷ [] =
    sym (take_all (suc k) (set pages k page) (omega (arith, one, length-set pages k page))) ∙ take-suc-set pages k page (omega (arith, one)) in
    ap joined whole ∙ joined_push (take k pages) page

-- how many nodes full pages have
pub length-joined : (pages : List (List Stored)) (k : ℕ) → length pages ≡ suc k → AreFull pages → length (joined pages) ≡ k * page_size + length (get_or pages k [])
unfolding joined
length-joined [] k one full = absurd (omega (arith, one))
length-joined (first ∷ []) zero one full = length-append first [] ∙ omega arith
length-joined (first ∷ []) (suc k) one full = absurd (omega (arith, one))
length-joined (first ∷ next ∷ pages) zero one full = absurd (omega (arith, one))
length-joined (first ∷ next ∷ pages) (suc k) one full =
    let later = length-joined (next ∷ pages) k (omega (arith, one)) (fuller first (next ∷ pages) full) in
    omega (arith, length-append first (joined (next ∷ pages)), later, full 0 (omega arith))

pub same_pushed : (pages : List (List Stored)) → joined (pages ++ [] ∷ []) ≡ joined pages
same_pushed pages = joined_push pages [] ∙ append-nil (joined pages)

no_nodes : (page : List Stored) → length page ≡ 0 → page ≡ []
no_nodes [] h = refl
no_nodes (e ∷ es) h = absurd (omega (arith, h))

-- without an empty last page
pub same_taken : (pages : List (List Stored)) (k : ℕ) → length pages ≡ suc k → length (get_or pages k []) ≡ 0 → joined (take k pages) ≡ joined pages
same_taken pages k one none =
    sym (joined_last pages k one ∙ ap (λ page. joined (take k pages) ++ page) (no_nodes (get_or pages k []) none) ∙ append-nil (joined (take k pages)))

pub node_taken : (pages : List (List Stored)) (k : ℕ) → ArePages pages → length pages ≡ suc k → length (get_or pages k []) ≡ 0 → 0 < length (joined pages) → HasNode (take k pages)
node_taken pages k are one none some =
    let left : length (take k pages) ≡ k = length-take-le k pages (omega (arith, one)) in
    let count = length-joined pages k one are.full in
    let before : 0 < k = omega (arith, count, none, some) in
    let at : length (take k pages) - 1 ≡ k - 1 = omega (arith, left) in
    let page : length (last_page (take k pages)) ≡ length (get_or pages (k - 1) []) = ap (λ n. length (get_or (take k pages) n [])) at ∙ ap length (get_or-take k pages (k - 1) [] (omega (arith, before))) in
    record { some = omega (arith, left, before); node = omega (arith, page, are.full (k - 1) (omega (arith, before, one))) }

-- some pages, where there is a node
pub some_pages : (pages : List (List Stored)) → 0 < length (joined pages) → 0 < length pages
unfolding joined
some_pages [] h = absurd (omega (arith, h))
some_pages (page ∷ pages) h = omega arith

-- the last page with its newest node taken out
pub joined_fewer : (pages : List (List Stored)) (k : ℕ) → length pages ≡ suc k → 0 < length (get_or pages k []) → joined (set pages k (take (length (get_or pages k []) - 1) (get_or pages k []))) ≡ take (length (joined pages) - 1) (joined pages)
joined_fewer pages k one some =
    let page : List Stored = get_or pages k [] in
    let before = joined (take k pages) in
    let whole : joined pages ≡ before ++ page = joined_last pages k one in
    let count : length (joined pages) - 1 ≡ length before + (length page - 1) = omega (arith, ap length whole, length-append before page, some) in
    joined_set pages k (take (length page - 1) page) one
    ∙ sym (take-append-add before page (length page - 1))
    ∙ ap (λ n. take n (before ++ page)) (sym count)
    ∙ ap (take (length (joined pages) - 1)) (sym whole)

-- the last page with one more node
pub joined_more : (pages : List (List Stored)) (k : ℕ) (e : Stored) → length pages ≡ suc k → joined (set pages k (get_or pages k [] ++ e ∷ [])) ≡ joined pages ++ e ∷ []
joined_more pages k e one =
    joined_set pages k (get_or pages k [] ++ e ∷ []) one
    ∙ appended (joined (take k pages)) (get_or pages k []) (e ∷ [])
    ∙ ap (λ es. es ++ e ∷ []) (sym (joined_last pages k one))
  where
    appended : (xs ys zs : List Stored) → xs ++ (ys ++ zs) ≡ (xs ++ ys) ++ zs
    appended [] ys zs = refl
    appended (x ∷ xs) ys zs = ap (λ es. x ∷ es) (appended xs ys zs)

pub joined_none : joined [] ≡ []
unfolding joined
joined_none = refl

pub no_pages : (pages : List (List Stored)) → length pages ≡ 0 → 0 ≡ length (joined pages)
unfolding joined
no_pages [] h = refl
no_pages (page ∷ pages) h = absurd (omega (arith, h))

-- a page that is read at a place
pub page_is : (pages : List (List Stored)) (k : ℕ) (page : List Stored) → k < length pages → page ≡ get_or pages k page → page ≡ get_or pages k []
page_is pages k page h is = is ∙ get_or_default pages k page [] h

-- the last page with one more node, or as it was
pub joined_either : (more : Bool) (pages : List (List Stored)) (k : ℕ) (e : Stored) → length pages ≡ suc k → joined (set pages k (if more then get_or pages k [] ++ e ∷ [] else get_or pages k [])) ≡ (if more then joined pages ++ e ∷ [] else joined pages)
joined_either true pages k e one = joined_more pages k e one
joined_either false pages k e one = ap joined (set-get_or pages k [])
