-- Pages of nodes.
use Rattle.std.specs.Prelude.{◌≡◌, ℕ, ◌+◌, ◌-◌, ◌^◌, ◌<◌, ◌≤◌, List, [], ◌∷◌, ◌++◌, length, get_or}
use Rattle.nq_bank.specs.Entries.{Stored}

-- how many nodes a page has room for
abbrev pub page_size : ℕ
page_size = 4096

-- the nodes of all pages, one page after another
unfoldable pub joined : List (List Stored) → List Stored
joined [] = []
joined (page ∷ pages) = page ++ joined pages

-- each page but the last is full
abbrev pub AreFull : List (List Stored) → Type 0
AreFull pages = (i : ℕ) → i + 1 < length pages → length (get_or pages i []) ≡ page_size

-- no page has more nodes than it has room for
abbrev pub AreWithin : List (List Stored) → Type 0
AreWithin pages = (i : ℕ) → length (get_or pages i []) ≤ page_size

-- the pages of a bank
pub record ArePages (pages : List (List Stored)) : Type 0 where
  pub full : AreFull pages
  pub within : AreWithin pages
  pub few : length pages ≤ 2 ^ 20

abbrev pub last_page : List (List Stored) → List Stored
last_page pages = get_or pages (length pages - 1) []

-- there is a last page, and it has room for a node
pub record HasRoom (pages : List (List Stored)) : Type 0 where
  pub some : 0 < length pages
  pub room : length (last_page pages) < page_size

-- the last page has a node
pub record HasNode (pages : List (List Stored)) : Type 0 where
  pub some : 0 < length pages
  pub node : 0 < length (last_page pages)
