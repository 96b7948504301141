-- What stands between forms: separators and comments. And the texts of strings.
use Rattle.std.specs.Prelude.{◌≢◌, ℕ, suc, Bool, false, ◌&&◌, ◌||◌, not, IsTrue, nat_eq, List, [], ◌∷◌, ◌++◌}
use Rattle.std.specs.List.{list_all}
use Rattle.nq_form.specs.Bytes.{is_separator}

abbrev pub is_no_line_end : ℕ → Bool
is_no_line_end b = not (nat_eq b 10)

-- the byte and the next one begin or end a comment: #| or |#
abbrev pub makes_pair : ℕ → List ℕ → Bool
makes_pair b [] = false
makes_pair b (c ∷ bs) = nat_eq b 35 && nat_eq c 124 || nat_eq b 124 && nat_eq c 35

-- The rest of so many nested comments, up to the end of the outermost.
pub data Comment : ℕ → List ℕ → Type 0 where
  outside : Comment 0 []
  closes : {n : ℕ} {v : List ℕ} → Comment n v → Comment (suc n) (124 ∷ 35 ∷ v)
  opens : {n : ℕ} {v : List ℕ} → Comment (suc (suc n)) v → Comment (suc n) (35 ∷ 124 ∷ v)
  other : {n : ℕ} {v : List ℕ} (b : ℕ) → IsTrue (not (makes_pair b v)) → Comment (suc n) v → Comment (suc n) (b ∷ v)

-- The same of comments whose end isn't there yet.
pub data Commenting : ℕ → List ℕ → Type 0 where
  cut : {n : ℕ} → Commenting (suc n) []
  closes : {n : ℕ} {v : List ℕ} → Commenting n v → Commenting (suc n) (124 ∷ 35 ∷ v)
  opens : {n : ℕ} {v : List ℕ} → Commenting (suc (suc n)) v → Commenting (suc n) (35 ∷ 124 ∷ v)
  other : {n : ℕ} {v : List ℕ} (b : ℕ) → IsTrue (not (makes_pair b v)) → Commenting (suc n) v → Commenting (suc n) (b ∷ v)

-- a separator, a comment to the end of its line, or a nested comment
pub data IsBlank : List ℕ → Type 0 where
  separator : (b : ℕ) → IsTrue (is_separator b) → IsBlank (b ∷ [])
  line : (c : List ℕ) → IsTrue (list_all is_no_line_end c) → IsBlank (59 ∷ c ++ 10 ∷ [])
  block : {c : List ℕ} → Comment 1 c → IsBlank (35 ∷ 124 ∷ c)

-- The bytes of a string, from the text between its quotation marks: a backslash takes the next byte as it is.
pub data Quotes : List ℕ → List ℕ → Type 0 where
  empty : Quotes [] []
  plain : {s bytes : List ℕ} (b : ℕ) → b ≢ 34 → b ≢ 92 → Quotes s bytes → Quotes (b ∷ s) (b ∷ bytes)
  escaped : {s bytes : List ℕ} (b : ℕ) → Quotes s bytes → Quotes (92 ∷ b ∷ s) (b ∷ bytes)
