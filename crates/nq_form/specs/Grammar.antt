-- The forms of a text, by its grammar.
use Rattle.std.specs.Prelude.{◌≡◌, ◌⊎◌, Option, None, Some, ℕ, suc, ◌+◌, ◌<◌, ◌≤◌, Bool, true, false, not, IsTrue, List, [], ◌∷◌, ◌++◌, length}
use Rattle.std.specs.List.{list_all}
use Rattle.nq_form.specs.Form.{Form, Forms, text, quoted, listed, end, dotted, next, push, append}
use Rattle.nq_form.specs.Bytes.{is_constituent, is_opening, is_known, is_closed, begins_apart, begins_no_bar}
use Rattle.nq_form.specs.Token.{Token, IsWide, IsBad}
use Rattle.nq_form.specs.Blank.{is_no_line_end, Commenting, IsBlank, Quotes}

-- A text is these forms with blanks between them, nested in at most so many levels.
-- A token is a longest run of constituents: it follows none, and the text may end in one.
pub data Items : ℕ → List ℕ → Forms → Type 0 where
  none : {d : ℕ} → Items d [] end
  blank : {d : ℕ} {t : List ℕ} {fs : Forms} (v : List ℕ) → Items d t fs → IsBlank v → Items d (t ++ v) fs
  token : {d : ℕ} {t : List ℕ} {fs : Forms} {f : Form} (w : List ℕ) → Items d t fs → IsTrue (is_closed t) → Token w f → Items d (t ++ w) (push fs f)
  string : {d : ℕ} {t s bytes : List ℕ} {fs : Forms} → Items d t fs → Quotes s bytes → Items d (t ++ 34 ∷ s ++ 34 ∷ []) (push fs (text bytes))
  quote : {d : ℕ} {t u : List ℕ} {fs : Forms} {f : Form} → Items (suc d) t fs → Items d u (next f end) → Items (suc d) (t ++ 39 ∷ u) (push fs (quoted f))
  nested : {d : ℕ} {t u : List ℕ} {fs gs : Forms} → Items (suc d) t fs → Items d u gs → Items (suc d) (t ++ 40 ∷ u ++ 41 ∷ []) (push fs (listed gs))
  -- a list with a dotted tail
  tailed : {d : ℕ} {t u v : List ℕ} {fs gs : Forms} {f g : Form} → Items (suc d) t fs → Items d u (next g gs) → Items d v (next f end) → IsTrue (is_closed u) → IsTrue (begins_apart v)
      → Items (suc d) (t ++ 40 ∷ u ++ 46 ∷ v ++ 41 ∷ []) (push fs (listed (append (next g gs) (dotted f))))

-- What stands around the end of a text that may go on: nothing, a list without elements or with some, a dot, a dot and its form, or a quote mark.
pub data Spot : Type 0 where
  outermost : Spot
  in_empty : Spot
  in_list : Spot
  past_dot : Spot
  past_tail : Spot
  past_mark : Spot

-- a form may come next
abbrev pub takes_form : Spot → Bool
takes_form past_tail = false
takes_form _ = true

-- a dot may come next
abbrev pub takes_dot : Spot → Bool
takes_dot in_list = true
takes_dot _ = false

abbrev pub spot_in : Forms → Spot
spot_in end = in_empty
spot_in _ = in_list

abbrev pub spot_past : Forms → Spot
spot_past end = past_dot
spot_past _ = past_tail

-- the place of the outermost list: the first one that was opened
abbrev pub first_place : Option ℕ → ℕ → ℕ
first_place None at = at
first_place (Some place) at = place

-- A text is these whole forms, and then lists, dotted tails and quotes that are still open, so many levels of them.
pub data Open : Spot → Option ℕ → ℕ → ℕ → List ℕ → Forms → Type 0 where
  whole : {d : ℕ} {t : List ℕ} {fs : Forms} → Items d t fs → Open outermost None d 0 t fs
  list : {s : Spot} {o : Option ℕ} {d n : ℕ} {t u : List ℕ} {fs gs : Forms} → Open s o (suc d) n t fs → IsTrue (takes_form s) → Items d u gs
      → Open (spot_in gs) (Some (first_place o (length t))) d (suc n) (t ++ 40 ∷ u) fs
  dot : {o : Option ℕ} {d n : ℕ} {t u : List ℕ} {fs gs : Forms} → Open in_list o d n t fs → IsTrue (is_closed t) → Items d u gs → IsTrue (begins_apart u) → (gs ≡ end) ⊎ ((f : Form) × (gs ≡ next f end))
      → Open (spot_past gs) o d n (t ++ 46 ∷ u) fs
  mark : {s : Spot} {o : Option ℕ} {d n : ℕ} {t u : List ℕ} {fs : Forms} → Open s o (suc d) n t fs → IsTrue (takes_form s) → Items d u end
      → Open past_mark o d (suc n) (t ++ 39 ∷ u) fs

-- What has begun and isn't whole: a token, a sharp sign, a comment, or a string where a form may stand.
pub data Begun : Spot → List ℕ → Type 0 where
  nothing : {s : Spot} → Begun s []
  word : {s : Spot} (w : List ℕ) → IsTrue (list_all is_constituent w) → Begun s w
  sharp : {s : Spot} → Begun s (35 ∷ [])
  line : {s : Spot} (c : List ℕ) → IsTrue (list_all is_no_line_end c) → Begun s (59 ∷ c)
  block : {s : Spot} {c : List ℕ} → Commenting 1 c → Begun s (35 ∷ 124 ∷ c)
  string : {s : Spot} {q bytes : List ℕ} → IsTrue (takes_form s) → Quotes q bytes → Begun s (34 ∷ q)
  escape : {s : Spot} {q bytes : List ℕ} → IsTrue (takes_form s) → Quotes q bytes → Begun s (34 ∷ q ++ 92 ∷ [])

-- No token goes on over the seam of two texts.
abbrev pub Seam : List ℕ → List ℕ → Type 0
Seam t u = IsTrue (is_closed t) ⊎ (IsTrue (begins_apart u) × (0 < length u))

-- A text holds these forms whole, and then what is still open and what has begun.
pub data Holds (levels : ℕ) : List ℕ → Forms → Type 0 where
  holds : {s : Spot} {o : Option ℕ} {d n : ℕ} {t v : List ℕ} {fs : Forms} → Open s o d n t fs → d + n ≡ levels → Seam t v → Begun s v → Holds levels (t ++ v) fs

-- What is a fault behind a text that ends at such a spot, with such a code at its first byte. Its last byte shows it.
pub data Stops : Spot → ℕ → List ℕ → ℕ → Type 0 where
  -- a byte of no kind
  unknown : {s : Spot} {d : ℕ} (b : ℕ) → IsTrue (not (is_known b)) → Stops s d (b ∷ []) 2
  -- an opening or a quote mark one level too deep
  too_deep : {s : Spot} (b : ℕ) → (b ≡ 40) ⊎ (b ≡ 39) → IsTrue (takes_form s) → Stops s 0 (b ∷ []) 4
  -- a closing parenthesis behind a dot: the place is that of the dot
  no_tail : {d : ℕ} {u : List ℕ} → Items d u end → IsTrue (begins_apart u) → Stops in_list d (46 ∷ u ++ 41 ∷ []) 2
  -- a list, a quote or a string behind a dot and its form
  two_tails : {d : ℕ} {u : List ℕ} {f : Form} (b : ℕ) → Items d u (next f end) → IsTrue (begins_apart u) → IsTrue (is_opening b) → Stops in_list d (46 ∷ u ++ b ∷ []) 2

-- The same of tokens, which are judged when they are whole.
pub data Judged : Spot → ℕ → List ℕ → ℕ → Type 0 where
  bad : {s : Spot} {d : ℕ} {w : List ℕ} → IsBad w → Judged s d w 2
  too_wide : {s : Spot} {d : ℕ} {w : List ℕ} → IsWide w → Judged s d w 3
  misplaced : {s : Spot} {d : ℕ} → IsTrue (not (takes_dot s)) → Judged s d (46 ∷ []) 2
  two_tails : {d : ℕ} {u : List ℕ} {f g : Form} (w : List ℕ) → Items d u (next f end) → IsTrue (begins_apart u) → IsTrue (is_closed u) → Token w g → Judged in_list d (46 ∷ u ++ w) 2

-- the end of a text, perhaps in the comment of its last line
pub data IsLast : List ℕ → Type 0 where
  bare : IsLast []
  comment : (c : List ℕ) → IsTrue (list_all is_no_line_end c) → IsLast (59 ∷ c)

-- a comment or a string whose end is missing
pub data Unfinished : Spot → List ℕ → Type 0 where
  block : {s : Spot} {c : List ℕ} → Commenting 1 c → Unfinished s (35 ∷ 124 ∷ c)
  string : {s : Spot} {q bytes : List ℕ} → IsTrue (takes_form s) → Quotes q bytes → Unfinished s (34 ∷ q)
  escape : {s : Spot} {q bytes : List ℕ} → IsTrue (takes_form s) → Quotes q bytes → Unfinished s (34 ∷ q ++ 92 ∷ [])

pub data Ending : Type 0 where
  done : Ending
  fault : ℕ → ℕ → Ending
  too_long : Ending

-- the ending, with places counted from so many bytes before
abbrev pub shifted : ℕ → Ending → Ending
shifted n done = done
shifted n (fault code place) = fault code (n + place)
shifted n too_long = too_long

-- A text of which no more than so many bytes are read, and what comes behind it: its next byte is read too, if there is one.
abbrev pub Seen : ℕ → List ℕ → List ℕ → Type 0
Seen limit t more = (length t ≤ limit) × ((more ≡ []) ⊎ (length t < limit))

-- The forms of a whole text, of which no more than so many bytes are read, and how it ends.
pub data Reads (levels limit : ℕ) : List ℕ → Forms → Ending → Type 0 where
  to_end : {t v : List ℕ} {fs : Forms} → Items levels t fs → IsLast v → length (t ++ v) ≤ limit → Reads levels limit (t ++ v) fs done
  -- the end in a list: the place is that of the outermost one
  unclosed : {s : Spot} {d n place : ℕ} {t v : List ℕ} {fs : Forms} → Open s (Some place) d n t fs → d + n ≡ levels → IsLast v ⊎ Unfinished s v → length (t ++ v) ≤ limit
      → Reads levels limit (t ++ v) fs (fault 1 place)
  -- the end in a string or a comment, in no list
  unfinished : {s : Spot} {d n : ℕ} {t v : List ℕ} {fs : Forms} → Open s None d n t fs → d + n ≡ levels → Unfinished s v → length (t ++ v) ≤ limit → Reads levels limit (t ++ v) fs (fault 1 (length t))
  -- the end behind a quote mark, in no list
  unquoted : {s : Spot} {d n : ℕ} {t u v : List ℕ} {fs : Forms} → Open s None (suc d) n t fs → d + suc n ≡ levels → Items d u end → IsLast v → length (t ++ 39 ∷ u ++ v) ≤ limit
      → Reads levels limit (t ++ 39 ∷ u ++ v) fs (fault 2 (length t))
  -- a closing parenthesis where no list is open
  unopened : {s : Spot} {d n : ℕ} {t : List ℕ} {fs : Forms} (more : List ℕ) → Open s None d n t fs → d + n ≡ levels → length t < limit → Reads levels limit (t ++ 41 ∷ more) fs (fault 1 (length t))
  -- a closing parenthesis behind a quote mark, in a list
  unmarked : {d n place : ℕ} {t : List ℕ} {fs : Forms} (more : List ℕ) → Open past_mark (Some place) d n t fs → d + n ≡ levels → length t < limit → Reads levels limit (t ++ 41 ∷ more) fs (fault 2 (length t))
  stopped : {s : Spot} {o : Option ℕ} {d n code : ℕ} {t v : List ℕ} {fs : Forms} (more : List ℕ) → Open s o d n t fs → d + n ≡ levels → Seam t v → Stops s d v code → length (t ++ v) ≤ limit
      → Reads levels limit (t ++ v ++ more) fs (fault code (length t))
  -- a token, which the next byte doesn't carry on
  judged : {s : Spot} {o : Option ℕ} {d n code : ℕ} {t w : List ℕ} {fs : Forms} (more : List ℕ) → Open s o d n t fs → d + n ≡ levels → IsTrue (is_closed t) → Judged s d w code
      → IsTrue (begins_apart more) → Seen limit (t ++ w) more → Reads levels limit (t ++ w ++ more) fs (fault code (length t))
  -- a sharp sign that begins no comment
  sharp : {s : Spot} {o : Option ℕ} {d n : ℕ} {t : List ℕ} {fs : Forms} (more : List ℕ) → Open s o d n t fs → d + n ≡ levels → IsTrue (begins_no_bar more) → Seen limit (t ++ 35 ∷ []) more
      → Reads levels limit (t ++ 35 ∷ more) fs (fault 2 (length t))
  -- more bytes than are read, and no fault that is known before them
  past : {t : List ℕ} {fs : Forms} (b : ℕ) (more : List ℕ) → Holds levels t fs → length t ≡ limit → Reads levels limit (t ++ b ∷ more) fs too_long

-- A text has one list of forms, and one ending.
abbrev pub OneReading : Type 0
OneReading = (levels limit : ℕ) (t : List ℕ) (fs gs : Forms) (e f : Ending) → Reads levels limit t fs e → Reads levels limit t gs f → (fs ≡ gs) × (e ≡ f)

-- Texts that stand one behind the other have the forms of both, unless a token goes on over the seam.
abbrev pub Joins : Type 0
Joins = (levels : ℕ) (t u : List ℕ) (fs gs : Forms) → Items levels t fs → Items levels u gs → IsTrue (is_closed t) ⊎ IsTrue (begins_apart u) → Items levels (t ++ u) (append fs gs)

-- Every text has a reading.
abbrev pub EveryTextReads : Type 0
EveryTextReads = (levels limit : ℕ) (t : List ℕ) → (fs : Forms) × (e : Ending) × Reads levels limit t fs e
