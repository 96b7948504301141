-- The text of a sample: the file of events that a seed and a size give.
use Rattle.std.specs.Prelude.{◌+◌, ◌*◌, ◌%◌, ◌==◌, if◌then◌else◌, ℕ, zero, suc, List, [], ◌∷◌, ◌++◌, codes}
use Rattle.std.specs.Fmt.{decimal}
use Rattle.std.specs.List.{flat_map}
use Rattle.nq_sample.specs.declared.event.EventKind.{EventKind}
use Rattle.nq_sample.specs.declared.event.EventKind.TheVariants.{Plain, Tautology, Sum, Recursive}

-- where x starts
abbrev pub start : (seed : ℕ) → ℕ
start seed = seed % 65537

-- a draw sets x to this, and gives it
abbrev pub draw : (x : ℕ) → ℕ
draw x = (75 * x + 74) % 65537

-- the event that these three draws give
abbrev pub kind_by : (d a b : ℕ) → EventKind
kind_by d a b =
    if d % 4 == 0 then Plain (a % 100)
    else if d % 4 == 1 then Tautology
    else if d % 4 == 2 then Sum (a % 100) (b % 100)
    else Recursive (a % 100)

-- the event that the next three draws give
abbrev pub kind_from : (x : ℕ) → EventKind
kind_from x = kind_by (draw x) (draw (draw x)) (draw (draw (draw x)))

-- the pieces one after another
abbrev pub joined : List (List ℕ) → List ℕ
joined = flat_map (λ piece. piece)

-- the line of event i
abbrev pub event_line : (i : ℕ) → EventKind → List ℕ
event_line i (Plain a) = joined (codes "(DEFN S" ∷ decimal i ∷ codes " (X Y) (PLUS X (TIMES " ∷ decimal a ∷ codes " Y)))" ∷ [])
event_line i Tautology = joined (codes "(PROVE-LEMMA S" ∷ decimal i ∷ codes " NIL (IMPLIES (AND P Q) (OR Q R)))" ∷ [])
event_line i (Sum a b) = joined (codes "(PROVE-LEMMA S" ∷ decimal i ∷ codes " NIL (EQUAL (PLUS " ∷ decimal a ∷ codes " " ∷ decimal b
    ∷ codes ") " ∷ decimal (a + b) ∷ codes "))" ∷ [])
event_line i (Recursive a) = joined (codes "(DEFN S" ∷ decimal i ∷ codes " (X) (IF (LISTP X) (ADD1 (S" ∷ decimal i
    ∷ codes " (CDR X))) " ∷ decimal a ∷ codes "))" ∷ [])

-- x once so many events were drawn, three draws each
abbrev pub x_after : (seed events : ℕ) → ℕ
x_after seed zero = start seed
x_after seed (suc events) = draw (draw (draw (x_after seed events)))

-- the text for a seed and a size: a first line, and one line for each event from 1 to the size
abbrev pub sample_of : (seed size : ℕ) → List ℕ
sample_of seed zero = codes "(BOOT-STRAP NQTHM)\n"
sample_of seed (suc size) = sample_of seed size ++ event_line (suc size) (kind_from (x_after seed size)) ++ codes "\n"
