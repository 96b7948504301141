-- Forms that are given to a stack one by one.
use Rattle.std.proofs.Common.{◌≡◌, ℕ, suc, ◌≤◌, List, [], ◌∷◌, refl, ap, ◌∙◌, arith}
use Rattle.std.specs.Prelude.{IsTrue}
use Rattle.nq_form.specs.Form.{Form, Forms, quoted, end, dotted, next, push, append}
use Rattle.nq_form.specs.Grammar.{Items, none, blank, token, string, quote, nested, tailed}
use Rattle.nq_form.specs.Machine.{Opened, list, dot, mark, Frame, Stack, put_at, put, give, takes}

abbrev pub give_all : Stack → Forms → Stack
give_all k end = k
give_all k (dotted f) = k
give_all k (next f fs) = give_all (give k f) fs

abbrev pub TakesAll : Stack → Forms → Type 0
TakesAll k end = Unit {0}
TakesAll k (dotted f) = Unit {0}
TakesAll k (next f fs) = IsTrue (takes k) × TakesAll (give k f) fs

abbrev pub IsProper : Forms → Type 0
IsProper end = Unit {0}
IsProper (dotted f) = ⊥
IsProper (next f fs) = IsProper fs

pub proper-push : (fs : Forms) (f : Form) → IsProper fs → IsProper (push fs f)
proper-push end f p = tt
proper-push (dotted g) f p = absurd p
proper-push (next g fs) f p = proper-push fs f p

pub items-proper : (d : ℕ) (t : List ℕ) (fs : Forms) → Items d t fs → IsProper fs
items-proper d t fs none = tt
items-proper d t fs (blank {t = u} v p b) = items-proper d u fs p
items-proper d t fs (token {t = u} {fs = gs} {f = f} w p c k) = proper-push gs f (items-proper d u gs p)
items-proper d t fs (string {t = u} {fs = gs} p q) = proper-push gs _ (items-proper d u gs p)
items-proper d t fs (quote {t = u} {fs = gs} p q) = proper-push gs _ (items-proper d u gs p)
items-proper d t fs (nested {t = u} {fs = gs} p q) = proper-push gs _ (items-proper d u gs p)
items-proper d t fs (tailed {t = u} {fs = gs} p q r c a) = proper-push gs _ (items-proper d u gs p)

pub give-push : (k : Stack) (fs : Forms) (f : Form) → IsProper fs → give_all k (push fs f) ≡ give (give_all k fs) f
give-push k end f p = refl
give-push k (dotted g) f p = absurd p
give-push k (next g fs) f p = give-push (give k g) fs f p

pub takes-front : (k : Stack) (fs : Forms) (f : Form) → IsProper fs → TakesAll k (push fs f) → TakesAll k fs
takes-front k end f p h = tt
takes-front k (dotted g) f p h = absurd p
takes-front k (next g fs) f p h = (h.0, takes-front (give k g) fs f p h.1)

pub takes-last : (k : Stack) (fs : Forms) (f : Form) → IsProper fs → TakesAll k (push fs f) → IsTrue (takes (give_all k fs))
takes-last k end f p h = h.0
takes-last k (dotted g) f p h = absurd p
takes-last k (next g fs) f p h = takes-last (give k g) fs f p h.1

put_at-depth : (o : Opened) (f : Frame) (frames : List Frame) (fs : Forms) (d : ℕ) (g : Form) (under : Stack) → suc d ≤ under.depth → d ≤ (put_at o f frames fs d g under).depth
put_at-depth list f frames fs d g under h = omega arith
put_at-depth dot f frames fs d g under h = omega arith
put_at-depth mark f frames fs d g under h = omega (arith, h)

put-depth : (frames : List Frame) (fs : Forms) (d : ℕ) (g : Form) → d ≤ (put frames fs d g).depth
put-depth [] fs d g = omega arith
put-depth (f ∷ frames) fs d g = put_at-depth f.opened f frames fs d g _ (put-depth frames f.forms (suc d) (quoted g))

pub give-depth : (d : ℕ) (k : Stack) (fs : Forms) → d ≤ k.depth → d ≤ (give_all k fs).depth
give-depth d k end h = h
give-depth d k (dotted f) h = h
give-depth d k (next f fs) h = let more : k.depth ≤ (give k f).depth = put-depth k.frames k.forms k.depth f in give-depth d (give k f) fs (omega (arith, h, more))

-- in a list
abbrev pub list_on : Forms → ℕ → List Frame → Forms → ℕ → Stack
list_on gs place frames fs d = record { frames = record { opened = list; forms = gs; place = place } ∷ frames; forms = fs; depth = d }

abbrev pub dot_on : Forms → ℕ → List Frame → Forms → ℕ → Stack
dot_on gs place frames fs d = record { frames = record { opened = dot; forms = gs; place = place } ∷ frames; forms = fs; depth = d }

append-next : (fs gs : Forms) (f : Form) → IsProper fs → append (push fs f) gs ≡ append fs (next f gs)
append-next end gs f p = refl
append-next (dotted g) gs f p = absurd p
append-next (next g fs) gs f p = ap (λ (z : Forms). next g z) (append-next fs gs f p)

append-end : (fs : Forms) → fs ≡ append fs end
append-end end = refl
append-end (dotted f) = refl
append-end (next f fs) = ap (λ (z : Forms). next f z) (append-end fs)

list-takes : (fs : Forms) (gs : Forms) (place : ℕ) (frames : List Frame) (d : ℕ) → IsTrue (takes (list_on gs place frames fs d))
list-takes end gs place frames d = refl
list-takes (dotted f) gs place frames d = refl
list-takes (next f fs) gs place frames d = refl

pub list-takes_all : (hs gs : Forms) (place : ℕ) (frames : List Frame) (fs : Forms) (d : ℕ) → TakesAll (list_on gs place frames fs d) hs
list-takes_all end gs place frames fs d = tt
list-takes_all (dotted f) gs place frames fs d = tt
list-takes_all (next f hs) gs place frames fs d = (list-takes fs gs place frames d, list-takes_all hs gs place frames (push fs f) d)

give-list_more : (hs gs : Forms) (place : ℕ) (frames : List Frame) (fs : Forms) (d : ℕ) → IsProper fs → IsProper hs → give_all (list_on gs place frames fs d) hs ≡ list_on gs place frames (append fs hs) d
give-list_more end gs place frames fs d p q = ap (λ (z : Forms). list_on gs place frames z d) (append-end fs)
give-list_more (dotted f) gs place frames fs d p q = absurd q
give-list_more (next f hs) gs place frames fs d p q =
    give-list_more hs gs place frames (push fs f) d (proper-push fs f p) q ∙ ap (λ (z : Forms). list_on gs place frames z d) (append-next fs hs f p)

pub give-list : (hs gs : Forms) (place : ℕ) (frames : List Frame) (d : ℕ) → IsProper hs → give_all (list_on gs place frames end d) hs ≡ list_on gs place frames hs d
give-list hs gs place frames d q = give-list_more hs gs place frames end d tt q

-- outside all that is open
abbrev pub top_of : Forms → ℕ → Stack
top_of fs d = record { frames = []; forms = fs; depth = d }

pub top-takes_all : (hs fs : Forms) (d : ℕ) → TakesAll (top_of fs d) hs
top-takes_all end fs d = tt
top-takes_all (dotted f) fs d = tt
top-takes_all (next f hs) fs d = (refl, top-takes_all hs (push fs f) d)

give-top_more : (hs fs : Forms) (d : ℕ) → IsProper fs → IsProper hs → give_all (top_of fs d) hs ≡ top_of (append fs hs) d
give-top_more end fs d p q = ap (λ (z : Forms). top_of z d) (append-end fs)
give-top_more (dotted f) fs d p q = absurd q
give-top_more (next f hs) fs d p q = give-top_more hs (push fs f) d (proper-push fs f p) q ∙ ap (λ (z : Forms). top_of z d) (append-next fs hs f p)

pub give-top : (hs : Forms) (d : ℕ) → IsProper hs → give_all (top_of end d) hs ≡ top_of hs d
give-top hs d q = give-top_more hs end d tt q
