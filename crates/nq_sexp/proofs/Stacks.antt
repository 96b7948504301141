-- The machine's stack, from the top of the program's.
use Rattle.std.proofs.Common.{◌≡◌, ℕ, suc, ◌+◌, ◌-◌, ◌<◌, ◌≤◌, true, false, List, [], ◌∷◌, ◌++◌, length, drop, get_or, refl, ap, sym, ◌∙◌, subst, arith, append-nil, slice_get, nat_eq, drop-cons}
use Rattle.std.specs.Prelude.{Option, None, Some, Result, IfSome, option_to_list, not}
use Rattle.std.proofs.lemmas.Bool.{eqb-true}
use Rattle.std.proofs.lemmas.Bool.Decides.{nat_tests}
use Rattle.std.proofs.lemmas.Grind.{common_steps}
use Rattle.nq_form.specs.Form.{Form, Forms, quoted, listed, end, dotted, next, push, append}
use Rattle.nq_form.specs.Machine.{Opened as OpenedPart, list, dot, mark, Frame as FramePart, Stack as StackPart, first_list, levels_with, levels_of, spot_at, spot_of, opened_on, mark_end, end_of, State, stopped, idle, outer, put, put_at, give, close, close_at, close_dot}
use Rattle.nq_form.specs.Grammar.{first_place, takes_form, takes_dot, fault}
use Rattle.nq_sexp.specs.Tree.{tree, trees}
use Rattle.nq_sexp.specs.Stacks.{opened_of, frame_of, frames_on, frames_of, left_level, is_list_opened, is_mark, is_marked, Leads}
use Rattle.nq_sexp.specs.declared.Sexp.{Sexp}
use Rattle.nq_sexp.specs.declared.stack.Opened.{Opened}
use Rattle.nq_sexp.specs.declared.stack.Opened.TheVariants.{List as list_opened, Dot, Mark}
use Rattle.nq_sexp.specs.declared.stack.Frame.{Frame}
use Rattle.nq_sexp.specs.declared.fault.ReadFault.{ReadFault}

pub frames_on-last : (under : List FramePart) (fs : List Frame) (f : Frame) → frames_on under (fs ++ f ∷ []) ≡ frame_of f ∷ frames_on under fs
frames_on-last under [] f = refl
frames_on-last under (g ∷ fs) f = frames_on-last (frame_of g ∷ under) fs f

-- the last frame is on top
pub last-top : (under : List FramePart) (fs : List Frame) (f : Frame) → Some f ≡ slice_get fs (length fs - 1) → (rest : List FramePart) × (frames_on under fs ≡ frame_of f ∷ rest)
last-top under [] f e = cc
last-top under (g ∷ []) f e = let same : f ≡ g = cc in (under, ap (λ (z : Frame). frame_of z ∷ under) (sym same))
last-top under (g ∷ h ∷ fs) f e =
    let next_is : slice_get (g ∷ h ∷ fs) (length (g ∷ h ∷ fs) - 1) ≡ slice_get (h ∷ fs) (length (h ∷ fs) - 1) = grind (arith, common_steps) in
    last-top (frame_of g ∷ under) (h ∷ fs) f (e ∙ next_is)

pub no_last-empty : (fs : List Frame) → None ≡ slice_get fs (length fs - 1) → fs ≡ []
no_last-empty [] e = refl
no_last-empty (g ∷ fs) e = absurd (none fs g e)
  where
    none : (fs : List Frame) (g : Frame) → None ≡ slice_get (g ∷ fs) (length (g ∷ fs) - 1) → ⊥
    none [] g e = cc
    none (h ∷ fs) g e =
        let next_is : slice_get (g ∷ h ∷ fs) (length (g ∷ h ∷ fs) - 1) ≡ slice_get (h ∷ fs) (length (h ∷ fs) - 1) = grind (arith, common_steps) in
        none fs h (e ∙ next_is)

pub popped-top : (olds news : List Frame) (r : Option Frame) (f : Frame) → olds ≡ news ++ option_to_list r → r ≡ Some f → frames_of olds ≡ frame_of f ∷ frames_of news
popped-top olds news r f e s = ap frames_of (e ∙ ap (λ (z : Option Frame). news ++ option_to_list z) s) ∙ frames_on-last [] news f

pub popped-none : (olds news : List Frame) (r : Option Frame) → olds ≡ news ++ option_to_list r → r ≡ None → olds ≡ news
popped-none olds news r e s = e ∙ ap (λ (z : Option Frame). news ++ option_to_list z) s ∙ append-nil news

pub pushed-top : (olds news : List Frame) (f : Frame) → news ≡ olds ++ f ∷ [] → frames_of news ≡ frame_of f ∷ frames_of olds
pushed-top olds news f e = ap frames_of e ∙ frames_on-last [] olds f

pub trees-last : (forms : List Sexp) (form : Sexp) → trees (forms ++ form ∷ []) end ≡ push (trees forms end) (tree form)
trees-last [] form = refl
trees-last (f ∷ fs) form = ap (λ (z : Forms). next (tree f) z) (trees-last fs form)

pub trees-append : (forms : List Sexp) (rest : Forms) → trees forms rest ≡ append (trees forms end) rest
trees-append [] rest = refl
trees-append (f ∷ fs) rest = ap (λ (z : Forms). next (tree f) z) (trees-append fs rest)

-- the outermost list, from the first frame on
abbrev pub list_or : Opened → ℕ → Option ℕ → Option ℕ
list_or list_opened place o = Some place
list_or Dot place o = o
list_or Mark place o = o

abbrev pub list_in : List Frame → Option ℕ
list_in [] = None
list_in (f ∷ fs) = list_or f.opened f.place (list_in fs)

abbrev or_else : Option ℕ → Option ℕ → Option ℕ
or_else None o = o
or_else (Some place) o = Some place

or-none : (o : Option ℕ) → o ≡ or_else o None
or-none None = refl
or-none (Some place) = refl

first-on : (under : List FramePart) (fs : List Frame) → first_list (frames_on under fs) ≡ or_else (first_list under) (list_in fs)
first-on under [] = or-none (first_list under)
first-on under (f ∷ fs) = first-on (frame_of f ∷ under) fs ∙ at f.opened (first_list under)
  where
    at : (o : Opened) (p : Option ℕ) → or_else (first_list (record { opened = opened_of o; forms = trees f.forms.items end; place = f.place } ∷ under)) (list_in fs) ≡ or_else (first_list under) (list_or o f.place (list_in fs))
    at list_opened p = in_list (first_list under)
      where
        in_list : (p : Option ℕ) → or_else (Some (first_place p f.place)) (list_in fs) ≡ or_else p (Some f.place)
        in_list None = refl
        in_list (Some q) = refl
    at Dot p = refl
    at Mark p = refl

pub first-in : (fs : List Frame) → first_list (frames_of fs) ≡ list_in fs
first-in fs = first-on [] fs

pub levels-under : (f : FramePart) (under : List FramePart) → levels_of under ≤ levels_of (f ∷ under)
levels-under f under = at f.opened
  where
    at : (o : OpenedPart) → levels_of under ≤ levels_with o (levels_of under)
    at list = omega arith
    at dot = omega arith
    at mark = omega arith

pub left-is : (frames : List FramePart) (f : FramePart) (under : List FramePart) (k : StackPart) (d : ℕ) → frames ≡ f ∷ under → d ≡ k.depth + 1 → record { frames = under; forms = f.forms; depth = d } ≡ left_level frames k
left-is frames f under k d e h =
    let depth : d ≡ suc k.depth = omega (arith, h) in
    ap (λ (z : ℕ). record { frames = under; forms = f.forms; depth = z }) depth ∙ ap (λ (z : List FramePart). left_level z k) (sym e)

none_left : (n : ℕ) (xs : List Sexp) → n ≡ length xs → xs ≡ [] → nat_eq n 0 ≡ true
none_left n xs e h = let zero_is : n ≡ 0 = e ∙ ap (λ (z : List Sexp). length z) h in ap (λ (z : ℕ). nat_eq z 0) zero_is

some_left : (n : ℕ) (x : Sexp) (xs : List Sexp) → n ≡ length (x ∷ xs) → nat_eq n 0 ≡ false
some_left n x xs e = positive n (omega (arith, e))
  where
    positive : (n : ℕ) → 0 < n → nat_eq n 0 ≡ false
    positive n h = grind (arith, nat_tests)

pub dot-takes : (frames : List FramePart) (f : FramePart) (under : List FramePart) (items : List Sexp) (n : ℕ) → frames ≡ f ∷ under → f.opened ≡ dot → n ≡ length items → nat_eq n 0 ≡ takes_form (spot_of frames (trees items end))
dot-takes frames f under items n e o h = at items h ∙ sym (ap (λ (z : List FramePart). takes_form (spot_of z (trees items end))) e ∙ ap (λ (z : OpenedPart). takes_form (spot_at z (trees items end))) o)
  where
    at : (items : List Sexp) → n ≡ length items → nat_eq n 0 ≡ takes_form (spot_at dot (trees items end))
    at [] h = none_left n [] h refl
    at (x ∷ xs) h = some_left n x xs h

pub list-takes_dot : (frames : List FramePart) (f : FramePart) (under : List FramePart) (items : List Sexp) (n : ℕ) → frames ≡ f ∷ under → f.opened ≡ list → n ≡ length items → not (nat_eq n 0) ≡ takes_dot (spot_of frames (trees items end))
list-takes_dot frames f under items n e o h = at items h ∙ sym (ap (λ (z : List FramePart). takes_dot (spot_of z (trees items end))) e ∙ ap (λ (z : OpenedPart). takes_dot (spot_at z (trees items end))) o)
  where
    at : (items : List Sexp) → n ≡ length items → not (nat_eq n 0) ≡ takes_dot (spot_at list (trees items end))
    at [] h = ap not (none_left n [] h refl)
    at (x ∷ xs) h = ap not (some_left n x xs h)

pub found-list : (fs : List Frame) (i : ℕ) (f : Frame) → i < length fs → f ≡ get_or fs i f → is_list_opened f.opened ≡ true → list_in fs ≡ list_in (drop i fs) → Some f.place ≡ first_list (frames_of fs)
found-list fs i f lt e l h =
    let front : drop i fs ≡ f ∷ drop (suc i) fs = drop-cons fs i f lt ∙ ap (λ (z : Frame). z ∷ drop (suc i) fs) (sym e) in
    sym (first-in fs ∙ h ∙ ap list_in front ∙ at f.opened l)
  where
    at : (o : Opened) → is_list_opened o ≡ true → list_or o f.place (list_in (drop (suc i) fs)) ≡ Some f.place
    at list_opened l = refl
    at Dot l = cc
    at Mark l = cc

pub no-list : (fs : List Frame) (i : ℕ) → length fs ≤ i → list_in fs ≡ list_in (drop i fs) → None ≡ first_list (frames_of fs)
no-list fs i h e = let all : drop i fs ≡ [] = grind (arith, common_steps) in sym (first-in fs ∙ e ∙ ap list_in all)

pub end-marked : (k : StackPart) (f : FramePart) (rest : List FramePart) → None ≡ first_list k.frames → k.frames ≡ f ∷ rest → (end_of (first_list k.frames) k).ending ≡ fault 2 f.place
end-marked k f rest n e = ap (λ (z : Option ℕ). (end_of z k).ending) (sym n) ∙ ap (λ (z : List FramePart). (mark_end z k.forms).ending) e

pub whole-some : (r : Option Sexp) (frames : List Frame) (n : ℕ) (olds news : List Sexp) → nat_eq n 0 ≡ true → n ≡ length frames → olds ≡ news ++ option_to_list r
    → IfSome r (λ form. (frames_of frames ≡ []) × ((fs : Forms) × (trees olds end ≡ push fs (tree form))))
whole-some None frames n olds news z e h = tt
whole-some (Some form) frames n olds news z e h = (ap frames_of (no_frames frames (e_zero z)), (trees news end, ap (λ (y : List Sexp). trees y end) h ∙ trees-last news form))
  where
    e_zero : nat_eq n 0 ≡ true → length frames ≡ 0
    e_zero z = let none : n ≡ 0 = eqb-true n 0 z in sym e ∙ none

    no_frames : (fs : List Frame) → length fs ≡ 0 → fs ≡ []
    no_frames [] h = refl
    no_frames (f ∷ fs) h = absurd (omega (arith, h))

frames_on-some : (u : FramePart) (under : List FramePart) (fs : List Frame) → frames_on (u ∷ under) fs ≡ [] → ⊥
frames_on-some u under [] e = cc
frames_on-some u under (g ∷ fs) e = frames_on-some (frame_of g) (u ∷ under) fs e

pub frames-some : (fs : List Frame) (n : ℕ) → nat_eq n 0 ≡ false → n ≡ length fs → frames_of fs ≡ [] → ⊥
frames-some [] n z e h = let same : true ≡ false = sym (ap (λ (y : ℕ). nat_eq y 0) e) ∙ z in cc
frames-some (f ∷ fs) n z e h = frames_on-some (frame_of f) [] fs h

pub opened-is : (what : OpenedPart) (place d : ℕ) (k : StackPart) (frames : List FramePart) (forms : Forms) → frames ≡ record { opened = what; forms = k.forms; place = place } ∷ k.frames → forms ≡ end
    → record { frames = frames; forms = forms; depth = d } ≡ opened_on what place k d
opened-is what place d k frames forms e h = ap (λ (z : List FramePart). record { frames = z; forms = forms; depth = d }) e ∙ ap (λ (z : Forms). record { frames = record { opened = what; forms = k.forms; place = place } ∷ k.frames; forms = z; depth = d }) h

pub left-shorter : (k new : StackPart) → is_marked k.frames ≡ true → new ≡ left_level k.frames k → length new.frames < length k.frames
left-shorter k new m e = at k.frames m e
  where
    at : (frames : List FramePart) → is_marked frames ≡ true → new ≡ left_level frames k → length new.frames < length frames
    at [] m e = cc
    at (f ∷ under) m e = let same : length new.frames ≡ length under = ap (λ (z : StackPart). length z.frames) e in omega (arith, same)

-- a form that ends no quote
pub given-is : (k : StackPart) (g : Form) (forms : Forms) → is_marked k.frames ≡ false → forms ≡ push k.forms g → record { frames = k.frames; forms = forms; depth = k.depth } ≡ give k g
given-is k g forms m e = ap (λ (z : Forms). record { frames = k.frames; forms = z; depth = k.depth }) e ∙ at k.frames m
  where
    at_top : (o : OpenedPart) (f : FramePart) (under : List FramePart) → is_mark o ≡ false → record { frames = f ∷ under; forms = push k.forms g; depth = k.depth } ≡ put_at o f under k.forms k.depth g (put under f.forms (suc k.depth) (quoted g))
    at_top list f under m = refl
    at_top dot f under m = refl
    at_top mark f under m = cc

    at : (frames : List FramePart) → is_marked frames ≡ false → record { frames = frames; forms = push k.forms g; depth = k.depth } ≡ put frames k.forms k.depth g
    at [] m = refl
    at (f ∷ under) m = at_top f.opened f under m

pub tail-missing : (frames : List FramePart) (items : List Sexp) (p : FramePart) (d at : ℕ) → (frames ≡ [] → ⊥) → None ≡ slice_get items 0 → close_dot (trees items end) p frames d at ≡ stopped (outer frames p.forms) (fault 2 p.place)
tail-missing [] items p d at n e = absurd (n refl)
tail-missing (f ∷ under) [] p d at n e = refl
tail-missing (f ∷ under) (x ∷ xs) p d at n e = cc

pub tail-closed : (k : StackPart) (p : FramePart) (items elements : List Sexp) (tail : Sexp) (g : Form) (new : StackPart) (at : ℕ) → (k.frames ≡ [] → ⊥) → Some tail ≡ slice_get items 0 → p.forms ≡ trees elements end
    → g ≡ listed (trees elements (dotted (tree tail))) → new ≡ give (left_level k.frames k) g → close_dot (trees items end) p k.frames k.depth at ≡ idle new
tail-closed k p [] elements tail g new at n t f e h = cc
tail-closed k p (x ∷ xs) elements tail g new at n t f e h = closed k.frames n h
  where
    form_is : g ≡ listed (append p.forms (dotted (tree x)))
    form_is =
        let same : tail ≡ x = cc in
        e ∙ ap (λ (z : Forms). listed z) (trees-append elements (dotted (tree tail))) ∙ ap (λ (z : Forms). listed (append z (dotted (tree tail)))) (sym f) ∙ ap (λ (z : Sexp). listed (append p.forms (dotted (tree z)))) same

    closed : (frames : List FramePart) → (frames ≡ [] → ⊥) → new ≡ give (left_level frames k) g → close_dot (next (tree x) (trees xs end)) p frames k.depth at ≡ idle new
    closed [] n h = absurd (n refl)
    closed (f ∷ under) n h = sym (ap (λ (z : StackPart). idle z) (h ∙ ap (λ (z : Form). put under f.forms (suc k.depth) z) form_is))

pub close-dot_is : (frames : List FramePart) (f : FramePart) (under : List FramePart) (fs : Forms) (d at : ℕ) → frames ≡ f ∷ under → f.opened ≡ dot → close frames fs d at ≡ close_dot fs f under d at
close-dot_is frames f under fs d at e o = ap (λ (z : List FramePart). close z fs d at) e ∙ ap (λ (z : OpenedPart). close_at z f under fs d at) o

pub close-list_is : (frames : List FramePart) (f : FramePart) (under : List FramePart) (k : StackPart) (at : ℕ) → k.frames ≡ f ∷ under → f.opened ≡ list → close k.frames k.forms k.depth at ≡ idle (give (left_level k.frames k) (listed k.forms))
close-list_is frames f under k at e o =
    ap (λ (z : List FramePart). close z k.forms k.depth at) e ∙ ap (λ (z : OpenedPart). close_at z f under k.forms k.depth at) o
    ∙ sym (ap (λ (z : List FramePart). idle (give (left_level z k) (listed k.forms))) e)

pub leads-as : {A : Type 0} (s r : State) (fs gs : Forms) (new : StackPart) (result : Result A ReadFault) → s ≡ r → fs ≡ gs → Leads s fs new result → Leads r gs new result
leads-as s r fs gs new result e f l = subst (λ (z : Forms). Leads r z new result) f (subst (λ (z : State). Leads z fs new result) e l)

pub top-dot : (frames : List FramePart) (f g : FramePart) (under rest : List FramePart) → frames ≡ f ∷ under → f.opened ≡ dot → frames ≡ g ∷ rest → g.opened ≡ dot
top-dot frames f g under rest e o h = let same : f ≡ g = cc in ap (λ (z : FramePart). z.opened) (sym same) ∙ o
