-- Restrictions as choices of kinds.
use Rattle.std.proofs.Common.{◌≡◌, ◌≤◌, ◌<◌, ◌+◌, ℕ, Bool, true, false, List, [], ◌∷◌, length, refl, sym, subst, arith}
use Rattle.std.proofs.lemmas.List.{length-map}
use Rattle.nq_logic.specs.Terms.{Name, Term}
use Rattle.nq_logic.specs.Names.{has_name}
use Rattle.nq_logic.specs.ShellPrinciple.{Meets, listed}
use Rattle.nq_logic.specs.Shells.{either_of, recognized, restricted}
use Rattle.nq_logic.specs.Sizes.{depth_of}
use Rattle.nq_logic.specs.Words.{not_term}
use Rattle.nq_logic.proofs.Tests.{names_found_law, true_not_false}
use Rattle.nq_bank.specs.declared.node.Sym.{Sym}
use Rattle.nq_bank.specs.Content.{Content, text_at}
use Rattle.nq_bank.specs.Shells.{restriction_of, texts_at}
use Rattle.nq_kernel.specs.declared.work.Work.{Work}
use Rattle.nq_kernel.specs.Ready.{recognizer_limit}
use Rattle.nq_lines.specs.Lines.{LineHasOnly}
use Rattle.nq_part_lines.specs.Decisions.{told}
use Rattle.nq_part_lines.specs.Defaults.{is_free, truth_name, truth_term}
use Rattle.nq_part_lines.specs.LawLines.{term_room}
use Rattle.nq_part_lines.proofs.CallLemmas.{one_depth}
use Rattle.nq_part_lines.proofs.RoomLemmas.{constant_low, either_low}

pub texts_many : (bank : Content) (names : List Sym) → length (texts_at bank names) ≡ length names
texts_many bank names = length-map names (text_at bank)

pub listed_is : (one_of : Bool) (rs : List Name) → listed (restriction_of one_of rs) ≡ rs
listed_is true rs = refl
listed_is false rs = refl

-- a restriction that is one, and that something meets, names some kind
pub some_named : (one_of : Bool) (rs : List Name) (k : Name) → is_free (restriction_of one_of rs) ≡ false → Meets (restriction_of one_of rs) k → 0 < length rs
some_named true [] k free meets = absurd meets
some_named false [] k free meets = absurd (true_not_false true refl free)
some_named one_of (r ∷ rs) k free meets = omega arith

not_true : (b : Bool) → (b ≡ true → ⊥) → b ≡ false
not_true true h = absurd (h refl)
not_true false h = refl

-- the kind is named where one of those named is asked for, and else not
pub named_is : (one_of : Bool) (rs : List Name) (k : Name) → Meets (restriction_of one_of rs) k → has_name k rs ≡ one_of
named_is true rs k meets = (names_found_law k rs).1 meets
named_is false rs k meets = not_true (has_name k rs) (λ e. meets ((names_found_law k rs).0 e))

pub restricted_is : (one_of : Bool) (rs : List Name) (t : Term) → 0 < length rs → restricted (restriction_of one_of rs) t ≡ told one_of (either_of (recognized rs t))
restricted_is true rs t some = refl
restricted_is false [] t some = absurd (omega (arith, some))
restricted_is false (r ∷ rs) t some = refl

-- the line of a restriction
pub meets_line : (work : Work) (n : ℕ) (one_of : Bool) (rs : List Name) (k : Name) (t : Term) → is_free (restriction_of one_of rs) ≡ false → Meets (restriction_of one_of rs) k → LineHasOnly work n (told (has_name k rs) (either_of (recognized rs t)) ∷ []) → LineHasOnly work n (restricted (restriction_of one_of rs) t ∷ [])
meets_line work n one_of rs k t free meets line =
    subst (λ u. LineHasOnly work n (u ∷ [])) (sym (restricted_is one_of rs t (some_named one_of rs k free meets))) (
    subst (λ b. LineHasOnly work n (told b (either_of (recognized rs t)) ∷ [])) (named_is one_of rs k meets) line)

-- how deep the NOT of a choice of kinds is
pub not_room : (rs : List Name) (value : Bool) (a : Term) → length rs ≤ recognizer_limit → a ≡ either_of (recognized rs (truth_term value)) → depth_of (not_term a) ≤ term_room
not_room rs value a few e =
    let base : depth_of (truth_term value) ≤ 1 = constant_low (truth_name value) in
    let more : depth_of (either_of (recognized rs (truth_term value))) ≤ length rs + depth_of (truth_term value) + 1 = either_low rs (truth_term value) in
    let low : depth_of (not_term (either_of (recognized rs (truth_term value)))) ≤ depth_of (either_of (recognized rs (truth_term value))) + 1 = one_depth _ (either_of (recognized rs (truth_term value))) in
    let room : depth_of (not_term (either_of (recognized rs (truth_term value)))) ≤ term_room = omega (arith, base, more, low, few) in
    subst (λ u. depth_of (not_term u) ≤ term_room) (sym e) room
