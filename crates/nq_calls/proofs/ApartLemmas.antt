-- A name that is not in use is none of the ground history's.
use Rattle.std.proofs.Common.{◌≡◌, Bool, true, false, ◌||◌, refl, sym, ap, ◌∙◌}
use Rattle.std.specs.Prelude.{bytes_eq, codes}
use Rattle.nq_logic.specs.Terms.{Name}
use Rattle.nq_logic.specs.Histories.{History}
use Rattle.nq_logic.specs.Ground.{all_events}
use Rattle.nq_logic.specs.Names.{has_name, events_names, is_reserved, is_in_use}
use Rattle.nq_bank.proofs.Texts.{bytes_eq-true}
use Rattle.nq_calls.specs.Mentions.{IsApart}

zero_used : (h : History) → has_name (codes "ZERO") (events_names (all_events h)) ≡ true
zero_used h = refl

add1_used : (h : History) → has_name (codes "ADD1") (events_names (all_events h)) ≡ true
add1_used h = refl

not_used : (h : History) → has_name (codes "NOT") (events_names (all_events h)) ≡ true
not_used h = refl

-- a name that is used is another than one that is not
other : (f g : Name) (h : History) → has_name g (events_names (all_events h)) ≡ true → is_in_use f h ≡ false → bytes_eq f g ≡ false
other f g h used unused = by_test (bytes_eq f g) refl
  where
    right : (a b : Bool) → (a || b) ≡ false → b ≡ false
    right true b e = absurd cc
    right false b e = e

    no_truth : true ≡ false → ⊥
    no_truth k = cc

    by_test : (b : Bool) → bytes_eq f g ≡ b → b ≡ false
    by_test false e = refl
    by_test true e = absurd (no_truth (sym used ∙ ap (λ n. has_name n (events_names (all_events h))) (sym (bytes_eq-true f g e)) ∙ right (is_reserved f) (has_name f (events_names (all_events h))) unused))

pub apart_if_unused : (f : Name) (h : History) → is_in_use f h ≡ false → IsApart f
apart_if_unused f h unused =
    record {
      zero_apart = other f (codes "ZERO") h (zero_used h) unused;
      add1_apart = other f (codes "ADD1") h (add1_used h) unused;
      not_apart = other f (codes "NOT") h (not_used h) unused;
    }
