-- Lists of terms, each among another.
use Rattle.std.proofs.Common.{List, [], ◌∷◌, ◌++◌, sym, subst, inl, inr}
use Rattle.nq_logic.specs.Terms.{Term, IsAmong}
use Rattle.nq_lines.specs.Lines.{AreAmong}

pub none_among : (d : List Term) → AreAmong [] d
none_among d u m = absurd m

pub and_among : (t : Term) (c d : List Term) → IsAmong t d → AreAmong c d → AreAmong (t ∷ c) d
and_among t c d here rest u m = elim m [ inl e ↦ subst (λ v. IsAmong v d) (sym e) here | inr k ↦ rest u k ]

-- one more before the second
pub under : (t : Term) (c d : List Term) → AreAmong c d → AreAmong c (t ∷ d)
under t c d h u m = inr (h u m)

-- one more before both
pub beside : (t : Term) (c d : List Term) → AreAmong c d → AreAmong (t ∷ c) (t ∷ d)
beside t c d h u m = elim m [ inl e ↦ inl e | inr k ↦ inr (h u k) ]

pub on_left : (c d : List Term) → AreAmong c (c ++ d)
on_left [] d u m = absurd m
on_left (t ∷ c) d u m = elim m [ inl e ↦ inl e | inr k ↦ inr (on_left c d u k) ]

pub on_right : (c d : List Term) → AreAmong d (c ++ d)
on_right [] d u m = m
on_right (t ∷ c) d u m = inr (on_right c d u m)
