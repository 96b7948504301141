-- Samples whose texts are known.
use Rattle.std.specs.Prelude.{◌≡◌, ◌-◌, ◌^◌, [], ◌∷◌, ◌++◌, map, codes}
use Rattle.nq_sample.specs.declared.event.EventKind.TheVariants.{Tautology, Recursive}
use Rattle.nq_sample.specs.Sample.{start, draw, kind_by, sample_of}

pub record WorkedSamples : Type 0 where
  -- seeds past the modulus
  pub seven_again : start 65544 ≡ 7
  pub largest_seed : start (2 ^ 64 - 1) ≡ 0
  -- seed 7: six draws, the events that they give, and the text
  pub draws : map draw (7 ∷ 599 ∷ 44999 ∷ 32612 ∷ 21105 ∷ 10061 ∷ []) ≡ 599 ∷ 44999 ∷ 32612 ∷ 21105 ∷ 10061 ∷ 33742 ∷ []
  pub first_event : kind_by 599 44999 32612 ≡ Recursive 99
  pub second_event : kind_by 21105 10061 33742 ≡ Tautology
  pub two_events : sample_of 7 2
      ≡ codes "(BOOT-STRAP NQTHM)\n"
      ++ codes "(DEFN S1 (X) (IF (LISTP X) (ADD1 (S1 (CDR X))) 99))\n"
      ++ codes "(PROVE-LEMMA S2 NIL (IMPLIES (AND P Q) (OR Q R)))\n"
  -- seed 1: each kind of event
  pub seven_events : sample_of 1 7
      ≡ codes "(BOOT-STRAP NQTHM)\n"
      ++ codes "(PROVE-LEMMA S1 NIL (IMPLIES (AND P Q) (OR Q R)))\n"
      ++ codes "(DEFN S2 (X Y) (PLUS X (TIMES 83 Y)))\n"
      ++ codes "(DEFN S3 (X) (IF (LISTP X) (ADD1 (S3 (CDR X))) 89))\n"
      ++ codes "(PROVE-LEMMA S4 NIL (IMPLIES (AND P Q) (OR Q R)))\n"
      ++ codes "(DEFN S5 (X Y) (PLUS X (TIMES 56 Y)))\n"
      ++ codes "(DEFN S6 (X Y) (PLUS X (TIMES 0 Y)))\n"
      ++ codes "(PROVE-LEMMA S7 NIL (EQUAL (PLUS 25 38) 63))\n"
