-- A text cut at a line feed, and the line that it spells.
use Rattle.std.proofs.Common.{◌≡◌, ℕ, suc, ◌+◌, ◌-◌, ◌<◌, false, nat_eq, get_or, drop, add-one, List, [], ◌∷◌, ◌++◌, length, take, refl, sym, ap, ◌∙◌, arith}
use Rattle.std.specs.Prelude.{Option, Some, None, Result, Ok, Err, IfOk, IfSome, IfNone}
use Rattle.std.specs.Option.{option_map}
use Rattle.std.specs.List.{All, AllByRecursion}
use Rattle.std.specs.declared.alloc.AllocError.{AllocError}
use Rattle.std.proofs.Math.Seq.{drop-cons}
use Rattle.std.proofs.lemmas.List.{get_or-take, take-append-drop, take_rest, length-take}
use Rattle.std.proofs.lemmas.List.Elements.{All-from_get_or}
use Rattle.std.proofs.lemmas.Bool.{eqb-true}
use Rattle.memchr.specs.Find.{IsFirstByte, is_byte}
use Rattle.nq_logtext.proofs.Cuts.{is_false}
use Rattle.nq_logtext.specs.Lines.{Line, IsSpellable, spelling}
use Rattle.nq_logtext.specs.Views.{view}
use Rattle.nq_logtext.specs.Reading.{line_of}
use Rattle.nq_logtext.specs.declared.line.LogLine.{LogLine}
use Rattle.std.proofs.lemmas.List.Elements.{All-head, All-tail}
use Rattle.nq_log.specs.Blocks.{HasNoLineFeed}
use Rattle.nq_log.proofs.Streams.{line_is_read_law, no_line_is_read_law}

all_recursion : (P : ℕ → Type 0) (xs : List ℕ) → All P xs → AllByRecursion P xs
all_recursion P [] h = tt
all_recursion P (x ∷ xs) h = (All-head P x xs h, all_recursion P xs (All-tail P x xs h))

pub feed_found : (bytes : List ℕ) (k : ℕ) → IsFirstByte (is_byte 10) bytes (Some k) →
    HasNoLineFeed (take k bytes) × (bytes ≡ take k bytes ++ (10 ∷ take (length bytes - (k + 1)) (drop (k + 1) bytes)))
feed_found bytes k h =
    let P : ℕ → Type 0 = λ x. nat_eq x 10 ≡ false in
    let within : k < length bytes = h.0.high in
    let before : All P (take k bytes) = All-from_get_or P (take k bytes) 0 (λ i lt.
    let below : i < k = omega (arith, length-take k bytes) in
    rw (get_or-take k bytes i 0 below) (is_false _ (h.0.before i (omega arith) below))) in
    let parts : bytes ≡ take k bytes ++ get_or bytes k 0 ∷ drop (suc k) bytes = sym (take-append-drop k bytes) ∙ ap (λ (r : List ℕ). take k bytes ++ r) (drop-cons bytes k 0 within) in
    let last : drop (suc k) bytes ≡ take (length bytes - (k + 1)) (drop (k + 1) bytes) = rw take_rest (rw add-one refl) in
    (all_recursion P (take k bytes) before, parts ∙ ap (λ b. take k bytes ++ (b ∷ drop (suc k) bytes)) (eqb-true (get_or bytes k 0) 10 h.1) ∙ ap (λ (r : List ℕ). take k bytes ++ (10 ∷ r)) last)

pub no_feed : (bytes : List ℕ) → IsFirstByte (is_byte 10) bytes None → HasNoLineFeed bytes
no_feed bytes h =
    let P : ℕ → Type 0 = λ x. nat_eq x 10 ≡ false in
    all_recursion P bytes (All-from_get_or P bytes 0 (λ i lt. is_false _ (h i (omega arith) lt)))

-- ---- the line that a text spells

pub line_read : (bytes : List ℕ) (r : Result (Option LogLine) AllocError) → IfOk r (λ o. IfSome o (λ line. IsSpellable (view line) × (bytes ≡ spelling (view line)))) →
    IfOk r (λ o. IfNone o ((line : Line) → IsSpellable line → bytes ≡ spelling line → ⊥)) → IfOk r (λ o. option_map view o ≡ line_of bytes)
line_read bytes (Ok (Some line)) found none = sym (line_is_read_law bytes (view line) found.0 found.1)
line_read bytes (Ok None) found none = sym (no_line_is_read_law bytes none)
line_read bytes (Err e) found none = tt
