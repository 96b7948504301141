-- How a reader goes on.
use Rattle.std.proofs.Common.{◌≡◌, ℕ, List, [], ◌∷◌, ◌++◌, refl, sym, ap, ◌∙◌, append_assoc, append-nil}
use Rattle.std.specs.Prelude.{Option}
use Rattle.nq_logtext.specs.Reading.{line_of}
use Rattle.nq_logtext.specs.Lines.{Line}
use Rattle.nq_log.specs.States.{State, Claim, Step}
use Rattle.nq_log.specs.Logs.{reading_by}
use Rattle.nq_log.specs.Blocks.{HasNoLineFeed}
use Rattle.nq_log.specs.Growing.{with_claims}
use Rattle.nq_log.specs.Streams.{Place, reading_after, Move, Moves, Establishes, Fails, move_at, reading_moved}
use Rattle.nq_log.specs.Readers.{IsAt, ReaderBegins, ReaderTakes, ReaderMoves, ReaderClaims, ReaderStops, ReaderEnds}
use Rattle.nq_log.proofs.Growing.{one_more_claim_law}
use Rattle.nq_log.proofs.Streams.{line_moves_law, text_ends_law}

pub reader_begins_law : ReaderBegins
reader_begins_law next more = refl

pub reader_takes_law : ReaderTakes
reader_takes_law next taken hand bytes claims place is more =
    ap (reading_by next) (append_assoc taken bytes more) ∙ is (bytes ++ more) ∙ ap (λ (text : List ℕ). with_claims claims (reading_after next place text)) (sym (append_assoc hand bytes more))

-- a line in hand leads to its move
moved : (next : State → Line → Option Step) (taken bytes hand : List ℕ) (claims : List Claim) (place : Place) (m : Move) → HasNoLineFeed bytes →
    IsAt next taken (bytes ++ (10 ∷ hand)) claims place → move_at next place (line_of bytes) ≡ m → (more : List ℕ) → reading_by next (taken ++ more) ≡ with_claims claims (reading_moved next place m (hand ++ more))
moved next taken bytes hand claims place m free is e more =
    is more
    ∙ ap (λ (text : List ℕ). with_claims claims (reading_after next place text)) (append_assoc bytes (10 ∷ hand) more)
    ∙ ap (with_claims claims) (line_moves_law next place bytes (hand ++ more) free)
    ∙ ap (λ (m : Move). with_claims claims (reading_moved next place m (hand ++ more))) e

pub reader_moves_law : ReaderMoves
reader_moves_law next taken bytes hand claims place after free is e more = moved next taken bytes hand claims place (Moves after) free is e more

pub reader_claims_law : ReaderClaims
reader_claims_law next taken bytes hand claims place after c free is e more =
    moved next taken bytes hand claims place (Establishes c after) free is e more ∙ one_more_claim_law claims c (reading_after next after (hand ++ more))

pub reader_stops_law : ReaderStops
reader_stops_law next taken bytes hand claims place why free is e more = moved next taken bytes hand claims place (Fails why) free is e more

pub reader_ends_law : ReaderEnds
reader_ends_law next taken hand claims place free is =
    ap (reading_by next) (sym (append-nil taken)) ∙ is [] ∙ ap (λ (text : List ℕ). with_claims claims (reading_after next place text)) (append-nil hand)
    ∙ ap (with_claims claims) (text_ends_law next place hand free)
