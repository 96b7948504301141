use Rattle.std.proofs.Common.{◌≡◌, ◌∷◌, [], inl, refl, ap}
use Rattle.std.specs.Prelude.{is_some}
use Rattle.nq_logic.specs.Terms.{Function}
use Rattle.nq_logic.specs.Words.{call1}
use Rattle.nq_bank.specs.Content.{term_at, text_at}
use Rattle.nq_history.specs.Events.{events_at}
use Rattle.nq_kernel.specs.Growing.{LineHolds}
use Rattle.nq_part_lines.proofs.BaseLemmas.{zero_constant, zero_count, zero_row, zero_size, zero_told}
use Rattle.nq_part_lines.proofs.ObjectLemmas.{row_small}
use Rattle.nq_part_lines.proofs.ReadingLemmas.{found}
use Rattle.nq_part_lines.proofs.objects.zero_base.Goals as goal

pub row_line-requires-clause-row : goal.row_line-requires-clause-row
row_line-requires-clause-row c =
    let w = c.args.work.now in
    let d = text_at w.bank c.args.d in
    record { clause = zero_size d ∷ []; there = zero_row (events_at w.bank c.args.history.now) w.bank d c.constructor_of_base-constructor.result c.requires.rows c.constructor_of_base-constructor.ensures }

pub only_literal-none-requires-clause-line : goal.only_literal-none-requires-clause-line
only_literal-none-requires-clause-line c =
    let w = c.args.work.now in
    let d = text_at w.bank c.args.d in
    let row = zero_row (events_at w.bank c.args.history.now) w.bank d c.constructor_of_base-constructor.result c.requires.rows c.constructor_of_base-constructor.ensures in
    record { literal = zero_size d; holds = c.in_ok-line.ensures.line (zero_size d ∷ []) row.is }

pub small_argument-count-requires-clause-term : goal.small_argument-count-requires-clause-term
small_argument-count-requires-clause-term c =
    let old = c.args.work.now in
    let new = c.row_line.new.work in
    let d = text_at old.bank c.args.d in
    let constructor = c.constructor_of_base-constructor.result in
    let row = zero_row (events_at old.bank c.args.history.now) old.bank d constructor c.requires.rows c.constructor_of_base-constructor.ensures in
    let read : term_at new.bank c.only_literal-none.result ≡ zero_size d = c.only_literal-none.ensures.literal (zero_size d) (c.in_ok-line.ensures.line (zero_size d ∷ []) row.is) in
    row_small c.args.history.now old new c.requires.stands c.row_line.ensures.grows.grows c.requires.rows (text_at old.bank constructor) 15 0 (zero_size d ∷ []) row (zero_size d) (inl refl) c.only_literal-none.result c.only_literal-none.ensures.stands read

pub small_argument-count-requires-clause-place : goal.small_argument-count-requires-clause-place
small_argument-count-requires-clause-place c =
    let old = c.args.work.now in
    let new = c.row_line.new.work in
    let d = text_at old.bank c.args.d in
    let row = zero_row (events_at old.bank c.args.history.now) old.bank d c.constructor_of_base-constructor.result c.requires.rows c.constructor_of_base-constructor.ensures in
    let read : term_at new.bank c.only_literal-none.result ≡ zero_size d = c.only_literal-none.ensures.literal (zero_size d) (c.in_ok-line.ensures.line (zero_size d ∷ []) row.is) in
    ap is_some (zero_count d (term_at new.bank c.only_literal-none.result) read)

pub small_argument-base-requires-clause-place : goal.small_argument-base-requires-clause-place
small_argument-base-requires-clause-place c =
    let old = c.args.work.now in
    let new = c.row_line.new.work in
    let d = text_at old.bank c.args.d in
    let row = zero_row (events_at old.bank c.args.history.now) old.bank d c.constructor_of_base-constructor.result c.requires.rows c.constructor_of_base-constructor.ensures in
    let none = term_at new.bank c.only_literal-none.result in
    let read : none ≡ zero_size d = c.only_literal-none.ensures.literal (zero_size d) (c.in_ok-line.ensures.line (zero_size d ∷ []) row.is) in
    let count : term_at new.bank c.small_argument-count.result ≡ call1 "COUNT" (Function d) = found 1 none (call1 "COUNT" (Function d)) (term_at new.bank c.small_argument-count.result) (zero_count d none read) c.small_argument-count.ensures.argument in
    ap is_some (zero_constant d (term_at new.bank c.small_argument-count.result) count)

pub returns-clause-base : goal.returns-clause-base
returns-clause-base c =
    let old = c.args.work.now in
    let new = c.row_line.new.work in
    let d = text_at old.bank c.args.d in
    let constructor = c.constructor_of_base-constructor.result in
    let row = zero_row (events_at old.bank c.args.history.now) old.bank d constructor c.requires.rows c.constructor_of_base-constructor.ensures in
    let line : LineHolds new c.in_ok-line.line (zero_size d ∷ []) = c.in_ok-line.ensures.line (zero_size d ∷ []) row.is in
    let none = term_at new.bank c.only_literal-none.result in
    let read : none ≡ zero_size d = c.only_literal-none.ensures.literal (zero_size d) line in
    let small = row_small c.args.history.now old new c.requires.stands c.row_line.ensures.grows.grows c.requires.rows (text_at old.bank constructor) 15 0 (zero_size d ∷ []) row (zero_size d) (inl refl) c.only_literal-none.result c.only_literal-none.ensures.stands read in
    let count : term_at new.bank c.small_argument-count.result ≡ call1 "COUNT" (Function d) = found 1 none (call1 "COUNT" (Function d)) (term_at new.bank c.small_argument-count.result) (zero_count d none read) c.small_argument-count.ensures.argument in
    let base : term_at new.bank c.small_argument-base.result ≡ Function d = found 1 (term_at new.bank c.small_argument-count.result) (Function d) (term_at new.bank c.small_argument-base.result) (zero_constant d (term_at new.bank c.small_argument-count.result) count) c.small_argument-base.ensures.argument in
    zero_told c.args.history.now new d c.small_argument-base.result c.only_literal-none.result c.in_ok-line.line c.small_argument-base.ensures.small base small read line
