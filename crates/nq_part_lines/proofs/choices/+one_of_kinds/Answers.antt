use Rattle.std.proofs.Common.{◌≡◌, ◌≤◌, ◌<◌, ◌-◌, ◌∷◌, ◌∙◌, ◌||◌, false, get_or, length, take, drop, ap, sym, arith}
use Rattle.std.specs.Prelude.{◌==◌}
use Rattle.nq_logic.specs.Names.{has_name}
use Rattle.nq_logic.specs.Shells.{either_of, recognized}
use Rattle.nq_logic.specs.Words.{or_term}
use Rattle.nq_bank.specs.declared.node.Sym.{Sym}
use Rattle.nq_bank.specs.Content.{IsNamed, term_at, text_at}
use Rattle.nq_bank.specs.Shells.{texts_at}
use Rattle.nq_history.specs.Events.{events_at}
use Rattle.nq_history.proofs.ShellLemmas.{texts-grown}
use Rattle.nq_rule.proofs.Made.{for_ok}
use Rattle.nq_kernel.specs.Ready.{recognizer_limit}
use Rattle.nq_replay.proofs.UncountedLemmas.{grown_trans}
use Rattle.nq_part_lines.specs.Decisions.{IsDecided, is_of}
use Rattle.nq_part_lines.specs.Defaults.{truth_kind, truth_term}
use Rattle.nq_part_lines.proofs.ChoiceLemmas.{behind, decided_as, decided_grown, decided_here, decided_later, first_apart, kinds_behind, kinds_grown, more_kinds, named_grown, names_room, one_kind, some_more}
use Rattle.nq_part_lines.proofs.KnownGrowth.{rows_grown, three_steps}
use Rattle.nq_part_lines.proofs.choices.+one_of_kinds.Goals as goal

pub kind-requires-clause-kind : goal.kind-requires-clause-kind
kind-requires-clause-kind t c =
    let bank = c.args.work.now.bank in
    let xs = c.args.names.now in
    let none : Sym = record { 0 = 0 } in
    let s = get_or xs 0 none in
    (kinds_behind (events_at bank c.args.history.now) bank xs s (take (length xs - 1) (drop 1 xs)) (first_apart xs none c.in-len1-up.len_at_least) c.requires.kinds).0

pub returns-then-is_empty-clause-decided : goal.returns-then-is_empty-clause-decided
returns-then-is_empty-clause-decided t c =
    let xs = c.args.names.now in
    let none : Sym = record { 0 = 0 } in
    let s = get_or xs 0 none in
    one_kind c.args.history.now c.kind.new.work c.args.work.now.bank c.args.value c.in_ok-first-in-len1-up.first xs s (take (length xs - 1) (drop 1 xs)) (first_apart xs none c.in-len1-up.len_at_least) (sym c.is_empty.ensures ∙ c.if-is_empty.true) c.in_ok-first-in-len1-up.ensures.decided

pub one_of_kinds-requires : goal.one_of_kinds-requires
one_of_kinds-requires t c =
    let h = c.args.history.now in
    let old = c.args.work.now in
    let one = c.kind.new.work in
    let grows = c.kind.ensures.grows.grows in
    let stands = c.requires.stands in
    let xs = c.args.names.now in
    let none : Sym = record { 0 = 0 } in
    let s = get_or xs 0 none in
    let rest = take (length xs - 1) (drop 1 xs) in
    let apart : xs ≡ s ∷ rest = first_apart xs none c.in-len1-up.len_at_least in
    let many : length xs ≡ length (s ∷ rest) = ap length apart in
    let named = behind (IsNamed old.bank) xs s rest apart c.requires.named in
    let kinds = kinds_behind (events_at old.bank h) old.bank xs s rest apart c.requires.kinds in
    let some : 0 < length rest = some_more rest (sym c.is_empty.ensures ∙ c.if-is_empty.false) in
    let few : length xs ≤ recognizer_limit = c.requires.few in
    let less : length rest ≤ recognizer_limit = omega (arith, many, few) in (
      omega (arith, many),
      (grows.stands, (rows_grown h old one stands grows c.requires.rows, (some, (named_grown h old one stands grows rest named.1, (kinds_grown h old one stands grows rest named.1 kinds.1, less))))),
    )

pub either-requires-clause-first : goal.either-requires-clause-first
either-requires-clause-first t c =
    let one = c.kind.new.work in
    let none : Sym = record { 0 = 0 } in
    let r = text_at c.args.work.now.bank (get_or c.args.names.now 0 none) in
    decided_later c.args.history.now one c.one_of_kinds.new.work c.kind.ensures.grows.grows.stands c.one_of_kinds.ensures.grows.grows (is_of r c.args.value) _ c.in_ok-first-in-len1-up.first c.in_ok-first-in-len1-up.ensures.decided

pub either-requires-clause-second : goal.either-requires-clause-second
either-requires-clause-second t c = decided_here c.args.history.now c.one_of_kinds.new.work _ _ c.in_ok-second-in-len1-up.second c.in_ok-second-in-len1-up.ensures.decided

pub either-requires-clause-room : goal.either-requires-clause-room
either-requires-clause-room t c =
    let h = c.args.history.now in
    let old = c.args.work.now in
    let one = c.kind.new.work in
    let two = c.one_of_kinds.new.work in
    let xs = c.args.names.now in
    let none : Sym = record { 0 = 0 } in
    let s = get_or xs 0 none in
    let rest = take (length xs - 1) (drop 1 xs) in
    let apart : xs ≡ s ∷ rest = first_apart xs none c.in-len1-up.len_at_least in
    let many : length xs ≡ length (s ∷ rest) = ap length apart in
    let few : length xs ≤ recognizer_limit = c.requires.few in
    let less : length rest ≤ recognizer_limit = omega (arith, many, few) in
    let named = behind (IsNamed old.bank) xs s rest apart c.requires.named in
    let texts : texts_at one.bank rest ≡ texts_at old.bank rest = texts-grown old.bank one.bank c.kind.ensures.grows.grows.bank rest named.1 in
    let first = decided_grown h one two c.kind.ensures.grows.grows.stands c.one_of_kinds.ensures.grows.grows (is_of (text_at old.bank s) c.args.value) _ c.in_ok-first-in-len1-up.first c.in_ok-first-in-len1-up.ensures.decided in
    names_room old.bank (text_at old.bank s) rest c.args.value (term_at two.bank c.in_ok-first-in-len1-up.first.term) (term_at two.bank c.in_ok-second-in-len1-up.second.term) less first.term_is (c.in_ok-second-in-len1-up.ensures.decided.term_is ∙ ap (λ rs. either_of (recognized rs (truth_term c.args.value))) texts)

pub returns-clause-decided : goal.returns-clause-decided
returns-clause-decided t c =
    let h = c.args.history.now in
    let old = c.args.work.now in
    let one = c.kind.new.work in
    let two = c.one_of_kinds.new.work in
    let new = c.either.new.work in
    let value = c.args.value in
    let own = truth_kind value in
    let xs = c.args.names.now in
    let none : Sym = record { 0 = 0 } in
    let s = get_or xs 0 none in
    let rest = take (length xs - 1) (drop 1 xs) in
    let apart : xs ≡ s ∷ rest = first_apart xs none c.in-len1-up.len_at_least in
    let some : (length rest == 0) ≡ false = sym c.is_empty.ensures ∙ c.if-is_empty.false in
    let named = behind (IsNamed old.bank) xs s rest apart c.requires.named in
    let texts : texts_at one.bank rest ≡ texts_at old.bank rest = texts-grown old.bank one.bank c.kind.ensures.grows.grows.bank rest named.1 in
    let r = text_at old.bank s in
    let a = c.in_ok-first-in-len1-up.first in
    let b = c.in_ok-second-in-len1-up.second in
    let x = is_of r value in
    let y = either_of (recognized (texts_at old.bank rest) (truth_term value)) in
    let first = decided_grown h one two c.kind.ensures.grows.grows.stands c.one_of_kinds.ensures.grows.grows x _ a c.in_ok-first-in-len1-up.ensures.decided in
    let second : term_at two.bank b.term ≡ y = c.in_ok-second-in-len1-up.ensures.decided.term_is ∙ ap (λ rs. either_of (recognized rs (truth_term value))) texts in
    let holds : b.holds ≡ has_name own (texts_at old.bank rest) = c.in_ok-second-in-len1-up.ensures.decided.holds_is ∙ ap (has_name own) texts in
    for_ok c.either.result (IsDecided h new (or_term (term_at two.bank a.term) (term_at two.bank b.term)) (a.holds || b.holds)) (IsDecided h new (either_of (recognized (texts_at old.bank xs) (truth_term value))) (has_name own (texts_at old.bank xs))) (λ d k.
    more_kinds h new old.bank value d xs s rest apart some (decided_as h new _ _ x y a.holds b.holds _ (has_name own (texts_at old.bank rest)) d first.term_is second first.holds_is holds k)) c.either.ensures.decided

-- how the work grew
pub returns-in_err-second-in-len1-up-clause-grows : goal.returns-in_err-second-in-len1-up-clause-grows
returns-in_err-second-in-len1-up-clause-grows t c = grown_trans c.args.history.now c.args.work.now c.kind.new.work c.one_of_kinds.new.work c.kind.ensures.grows c.one_of_kinds.ensures.grows

pub returns-clause-grows : goal.returns-clause-grows
returns-clause-grows t c = three_steps c.args.history.now c.args.work.now c.kind.new.work c.one_of_kinds.new.work c.either.new.work c.kind.ensures.grows c.one_of_kinds.ensures.grows c.either.ensures.grows
