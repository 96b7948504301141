use Rattle.std.proofs.Common.{◌≡◌, ◌-◌, List, length, get_or, take, drop, refl, sym, ap, subst, ◌∙◌, arith, rules}
use Rattle.std.specs.Prelude.{All}
use Rattle.nq_logic.specs.Terms.{Term}
use Rattle.nq_bank.specs.declared.node.TermId.{TermId}
use Rattle.nq_bank.specs.Content.{Content, Stands, term_at, terms_at, term_from}
use Rattle.nq_clause.specs.declared.binding.Binding.{Binding}
use Rattle.nq_clause.specs.Binding.{bindings_at, BindingStands, BindsOnce, Matches, MatchesNone}
use Rattle.nq_clause.specs.Subsumption.{SubsumesFrom}
use Rattle.nq_clause.proofs.InstanceLemmas.{tells_not, not_told}
use Rattle.nq_clause.proofs.MatchLemmas.{match_keeps}
use Rattle.nq_clause.proofs.SubsumptionLemmas.{first_rest, none_left, all_rest, subsumes_none_left, subsumes_next, none_here, none_later, among_terms, none_more, none_at_all, room_first, room_rest}
use Rattle.nq_clause.proofs.subsumption.+subsumes_within.Goals as goal

pub loop-t-init : goal.loop-t-init
loop-t-init t c = record { kept = refl; room = refl; none = λ u m. absurd m }

pub match_or_restore-requires-clause-stand : goal.match_or_restore-requires-clause-stand
match_or_restore-requires-clause-stand t c =
    subst (All (BindingStands c.args.bank.now)) (sym c.loop-t.invariant.kept) c.requires.stand

pub match_or_restore-requires-clause-once : goal.match_or_restore-requires-clause-once
match_or_restore-requires-clause-once t c =
    subst (λ bs. BindsOnce (bindings_at c.args.bank.now bs)) (sym c.loop-t.invariant.kept) c.requires.once

pub match_or_restore-requires-clause-room : goal.match_or_restore-requires-clause-room
match_or_restore-requires-clause-room t c =
    let first : TermId = record { 0 = 0 } in
    let bank : Content = c.args.bank.now in
    let ids : List TermId = c.args.c.now in
    let rest : List TermId = take (length ids - 1) (drop 1 ids) in
    let parts = ap (terms_at bank) (first_rest ids first c.in-len1-up.len_at_least) in
    room_first (bindings_at bank c.args.bindings.now.items) (bindings_at bank c.loop-t.bindings.items) (term_at bank (get_or ids 0 first)) (terms_at bank rest) (terms_at bank ids) c.args.bindings.now.cap c.loop-t.bindings.cap c.requires.room parts (ap (bindings_at bank) c.loop-t.invariant.kept) c.loop-t.invariant.room

pub loop-t-preserved-then-not-match_or_restore : goal.loop-t-preserved-then-not-match_or_restore
loop-t-preserved-then-not-match_or_restore t c =
    let first : TermId = record { 0 = 0 } in
    let bank : Content = c.args.bank.now in
    let ids : List TermId = c.args.c.now in
    let others : List TermId = c.args.d.now in
    let rest : List TermId = take (length ids - 1) (drop 1 ids) in
    let p : Term = term_at bank (get_or ids 0 first) in
    let u : Term = term_at bank (get_or others c.loop-t.t-index first) in
    let none : MatchesNone (bindings_at bank c.args.bindings.now.items) p u = subst (λ bs. MatchesNone (bindings_at bank bs) p u) c.loop-t.invariant.kept c.if-not-match_or_restore.ensures.ok in
    record {
      kept = c.if-not-match_or_restore.ensures.kept ∙ c.loop-t.invariant.kept;
      room = c.match_or_restore.ensures.room ∙ c.loop-t.invariant.room;
      none = none_more bank (bindings_at bank c.args.bindings.now.items) p (terms_at bank rest) (terms_at bank others) others c.loop-t.t-index first c.loop-t-test.true c.loop-t.invariant.none (none_here (bindings_at bank c.args.bindings.now.items) p u (terms_at bank rest) (terms_at bank others) none);
    }

pub subsumes_within-requires : goal.subsumes_within-requires
subsumes_within-requires t c =
    let first : TermId = record { 0 = 0 } in
    let bank : Content = c.args.bank.now in
    let ids : List TermId = c.args.c.now in
    let rest : List TermId = take (length ids - 1) (drop 1 ids) in
    let p : Term = term_at bank (get_or ids 0 first) in
    let u : Term = term_at bank (get_or c.args.d.now c.loop-t.t-index first) in
    let mid : List Binding = c.match_or_restore.new.bindings.items in
    let parts = first_rest ids first c.in-len1-up.len_at_least in
    let m : Matches bank p u c.args.bindings.now.items mid = subst (λ bs. Matches bank p u bs mid) c.loop-t.invariant.kept c.if-not-match_or_restore.ensures.ok in (
      search rules,
      (
        all_rest (Stands bank) ids rest (get_or ids 0 first) parts c.requires.from,
        (
          c.requires.onto,
          (
            m.stand,
            (
              m.once,
              room_rest bank p u (terms_at bank rest) (terms_at bank ids) c.args.bindings.now.items mid c.args.bindings.now.cap c.match_or_restore.new.bindings.cap c.requires.room (ap (terms_at bank) parts) m (c.match_or_restore.ensures.room ∙ c.loop-t.invariant.room),
            ),
          ),
        ),
      ),
    )

pub returns-then-subsumes_within-clause-ok : goal.returns-then-subsumes_within-clause-ok
returns-then-subsumes_within-clause-ok t c =
    let first : TermId = record { 0 = 0 } in
    let bank : Content = c.args.bank.now in
    let ids : List TermId = c.args.c.now in
    let others : List TermId = c.args.d.now in
    let rest : List TermId = take (length ids - 1) (drop 1 ids) in
    let p : Term = term_at bank (get_or ids 0 first) in
    let u : Term = term_at bank (get_or others c.loop-t.t-index first) in
    let mid : List Binding = c.match_or_restore.new.bindings.items in
    let m : Matches bank p u c.args.bindings.now.items mid = subst (λ bs. Matches bank p u bs mid) c.loop-t.invariant.kept c.if-not-match_or_restore.ensures.ok in
    let whole = subsumes_next bank p u (terms_at bank rest) (terms_at bank ids) (terms_at bank others) c.args.bindings.now.items mid (ap (terms_at bank) (first_rest ids first c.in-len1-up.len_at_least)) m (among_terms (term_from bank.terms) others c.loop-t.t-index first c.loop-t-test.true) (c.subsumes_within.ensures.ok.0 c.if-subsumes_within.true) in
    (λ _. whole, λ _. refl)

pub loop-t-preserved : goal.loop-t-preserved
loop-t-preserved t c =
    let first : TermId = record { 0 = 0 } in
    let bank : Content = c.args.bank.now in
    let ids : List TermId = c.args.c.now in
    let others : List TermId = c.args.d.now in
    let rest : List TermId = take (length ids - 1) (drop 1 ids) in
    let p : Term = term_at bank (get_or ids 0 first) in
    let u : Term = term_at bank (get_or others c.loop-t.t-index first) in
    let mid : List Binding = c.match_or_restore.new.bindings.items in
    let m : Matches bank p u c.args.bindings.now.items mid = subst (λ bs. Matches bank p u bs mid) c.loop-t.invariant.kept c.if-not-match_or_restore.ensures.ok in
    let count : c.len-count.result ≡ length c.args.bindings.now.items = omega (arith, c.len-count.ensures, c.args.bindings.now.ok.0) in
    let later = none_later bank p u (terms_at bank rest) (terms_at bank others) c.args.bindings.now.items mid m (not_told c.subsumes_within.result (SubsumesFrom (bindings_at bank mid) (terms_at bank rest) (terms_at bank others)) c.if-subsumes_within.false c.subsumes_within.ensures.ok) in
    record {
      kept = c.truncate.ensures.items ∙ ap (take c.len-count.result) c.if-subsumes_within.ensures.kept ∙ ap (λ n. take n mid) count ∙ match_keeps bank p u c.args.bindings.now.items mid m;
      room = c.truncate.ensures.capacity ∙ c.subsumes_within.ensures.room ∙ c.match_or_restore.ensures.room ∙ c.loop-t.invariant.room;
      none = none_more bank (bindings_at bank c.args.bindings.now.items) p (terms_at bank rest) (terms_at bank others) others c.loop-t.t-index first c.loop-t-test.true c.loop-t.invariant.none later;
    }

pub returns-in-empty-clause-ok : goal.returns-in-empty-clause-ok
returns-in-empty-clause-ok t c =
    let bank : Content = c.args.bank.now in (
      λ _. subsumes_none_left (bindings_at bank c.args.bindings.now.items) (terms_at bank c.args.c.now) (terms_at bank c.args.d.now) (ap (terms_at bank) (none_left c.args.c.now c.in-empty.len_below)),
      λ _. refl,
    )

pub returns-after-loop-t-clause-ok : goal.returns-after-loop-t-clause-ok
returns-after-loop-t-clause-ok t c =
    let first : TermId = record { 0 = 0 } in
    let bank : Content = c.args.bank.now in
    let ids : List TermId = c.args.c.now in
    let rest : List TermId = take (length ids - 1) (drop 1 ids) in
    let parts = ap (terms_at bank) (first_rest ids first c.in-len1-up.len_at_least) in
    tells_not (SubsumesFrom (bindings_at bank c.args.bindings.now.items) (terms_at bank ids) (terms_at bank c.args.d.now))
    (none_at_all bank (bindings_at bank c.args.bindings.now.items) (term_at bank (get_or ids 0 first)) (terms_at bank rest) (terms_at bank ids) c.args.d.now c.loop-t.t-index parts c.loop-t-test.false c.loop-t.invariant.none)

pub returns-after-loop-t-clause-kept : goal.returns-after-loop-t-clause-kept
returns-after-loop-t-clause-kept t c = c.loop-t.invariant.kept
