use Rattle.std.proofs.Common.{◌≡◌, ◌≤◌, ◌<◌, ◌+◌, ◌∙◌, ℕ, List, length, get_or, take, drop, refl, sym, ap, subst, arith}
use Rattle.std.specs.Prelude.{slice_set}
use Rattle.nq_logic.specs.Terms.{call}
use Rattle.nq_logic.specs.Numerals.{number_of}
use Rattle.nq_bank.specs.declared.node.TermId.{TermId}
use Rattle.nq_bank.specs.Content.{text_at, term_at, terms_at}
use Rattle.nq_history.specs.declared.entry.Entry.{Entry}
use Rattle.nq_kernel.specs.declared.work.Work.{Work}
use Rattle.nq_eval.specs.declared.found.Known.{Known}
use Rattle.nq_eval.specs.Known.{IsKnown}
use Rattle.nq_eval.specs.Gathered.{AreKnown, values_of}
use Rattle.nq_eval.specs.Reducing.{MayCall, IsReducing}
use Rattle.nq_eval.proofs.LineLemmas.{grown_refl, grown_trans}
use Rattle.nq_eval.proofs.ClosingLemmas.{large_other}
use Rattle.nq_eval.proofs.EvaluationLemmas.{each_known_after}
use Rattle.nq_eval.proofs.ReducingLemmas.{set_length}
use Rattle.nq_eval.proofs.LoopLemmas.{may_start, known_length, known_at, rest_at, done_more, rest_more, plain_more, all_done, all_values, all_stand, reduced_within}
use Rattle.nq_eval.proofs.reducing.call_of_values.Goals as goal

pub returns-in_err-mixed-clause-grows : goal.returns-in_err-mixed-clause-grows
returns-in_err-mixed-clause-grows c =
    grown_refl c.args.history.now c.args.work.now c.requires.stands

pub loop-place-init : goal.loop-place-init
loop-place-init c =
    let h : List Entry = c.args.history.now in
    let old : Work = c.args.work.now in
    let ids : List TermId = c.args.arguments.now in
    let ks : List Known = c.args.values.now.known.items in
    let count : length ks ≡ length ids = known_length h old ids ks c.requires.values.known in
    let mixed : List TermId = c.in_ok-mixed.mixed.items in
    let items : mixed ≡ ids = c.in_ok-mixed.ensures.items in
    let may : MayCall old.bank h c.args.f ids = may_start old.bank h c.args.t c.args.f ids c.requires.term c.requires.head c.requires.arguments c.requires.room in
    let whole : term_at old.bank c.args.t ≡ call (text_at old.bank c.args.f) (terms_at old.bank ids) = c.requires.head.is ∙ ap (call (text_at old.bank c.args.f)) (sym c.requires.arguments) in
    record {
      grows = grown_refl h old c.requires.stands;
      reducing = subst (λ (xs : List TermId). IsReducing h old c.args.t c.args.f xs (record { term = c.args.t; line = 0 })) (sym items) (record { may = may; whole = c.requires.term; term = c.requires.term; is = whole; line = λ differs. absurd (differs refl) });
      count = ap (λ (xs : List TermId). length xs) items;
      done = refl;
      rest = items;
      plain = λ below. ap (λ (xs : List TermId). number_of (call (text_at old.bank c.args.f) (terms_at old.bank xs))) items ∙ ap number_of (sym whole) ∙ large_other (term_at old.bank c.args.t) c.requires.large;
    }

pub index-a-requires : goal.index-a-requires
index-a-requires c =
    let h : List Entry = c.args.history.now in
    let old : Work = c.args.work.now in
    let ids : List TermId = c.args.arguments.now in
    let ks : List Known = c.args.values.now.known.items in
    let count : length ks ≡ length ids = known_length h old ids ks c.requires.values.known in
    let mid : Work = c.loop-place.work in
    let inv = c.loop-place.invariant in
    let i : ℕ = c.loop-place.place in
    let mixed : List TermId = c.loop-place.mixed.items in
    let same_count : length mixed ≡ length ids = inv.count in
    let below : i < length ids = c.loop-place-test.true in
    omega (arith, below, same_count)

pub index-known-requires : goal.index-known-requires
index-known-requires c =
    let h : List Entry = c.args.history.now in
    let old : Work = c.args.work.now in
    let ids : List TermId = c.args.arguments.now in
    let ks : List Known = c.args.values.now.known.items in
    let count : length ks ≡ length ids = known_length h old ids ks c.requires.values.known in
    let mid : Work = c.loop-place.work in
    let inv = c.loop-place.invariant in
    let i : ℕ = c.loop-place.place in
    let mixed : List TermId = c.loop-place.mixed.items in
    let same_count : length mixed ≡ length ids = inv.count in
    let below : i < length ids = c.loop-place-test.true in
    omega (arith, below, count)

pub put_value-requires-clause-stands : goal.put_value-requires-clause-stands
put_value-requires-clause-stands c =
    c.loop-place.invariant.grows.grows.stands

pub put_value-requires-clause-reducing : goal.put_value-requires-clause-reducing
put_value-requires-clause-reducing c =
    c.loop-place.invariant.reducing

pub put_value-requires-clause-below : goal.put_value-requires-clause-below
put_value-requires-clause-below c =
    let h : List Entry = c.args.history.now in
    let old : Work = c.args.work.now in
    let ids : List TermId = c.args.arguments.now in
    let ks : List Known = c.args.values.now.known.items in
    let count : length ks ≡ length ids = known_length h old ids ks c.requires.values.known in
    let mid : Work = c.loop-place.work in
    let inv = c.loop-place.invariant in
    let i : ℕ = c.loop-place.place in
    let mixed : List TermId = c.loop-place.mixed.items in
    let same_count : length mixed ≡ length ids = inv.count in
    let below : i < length ids = c.loop-place-test.true in
    omega (arith, below, same_count)

pub put_value-requires-clause-plain : goal.put_value-requires-clause-plain
put_value-requires-clause-plain c =
    c.loop-place.invariant.plain c.loop-place-test.true

pub put_value-requires-clause-known : goal.put_value-requires-clause-known
put_value-requires-clause-known c =
    let h : List Entry = c.args.history.now in
    let old : Work = c.args.work.now in
    let ids : List TermId = c.args.arguments.now in
    let ks : List Known = c.args.values.now.known.items in
    let count : length ks ≡ length ids = known_length h old ids ks c.requires.values.known in
    let mid : Work = c.loop-place.work in
    let inv = c.loop-place.invariant in
    let i : ℕ = c.loop-place.place in
    let mixed : List TermId = c.loop-place.mixed.items in
    let same_count : length mixed ≡ length ids = inv.count in
    let below : i < length ids = c.loop-place-test.true in
    let known : AreKnown h mid ids ks = each_known_after h old mid c.requires.stands inv.grows ids ks c.requires.room c.requires.values.known in
    let a : TermId = c.index-a.result.now in
    let k : Known = c.index-known.result.now in
    let at : IsKnown h mid (get_or ids i a) (get_or ks i k) = known_at h mid ids ks i a k known below in
    subst (λ (x : TermId). IsKnown h mid x k) (sym (c.index-a.ensures ∙ rest_at mixed ids i a inv.rest)) (subst (λ (j : Known). IsKnown h mid (get_or ids i a) j) (sym c.index-known.ensures) at)

pub returns-in_err-reduced-clause-grows : goal.returns-in_err-reduced-clause-grows
returns-in_err-reduced-clause-grows c =
    grown_trans c.args.history.now c.args.work.now c.loop-place.work c.put_value.new.work c.loop-place.invariant.grows c.put_value.ensures.grows

pub loop-place-preserved : goal.loop-place-preserved
loop-place-preserved c =
    let h : List Entry = c.args.history.now in
    let old : Work = c.args.work.now in
    let ids : List TermId = c.args.arguments.now in
    let ks : List Known = c.args.values.now.known.items in
    let count : length ks ≡ length ids = known_length h old ids ks c.requires.values.known in
    let mid : Work = c.loop-place.work in
    let inv = c.loop-place.invariant in
    let i : ℕ = c.loop-place.place in
    let mixed : List TermId = c.loop-place.mixed.items in
    let same_count : length mixed ≡ length ids = inv.count in
    let below : i < length ids = c.loop-place-test.true in
    let k : Known = c.index-known.result.now in
    let new : Work = c.put_value.new.work in
    let items : c.put_value.new.mixed.items ≡ slice_set mixed i k.value = c.in_ok-reduced.ensures.items in
    let value : k ≡ get_or ks i k = c.index-known.ensures in
    let kept : length (slice_set mixed i k.value) ≡ length mixed = set_length mixed i k.value in
    let long : length c.put_value.new.mixed.items ≡ length ids = ap (λ (xs : List TermId). length xs) items ∙ kept ∙ same_count in
    record {
      grows = grown_trans h old mid new inv.grows c.put_value.ensures.grows;
      reducing = c.in_ok-reduced.ensures.reducing;
      count = long;
      done = ap (λ (xs : List TermId). take (i + 1) xs) items ∙ ap (λ (j : Known). take (i + 1) (slice_set mixed i j.value)) value ∙ done_more mixed ks i k (omega (arith, below, same_count)) (omega (arith, below, count)) inv.done;
      rest = ap (λ (xs : List TermId). drop (i + 1) xs) items ∙ rest_more mixed ids i k.value inv.rest;
      plain = λ more. plain_more new.bank (text_at new.bank c.args.f) c.put_value.new.mixed.items (omega (arith, more, long));
    }

pub returns-clause-call : goal.returns-clause-call
returns-clause-call c =
    let h : List Entry = c.args.history.now in
    let old : Work = c.args.work.now in
    let ids : List TermId = c.args.arguments.now in
    let ks : List Known = c.args.values.now.known.items in
    let count : length ks ≡ length ids = known_length h old ids ks c.requires.values.known in
    let mid : Work = c.loop-place.work in
    let inv = c.loop-place.invariant in
    let i : ℕ = c.loop-place.place in
    let mixed : List TermId = c.loop-place.mixed.items in
    let same_count : length mixed ≡ length ids = inv.count in
    let past : length ids ≤ i = c.loop-place-test.false in
    let done : mixed ≡ values_of ks = all_done mixed ks i (length ids) same_count count past inv.done in
    record {
      term = inv.reducing.term;
      name = inv.reducing.may.name;
      is = inv.reducing.is;
      stand = all_stand h old mid c.requires.stands inv.grows c.args.t c.args.f ids mixed c.args.nesting c.args.calls 0 c.args.values.now c.loop-place.reduced c.requires.term c.requires.large c.requires.head c.requires.arguments c.requires.room c.requires.values inv.reducing done;
      small = all_values h old mid c.requires.stands inv.grows c.args.t c.args.f ids mixed c.args.nesting c.args.calls 0 c.args.values.now c.loop-place.reduced c.requires.term c.requires.large c.requires.head c.requires.arguments c.requires.room c.requires.values inv.reducing done;
    }

pub returns-clause-reduced : goal.returns-clause-reduced
returns-clause-reduced c =
    let h : List Entry = c.args.history.now in
    let old : Work = c.args.work.now in
    let ids : List TermId = c.args.arguments.now in
    let ks : List Known = c.args.values.now.known.items in
    let count : length ks ≡ length ids = known_length h old ids ks c.requires.values.known in
    let mid : Work = c.loop-place.work in
    let inv = c.loop-place.invariant in
    let i : ℕ = c.loop-place.place in
    let mixed : List TermId = c.loop-place.mixed.items in
    let same_count : length mixed ≡ length ids = inv.count in
    let past : length ids ≤ i = c.loop-place-test.false in
    let done : mixed ≡ values_of ks = all_done mixed ks i (length ids) same_count count past inv.done in
    record {
      term = inv.reducing.whole;
      call = inv.reducing.term;
      line = inv.reducing.line;
      calls = c.requires.values.calls;
      nesting = c.requires.values.nesting;
      within = reduced_within h old mid c.requires.stands inv.grows c.args.t c.args.f ids mixed c.args.nesting c.args.calls 0 c.args.values.now c.loop-place.reduced c.requires.term c.requires.large c.requires.head c.requires.arguments c.requires.room c.requires.values inv.reducing done;
    }

pub returns-clause-grows : goal.returns-clause-grows
returns-clause-grows c =
    c.loop-place.invariant.grows
