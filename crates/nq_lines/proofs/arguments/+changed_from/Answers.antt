use Rattle.std.proofs.Common.{rules, ◌≡◌, ◌+◌, ◌-◌, suc, Option, Some, None, List, [], ◌∷◌, length, take, drop, sym, ap, subst, arith}
use Rattle.std.specs.Prelude.{All}
use Rattle.nq_logic.specs.Terms.{Term}
use Rattle.nq_logic.specs.Ground.{symbols_of}
use Rattle.nq_logic.specs.Words.{not_term, equal_term}
use Rattle.nq_bank.specs.Content.{term_at}
use Rattle.nq_proof.specs.Rules.{Forwards}
use Rattle.nq_rule.specs.Results.{with_argument}
use Rattle.nq_rule.proofs.Made.{for_ok}
use Rattle.nq_history.specs.Events.{events_at}
use Rattle.nq_kernel.specs.declared.work.Work.{Work}
use Rattle.nq_kernel.specs.Growing.{WorkGrows}
use Rattle.nq_kernel.proofs.GrowingLemmas.{WorkGrows-trans, WorkGrows-refl}
use Rattle.nq_lines.specs.declared.calls.Equated.{Equated}
use Rattle.nq_lines.specs.Lines.{IsTermIn, LineLeads, DischargesTo}
use Rattle.nq_lines.specs.Arguments.{EquatedStands, ChangeStands, IsCallAt, CarriesOn, MakesOn}
use Rattle.nq_lines.proofs.ArgumentLemmas.{argument_over}
use Rattle.nq_lines.proofs.Chains.{discharges_by}
use Rattle.nq_lines.proofs.LineLemmas.{line_grown}
use Rattle.nq_lines.proofs.TermLemmas.{term_grown, same_term_grown}
use Rattle.nq_lines.proofs.ManyLemmas.{no_changes, split_changes, others_stand, changes_grown, kept_is, next_is, there_is, line_done, line_kept, call_kept, line_changed, call_changed}
use Rattle.nq_lines.proofs.arguments.+changed_from.Goals as goal

pub changed_from-requires : goal.changed_from-requires
changed_from-requires n c =
    let h = c.args.history.now in
    let w0 : Work = c.args.work.now in
    let xs : List (Option Equated) = c.args.changes.now in
    let later : List (Option Equated) = take (length xs - 1) (drop 1 xs) in
    let t : Term = term_at w0.bank c.args.t in
    let place = c.args.place in
    let whole : xs ≡ None ∷ later = split_changes xs _ None c.in-len1-up.len_at_least c.in-None.is in
    (search rules, (c.requires.stands, (c.requires.call, (kept_is place later t (subst (λ v. IsCallAt place v t) whole c.requires.place), (c.requires.line, (others_stand (ChangeStands h w0) xs c.in-len1-up.len_at_least c.requires.changes, (let e : length xs ≡ suc (length later) = ap length whole in omega (arith, e, c.requires.room))))))))

pub argument_at-a-requires-clause-place : goal.argument_at-a-requires-clause-place
argument_at-a-requires-clause-place n c =
    let h = c.args.history.now in
    let w0 : Work = c.args.work.now in
    let xs : List (Option Equated) = c.args.changes.now in
    let later : List (Option Equated) = take (length xs - 1) (drop 1 xs) in
    let t : Term = term_at w0.bank c.args.t in
    let place = c.args.place in
    let e : Equated = c.in-Some.e in
    let whole : xs ≡ Some e ∷ later = split_changes xs _ (Some e) c.in-len1-up.len_at_least c.in-Some.is in
    there_is place (Some e) later t (subst (λ v. IsCallAt place v t) whole c.requires.place)

pub changed_from-requires-in-Some : goal.changed_from-requires-in-Some
changed_from-requires-in-Some n c =
    let h = c.args.history.now in
    let w0 : Work = c.args.work.now in
    let xs : List (Option Equated) = c.args.changes.now in
    let later : List (Option Equated) = take (length xs - 1) (drop 1 xs) in
    let t : Term = term_at w0.bank c.args.t in
    let place = c.args.place in
    let e : Equated = c.in-Some.e in
    let whole : xs ≡ Some e ∷ later = split_changes xs _ (Some e) c.in-len1-up.len_at_least c.in-Some.is in
    let w1 : Work = c.replace_argument.new.work in
    let g01 : WorkGrows h w0 w1 = c.replace_argument.ensures.grows in
    let u : Term = term_at w0.bank e.term in
    let a : Term = term_at w0.bank c.argument_at-a.result in
    let next : Equated = c.in_ok-next-in-Some.next in
    let all : All (ChangeStands h w0) (Some e ∷ later) = subst (All (ChangeStands h w0)) whole c.requires.changes in
    let here : EquatedStands h w0 e = all 0 None (omega arith) in
    let denotes : term_at w1.bank next.term ≡ with_argument place u t = c.in_ok-next-in-Some.ensures.call.denotes in
    let left : Term = c.requires.line.left in
    let used : Term = not_term (equal_term a u) in
    let so_far : List Term = c.requires.line.these in
    let leads : LineLeads w1 next.line (equal_term left (term_at w1.bank next.term)) (used ∷ so_far) = subst (λ v. LineLeads w1 next.line (equal_term left v) (used ∷ so_far)) (sym denotes) (c.in_ok-next-in-Some.ensures.line left a so_far c.argument_at-a.ensures.argument c.requires.line.leads) in (
      search rules,
      (
        g01.stands,
        (
          c.in_ok-next-in-Some.ensures.over,
          (
            subst (λ v. IsCallAt (place + 1) later v) (sym denotes) (next_is place e later u t (subst (λ v. IsCallAt place v t) whole c.requires.place)),
            (
              record { left = left; these = used ∷ so_far; leads = leads },
              (
                changes_grown h w0 w1 c.requires.stands g01 later (others_stand (ChangeStands h w0) xs c.in-len1-up.len_at_least c.requires.changes),
                (let e : length xs ≡ suc (length later) = ap length whole in omega (arith, e, c.requires.room)),
              ),
            ),
          ),
        ),
      ),
    )

pub returns-in_err-made-in-Some-clause-grows : goal.returns-in_err-made-in-Some-clause-grows
returns-in_err-made-in-Some-clause-grows n c = WorkGrows-trans c.args.history.now c.args.work.now c.replace_argument.new.work c.changed_from-in-Some.new.work c.replace_argument.ensures.grows c.changed_from-in-Some.ensures.grows

pub discharge-requires-clause-left : goal.discharge-requires-clause-left
discharge-requires-clause-left n c =
    let h = c.args.history.now in
    let w0 : Work = c.args.work.now in
    let xs : List (Option Equated) = c.args.changes.now in
    let later : List (Option Equated) = take (length xs - 1) (drop 1 xs) in
    let t : Term = term_at w0.bank c.args.t in
    let place = c.args.place in
    let e : Equated = c.in-Some.e in
    let whole : xs ≡ Some e ∷ later = split_changes xs _ (Some e) c.in-len1-up.len_at_least c.in-Some.is in
    let w1 : Work = c.replace_argument.new.work in
    let g01 : WorkGrows h w0 w1 = c.replace_argument.ensures.grows in
    let u : Term = term_at w0.bank e.term in
    let a : Term = term_at w0.bank c.argument_at-a.result in
    let next : Equated = c.in_ok-next-in-Some.next in
    let all : All (ChangeStands h w0) (Some e ∷ later) = subst (All (ChangeStands h w0)) whole c.requires.changes in
    let here : EquatedStands h w0 e = all 0 None (omega arith) in
    let denotes : term_at w1.bank next.term ≡ with_argument place u t = c.in_ok-next-in-Some.ensures.call.denotes in
    let w2 : Work = c.changed_from-in-Some.new.work in
    let g12 : WorkGrows h w1 w2 = c.changed_from-in-Some.ensures.grows in
    let g02 : WorkGrows h w0 w2 = WorkGrows-trans h w0 w1 w2 g01 g12 in
    term_grown h w0 w2 c.argument_at-a.result c.requires.stands g02 (record { stands = c.argument_at-a.ensures.stands; over = argument_over (symbols_of (events_at w0.bank h)) t place a c.requires.call.over c.argument_at-a.ensures.argument })

pub discharge-requires-clause-right : goal.discharge-requires-clause-right
discharge-requires-clause-right n c =
    let h = c.args.history.now in
    let w0 : Work = c.args.work.now in
    let xs : List (Option Equated) = c.args.changes.now in
    let later : List (Option Equated) = take (length xs - 1) (drop 1 xs) in
    let t : Term = term_at w0.bank c.args.t in
    let place = c.args.place in
    let e : Equated = c.in-Some.e in
    let whole : xs ≡ Some e ∷ later = split_changes xs _ (Some e) c.in-len1-up.len_at_least c.in-Some.is in
    let w1 : Work = c.replace_argument.new.work in
    let g01 : WorkGrows h w0 w1 = c.replace_argument.ensures.grows in
    let u : Term = term_at w0.bank e.term in
    let a : Term = term_at w0.bank c.argument_at-a.result in
    let next : Equated = c.in_ok-next-in-Some.next in
    let all : All (ChangeStands h w0) (Some e ∷ later) = subst (All (ChangeStands h w0)) whole c.requires.changes in
    let here : EquatedStands h w0 e = all 0 None (omega arith) in
    let denotes : term_at w1.bank next.term ≡ with_argument place u t = c.in_ok-next-in-Some.ensures.call.denotes in
    let w2 : Work = c.changed_from-in-Some.new.work in
    let g12 : WorkGrows h w1 w2 = c.changed_from-in-Some.ensures.grows in
    let g02 : WorkGrows h w0 w2 = WorkGrows-trans h w0 w1 w2 g01 g12 in
    term_grown h w0 w2 e.term c.requires.stands g02 here.term

pub discharge-requires-clause-equation : goal.discharge-requires-clause-equation
discharge-requires-clause-equation n c =
    let h = c.args.history.now in
    let w0 : Work = c.args.work.now in
    let xs : List (Option Equated) = c.args.changes.now in
    let later : List (Option Equated) = take (length xs - 1) (drop 1 xs) in
    let t : Term = term_at w0.bank c.args.t in
    let place = c.args.place in
    let e : Equated = c.in-Some.e in
    let whole : xs ≡ Some e ∷ later = split_changes xs _ (Some e) c.in-len1-up.len_at_least c.in-Some.is in
    let w1 : Work = c.replace_argument.new.work in
    let g01 : WorkGrows h w0 w1 = c.replace_argument.ensures.grows in
    let u : Term = term_at w0.bank e.term in
    let a : Term = term_at w0.bank c.argument_at-a.result in
    let next : Equated = c.in_ok-next-in-Some.next in
    let all : All (ChangeStands h w0) (Some e ∷ later) = subst (All (ChangeStands h w0)) whole c.requires.changes in
    let here : EquatedStands h w0 e = all 0 None (omega arith) in
    let denotes : term_at w1.bank next.term ≡ with_argument place u t = c.in_ok-next-in-Some.ensures.call.denotes in
    let w2 : Work = c.changed_from-in-Some.new.work in
    let g12 : WorkGrows h w1 w2 = c.changed_from-in-Some.ensures.grows in
    let g02 : WorkGrows h w0 w2 = WorkGrows-trans h w0 w1 w2 g01 g12 in
    line_grown h w0 w2 e.line c.requires.stands g02 here.line

pub returns-in_err-shown-in-Some-clause-grows : goal.returns-in_err-shown-in-Some-clause-grows
returns-in_err-shown-in-Some-clause-grows n c = WorkGrows-trans c.args.history.now c.args.work.now c.replace_argument.new.work c.discharge.new.work c.replace_argument.ensures.grows (WorkGrows-trans c.args.history.now c.replace_argument.new.work c.changed_from-in-Some.new.work c.discharge.new.work c.changed_from-in-Some.ensures.grows c.discharge.ensures.grows)

pub returns-in_ok-shown-in-Some-clause-grows : goal.returns-in_ok-shown-in-Some-clause-grows
returns-in_ok-shown-in-Some-clause-grows n c = WorkGrows-trans c.args.history.now c.args.work.now c.replace_argument.new.work c.discharge.new.work c.replace_argument.ensures.grows (WorkGrows-trans c.args.history.now c.replace_argument.new.work c.changed_from-in-Some.new.work c.discharge.new.work c.changed_from-in-Some.ensures.grows c.discharge.ensures.grows)

pub returns-in-empty-clause-line : goal.returns-in-empty-clause-line
returns-in-empty-clause-line n c =
    let h = c.args.history.now in
    let w0 : Work = c.args.work.now in
    let xs : List (Option Equated) = c.args.changes.now in
    let later : List (Option Equated) = take (length xs - 1) (drop 1 xs) in
    let t : Term = term_at w0.bank c.args.t in
    let place = c.args.place in
    let whole : xs ≡ [] = no_changes xs c.in-empty.len_below in
    let made : Equated = record { term = c.args.t; line = c.args.line } in
    subst (λ v. CarriesOn w0 w0 place v t c.args.line made) (sym whole) (line_done w0 w0 place c.args.line [] t made)

pub returns-in-empty-clause-grows : goal.returns-in-empty-clause-grows
returns-in-empty-clause-grows n c = WorkGrows-refl c.args.history.now c.args.work.now c.requires.stands

pub returns-in-None-clause-call : goal.returns-in-None-clause-call
returns-in-None-clause-call n c =
    let h = c.args.history.now in
    let w0 : Work = c.args.work.now in
    let xs : List (Option Equated) = c.args.changes.now in
    let later : List (Option Equated) = take (length xs - 1) (drop 1 xs) in
    let t : Term = term_at w0.bank c.args.t in
    let place = c.args.place in
    let whole : xs ≡ None ∷ later = split_changes xs _ None c.in-len1-up.len_at_least c.in-None.is in
    let w1 : Work = c.changed_from.new.work in
    for_ok c.changed_from.result (MakesOn w0 w1 (place + 1) later t) (MakesOn w0 w1 place xs t) (λ made f. subst (λ v. MakesOn w0 w1 place v t made) (sym whole) (call_kept w0 w1 place c.args.line later t made f)) c.changed_from.ensures.call

pub returns-in-None-clause-line : goal.returns-in-None-clause-line
returns-in-None-clause-line n c =
    let h = c.args.history.now in
    let w0 : Work = c.args.work.now in
    let xs : List (Option Equated) = c.args.changes.now in
    let later : List (Option Equated) = take (length xs - 1) (drop 1 xs) in
    let t : Term = term_at w0.bank c.args.t in
    let place = c.args.place in
    let whole : xs ≡ None ∷ later = split_changes xs _ None c.in-len1-up.len_at_least c.in-None.is in
    let w1 : Work = c.changed_from.new.work in
    for_ok c.changed_from.result (CarriesOn w0 w1 (place + 1) later t c.args.line) (CarriesOn w0 w1 place xs t c.args.line) (λ made f. subst (λ v. CarriesOn w0 w1 place v t c.args.line made) (sym whole) (line_kept w0 w1 place c.args.line later t made f)) c.changed_from.ensures.line

pub returns-in_ok-shown-in-Some-clause-call : goal.returns-in_ok-shown-in-Some-clause-call
returns-in_ok-shown-in-Some-clause-call n c =
    let h = c.args.history.now in
    let w0 : Work = c.args.work.now in
    let xs : List (Option Equated) = c.args.changes.now in
    let later : List (Option Equated) = take (length xs - 1) (drop 1 xs) in
    let t : Term = term_at w0.bank c.args.t in
    let place = c.args.place in
    let e : Equated = c.in-Some.e in
    let whole : xs ≡ Some e ∷ later = split_changes xs _ (Some e) c.in-len1-up.len_at_least c.in-Some.is in
    let w1 : Work = c.replace_argument.new.work in
    let g01 : WorkGrows h w0 w1 = c.replace_argument.ensures.grows in
    let u : Term = term_at w0.bank e.term in
    let a : Term = term_at w0.bank c.argument_at-a.result in
    let next : Equated = c.in_ok-next-in-Some.next in
    let all : All (ChangeStands h w0) (Some e ∷ later) = subst (All (ChangeStands h w0)) whole c.requires.changes in
    let here : EquatedStands h w0 e = all 0 None (omega arith) in
    let denotes : term_at w1.bank next.term ≡ with_argument place u t = c.in_ok-next-in-Some.ensures.call.denotes in
    let w2 : Work = c.changed_from-in-Some.new.work in
    let g12 : WorkGrows h w1 w2 = c.changed_from-in-Some.ensures.grows in
    let g02 : WorkGrows h w0 w2 = WorkGrows-trans h w0 w1 w2 g01 g12 in
    let w3 : Work = c.discharge.new.work in
    let g23 : WorkGrows h w2 w3 = c.discharge.ensures.grows in
    let made : Equated = c.in_ok-made-in-Some.made in
    let shown = c.in_ok-shown-in-Some.shown in
    let again : MakesOn w1 w2 (place + 1) later (with_argument place u t) made = subst (λ v. MakesOn w1 w2 (place + 1) later v made) denotes c.in_ok-made-in-Some.ensures.call in
    subst (λ v. MakesOn w0 w3 place v t (record { term = made.term; line = shown })) (sym whole) (call_changed h w0 w1 w2 w3 place c.args.line next.line e later t made shown c.requires.stands g01 all g23 again)

pub returns-in_ok-shown-in-Some-clause-over : goal.returns-in_ok-shown-in-Some-clause-over
returns-in_ok-shown-in-Some-clause-over n c = term_grown c.args.history.now c.changed_from-in-Some.new.work c.discharge.new.work c.in_ok-made-in-Some.made.term c.changed_from-in-Some.ensures.grows.stands c.discharge.ensures.grows c.in_ok-made-in-Some.ensures.over

pub returns-in_ok-shown-in-Some-clause-line : goal.returns-in_ok-shown-in-Some-clause-line
returns-in_ok-shown-in-Some-clause-line n c =
    let h = c.args.history.now in
    let w0 : Work = c.args.work.now in
    let xs : List (Option Equated) = c.args.changes.now in
    let later : List (Option Equated) = take (length xs - 1) (drop 1 xs) in
    let t : Term = term_at w0.bank c.args.t in
    let place = c.args.place in
    let e : Equated = c.in-Some.e in
    let whole : xs ≡ Some e ∷ later = split_changes xs _ (Some e) c.in-len1-up.len_at_least c.in-Some.is in
    let w1 : Work = c.replace_argument.new.work in
    let g01 : WorkGrows h w0 w1 = c.replace_argument.ensures.grows in
    let u : Term = term_at w0.bank e.term in
    let a : Term = term_at w0.bank c.argument_at-a.result in
    let next : Equated = c.in_ok-next-in-Some.next in
    let all : All (ChangeStands h w0) (Some e ∷ later) = subst (All (ChangeStands h w0)) whole c.requires.changes in
    let here : EquatedStands h w0 e = all 0 None (omega arith) in
    let denotes : term_at w1.bank next.term ≡ with_argument place u t = c.in_ok-next-in-Some.ensures.call.denotes in
    let w2 : Work = c.changed_from-in-Some.new.work in
    let g12 : WorkGrows h w1 w2 = c.changed_from-in-Some.ensures.grows in
    let g02 : WorkGrows h w0 w2 = WorkGrows-trans h w0 w1 w2 g01 g12 in
    let w3 : Work = c.discharge.new.work in
    let g23 : WorkGrows h w2 w3 = c.discharge.ensures.grows in
    let made : Equated = c.in_ok-made-in-Some.made in
    let shown = c.in_ok-shown-in-Some.shown in
    let again : CarriesOn w1 w2 (place + 1) later (with_argument place u t) next.line made = subst (λ v. CarriesOn w1 w2 (place + 1) later v next.line made) denotes c.in_ok-made-in-Some.ensures.line in
    let there : IsTermIn h w0 c.argument_at-a.result = record { stands = c.argument_at-a.ensures.stands; over = argument_over (symbols_of (events_at w0.bank h)) t place a c.requires.call.over c.argument_at-a.ensures.argument } in
    let discharges : DischargesTo w2 w3 Forwards a u made.line e.line shown = discharges_by w2 w3 Forwards (term_at w2.bank c.argument_at-a.result) (term_at w2.bank e.term) a u made.line e.line shown (same_term_grown h w0 w2 c.argument_at-a.result g02 there) (same_term_grown h w0 w2 e.term g02 here.term) c.in_ok-shown-in-Some.ensures.line in
    subst (λ v. CarriesOn w0 w3 place v t c.args.line (record { term = made.term; line = shown })) (sym whole) (line_changed h w0 w1 w2 w3 place c.args.line next.line e later t made shown c.requires.stands g01 all a g12 c.argument_at-a.ensures.argument c.in_ok-next-in-Some.ensures.line again discharges)
