use Rattle.std.proofs.Common.{◌≡◌, ◌∙◌, sym, ap, arith}
use Rattle.std.proofs.lemmas.Result.{IfOk-weaker}
use Rattle.nq_logic.specs.Terms.{Term}
use Rattle.nq_logic.specs.Words.{not_term}
use Rattle.nq_bank.specs.Content.{term_at, terms_at}
use Rattle.nq_bank.proofs.Growth.{Stands-grown, term_at-grown}
use Rattle.nq_bank.proofs.Standing.{stand_grown}
use Rattle.nq_kernel.specs.declared.work.Work.{Work}
use Rattle.nq_kernel.specs.Growing.{WorkGrows}
use Rattle.nq_kernel.proofs.GrowingLemmas.{WorkGrows-refl, WorkGrows-trans}
use Rattle.nq_lines.proofs.TermLemmas.{term_grown}
use Rattle.nq_hinted.specs.Nests.{denied_by, nest}
use Rattle.nq_hinted.proofs.NestLines.{denials_grown, nest_grown, opened_before, same_branch, same_test}
use Rattle.nq_hinted.proofs.nests.+opening.Goals as goal

pub open_nest-returns-in-empty-clause-grows : goal.open_nest-returns-in-empty-clause-grows
open_nest-returns-in-empty-clause-grows t c = WorkGrows-refl c.args.history.now c.args.work.now c.requires.stands

pub open_before-open_choice-requires-clause-whole : goal.open_before-open_choice-requires-clause-whole
open_before-open_choice-requires-clause-whole t c = c.parts_in-parts.ensures.whole

pub open_before-open_nest-requires : goal.open_before-open_nest-requires
open_before-open_nest-requires t c =
    let h = c.args.history.now in
    let old : Work = c.args.work.now in
    let new : Work = c.open_choice.new.work in
    let up : WorkGrows h old new = c.open_choice.ensures.grows in
    let first = c.parts_in-parts.result.first in
    let inner : term_at old.bank first ≡ nest (term_at old.bank c.args.second) (terms_at old.bank c.args.more.now) =
    same_branch (term_at old.bank c.args.whole) _ _ _ _ _ _ c.parts_in-parts.ensures.whole c.requires.whole in
    let later : term_at new.bank first ≡ nest (term_at new.bank c.args.second) (terms_at new.bank c.args.more.now) =
    nest_grown old.bank new.bank up.bank c.args.second c.args.more.now c.requires.second c.requires.more (term_at new.bank first) (term_at-grown old.bank new.bank first up.bank c.parts_in-parts.ensures.first.stands ∙ inner) in (
      omega arith,
      (
        up.stands,
        (
          c.in_ok-line.ensures.stands,
          (
            Stands-grown old.bank new.bank c.args.second up.bank c.requires.second,
            (
              stand_grown old.bank new.bank c.args.more.now up.bank c.requires.more,
              (denials_grown old.bank new.bank up.bank c.args.second c.args.more.now c.requires.second c.requires.more c.requires.denials, (later, term_grown h old new first c.requires.stands up c.parts_in-parts.ensures.first)),
            ),
          ),
        ),
      ),
    )

pub open_before-returns-clause-line : goal.open_before-returns-clause-line
open_before-returns-clause-line t c =
    let old : Work = c.args.work.now in
    let new : Work = c.open_choice.new.work in
    let p : Term = term_at old.bank c.parts_in-parts.result.test in
    let inner : term_at old.bank c.parts_in-parts.result.first ≡ nest (term_at old.bank c.args.second) (terms_at old.bank c.args.more.now) =
    same_branch (term_at old.bank c.args.whole) _ _ _ _ _ _ c.parts_in-parts.ensures.whole c.requires.whole in
    let test : p ≡ denied_by (term_at old.bank c.args.first) = same_test (term_at old.bank c.args.whole) _ _ _ _ _ _ c.parts_in-parts.ensures.whole c.requires.whole in
    IfOk-weaker c.open_nest.result _ _
    (λ n rest. opened_before old new c.open_nest.new.work (term_at old.bank c.args.first) c.args.second c.args.more.now p (term_at old.bank c.parts_in-parts.result.first) (term_at old.bank c.args.whole) c.args.line c.in_ok-line.line n
    c.open_choice.ensures.grows.bank c.requires.second c.requires.more (c.requires.denied ∙ ap not_term (sym test)) inner c.requires.whole c.in_ok-line.ensures.line rest)
    c.open_nest.ensures.line

pub open_before-returns-clause-grows : goal.open_before-returns-clause-grows
open_before-returns-clause-grows t c = WorkGrows-trans c.args.history.now c.args.work.now c.open_choice.new.work c.open_nest.new.work c.open_choice.ensures.grows c.open_nest.ensures.grows
