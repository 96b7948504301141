use Rattle.std.proofs.Common.{◌≡◌, ◌∙◌, length, sym, ap, ap₂, subst, arith}
use Rattle.std.proofs.lemmas.List.{length-map}
use Rattle.nq_logic.specs.Terms.{Term}
use Rattle.nq_logic.specs.Words.{equal_term}
use Rattle.nq_logic.specs.Histories.{Shell}
use Rattle.nq_logic.specs.Shells.{remade, whole}
use Rattle.nq_logic.proofs.Symbols.{equal_symbol}
use Rattle.nq_bank.specs.Content.{term_at}
use Rattle.nq_bank.specs.Shells.{part_at, shell_at}
use Rattle.nq_proof.specs.Clauses.{distinct}
use Rattle.nq_rule.proofs.Made.{for_ok}
use Rattle.nq_history.specs.Events.{events_at}
use Rattle.nq_history.proofs.ShellLemmas.{ShellStands-grown, shell_at-grown}
use Rattle.nq_kernel.specs.declared.work.Work.{Work}
use Rattle.nq_kernel.specs.Growing.{LineHolds}
use Rattle.nq_kernel.proofs.HeldLines.{holds_stands}
use Rattle.nq_lines.specs.Lines.{CutsTo}
use Rattle.nq_lines.proofs.LineLemmas.{only_stands}
use Rattle.nq_lines.proofs.TermLemmas.{same_term_grown}
use Rattle.nq_replay.proofs.UncountedLemmas.{grown_trans}
use Rattle.nq_part_lines.specs.Wholes.{IsPartLine, RemadeLine}
use Rattle.nq_part_lines.proofs.ObjectLemmas.{some_part}
use Rattle.nq_part_lines.proofs.KnownGrowth.{known_grown, rows_grown}
use Rattle.nq_part_lines.proofs.ReadingLemmas.{small_grown}
use Rattle.nq_part_lines.proofs.RemadeLemmas.{again_clause, part_only, whole_grown}
use Rattle.nq_part_lines.proofs.wholes.part_line.Goals as goal

pub returns-in_err-again-clause-grows : goal.returns-in_err-again-clause-grows
returns-in_err-again-clause-grows c = grown_trans c.args.history.now c.args.work.now c.whole.new.work c.made_again.new.work c.whole.ensures.grows c.made_again.ensures.grows

pub returns-in_err-about-clause-grows : goal.returns-in_err-about-clause-grows
returns-in_err-about-clause-grows c = grown_trans c.args.history.now c.args.work.now c.whole.new.work c.about_whole.new.work c.whole.ensures.grows (grown_trans c.args.history.now c.whole.new.work c.made_again.new.work c.about_whole.new.work c.made_again.ensures.grows c.about_whole.ensures.grows)

pub returns-in_err-row-clause-grows : goal.returns-in_err-row-clause-grows
returns-in_err-row-clause-grows c = grown_trans c.args.history.now c.args.work.now c.whole.new.work c.row_line.new.work c.whole.ensures.grows (grown_trans c.args.history.now c.whole.new.work c.made_again.new.work c.row_line.new.work c.made_again.ensures.grows (grown_trans c.args.history.now c.made_again.new.work c.about_whole.new.work c.row_line.new.work c.about_whole.ensures.grows c.row_line.ensures.grows))

pub returns-clause-grows : goal.returns-clause-grows
returns-clause-grows c = grown_trans c.args.history.now c.args.work.now c.whole.new.work c.cut_by.new.work c.whole.ensures.grows (grown_trans c.args.history.now c.whole.new.work c.made_again.new.work c.cut_by.new.work c.made_again.ensures.grows (grown_trans c.args.history.now c.made_again.new.work c.about_whole.new.work c.cut_by.new.work c.about_whole.ensures.grows (grown_trans c.args.history.now c.about_whole.new.work c.row_line.new.work c.cut_by.new.work c.row_line.ensures.grows c.cut_by.ensures.grows)))

pub made_again-requires-clause-shell : goal.made_again-requires-clause-shell
made_again-requires-clause-shell c = ShellStands-grown c.args.work.now.bank c.whole.new.work.bank c.whole.ensures.grows.grows.bank c.args.shell.now c.requires.shell

pub made_again-requires-clause-known : goal.made_again-requires-clause-known
made_again-requires-clause-known c = known_grown c.args.history.now c.args.work.now c.whole.new.work c.requires.stands c.whole.ensures.grows.grows c.args.shell.now c.requires.shell c.requires.known

pub about_whole-requires-clause-shell : goal.about_whole-requires-clause-shell
about_whole-requires-clause-shell c = ShellStands-grown c.args.work.now.bank c.made_again.new.work.bank (grown_trans c.args.history.now c.args.work.now c.whole.new.work c.made_again.new.work c.whole.ensures.grows c.made_again.ensures.grows).grows.bank c.args.shell.now c.requires.shell

pub about_whole-requires-clause-known : goal.about_whole-requires-clause-known
about_whole-requires-clause-known c = known_grown c.args.history.now c.args.work.now c.made_again.new.work c.requires.stands (grown_trans c.args.history.now c.args.work.now c.whole.new.work c.made_again.new.work c.whole.ensures.grows c.made_again.ensures.grows).grows c.args.shell.now c.requires.shell c.requires.known

pub made_again-requires-clause-rows : goal.made_again-requires-clause-rows
made_again-requires-clause-rows c = rows_grown c.args.history.now c.args.work.now c.whole.new.work c.requires.stands c.whole.ensures.grows.grows c.requires.rows

pub made_again-requires-clause-term : goal.made_again-requires-clause-term
made_again-requires-clause-term c = c.in_ok-x.ensures.small

pub made_again-requires-clause-whole : goal.made_again-requires-clause-whole
made_again-requires-clause-whole c = c.in_ok-x.ensures.whole.denotes

pub about_whole-requires-clause-whole : goal.about_whole-requires-clause-whole
about_whole-requires-clause-whole c = same_term_grown c.args.history.now c.whole.new.work c.made_again.new.work c.in_ok-x.x c.made_again.ensures.grows.grows c.in_ok-x.ensures.small.inside ∙ c.in_ok-x.ensures.whole.denotes

pub about_whole-requires-clause-term : goal.about_whole-requires-clause-term
about_whole-requires-clause-term c = small_grown c.args.history.now c.whole.new.work c.made_again.new.work c.in_ok-x.x c.whole.ensures.grows.grows.stands c.made_again.ensures.grows.grows c.in_ok-x.ensures.small

pub about_whole-requires-clause-again_is : goal.about_whole-requires-clause-again_is
about_whole-requires-clause-again_is c = c.in_ok-again.ensures.object.denotes ∙ ap remade (shell_at-grown c.args.work.now.bank c.whole.new.work.bank c.whole.ensures.grows.grows.bank c.args.shell.now c.requires.shell) ∙ sym (ap remade (shell_at-grown c.args.work.now.bank c.made_again.new.work.bank (grown_trans c.args.history.now c.args.work.now c.whole.new.work c.made_again.new.work c.whole.ensures.grows c.made_again.ensures.grows).grows.bank c.args.shell.now c.requires.shell))

pub about_whole-requires-clause-again : goal.about_whole-requires-clause-again
about_whole-requires-clause-again c = c.in_ok-again.ensures.small

pub about_whole-requires-clause-line : goal.about_whole-requires-clause-line
about_whole-requires-clause-line c = subst (λ (s : Shell). RemadeLine c.made_again.new.work s c.args.place c.in_ok-again.again.line) ((shell_at-grown c.args.work.now.bank c.whole.new.work.bank c.whole.ensures.grows.grows.bank c.args.shell.now c.requires.shell) ∙ sym (shell_at-grown c.args.work.now.bank c.made_again.new.work.bank (grown_trans c.args.history.now c.args.work.now c.whole.new.work c.made_again.new.work c.whole.ensures.grows c.made_again.ensures.grows).grows.bank c.args.shell.now c.requires.shell)) c.in_ok-again.ensures.line

pub row_line-requires-clause-named : goal.row_line-requires-clause-named
row_line-requires-clause-named c = (ShellStands-grown c.args.work.now.bank c.about_whole.new.work.bank (grown_trans c.args.history.now c.args.work.now c.whole.new.work c.about_whole.new.work c.whole.ensures.grows (grown_trans c.args.history.now c.whole.new.work c.made_again.new.work c.about_whole.new.work c.made_again.ensures.grows c.about_whole.ensures.grows)).grows.bank c.args.shell.now c.requires.shell).constructor

pub row_line-requires-clause-row : goal.row_line-requires-clause-row
row_line-requires-clause-row c =
    let s : Shell = shell_at c.about_whole.new.work.bank c.args.shell.now in
    let known = known_grown c.args.history.now c.args.work.now c.about_whole.new.work c.requires.stands (grown_trans c.args.history.now c.args.work.now c.whole.new.work c.about_whole.new.work c.whole.ensures.grows (grown_trans c.args.history.now c.whole.new.work c.made_again.new.work c.about_whole.new.work c.made_again.ensures.grows c.about_whole.ensures.grows)).grows c.args.shell.now c.requires.shell c.requires.known in
    record { clause = again_clause s; there = known.again }

pub cut_by-requires-clause-first : goal.cut_by-requires-clause-first
cut_by-requires-clause-first c =
    let s3 : Shell = shell_at c.about_whole.new.work.bank c.args.shell.now in
    let known = known_grown c.args.history.now c.args.work.now c.about_whole.new.work c.requires.stands (grown_trans c.args.history.now c.args.work.now c.whole.new.work c.about_whole.new.work c.whole.ensures.grows (grown_trans c.args.history.now c.whole.new.work c.made_again.new.work c.about_whole.new.work c.made_again.ensures.grows c.about_whole.ensures.grows)).grows c.args.shell.now c.requires.shell c.requires.known in
    let held : LineHolds c.row_line.new.work c.in_ok-row.row (distinct (again_clause s3)) = c.in_ok-row.ensures.line (again_clause s3) known.again.is in
    holds_stands c.row_line.new.work c.in_ok-row.row (distinct (again_clause s3)) held

pub cut_by-requires-clause-second : goal.cut_by-requires-clause-second
cut_by-requires-clause-second c =
    let s0 : Shell = shell_at c.args.work.now.bank c.args.shell.now in
    let about = whole_grown c.args.history.now c.about_whole.new.work c.row_line.new.work (grown_trans c.args.history.now c.args.work.now c.whole.new.work c.about_whole.new.work c.whole.ensures.grows (grown_trans c.args.history.now c.whole.new.work c.made_again.new.work c.about_whole.new.work c.made_again.ensures.grows c.about_whole.ensures.grows)).grows.stands c.row_line.ensures.grows.grows (shell_at c.made_again.new.work.bank c.args.shell.now) s0 c.args.place c.in_ok-about.about (sym (shell_at-grown c.args.work.now.bank c.made_again.new.work.bank (grown_trans c.args.history.now c.args.work.now c.whole.new.work c.made_again.new.work c.whole.ensures.grows c.made_again.ensures.grows).grows.bank c.args.shell.now c.requires.shell)) c.in_ok-about.ensures.line in
    let many : length s0.parts ≡ length c.args.shell.now.parts.items = length-map c.args.shell.now.parts.items (part_at c.args.work.now.bank) in
    let below = c.requires.place in
    let part = some_part s0.parts c.args.place (omega (arith, many, below)) in
    only_stands c.row_line.new.work c.in_ok-about.about _ (about part.0 part.1)

pub cut_by-requires-clause-symbol : goal.cut_by-requires-clause-symbol
cut_by-requires-clause-symbol c = equal_symbol (events_at c.row_line.new.work.bank c.args.history.now)

pub cut_by-requires-clause-left : goal.cut_by-requires-clause-left
cut_by-requires-clause-left c = small_grown c.args.history.now c.made_again.new.work c.row_line.new.work c.in_ok-again.again.object (grown_trans c.args.history.now c.args.work.now c.whole.new.work c.made_again.new.work c.whole.ensures.grows c.made_again.ensures.grows).grows.stands (grown_trans c.args.history.now c.made_again.new.work c.about_whole.new.work c.row_line.new.work c.about_whole.ensures.grows c.row_line.ensures.grows).grows c.in_ok-again.ensures.small

pub cut_by-requires-clause-right : goal.cut_by-requires-clause-right
cut_by-requires-clause-right c = small_grown c.args.history.now c.whole.new.work c.row_line.new.work c.in_ok-x.x c.whole.ensures.grows.grows.stands (grown_trans c.args.history.now c.whole.new.work c.made_again.new.work c.row_line.new.work c.made_again.ensures.grows (grown_trans c.args.history.now c.made_again.new.work c.about_whole.new.work c.row_line.new.work c.about_whole.ensures.grows c.row_line.ensures.grows)).grows c.in_ok-x.ensures.small

pub returns-clause-line : goal.returns-clause-line
returns-clause-line c =
    let s0 : Shell = shell_at c.args.work.now.bank c.args.shell.now in
    let about = whole_grown c.args.history.now c.about_whole.new.work c.row_line.new.work (grown_trans c.args.history.now c.args.work.now c.whole.new.work c.about_whole.new.work c.whole.ensures.grows (grown_trans c.args.history.now c.whole.new.work c.made_again.new.work c.about_whole.new.work c.made_again.ensures.grows c.about_whole.ensures.grows)).grows.stands c.row_line.ensures.grows.grows (shell_at c.made_again.new.work.bank c.args.shell.now) s0 c.args.place c.in_ok-about.about (sym (shell_at-grown c.args.work.now.bank c.made_again.new.work.bank (grown_trans c.args.history.now c.args.work.now c.whole.new.work c.made_again.new.work c.whole.ensures.grows c.made_again.ensures.grows).grows.bank c.args.shell.now c.requires.shell)) c.in_ok-about.ensures.line in
    let s3 : Shell = shell_at c.about_whole.new.work.bank c.args.shell.now in
    let known = known_grown c.args.history.now c.args.work.now c.about_whole.new.work c.requires.stands (grown_trans c.args.history.now c.args.work.now c.whole.new.work c.about_whole.new.work c.whole.ensures.grows (grown_trans c.args.history.now c.whole.new.work c.made_again.new.work c.about_whole.new.work c.made_again.ensures.grows c.about_whole.ensures.grows)).grows c.args.shell.now c.requires.shell c.requires.known in
    let held : LineHolds c.row_line.new.work c.in_ok-row.row (distinct (again_clause s3)) = c.in_ok-row.ensures.line (again_clause s3) known.again.is in
    let w4 : Work = c.row_line.new.work in
    let w5 : Work = c.cut_by.new.work in
    let row : LineHolds w4 c.in_ok-row.row (distinct (again_clause s0)) = subst (λ (s : Shell). LineHolds w4 c.in_ok-row.row (distinct (again_clause s))) (shell_at-grown c.args.work.now.bank c.about_whole.new.work.bank (grown_trans c.args.history.now c.args.work.now c.whole.new.work c.about_whole.new.work c.whole.ensures.grows (grown_trans c.args.history.now c.whole.new.work c.made_again.new.work c.about_whole.new.work c.made_again.ensures.grows c.about_whole.ensures.grows)).grows.bank c.args.shell.now c.requires.shell) held in
    let again : term_at w4.bank c.in_ok-again.again.object ≡ remade s0 = same_term_grown c.args.history.now c.made_again.new.work w4 c.in_ok-again.again.object (grown_trans c.args.history.now c.made_again.new.work c.about_whole.new.work c.row_line.new.work c.about_whole.ensures.grows c.row_line.ensures.grows).grows c.in_ok-again.ensures.small.inside ∙ c.in_ok-again.ensures.object.denotes ∙ ap remade (shell_at-grown c.args.work.now.bank c.whole.new.work.bank c.whole.ensures.grows.grows.bank c.args.shell.now c.requires.shell) in
    let x : term_at w4.bank c.in_ok-x.x ≡ whole = same_term_grown c.args.history.now c.whole.new.work c.row_line.new.work c.in_ok-x.x (grown_trans c.args.history.now c.whole.new.work c.made_again.new.work c.row_line.new.work c.made_again.ensures.grows (grown_trans c.args.history.now c.made_again.new.work c.about_whole.new.work c.row_line.new.work c.about_whole.ensures.grows c.row_line.ensures.grows)).grows c.in_ok-x.ensures.small.inside ∙ c.in_ok-x.ensures.whole.denotes in
    for_ok c.cut_by.result (CutsTo w4 w5 (equal_term (term_at w4.bank c.in_ok-again.again.object) (term_at w4.bank c.in_ok-x.x)) c.in_ok-row.row c.in_ok-about.about) (IsPartLine w5 s0 c.args.place) (λ n k part e.
    part_only w4 w5 s0 part c.in_ok-row.row c.in_ok-about.about n row (about part e) (subst (λ (v : Term). CutsTo w4 w5 v c.in_ok-row.row c.in_ok-about.about n) (ap₂ equal_term again x) k)) c.cut_by.ensures.line
