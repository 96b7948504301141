-- The readings of some texts, by the machine.
use Rattle.std.proofs.Common.{◌≡◌, ℕ, ◌^◌, true, false, List, [], ◌∷◌, refl, ap, sym, ◌∙◌, subst}
use Rattle.std.specs.Prelude.{codes}
use Rattle.nq_form.specs.Form.{Forms, symbol, numeral, quoted, listed, end, dotted, next}
use Rattle.nq_form.specs.Grammar.{Ending, done, fault, Reads}
use Rattle.nq_form.specs.Kinds.{kind_of}
use Rattle.nq_form.specs.Machine.{Outcome, idle, run, finish}
use Rattle.nq_form.specs.Examples.{Examples}
use Rattle.nq_form.proofs.Giving.{top_of}
use Rattle.nq_form.proofs.Naming.{named, dot_kind, wide_run, bad_run}
use Rattle.nq_form.proofs.Outcomes.{outcome, one_outcome}
use Rattle.nq_form.proofs.EveryText.{every_text_reads}

-- what the machine answers is the reading
reads-by : (levels limit : ℕ) (t : List ℕ) (fs : Forms) (e : Ending) → finish kind_of (run kind_of limit 0 (idle (top_of end levels)) t) ≡ outcome fs e → Reads levels limit t fs e
reads-by levels limit t fs e h =
    let r = every_text_reads levels limit t in
    let same : outcome r.0 r.1 ≡ outcome fs e = sym (one_outcome kind_of limit named dot_kind wide_run bad_run levels t r.0 r.1 r.2) ∙ h in
    let forms_are : r.0 ≡ fs = ap (λ (z : Outcome). z.forms) same in
    let ending_is : r.1 ≡ e = ap (λ (z : Outcome). z.ending) same in
    subst (λ (z : Forms). Reads levels limit t z e) forms_are (subst (λ (z : Ending). Reads levels limit t r.0 z) ending_is r.2)

pub examples : Examples
unfolding run
examples = record {
  two_forms_behind_a_dot = reads-by 500 (2 ^ 25) (codes "(A . B C)") (end) (fault 2 3) refl;
  two_dots = reads-by 500 (2 ^ 25) (codes "(A . B . C)") (end) (fault 2 7) refl;
  no_form_behind_a_dot = reads-by 500 (2 ^ 25) (codes "(A . )") (end) (fault 2 3) refl;
  dot_without_an_element = reads-by 500 (2 ^ 25) (codes "(. A)") (end) (fault 2 1) refl;
  dot_in_no_list = reads-by 500 (2 ^ 25) (codes "A .") (next (symbol (codes "A")) end) (fault 2 2) refl;
  dot_behind_a_mark = reads-by 500 (2 ^ 25) (codes "(A '. B)") (end) (fault 2 4) refl;
  mark_before_the_close = reads-by 500 (2 ^ 25) (codes "(')") (end) (fault 2 2) refl;
  mark_before_the_close_in_no_list = reads-by 500 (2 ^ 25) (codes "')") (end) (fault 1 1) refl;
  close_in_no_list = reads-by 500 (2 ^ 25) (codes ")") (end) (fault 1 0) refl;
  marks_at_the_end = reads-by 500 (2 ^ 25) (codes "''") (end) (fault 2 1) refl;
  mark_at_the_end_in_a_list = reads-by 500 (2 ^ 25) (codes "(A '") (end) (fault 1 0) refl;
  list_behind_a_mark_at_the_end = reads-by 500 (2 ^ 25) (codes "'(A") (end) (fault 1 1) refl;
  comment_at_the_end = reads-by 500 (2 ^ 25) (codes "#| #| |#") (end) (fault 1 0) refl;
  line_comment_at_the_end = reads-by 500 (2 ^ 25) (codes "A ; b") (next (symbol (codes "A")) end) (done) refl;
  sharp_alone = reads-by 500 (2 ^ 25) (codes "(# A)") (end) (fault 2 1) refl;
  sharp_at_the_end = reads-by 500 (2 ^ 25) (codes "(A #") (end) (fault 2 3) refl;
  bad_token = reads-by 500 (2 ^ 25) (codes "(A 12X)") (end) (fault 2 3) refl;
  bad_token_at_the_end = reads-by 500 (2 ^ 25) (codes "(A 12X") (end) (fault 2 3) refl;
  wide_numeral = reads-by 500 (2 ^ 25) (codes "(340282366920938463463374607431768211456)") (end) (fault 3 1) refl;
  wide_numeral_with_a_sign = reads-by 500 (2 ^ 25) (codes "-340282366920938463463374607431768211456") (end) (fault 3 0) refl;
  quote_behind_a_dot = reads-by 500 (2 ^ 25) (codes "(A . 'B)") (next (listed (next (symbol (codes "A")) (dotted (quoted (symbol (codes "B")))))) end) (done) refl;
  signs = reads-by 500 (2 ^ 25) (codes "-7 +7 -0") (next (numeral true 7) (next (numeral false 7) (next (numeral false 0) end))) (done) refl;
  lower_case = reads-by 500 (2 ^ 25) (codes "(plus-2 x)") (next (listed (next (symbol (codes "PLUS-2")) (next (symbol (codes "X")) end))) end) (done) refl;
  string_at_the_end = reads-by 500 (2 ^ 25) (65 ∷ 32 ∷ 34 ∷ 98 ∷ []) (next (symbol (codes "A")) end) (fault 1 2) refl;
  string_at_the_end_in_a_list = reads-by 500 (2 ^ 25) (40 ∷ 34 ∷ 98 ∷ []) (end) (fault 1 0) refl;
  byte_past_ascii = reads-by 500 (2 ^ 25) (128 ∷ []) (end) (fault 2 0) refl;
  list_too_deep = reads-by 3 (2 ^ 25) (codes "((((") end (fault 4 3) refl;
  mark_too_deep = reads-by 3 (2 ^ 25) (codes "'(('A") end (fault 4 3) refl;
}
