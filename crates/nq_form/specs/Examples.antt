-- Texts with their readings, one for each rule that is easily read another way.
use Rattle.std.specs.Prelude.{ℕ, ◌^◌, true, false, List, [], ◌∷◌, codes}
use Rattle.nq_form.specs.Form.{Forms, symbol, numeral, quoted, listed, end, dotted, next}
use Rattle.nq_form.specs.Grammar.{Ending, done, fault, Reads}

-- as an event file is read
abbrev pub IsRead : List ℕ → Forms → Ending → Type 0
IsRead t fs e = Reads 500 (2 ^ 25) t fs e

pub record Examples : Type 0 where
  pub two_forms_behind_a_dot : IsRead (codes "(A . B C)") (end) (fault 2 3)
  pub two_dots : IsRead (codes "(A . B . C)") (end) (fault 2 7)
  pub no_form_behind_a_dot : IsRead (codes "(A . )") (end) (fault 2 3)
  pub dot_without_an_element : IsRead (codes "(. A)") (end) (fault 2 1)
  pub dot_in_no_list : IsRead (codes "A .") (next (symbol (codes "A")) end) (fault 2 2)
  pub dot_behind_a_mark : IsRead (codes "(A '. B)") (end) (fault 2 4)
  pub mark_before_the_close : IsRead (codes "(')") (end) (fault 2 2)
  pub mark_before_the_close_in_no_list : IsRead (codes "')") (end) (fault 1 1)
  pub close_in_no_list : IsRead (codes ")") (end) (fault 1 0)
  pub marks_at_the_end : IsRead (codes "''") (end) (fault 2 1)
  pub mark_at_the_end_in_a_list : IsRead (codes "(A '") (end) (fault 1 0)
  pub list_behind_a_mark_at_the_end : IsRead (codes "'(A") (end) (fault 1 1)
  pub comment_at_the_end : IsRead (codes "#| #| |#") (end) (fault 1 0)
  pub line_comment_at_the_end : IsRead (codes "A ; b") (next (symbol (codes "A")) end) (done)
  pub sharp_alone : IsRead (codes "(# A)") (end) (fault 2 1)
  pub sharp_at_the_end : IsRead (codes "(A #") (end) (fault 2 3)
  pub bad_token : IsRead (codes "(A 12X)") (end) (fault 2 3)
  pub bad_token_at_the_end : IsRead (codes "(A 12X") (end) (fault 2 3)
  pub wide_numeral : IsRead (codes "(340282366920938463463374607431768211456)") (end) (fault 3 1)
  pub wide_numeral_with_a_sign : IsRead (codes "-340282366920938463463374607431768211456") (end) (fault 3 0)
  pub quote_behind_a_dot : IsRead (codes "(A . 'B)") (next (listed (next (symbol (codes "A")) (dotted (quoted (symbol (codes "B")))))) end) (done)
  pub signs : IsRead (codes "-7 +7 -0") (next (numeral true 7) (next (numeral false 7) (next (numeral false 0) end))) (done)
  pub lower_case : IsRead (codes "(plus-2 x)") (next (listed (next (symbol (codes "PLUS-2")) (next (symbol (codes "X")) end))) end) (done)
  -- A "b
  pub string_at_the_end : IsRead (65 ∷ 32 ∷ 34 ∷ 98 ∷ []) (next (symbol (codes "A")) end) (fault 1 2)
  -- ("b
  pub string_at_the_end_in_a_list : IsRead (40 ∷ 34 ∷ 98 ∷ []) (end) (fault 1 0)
  pub byte_past_ascii : IsRead (128 ∷ []) (end) (fault 2 0)
  pub list_too_deep : Reads 3 (2 ^ 25) (codes "((((") end (fault 4 3)
  pub mark_too_deep : Reads 3 (2 ^ 25) (codes "'(('A") end (fault 4 3)
