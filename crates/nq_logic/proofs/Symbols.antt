-- Each ground symbol is a symbol of every history. The ruleset lets a search show that a term or formula is right.
use Rattle.std.proofs.Common.{◌≡◌, ℕ, List, refl}
use Rattle.std.specs.Prelude.{codes, slice_get, Some}
use Rattle.nq_logic.specs.Terms.{IsAmong}
use Rattle.nq_logic.specs.Histories.{History, events_symbols}
use Rattle.nq_logic.specs.Ground.{symbols_of, ground_symbols}
use Rattle.nq_logic.proofs.Lists.{among_left, among_at}

module _ (h : History) where
  -- the symbol at place k of the ground history
  pub ground_symbol : (f : List ℕ) (n k : ℕ) → slice_get ground_symbols k ≡ Some (f, n) → IsAmong (f, n) (symbols_of h)
  unfolding symbols_of
  ground_symbol f n k e = among_left (f, n) ground_symbols (events_symbols h) (among_at (f, n) ground_symbols k e)

  pub true_symbol : IsAmong (codes "TRUE", 0) (symbols_of h)
  true_symbol = ground_symbol (codes "TRUE") 0 0 refl

  pub false_symbol : IsAmong (codes "FALSE", 0) (symbols_of h)
  false_symbol = ground_symbol (codes "FALSE") 0 1 refl

  pub equal_symbol : IsAmong (codes "EQUAL", 2) (symbols_of h)
  equal_symbol = ground_symbol (codes "EQUAL") 2 2 refl

  pub if_symbol : IsAmong (codes "IF", 3) (symbols_of h)
  if_symbol = ground_symbol (codes "IF") 3 3 refl

  pub count_symbol : IsAmong (codes "COUNT", 1) (symbols_of h)
  count_symbol = ground_symbol (codes "COUNT") 1 4 refl

  pub truep_symbol : IsAmong (codes "TRUEP", 1) (symbols_of h)
  truep_symbol = ground_symbol (codes "TRUEP") 1 19 refl

  pub falsep_symbol : IsAmong (codes "FALSEP", 1) (symbols_of h)
  falsep_symbol = ground_symbol (codes "FALSEP") 1 20 refl

  pub not_symbol : IsAmong (codes "NOT", 1) (symbols_of h)
  not_symbol = ground_symbol (codes "NOT") 1 21 refl

  pub and_symbol : IsAmong (codes "AND", 2) (symbols_of h)
  and_symbol = ground_symbol (codes "AND") 2 22 refl

  pub or_symbol : IsAmong (codes "OR", 2) (symbols_of h)
  or_symbol = ground_symbol (codes "OR") 2 23 refl

  pub implies_symbol : IsAmong (codes "IMPLIES", 2) (symbols_of h)
  implies_symbol = ground_symbol (codes "IMPLIES") 2 24 refl

  pub iff_symbol : IsAmong (codes "IFF", 2) (symbols_of h)
  iff_symbol = ground_symbol (codes "IFF") 2 25 refl

  pub zerop_symbol : IsAmong (codes "ZEROP", 1) (symbols_of h)
  zerop_symbol = ground_symbol (codes "ZEROP") 1 26 refl

  pub fix_symbol : IsAmong (codes "FIX", 1) (symbols_of h)
  fix_symbol = ground_symbol (codes "FIX") 1 27 refl

  pub plus_symbol : IsAmong (codes "PLUS", 2) (symbols_of h)
  plus_symbol = ground_symbol (codes "PLUS") 2 28 refl

  pub lessp_symbol : IsAmong (codes "LESSP", 2) (symbols_of h)
  lessp_symbol = ground_symbol (codes "LESSP") 2 29 refl

  pub difference_symbol : IsAmong (codes "DIFFERENCE", 2) (symbols_of h)
  difference_symbol = ground_symbol (codes "DIFFERENCE") 2 30 refl

  pub times_symbol : IsAmong (codes "TIMES", 2) (symbols_of h)
  times_symbol = ground_symbol (codes "TIMES") 2 31 refl

  pub quotient_symbol : IsAmong (codes "QUOTIENT", 2) (symbols_of h)
  quotient_symbol = ground_symbol (codes "QUOTIENT") 2 32 refl

  pub remainder_symbol : IsAmong (codes "REMAINDER", 2) (symbols_of h)
  remainder_symbol = ground_symbol (codes "REMAINDER") 2 33 refl

  pub greaterp_symbol : IsAmong (codes "GREATERP", 2) (symbols_of h)
  greaterp_symbol = ground_symbol (codes "GREATERP") 2 34 refl

  pub leq_symbol : IsAmong (codes "LEQ", 2) (symbols_of h)
  leq_symbol = ground_symbol (codes "LEQ") 2 35 refl

  pub geq_symbol : IsAmong (codes "GEQ", 2) (symbols_of h)
  geq_symbol = ground_symbol (codes "GEQ") 2 36 refl

  pub nlistp_symbol : IsAmong (codes "NLISTP", 1) (symbols_of h)
  nlistp_symbol = ground_symbol (codes "NLISTP") 1 37 refl

  pub append_symbol : IsAmong (codes "APPEND", 2) (symbols_of h)
  append_symbol = ground_symbol (codes "APPEND") 2 38 refl

  pub member_symbol : IsAmong (codes "MEMBER", 2) (symbols_of h)
  member_symbol = ground_symbol (codes "MEMBER") 2 39 refl

  pub ord_lessp_symbol : IsAmong (codes "ORD-LESSP", 2) (symbols_of h)
  ord_lessp_symbol = ground_symbol (codes "ORD-LESSP") 2 40 refl

  pub ordinalp_symbol : IsAmong (codes "ORDINALP", 1) (symbols_of h)
  ordinalp_symbol = ground_symbol (codes "ORDINALP") 1 41 refl

  pub identity_symbol : IsAmong (codes "IDENTITY", 1) (symbols_of h)
  identity_symbol = ground_symbol (codes "IDENTITY") 1 42 refl

  pub max_symbol : IsAmong (codes "MAX", 2) (symbols_of h)
  max_symbol = ground_symbol (codes "MAX") 2 43 refl

  pub union_symbol : IsAmong (codes "UNION", 2) (symbols_of h)
  union_symbol = ground_symbol (codes "UNION") 2 44 refl

  pub add_to_set_symbol : IsAmong (codes "ADD-TO-SET", 2) (symbols_of h)
  add_to_set_symbol = ground_symbol (codes "ADD-TO-SET") 2 45 refl

  pub assoc_symbol : IsAmong (codes "ASSOC", 2) (symbols_of h)
  assoc_symbol = ground_symbol (codes "ASSOC") 2 46 refl

  pub pairlist_symbol : IsAmong (codes "PAIRLIST", 2) (symbols_of h)
  pairlist_symbol = ground_symbol (codes "PAIRLIST") 2 47 refl

  pub add1_symbol : IsAmong (codes "ADD1", 1) (symbols_of h)
  add1_symbol = ground_symbol (codes "ADD1") 1 5 refl

  pub zero_symbol : IsAmong (codes "ZERO", 0) (symbols_of h)
  zero_symbol = ground_symbol (codes "ZERO") 0 6 refl

  pub numberp_symbol : IsAmong (codes "NUMBERP", 1) (symbols_of h)
  numberp_symbol = ground_symbol (codes "NUMBERP") 1 7 refl

  pub sub1_symbol : IsAmong (codes "SUB1", 1) (symbols_of h)
  sub1_symbol = ground_symbol (codes "SUB1") 1 8 refl

  pub cons_symbol : IsAmong (codes "CONS", 2) (symbols_of h)
  cons_symbol = ground_symbol (codes "CONS") 2 9 refl

  pub listp_symbol : IsAmong (codes "LISTP", 1) (symbols_of h)
  listp_symbol = ground_symbol (codes "LISTP") 1 10 refl

  pub car_symbol : IsAmong (codes "CAR", 1) (symbols_of h)
  car_symbol = ground_symbol (codes "CAR") 1 11 refl

  pub cdr_symbol : IsAmong (codes "CDR", 1) (symbols_of h)
  cdr_symbol = ground_symbol (codes "CDR") 1 12 refl

  pub pack_symbol : IsAmong (codes "PACK", 1) (symbols_of h)
  pack_symbol = ground_symbol (codes "PACK") 1 13 refl

  pub litatom_symbol : IsAmong (codes "LITATOM", 1) (symbols_of h)
  litatom_symbol = ground_symbol (codes "LITATOM") 1 14 refl

  pub unpack_symbol : IsAmong (codes "UNPACK", 1) (symbols_of h)
  unpack_symbol = ground_symbol (codes "UNPACK") 1 15 refl

  pub minus_symbol : IsAmong (codes "MINUS", 1) (symbols_of h)
  minus_symbol = ground_symbol (codes "MINUS") 1 16 refl

  pub negativep_symbol : IsAmong (codes "NEGATIVEP", 1) (symbols_of h)
  negativep_symbol = ground_symbol (codes "NEGATIVEP") 1 17 refl

  pub negative_guts_symbol : IsAmong (codes "NEGATIVE-GUTS", 1) (symbols_of h)
  negative_guts_symbol = ground_symbol (codes "NEGATIVE-GUTS") 1 18 refl

pub ruleset ground_terms = (true_symbol, false_symbol, equal_symbol, if_symbol, count_symbol, truep_symbol, falsep_symbol, not_symbol, and_symbol, or_symbol, implies_symbol, iff_symbol, zerop_symbol, fix_symbol, plus_symbol, lessp_symbol, difference_symbol, times_symbol, quotient_symbol, remainder_symbol, greaterp_symbol, leq_symbol, geq_symbol, nlistp_symbol, append_symbol, member_symbol, ord_lessp_symbol, ordinalp_symbol, identity_symbol, max_symbol, union_symbol, add_to_set_symbol, assoc_symbol, pairlist_symbol, add1_symbol, zero_symbol, numberp_symbol, sub1_symbol, cons_symbol, listp_symbol, car_symbol, cdr_symbol, pack_symbol, litatom_symbol, unpack_symbol, minus_symbol, negativep_symbol, negative_guts_symbol)
