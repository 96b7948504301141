-- Terms that are made, over the history.
use Rattle.std.proofs.Common.{◌≡◌, ℕ, true, List, [], ◌∷◌, Some, None, refl, sym, ap, subst, inl, inr}
use Rattle.std.specs.Prelude.{Option, IfSome, IsSome, MatchOption, map}
use Rattle.std.specs.Option.{option_map}
use Rattle.nq_logic.specs.Terms.{Term, Variable, Each, IsAmong, Substitution, substituted}
use Rattle.nq_logic.specs.Words.{call1, call2}
use Rattle.nq_logic.specs.Histories.{History}
use Rattle.nq_logic.specs.Ground.{symbols_of}
use Rattle.nq_logic.proofs.Symbols.{count_symbol, ord_lessp_symbol, ordinalp_symbol}
use Rattle.nq_bank.specs.declared.node.TermId.{TermId}
use Rattle.nq_bank.specs.declared.node.Sym.{Sym}
use Rattle.nq_bank.specs.Content.{text_at, term_at, terms_at}
use Rattle.nq_proof.specs.Clauses.{Clause, is_within}
use Rattle.nq_proof.proofs.Tests.{within_each}
use Rattle.nq_history.specs.declared.entry.Entry.{Entry}
use Rattle.nq_history.specs.Events.{events_at}
use Rattle.nq_kernel.specs.declared.work.Work.{Work}
use Rattle.nq_kernel.specs.Over.{IsVariable, IsTermOf}
use Rattle.nq_kernel.specs.Lines.{ids_at}
use Rattle.nq_kernel.specs.Meaning.{clause_at}
use Rattle.nq_kernel.specs.Growing.{LineStands}
use Rattle.nq_lines.specs.Lines.{IsTermIn, LineHasOnly, LineLeads}
use Rattle.nq_lines.specs.Facts.{IsOpening}
use Rattle.nq_lines.specs.Instances.{InstancesTo}
use Rattle.nq_lines.specs.declared.facts.Fact.{Fact}
use Rattle.nq_lines.proofs.LineLemmas.{only_stands, leads_only}
use Rattle.nq_decrease.specs.Nests.{IsDecreaseLine}

module _ (history : List Entry) (work : Work) where
  abbrev IsOver : Term → Type 0
  IsOver t = IsTermOf IsVariable (symbols_of (events_at work.bank history)) t

  pub size_over : (t : Term) → IsOver t → IsOver (call1 "COUNT" t)
  size_over t k = record { over = (count_symbol (events_at work.bank history), k.over); variables = (tt, k.variables) }

  pub ordinal_over : (t : Term) → IsOver t → IsOver (call1 "ORDINALP" t)
  ordinal_over t k = record { over = (ordinalp_symbol (events_at work.bank history), k.over); variables = (tt, k.variables) }

  pub below_over : (t u : Term) → IsOver t → IsOver u → IsOver (call2 "ORD-LESSP" t u)
  below_over t u k l = record { over = ((ord_lessp_symbol (events_at work.bank history), k.over), l.over); variables = ((tt, k.variables), l.variables) }

  -- the name of a variable over the history is one that a log can spell
  pub variable_spelled : (t : TermId) (x : Sym) → IsTermIn history work t → term_at work.bank t ≡ Variable (text_at work.bank x) → IsVariable (text_at work.bank x)
  variable_spelled t x h is = (subst (λ (u : Term). IsOver u) is h.over).variables

-- lines that stand
pub part_stands : (work : Work) (h : History) (P : Type 0) (tests : List Term) (x t : Term) (found : Option ℕ) → MatchOption found P (IsDecreaseLine h work tests x t) → IfSome found (LineStands work)
part_stands work h P tests x t None w = tt
part_stands work h P tests x t (Some n) w = only_stands work n _ w.line

pub found_stands : (work : Work) (these : List Term) (found : Option ℕ) → IfSome found (λ n. LineHasOnly work n these) → IfSome found (LineStands work)
found_stands work these None h = tt
found_stands work these (Some n) h = only_stands work n these h

pub leads_stands : (work : Work) (n : ℕ) (t : Term) (these : Clause) → LineLeads work n t these → LineStands work n
leads_stands work n t these h = only_stands work n _ (leads_only work n t these h)

-- an instance of a line that stands stands
pub instance_stands : (old new : Work) (s : Substitution) (line n : ℕ) → LineStands old line → InstancesTo old new s line n → LineStands new n
instance_stands old new s line n h instances = by_clause (clause_at old.bank old.log line) refl h
  where
    by_clause : (o : Option Clause) → clause_at old.bank old.log line ≡ o → IsSome o → LineStands new n
    by_clause None e k = absurd cc
    by_clause (Some c) e k = only_stands new n (map (substituted s) c) (instances c (record { literals = c; stands = e; only = λ t m. m }))

-- a clause whose literals were tested
pub tested_only : (work : Work) (line : ℕ) (ids : List TermId) (these : Clause) → ids_at work.log line ≡ Some ids → is_within (terms_at work.bank ids) these ≡ true → LineHasOnly work line these
tested_only work line ids these at inside =
    record { literals = terms_at work.bank ids; stands = ap (option_map (terms_at work.bank)) at; only = among (terms_at work.bank ids) these (within_each (terms_at work.bank ids) these inside) }
  where
    among : (c d : Clause) → Each (λ p. IsAmong p d) c → (t : Term) → IsAmong t c → IsAmong t d
    among [] d h t k = absurd k
    among (u ∷ c) d h t (inl e) = subst (λ v. IsAmong v d) (sym e) h.0
    among (u ∷ c) d h t (inr k) = among c d h.1 t k

-- the body of a call
pub opened_term : (history : List Entry) (work : Work) (t : Term) (found : Option Fact) → IfSome found (IsOpening history work t) → IfSome found (λ f. IsTermIn history work f.term)
opened_term history work t None h = tt
opened_term history work t (Some f) h = h.term
