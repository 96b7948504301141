-- Work that grew without counting, and clauses whose terms are not too deep.
use Rattle.std.proofs.Common.{◌≡◌, ◌≤◌, ◌∙◌, Option, Some, ℕ, List, [], ◌∷◌, refl, sym, subst, inl, inr, arith}
use Rattle.std.specs.Prelude.{Result, Ok, Err, IfOk, OnErr}
use Rattle.nq_logic.specs.Terms.{Term, IsAmong, Each}
use Rattle.nq_logic.specs.Sizes.{depth_of, depth_limit}
use Rattle.nq_bank.specs.declared.node.Sym.{Sym}
use Rattle.nq_bank.specs.Content.{Content, Grows, Names}
use Rattle.nq_bank.proofs.Growth.{Grows-refl}
use Rattle.nq_steps.specs.NewNames.{AddsSymbols}
use Rattle.nq_proof.specs.Clauses.{Clause}
use Rattle.nq_history.specs.declared.entry.Entry.{Entry}
use Rattle.nq_kernel.specs.declared.work.Work.{Work}
use Rattle.nq_kernel.specs.Growing.{WorkStands}
use Rattle.nq_kernel.proofs.GrowingLemmas.{bank_grows, WorkGrows-refl, WorkGrows-trans, uncounted}
use Rattle.nq_replay.specs.Uncounted.{IsShallow, GrowsUncounted}

pub grown_refl : (history : List Entry) (work : Work) → WorkStands history work → GrowsUncounted history work work
grown_refl history work stands = record { grows = WorkGrows-refl history work stands; uncounted = refl }

pub grown_trans : (history : List Entry) (first second third : Work) → GrowsUncounted history first second → GrowsUncounted history second third → GrowsUncounted history first third
grown_trans history first second third one two =
    record { grows = WorkGrows-trans history first second third one.grows two.grows; uncounted = two.uncounted ∙ one.uncounted }

-- work of which only the bank grew
pub bank_uncounted : (history : List Entry) (old : Work) (bank : Content) → WorkStands history old → Grows old.bank bank → AddsSymbols old.bank bank → GrowsUncounted history old (record old { bank = bank })
bank_uncounted history old bank stands grows symbols = record { grows = bank_grows history old bank old.counter stands grows symbols (uncounted old.counter); uncounted = refl }

pub names_grow : {E : Type 0} (old new : Content) (r : Result Sym E) (text : List ℕ) → IfOk r (λ s. Names old new s text) → OnErr r (new ≡ old) → Grows old new
names_grow old new (Ok s) text h k = h.grows
names_grow old new (Err e) text h k = subst (Grows old) (sym k) (Grows-refl old)

-- a clause whose literals are not too deep
pub all_shallow : (o : Option Clause) (c : Clause) → o ≡ Some c → ((u : Term) → IsAmong u c → depth_of u ≤ depth_limit) → IsShallow o
all_shallow o c e h =
    record {
      not_deep = λ deep.
          let same : deep.terms ≡ c = (let both : Some deep.terms ≡ Some c = sym deep.concluded ∙ e in cc) in
          let within : depth_of deep.deep.term ≤ depth_limit = h deep.deep.term (subst (λ d. IsAmong deep.deep.term d) same deep.deep.among) in
          omega (arith, within, deep.deep.deep);
    }

among_each : (P : Term → Type 0) (c : Clause) → Each P c → (u : Term) → IsAmong u c → P u
among_each P [] each u m = absurd m
among_each P (t ∷ c) each u (inl e) = subst P (sym e) each.0
among_each P (t ∷ c) each u (inr m) = among_each P c each.1 u m

pub each_shallow : (o : Option Clause) (c : Clause) → o ≡ Some c → Each (λ u. depth_of u ≤ depth_limit) c → IsShallow o
each_shallow o c e each = all_shallow o c e (among_each (λ u. depth_of u ≤ depth_limit) c each)
