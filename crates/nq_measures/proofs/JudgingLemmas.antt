-- What a prover's answers say of a nest.
use Rattle.std.proofs.Common.{◌≡◌, ◌<◌, ◌∷◌, [], ℕ, List, length, refl, sym, subst, arith}
use Rattle.std.specs.Prelude.{All}
use Rattle.nq_logic.specs.Terms.{Term}
use Rattle.nq_logic.specs.Histories.{History}
use Rattle.nq_logic.specs.Ground.{symbols_of}
use Rattle.nq_logic.specs.Shells.{either_of}
use Rattle.nq_logic.proofs.Symbols.{or_symbol}
use Rattle.nq_bank.specs.declared.node.TermId.{TermId}
use Rattle.nq_bank.specs.Content.{Content, Grows, Stands, IsIdOf, term_at, terms_at}
use Rattle.nq_bank.proofs.Growth.{terms_at-grown}
use Rattle.nq_bank.proofs.Standing.{id_grown}
use Rattle.nq_history.specs.declared.entry.Entry.{Entry}
use Rattle.nq_history.specs.Events.{events_at, HistoryStands}
use Rattle.nq_history.proofs.HistoryLemmas.{events_at-grown}
use Rattle.nq_kernel.specs.declared.work.Work.{Work}
use Rattle.nq_kernel.specs.declared.verdict.Proof.{Proof}
use Rattle.nq_kernel.specs.declared.verdict.Verdict.{Verdict}
use Rattle.nq_kernel.specs.declared.verdict.Verdict.TheVariants.{Proved}
use Rattle.nq_kernel.specs.Meaning.{clause_at}
use Rattle.nq_kernel.specs.Over.{IsVariable, IsTermOf, TermIsIn}
use Rattle.nq_kernel.specs.Proving.{IsTold}
use Rattle.nq_lines.specs.Lines.{LineHasOnly}
use Rattle.nq_lines.proofs.OnlyLemmas.{only_of}
use Rattle.nq_measures.specs.Judging.{AreIn}

-- the line of a proof has only the term
pub proved_only : (work : Work) (t : Term) (v : Verdict) (line : ℕ) (proof : Proof) → v ≡ Proved line proof → IsTold work t v → LineHasOnly work line (t ∷ [])
proved_only work t v line proof e told = only_of (clause_at work.bank work.log line) (t ∷ []) (subst (IsTold work t) e told)

-- a nest in a bank that grew
pub nest_grown : (old new : Content) (nest : TermId) (ids : List TermId) → Grows old new → All (Stands old) ids → IsIdOf old nest (either_of (terms_at old ids)) → IsIdOf new nest (either_of (terms_at new ids))
nest_grown old new nest ids h stand is = subst (λ (ts : List Term). IsIdOf new nest (either_of ts)) (sym (terms_at-grown old new ids h stand)) (id_grown old new nest _ h is)

-- a nest is over what its literals are over
pub nest_in : (h : History) (ts : List Term) → 0 < length ts → AreIn h ts → IsTermOf IsVariable (symbols_of h) (either_of ts)
nest_in h [] some over = absurd (omega arith)
nest_in h (t ∷ []) some over = over.0
nest_in h (t ∷ u ∷ ts) some over =
    let rest = nest_in h (u ∷ ts) (omega arith) over.1 in
    record { over = ((or_symbol h, over.0.over), rest.over); variables = ((tt, over.0.variables), rest.variables) }

length-terms : (bank : Content) (ids : List TermId) → length (terms_at bank ids) ≡ length ids
length-terms bank [] = refl
length-terms bank (a ∷ ids) = omega (arith, length-terms bank ids)

pub nest_over : (old new : Content) (history : List Entry) (nest : TermId) (ids : List TermId) → Grows old new → HistoryStands old history → 0 < length ids → IsIdOf new nest (either_of (terms_at old ids)) → AreIn (events_at old history) (terms_at old ids) → TermIsIn new history nest
nest_over old new history nest ids h stands some is over =
    subst (λ (e : History). IsTermOf IsVariable (symbols_of e) (term_at new nest)) (sym (events_at-grown old new h history stands.entries))
    (subst (λ (t : Term). IsTermOf IsVariable (symbols_of (events_at old history)) t) (sym is.denotes) (nest_in (events_at old history) (terms_at old ids) (omega (arith, some, length-terms old ids)) over))
