-- What a work knows of the kinds of calls.
use Rattle.std.proofs.Common.{◌≡◌, ◌∷◌, ◌++◌, [], List, Option, Some, None, length, take, arith, sym, ap, ◌∙◌, subst}
use Rattle.std.specs.Prelude.{All, IsSome, Vec}
use Rattle.std.specs.Option.{option_map}
use Rattle.std.proofs.lemmas.List.{take_all, take-append-le}
use Rattle.std.specs.declared.alloc.Global.{Global}
use Rattle.nq_bank.specs.Content.{IsNamed, terms_at}
use Rattle.nq_bank.proofs.Standing.{All-push}
use Rattle.nq_history.specs.declared.entry.Entry.{Entry}
use Rattle.nq_kernel.specs.declared.prescription.Prescription.{Prescription}
use Rattle.nq_kernel.specs.declared.work.Work.{Work}
use Rattle.nq_kernel.specs.Growing.{LineStands, PrescriptionStands, WorkGrows, WorkStands}
use Rattle.nq_kernel.specs.Lines.{ids_at}
use Rattle.nq_kernel.proofs.GrowingLemmas.{WorkGrows-refl}

unmapped : {X Y : Type 0} (f : X → Y) (o : Option X) → IsSome (option_map f o) → IsSome o
unmapped f None h = h
unmapped f (Some x) h = h

-- what stands in front of more
first_part : {X : Type 0} (xs ys : List X) → take (length xs) (xs ++ ys) ≡ xs
first_part xs ys = take-append-le (length xs) xs ys (omega arith) ∙ take_all (length xs) xs (omega arith)

-- work that knows other lines as well, which stand
knowing : (history : List Entry) (old : Work) (known : Vec Prescription Global) → WorkStands history old → take (length old.known.items) known.items ≡ old.known.items → All (PrescriptionStands old.bank old.log) known.items → WorkGrows history old (record { bank = old.bank; log = old.log; counter = old.counter; known = known })
knowing history old known stands kept all =
    let r : WorkGrows history old old = WorkGrows-refl history old stands in
    record { bank = r.bank; names = r.names; log = r.log; rules = r.rules; counter = r.counter; known = kept; stands = record { log = stands.log; history = stands.history; known = all } }

-- one line more is known
pub remembered : (history : List Entry) (old : Work) (known : Vec Prescription Global) (p : Prescription) → WorkStands history old → IsNamed old.bank p.function → LineStands old p.line → known.items ≡ old.known.items ++ p ∷ [] → WorkGrows history old (record { bank = old.bank; log = old.log; counter = old.counter; known = known })
remembered history old known p stands named line is =
    let P : Prescription → Type 0 = PrescriptionStands old.bank old.log in
    let shown : IsSome (ids_at old.log p.line) = unmapped (terms_at old.bank) (ids_at old.log p.line) line in
    knowing history old known stands (ap (take (length old.known.items)) is ∙ first_part old.known.items (p ∷ [])) (subst (All P) (sym is) (All-push P old.known.items p stands.known (record { function = named; line = shown })))

-- no line more is known
pub not_remembered : (history : List Entry) (old : Work) (known : Vec Prescription Global) → WorkStands history old → known.items ≡ old.known.items → WorkGrows history old (record { bank = old.bank; log = old.log; counter = old.counter; known = known })
not_remembered history old known stands is = knowing history old known stands (ap (take (length old.known.items)) is ∙ take_all (length old.known.items) old.known.items (omega arith)) (subst (All (PrescriptionStands old.bank old.log)) (sym is) stands.known)
