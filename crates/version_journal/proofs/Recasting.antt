-- What was appended, told by another result; and a journal that was made.
use Rattle.std.specs.Prelude.{Option, Some, None, Result, Ok, Err, OnOk, IsErr, true, false}
use Rattle.std.proofs.Common.{◌≡◌, ◌≢◌, ◌+◌, ℕ, List, [], ◌∷◌, ◌++◌, length, refl, sym, ◌∙◌, ap, subst, arith, length-append}
use Rattle.std.proofs.lemmas.List.{append-nil, nil_from_length, places, same_lists}
use Rattle.lam_outside.specs.Disks.{Moments, settled}
use Rattle.lam_outside.specs.DiskSteps.{ForChosen, laid, range, with_write}
use Rattle.lam_outside.specs.declared.traits.Failed.{Failed}
use Rattle.version_journal.specs.AtGates.{Makes}
use Rattle.version_journal.specs.Gates.{Appends, AtLast, ForTold, IsClosedBehind, IsKept}
use Rattle.version_journal.specs.Journals.{journal_front, journal_head}
use Rattle.version_journal.specs.Through.{WroteThrough}
use Rattle.version_journal.specs.declared.fault.JournalFault.TheVariants.{NotEmpty}
use Rattle.version_journal.proofs.ClosedGates.{kept_settled}

-- the same by another answer, which is Ok only where the first one is
recast : (T E T' E' : Type 0) (front r : List ℕ) (old new : Option Moments) (result : Result T E) (result' : Result T' E') → ((P : Type 0) → OnOk result P → OnOk result' P)
    → ForTold old new (λ o n. Appends front r o n result) → ForTold old new (λ o n. Appends front r o n result')
recast T E T' E' front r None new result result' f told = tt
recast T E T' E' front r (Some []) new result result' f told = tt
recast T E T' E' front r (Some (file ∷ past)) new result result' f told = (told.0, told.1, record { each = told.2.each; done = f _ told.2.done })

pub recast_err : (T E T' E' : Type 0) (front r : List ℕ) (old new : Option Moments) (result : Result T E) (result' : Result T' E') → IsErr result'
    → ForTold old new (λ o n. Appends front r o n result) → ForTold old new (λ o n. Appends front r o n result')
recast_err T E T' E' front r old new result (Ok done) err told = absurd (let clash : false ≡ true = err in cc)
recast_err T E T' E' front r old new result (Err e) err told = recast T E T' E' front r old new result (Err e) (λ P h. tt) told

pub recast_fault : (T E T' E' : Type 0) (front r : List ℕ) (old new : Option Moments) (result : Result T E) (fault : E')
    → ForTold old new (λ o n. Appends front r o n result) → ForTold old new (λ o n. Appends {T = T'} {E = E'} front r o n (Err fault))
recast_fault T E T' E' front r old new result fault told = recast T E T' E' front r old new result (Err fault) (λ P h. tt) told

pub recast_ok : (T E T' E' : Type 0) (front r : List ℕ) (old new : Option Moments) (result : Result T E) (done : T) (done' : T') → result ≡ Ok done
    → ForTold old new (λ o n. Appends front r o n result) → ForTold old new (λ o n. Appends {T = T'} {E = E'} front r o n (Ok done'))
recast_ok T E T' E' front r old new result done done' is told =
    recast T E T' E' front r old new result (Ok done') (λ P h. subst (λ (q : Result T E). OnOk q P) is h) told

laid_first : (bytes : List ℕ) → laid 0 bytes [] ≡ bytes
laid_first bytes = same_lists _ _ (grind (arith, places)) (λ k d h. grind (arith, places))

-- a journal that was made in a file without bytes
pub made : (own image : List ℕ) (old new : Option Moments) (bytes : List ℕ) (done : Unit {0}) → ForChosen old (λ file. 0 ≡ length file) → bytes ≡ journal_head own image ++ 0 ∷ []
    → WroteThrough {T = Unit {0}} {E = Failed} old 0 bytes new (Ok done) → ForTold old new (λ o n. AtLast (λ file. length file.reads ≡ 0) o × AtLast (IsKept (journal_front own image [])) n)
unfolding journal_front
made own image None new bytes done none is wrote = tt
made own image (Some []) new bytes done none is wrote = tt
made own image (Some (file ∷ past)) new bytes done none is wrote =
    let empty : file.reads ≡ [] = nil_from_length file.reads (sym none) in
    let now : laid 0 bytes file.reads ≡ journal_head own image ++ 0 ∷ [] = ap (laid 0 bytes) empty ∙ laid_first bytes ∙ is in
    let closed : IsClosedBehind (journal_front own image []) (laid 0 bytes file.reads) = record {
      gate = 0;
      tail = [];
      all = now ∙ ap (λ (l : List ℕ). l ++ 0 ∷ []) (sym (append-nil (journal_head own image)));
      closed = λ zero_is. absurd (let clash : 0 ≡ 1 = zero_is in cc);
    } in (
      settled (laid 0 bytes file.reads) ∷ with_write file (range 0 (length bytes)) (laid 0 bytes file.reads) ∷ file ∷ past,
      wrote,
      (sym none, kept_settled (IsClosedBehind (journal_front own image [])) (laid 0 bytes file.reads) closed),
    )

pub not_empty : (own image : List ℕ) (old new : Option Moments) (n : ℕ) → new ≡ old → n ≢ 0 → ForChosen old (λ file. n ≡ length file) → ForTold old new (λ o n. Makes own image o n (Err NotEmpty))
not_empty own image None new n same some is = tt
not_empty own image (Some []) new n same some is = tt
not_empty own image (Some (file ∷ past)) new n same some is = (file ∷ past, same, (omega (arith, is, some), refl))

pub size_none : (old : Option Moments) (n : ℕ) → n ≡ 0 → ForChosen old (λ file. n ≡ length file) → ForChosen old (λ file. 0 ≡ length file)
size_none None n none is = tt
size_none (Some []) n none is = tt
size_none (Some (file ∷ past)) n none is = sym none ∙ is

-- the place of the first gate
pub first_gate : (own image bytes : List ℕ) → bytes ≡ journal_head own image ++ 0 ∷ [] → length bytes ≡ length (journal_front own image []) + 1
unfolding journal_front
first_gate own image bytes is = ap length (is ∙ ap (λ (l : List ℕ). l ++ 0 ∷ []) (sym (append-nil (journal_head own image)))) ∙ length-append (journal_head own image ++ []) (0 ∷ [])
