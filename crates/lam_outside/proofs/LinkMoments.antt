-- The reads of a link in memory: for MemLink's `read` and `send`.
use Rattle.std.proofs.Common.{◌≡◌, ◌∙◌, ◌≤◌, ℕ, zero, suc, Bool, true, false, List, [], ◌∷◌, ◌++◌, length, map, take, drop, Option, Some, None, refl, ap, sym, arith}
use Rattle.std.specs.Prelude.{option_map}
use Rattle.std.specs.List.{All}
use Rattle.std.proofs.lemmas.List.{take-append-le, take_all, map-append}
use Rattle.std.proofs.lemmas.Grind.{common_steps}
use Rattle.lam_outside.specs.Moments.{Moment}
use Rattle.lam_outside.specs.LinkSteps.{AddsRead}
use Rattle.lam_outside.specs.LinkReads.{IsSentBy, NotesAt, moment_of, reads_told}
use Rattle.lam_outside.specs.declared.mem_link.LinkRead.{LinkRead}

all_first : {X : Type 0} (P : X → Type 0) (x : X) (xs : List X) → All P (x ∷ xs) → P x
all_first P x xs all = all 0 x (omega arith)

all_later : {X : Type 0} (P : X → Type 0) (x : X) (xs : List X) → All P (x ∷ xs) → All P xs
all_later P x xs all = λ k d within. all (suc k) d (omega arith)

-- what was sent by then stays so as more is sent
pub moments_kept : (coming sent more : List ℕ) (reads : List LinkRead) → All (IsSentBy sent) reads
    → map (moment_of coming (sent ++ more)) reads ≡ map (moment_of coming sent) reads
moments_kept coming sent more [] all = refl
moments_kept coming sent more (read ∷ reads) all =
    let here : take read.sent (sent ++ more) ≡ take read.sent sent = take-append-le read.sent sent more (all_first (IsSentBy sent) read reads all) in
    let later = moments_kept coming sent more reads (all_later (IsSentBy sent) read reads all) in
    rw (here, later) refl

pub told_kept : (forgot : Bool) (coming sent more : List ℕ) (reads : List LinkRead) → All (IsSentBy sent) reads
    → reads_told forgot coming (sent ++ more) reads ≡ reads_told forgot coming sent reads
told_kept true coming sent more reads all = refl
told_kept false coming sent more reads all = ap Some (moments_kept coming sent more reads all)

all_behind : {X : Type 0} (P : X → Type 0) (xs : List X) (x : X) → All P xs → P x → All P (xs ++ x ∷ [])
all_behind P [] x all here zero d within = here
all_behind P [] x all here (suc k) d within = absurd (omega arith)
all_behind P (y ∷ ys) x all here zero d within = all 0 d (omega arith)
all_behind P (y ∷ ys) x all here (suc k) d within = all_behind P ys x (all_later P y ys all) here k d (omega arith)

pub noted_in : (forgot forgets : Bool) (sent : List ℕ) (reads reads' : List LinkRead) (at : ℕ) → NotesAt forgot reads forgets reads' at (length sent)
    → All (IsSentBy sent) reads → All (IsSentBy sent) reads'
noted_in forgot true sent reads reads' at noted all = rw noted all
noted_in forgot false sent reads reads' at noted all =
    let within : IsSentBy sent noted.1.0 = rw noted.1.2 (omega arith) in
    rw noted.1.3 (all_behind (IsSentBy sent) reads noted.1.0 all within)

-- one more read was noted, or forgotten
pub reads_noted : (forgot forgets : Bool) (coming sent : List ℕ) (reads reads' : List LinkRead) (at : ℕ) → NotesAt forgot reads forgets reads' at (length sent)
    → AddsRead (reads_told forgot coming sent reads) (reads_told forgets coming sent reads') (record { left = Some (drop at coming); sent = Some sent })
reads_noted forgot true coming sent reads reads' at noted after is = absurd (let clash : None ≡ Some after = is in cc)
reads_noted true false coming sent reads reads' at noted after is = absurd (let clash : true ≡ false = noted.0 in cc)
reads_noted false false coming sent reads reads' at noted after is =
    let whole : take (length sent) sent ≡ sent = take_all (length sent) sent (omega arith) in
    let same : map (moment_of coming sent) reads' ≡ map (moment_of coming sent) reads ++ record { left = Some (drop at coming); sent = Some sent } ∷ [] =
    rw (noted.1.3, map-append (moment_of coming sent) reads (noted.1.0 ∷ []), noted.1.1, noted.1.2, whole) refl in
    sym is ∙ ap Some same
