-- What stood at each read, step by step: for all that reads from a source.
use Rattle.std.proofs.Common.{◌≡◌, ◌∙◌, ◌<◌, ℕ, List, [], ◌∷◌, ◌++◌, length, drop, Option, Some, None, refl, ap, sym}
use Rattle.std.specs.Prelude.{option_map}
use Rattle.std.proofs.Math.Seq.{drop-append_seam}
use Rattle.std.specs.List.{AllByRecursion}
use Rattle.std.specs.Io.KnownBytes.{prepend_known}
use Rattle.std.proofs.lemmas.List.{append_assoc, append-nil}
use Rattle.lam_outside.specs.Moments.{Moment}
use Rattle.lam_outside.specs.LinkSteps.{AddsRead, StoodAtEach, AtEachRead, WaitsWithin}

all_append : (Q : Moment → Type 0) (xs ys : List Moment) → AllByRecursion Q xs → AllByRecursion Q ys → AllByRecursion Q (xs ++ ys)
all_append Q [] ys first more = more
all_append Q (x ∷ xs) ys first more = (first.0, all_append Q xs ys first.1 more)

all_weaken : (Q R : Moment → Type 0) → ((m : Moment) → Q m → R m) → (xs : List Moment) → AllByRecursion Q xs → AllByRecursion R xs
all_weaken Q R says [] all = all
all_weaken Q R says (x ∷ xs) all = (says x all.0, all_weaken Q R says xs all.1)

-- no read was made
pub none_read : (Q : Moment → Type 0) (reads reads' : Option (List Moment)) → reads' ≡ reads → AtEachRead Q reads reads'
none_read Q reads reads' same after is =
    record { before = after; more = []; told = sym same ∙ is; all = sym (append-nil after); stood = tt }

-- one was
one_more : (Q : Moment → Type 0) (reads : Option (List Moment)) (m : Moment) (after : List Moment)
    → Some after ≡ option_map (λ before. before ++ m ∷ []) reads → Q m → StoodAtEach Q reads after
one_more Q None m after is so = absurd (let clash : Some after ≡ None = is in cc)
one_more Q (Some before) m after is so = record { before = before; more = m ∷ []; told = refl; all = cc; stood = (so, tt) }

pub one_read : (Q : Moment → Type 0) (reads reads' : Option (List Moment)) (m : Moment) → AddsRead reads reads' m → Q m → AtEachRead Q reads reads'
one_read Q reads reads' m adds so after is = one_more Q reads m after (adds after is) so

-- some, and then more
pub reads_on : (Q : Moment → Type 0) (reads reads1 reads2 : Option (List Moment)) → AtEachRead Q reads reads1 → AtEachRead Q reads1 reads2 → AtEachRead Q reads reads2
reads_on Q reads reads1 reads2 first more after is =
    let late = more after is in
    let early = first late.before late.told in
    record {
      before = early.before;
      more = early.more ++ late.more;
      told = early.told;
      all = late.all ∙ ap (λ ms. ms ++ late.more) early.all ∙ append_assoc early.before early.more late.more;
      stood = all_append Q early.more late.more early.stood late.stood;
    }

-- what is weaker stood too
pub reads_weaken : (Q R : Moment → Type 0) → ((m : Moment) → Q m → R m) → (reads reads' : Option (List Moment)) → AtEachRead Q reads reads' → AtEachRead R reads reads'
reads_weaken Q R says reads reads' stood after is =
    let all = stood after is in
    record { before = all.before; more = all.more; told = all.told; all = all.all; stood = all_weaken Q R says all.more all.stood }

-- behind so many bytes
pub left_behind : (xs bytes : List ℕ) (w : Option (List ℕ)) → Some bytes ≡ prepend_known xs w → w ≡ Some (drop (length xs) bytes)
left_behind xs bytes None is = absurd (let clash : Some bytes ≡ None = is in cc)
left_behind xs bytes (Some rest) is =
    let same : bytes ≡ xs ++ rest = cc in
    ap Some (rw (same, drop-append_seam xs rest) refl)

-- a read where so many bytes had been taken, behind others
pub waits_more : (bytes xs : List ℕ) (n : ℕ) (left0 left1 sent0 sent1 : Option (List ℕ)) (reads0 reads1 reads2 : Option (List Moment))
    → left0 ≡ Some bytes → left0 ≡ prepend_known xs left1 → length xs < n → sent1 ≡ sent0 → AtEachRead (WaitsWithin n bytes sent0) reads0 reads1
    → AddsRead reads1 reads2 (record { left = left1; sent = sent1 }) → AtEachRead (WaitsWithin n bytes sent0) reads0 reads2
waits_more bytes xs n left0 left1 sent0 sent1 reads0 reads1 reads2 told moved within same before adds =
    let Q = WaitsWithin n bytes sent0 in
    let now : Q (record { left = left1; sent = sent1 }) = (same, (length xs, within, left_behind xs bytes left1 (sym told ∙ moved))) in
    reads_on Q reads0 reads1 reads2 before (one_read Q reads1 reads2 _ adds now)
