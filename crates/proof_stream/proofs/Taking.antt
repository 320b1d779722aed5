-- The next frame, from the parts that came.
use Rattle.std.proofs.Common.{◌≡◌, ℕ, ◌+◌, ◌<◌, ◌≤◌, List, [], ◌∷◌, ◌++◌, length, length-append, take, drop, Option, Some, None, Result, Ok, Err, IsErrAnd, slice_index, sym, ap, subst, ◌∙◌, arith}
use Rattle.std.proofs.Math.Seq.{drop-append_seam}
use Rattle.std.proofs.lemmas.List.{drop-drop, take-append-le, take_all}
use Rattle.std.specs.Io.KnownBytes.{prepend_known}
use Rattle.ideal_meaning.specs.Frames.{LongBy}
use Rattle.proof_stream.specs.declared.frame.Frame.{Frame}
use Rattle.proof_stream.specs.declared.frame.Frame.TheVariants.{New, Back}
use Rattle.proof_stream.specs.declared.frame.FrameEnd.{FrameEnd}
use Rattle.proof_stream.specs.declared.frame.FrameEnd.TheVariants.{End, BadKind, Cut, PieceLong, ReadFault, NoMemory}
use Rattle.proof_stream.specs.Incoming.{KindCame, LengthCame, NumberCame, PieceCame, length_field}
use Rattle.lam_outside.specs.Told.{TookAtMost}
use Rattle.proof_stream.specs.TakenFrames.{TakesFrame, OffersNothing, OffersNew, OffersBack}
use Rattle.proof_stream.proofs.Offering.{back_cut, back_offered, behind, new_cut, new_headless, new_long, new_offered, piece_in}

-- a result that is the end that came
pub ends_with : {T : Type 0} (P : Result T FrameEnd → Type 0) (e : FrameEnd) (result : Result T FrameEnd) → IsErrAnd result (λ x. x ≡ e) → P (Err e) → P result
ends_with P e (Ok v) same p = absurd same
ends_with P e (Err x) same p = subst (λ x. P (Err x)) (sym same) p

-- some bytes more were taken
took_more : (a b m : ℕ) (bytes : List ℕ) (left : Option (List ℕ)) → a + b ≤ m → TookAtMost b (drop a bytes) left → TookAtMost m bytes left
took_more a b m bytes left fits (taken, within, is) = (a + taken, omega (arith, within, fits), is ∙ ap Some (drop-drop taken a bytes))

module _ (limit : ℕ) (rest piece : List ℕ) where
  -- no length came
  pub length_ends : (left : Option (List ℕ)) (e : FrameEnd) → LengthCame limit rest left (Err e) → TakesFrame limit (0 ∷ rest) piece left (Err e)
  length_ends left Cut came = (new_headless limit rest came.0, came.1)
  length_ends left (PieceLong len) came =
      let long : limit < length_field rest = subst (λ n. limit < n) came.1 came.2 in
      (subst (λ n. OffersNothing limit (0 ∷ rest) (LongBy n)) (sym came.1) (new_long limit rest came.0 long), came.3)
  length_ends left ReadFault came = took_more 1 4 (5 + limit) (0 ∷ rest) left (omega arith) came
  length_ends left End came = absurd came
  length_ends left (BadKind kind) came = absurd came
  length_ends left NoMemory came = absurd came

  -- the piece didn't come
  pub piece_ends : (len : ℕ) (middle left : Option (List ℕ)) (e : FrameEnd) → LengthCame limit rest middle (Ok len) → PieceCame len (drop 4 rest) piece left (Err e)
      → TakesFrame limit (0 ∷ rest) piece left (Err e)
  piece_ends len middle left Cut head came =
      let fits : length_field rest ≤ limit = subst (λ n. n ≤ limit) head.1 head.2 in
      let few : length (drop 4 rest) < length_field rest = subst (λ n. length (drop 4 rest) < n) head.1 came.0 in
      (new_cut limit rest head.0 fits few, came.1)
  piece_ends len middle left ReadFault head came = took_more 5 len (5 + limit) (0 ∷ rest) left (omega (arith, head.2)) came
  piece_ends len middle left NoMemory head came = took_more 5 len (5 + limit) (0 ∷ rest) left (omega (arith, head.2)) came
  piece_ends len middle left End head came = absurd came
  piece_ends len middle left (BadKind kind) head came = absurd came
  piece_ends len middle left (PieceLong most) head came = absurd came

  -- it came
  pub piece_taken : (len : ℕ) (middle left : Option (List ℕ)) → LengthCame limit rest middle (Ok len) → PieceCame len (drop 4 rest) piece left (Ok tt)
      → TakesFrame limit (0 ∷ rest) piece left (Ok New)
  piece_taken len middle left head came =
      let fits : length_field rest ≤ limit = subst (λ n. n ≤ limit) head.1 head.2 in
      let there : length_field rest ≤ length (drop 4 rest) = subst (λ n. n ≤ length (drop 4 rest)) head.1 came.0 in
      let is : piece_in rest ≡ piece = sym (came.1 ∙ ap (λ n. take n (drop 4 rest)) head.1) in (
        behind rest,
        subst (λ piece. OffersNew limit (0 ∷ rest) piece (behind rest)) is (new_offered limit rest head.0 fits there),
        came.2 ∙ ap (λ n. Some (drop n (drop 4 rest))) head.1,
      )

  -- the number of a kept piece
  pub number_ends : (left : Option (List ℕ)) (e : FrameEnd) → NumberCame rest left (Err e) → TakesFrame limit (1 ∷ rest) piece left (Err e)
  number_ends left Cut came = (back_cut limit rest came.0, came.1)
  number_ends left ReadFault came = took_more 1 2 (5 + limit) (1 ∷ rest) left (omega arith) came
  number_ends left End came = absurd came
  number_ends left (BadKind kind) came = absurd came
  number_ends left (PieceLong len) came = absurd came
  number_ends left NoMemory came = absurd came

  pub number_taken : (k : ℕ) (left : Option (List ℕ)) → NumberCame rest left (Ok k) → TakesFrame limit (1 ∷ rest) piece left (Ok (Back k))
  number_taken k left came =
      (drop 2 rest, subst (λ k. OffersBack limit (1 ∷ rest) k (drop 2 rest)) (sym came.1) (back_offered limit rest came.0), came.2)

-- the bytes, by their first
pub begun : (kind : ℕ) (bytes : List ℕ) → 1 ≤ length bytes → kind ≡ slice_index bytes 0 → bytes ≡ kind ∷ drop 1 bytes
begun kind [] some is = absurd (omega (arith, some))
begun kind (b ∷ bytes) some is = ap (λ b. b ∷ bytes) (sym is)

pub kind_known : (limit kind known : ℕ) (bytes piece : List ℕ) (middle left : Option (List ℕ)) (result : Result Frame FrameEnd) → kind ≡ known → KindCame bytes middle (Ok kind)
    → TakesFrame limit (known ∷ drop 1 bytes) piece left result → TakesFrame limit bytes piece left result
kind_known limit kind known bytes piece middle left result same came taken =
    let e : bytes ≡ known ∷ drop 1 bytes = begun kind bytes came.0 came.1 ∙ ap (λ kind. kind ∷ drop 1 bytes) same in
    subst (λ bytes. TakesFrame limit bytes piece left result) (sym e) taken

-- one piece of bytes came
pub took_one : (len : ℕ) (bytes body : List ℕ) (left0 left1 : Option (List ℕ)) → left0 ≡ Some bytes → left0 ≡ prepend_known body left1 → length body ≤ len → TookAtMost len bytes left1
took_one len bytes body left0 None told first fits = absurd (let clash : Some bytes ≡ None = sym told ∙ first in cc)
took_one len bytes body left0 (Some rest) told first fits =
    let same : Some bytes ≡ Some (body ++ rest) = sym told ∙ first in
    let whole : bytes ≡ body ++ rest = cc in
    (length body, fits, ap Some (sym (ap (drop (length body)) whole ∙ drop-append_seam body rest)))

-- all of a piece came
pub all_came : (len : ℕ) (bytes piece : List ℕ) (left0 left1 : Option (List ℕ)) → left0 ≡ Some bytes → left0 ≡ prepend_known piece left1 → length piece ≡ len
    → PieceCame len bytes piece left1 (Ok tt)
all_came len bytes piece left0 None told first whole = absurd (let clash : Some bytes ≡ None = sym told ∙ first in cc)
all_came len bytes piece left0 (Some rest) told first whole =
    let same : Some bytes ≡ Some (piece ++ rest) = sym told ∙ first in
    let parted : bytes ≡ piece ++ rest = cc in
    let long : length bytes ≡ length piece + length rest = ap length parted ∙ length-append piece rest in
    let within : len ≤ length piece = omega (arith, whole) in
    let reaches : length piece ≤ len = omega (arith, whole) in (
      omega (arith, long, whole),
      sym (ap (take len) parted ∙ take-append-le len piece rest within ∙ take_all len piece reaches),
      ap Some (sym (ap (drop len) parted ∙ ap (λ n. drop n (piece ++ rest)) (sym whole) ∙ drop-append_seam piece rest)),
    )
