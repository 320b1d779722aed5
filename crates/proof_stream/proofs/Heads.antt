-- The header, from the bytes that came.
use Rattle.std.proofs.Common.{◌≡◌, ℕ, ◌<◌, ◌≤◌, List, [], ◌∷◌, ◌++◌, length, take, drop, Option, Some, None, refl, sym, ap, ◌∙◌, arith, append-nil, le-leb, length-take}
use Rattle.std.proofs.Math.Seq.{drop-append_seam}
use Rattle.std.proofs.lemmas.Bool.{lt-leb}
use Rattle.std.proofs.lemmas.List.{drop_all, take_all}
use Rattle.std.specs.Io.KnownBytes.{IsAtEnd, prepend_known}
use Rattle.core_terms.specs.Formats.{Format}
use Rattle.ideal_meaning.specs.Frames.{header}

-- six bytes tell whether there is a header
six_tell : (format : Format) (head rest : List ℕ) → length head ≡ 6 → header format (head ++ rest) ≡ header format head
six_tell format (a ∷ (b ∷ (c ∷ (d ∷ (e ∷ (f ∷ [])))))) rest six =
    let long : 6 ≤ length ((a ∷ (b ∷ (c ∷ (d ∷ (e ∷ (f ∷ [])))))) ++ rest) = omega arith in
    rw (le-leb 6 (length ((a ∷ (b ∷ (c ∷ (d ∷ (e ∷ (f ∷ [])))))) ++ rest)) long) refl
six_tell format [] rest six = absurd (omega (arith, six))
six_tell format (a ∷ []) rest six = absurd (omega (arith, six))
six_tell format (a ∷ (b ∷ [])) rest six = absurd (omega (arith, six))
six_tell format (a ∷ (b ∷ (c ∷ []))) rest six = absurd (omega (arith, six))
six_tell format (a ∷ (b ∷ (c ∷ (d ∷ [])))) rest six = absurd (omega (arith, six))
six_tell format (a ∷ (b ∷ (c ∷ (d ∷ (e ∷ []))))) rest six = absurd (omega (arith, six))
six_tell format (a ∷ (b ∷ (c ∷ (d ∷ (e ∷ (f ∷ (g ∷ more))))))) rest six = absurd (omega (arith, six))

few_have_none : (format : Format) (bytes : List ℕ) → length bytes < 6 → header format bytes ≡ None
few_have_none format bytes few = rw (lt-leb 6 (length bytes) few) refl

-- what came is the front of the bytes
front : (bytes came rest : List ℕ) (left : Option (List ℕ)) → left ≡ Some bytes → left ≡ Some (came ++ rest) → bytes ≡ came ++ rest
front bytes came rest left told first = let same : Some bytes ≡ Some (came ++ rest) = sym told ∙ first in cc

pub whole_head : (n : ℕ) (into bytes : List ℕ) (left left' : Option (List ℕ)) → left ≡ Some bytes → left ≡ prepend_known (take n into) left' → length into ≡ 6 → 6 ≤ n
    → ((format : Format) → header format bytes ≡ header format into) × (left' ≡ Some (drop 6 bytes))
whole_head n into bytes left None told first six whole = absurd (let clash : Some bytes ≡ None = sym told ∙ first in cc)
whole_head n into bytes left (Some rest) told first six whole =
    let all : take n into ≡ into = take_all n into (omega (arith, six, whole)) in
    let is : bytes ≡ into ++ rest = front bytes (take n into) rest left told first ∙ ap (λ xs. xs ++ rest) all in
    let behind : drop 6 bytes ≡ rest = ap (drop 6) is ∙ ap (λ n. drop n (into ++ rest)) (sym six) ∙ drop-append_seam into rest in
    (λ format. ap (header format) is ∙ six_tell format into rest six, ap Some (sym behind))

pub cut_head : (n : ℕ) (into bytes : List ℕ) (left left' : Option (List ℕ)) → left ≡ Some bytes → left ≡ prepend_known (take n into) left' → length into ≡ 6 → n < 6
    → (n < length into → IsAtEnd left') → ((format : Format) → header format bytes ≡ None) × (left' ≡ Some (drop 6 bytes))
cut_head n into bytes left None told first six few end = absurd (let clash : Some bytes ≡ None = sym told ∙ first in cc)
cut_head n into bytes left (Some rest) told first six few end =
    let none : rest ≡ [] = end (omega (arith, six, few)) in
    let is : bytes ≡ take n into = front bytes (take n into) rest left told first ∙ ap (λ rest. take n into ++ rest) none ∙ append-nil (take n into) in
    let short : length bytes < 6 = omega (arith, ap length is, length-take n into, few) in
    let behind : drop 6 bytes ≡ [] = drop_all 6 bytes (omega (arith, short)) in
    (λ format. few_have_none format bytes short, ap Some (none ∙ sym behind))
