-- What stands in front of a spelling.
use Rattle.std.proofs.Common.{◌≡◌, ℕ, zero, suc, ◌+◌, ◌<◌, ◌≤◌, Bool, true, false, List, [], ◌∷◌, length, drop, get_or, Some, nat_eq, slice_get, if◌then◌else◌, refl, sym, ap, ◌∙◌, arith, eqb-true, drop-cons}
use Rattle.core_terms.specs.Formats.{Hash, IsHash, fingerprint}
use Rattle.core_terms.specs.ProgramFormats.{front}
use Rattle.core_terms.specs.Types.{Ty, UnitTy, BoolTy, IntTy, TextTy, PairTy, NamedTy, AuthTy, VecTy}
use Rattle.core_terms.specs.declared.format.Format.{Format}
use Rattle.core_terms.specs.declared.format.Format.TheVariants.{First, Second}
use Rattle.core_terms.specs.Reading.{Read, BadAt}
use Rattle.core_terms.specs.Values.{Value}
use Rattle.ideal_meaning.specs.PieceForms.{further, read_behind}

length_fingerprint : (hash : Hash) → IsHash hash → (declared : List ℕ) (t : Ty) → length (fingerprint hash declared t) ≡ 32
length_fingerprint hash is_hash declared UnitTy = is_hash _
length_fingerprint hash is_hash declared BoolTy = is_hash _
length_fingerprint hash is_hash declared IntTy = is_hash _
length_fingerprint hash is_hash declared TextTy = is_hash _
length_fingerprint hash is_hash declared (PairTy a b) = is_hash _
length_fingerprint hash is_hash declared (NamedTy number) = is_hash _
length_fingerprint hash is_hash declared (AuthTy t) = is_hash _
length_fingerprint hash is_hash declared (VecTy n t) = is_hash _

-- it is as long as a digest, or empty
pub short_front : (hash : Hash) → IsHash hash → (format : Format) (text : List ℕ) (t : Ty) → length (front format hash text t) ≤ 32
short_front hash is_hash First text t = omega arith
short_front hash is_hash Second text t = let long = length_fingerprint hash is_hash (hash text) t in omega (arith, long)

get_drop : (xs : List ℕ) (n : ℕ) → slice_get (drop n xs) 0 ≡ slice_get xs n
get_drop xs zero = refl
get_drop [] (suc n) = refl
get_drop (x ∷ xs) (suc n) = get_drop xs n

module _ (reading : List ℕ → Read Value) where
  -- another byte than the front's
  other_byte : (c : ℕ) (front piece : List ℕ) → (slice_get piece 0 ≡ Some c → ⊥) → read_behind (c ∷ front) reading piece ≡ BadAt 0
  other_byte c front [] other = refl
  other_byte c front (b ∷ piece) other = by (nat_eq c b) refl
    where
      by : (e : Bool) → nat_eq c b ≡ e → (if e then further 1 (read_behind front reading piece) else BadAt 0) ≡ BadAt 0
      by true e = absurd (other (ap Some (sym (eqb-true c b e))))
      by false e = refl

module _ (front piece : List ℕ) where
  -- Up to this place the piece is as the front.
  pub record AgreesTo (place : ℕ) : Type 0 where
    pub within : place ≤ length piece
    pub reads : (reading : List ℕ → Read Value) → read_behind front reading piece ≡ further place (read_behind (drop place front) reading (drop place piece))

  module _ (place : ℕ) (inside : place < length front) (agrees : AgreesTo place) where
    next : suc place ≡ place + 1
    next = omega arith

    front_at_place : drop place front ≡ get_or front place 0 ∷ drop (place + 1) front
    front_at_place = drop-cons front place 0 inside ∙ ap (λ n. get_or front place 0 ∷ drop n front) next

    -- the first byte that is missing or another one
    pub parts_there : (slice_get piece place ≡ Some (get_or front place 0) → ⊥) → (reading : List ℕ → Read Value) → read_behind front reading piece ≡ BadAt place
    parts_there other reading =
        let none : place + 0 ≡ place = omega arith in
        agrees.reads reading ∙ ap (λ f. further place (read_behind f reading (drop place piece))) front_at_place
        ∙ ap (further place) (other_byte reading (get_or front place 0) (drop (place + 1) front) (drop place piece) (λ e. other (sym (get_drop piece place) ∙ e)))
        ∙ ap BadAt none
