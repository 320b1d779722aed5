-- The first format, what a program's format says of digests and limits, ideal values, and which roles read the state. Each row holds by computing.
use Rattle.std.specs.Prelude.{◌≡◌, ◌^◌, ℕ, List, [], ◌∷◌, codes, pos, true, replicate, refl, None, false}
use Rattle.core_terms.specs.Types.{Ty, UnitTy, BoolTy, IntTy, TextTy, PairTy, NamedTy, AuthTy}
use Rattle.core_terms.specs.Formats.{Format, Hash, first_format, message_limit}
use Rattle.core_terms.specs.Values.{UnitV, BoolV, IntV, TextV, PairV, ConV, DigestV, NoV, AndV, IsIdeal}
use Rattle.core_terms.specs.Reading.{Good, BadAt}
use Rattle.core_terms.specs.Terms.{Inner, Init, Query, Update, Program}
use Rattle.core_terms.specs.RoleTypes.{ReadsState}
use Rattle.core_terms.specs.Projection.{digest_at, projection, projections, read_at}
use Rattle.core_terms.specs.ValueRows.{of_three, two_types}

-- the first format
pub first_magic : (most : ℕ) → (first_format most).magic ≡ codes "LAP1"
first_magic most = refl

pub first_limit : (most : ℕ) → (first_format most).limit ≡ 2 ^ 16
first_limit most = refl

pub first_digest : (most : ℕ) (hash : Hash) (t : Ty) (bytes : List ℕ) → (first_format most).digest hash t bytes ≡ hash bytes
first_digest most hash t bytes = refl

pub first_kept : (most : ℕ) → (first_format most).most_kept ≡ most
first_kept most = refl

pub greatest_message : message_limit ≡ 2 ^ 24
greatest_message = refl

-- A program of another format: a digest tells whether the type is an authenticated one, and a spelling has at most 9 bytes.
abbrev pub tagged : Hash → Ty → List ℕ → List ℕ
tagged hash (AuthTy t) bytes = 1 ∷ hash bytes
tagged hash t bytes = 0 ∷ hash bytes

abbrev pub other_format : Format
other_format = record { digest = tagged; print = λ hash t. None; limit = 9; magic = []; image_magic = []; most_kept = 0; arrays = false }

abbrev pub other_program : Program
other_program = record { format = other_format; types = two_types; state = UnitTy; functions = []; code = None }

pub digest_of_the_format : (hash : Hash) → digest_at hash other_program (AuthTy IntTy) (7 ∷ []) ≡ 1 ∷ hash (7 ∷ [])
digest_of_the_format hash = refl

pub projection_in_the_format : (hash : Hash) → projection hash other_program (NamedTy 1) (of_three (TextV (0x61 ∷ []))) ≡ of_three (DigestV (0 ∷ hash (0 ∷ 0 ∷ 0 ∷ 1 ∷ 0x61 ∷ [])))
projection_in_the_format hash = refl

pub projections_in_the_format : (hash : Hash)
    → projections hash other_program (AuthTy BoolTy ∷ NamedTy 1 ∷ []) (AndV (BoolV true) (AndV (of_three (TextV [])) NoV))
    ≡ AndV (DigestV (0 ∷ hash (1 ∷ []))) (AndV (of_three (DigestV (0 ∷ hash (0 ∷ 0 ∷ 0 ∷ 0 ∷ [])))) NoV)
projections_in_the_format hash = refl

pub limit_of_the_format : read_at other_program (PairTy IntTy (PairTy BoolTy BoolTy)) (replicate 10 0) ≡ BadAt 9
limit_of_the_format = refl

pub types_of_the_program : read_at other_program (NamedTy 1) (0 ∷ []) ≡ Good (ConV 0 NoV) [] 1
types_of_the_program = refl

-- Ideal values: one of each type, and no digest.
pub ideal_leaves : IsIdeal [] UnitTy UnitV × IsIdeal [] BoolTy (BoolV true) × IsIdeal [] IntTy (IntV (pos 5)) × IsIdeal [] TextTy (TextV [])
ideal_leaves = (tt, tt, refl, ([], (refl, refl)))

pub ideal_pair : IsIdeal [] (PairTy BoolTy IntTy) (PairV (BoolV true) (IntV (pos 5)))
ideal_pair = (tt, refl)

pub ideal_constructor : IsIdeal two_types (NamedTy 1) (of_three (TextV []))
ideal_constructor = (tt, (refl, (([], (refl, refl)), tt)))

pub ideal_of_auth : IsIdeal [] (AuthTy (AuthTy IntTy)) (IntV (pos 5))
ideal_of_auth = refl

pub no_digest_is_ideal : IsIdeal [] (AuthTy IntTy) (DigestV (replicate 32 0)) → ⊥
no_digest_is_ideal h = h

pub no_field_is_left_out : IsIdeal two_types (NamedTy 1) (ConV 1 (AndV (BoolV true) NoV)) → ⊥
no_field_is_left_out h = h.1

-- a query and an update read the state
pub readers_of_the_state : ReadsState Query × ReadsState Update × (ReadsState Init → ⊥) × (ReadsState Inner → ⊥)
readers_of_the_state = (tt, tt, (λ h. h), (λ h. h))
