-- Which values are shallow, which bytes spell them, and which of the deepest are within the limits (`Values`, `Spelling`, `Formats`).
use Rattle.std.specs.Prelude.{◌≡◌, [], ◌∷◌, true, pos, replicate}
use Rattle.core_terms.specs.Types.{UnitTy, BoolTy, IntTy, TextTy, PairTy, NamedTy, AuthTy}
use Rattle.core_terms.specs.Formats.{IsHash}
use Rattle.core_terms.specs.Values.{UnitV, BoolV, IntV, TextV, PairV, ConV, DigestV, NoV, AndV, AreIdeal, AreShallow, IsIdeal, IsShallow, IsWithin, size}
use Rattle.core_terms.specs.Spelling.{AreBytes, Spells, shallow, spelling}
use Rattle.core_terms.specs.ValueRows.{marks, of_three, two_types}
use Rattle.core_terms.specs.ReadingRows.{nested, nested_value}

pub record ValueRows : Type 0 where
  -- a hash gives 32 bytes
  pub hash_of_32_bytes : IsHash (λ bytes. replicate 32 0)
  pub no_hash_of_31_bytes : IsHash (λ bytes. replicate 31 0) → ⊥
  -- shallow values: leaves and digests, a pair, and a constructor
  pub shallow_leaves : IsShallow [] UnitTy UnitV × IsShallow [] BoolTy (BoolV true) × IsShallow [] IntTy (IntV (pos 5)) × IsShallow [] TextTy (TextV [])
      × IsShallow [] (AuthTy IntTy) (DigestV (replicate 32 0))
  pub shallow_pair : IsShallow [] (PairTy BoolTy IntTy) (PairV (BoolV true) (IntV (pos 5)))
  pub shallow_constructor : IsShallow two_types (NamedTy 1) (of_three (DigestV (replicate 32 0)))
  pub ideal_nothing : AreIdeal [] [] NoV × AreShallow [] [] NoV
  -- and such that aren't
  pub no_int_beyond_the_greatest : IsShallow [] IntTy (IntV (pos 9223372036854775808)) → ⊥
  pub no_text_but_utf8 : IsShallow [] TextTy (TextV (0xFF ∷ [])) → ⊥
  pub no_digest_of_31_bytes : IsShallow [] (AuthTy IntTy) (DigestV (replicate 31 0)) → ⊥
  pub no_pair_of_other_parts : (IsShallow [] (PairTy BoolTy IntTy) (PairV (IntV (pos 5)) (IntV (pos 5))) → ⊥) × (IsShallow [] (PairTy BoolTy IntTy) (PairV (BoolV true) (BoolV true)) → ⊥)
  pub nothing_below_a_digest : IsShallow [] (AuthTy IntTy) (IntV (pos 5)) → ⊥
  pub no_other_field : IsShallow two_types (NamedTy 1) (ConV 1 (AndV (BoolV true) (AndV (BoolV true) (AndV (DigestV (replicate 32 0)) NoV)))) → ⊥
  pub no_field_left_out : IsShallow two_types (NamedTy 1) (ConV 1 (AndV (BoolV true) NoV)) → ⊥
  pub no_such_constructor : IsShallow two_types (NamedTy 1) (ConV 2 NoV) → ⊥
  -- and such that aren't ideal
  pub no_ideal_int_beyond_the_greatest : IsIdeal [] IntTy (IntV (pos 9223372036854775808)) → ⊥
  pub no_ideal_text_but_utf8 : IsIdeal [] TextTy (TextV (0xFF ∷ [])) → ⊥
  pub no_ideal_pair_of_other_parts : (IsIdeal [] (PairTy BoolTy IntTy) (PairV (IntV (pos 5)) (IntV (pos 5))) → ⊥) × (IsIdeal [] (PairTy BoolTy IntTy) (PairV (BoolV true) (BoolV true)) → ⊥)
  pub no_ideal_value_of_another_form : IsIdeal [] BoolTy UnitV → ⊥
  pub no_ideal_constructor_of_other_fields : IsIdeal two_types (NamedTy 1) (ConV 1 (AndV (BoolV true) (AndV (BoolV true) (AndV (TextV []) NoV)))) → ⊥
  -- what has not the type has no size, and is its own projection
  pub size_of_no_text : size [] TextTy UnitV ≡ 0
  pub projection_of_a_field_too_many : shallow marks two_types (NamedTy 1) (ConV 0 (AndV (BoolV true) NoV)) ≡ ConV 0 (AndV (BoolV true) NoV)
  -- a value of depth 512 is within the limits, and none of 513
  pub deepest_is_within : IsWithin 65536 two_types (nested 511 BoolTy) (nested_value 511 (BoolV true))
  pub deeper_is_not : IsWithin 65536 two_types (nested 512 BoolTy) (nested_value 512 (BoolV true)) → ⊥
  -- bytes spell a value that has the type, is within the limits, and has that spelling
  pub spelling_of_unit : spelling UnitV ≡ []
  pub bool_is_spelled : Spells 1 [] (1 ∷ []) BoolTy (BoolV true)
  pub other_byte_spells_another : Spells 1 [] (0 ∷ []) BoolTy (BoolV true) → ⊥
  pub bool_is_no_unit : Spells 1 [] (1 ∷ []) UnitTy (BoolV true) → ⊥
  pub two_bools_are_beyond : Spells 1 [] (1 ∷ 1 ∷ []) (PairTy BoolTy BoolTy) (PairV (BoolV true) (BoolV true)) → ⊥
  -- each byte is below 256
  pub no_byte_of_256 : AreBytes (256 ∷ []) → ⊥
  pub no_later_byte_of_256 : AreBytes (255 ∷ 256 ∷ []) → ⊥
