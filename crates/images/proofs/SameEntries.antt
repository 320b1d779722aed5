-- The test of entries for sameness finds the entries that are equal.
use Rattle.std.proofs.Common.{◌≡◌, Bool, true, false, pos, negsuc, ℤ, refl, ap, ap₂, eq-eqb}
use Rattle.std.proofs.lemmas.Bool.{eqb-true}
use Rattle.std.proofs.lemmas.Slice.Eq.{bytes_eq-Decides}
use Rattle.core_terms.specs.Values.{Value, UnitV, BoolV, IntV, TextV, PairV, ConV, DigestV, ItemsV, Values, NoV, AndV}
use Rattle.core_terms.specs.Types.{same_type}
use Rattle.core_terms.proofs.SameTypes.{first_of, second_of, same_sound}
use Rattle.core_terms.proofs.TypingComplete.{both, same_self}
use Rattle.images.specs.Images.{Entry, entry}
use Rattle.images.specs.SavedImages.{same_bool, same_int, same_value, same_values, same_entry}

bool_sound : (a b : Bool) → same_bool a b ≡ true → a ≡ b
bool_sound true true h = refl
bool_sound false false h = refl
bool_sound true false h = absurd (cc)
bool_sound false true h = absurd (cc)

int_sound : (a b : ℤ) → same_int a b ≡ true → a ≡ b
int_sound (pos m) (pos n) h = ap pos (eqb-true m n h)
int_sound (negsuc m) (negsuc n) h = ap negsuc (eqb-true m n h)
int_sound (pos m) (negsuc n) h = absurd (cc)
int_sound (negsuc m) (pos n) h = absurd (cc)

mutual
  value_sound : (v w : Value) → same_value v w ≡ true → v ≡ w
  value_sound UnitV UnitV h = refl
  value_sound (BoolV a) (BoolV b) h = ap BoolV (bool_sound a b h)
  value_sound (IntV a) (IntV b) h = ap IntV (int_sound a b h)
  value_sound (TextV a) (TextV b) h = ap TextV ((bytes_eq-Decides a b).0 h)
  value_sound (PairV a b) (PairV c d) h = ap₂ PairV (value_sound a c (first_of _ _ h)) (value_sound b d (second_of (same_value a c) _ h))
  value_sound (ConV tag vs) (ConV other ws) h = ap₂ ConV (eqb-true tag other (first_of _ _ h)) (values_sound vs ws (second_of _ (same_values vs ws) h))
  value_sound (DigestV a) (DigestV b) h = ap DigestV ((bytes_eq-Decides a b).0 h)
  value_sound (ItemsV vs) (ItemsV ws) h = ap ItemsV (values_sound vs ws h)
  value_sound v w h = absurd (cc)

  values_sound : (vs ws : Values) → same_values vs ws ≡ true → vs ≡ ws
  values_sound NoV NoV h = refl
  values_sound (AndV v vs) (AndV w ws) h = ap₂ AndV (value_sound v w (first_of _ _ h)) (values_sound vs ws (second_of (same_value v w) _ h))
  values_sound vs ws h = absurd (cc)

bool_self : (b : Bool) → same_bool b b ≡ true
bool_self true = refl
bool_self false = refl

int_self : (z : ℤ) → same_int z z ≡ true
int_self (pos n) = eq-eqb n n refl
int_self (negsuc n) = eq-eqb n n refl

mutual
  value_self : (v : Value) → same_value v v ≡ true
  value_self UnitV = refl
  value_self (BoolV b) = bool_self b
  value_self (IntV z) = int_self z
  value_self (TextV bytes) = (bytes_eq-Decides bytes bytes).1 refl
  value_self (PairV a b) = both _ _ (value_self a) (value_self b)
  value_self (ConV tag vs) = both _ _ (eq-eqb tag tag refl) (values_self vs)
  value_self (DigestV bytes) = (bytes_eq-Decides bytes bytes).1 refl
  value_self (ItemsV vs) = values_self vs

  values_self : (vs : Values) → same_values vs vs ≡ true
  values_self NoV = refl
  values_self (AndV v vs) = both _ _ (value_self v) (values_self vs)

pub entry_sound : (a b : Entry) → same_entry a b ≡ true → a ≡ b
entry_sound a b h = ap₂ entry (same_sound a.of_type b.of_type (first_of _ _ h)) (value_sound a.value b.value (second_of (same_type a.of_type b.of_type) _ h))

pub entry_self : (e : Entry) → same_entry e e ≡ true
entry_self e = both _ _ (same_self e.of_type) (value_self e.value)
