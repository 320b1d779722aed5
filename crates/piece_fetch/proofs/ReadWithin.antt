-- Where bytes spell nothing the fault is found within the limit.
use Rattle.std.proofs.Common.{◌≡◌, ℕ, zero, suc, ◌+◌, ◌≤◌, Bool, true, false, List, [], ◌∷◌, length, take, drop, Option, Some, None, nat_lt, nat_le, if◌then◌else◌, refl, sym, ap, ◌∙◌, subst, arith, ltb-false, leb-true, length-drop}
use Rattle.std.specs.Int.{w32, w64, cast_signed, from_be_bytes}
use Rattle.std.specs.Str.{is_utf8}
use Rattle.core_terms.specs.Types.{Ty, UnitTy, BoolTy, IntTy, TextTy, PairTy, NamedTy, AuthTy, VecTy, Table, fields_at, item_types}
use Rattle.core_terms.specs.Values.{Value, IntV, TextV, PairV, ConV, DigestV, ItemsV, AndV}
use Rattle.core_terms.specs.Reading.{Read, Good, BadAt, then_read, read_bool, read_bytes, read_text, read_each, read_fields, read_con, read_value, whole, read}

module _ (end : ℕ) where
  -- what was read, with all that is behind it, ends here at most, and so does a fault
  abbrev EndsBy : {A : Type 0} → Read A → Type 0
  EndsBy (Good v rest place) = place + length rest ≤ end
  EndsBy (BadAt place) = place ≤ end

  then_by : {A B : Type 0} (r : Read A) (go : A → List ℕ → ℕ → Read B) → EndsBy r → ((v : A) (rest : List ℕ) (place : ℕ) → place + length rest ≤ end → EndsBy (go v rest place)) → EndsBy (then_read r go)
  then_by (Good v rest place) go h on = on v rest place h
  then_by (BadAt place) go h on = h

  bool_by : (bytes : List ℕ) (place : ℕ) → place + length bytes ≤ end → EndsBy (read_bool bytes place)
  bool_by [] place h = omega (arith, h)
  bool_by (zero ∷ rest) place h = omega (arith, h)
  bool_by (suc zero ∷ rest) place h = omega (arith, h)
  bool_by (suc (suc n) ∷ rest) place h = omega (arith, h)

  bytes_by : (n : ℕ) (make : List ℕ → Value) (bytes : List ℕ) (place : ℕ) → place + length bytes ≤ end → EndsBy (read_bytes n make bytes place)
  bytes_by n make bytes place h = by (nat_le n (length bytes)) refl
    where
      by : (b : Bool) → nat_le n (length bytes) ≡ b → EndsBy (if b then Good (make (take n bytes)) (drop n bytes) (place + n) else BadAt place)
      by true e = omega (arith, h, leb-true n (length bytes) e, length-drop n bytes)
      by false e = omega (arith, h)

  text_by : (bytes : List ℕ) (place : ℕ) → place + length bytes ≤ end → EndsBy (read_text bytes place)
  text_by bytes place h = by (nat_le (4 + len) (length bytes)) refl
    where
      len : ℕ
      len = from_be_bytes w32 (take 4 bytes)

      text : List ℕ
      text = take (from_be_bytes w32 (take 4 bytes)) (drop 4 bytes)

      by : (b : Bool) → nat_le (4 + len) (length bytes) ≡ b
          → EndsBy (if b then (if is_utf8 text then Good (TextV text) (drop len (drop 4 bytes)) (place + (4 + len)) else BadAt place) else BadAt place)
      by true e = inner (is_utf8 text)
        where
          inner : (b : Bool) → EndsBy (if b then Good (TextV text) (drop len (drop 4 bytes)) (place + (4 + len)) else BadAt place)
          inner true = omega (arith, h, leb-true (4 + len) (length bytes) e, length-drop len (drop 4 bytes), length-drop 4 bytes)
          inner false = omega (arith, h)
      by false e = omega (arith, h)

  -- where each value of these types is so
  module _ (one : Ty → List ℕ → ℕ → Read Value) (one_by : (t : Ty) (bytes : List ℕ) (place : ℕ) → place + length bytes ≤ end → EndsBy (one t bytes place)) where
    each_by : (ts : List Ty) (bytes : List ℕ) (place : ℕ) → place + length bytes ≤ end → EndsBy (read_each one ts bytes place)
    each_by [] bytes place h = h
    each_by (t ∷ ts) bytes place h =
        then_by (one t bytes place) _ (one_by t bytes place h)
        (λ v rest q k. then_by (read_each one ts rest q) (λ vs bytes place. Good (AndV v vs) bytes place) (each_by ts rest q k) (λ vs rest q k. k))

    fields_by : (types : Table) (tag place : ℕ) (o : Option (List Ty)) (rest : List ℕ) (behind : ℕ) → place ≤ end → behind + length rest ≤ end → EndsBy (read_fields types one tag place o rest behind)
    fields_by types tag place None rest behind at h = at
    fields_by types tag place (Some ts) rest behind at h =
        then_by (read_each one ts rest behind) (λ vs bytes place. Good (ConV tag vs) bytes place) (each_by ts rest behind h) (λ vs rest q k. k)

    con_by : (types : Table) (number : ℕ) (bytes : List ℕ) (place : ℕ) → place + length bytes ≤ end → EndsBy (read_con types one number bytes place)
    con_by types number [] place h = omega (arith, h)
    con_by types number (tag ∷ rest) place h = fields_by types tag place (fields_at types number tag) rest (place + 1) (omega (arith, h)) (omega (arith, h))

  value_by : (types : Table) (levels : ℕ) (t : Ty) (bytes : List ℕ) (place : ℕ) → place + length bytes ≤ end → EndsBy (read_value types levels t bytes place)
  value_by types zero t bytes place h = omega (arith, h)
  value_by types (suc levels) UnitTy bytes place h = h
  value_by types (suc levels) BoolTy bytes place h = bool_by bytes place h
  value_by types (suc levels) IntTy bytes place h = bytes_by 8 (λ bs. IntV (cast_signed w64 (from_be_bytes w64 bs))) bytes place h
  value_by types (suc levels) TextTy bytes place h = text_by bytes place h
  value_by types (suc levels) (PairTy a b) bytes place h =
      then_by (read_value types levels a bytes place) _ (value_by types levels a bytes place h)
      (λ x rest q k. then_by (read_value types levels b rest q) (λ y bytes place. Good (PairV x y) bytes place) (value_by types levels b rest q k) (λ y rest q k. k))
  value_by types (suc levels) (NamedTy number) bytes place h = con_by (read_value types levels) (value_by types levels) types number bytes place h
  value_by types (suc levels) (AuthTy t) bytes place h = bytes_by 32 DigestV bytes place h
  value_by types (suc levels) (VecTy n t) bytes place h =
      then_by (read_each (read_value types levels) (item_types n t) bytes place) (λ vs bytes place. Good (ItemsV vs) bytes place)
      (each_by (read_value types levels) (value_by types levels) (item_types n t) bytes place h) (λ vs rest q k. k)

  whole_by : (r : Read Value) → EndsBy r → EndsBy (whole r)
  whole_by (Good v [] place) h = h
  whole_by (Good v (b ∷ rest) place) h = omega (arith, h)
  whole_by (BadAt place) h = h

pub fault_within : (limit : ℕ) (types : Table) (t : Ty) (bytes : List ℕ) (offset : ℕ) → read limit types t bytes ≡ BadAt offset → offset ≤ limit
fault_within limit types t bytes offset e = by (nat_lt limit (length bytes)) refl
  where
    by : (b : Bool) → nat_lt limit (length bytes) ≡ b → offset ≤ limit
    by true f =
        let g : BadAt limit ≡ BadAt offset = sym (ap (λ b. if b then BadAt limit else whole (read_value types 512 t bytes 0)) f) ∙ e in
        let same : limit ≡ offset = cc (g) in
        omega (arith, same)
    by false f =
        let g : whole (read_value types 512 t bytes 0) ≡ BadAt offset = sym (ap (λ b. if b then BadAt limit else whole (read_value types 512 t bytes 0)) f) ∙ e in
        subst (EndsBy limit) g (whole_by limit (read_value types 512 t bytes 0) (value_by limit types 512 t bytes 0 (omega (arith, ltb-false limit (length bytes) f))))
