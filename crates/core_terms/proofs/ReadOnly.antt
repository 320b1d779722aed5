-- What is read was spelled.
use Rattle.std.proofs.Common.{◌≡◌, ℕ, zero, suc, ◌+◌, ◌<◌, ◌≤◌, ◌^◌, Bool, true, false, List, [], ◌∷◌, ◌++◌, length, take, drop, get_or, Option, Some, None, unwrap_or, nat_lt, nat_le, if◌then◌else◌, refl, sym, ap, ap₂, ◌∙◌, subst, arith, append_assoc, append-nil, lit<, ltb-false, leb-true, take-append-drop, length-take-le, length-drop, FitsSigned}
use Rattle.std.specs.Int.{w16, w32, w64, cast_unsigned, cast_signed, to_be_bytes, from_be_bytes}
use Rattle.std.specs.Str.{is_utf8}
use Rattle.std.proofs.lemmas.Str.{IsUtf8-from_is_utf8}
use Rattle.std.proofs.lemmas.Nat.{be_bytes_4, be_bytes_8}
use Rattle.std.proofs.lemmas.Int.{of_z-to_z}
use Rattle.std.proofs.Math.Facts.{sfits_to_z}
use Rattle.core_terms.specs.Types.{Ty, UnitTy, BoolTy, IntTy, TextTy, PairTy, NamedTy, AuthTy, VecTy, Table, fields_at, item_types, OnFields}
use Rattle.core_terms.specs.Values.{IsShallow, AreShallow, Value, UnitV, BoolV, IntV, TextV, PairV, ConV, DigestV, ItemsV, Values, NoV, AndV, int_fits, depth, depths}
use Rattle.core_terms.specs.Spelling.{AreBytes, spelling, spellings, Spells}
use Rattle.core_terms.specs.Reading.{Read, Good, BadAt, then_read, read_bool, read_bytes, read_text, read_each, read_fields, read_con, read_value, whole, read}
use Rattle.core_terms.proofs.Numbers.{of_mag}
use Rattle.core_terms.proofs.Spelled.{length_spelling}

-- parts of a string of bytes are bytes, and numbers of eight, four and two bytes fit them
pub byte_at : (bs : List ℕ) → AreBytes bs → (i : ℕ) → get_or bs i 0 < 256
byte_at [] h i = lit< tt
byte_at (b ∷ bs) h zero = h.0
byte_at (b ∷ bs) h (suc i) = byte_at bs h.1 i

pub bytes_take : (n : ℕ) (bs : List ℕ) → AreBytes bs → AreBytes (take n bs)
bytes_take zero bs h = tt
bytes_take (suc n) [] h = tt
bytes_take (suc n) (b ∷ bs) h = (h.0, bytes_take n bs h.1)

pub bytes_drop : (n : ℕ) (bs : List ℕ) → AreBytes bs → AreBytes (drop n bs)
bytes_drop zero bs h = h
bytes_drop (suc n) [] h = tt
bytes_drop (suc n) (b ∷ bs) h = bytes_drop n bs h.1

pub be_low_8 : (bs : List ℕ) → ((i : ℕ) → get_or bs i 0 < 256) → from_be_bytes w64 bs < 2 ^ 64
be_low_8 bs h = omega (arith, h 0, h 1, h 2, h 3, h 4, h 5, h 6, h 7)

pub be_low_4 : (bs : List ℕ) → ((i : ℕ) → get_or bs i 0 < 256) → from_be_bytes w32 bs < 2 ^ 32
be_low_4 bs h = omega (arith, h 0, h 1, h 2, h 3)

pub be_low_2 : (bs : List ℕ) → ((i : ℕ) → get_or bs i 0 < 256) → from_be_bytes w16 bs < 2 ^ 16
be_low_2 bs h = omega (arith, h 0, h 1)

-- what went before a good reading
then_good : {A B : Type 0} (r : Read A) (go : A → List ℕ → ℕ → Read B) (v : B) (rest : List ℕ) (q : ℕ) → then_read r go ≡ Good v rest q
    → (u : A) × (mid : List ℕ) × (m : ℕ) × (r ≡ Good u mid m) × (go u mid m ≡ Good v rest q)
then_good (Good u mid m) go v rest q e = (u, mid, m, refl, e)
then_good (BadAt o) go v rest q e = absurd (cc)

if_good : {A : Type 0} (b : Bool) (r : Read A) (p : ℕ) (v : A) (rest : List ℕ) (q : ℕ) → (if b then r else BadAt p) ≡ Good v rest q → (b ≡ true) × (r ≡ Good v rest q)
if_good true r p v rest q e = (refl, e)
if_good false r p v rest q e = absurd (cc)

-- n bytes as they stand
front_good : (n : ℕ) (make : List ℕ → Value) (bytes : List ℕ) (p : ℕ) (v : Value) (rest : List ℕ) (q : ℕ) → read_bytes n make bytes p ≡ Good v rest q
    → (front : List ℕ) × (bytes ≡ front ++ rest) × (length front ≡ n) × (v ≡ make front) × (front ≡ take n bytes) × (rest ≡ drop n bytes)
front_good n make bytes p v rest q e =
    let r = if_good (nat_le n (length bytes)) _ p v rest q e in
    let fits : n ≤ length bytes = leb-true n (length bytes) r.0 in
    let same : make (take n bytes) ≡ v = cc (r.1) in
    let after : drop n bytes ≡ rest = cc (r.1) in
    (take n bytes, sym (take-append-drop n bytes) ∙ ap (λ l. take n bytes ++ l) after, length-take-le n bytes fits, sym same, refl, sym after)

-- what was read at a place
record Only (types : Table) (n : ℕ) (t : Ty) (bytes : List ℕ) (s : Value) (rest : List ℕ) : Type 0 where
  shape : IsShallow types t s
  is : bytes ≡ spelling s ++ rest
  deep : depth types t s ≤ n
  after : AreBytes rest

record OnlyEach (types : Table) (n : ℕ) (ts : List Ty) (bytes : List ℕ) (vs : Values) (rest : List ℕ) : Type 0 where
  shape : AreShallow types ts vs
  is : bytes ≡ spellings vs ++ rest
  deep : depths types ts vs ≤ n
  after : AreBytes rest

module _ (types : Table) where
  only_int : (n : ℕ) (bytes : List ℕ) (p : ℕ) (s : Value) (rest : List ℕ) (q : ℕ) → AreBytes bytes
      → read_bytes 8 (λ bs. IntV (cast_signed w64 (from_be_bytes w64 bs))) bytes p ≡ Good s rest q → Only types (suc n) IntTy bytes s rest
  only_int n bytes p s rest q h e =
      let r = front_good 8 (λ bs. IntV (cast_signed w64 (from_be_bytes w64 bs))) bytes p s rest q e in
      let fh : AreBytes r.0 = subst AreBytes (sym r.4) (bytes_take 8 bytes h) in
      let low = be_low_8 r.0 (byte_at r.0 fh) in
      let spelled : to_be_bytes w64 (cast_unsigned w64 (cast_signed w64 (from_be_bytes w64 r.0))) ≡ r.0 =
      ap (to_be_bytes w64) (of_z-to_z w64 (from_be_bytes w64 r.0) low) ∙ be_bytes_8 r.0 (from_be_bytes w64 r.0) r.2 (byte_at r.0 fh) refl in
      let signed : FitsSigned w64 (cast_signed w64 (from_be_bytes w64 r.0)) = sfits_to_z (record { fits = low }) in
      let fits : int_fits (cast_signed w64 (from_be_bytes w64 r.0)) ≡ true = of_mag (cast_signed w64 (from_be_bytes w64 r.0)) (signed.sfits) in
      subst (λ s. Only types (suc n) IntTy bytes s rest) (sym r.3)
      (record { shape = fits; is = r.1 ∙ ap (λ l. l ++ rest) (sym spelled); deep = omega arith; after = subst AreBytes (sym r.5) (bytes_drop 8 bytes h) })

  -- the length field is 4 bytes, and the text behind it is UTF-8
  only_text : (n : ℕ) (bytes : List ℕ) (p : ℕ) (s : Value) (rest : List ℕ) (q : ℕ) → AreBytes bytes → read_text bytes p ≡ Good s rest q → Only types (suc n) TextTy bytes s rest
  only_text n bytes p s rest q h e =
      let r = if_good (nat_le (4 + len) (length bytes)) _ p s rest q e in
      let u = if_good (is_utf8 text) _ p s rest q r.1 in
      let fits : 4 + len ≤ length bytes = leb-true (4 + len) (length bytes) r.0 in
      let long : length text ≡ len = length-take-le len (drop 4 bytes) (omega (arith, length-drop 4 bytes)) in
      let four : length (take 4 bytes) ≡ 4 = length-take-le 4 bytes (omega arith) in
      let spelled : to_be_bytes w32 (length text) ≡ take 4 bytes = ap (to_be_bytes w32) long ∙ be_bytes_4 (take 4 bytes) len four (byte_at (take 4 bytes) (bytes_take 4 bytes h)) refl in
      let same : TextV text ≡ s = cc (u.1) in
      let left : drop len (drop 4 bytes) ≡ rest = cc (u.1) in
      let whole_is : bytes ≡ (to_be_bytes w32 (length text) ++ text) ++ rest =
      sym (take-append-drop 4 bytes) ∙ ap₂ (λ a b. a ++ b) (sym spelled) (sym (take-append-drop len (drop 4 bytes)) ∙ ap (λ l. text ++ l) left)
      ∙ sym (append_assoc (to_be_bytes w32 (length text)) text rest) in
      subst (λ s. Only types (suc n) TextTy bytes s rest) same
      (record { shape = IsUtf8-from_is_utf8 text u.0; is = whole_is; deep = omega arith; after = subst AreBytes left (bytes_drop len (drop 4 bytes) (bytes_drop 4 bytes h)) })
    where
      len : ℕ
      len = from_be_bytes w32 (take 4 bytes)

      text : List ℕ
      text = take (from_be_bytes w32 (take 4 bytes)) (drop 4 bytes)

  only_bool : (n : ℕ) (bytes : List ℕ) (p : ℕ) (s : Value) (rest : List ℕ) (q : ℕ) → AreBytes bytes → read_bool bytes p ≡ Good s rest q → Only types (suc n) BoolTy bytes s rest
  only_bool n [] p s rest q h e = absurd (cc)
  only_bool n (zero ∷ bytes) p s rest q h e =
      let same : BoolV false ≡ s = cc in
      let left : bytes ≡ rest = cc in
      subst (λ s. Only types (suc n) BoolTy (zero ∷ bytes) s rest) same (record { shape = tt; is = ap (λ l. zero ∷ l) left; deep = omega arith; after = subst AreBytes left h.1 })
  only_bool n (suc zero ∷ bytes) p s rest q h e =
      let same : BoolV true ≡ s = cc in
      let left : bytes ≡ rest = cc in
      subst (λ s. Only types (suc n) BoolTy (suc zero ∷ bytes) s rest) same
      (record { shape = tt; is = ap (λ l. suc zero ∷ l) left; deep = omega arith; after = subst AreBytes left h.1 })
  only_bool n (suc (suc b) ∷ bytes) p s rest q h e = absurd (cc)

  only_digest : (n : ℕ) (t : Ty) (bytes : List ℕ) (p : ℕ) (s : Value) (rest : List ℕ) (q : ℕ) → AreBytes bytes → read_bytes 32 DigestV bytes p ≡ Good s rest q
      → Only types (suc n) (AuthTy t) bytes s rest
  only_digest n t bytes p s rest q h e =
      let r = front_good 32 DigestV bytes p s rest q e in
      subst (λ s. Only types (suc n) (AuthTy t) bytes s rest) (sym r.3) (record { shape = r.2; is = r.1; deep = omega arith; after = subst AreBytes (sym r.5) (bytes_drop 32 bytes h) })

  only_each : (n : ℕ) → ((t : Ty) (bytes : List ℕ) (p : ℕ) (s : Value) (rest : List ℕ) (q : ℕ) → AreBytes bytes → read_value types n t bytes p ≡ Good s rest q → Only types n t bytes s rest)
      → (ts : List Ty) (bytes : List ℕ) (p : ℕ) (vs : Values) (rest : List ℕ) (q : ℕ) → AreBytes bytes
      → read_each (read_value types n) ts bytes p ≡ Good vs rest q → OnlyEach types n ts bytes vs rest
  only_each n one [] bytes p vs rest q h e =
      let same : NoV ≡ vs = cc in
      let left : bytes ≡ rest = cc in
      subst (λ vs. OnlyEach types n [] bytes vs rest) same (record { shape = tt; is = left; deep = omega arith; after = subst AreBytes left h })
  only_each n one (t ∷ ts) bytes p vs rest q h e =
      let r = then_good (read_value types n t bytes p) _ vs rest q e in
      let v = one t bytes p r.0 r.1 r.2 h r.3 in
      let l = then_good (read_each (read_value types n) ts r.1 r.2) _ vs rest q r.4 in
      let w = only_each n one ts r.1 r.2 l.0 l.1 l.2 v.after l.3 in
      let same : AndV r.0 l.0 ≡ vs = cc (l.4) in
      let left : l.1 ≡ rest = cc (l.4) in
      subst (λ vs. OnlyEach types n (t ∷ ts) bytes vs rest) same
      (record { shape = (v.shape, w.shape); is = v.is ∙ ap (λ b. spelling r.0 ++ b) (w.is ∙ ap (λ b. spellings l.0 ++ b) left) ∙ sym (append_assoc (spelling r.0) (spellings l.0) rest); deep = omega (arith, v.deep, w.deep); after = subst AreBytes left w.after })

  only_con : (n number : ℕ)
      → ((t : Ty) (bytes : List ℕ) (p : ℕ) (s : Value) (rest : List ℕ) (q : ℕ) → AreBytes bytes → read_value types n t bytes p ≡ Good s rest q → Only types n t bytes s rest)
      → (bytes : List ℕ) (p : ℕ) (s : Value) (rest : List ℕ) (q : ℕ) → AreBytes bytes → read_con types (read_value types n) number bytes p ≡ Good s rest q
      → Only types (suc n) (NamedTy number) bytes s rest
  only_con n number one [] p s rest q h e = absurd (cc)
  only_con n number one (tag ∷ bytes) p s rest q h e = by (fields_at types number tag) refl e
    where
      by : (o : Option (List Ty)) → fields_at types number tag ≡ o → read_fields types (read_value types n) tag p o bytes (p + 1) ≡ Good s rest q
          → Only types (suc n) (NamedTy number) (tag ∷ bytes) s rest
      by None f e = absurd (cc)
      by (Some ts) f e =
          let r = then_good (read_each (read_value types n) ts bytes (p + 1)) _ s rest q e in
          let w = only_each n one ts bytes (p + 1) r.0 r.1 r.2 h.1 r.3 in
          let same : ConV tag r.0 ≡ s = cc (r.4) in
          let left : r.1 ≡ rest = cc (r.4) in
          subst (λ s. Only types (suc n) (NamedTy number) (tag ∷ bytes) s rest) same
          (record {
            shape = subst (λ o. OnFields o (λ ts. AreShallow types ts r.0)) (sym f) w.shape;
            is = ap (λ b. tag ∷ b) (w.is ∙ ap (λ b. spellings r.0 ++ b) left);
            deep = subst (λ o. 1 + depths types (unwrap_or o []) r.0 ≤ suc n) (sym f) (omega (arith, w.deep));
            after = subst AreBytes left w.after;
          })

  only_items : (n m : ℕ) (t : Ty)
      → ((t : Ty) (bytes : List ℕ) (p : ℕ) (s : Value) (rest : List ℕ) (q : ℕ) → AreBytes bytes → read_value types n t bytes p ≡ Good s rest q → Only types n t bytes s rest)
      → (bytes : List ℕ) (p : ℕ) (s : Value) (rest : List ℕ) (q : ℕ) → AreBytes bytes
      → then_read (read_each (read_value types n) (item_types m t) bytes p) (λ vs bytes place. Good (ItemsV vs) bytes place) ≡ Good s rest q
      → Only types (suc n) (VecTy m t) bytes s rest
  only_items n m t one bytes p s rest q h e =
      let r = then_good (read_each (read_value types n) (item_types m t) bytes p) _ s rest q e in
      let w = only_each n one (item_types m t) bytes p r.0 r.1 r.2 h r.3 in
      let same : ItemsV r.0 ≡ s = cc (r.4) in
      let left : r.1 ≡ rest = cc (r.4) in
      subst (λ s. Only types (suc n) (VecTy m t) bytes s rest) same
      (record { shape = w.shape; is = w.is ∙ ap (λ b. spellings r.0 ++ b) left; deep = omega (arith, w.deep); after = subst AreBytes left w.after })

  only : (n : ℕ) (t : Ty) (bytes : List ℕ) (p : ℕ) (s : Value) (rest : List ℕ) (q : ℕ) → AreBytes bytes → read_value types n t bytes p ≡ Good s rest q → Only types n t bytes s rest
  only zero t bytes p s rest q h e = absurd (cc)
  only (suc n) UnitTy bytes p s rest q h e =
      let same : UnitV ≡ s = cc in
      let left : bytes ≡ rest = cc in
      subst (λ s. Only types (suc n) UnitTy bytes s rest) same (record { shape = tt; is = left; deep = omega arith; after = subst AreBytes left h })
  only (suc n) BoolTy bytes p s rest q h e = only_bool n bytes p s rest q h e
  only (suc n) IntTy bytes p s rest q h e = only_int n bytes p s rest q h e
  only (suc n) TextTy bytes p s rest q h e = only_text n bytes p s rest q h e
  only (suc n) (PairTy a b) bytes p s rest q h e =
      let r = then_good (read_value types n a bytes p) _ s rest q e in
      let v = only n a bytes p r.0 r.1 r.2 h r.3 in
      let l = then_good (read_value types n b r.1 r.2) _ s rest q r.4 in
      let w = only n b r.1 r.2 l.0 l.1 l.2 v.after l.3 in
      let same : PairV r.0 l.0 ≡ s = cc (l.4) in
      let left : l.1 ≡ rest = cc (l.4) in
      subst (λ s. Only types (suc n) (PairTy a b) bytes s rest) same
      (record { shape = (v.shape, w.shape); is = v.is ∙ ap (λ b. spelling r.0 ++ b) (w.is ∙ ap (λ b. spelling l.0 ++ b) left) ∙ sym (append_assoc (spelling r.0) (spelling l.0) rest); deep = omega (arith, v.deep, w.deep); after = subst AreBytes left w.after })
  only (suc n) (NamedTy number) bytes p s rest q h e = only_con n number (only n) bytes p s rest q h e
  only (suc n) (VecTy m t) bytes p s rest q h e = only_items n m t (only n) bytes p s rest q h e
  only (suc n) (AuthTy t) bytes p s rest q h e = only_digest n t bytes p s rest q h e

  whole_good : (r : Read Value) (s : Value) (rest : List ℕ) (q : ℕ) → whole r ≡ Good s rest q → r ≡ Good s [] q
  whole_good (Good v [] p) s rest q e = cc
  whole_good (Good v (b ∷ more) p) s rest q e = absurd (cc)
  whole_good (BadAt o) s rest q e = absurd (cc)

  -- what is read was spelled
  pub read_spells : (limit : ℕ) (bytes : List ℕ) (t : Ty) (s : Value) (rest : List ℕ) (q : ℕ) → AreBytes bytes → read limit types t bytes ≡ Good s rest q → Spells limit types bytes t s
  read_spells limit bytes t s rest q h e = by (nat_lt limit (length bytes)) refl
    where
      by : (b : Bool) → nat_lt limit (length bytes) ≡ b → Spells limit types bytes t s
      by true f = let g : BadAt limit ≡ Good s rest q = sym (ap (λ b. if b then BadAt limit else whole (read_value types 512 t bytes 0)) f) ∙ e in absurd (cc (g))
      by false f =
          let g = whole_good (read_value types 512 t bytes 0) s rest q (sym (ap (λ b. if b then BadAt limit else whole (read_value types 512 t bytes 0)) f) ∙ e) in
          let o = only 512 t bytes 0 s [] q h g in
          let is : bytes ≡ spelling s = o.is ∙ append-nil (spelling s) in
          record { shape = o.shape; within = record { size_fits = omega (arith, ltb-false limit _ f, length_spelling types t s o.shape, ap length is); depth_fits = o.deep }; is = is }
