-- What was spelled is read back, where it is within the limits, and else refused.
use Rattle.std.proofs.Common.{◌≡◌, ◌⊎◌, inl, inr, ℕ, zero, suc, ◌+◌, ◌<◌, ◌≤◌, ◌^◌, Bool, true, false, List, [], ◌∷◌, ◌++◌, length, take, drop, ℤ, Option, Some, unwrap_or, nat_lt, nat_le, IsUtf8, if◌then◌else◌, refl, sym, ap, ap₂, ◌∙◌, subst, arith, append_assoc, append-nil, length-append, lit≤, ltb-true, ltb-false, le-leb, FitsSigned, Fits}
use Rattle.std.specs.Int.{w32, w64, cast_unsigned, cast_signed, to_be_bytes, from_be_bytes}
use Rattle.std.specs.Str.{is_utf8}
use Rattle.std.proofs.lemmas.Str.{is_utf8-from_IsUtf8}
use Rattle.std.proofs.lemmas.Nat.{from_be_bytes-to_be_bytes_4, from_be_bytes-to_be_bytes_8}
use Rattle.std.proofs.lemmas.Int.{to_z-of_z}
use Rattle.std.proofs.Math.Seq.{take-append_seam, drop-append_seam}
use Rattle.std.proofs.Math.Facts.{Fits-of_z}
use Rattle.core_terms.specs.Types.{Ty, UnitTy, BoolTy, IntTy, TextTy, PairTy, NamedTy, AuthTy, VecTy, Table, fields_at, item_types, OnFields}
use Rattle.core_terms.specs.Values.{IsShallow, AreShallow, Value, UnitV, BoolV, IntV, TextV, PairV, ConV, DigestV, ItemsV, Values, NoV, AndV, IsWithin, int_fits, size, sizes, depth, depths}
use Rattle.core_terms.specs.Spelling.{spelling, spellings, Spells}
use Rattle.core_terms.specs.Reading.{Read, Good, BadAt, then_read, read_bytes, read_text, read_each, read_fields, read_value, whole, read}
use Rattle.core_terms.proofs.Numbers.{mag_of}
use Rattle.core_terms.proofs.Fields.{on_fields}

-- n bytes are read as they stand
read_front : (make : List ℕ → Value) (xs rest : List ℕ) (n p : ℕ) → length xs ≡ n → read_bytes n make (xs ++ rest) p ≡ Good (make xs) rest (p + n)
read_front make xs rest n p e =
    let F : ℕ → Type 0 = λ n. read_bytes n make (xs ++ rest) p ≡ Good (make xs) rest (p + n) in
    let fits : length xs ≤ length (xs ++ rest) = omega (arith, length-append xs rest) in
    let at : F (length xs) =
    ap (λ b. if b then Good (make (take (length xs) (xs ++ rest))) (drop (length xs) (xs ++ rest)) (p + length xs) else BadAt p)
    (le-leb (length xs) (length (xs ++ rest)) fits) ∙ ap₂ (λ ys zs. Good (make ys) zs (p + length xs)) (take-append_seam xs rest) (drop-append_seam xs rest) in
    subst F e at

-- a text with its length is read back
read_text_back : (bytes rest : List ℕ) (p : ℕ) → IsUtf8 bytes → length bytes < 2 ^ 32
    → read_text ((to_be_bytes w32 (length bytes) ++ bytes) ++ rest) p ≡ Good (TextV bytes) rest (p + (4 + length bytes))
read_text_back bytes rest p u h =
    let F : ℕ → Type 0 = λ n. body n ≡ Good (TextV bytes) rest (p + (4 + length bytes)) in
    subst F (sym (from_be_bytes-to_be_bytes_4 (length bytes) h)) at
  where
    body : ℕ → Read Value
    body n =
        if nat_le (4 + n) (length ((to_be_bytes w32 (length bytes) ++ bytes) ++ rest)) then
        (if is_utf8 (take n (bytes ++ rest)) then Good (TextV (take n (bytes ++ rest))) (drop n (bytes ++ rest)) (p + (4 + n)) else BadAt p) else BadAt p

    fits : 4 + length bytes ≤ length ((to_be_bytes w32 (length bytes) ++ bytes) ++ rest)
    fits = omega (arith, length-append bytes rest)

    at : body (length bytes) ≡ Good (TextV bytes) rest (p + (4 + length bytes))
    at =
        ap (λ b. if b then (if is_utf8 (take (length bytes) (bytes ++ rest)) then Good (TextV (take (length bytes) (bytes ++ rest))) (drop (length bytes) (bytes ++ rest)) (p + (4 + length bytes)) else BadAt p) else BadAt p) (le-leb _ _ fits)
        ∙ ap₂ (λ xs ys. if is_utf8 xs then Good (TextV xs) ys (p + (4 + length bytes)) else BadAt p) (take-append_seam bytes rest) (drop-append_seam bytes rest)
        ∙ ap (λ b. if b then Good (TextV bytes) rest (p + (4 + length bytes)) else BadAt p) (is_utf8-from_IsUtf8 bytes u)

-- the integer that 8 bytes spell
int_back : (z : ℤ) → int_fits z ≡ true → cast_signed w64 (from_be_bytes w64 (to_be_bytes w64 (cast_unsigned w64 z))) ≡ z
int_back z e =
    let f : FitsSigned w64 z = record { sfits = mag_of z e } in
    let g : Fits w64 (cast_unsigned w64 z) = Fits-of_z f in
    ap (λ n. cast_signed w64 n) (from_be_bytes-to_be_bytes_8 (cast_unsigned w64 z) (g.fits)) ∙ to_z-of_z w64 z f

module _ (types : Table) where
  -- the size is the length of the spelling
  mutual
    pub length_spelling : (t : Ty) (s : Value) → IsShallow types t s → length (spelling s) ≡ size types t s
    length_spelling (AuthTy t) (DigestV bytes) h = h
    length_spelling UnitTy UnitV h = refl
    length_spelling BoolTy (BoolV b) h = refl
    length_spelling IntTy (IntV z) h = refl
    length_spelling TextTy (TextV bytes) h = length-append (to_be_bytes w32 (length bytes)) bytes
    length_spelling (PairTy a b) (PairV x y) h = length-append (spelling x) _ ∙ ap₂ (λ m n. m + n) (length_spelling a x h.0) (length_spelling b y h.1)
    length_spelling (NamedTy n) (ConV tag vs) h = let e = lengths_spelling (fields_at types n tag) vs h in omega arith
    length_spelling (VecTy n t) (ItemsV vs) h = lengths_spelling (Some (item_types n t)) vs h
    length_spelling t s h = elim h [ ]

    lengths_spelling : (ts : Option (List Ty)) (vs : Values) → OnFields ts (λ ts. AreShallow types ts vs) → length (spellings vs) ≡ sizes types (unwrap_or ts []) vs
    lengths_spelling (Some []) NoV h = refl
    lengths_spelling (Some (t ∷ ts)) (AndV v vs) h = length-append (spelling v) _ ∙ ap₂ (λ m n. m + n) (length_spelling t v h.0) (lengths_spelling (Some ts) vs h.1)
    lengths_spelling ts vs h = elim h [ ]

  depth_pos : (t : Ty) (v : Value) → 1 ≤ depth types t v
  depth_pos (PairTy a b) (PairV x y) = omega arith
  depth_pos (NamedTy n) (ConV tag vs) = omega arith
  depth_pos (VecTy n t) (ItemsV vs) = omega arith
  depth_pos t v = lit≤ tt

  -- what is read at n levels where the spelling of v stands
  abbrev ReadsAt : ℕ → Ty → Value → List ℕ → ℕ → Type 0
  ReadsAt n t v rest p =
      ((depth types t v ≤ n) × ((q : ℕ) × (read_value types n t (spelling v ++ rest) p ≡ Good v rest q)))
      ⊎ ((n < depth types t v) × ((o : ℕ) × (read_value types n t (spelling v ++ rest) p ≡ BadAt o)))

  -- and where the spellings of a constructor's fields stand
  abbrev ReadsEach : ℕ → List Ty → Values → List ℕ → ℕ → Type 0
  ReadsEach n ts vs rest p =
      ((depths types ts vs ≤ n) × ((q : ℕ) × (read_each (read_value types n) ts (spellings vs ++ rest) p ≡ Good vs rest q)))
      ⊎ ((n < depths types ts vs) × ((o : ℕ) × (read_each (read_value types n) ts (spellings vs ++ rest) p ≡ BadAt o)))

  -- the two parts of a pair, one after the other
  reads_pair : (n : ℕ) (a b : Ty) (x y : Value) (rest : List ℕ) (p : ℕ) → ReadsAt n a x (spelling y ++ rest) p → ((q : ℕ) → ReadsAt n b y rest q)
      → ReadsAt (suc n) (PairTy a b) (PairV x y) rest p
  reads_pair n a b x y rest p (inr h) hy =
      inr (omega (arith, h.0), (h.1.0, ap (λ bs. read_value types (suc n) (PairTy a b) bs p) (append_assoc (spelling x) (spelling y) rest) ∙ ap (λ r. then_read r (λ u bytes place. then_read (read_value types n b bytes place) (λ v bytes place. Good (PairV u v) bytes place))) h.1.1))
  reads_pair n a b x y rest p (inl h) hy = by (hy h.1.0)
    where
      go : Value → List ℕ → ℕ → Read Value
      go u bytes place = then_read (read_value types n b bytes place) (λ v bytes place. Good (PairV u v) bytes place)

      first : read_value types (suc n) (PairTy a b) ((spelling x ++ spelling y) ++ rest) p ≡ then_read (read_value types n b (spelling y ++ rest) h.1.0) (λ v bytes place. Good (PairV x v) bytes place)
      first = ap (λ bs. read_value types (suc n) (PairTy a b) bs p) (append_assoc (spelling x) (spelling y) rest) ∙ ap (λ r. then_read r go) h.1.1

      by : ReadsAt n b y rest h.1.0 → ReadsAt (suc n) (PairTy a b) (PairV x y) rest p
      by (inr j) = inr (omega (arith, j.0), (j.1.0, first ∙ ap (λ r. then_read r (λ v bytes place. Good (PairV x v) bytes place)) j.1.1))
      by (inl j) = inl (omega (arith, h.0, j.0), (j.1.0, first ∙ ap (λ r. then_read r (λ v bytes place. Good (PairV x v) bytes place)) j.1.1))

  module _ (limit : ℕ) (limit_fits : limit < 2 ^ 32) where
    -- fields, one after another
    reads_each : (n : ℕ) → ((t : Ty) (v : Value) (rest : List ℕ) (p : ℕ) → IsShallow types t v → size types t v ≤ limit → ReadsAt n t v rest p)
        → (ts : List Ty) (vs : Values) (rest : List ℕ) (p : ℕ) → AreShallow types ts vs → sizes types ts vs ≤ limit → ReadsEach n ts vs rest p
    reads_each n one [] NoV rest p h s = inl (omega arith, (p, refl))
    reads_each n one (t ∷ ts) NoV rest p h s = elim h [ ]
    reads_each n one [] (AndV v vs) rest p h s = elim h [ ]
    reads_each n one (t ∷ ts) (AndV v vs) rest p h s = by (λ q. reads_each n one ts vs rest q h.1 (omega arith)) (one t v (spellings vs ++ rest) p h.0 (omega arith))
      where
        go : Value → List ℕ → ℕ → Read Values
        go v bytes place = then_read (read_each (read_value types n) ts bytes place) (λ vs bytes place. Good (AndV v vs) bytes place)

        flat : read_each (read_value types n) (t ∷ ts) ((spelling v ++ spellings vs) ++ rest) p
            ≡ then_read (read_value types n t (spelling v ++ (spellings vs ++ rest)) p) (λ v bytes place. then_read (read_each (read_value types n) ts bytes place) (λ vs bytes place. Good (AndV v vs) bytes place))
        flat = ap (λ bs. read_each (read_value types n) (t ∷ ts) bs p) (append_assoc (spelling v) (spellings vs) rest)

        by : ((q : ℕ) → ReadsEach n ts vs rest q) → ReadsAt n t v (spellings vs ++ rest) p → ReadsEach n (t ∷ ts) (AndV v vs) rest p
        by later (inr j) = inr (omega (arith, j.0), (j.1.0, flat ∙ ap (λ r. then_read r go) j.1.1))
        by later (inl j) = last (later j.1.0)
          where
            last : ReadsEach n ts vs rest j.1.0 → ReadsEach n (t ∷ ts) (AndV v vs) rest p
            last (inr l) = inr (omega (arith, l.0), (l.1.0, flat ∙ ap (λ r. then_read r go) j.1.1 ∙ ap (λ r. then_read r (λ vs bytes place. Good (AndV v vs) bytes place)) l.1.1))
            last (inl l) = inl (omega (arith, j.0, l.0), (l.1.0, flat ∙ ap (λ r. then_read r go) j.1.1 ∙ ap (λ r. then_read r (λ vs bytes place. Good (AndV v vs) bytes place)) l.1.1))

    reads_con : (n number tag : ℕ) (ts : List Ty) (vs : Values) (rest : List ℕ) (p : ℕ) → fields_at types number tag ≡ Some ts → ReadsEach n ts vs rest (p + 1)
        → ReadsAt (suc n) (NamedTy number) (ConV tag vs) rest p
    reads_con n number tag ts vs rest p e h = subst G (sym e) (by h)
      where
        -- the goal, where the constructor's field types are o
        G : Option (List Ty) → Type 0
        G o = ((1 + depths types (unwrap_or o []) vs ≤ suc n) × ((q : ℕ) × (read_fields types (read_value types n) tag p o (spellings vs ++ rest) (p + 1) ≡ Good (ConV tag vs) rest q)))
            ⊎ ((suc n < 1 + depths types (unwrap_or o []) vs) × ((q : ℕ) × (read_fields types (read_value types n) tag p o (spellings vs ++ rest) (p + 1) ≡ BadAt q)))

        go : Values → List ℕ → ℕ → Read Value
        go vs bytes place = Good (ConV tag vs) bytes place

        by : ReadsEach n ts vs rest (p + 1) → G (Some ts)
        by (inl h) = inl (omega (arith, h.0), (h.1.0, ap (λ r. then_read r go) h.1.1))
        by (inr h) = inr (omega (arith, h.0), (h.1.0, ap (λ r. then_read r go) h.1.1))

    reads_items : (n m : ℕ) (t : Ty) (vs : Values) (rest : List ℕ) (p : ℕ) → ReadsEach n (item_types m t) vs rest p → ReadsAt (suc n) (VecTy m t) (ItemsV vs) rest p
    reads_items n m t vs rest p h = by h
      where
        go : Values → List ℕ → ℕ → Read Value
        go vs bytes place = Good (ItemsV vs) bytes place

        by : ReadsEach n (item_types m t) vs rest p → ReadsAt (suc n) (VecTy m t) (ItemsV vs) rest p
        by (inl h) = inl (omega (arith, h.0), (h.1.0, ap (λ r. then_read r go) h.1.1))
        by (inr h) = inr (omega (arith, h.0), (h.1.0, ap (λ r. then_read r go) h.1.1))

    pub reads_at : (n : ℕ) (t : Ty) (v : Value) (rest : List ℕ) (p : ℕ) → IsShallow types t v → size types t v ≤ limit → ReadsAt n t v rest p
    reads_at zero t v rest p h s = inr (omega (arith, depth_pos t v), (p, refl))
    reads_at (suc n) UnitTy UnitV rest p h s = inl (omega arith, (p, refl))
    reads_at (suc n) BoolTy (BoolV true) rest p h s = inl (omega arith, (p + 1, refl))
    reads_at (suc n) BoolTy (BoolV false) rest p h s = inl (omega arith, (p + 1, refl))
    reads_at (suc n) IntTy (IntV z) rest p h s =
        inl (omega arith, (p + 8, read_front (λ bs. IntV (cast_signed w64 (from_be_bytes w64 bs))) (to_be_bytes w64 (cast_unsigned w64 z)) rest 8 p refl ∙ ap (λ z. Good (IntV z) rest (p + 8)) (int_back z h)))
    reads_at (suc n) TextTy (TextV bytes) rest p h s = inl (omega arith, (p + (4 + length bytes), read_text_back bytes rest p h (omega arith)))
    reads_at (suc n) (PairTy a b) (PairV x y) rest p h s = reads_pair n a b x y rest p (reads_at n a x _ p h.0 (omega arith)) (λ q. reads_at n b y rest q h.1 (omega arith))
    reads_at (suc n) (NamedTy number) (ConV tag vs) rest p h s =
        let r = on_fields (fields_at types number tag) (λ ts. AreShallow types ts vs) h in
        let s' : 1 + sizes types r.0 vs ≤ limit = subst (λ o. 1 + sizes types (unwrap_or o []) vs ≤ limit) r.1 s in
        reads_con n number tag r.0 vs rest p r.1 (reads_each n (reads_at n) r.0 vs rest (p + 1) r.2 (omega arith))
    reads_at (suc n) (VecTy m t) (ItemsV vs) rest p h s = reads_items n m t vs rest p (reads_each n (reads_at n) (item_types m t) vs rest p h s)
    reads_at (suc n) (AuthTy t) (DigestV bytes) rest p h s = inl (omega arith, (p + 32, read_front DigestV bytes rest 32 p h))
    reads_at (suc n) t v rest p h s = elim h [ ]

    -- a whole string that spells a value, and one that would but for the limits
    abbrev pub ReadsWhole : Ty → Value → Type 0
    ReadsWhole t s =
        (IsWithin limit types t s × ((p : ℕ) × (read limit types t (spelling s) ≡ Good s [] p)))
        ⊎ ((IsWithin limit types t s → ⊥) × ((o : ℕ) × (read limit types t (spelling s) ≡ BadAt o)))

    pub reads_whole : (t : Ty) (s : Value) → IsShallow types t s → ReadsWhole t s
    reads_whole t s h = by (nat_lt limit (length (spelling s))) refl
      where
        start : nat_lt limit (length (spelling s)) ≡ false → read limit types t (spelling s) ≡ whole (read_value types 512 t (spelling s ++ []) 0)
        start e = ap (λ b. if b then BadAt limit else whole (read_value types 512 t (spelling s) 0)) e ∙ ap (λ bs. whole (read_value types 512 t bs 0)) (sym (append-nil (spelling s)))

        rest : nat_lt limit (length (spelling s)) ≡ false → size types t s ≤ limit → ReadsAt 512 t s [] 0 → ReadsWhole t s
        rest e small (inl j) = inl (record { size_fits = small; depth_fits = j.0 }, (j.1.0, start e ∙ ap (whole) j.1.1))
        rest e small (inr j) = inr ((λ within. absurd (omega (arith, j.0, within.depth_fits))), (j.1.0, start e ∙ ap (whole) j.1.1))

        by : (b : Bool) → nat_lt limit (length (spelling s)) ≡ b → ReadsWhole t s
        by true e =
            let big = ltb-true limit _ e in
            inr ((λ within. absurd (omega (arith, length_spelling t s h, within.size_fits))), (limit, ap (λ b. if b then BadAt limit else whole (read_value types 512 t (spelling s) 0)) e))
        by false e =
            let small : size types t s ≤ limit = omega (arith, ltb-false limit _ e, length_spelling t s h) in rest e small (reads_at 512 t s [] 0 h small)

    -- what is spelled is read
    pub spells_read : (bytes : List ℕ) (t : Ty) (s : Value) → Spells limit types bytes t s → (p : ℕ) × (read limit types t bytes ≡ Good s [] p)
    spells_read bytes t s h = by (reads_whole t s h.shape)
      where
        by : ReadsWhole t s → (p : ℕ) × (read limit types t bytes ≡ Good s [] p)
        by (inl j) = (j.1.0, ap (read limit types t) h.is ∙ j.1.1)
        by (inr j) = absurd (j.0 h.within)

    -- one string spells at most one value at a type
    pub spells_one : (bytes : List ℕ) (t : Ty) (s s' : Value) → Spells limit types bytes t s → Spells limit types bytes t s' → s ≡ s'
    spells_one bytes t s s' h j =
        let a = spells_read bytes t s h in
        let b = spells_read bytes t s' j in
        let e = sym a.1 ∙ b.1 in cc (e)

    -- no spelling at a type is a proper prefix of another
    pub spells_prefix : (bytes more : List ℕ) (t : Ty) (s s' : Value) → Spells limit types bytes t s → Spells limit types (bytes ++ more) t s' → more ≡ []
    spells_prefix bytes more t s s' h j = by (reads_at 512 t s more 0 h.shape h.within.size_fits) (reads_at 512 t s' [] 0 j.shape j.within.size_fits)
      where
        same : spelling s ++ more ≡ spelling s' ++ []
        same = ap (λ b. b ++ more) (sym h.is) ∙ j.is ∙ sym (append-nil (spelling s'))

        by : ReadsAt 512 t s more 0 → ReadsAt 512 t s' [] 0 → more ≡ []
        by (inl a) (inl b) = let e = sym a.1.1 ∙ ap (λ bs. read_value types 512 t bs 0) same ∙ b.1.1 in cc (e)
        by (inl a) (inr b) = absurd (omega (arith, b.0, j.within.depth_fits))
        by (inr a) b = absurd (omega (arith, a.0, h.within.depth_fits))
