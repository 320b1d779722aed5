-- What is known of every value in hand of an ideal run.
use Rattle.std.proofs.Common.{◌≡◌, ℕ, zero, suc, ◌+◌, ◌≤◌, ◌<◌, Bool, true, List, [], ◌∷◌, ◌++◌, length, ℤ, Some, unwrap_or, slice_get, IsUtf8, refl, sym, ap, subst, arith, lit≤}
use Rattle.core_terms.proofs.Fields.{on_fields}
use Rattle.core_terms.specs.Types.{Ty, UnitTy, BoolTy, IntTy, TextTy, PairTy, NamedTy, AuthTy, VecTy, Table, fields_at, item_types, OnFields}
use Rattle.core_terms.specs.Values.{Value, UnitV, BoolV, IntV, TextV, PairV, ConV, ItemsV, Values, NoV, AndV, IsIdeal, AreIdeal, int_fits, size, sizes, depth, depths, AuthWithin, AuthWithinAll}
use Rattle.core_terms.specs.Formats.{Hash, IsFormat, depth_limit}
use Rattle.core_terms.specs.Terms.{Program}
use Rattle.core_terms.specs.Projection.{projection, projections, Fits, AllFit}
use Rattle.ideal_meaning.specs.Run.{local, join, first_in, second_in, int_in, text_in, repeated, replaced}

-- the parts of an ideal value of a known type
module _ (types : Table) where
  pub int_fits_in : (v : Value) → IsIdeal types IntTy v → int_fits (int_in v) ≡ true
  int_fits_in (IntV z) h = h
  int_fits_in _ h = elim h [ ]

  pub utf8_in : (v : Value) → IsIdeal types TextTy v → IsUtf8 (text_in v)
  utf8_in (TextV bytes) h = h
  utf8_in _ h = elim h [ ]

  pub length_in : (v : Value) → IsIdeal types TextTy v → size types TextTy v ≡ 4 + length (text_in v)
  length_in (TextV bytes) h = refl
  length_in _ h = elim h [ ]

  at_pair : (Q : Value → Type 0) (a b : Ty) (v : Value) → IsIdeal types (PairTy a b) v → ((x y : Value) → IsIdeal types a x → IsIdeal types b y → Q (PairV x y)) → Q v
  at_pair Q a b (PairV x y) h f = f x y h.0 h.1
  at_pair Q a b _ h f = elim h [ ]

  pub first_projection : (hash : Hash) (P : Program) (a b : Ty) (v : Value) → IsIdeal types (PairTy a b) v → first_in (projection hash P (PairTy a b) v) ≡ projection hash P a (first_in v)
  first_projection hash P a b (PairV x y) h = refl
  first_projection hash P a b _ h = elim h [ ]

  pub second_projection : (hash : Hash) (P : Program) (a b : Ty) (v : Value) → IsIdeal types (PairTy a b) v → second_in (projection hash P (PairTy a b) v) ≡ projection hash P b (second_in v)
  second_projection hash P a b (PairV x y) h = refl
  second_projection hash P a b _ h = elim h [ ]

  pub at_con : (Q : Value → Type 0) (n : ℕ) (v : Value) → IsIdeal types (NamedTy n) v
      → ((tag : ℕ) (vs : Values) (ts : List Ty) → fields_at types n tag ≡ Some ts → AreIdeal types ts vs → Q (ConV tag vs)) → Q v
  at_con Q n (ConV tag vs) h f =
      let r = on_fields (fields_at types n tag) (λ ts. AreIdeal types ts vs) h in f tag vs r.0 r.1 r.2
  at_con Q n _ h f = elim h [ ]

  pub at_int : (Q : Value → Type 0) (v : Value) → IsIdeal types IntTy v → ((z : ℤ) → Q (IntV z)) → Q v
  at_int Q (IntV z) h f = f z
  at_int Q _ h f = elim h [ ]

  pub at_items : (Q : Value → Type 0) (n : ℕ) (t : Ty) (v : Value) → IsIdeal types (VecTy n t) v → ((vs : Values) → AreIdeal types (item_types n t) vs → Q (ItemsV vs)) → Q v
  at_items Q n t (ItemsV vs) h f = f vs h
  at_items Q n t _ h f = elim h [ ]

-- each element of an array has its type
pub item_type_at : (n i : ℕ) (t : Ty) → i < n → slice_get (item_types n t) i ≡ Some t
item_type_at zero i t h = absurd (omega arith)
item_type_at (suc n) zero t h = refl
item_type_at (suc n) (suc i) t h = item_type_at n i t (omega arith)

module _ (P : Program) (Deep : Type 0) where
  -- a value in hand: ideal, within the limits, and, under the premise Deep, with all that is authenticated in it within them
  pub record IsHeld (t : Ty) (v : Value) : Type 0 where
    pub ideal : IsIdeal P.types t v
    pub within : Fits P t v
    pub deep : Deep → AuthWithin P.format.limit P.types t v

  abbrev pub AreHeld : List Ty → Values → Type 0
  AreHeld [] NoV = Unit {0}
  AreHeld (t ∷ ts) NoV = ⊥
  AreHeld [] (AndV v vs) = ⊥
  AreHeld (t ∷ ts) (AndV v vs) = IsHeld t v × AreHeld ts vs

  -- what is known of each, of all
  ideals_of : (ts : List Ty) (vs : Values) → AreHeld ts vs → AreIdeal P.types ts vs
  ideals_of [] NoV h = tt
  ideals_of (t ∷ ts) NoV h = elim h [ ]
  ideals_of [] (AndV v vs) h = elim h [ ]
  ideals_of (t ∷ ts) (AndV v vs) h = (h.0.ideal, ideals_of ts vs h.1)

  deeps_of : (ts : List Ty) (vs : Values) → AreHeld ts vs → Deep → AuthWithinAll P.format.limit P.types ts vs
  deeps_of [] NoV h l = tt
  deeps_of (t ∷ ts) NoV h l = tt
  deeps_of [] (AndV v vs) h l = tt
  deeps_of (t ∷ ts) (AndV v vs) h l = (h.0.deep l, deeps_of ts vs h.1 l)

  -- fields of a value in hand, and the arguments of a call from outside
  held_fields : (ts : List Ty) (vs : Values) → AreIdeal P.types ts vs → sizes P.types ts vs ≤ P.format.limit → depths P.types ts vs ≤ depth_limit → (Deep → AuthWithinAll P.format.limit P.types ts vs) → AreHeld ts vs
  held_fields [] NoV h s d l = tt
  held_fields (t ∷ ts) NoV h s d l = elim h [ ]
  held_fields [] (AndV v vs) h s d l = elim h [ ]
  held_fields (t ∷ ts) (AndV v vs) h s d l = (
    record { ideal = h.0; within = record { size_fits = omega arith; depth_fits = omega arith }; deep = λ p. (l p).0 },
    held_fields ts vs h.1 (omega arith) (omega arith) (λ p. (l p).1),
  )

  pub held_inputs : (ts : List Ty) (vs : Values) → AreIdeal P.types ts vs → AllFit P ts vs → (Deep → AuthWithinAll P.format.limit P.types ts vs) → AreHeld ts vs
  held_inputs [] NoV h w l = tt
  held_inputs (t ∷ ts) NoV h w l = elim h [ ]
  held_inputs [] (AndV v vs) h w l = elim h [ ]
  held_inputs (t ∷ ts) (AndV v vs) h w l =
      (record { ideal = h.0; within = w.0; deep = λ p. (l p).0 }, held_inputs ts vs h.1 w.1 (λ p. (l p).1))

  -- locals, and their projections
  pub held_local : (ts : List Ty) (vs : Values) (i : ℕ) (t : Ty) → AreHeld ts vs → slice_get ts i ≡ Some t → IsHeld t (local vs i)
  held_local [] vs i t h e = cc
  held_local (u ∷ ts) NoV i t h e = elim h [ ]
  held_local (u ∷ ts) (AndV v vs) zero t h e = let e' : u ≡ t = cc in subst (λ t. IsHeld t v) e' h.0
  held_local (u ∷ ts) (AndV v vs) (suc i) t h e = held_local ts vs i t h.1 e

  pub local_projection : (hash : Hash) (ts : List Ty) (vs : Values) (i : ℕ) (t : Ty) → AreHeld ts vs → slice_get ts i ≡ Some t → local (projections hash P ts vs) i ≡ projection hash P t (local vs i)
  local_projection hash [] vs i t h e = cc
  local_projection hash (u ∷ ts) NoV i t h e = elim h [ ]
  local_projection hash (u ∷ ts) (AndV v vs) zero t h e = let e' : u ≡ t = cc in ap (λ t. projection hash P t v) e'
  local_projection hash (u ∷ ts) (AndV v vs) (suc i) t h e = local_projection hash ts vs i t h.1 e

  pub held_join : (ts us : List Ty) (vs ws : Values) → AreHeld ts vs → AreHeld us ws → AreHeld (ts ++ us) (join vs ws)
  held_join [] us NoV ws h j = j
  held_join (t ∷ ts) us NoV ws h j = elim h [ ]
  held_join [] us (AndV v vs) ws h j = elim h [ ]
  held_join (t ∷ ts) us (AndV v vs) ws h j = (h.0, held_join ts us vs ws h.1 j)

  pub join_projection : (hash : Hash) (ts us : List Ty) (vs ws : Values) → AreHeld ts vs → projections hash P (ts ++ us) (join vs ws) ≡ join (projections hash P ts vs) (projections hash P us ws)
  join_projection hash [] us NoV ws h = refl
  join_projection hash (t ∷ ts) us NoV ws h = elim h [ ]
  join_projection hash [] us (AndV v vs) ws h = elim h [ ]
  join_projection hash (t ∷ ts) us (AndV v vs) ws h = ap (λ r. AndV (projection hash P t v) r) (join_projection hash ts us vs ws h.1)

  -- pairs
  pub held_pair : (a b : Ty) (x y : Value) → IsHeld a x → IsHeld b y → size P.types (PairTy a b) (PairV x y) ≤ P.format.limit → depth P.types (PairTy a b) (PairV x y) ≤ depth_limit → IsHeld (PairTy a b) (PairV x y)
  held_pair a b x y h j s d =
      record { ideal = (h.ideal, j.ideal); within = record { size_fits = s; depth_fits = d }; deep = λ l. (h.deep l, j.deep l) }

  pub held_first : (a b : Ty) (v : Value) → IsHeld (PairTy a b) v → IsHeld a (first_in v)
  held_first a b v h =
      at_pair P.types (λ v. IsHeld (PairTy a b) v → IsHeld a (first_in v)) a b v h.ideal (λ x y i j h.
      record { ideal = i; within = record { size_fits = omega (arith, h.within.size_fits); depth_fits = omega (arith, h.within.depth_fits) }; deep = λ l. (h.deep l).0 }) h

  pub held_second : (a b : Ty) (v : Value) → IsHeld (PairTy a b) v → IsHeld b (second_in v)
  held_second a b v h =
      at_pair P.types (λ v. IsHeld (PairTy a b) v → IsHeld b (second_in v)) a b v h.ideal (λ x y i j h.
      record { ideal = j; within = record { size_fits = omega (arith, h.within.size_fits); depth_fits = omega (arith, h.within.depth_fits) }; deep = λ l. (h.deep l).1 }) h

  -- constructor values
  pub held_con : (n tag : ℕ) (ts : List Ty) (vs : Values) → fields_at P.types n tag ≡ Some ts → AreHeld ts vs → size P.types (NamedTy n) (ConV tag vs) ≤ P.format.limit
      → depth P.types (NamedTy n) (ConV tag vs) ≤ depth_limit → IsHeld (NamedTy n) (ConV tag vs)
  held_con n tag ts vs e h s d =
      record {
        ideal = subst (λ o. OnFields o (λ ts. AreIdeal P.types ts vs)) (sym e) (ideals_of ts vs h);
        within = record { size_fits = s; depth_fits = d };
        deep = λ l. subst (λ o. OnFields o (λ ts. AuthWithinAll P.format.limit P.types ts vs)) (sym e) (deeps_of ts vs h l);
      }

  pub held_parts : (n tag : ℕ) (ts : List Ty) (vs : Values) → fields_at P.types n tag ≡ Some ts → AreIdeal P.types ts vs → IsHeld (NamedTy n) (ConV tag vs) → AreHeld ts vs
  held_parts n tag ts vs e i h =
      let s : 1 + sizes P.types ts vs ≤ P.format.limit = subst (λ o. 1 + sizes P.types (unwrap_or o []) vs ≤ P.format.limit) e h.within.size_fits in
      let d : 1 + depths P.types ts vs ≤ depth_limit = subst (λ o. 1 + depths P.types (unwrap_or o []) vs ≤ depth_limit) e h.within.depth_fits in
      held_fields ts vs i (omega arith) (omega arith) (λ l. subst (λ o. OnFields o (λ ts. AuthWithinAll P.format.limit P.types ts vs)) e (h.deep l))

  -- arrays
  pub held_items : (n : ℕ) (t : Ty) (vs : Values) → AreHeld (item_types n t) vs → size P.types (VecTy n t) (ItemsV vs) ≤ P.format.limit → depth P.types (VecTy n t) (ItemsV vs) ≤ depth_limit → IsHeld (VecTy n t) (ItemsV vs)
  held_items n t vs h s d =
      record { ideal = ideals_of (item_types n t) vs h; within = record { size_fits = s; depth_fits = d }; deep = λ l. deeps_of (item_types n t) vs h l }

  pub held_elements : (n : ℕ) (t : Ty) (vs : Values) → AreIdeal P.types (item_types n t) vs → IsHeld (VecTy n t) (ItemsV vs) → AreHeld (item_types n t) vs
  held_elements n t vs i h =
      let s : sizes P.types (item_types n t) vs ≤ P.format.limit = h.within.size_fits in
      let d : 1 + depths P.types (item_types n t) vs ≤ depth_limit = h.within.depth_fits in
      held_fields (item_types n t) vs i s (omega arith) h.deep

  pub held_repeated : (n : ℕ) (t : Ty) (v : Value) → IsHeld t v → AreHeld (item_types n t) (repeated n v)
  held_repeated zero t v h = tt
  held_repeated (suc n) t v h = (h, held_repeated n t v h)

  pub held_replaced : (n i : ℕ) (t : Ty) (vs : Values) (u : Value) → AreHeld (item_types n t) vs → IsHeld t u → AreHeld (item_types n t) (replaced vs i u)
  held_replaced zero i t NoV u h j = tt
  held_replaced zero i t (AndV v vs) u h j = elim h [ ]
  held_replaced (suc n) i t NoV u h j = elim h [ ]
  held_replaced (suc n) zero t (AndV v vs) u h j = (j, h.1)
  held_replaced (suc n) (suc i) t (AndV v vs) u h j = (h.0, held_replaced n i t vs u h.1 j)

  pub repeated_projection : (hash : Hash) (n : ℕ) (t : Ty) (v : Value) → repeated n (projection hash P t v) ≡ projections hash P (item_types n t) (repeated n v)
  repeated_projection hash zero t v = refl
  repeated_projection hash (suc n) t v = ap (λ r. AndV (projection hash P t v) r) (repeated_projection hash n t v)

  pub replaced_projection : (hash : Hash) (n i : ℕ) (t : Ty) (vs : Values) (u : Value) → AreHeld (item_types n t) vs
      → replaced (projections hash P (item_types n t) vs) i (projection hash P t u) ≡ projections hash P (item_types n t) (replaced vs i u)
  replaced_projection hash zero i t NoV u h = refl
  replaced_projection hash zero i t (AndV v vs) u h = elim h [ ]
  replaced_projection hash (suc n) i t NoV u h = elim h [ ]
  replaced_projection hash (suc n) zero t (AndV v vs) u h = refl
  replaced_projection hash (suc n) (suc i) t (AndV v vs) u h = ap (λ r. AndV (projection hash P t v) r) (replaced_projection hash n i t vs u h.1)

module _ (P : Program) (format : IsFormat P.format) (Deep : Type 0) where
  -- values without parts, and what is authenticated
  pub held_unit : IsHeld P Deep UnitTy UnitV
  held_unit = record { ideal = tt; within = record { size_fits = omega arith; depth_fits = lit≤ tt }; deep = λ l. tt }

  pub held_bool : (b : Bool) → IsHeld P Deep BoolTy (BoolV b)
  held_bool b = record { ideal = tt; within = record { size_fits = omega (arith, format.limit_holds); depth_fits = lit≤ tt }; deep = λ l. tt }

  pub held_int : (z : ℤ) → int_fits z ≡ true → IsHeld P Deep IntTy (IntV z)
  held_int z e = record { ideal = e; within = record { size_fits = omega (arith, format.limit_holds); depth_fits = lit≤ tt }; deep = λ l. tt }

  pub held_text : (bytes : List ℕ) → IsUtf8 bytes → 4 + length bytes ≤ P.format.limit → IsHeld P Deep TextTy (TextV bytes)
  held_text bytes u n = record { ideal = u; within = record { size_fits = n; depth_fits = lit≤ tt }; deep = λ l. tt }

  pub held_auth : (t : Ty) (v : Value) → IsHeld P Deep t v → IsHeld P Deep (AuthTy t) v
  held_auth t v h =
      record { ideal = h.ideal; within = record { size_fits = omega (arith, format.limit_holds); depth_fits = lit≤ tt }; deep = λ l. (h.within, h.deep l) }
