-- The topmost operands, by their types.
use Rattle.std.proofs.Common.{◌≡◌, ℕ, suc, List, [], ◌∷◌, ◌++◌, length, reverse, nat_lt, refl, ap, ◌∙◌, subst, true, false}
use Rattle.std.proofs.lemmas.List.{reverse-append}
use Rattle.core_terms.specs.Types.{Ty, Table, PairTy, IntTy, BoolTy, TextTy, VecTy, is_length}
use Rattle.core_terms.specs.Values.{Value, Values, NoV, AndV, size, depth}
use Rattle.core_terms.specs.Formats.{depth_limit}
use Rattle.core_terms.specs.declared.term.Arith.{Arith}
use Rattle.core_terms.specs.declared.term.Compare.{Compare}
use Rattle.core_terms.specs.declared.term.TextCompare.{TextCompare}
use Rattle.ideal_meaning.specs.Run.{Gives, Ends, Traps, TooBig, TooDeep, limited}
use Rattle.core_terms.specs.Instructions.{Pair, Fst, Snd, ArithOp, CompareOp, TextCompareOp, Cat, Len, Not, VecFill, VecGet, VecPut}
use Rattle.core_terms.specs.Bodies.{Body}
use Rattle.core_terms.specs.Accepted.{Fits}
use Rattle.value_store.specs.Nodes.{Node}
use Rattle.value_store.specs.Standing.{Kind}
use Rattle.mode_vm.specs.Operands.{AllHeld, IsHeld}
use Rattle.mode_vm.specs.declared.operand.Operand.{Operand}

module _ (kind : Kind) (types : Table) (nodes : List Node) where
  -- one operand on these
  pub record One (first : Operand) (rs : List Operand) (t : Ty) (ts : List Ty) (us : Values) : Type 0 where
    pub x : Value
    pub below : Values
    pub is : us ≡ AndV x below
    pub stands : IsHeld kind types nodes first t x
    pub rest : AllHeld kind types nodes rs ts below

  one_of : (first : Operand) (rs : List Operand) (t : Ty) (ts : List Ty) (us : Values) → AllHeld kind types nodes (first ∷ rs) (t ∷ ts) us → One first rs t ts us
  one_of first rs t ts (AndV x us) h = record { x = x; below = us; is = refl; stands = h.0; rest = h.1 }
  one_of first rs t ts NoV h = elim h [ ]

  pub one_popped : (items last : List Operand) (first : Operand) (t : Ty) (ts : List Ty) (us : Values) → items ≡ last ++ first ∷ []
      → AllHeld kind types nodes (reverse items) (t ∷ ts) us → One first (reverse last) t ts us
  one_popped items last first t ts us e h =
      let r : reverse items ≡ first ∷ reverse last = ap reverse e ∙ reverse-append last (first ∷ []) in
      one_of first (reverse last) t ts us (subst (λ l. AllHeld kind types nodes l (t ∷ ts) us) r h)

  -- two operands on these
  pub record Two (first second : Operand) (rs : List Operand) (a b : Ty) (ts : List Ty) (us : Values) : Type 0 where
    pub x : Value
    pub y : Value
    pub below : Values
    pub is : us ≡ AndV y (AndV x below)
    pub first_stands : IsHeld kind types nodes first a x
    pub second_stands : IsHeld kind types nodes second b y
    pub rest : AllHeld kind types nodes rs ts below

  two_of : (first second : Operand) (rs : List Operand) (a b : Ty) (ts : List Ty) (us : Values) → AllHeld kind types nodes (second ∷ first ∷ rs) (b ∷ a ∷ ts) us → Two first second rs a b ts us
  two_of first second rs a b ts (AndV y (AndV x us)) h = record { x = x; y = y; below = us; is = refl; first_stands = h.1.0; second_stands = h.0; rest = h.1.1 }
  two_of first second rs a b ts (AndV y NoV) h = elim h.1 [ ]
  two_of first second rs a b ts NoV h = elim h [ ]

  pub two_popped : (items last : List Operand) (first second : Operand) (a b : Ty) (ts : List Ty) (us : Values) → items ≡ last ++ first ∷ second ∷ []
      → AllHeld kind types nodes (reverse items) (b ∷ a ∷ ts) us → Two first second (reverse last) a b ts us
  two_popped items last first second a b ts us e h =
      let r : reverse items ≡ second ∷ first ∷ reverse last = ap reverse e ∙ reverse-append last (first ∷ second ∷ []) in
      two_of first second (reverse last) a b ts us (subst (λ l. AllHeld kind types nodes l (b ∷ a ∷ ts) us) r h)

  -- three operands on these
  pub record Three (first second third : Operand) (rs : List Operand) (a b c : Ty) (ts : List Ty) (us : Values) : Type 0 where
    pub x : Value
    pub y : Value
    pub z : Value
    pub below : Values
    pub is : us ≡ AndV z (AndV y (AndV x below))
    pub first_stands : IsHeld kind types nodes first a x
    pub second_stands : IsHeld kind types nodes second b y
    pub third_stands : IsHeld kind types nodes third c z
    pub rest : AllHeld kind types nodes rs ts below

  three_of : (first second third : Operand) (rs : List Operand) (a b c : Ty) (ts : List Ty) (us : Values) → AllHeld kind types nodes (third ∷ second ∷ first ∷ rs) (c ∷ b ∷ a ∷ ts) us
      → Three first second third rs a b c ts us
  three_of first second third rs a b c ts (AndV z (AndV y (AndV x us))) h =
      record { x = x; y = y; z = z; below = us; is = refl; first_stands = h.1.1.0; second_stands = h.1.0; third_stands = h.0; rest = h.1.1.1 }
  three_of first second third rs a b c ts (AndV z (AndV y NoV)) h = elim h.1.1 [ ]
  three_of first second third rs a b c ts (AndV z NoV) h = elim h.1 [ ]
  three_of first second third rs a b c ts NoV h = elim h [ ]

  pub three_popped : (items last : List Operand) (first second third : Operand) (a b c : Ty) (ts : List Ty) (us : Values) → items ≡ last ++ first ∷ second ∷ third ∷ []
      → AllHeld kind types nodes (reverse items) (c ∷ b ∷ a ∷ ts) us → Three first second third (reverse last) a b c ts us
  three_popped items last first second third a b c ts us e h =
      let r : reverse items ≡ third ∷ second ∷ first ∷ reverse last = ap reverse e ∙ reverse-append last (first ∷ second ∷ third ∷ []) in
      three_of first second third (reverse last) a b c ts us (subst (λ l. AllHeld kind types nodes l (c ∷ b ∷ a ∷ ts) us) r h)

  -- as many as their types
  pub as_many : (rs : List Operand) (ts : List Ty) (vs : Values) → AllHeld kind types nodes rs ts vs → length rs ≡ length ts
  as_many [] [] NoV h = refl
  as_many (r ∷ rs) (t ∷ ts) (AndV v vs) h = ap suc (as_many rs ts vs h.1)
  as_many [] [] (AndV v vs) h = elim h [ ]
  as_many [] (t ∷ ts) vs h = elim h [ ]
  as_many (r ∷ rs) [] vs h = elim h [ ]
  as_many (r ∷ rs) (t ∷ ts) NoV h = elim h [ ]

module _ (B : Body) (z : Ty) (ls : List Ty) (to : ℕ → List Ty → List Ty → Type 0) where
  -- an operand of type t is taken, and one of type u given
  pub record TakesOne (t u : Ty) (os : List Ty) : Type 0 where
    pub below : List Ty
    pub is : os ≡ t ∷ below
    pub goes : to 0 ls (u ∷ below)

  -- two operands of the types s and t are taken, and one of type u is given
  pub record TakesTwo (s t u : Ty) (os : List Ty) : Type 0 where
    pub below : List Ty
    pub is : os ≡ t ∷ s ∷ below
    pub goes : to 0 ls (u ∷ below)

  -- three operands of the types r, s and t are taken, and one of type u is given
  pub record TakesThree (r s t u : Ty) (os : List Ty) : Type 0 where
    pub below : List Ty
    pub is : os ≡ t ∷ s ∷ r ∷ below
    pub goes : to 0 ls (u ∷ below)

  pub fill_parts : (n : ℕ) (os : List Ty) → Fits B z (VecFill n) ls os to → (t : Ty) × (is_length n ≡ true) × TakesOne t (VecTy n t) os
  fill_parts n (t ∷ os) h = (t, h.0, record { below = os; is = refl; goes = h.1 })
  fill_parts n [] h = elim h [ ]

  pub get_parts : (os : List Ty) → Fits B z VecGet ls os to → (n : ℕ) × (t : Ty) × TakesTwo (VecTy n t) IntTy t os
  get_parts (IntTy ∷ (VecTy n t ∷ os)) h = (n, t, record { below = os; is = refl; goes = h })
  get_parts os h = elim h [ ]

  pub put_parts : (os : List Ty) → Fits B z VecPut ls os to → (n : ℕ) × (t : Ty) × TakesThree (VecTy n t) IntTy t (VecTy n t) os
  put_parts (u ∷ (IntTy ∷ (VecTy n t ∷ os))) h = (n, t, record { below = os; is = ap (λ u. u ∷ IntTy ∷ VecTy n t ∷ os) h.0; goes = h.1 })
  put_parts os h = elim h [ ]

  pub pair_parts : (os : List Ty) → Fits B z Pair ls os to → (a : Ty) × (b : Ty) × TakesTwo a b (PairTy a b) os
  pair_parts (b ∷ a ∷ os) h = (a, b, record { below = os; is = refl; goes = h })
  pair_parts (b ∷ []) h = elim h [ ]
  pair_parts [] h = elim h [ ]

  pub first_parts : (os : List Ty) → Fits B z Fst ls os to → (a : Ty) × (b : Ty) × TakesOne (PairTy a b) a os
  first_parts (PairTy a b ∷ os) h = (a, b, record { below = os; is = refl; goes = h })
  first_parts os h = elim h [ ]

  pub second_parts : (os : List Ty) → Fits B z Snd ls os to → (a : Ty) × (b : Ty) × TakesOne (PairTy a b) b os
  second_parts (PairTy a b ∷ os) h = (a, b, record { below = os; is = refl; goes = h })
  second_parts os h = elim h [ ]

  pub not_parts : (os : List Ty) → Fits B z Not ls os to → TakesOne BoolTy BoolTy os
  not_parts (BoolTy ∷ os) h = record { below = os; is = refl; goes = h }
  not_parts os h = elim h [ ]

  pub length_parts : (os : List Ty) → Fits B z Len ls os to → TakesOne TextTy IntTy os
  length_parts (TextTy ∷ os) h = record { below = os; is = refl; goes = h }
  length_parts os h = elim h [ ]

  pub arith_parts : (op : Arith) (os : List Ty) → Fits B z (ArithOp op) ls os to → TakesTwo IntTy IntTy IntTy os
  arith_parts op (IntTy ∷ (IntTy ∷ os)) h = record { below = os; is = refl; goes = h }
  arith_parts op os h = elim h [ ]

  pub compare_parts : (op : Compare) (os : List Ty) → Fits B z (CompareOp op) ls os to → TakesTwo IntTy IntTy BoolTy os
  compare_parts op (IntTy ∷ (IntTy ∷ os)) h = record { below = os; is = refl; goes = h }
  compare_parts op os h = elim h [ ]

  pub text_compare_parts : (op : TextCompare) (os : List Ty) → Fits B z (TextCompareOp op) ls os to → TakesTwo TextTy TextTy BoolTy os
  text_compare_parts op (TextTy ∷ (TextTy ∷ os)) h = record { below = os; is = refl; goes = h }
  text_compare_parts op os h = elim h [ ]

  pub concat_parts : (os : List Ty) → Fits B z Cat ls os to → TakesTwo TextTy TextTy TextTy os
  concat_parts (TextTy ∷ (TextTy ∷ os)) h = record { below = os; is = refl; goes = h }
  concat_parts os h = elim h [ ]

-- a new value, by its size and depth
module _ {C W : Type 0} (limit : ℕ) (types : Table) (t : Ty) (v : Value) (k : ℕ) (w : W) where
  pub limited_gives : nat_lt limit (size types t v) ≡ false → nat_lt depth_limit (depth types t v) ≡ false → limited {C = C} limit types t v k w ≡ Gives v k w
  limited_gives e f = rw e (rw f refl)

  pub limited_big : nat_lt limit (size types t v) ≡ true → limited {C = C} limit types t v k w ≡ Ends (Traps TooBig) k w
  limited_big e = rw e refl

  pub limited_deep : nat_lt limit (size types t v) ≡ false → nat_lt depth_limit (depth types t v) ≡ true → limited {C = C} limit types t v k w ≡ Ends (Traps TooDeep) k w
  limited_deep e f = rw e (rw f refl)
