-- Expressions fit where their parts do.
use Rattle.std.proofs.Common.{◌≡◌, ℕ, suc, ◌+◌, ◌^◌, w64, ◌≤◌, ◌<◌, ◌∙◌, Bool, true, ℤ, List, [], ◌∷◌, ◌++◌, length, map, drop, get_or, Some, slice_get, option_map, unwrap_or, refl, sym, ap, subst, arith}
use Rattle.std.specs.Int.{cast_signed, cast_unsigned}
use lib.Signed.{mag}
use Rattle.std.proofs.lemmas.Int.{to_z-of_z}
use Rattle.std.proofs.lemmas.List.{drop_all, drop_more, length-append, length-map}
use Rattle.std.proofs.lemmas.Option.{slice_get-get_or, slice_get-map}
use Rattle.core_terms.specs.Types.{Ty, UnitTy, BoolTy, IntTy, PairTy, VecTy, is_length}
use Rattle.core_terms.specs.Values.{int_fits}
use Rattle.core_terms.specs.Terms.{Expression, UnitE, BoolE, IntE, LocalE, PairE, LetE, OperateE, VecPut, Expressions, NoE, AndE, Arms, NoArm, AndArm, Program}
use Rattle.core_terms.specs.ProgramLimits.{most_locals}
use Rattle.core_terms.specs.ProgramSizes.{locals_in}
use Rattle.core_terms.specs.ProgramTrees.{expression_of, in_a_row, arms_in_a_row, operation_of, table_of, types_at}
use Rattle.core_terms.specs.TypeTables.{type_at, type_of_form}
use Rattle.core_terms.specs.declared.types.TyId.{TyId}
use Rattle.core_terms.specs.declared.types.TyForm.{TyForm}
use Rattle.core_terms.specs.declared.types.TyForm.TheVariants.{VecForm}
use Rattle.core_terms.specs.declared.term.Operation.{Operation}
use Rattle.core_terms.specs.declared.term.Operation.TheVariants as coded
use Rattle.core_terms.specs.declared.term.Constructor.{Constructor}
use Rattle.core_terms.specs.declared.term.NamedType.{NamedType}
use Rattle.core_terms.specs.declared.term.Term.{Term}
use Rattle.term_stage.specs.Fitting.{ArmsFit, FitBoth, Fits, RowFits}

-- an int of 64 bits is what it is passed as
pub kept : (z : ℤ) → mag z < 2 ^ 63 → cast_signed w64 (cast_unsigned w64 z) ≡ z
kept z small = to_z-of_z w64 z (record { sfits = small })

-- so many locals, by their numbers and by their types
pub few_locals : (types : List Ty) (env : List TyId) → length env ≤ 255 → length (types_at types env) ≤ most_locals
few_locals types env few = omega (arith, few, length-map env (type_at types))

-- the field types of the constructors of a named type
pub constructors_at : (types : List Ty) (named : List NamedType) (n : ℕ) (d : NamedType) → n < length named → d ≡ get_or named n d
    → unwrap_or (slice_get (table_of types named) n) [] ≡ map (λ (c : Constructor). types_at types c.fields.items) d.constructors.items
constructors_at types named n d there is =
    let of = λ (declared : NamedType). map (λ (c : Constructor). types_at types c.fields.items) declared.constructors.items in
    ap (λ o. unwrap_or o []) (slice_get-map of named n ∙ ap (option_map of) (slice_get-get_or named n d there ∙ ap Some (sym is)))

-- three elements
pub three : {A : Type 0} (xs : List A) (x y z : A) → 3 ≤ length xs → length xs < 4 → x ≡ get_or xs 0 x → y ≡ get_or xs 1 y → z ≡ get_or xs 2 z → xs ≡ x ∷ y ∷ z ∷ []
three [] x y z least most is_x is_y is_z = absurd (omega (arith, least))
three (a ∷ []) x y z least most is_x is_y is_z = absurd (omega (arith, least))
three (a ∷ b ∷ []) x y z least most is_x is_y is_z = absurd (omega (arith, least))
three (a ∷ b ∷ c ∷ []) x y z least most is_x is_y is_z = cc
three (a ∷ b ∷ c ∷ d ∷ xs) x y z least most is_x is_y is_z = absurd (omega (arith, most))

module _ (P : Program) (env : List Ty) where
  -- a term that stands for this expression, of a form that is this one
  pub as_term : (types : List Ty) (term view : Term) (e : Expression) (wanted form : TyForm) (l b a : ℕ) → term ≡ view → expression_of types view ≡ e → wanted ≡ form
      → Fits P env e (type_of_form types form) l b a → Fits P env (expression_of types term) (type_of_form types wanted) l b a
  as_term types term view e wanted form l b a is stands same fits =
      subst (λ E. Fits P env E (type_of_form types wanted) l b a) (sym (ap (expression_of types) is ∙ stands))
      (subst (λ w. Fits P env e (type_of_form types w) l b a) (sym same) fits)

  module _ (l b a : ℕ) where
    pub unit_fits : length env ≤ most_locals → a ≡ b → Fits P env UnitE UnitTy (suc l) (suc b) a
    unit_fits few same = record { typed = refl; flat = omega arith; few = few; counted = omega (arith, same) }

    pub bool_fits : (v : Bool) → length env ≤ most_locals → a ≡ b → Fits P env (BoolE v) BoolTy (suc l) (suc b) a
    bool_fits v few same = record { typed = refl; flat = omega arith; few = few; counted = omega (arith, same) }

    pub int_fits_in : (z : ℤ) → int_fits z ≡ true → length env ≤ most_locals → a ≡ b → Fits P env (IntE z) IntTy (suc l) (suc b) a
    int_fits_in z in_range few same = record { typed = (refl, in_range); flat = omega arith; few = few; counted = omega (arith, same) }

    pub local_fits : (i : ℕ) (t : Ty) → slice_get env i ≡ Some t → length env ≤ most_locals → a ≡ b → Fits P env (LocalE i) t (suc l) (suc b) a
    local_fits i t there few same = record { typed = there; flat = omega arith; few = few; counted = omega (arith, same) }

    pub pair_fits : (s t : Ty) (x y : Expression) → FitBoth P env x s y t l b a → Fits P env (PairE s t x y) (PairTy s t) (suc l) (suc b) a
    pair_fits s t x y h = record {
      typed = (refl, h.first.typed, h.second.typed);
      flat = omega (arith, h.first.flat, h.second.flat);
      few = omega (arith, h.first.few, h.second.few);
      counted = omega (arith, h.first.counted, h.second.counted);
    }

    pub let_fits : (s t : Ty) (x body : Expression) (m : ℕ) → Fits P env x s l b m → Fits P (env ++ s ∷ []) body t l m a → Fits P env (LetE s x body) t (suc l) (suc b) a
    let_fits s t x body m first second =
        let one_more : length (env ++ s ∷ []) ≡ suc (length env) = omega (arith, length-append env (s ∷ [])) in
        let few : locals_in P.types (suc (length env)) body ≤ most_locals = subst (λ n. locals_in P.types n body ≤ most_locals) one_more second.few in
        record {
          typed = (first.typed, second.typed);
          flat = omega (arith, first.flat, second.flat);
          few = omega (arith, first.few, few);
          counted = omega (arith, first.counted, second.counted);
        }

    pub row_fits : (x : Expression) (xs : Expressions) (t : Ty) (ts : List Ty) (m : ℕ) → Fits P env x t l b m → RowFits P env xs ts l m a → RowFits P env (AndE x xs) (t ∷ ts) l b a
    row_fits x xs t ts m first rest = record {
      typed = (first.typed, rest.typed);
      flat = omega (arith, first.flat, rest.flat);
      few = omega (arith, first.few, rest.few);
      counted = omega (arith, first.counted, rest.counted);
    }

    pub arm_fits : (x : Expression) (arms : Arms) (ts : List Ty) (others : List (List Ty)) (t : Ty) (m : ℕ) → Fits P (env ++ ts) x t l b m → ArmsFit P env others arms t l m a
        → ArmsFit P env (ts ∷ others) (AndArm x arms) t l b a
    arm_fits x arms ts others t m first rest =
        let few : locals_in P.types (length env + length ts) x ≤ most_locals = subst (λ n. locals_in P.types n x ≤ most_locals) (length-append env ts) first.few in
        record {
          typed = (first.typed, rest.typed);
          flat = omega (arith, first.flat, rest.flat);
          few = omega (arith, few, rest.few);
          counted = omega (arith, first.counted, rest.counted);
        }

    -- the part at a place fits, and so do those behind it
    pub row_step : (types : List Ty) (terms : List Term) (wanted : List TyId) (i : ℕ) (x : Term) (w d : TyId) (m : ℕ) → i < length terms → i < length wanted
        → x ≡ get_or terms i x → w ≡ get_or wanted i d → Fits P env (expression_of types x) (type_at types w) l b m
        → RowFits P env (in_a_row (map (expression_of types) (drop (i + 1) terms))) (types_at types (drop (i + 1) wanted)) l m a
        → RowFits P env (in_a_row (map (expression_of types) (drop i terms))) (types_at types (drop i wanted)) l b a
    row_step types terms wanted i x w d m in_terms in_wanted is_x is_w first rest =
        let next : drop i terms ≡ x ∷ drop (i + 1) terms = drop_more terms i x in_terms ∙ ap (λ x. x ∷ drop (i + 1) terms) (sym is_x) in
        let next_wanted : drop i wanted ≡ w ∷ drop (i + 1) wanted = drop_more wanted i d in_wanted ∙ ap (λ w. w ∷ drop (i + 1) wanted) (sym is_w) in
        subst (λ xs. RowFits P env (in_a_row (map (expression_of types) xs)) (types_at types (drop i wanted)) l b a) (sym next)
        (subst (λ ws. RowFits P env (in_a_row (map (expression_of types) (x ∷ drop (i + 1) terms))) (types_at types ws) l b a) (sym next_wanted)
        (row_fits _ _ _ _ m first rest))

    pub arms_step : (types : List Ty) (cs : List Constructor) (arms : List Term) (t : Ty) (i : ℕ) (c : Constructor) (fields : List TyId) (x : Term) (m : ℕ) → i < length cs → i < length arms
        → c ≡ get_or cs i c → fields ≡ (get_or cs i c).fields.items → x ≡ get_or arms i x → Fits P (env ++ types_at types fields) (expression_of types x) t l b m
        → ArmsFit P env (map (λ (c : Constructor). types_at types c.fields.items) (drop (i + 1) cs)) (arms_in_a_row (map (expression_of types) (drop (i + 1) arms))) t l m a
        → ArmsFit P env (map (λ (c : Constructor). types_at types c.fields.items) (drop i cs)) (arms_in_a_row (map (expression_of types) (drop i arms))) t l b a
    arms_step types cs arms t i c fields x m in_cs in_arms is_c are_fields is_x first rest =
        let of = λ (c : Constructor). types_at types c.fields.items in
        let next : drop i arms ≡ x ∷ drop (i + 1) arms = drop_more arms i x in_arms ∙ ap (λ x. x ∷ drop (i + 1) arms) (sym is_x) in
        let next_constructor : drop i cs ≡ c ∷ drop (i + 1) cs = drop_more cs i c in_cs ∙ ap (λ c. c ∷ drop (i + 1) cs) (sym is_c) in
        subst (λ xs. ArmsFit P env (map of (drop i cs)) (arms_in_a_row (map (expression_of types) xs)) t l b a) (sym next)
        (subst (λ cs. ArmsFit P env (map of cs) (arms_in_a_row (map (expression_of types) (x ∷ drop (i + 1) arms))) t l b a) (sym next_constructor)
        (arm_fits _ _ _ _ t m (subst (λ fields. Fits P (env ++ types_at types fields) (expression_of types x) t l b m) (are_fields ∙ ap (λ (c : Constructor). c.fields.items) (sym is_c)) first) rest))

    -- the same of terms
    pub let_term : (types : List Ty) (s t : Ty) (x x' y y' : Term) (m : ℕ) → x' ≡ x → y' ≡ y → Fits P env (expression_of types x') s l b m
        → Fits P (env ++ s ∷ []) (expression_of types y') t l m a → Fits P env (LetE s (expression_of types x) (expression_of types y)) t (suc l) (suc b) a
    let_term types s t x x' y y' m is_x is_y first second =
        let_fits s t _ _ m (subst (λ x. Fits P env (expression_of types x) s l b m) is_x first) (subst (λ y. Fits P (env ++ s ∷ []) (expression_of types y) t l m a) is_y second)

    pub arms_of : (types : List Ty) (named : List NamedType) (n : ℕ) (d : NamedType) (cs : List Constructor) (arms : Arms) (t : Ty) → n < length named → d ≡ get_or named n d
        → cs ≡ d.constructors.items → ArmsFit P env (map (λ (c : Constructor). types_at types c.fields.items) cs) arms t l b a
        → ArmsFit P env (unwrap_or (slice_get (table_of types named) n) []) arms t l b a
    arms_of types named n d cs arms t there is are fits =
        let of = λ (c : Constructor). types_at types c.fields.items in
        subst (λ cs. ArmsFit P env cs arms t l b a) (sym (constructors_at types named n d there is)) (subst (λ cs. ArmsFit P env (map of cs) arms t l b a) are fits)

    pub put_fits : (n : ℕ) (t : Ty) (x y z : Expression) (m : ℕ) → is_length n ≡ true → length env ≤ most_locals → FitBoth P env x (VecTy n t) y IntTy l b m → Fits P env z t l m a
        → Fits P env (OperateE (VecPut n t) (AndE x (AndE y (AndE z NoE)))) (VecTy n t) (suc l) (suc b) a
    put_fits n t x y z m is few both new = record {
      typed = (refl, is, (both.first.typed, (both.second.typed, (new.typed, tt))));
      flat = omega (arith, both.first.flat, both.second.flat, new.flat);
      few = omega (arith, few, both.first.few, both.second.few, new.few);
      counted = omega (arith, both.first.counted, both.second.counted, new.counted);
    }

    pub put_term : (types : List Ty) (op : Operation) (wanted : TyForm) (n : ℕ) (item : TyId) (terms : List Term) (x y z : Term) (m : ℕ) → op ≡ coded.VecPut n item → wanted ≡ VecForm n item
        → 3 ≤ length terms → length terms < 4 → x ≡ get_or terms 0 x → y ≡ get_or terms 1 y → z ≡ get_or terms 2 z → is_length n ≡ true → length env ≤ most_locals
        → FitBoth P env (expression_of types x) (type_of_form types wanted) (expression_of types y) IntTy l b m → Fits P env (expression_of types z) (type_at types item) l m a
        → Fits P env (OperateE (operation_of types op) (in_a_row (map (expression_of types) terms))) (type_of_form types wanted) (suc l) (suc b) a
    put_term types op wanted n item terms x y z m is_put is_array least most is_x is_y is_z is few both new =
        subst (λ op. Fits P env (OperateE (operation_of types op) (in_a_row (map (expression_of types) terms))) (type_of_form types wanted) (suc l) (suc b) a) (sym is_put)
        (subst (λ terms. Fits P env (OperateE (VecPut n (type_at types item)) (in_a_row (map (expression_of types) terms))) (type_of_form types wanted) (suc l) (suc b) a)
        (sym (three terms x y z least most is_x is_y is_z))
        (subst (λ form. Fits P env (OperateE (VecPut n (type_at types item)) (in_a_row (map (expression_of types) (x ∷ y ∷ z ∷ [])))) (type_of_form types form) (suc l) (suc b) a)
        (sym is_array)
        (put_fits n (type_at types item) _ _ _ m is few
        (subst (λ form. FitBoth P env (expression_of types x) (type_of_form types form) (expression_of types y) IntTy l b m) is_array both) new)))

  -- nothing is left
  pub row_end : (types : List Ty) (terms : List Term) (wanted : List TyId) (i l b : ℕ) → length terms ≤ i → length wanted ≤ i → length env ≤ most_locals
      → RowFits P env (in_a_row (map (expression_of types) (drop i terms))) (types_at types (drop i wanted)) l b b
  row_end types terms wanted i l b past_terms past_wanted few =
      subst (λ xs. RowFits P env (in_a_row (map (expression_of types) xs)) (types_at types (drop i wanted)) l b b) (sym (drop_all i terms past_terms))
      (subst (λ ws. RowFits P env NoE (types_at types ws) l b b) (sym (drop_all i wanted past_wanted))
      (record { typed = tt; flat = omega arith; few = few; counted = omega arith }))

  pub arms_end : (types : List Ty) (cs : List Constructor) (arms : List Term) (t : Ty) (i l b : ℕ) → length cs ≤ i → length arms ≤ i → length env ≤ most_locals
      → ArmsFit P env (map (λ (c : Constructor). types_at types c.fields.items) (drop i cs)) (arms_in_a_row (map (expression_of types) (drop i arms))) t l b b
  arms_end types cs arms t i l b past_cs past_arms few =
      let of = λ (c : Constructor). types_at types c.fields.items in
      subst (λ xs. ArmsFit P env (map of (drop i cs)) (arms_in_a_row (map (expression_of types) xs)) t l b b) (sym (drop_all i arms past_arms))
      (subst (λ cs. ArmsFit P env (map of cs) NoArm t l b b) (sym (drop_all i cs past_cs))
      (record { typed = tt; flat = omega arith; few = few; counted = omega arith }))
