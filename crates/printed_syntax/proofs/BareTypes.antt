-- Values that are spelled by nothing, and the lengths of their texts.
use Rattle.std.proofs.Common.{◌≡◌, ℕ, zero, suc, ◌+◌, ◌-◌, ◌*◌, ◌<◌, ◌≤◌, List, [], ◌∷◌, ◌++◌, length, map, take, Option, Some, None, option_map, slice_index_or, unwrap_or, refl, sym, ap, ◌∙◌, arith, get_or, ltb-true}
use Rattle.std.specs.Prelude.{slice_get, nat_lt, true, ◌&&◌}
use Rattle.std.proofs.lemmas.List.{take_more, map-append}
use Rattle.std.proofs.lemmas.Option.{none-some, same_Some}
use Rattle.core_terms.specs.Types.{Ty, UnitTy, PairTy, VecTy, is_length, item_types}
use Rattle.core_terms.specs.Values.{Value, UnitV, PairV, ItemsV, Values, NoV, AndV, IsShallow, AreShallow}
use Rattle.core_terms.specs.Spelling.{spelling, spellings}
use Rattle.core_terms.specs.Programs.{meaning}
use Rattle.core_terms.specs.TypeTables.{stands_behind, type_at, type_of_form}
use Rattle.core_terms.specs.declared.program.Program.{Program}
use Rattle.core_terms.specs.declared.types.TyForm.{TyForm}
use Rattle.core_terms.specs.declared.types.TyForm.TheVariants.{PairForm, VecForm}
use Rattle.core_terms.specs.declared.types.TyId.{TyId}
use Rattle.core_terms.proofs.SameTypes.{first_of, second_of}
use Rattle.printed_syntax.specs.PrintedParts.{text_in, texts_in}
use Rattle.printed_syntax.specs.PrintedLengths.{IsCounted, array_size, bare_size, both, counted, pair_size, printed_size}
use Rattle.printed_syntax.proofs.CountedLengths.{counted_pair, counted_behind, counted_row, length_of_array, length_of_pair, length_of_row}

both_there : {P : Type 0} (x y : Option ℕ) (n : ℕ) → both x y pair_size ≡ Some n → ((a b : ℕ) → x ≡ Some a → y ≡ Some b → n ≡ pair_size a b → P) → P
both_there (Some a) (Some b) n e go = go a b refl refl (sym (same_Some _ _ e))
both_there (Some a) None n e go = absurd (none-some n e)
both_there None y n e go = absurd (none-some n e)

one_there : {P : Type 0} (f : ℕ → ℕ) (x : Option ℕ) (n : ℕ) → option_map f x ≡ Some n → ((a : ℕ) → x ≡ Some a → n ≡ f a → P) → P
one_there f (Some a) n e go = go a refl (sym (same_Some _ _ e))
one_there f None n e go = absurd (none-some n e)

module _ (p : Program) where
  -- the value is spelled by nothing, and its text has this length as it is counted
  record IsBare (t : Ty) (n : ℕ) (v : Value) : Type 0 where
    spelled : spelling v ≡ []
    size : n ≡ counted (printed_size p t v)

  bare_pair : (a b : Ty) (i j n : ℕ) (x y : Value) → n ≡ pair_size i j → IsBare a i x → IsBare b j y → IsBare (PairTy a b) n (PairV x y)
  bare_pair a b i j n x y is first second = record {
    spelled = ap (λ xs. xs ++ spelling y) first.spelled ∙ second.spelled;
    size = is ∙ ap (λ k. counted (k + j + 4)) first.size ∙ ap (λ k. counted (counted (printed_size p a x) + k + 4)) second.size
        ∙ counted_pair (printed_size p a x) (printed_size p b y) 4 ∙ ap counted (sym (length_of_pair (text_in p a x) (text_in p b y)));
  }

  -- so are values in a row, each of which is
  record AreBare (k : ℕ) (t : Ty) (i : ℕ) (vs : Values) : Type 0 where
    spelled : spellings vs ≡ []
    size : counted (k * i + 2 * (k - 1)) ≡ counted (length (texts_in p (item_types k t) vs))

  bare_row : (t : Ty) (i : ℕ) → ((v : Value) → IsShallow (meaning p).types t v → IsBare t i v) → (k : ℕ) (vs : Values) → AreShallow (meaning p).types (item_types k t) vs → AreBare k t i vs
  bare_row t i each zero NoV h =
      let none : zero * i + 2 * (zero - 1) ≡ 0 = omega arith in
      record { spelled = refl; size = ap counted none }
  bare_row t i each zero (AndV v vs) h = elim h [ ]
  bare_row t i each (suc k) NoV h = elim h [ ]
  bare_row t i each (suc zero) (AndV v NoV) h =
      let one = each v h.0 in
      record {
        spelled = ap (λ xs. xs ++ []) one.spelled;
        size = omega (arith, one.size);
      }
  bare_row t i each (suc zero) (AndV v (AndV w vs)) h = elim h.1 [ ]
  bare_row t i each (suc (suc k)) (AndV v vs) h =
      let one = each v h.0 in
      let rest = bare_row t i each (suc k) vs h.1 in
      let text = texts_in p (item_types (suc k) t) vs in
      record {
        spelled = ap (λ xs. xs ++ spellings vs) one.spelled ∙ rest.spelled;
        size = counted_row k i (printed_size p t v) (length text) one.size rest.size ∙ ap counted (sym (length_of_row (text_in p t v) text));
      }

  bare_array : (t : Ty) (i k n : ℕ) (vs : Values) → n ≡ array_size k i → AreBare k t i vs → IsBare (VecTy k t) n (ItemsV vs)
  bare_array t i k n vs is row = record {
    spelled = row.spelled;
    size = is ∙ counted_behind (k * i + 2 * (k - 1)) (length (texts_in p (item_types k t) vs)) 2 row.size ∙ ap counted (sym (length_of_array (texts_in p (item_types k t) vs)));
  }

  bare : (t : Ty) (n : ℕ) → bare_size t ≡ Some n → (v : Value) → IsShallow (meaning p).types t v → IsBare t n v
  bare UnitTy n e UnitV h = record { spelled = refl; size = sym (same_Some _ _ e) }
  bare UnitTy n e v h = elim h [ ]
  bare (PairTy a b) n e (PairV x y) h =
      both_there (bare_size a) (bare_size b) n e (λ i j ei ej is. bare_pair a b i j n x y is (bare a i ei x h.0) (bare b j ej y h.1))
  bare (PairTy a b) n e v h = elim h [ ]
  bare (VecTy k t) n e (ItemsV vs) h =
      one_there (array_size k) (bare_size t) n e (λ i ei is. bare_array t i k n vs is (bare_row t i (λ v shape. bare t i ei v shape) k vs h))
  bare (VecTy k t) n e v h = elim h [ ]
  bare t n e v h = absurd (none-some n e)

  -- so no byte is taken for it
  pub bare_counted : (t : Ty) (n : ℕ) (bytes : List ℕ) → bare_size t ≡ Some n → IsCounted p t bytes n bytes
  bare_counted t n bytes e v shape small behind is = let b = bare t n e v shape in (b.size, is ∙ ap (λ xs. xs ++ behind) b.spelled)

-- the length that is known of a type with a number
pub known_size : (types : List Ty) (i n : ℕ) → unwrap_or (slice_get (map bare_size types) i) None ≡ Some n → bare_size (slice_index_or types i UnitTy) ≡ Some n
known_size [] i n e = absurd (none-some n e)
known_size (t ∷ types) zero n e = e
known_size (t ∷ types) (suc i) n e = known_size types i n e

-- of the first n types all are known
pub known_before : (types : List Ty) (n i : ℕ) → n ≤ length types → i < n → unwrap_or (slice_get (map bare_size (take n types)) i) None ≡ bare_size (slice_index_or types i UnitTy)
known_before [] n i h l = absurd (omega arith)
known_before (t ∷ types) zero i h l = absurd (omega arith)
known_before (t ∷ types) (suc n) zero h l = refl
known_before (t ∷ types) (suc n) (suc i) h l = known_before types n i (omega arith) (omega arith)

-- So the length for a type of this form is known, where those of the types before it are.
module _ (lengths : List (Option ℕ)) (form : TyForm) where
  pub pair_known : (first second : TyId) (found : Option ℕ) → form ≡ PairForm first second
      → found ≡ both (unwrap_or (slice_get lengths first.0) None) (unwrap_or (slice_get lengths second.0) None) pair_size
      → (types : List Ty) (n : ℕ) → n ≤ length types → lengths ≡ map bare_size (take n types) → stands_behind n form ≡ true → found ≡ bare_size (type_of_form types form)
  pair_known first second found is e types n fits known stands =
      let below : (nat_lt first.0 n && nat_lt second.0 n) ≡ true = ap (λ f. stands_behind n f) (sym is) ∙ stands in
      let one = ap (λ xs. unwrap_or (slice_get xs first.0) None) known ∙ known_before types n first.0 fits (ltb-true first.0 n (first_of _ _ below)) in
      let two = ap (λ xs. unwrap_or (slice_get xs second.0) None) known ∙ known_before types n second.0 fits (ltb-true second.0 n (second_of (nat_lt first.0 n) _ below)) in
      e ∙ ap (λ x. both x (unwrap_or (slice_get lengths second.0) None) pair_size) one ∙ ap (λ y. both (bare_size (type_at types first)) y pair_size) two
      ∙ ap (λ f. bare_size (type_of_form types f)) (sym is)

  pub array_known : (count : ℕ) (item : TyId) (found : Option ℕ) → form ≡ VecForm count item → found ≡ option_map (array_size count) (unwrap_or (slice_get lengths item.0) None)
      → (types : List Ty) (n : ℕ) → n ≤ length types → lengths ≡ map bare_size (take n types) → stands_behind n form ≡ true → found ≡ bare_size (type_of_form types form)
  array_known count item found is e types n fits known stands =
      let below : (nat_lt item.0 n && is_length count) ≡ true = ap (λ f. stands_behind n f) (sym is) ∙ stands in
      let one = ap (λ xs. unwrap_or (slice_get xs item.0) None) known ∙ known_before types n item.0 fits (ltb-true item.0 n (first_of _ _ below)) in
      e ∙ ap (option_map (array_size count)) one ∙ ap (λ f. bare_size (type_of_form types f)) (sym is)

-- with the length of a type more
pub size_added : (types : List Ty) (i : ℕ) (before after : List (Option ℕ)) (size : Option ℕ) → i < length types → before ≡ map bare_size (take i types) → size ≡ bare_size (slice_index_or types i UnitTy)
    → after ≡ before ++ size ∷ [] → after ≡ map bare_size (take (i + 1) types)
size_added types i before after size within known is added =
    added ∙ ap (λ xs. xs ++ size ∷ []) known ∙ ap (λ x. map bare_size (take i types) ++ x ∷ []) is
    ∙ sym (ap (λ ts. map bare_size ts) (take_more types i UnitTy within) ∙ map-append bare_size (take i types) (get_or types i UnitTy ∷ []))

-- of all types
pub all_sizes : (types : List Ty) (i : ℕ) (sizes : List (Option ℕ)) → length types ≤ i → sizes ≡ map bare_size (take i types) → sizes ≡ map bare_size types
all_sizes types i sizes h e = e ∙ ap (λ ts. map bare_size ts) (take_whole types i h)
  where
    take_whole : (types : List Ty) (i : ℕ) → length types ≤ i → take i types ≡ types
    take_whole [] zero h = refl
    take_whole [] (suc i) h = refl
    take_whole (t ∷ types) zero h = absurd (omega arith)
    take_whole (t ∷ types) (suc i) h = ap (λ ts. t ∷ ts) (take_whole types i (omega arith))
