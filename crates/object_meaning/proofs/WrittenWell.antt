-- The object that is written of a program is well-formed.
use Rattle.std.proofs.Common.{◌≡◌, ◌<◌, ◌≤◌, ℕ, suc, ◌+◌, Bool, true, false, ◌&&◌, ◌||◌, List, [], ◌∷◌, ◌++◌, length, map, nat_eq, Option, Some, None, option_map, slice_get, slice_index_or, unwrap_or, refl, sym, ap, ap₂, ◌∙◌, subst, arith, append_assoc, append-nil, eqb-true, if◌then◌else◌}
use Rattle.std.proofs.lemmas.List.{map-append, length-map}
use Rattle.core_terms.specs.Types.{Ty, UnitTy, BoolTy, IntTy, TextTy, PairTy, NamedTy, AuthTy, VecTy, Table, same_type}
use Rattle.core_terms.proofs.TypingComplete.{same_complete}
use Rattle.object_meaning.specs.Objects.{ListedConstructor, ListedType, ListedUnit, ListedNamed}
use Rattle.object_meaning.specs.ReadObjects.{names_of, names_in, all_names, named_count, same_listed, is_listed}
use Rattle.object_meaning.specs.WellFormedObjects.{AllBelow, AreConstructors, IsType, AreTypes}
use Rattle.object_meaning.specs.WrittenObjects.{place_of, number_in, named_from, constructors_written, type_written}
use Rattle.object_meaning.specs.EmittablePrograms.{AreNewNames, HaveFewFields, IsNamedTable}
use Rattle.object_meaning.proofs.ListedTypes.{In, place_found, place_in_front, number_found, HasParts, Behind, Listing, AllIn, AllFieldsIn, TableIn}

false_both : (a b : Bool) → (a && b ≡ true → ⊥) → a && b ≡ false
false_both true true h = absurd (h refl)
false_both true false h = refl
false_both false b h = refl

pub true_left : (a b : Bool) → a && b ≡ true → a ≡ true
true_left true b e = refl
true_left false b e = cc

pub true_right : (a b : Bool) → a && b ≡ true → b ≡ true
true_right true b e = e
true_right false b e = cc

not_true : (b : Bool) → (b ≡ true → ⊥) → b ≡ false
not_true true h = absurd (h refl)
not_true false h = refl

true_false : {b : Bool} → b ≡ true → b ≡ false → ⊥
true_false e f = cc

module _ (table : Table) (names : List (List (List ℕ))) (types : List Ty) where
  abbrev tw : Ty → ListedType
  tw t = type_written types table names t

  abbrev written : List Ty → List ListedType
  written ts = map (type_written types table names) ts

  pub below : (t : Ty) → In types t → number_in types t < length types
  below t h = subst (λ n. n < length types) (sym (ap (λ o. unwrap_or o 0) h.1)) (place_found types t h.0 h.1).1

  pub all_below : (ts : List Ty) → AllIn table types ts → AllBelow (length types) (map (number_in types) ts)
  all_below [] h = tt
  all_below (t ∷ ts) h = (below t h.0, all_below ts h.1)

  one_number : (a b : Ty) → In types a → In types b → nat_eq (number_in types a) (number_in types b) ≡ true → a ≡ b
  one_number a b h j e = sym (number_found types a h) ∙ ap (λ n. slice_index_or types n UnitTy) (eqb-true (number_in types a) (number_in types b) e) ∙ number_found types b j

  -- NAMED TYPES
  pub length_constructors : (cs : List (List Ty)) (ns : List (List ℕ)) → length (constructors_written types cs ns) ≡ length cs
  length_constructors [] ns = refl
  length_constructors (ts ∷ cs) [] = ap suc (length_constructors cs [])
  length_constructors (ts ∷ cs) (n ∷ ns) = ap suc (length_constructors cs ns)

  names_written : (cs : List (List Ty)) (ns : List (List ℕ)) → length ns ≡ length cs → names_of (constructors_written types cs ns) ≡ ns
  names_written [] [] e = refl
  names_written (ts ∷ cs) (n ∷ ns) e = ap (λ l. n ∷ l) (names_written cs ns (omega (arith, e)))
  names_written [] (n ∷ ns) e = absurd (omega (arith, e))
  names_written (ts ∷ cs) [] e = absurd (omega (arith, e))

  names_append : (xs ys : List ListedConstructor) → names_of (xs ++ ys) ≡ names_of xs ++ names_of ys
  names_append xs ys = map-append (λ (c : ListedConstructor). c.name) xs ys

  are_constructors : (before : List (List ℕ)) (others : List ListedConstructor) (cs : List (List Ty)) (ns : List (List ℕ)) → length ns ≡ length cs → AllFieldsIn table types cs → HaveFewFields cs
      → AreNewNames (before ++ names_of others) ns → AreConstructors (length types) before others (constructors_written types cs ns)
  are_constructors before others [] [] e h few new = tt
  are_constructors before others (ts ∷ cs) (n ∷ ns) e h few new =
      let c : ListedConstructor = record { name = n; fields = map (number_in types) ts } in
      let more : before ++ names_of (others ++ c ∷ []) ≡ (before ++ names_of others) ++ n ∷ [] = ap (λ l. before ++ l) (names_append others (c ∷ [])) ∙ sym (append_assoc before (names_of others) (n ∷ [])) in (
        record { name = new.0; few = omega (arith, length-map ts (number_in types), few.0); fields = all_below ts h.0 },
        are_constructors before (others ++ c ∷ []) cs ns (omega (arith, e)) h.1 few.1 (subst (λ l. AreNewNames l ns) (sym more) new.1),
      )
  are_constructors before others [] (n ∷ ns) e h few new = absurd (omega (arith, e))
  are_constructors before others (ts ∷ cs) [] e h few new = absurd (omega (arith, e))

  named_is_new : (cs : List ListedConstructor) (before : List ListedType) → is_listed (ListedNamed cs) before ≡ false
  named_is_new cs [] = refl
  named_is_new cs (u ∷ us) = named_is_new cs us

  all_names_append : (xs : List ListedType) (cs : List ListedConstructor) → all_names (xs ++ ListedNamed cs ∷ []) ≡ all_names xs ++ names_of cs
  all_names_append [] cs = append-nil (names_of cs)
  all_names_append (x ∷ xs) cs = ap (λ l. names_in x ++ l) (all_names_append xs cs) ∙ sym (append_assoc (names_in x) (all_names xs) (names_of cs))

  named_count_append : (xs : List ListedType) (cs : List ListedConstructor) → named_count (xs ++ ListedNamed cs ∷ []) ≡ suc (named_count xs)
  named_count_append [] cs = refl
  named_count_append (ListedNamed ds ∷ xs) cs = ap suc (named_count_append xs cs)
  named_count_append (ListedUnit ∷ xs) cs = named_count_append xs cs
  named_count_append (x ∷ xs) cs = named_count_append xs cs

  -- the named types, and others behind them
  named_types : (before : List ListedType) (bn : List (List ℕ)) (n : ℕ) (ts : Table) (ns : List (List (List ℕ))) (rest : List ListedType) → all_names before ≡ bn → named_count before ≡ n → n + length ts ≤ 256
      → IsNamedTable bn ts ns → TableIn table types ts → ((m : ℕ) → slice_get table (n + m) ≡ slice_get ts m) → ((m : ℕ) → slice_get names (n + m) ≡ slice_get ns m)
      → AreTypes (length types) (before ++ written (named_from n ts)) rest → AreTypes (length types) before (written (named_from n ts) ++ rest)
  named_types before bn n [] [] rest b c few h t at at' f = subst (λ l. AreTypes (length types) l rest) (append-nil before) f
  named_types before bn n (cs ∷ ts) (ns ∷ more) rest b c few h t at at' f =
      let z : n ≡ n + 0 = omega arith in
      let here : unwrap_or (slice_get table n) [] ≡ cs = ap (λ o. unwrap_or o []) (ap (slice_get table) z ∙ at 0) in
      let here' : unwrap_or (slice_get names n) [] ≡ ns = ap (λ o. unwrap_or o []) (ap (slice_get names) z ∙ at' 0) in
      let cw = constructors_written types cs ns in
      let is : tw (NamedTy n) ≡ ListedNamed cw = ap₂ (λ a b. ListedNamed (constructors_written types a b)) here here' in
      let long : length cw ≡ length cs = length_constructors cs ns in
      let one : IsType (length types) before (ListedNamed cw) = (
        omega (arith, c, few),
        omega (arith, long, h.0.some),
        omega (arith, long, h.0.few),
        are_constructors (all_names before) [] cs ns h.0.each t.0 h.0.fields (subst (λ l. AreNewNames l ns) (sym b ∙ sym (append-nil (all_names before))) h.0.new),
      ) in
      let tail = named_types (before ++ tw (NamedTy n) ∷ []) (bn ++ ns) (suc n) ts more rest
      (ap (λ l. all_names (before ++ l ∷ [])) is ∙ all_names_append before cw ∙ ap₂ (λ l m. l ++ m) b (names_written cs ns h.0.each))
      (ap (λ l. named_count (before ++ l ∷ [])) is ∙ named_count_append before cw ∙ ap suc c)
      (omega (arith, few)) h.1 t.1
      (λ m. let e : suc n + m ≡ n + suc m = omega arith in ap (slice_get table) e ∙ at (suc m))
      (λ m. let e : suc n + m ≡ n + suc m = omega arith in ap (slice_get names) e ∙ at' (suc m))
      (subst (λ l. AreTypes (length types) l rest) (sym (append_assoc before (tw (NamedTy n) ∷ []) (written (named_from (suc n) ts)))) f) in (
        subst (IsType (length types) before) (sym is) one,
        ap (λ l. is_listed l before) is ∙ named_is_new cw before,
        tail,
      )
  named_types before bn n [] (ns ∷ more) rest b c few h t at at' f = elim h [ ]
  named_types before bn n (cs ∷ ts) [] rest b c few h t at at' f = elim h [ ]

  -- OTHER TYPES
  -- the parts of a type are among all
  abbrev PartsIn : Ty → Type 0
  PartsIn (PairTy a b) = In types a × In types b
  PartsIn (AuthTy t) = In types t
  PartsIn (VecTy n t) = ⊥
  PartsIn t = Unit {0}

  abbrev AllPartsIn : List Ty → Type 0
  AllPartsIn [] = Unit {0}
  AllPartsIn (t ∷ ts) = PartsIn t × AllPartsIn ts

  parts_append : (xs : List Ty) (t : Ty) → AllPartsIn xs → PartsIn t → AllPartsIn (xs ++ t ∷ [])
  parts_append [] t h p = (p, tt)
  parts_append (x ∷ xs) t h p = (h.0, parts_append xs t h.1 p)

  named_parts : (n : ℕ) (ts : Table) → AllPartsIn (named_from n ts)
  named_parts n [] = tt
  named_parts n (cs ∷ ts) = (tt, named_parts (suc n) ts)

  in_all : (before rest : List Ty) (t : Ty) → types ≡ before ++ rest → In before t → In types t
  in_all before rest t e h = (h.0, ap (λ l. place_of l t) e ∙ place_in_front before rest t h.0 h.1)

  parts_in_all : (before rest : List Ty) (t : Ty) → types ≡ before ++ rest → HasParts before t → PartsIn t
  parts_in_all before rest (PairTy a b) e h = (in_all before rest a e h.0, in_all before rest b e h.1)
  parts_in_all before rest (AuthTy t) e h = in_all before rest t e h
  parts_in_all before rest (NamedTy n) e h = elim h [ ]
  parts_in_all before rest UnitTy e h = tt
  parts_in_all before rest BoolTy e h = tt
  parts_in_all before rest IntTy e h = tt
  parts_in_all before rest TextTy e h = tt
  parts_in_all before rest (VecTy n t) e h = elim h [ ]

  differs : (t u : Ty) → same_type u t ≡ false → PartsIn t → PartsIn u → same_listed (tw t) (tw u) ≡ false
  differs UnitTy UnitTy e p q = absurd (cc)
  differs BoolTy BoolTy e p q = absurd (cc)
  differs IntTy IntTy e p q = absurd (cc)
  differs TextTy TextTy e p q = absurd (cc)
  differs (PairTy a b) (PairTy c d) e p q =
      false_both (nat_eq (number_in types a) (number_in types c)) (nat_eq (number_in types b) (number_in types d))
      (λ s. true_false (same_complete (PairTy c d) (PairTy a b) (ap₂ PairTy (sym (one_number a c p.0 q.0 (true_left _ _ s)))
      (sym (one_number b d p.1 q.1 (true_right (nat_eq (number_in types a) (number_in types c)) _ s))))) e)
  differs (AuthTy a) (AuthTy c) e p q = not_true (nat_eq (number_in types a) (number_in types c)) (λ s. true_false (same_complete (AuthTy c) (AuthTy a) (ap AuthTy (sym (one_number a c p q s)))) e)
  differs (VecTy n a) u e p q = elim p [ ]
  differs t (VecTy n a) e p q = elim q [ ]
  differs t u e p q = refl

  not_listed : (t : Ty) (us : List Ty) → place_of us t ≡ None → PartsIn t → AllPartsIn us → is_listed (tw t) (written us) ≡ false
  not_listed t [] e p q = refl
  not_listed t (u ∷ us) e p q = by (same_type u t) refl (place_of us t) refl (λ r. not_listed t us r p q.1)
    where
      by : (b : Bool) → same_type u t ≡ b → (o : Option ℕ) → place_of us t ≡ o → (place_of us t ≡ None → is_listed (tw t) (written us) ≡ false) → is_listed (tw t) (written (u ∷ us)) ≡ false
      by true s o r go = let f = sym (ap (λ b. if b then Some 0 else option_map suc (place_of us t)) s) ∙ e in absurd (cc (f))
      by false s (Some j) r go = let f = sym (ap (λ b. if b then Some 0 else option_map suc (place_of us t)) s ∙ ap (option_map suc) r) ∙ e in absurd (cc (f))
      by false s None r go = ap₂ (λ a b. a || b) (differs t u s p q.0) (go r)

  is_type : (before more : List Ty) (t : Ty) → types ≡ before ++ more → HasParts before t → IsType (length types) (written before) (tw t)
  is_type before more t e h = by t h
    where
      low : (a : Ty) → In before a → number_in types a < length (written before)
      low a h =
          let f = place_found before a h.0 h.1 in
          let n : number_in types a ≡ h.0 = ap (λ o. unwrap_or o 0) (ap (λ l. place_of l a) e ∙ place_in_front before more a h.0 h.1) in
          omega (arith, f.1, n, length-map before (type_written types table names))

      by : (t : Ty) → HasParts before t → IsType (length types) (written before) (tw t)
      by (PairTy a b) h = (low a h.0, low b h.1)
      by (AuthTy a) h = low a h
      by (NamedTy n) h = elim h [ ]
      by UnitTy h = tt
      by BoolTy h = tt
      by IntTy h = tt
      by TextTy h = tt
      by (VecTy n a) h = elim h [ ]

  other_types : (before more : List Ty) → types ≡ before ++ more → Behind before more → AllPartsIn before → AreTypes (length types) (written before) (written more)
  other_types before [] e h p = tt
  other_types before (t ∷ more) e h p =
      let e' : types ≡ (before ++ t ∷ []) ++ more = e ∙ sym (append_assoc before (t ∷ []) more) in
      let q = parts_in_all before (t ∷ more) t e h.1 in (
        is_type before (t ∷ more) t e h.1,
        not_listed t before h.0 q p,
        subst (λ l. AreTypes (length types) l (written more)) (map-append (type_written types table names) before (t ∷ [])) (other_types (before ++ t ∷ []) more e' h.2 (parts_append before t p q)),
      )

  pub are_types : Listing table types → TableIn table types table → IsNamedTable [] table names → length table ≤ 256 → AreTypes (length types) [] (written types)
  are_types h t n few =
      let named = named_from 0 table in
      subst (λ l. AreTypes (length types) [] (written l)) (sym h.is)
      (subst (AreTypes (length types) []) (sym (map-append (type_written types table names) named h.more))
      (named_types [] [] 0 table names (written h.more) refl refl (omega (arith, few)) n t (λ m. let e : 0 + m ≡ m = omega arith in ap (slice_get table) e) (λ m. let e : 0 + m ≡ m = omega arith in ap (slice_get names) e)
      (other_types named h.more h.is h.behind (named_parts 0 table))))
