-- Entries that stand behind their parts.
use Rattle.std.proofs.Common.{◌≡◌, inl, inr, Bool, true, false, List, [], ◌∷◌, ◌++◌, unwrap_or, if◌then◌else◌, refl, sym, subst, append_assoc}
use Rattle.std.proofs.lemmas.List.{append-nil}
use Rattle.core_terms.specs.Types.{Ty, PairTy, NamedTy, AuthTy, VecTy, Table, fields_at, item_types}
use Rattle.core_terms.specs.Values.{Value, PairV, ConV, ItemsV, Values, NoV, AndV}
use Rattle.images.specs.Images.{Entry, entry}
use Rattle.images.specs.SavedImages.{distinct, is_entry_of, walk}
use Rattle.images.proofs.AmongEntries.{IsAmong, AreAmong, among_push, among_split, are_behind, are_within}
use Rattle.images.proofs.EntryParts.{among_walks, fields, parts, walk_parts, walks}

module _ (types : Table) where
  -- each of the second ones stands behind its parts, where the first ones stand before all of them
  abbrev pub AreBehind : List Entry → List Entry → Type 0
  AreBehind done [] = Unit {0}
  AreBehind done (e ∷ rest) = AreAmong done (parts types e.of_type e.value) × AreBehind (done ++ e ∷ []) rest

  behind_within : (xs ys zs : List Entry) → ((e : Entry) → IsAmong xs e → IsAmong ys e) → AreBehind xs zs → AreBehind ys zs
  behind_within xs ys [] f h = tt
  behind_within xs ys (z ∷ zs) f h =
      (are_within xs ys (parts types z.of_type z.value) f h.0, behind_within (xs ++ z ∷ []) (ys ++ z ∷ []) zs (λ e g. among_push e z xs ys (f e) g) h.1)

  behind_append : (done xs ys : List Entry) → AreBehind done xs → AreBehind (done ++ xs) ys → AreBehind done (xs ++ ys)
  behind_append done [] ys h j = subst (λ zs. AreBehind zs ys) (append-nil done) j
  behind_append done (x ∷ xs) ys h j =
      (h.0, behind_append (done ++ x ∷ []) xs ys h.1 (subst (λ zs. AreBehind zs ys) (sym (append_assoc done (x ∷ []) xs)) j))

  -- they do so too where each stands once, where it first stood
  pub behind_distinct : (done xs : List Entry) → AreBehind [] done → AreBehind done xs → AreBehind [] (distinct done xs)
  behind_distinct done [] h j = h
  behind_distinct done (x ∷ xs) h j = by (is_entry_of x done) refl (λ front g k. behind_distinct front xs g k)
    where
      by : (b : Bool) → is_entry_of x done ≡ b → ((front : List Entry) → AreBehind [] front → AreBehind front xs → AreBehind [] (distinct front xs))
          → AreBehind [] (distinct (if b then done else done ++ x ∷ []) xs)
      by true there rest =
          rest done h (behind_within (done ++ x ∷ []) done xs
          (λ e g. elim (among_split done x e g) [ inl k ↦ k | inr s ↦ subst (λ e. IsAmong done e) s there ]) j.1)
      by false new rest = rest (done ++ x ∷ []) (behind_append [] done (x ∷ []) h (j.0, tt)) j.1

  whole_behind : (t : Ty) (v : Value) (done : List Entry) → AreBehind done (walks types (parts types t v)) → AreBehind done (walk types t v)
  whole_behind t v done h =
      let met = walks types (parts types t v) in
      let inside : AreAmong (done ++ met) (parts types t v) = among_walks types (done ++ met) (parts types t v) (are_behind done met) in
      subst (AreBehind done) (sym (walk_parts types t v)) (behind_append done met (entry t v ∷ []) h (inside, tt))

  mutual
    -- a walk meets the parts of a value before the value
    pub walk_behind : (t : Ty) (v : Value) (done : List Entry) → AreBehind done (walk types t v)
    walk_behind (PairTy a b) (PairV x y) done =
        whole_behind (PairTy a b) (PairV x y) done
        (behind_append done (walk types a x) (walk types b y ++ []) (walk_behind a x done)
        (behind_append (done ++ walk types a x) (walk types b y) [] (walk_behind b y (done ++ walk types a x)) tt))
    walk_behind (NamedTy number) (ConV tag vs) done =
        whole_behind (NamedTy number) (ConV tag vs) done (fields_behind (unwrap_or (fields_at types number tag) []) vs done)
    walk_behind (VecTy n t) (ItemsV vs) done = whole_behind (VecTy n t) (ItemsV vs) done (fields_behind (item_types n t) vs done)
    walk_behind (AuthTy t) v done = whole_behind (AuthTy t) v done (behind_append done (walk types t v) [] (walk_behind t v done) tt)
    walk_behind t v done = whole_behind t v done tt

    fields_behind : (ts : List Ty) (vs : Values) (done : List Entry) → AreBehind done (walks types (fields ts vs))
    fields_behind (t ∷ ts) (AndV v vs) done =
        behind_append done (walk types t v) (walks types (fields ts vs)) (walk_behind t v done) (fields_behind ts vs (done ++ walk types t v))
    fields_behind [] vs done = tt
    fields_behind (t ∷ ts) NoV done = tt
