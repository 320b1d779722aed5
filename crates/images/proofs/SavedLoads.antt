-- The image that is written for a state loads to the state.
use Rattle.std.proofs.Common.{◌≡◌, ℕ, ◌-◌, ◌<◌, ◌≤◌, true, false, List, [], ◌∷◌, ◌++◌, length, slice_get, Ok, Vec, Global, if◌then◌else◌, refl, ap, ◌∙◌, arith, length-append, sym}
use Rattle.images.proofs.NoOtherArrays.{no_other_arrays}
use Rattle.value_store.specs.Markings.{HasLimit}
use Rattle.core_terms.proofs.CodePrograms.{every_format}
use Rattle.core_terms.specs.Formats.{IsFormat}
use Rattle.std.specs.List.{All}
use Rattle.std.specs.Int.{w32, to_be_bytes}
use Rattle.std.proofs.lemmas.List.Elements.{All-head, All-nil, All-tail}
use Rattle.core_terms.specs.Types.{Ty, UnitTy, BoolTy, IntTy, TextTy, PairTy, NamedTy, AuthTy, VecTy, Table, has_numbers}
use Rattle.core_terms.specs.Values.{Value, UnitV, BoolV, IntV, TextV, PairV, ConV, ItemsV, IsIdeal}
use Rattle.core_terms.specs.Terms.{Program}
use Rattle.core_terms.specs.ProgramTypes.{types_meaning}
use Rattle.core_terms.specs.declared.program_types.Types as code
use Rattle.core_terms.proofs.TypingComplete.{same_self}
use Rattle.value_store.specs.Stores.{nodes_in, store_lent}
use Rattle.value_store.specs.declared.node.Ref.{Ref}
use Rattle.value_store.specs.declared.store.Store.{Store}
use Rattle.value_store.proofs.NodeLists.{slice_get_behind}
use Rattle.images.specs.Images.{Entry, entry, Refused, Root, RootType, Loaded, as_image, image_of, last, load_records, rooted}
use Rattle.images.specs.Parts.{HasNoOtherArrays}
use Rattle.images.proofs.Headed.{header_again}
use Rattle.images.specs.Saves.{IsSaved}
use Rattle.images.specs.SavedImages.{distinct, record_bytes, records_bytes, saved_image, walk}
use Rattle.images.specs.LoadedRoots.{IsStateAt}
use Rattle.images.proofs.BehindParts.{behind_distinct, walk_behind}
use Rattle.images.proofs.DistinctEntries.{all_distinct}
use Rattle.images.proofs.EntryParts.{parts, walks}
use Rattle.images.proofs.FitEntries.{IsFit, fit_walk}
use Rattle.images.proofs.LoadedAgain.{load_again}
use Rattle.images.proofs.PartLevels.{itself}
use Rattle.images.proofs.WholeLast.{whole_last}

-- a record has a byte at least
record_some : (types : Table) (all : List Entry) (t : Ty) (v : Value) → IsIdeal types t v → 1 ≤ length (record_bytes types all t v)
record_some types all (AuthTy t) v i = omega arith
record_some types all UnitTy UnitV i = omega arith
record_some types all BoolTy (BoolV true) i = omega arith
record_some types all BoolTy (BoolV false) i = omega arith
record_some types all IntTy (IntV z) i = omega arith
record_some types all TextTy (TextV bytes) i = omega arith
record_some types all (PairTy a b) (PairV x y) i = omega arith
record_some types all (NamedTy number) (ConV tag vs) i = omega arith
record_some types all (VecTy n t) (ItemsV vs) i = omega arith
record_some types all t v i = elim i [ ]

-- so there are no more records than bytes
records_few : (P : Program) (all xs : List Entry) → All (IsFit P) xs → length xs ≤ length (records_bytes P.types all xs)
records_few P all [] fit = omega arith
records_few P all (x ∷ xs) fit =
    let first = record_some P.types all x.of_type x.value (All-head (IsFit P) x xs fit).ideal in
    let rest = records_few P all xs (All-tail (IsFit P) x xs fit) in
    let both = length-append (record_bytes P.types all x.of_type x.value) (records_bytes P.types all xs) in
    omega (arith, first, rest, both)

root_again : (state : Ty) (entries xs : List Entry) (v : Value) → entries ≡ xs ++ entry state v ∷ [] → as_image state (Loaded entries []) ≡ Root v
root_again state entries xs v is =
    let e = entry state v in
    let long = length-append xs (e ∷ []) in
    let at : length (xs ++ e ∷ []) - 1 ≡ length xs = omega (arith, long) in
    ap (λ es. rooted state (last es) []) is
    ∙ ap (λ i. rooted state (slice_get (xs ++ e ∷ []) i) []) at
    ∙ ap (λ o. rooted state o []) (slice_get_behind xs e)
    ∙ ap (λ b. if b then Root v else Refused RootType) (same_self state)

module _ (P : Program) (digest : List ℕ) (v : Value) where
  abbrev entries : List Entry
  entries = distinct [] (walk P.types P.state v)

  -- where the parts of a state are fit for an image, its image loads to it
  pub loads_again : has_numbers P.types ≡ true → IsFormat P.format → HasNoOtherArrays P → length digest ≡ 32 → All (IsFit P) (walk P.types P.state v)
      → length (saved_image P digest v) < 4294967296 → image_of P digest (saved_image P digest v) ≡ Root v
  loads_again numbers format arrays long fit short =
      let image = saved_image P digest v in
      let records = records_bytes P.types entries entries in
      let kept : All (IsFit P) entries = all_distinct (IsFit P) [] (walk P.types P.state v) (All-nil (IsFit P)) fit in
      let few = records_few P entries entries kept in
      let size = length-append (P.format.image_magic ++ digest ++ to_be_bytes w32 (length entries)) records in
      let go = λ (count : ℕ) (bytes : List ℕ). as_image P.state (load_records P (length image) count [] bytes) in
      header_again P.format.image_magic digest records (length entries) go format.image_magic_length long (omega (arith, few, size, short))
      ∙ ap (as_image P.state)
      (load_again P (length image) numbers format.limit_fits arrays [] entries (behind_distinct P.types [] (walk P.types P.state v) tt (walk_behind P.types P.state v [])) kept (omega (arith, few, size, short)))
      ∙ root_again P.state entries (distinct [] (walks P.types (parts P.types P.state v))) v (whole_last P.types P.state v)

-- the image that is written for a state that stands in a store loads to it
pub state_loads : (p : code.Types) (digest : List ℕ) (store : Store) (root : Ref) (v : Value) (image : Vec ℕ Global) → length digest ≡ 32
    → HasLimit (types_meaning p) (store_lent store) → IsStateAt (types_meaning p) store root v → IsSaved (saved_image (types_meaning p) digest v) (Ok image) → image_of (types_meaning p) digest image.items ≡ Root v
state_loads p digest store root v image long limit stands saved =
    let P = types_meaning p in
    let whole = itself P.types (length P.types) P.state in
    let fit = fit_walk P (nodes_in store) store.sound (sym limit.is) P.state v root.0 stands whole in
    ap (image_of P digest) saved.0 ∙ loads_again P digest v p.numbers (every_format p []) (no_other_arrays p) long fit (let short = saved.1 in omega (arith, short))
