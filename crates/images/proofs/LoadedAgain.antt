-- The records of entries, loaded one after another.
use Rattle.std.proofs.Common.{◌≡◌, ℕ, ◌<◌, ◌≤◌, true, false, List, [], ◌∷◌, ◌++◌, length, take, drop, None, if◌then◌else◌, refl, sym, ap, ap₂, ◌∙◌, subst, arith, length-append, append_assoc, le-ltb, ◌^◌}
use Rattle.std.specs.Int.{w64, to_be_bytes, from_be_bytes, cast_signed, cast_unsigned}
use Rattle.std.specs.List.{All}
use Rattle.std.specs.Option.{option_map}
use Rattle.std.proofs.lemmas.Bool.{leb-true}
use Rattle.std.proofs.lemmas.List.{append-nil}
use Rattle.std.proofs.lemmas.List.Elements.{All-head, All-tail}
use Rattle.core_terms.specs.Formats.{depth_limit}
use Rattle.core_terms.specs.Types.{Ty, UnitTy, BoolTy, IntTy, TextTy, PairTy, NamedTy, AuthTy, VecTy, fields_at, has_numbers, item_types, OnFields}
use Rattle.core_terms.specs.Values.{Value, UnitV, BoolV, IntV, TextV, PairV, ConV, ItemsV, Values, IsIdeal, AreIdeal, size, depth}
use Rattle.core_terms.specs.Terms.{Program}
use Rattle.images.specs.Images.{Entry, entry, Loading, Loaded, checked_entry, field_count, load_records, with_record, within_limits}
use Rattle.images.specs.Parts.{HasNoOtherArrays, is_part}
use Rattle.images.specs.Records.{AuthRecord, IntRecord, PairRecord, ReadRecord, number_of, read_record}
use Rattle.images.specs.SavedImages.{record_bytes, records_bytes, reference}
use Rattle.images.proofs.AmongEntries.{AreAmong}
use Rattle.images.proofs.BehindParts.{AreBehind}
use Rattle.images.proofs.EntryParts.{parts}
use Rattle.images.proofs.FitEntries.{IsFit}
use Rattle.images.proofs.NumberedEntries.{number_again}
use Rattle.images.proofs.Fronts.{fixed_front, int_back, text_front}
use Rattle.images.proofs.ReadEntries.{con_back, record_among, stands_again, vec_back}
use Rattle.images.proofs.RecordBytes.{record_more}
use Rattle.images.proofs.RecordReading.{number_few}

module _ (P : Program) (file_size : ℕ) (numbers : has_numbers P.types ≡ true) (limit : P.format.limit < 2 ^ 32)
    (arrays : HasNoOtherArrays P) where
  counted : (number tag : ℕ) → is_part P.types (NamedTy number) P.state ≡ true → field_count P file_size number tag ≡ option_map length (fields_at P.types number tag)
  counted number tag h = ap (λ b. if b then option_map length (fields_at P.types number tag) else None) h

  module _ (done : List Entry) (few : length done ≤ 4294967296) where
    number_small : (number tag : ℕ) (vs : Values) → OnFields (fields_at P.types number tag) (λ ts. AreIdeal P.types ts vs) → number < 65536
    number_small number tag vs h =
        let there = number_few P.types number tag (λ ts. AreIdeal P.types ts vs) h in
        let most = leb-true (length P.types) 256 numbers in
        omega (arith, there, most)

    read_entry : (t : Ty) (v : Value) (rest : List ℕ) → IsIdeal P.types t v → size P.types t v ≤ P.format.limit → is_part P.types t P.state ≡ true → AreAmong done (parts P.types t v)
        → read_record P.format.arrays (field_count P file_size) (record_bytes P.types done t v ++ rest) ≡ ReadRecord (record_among P.types done t v) rest
    read_entry (AuthTy t) v rest i s p h =
        fixed_front 4 (λ bs. AuthRecord (number_of bs)) (reference done t v) rest refl ∙ ap (λ n. ReadRecord (AuthRecord n) rest) (number_again (entry t v) done few h.0)
    read_entry UnitTy UnitV rest i s p h = refl
    read_entry BoolTy (BoolV true) rest i s p h = refl
    read_entry BoolTy (BoolV false) rest i s p h = refl
    read_entry IntTy (IntV z) rest i s p h =
        fixed_front 8 (λ bs. IntRecord (cast_signed w64 (from_be_bytes w64 bs))) (to_be_bytes w64 (cast_unsigned w64 z)) rest refl
        ∙ ap (λ z. ReadRecord (IntRecord z) rest) (int_back z i)
    read_entry TextTy (TextV bytes) rest i s p h = text_front bytes rest (omega (arith, s, limit)) i
    read_entry (PairTy a b) (PairV x y) rest i s p h =
        fixed_front 8 (λ bs. PairRecord (number_of (take 4 bs)) (number_of (drop 4 bs))) (reference done a x ++ reference done b y) rest refl
        ∙ ap₂ (λ m n. ReadRecord (PairRecord m n) rest) (number_again (entry a x) done few h.0) (number_again (entry b y) done few h.1.0)
    read_entry (NamedTy number) (ConV tag vs) rest i s p h =
        con_back P.types done few (field_count P file_size) number tag vs rest (number_small number tag vs i) (counted number tag p) i h
    read_entry (VecTy n t) (ItemsV vs) rest i s p h = rw (arrays n t p) (vec_back P.types done few n t vs rest i h)
    read_entry t v rest i s p h = elim i [ ]

    next_entry : (e : Entry) (rest : List ℕ) (go : Entry → List ℕ → Loading) → IsFit P e → AreAmong done (parts P.types e.of_type e.value)
        → with_record P file_size (length done) done (read_record P.format.arrays (field_count P file_size) (record_bytes P.types done e.of_type e.value ++ rest)) go ≡ go e rest
    next_entry e rest go fit h =
        let small = le-ltb P.format.limit (size P.types e.of_type e.value) fit.within.size_fits in
        let shallow = le-ltb depth_limit (depth P.types e.of_type e.value) fit.within.depth_fits in
        let judged : within_limits P file_size (length done) e (go e rest) ≡ go e rest = rw (fit.part, small, shallow) refl in
        ap (λ r. with_record P file_size (length done) done r go) (read_entry e.of_type e.value rest fit.ideal fit.within.size_fits fit.part h)
        ∙ ap (λ o. checked_entry P file_size (length done) o (λ e. go e rest)) (stands_again P.types done e.of_type e.value fit.has_length fit.ideal h)
        ∙ judged

  -- the records of the entries to come load to them, behind those that are loaded
  pub load_again : (done rest : List Entry) → AreBehind P.types done rest → All (IsFit P) rest → length (done ++ rest) ≤ 4294967296
      → load_records P file_size (length rest) done (records_bytes P.types (done ++ rest) rest) ≡ Loaded (done ++ rest) []
  load_again done [] behind fit few = ap (λ es. Loaded es []) (sym (append-nil done))
  load_again done (e ∷ rest) behind fit few =
      let all = done ++ e ∷ rest in
      let more = done ++ e ∷ [] in
      let same : more ++ rest ≡ all = append_assoc done (e ∷ []) rest in
      let long = length-append done (e ∷ rest) in
      let go = λ (e : Entry) (bytes : List ℕ). load_records P file_size (length rest) (done ++ e ∷ []) bytes in
      ap (λ (bytes : List ℕ). with_record P file_size (length done) done (read_record P.format.arrays (field_count P file_size) (bytes ++ records_bytes P.types all rest)) go)
      (record_more P.types done (e ∷ rest) e behind.0)
      ∙ next_entry done (omega (arith, long, few)) e (records_bytes P.types all rest) go (All-head (IsFit P) e rest fit) behind.0
      ∙ ap (λ es. load_records P file_size (length rest) more (records_bytes P.types es rest)) (sym same)
      ∙ load_again more rest behind.1 (All-tail (IsFit P) e rest fit) (subst (λ es. length es ≤ 4294967296) (sym same) few)
      ∙ ap (λ es. Loaded es []) same
