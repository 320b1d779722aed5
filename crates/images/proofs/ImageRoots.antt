-- The state that an image keeps: an ideal value of the state's type, within the limits, and with it all that is authenticated in it.
use Rattle.std.proofs.Common.{◌≡◌, ℕ, zero, suc, ◌+◌, ◌*◌, ◌-◌, ◌^◌, ◌==◌, Bool, true, false, not, List, [], ◌∷◌, ◌++◌, length, take, drop, Option, Some, None, option_map, slice_get, slice_index_or, unwrap_or, bytes_eq, if◌then◌else◌, cond, refl, sym, subst, arith, lt-ltb}
use Rattle.std.specs.Prelude.{pos, negsuc, IsUtf8, nat_lt, nat_le}
use Rattle.std.specs.Int.{w16, w32, w64, cast_signed, from_be_bytes}
use Rattle.std.specs.List.{All}
use Rattle.std.specs.Option.{option_and_then}
use Rattle.std.specs.Str.{is_utf8}
use Rattle.std.proofs.lemmas.Bool.{ltb-false}
use Rattle.std.proofs.lemmas.List.Elements.{All-nil, All-push}
use Rattle.std.proofs.lemmas.Option.{get_or_from_slice_get, slice_get_within}
use Rattle.std.proofs.lemmas.Str.{IsUtf8-from_is_utf8}
use Rattle.core_terms.specs.Formats.{depth_limit}
use Rattle.core_terms.specs.Terms.{Program}
use Rattle.core_terms.specs.Types.{Ty, NamedTy, AuthTy, VecTy, fields_at, item_types, OnFields, same_type}
use Rattle.core_terms.specs.Values.{Value, ConV, ItemsV, Values, AndV, IsIdeal, AreIdeal, IsWithin, AuthWithin, AuthWithinAll, size, depth, int_fits}
use Rattle.core_terms.proofs.SameTypes.{same_sound}
use Rattle.images.specs.ImageLaws.{RootsFit}
use Rattle.images.specs.Images.{Entry, entry, Loading, Loaded, FaultyImage, BadRecord, TooBig, TooDeep, Cut, Image, Root, Refused, Magic, OtherProgram, RootType, Leftover, array_from, as_image, checked_entry, field_count, fields_from, image_of, last, load_records, pair_from, rooted, stands_for, with_record, within_limits}
use Rattle.images.specs.Parts.{is_part}
use Rattle.images.specs.Records.{Record, UnitRecord, BoolRecord, IntRecord, TextRecord, PairRecord, ConRecord, AuthRecord, VecRecord, RecordRead, ReadRecord, CutRecord, NoRecord, bool_record, con_record, fields_record, fixed, number_of, numbers_of, vec_record, read_record, text_record}

-- values that are kept

-- an ideal value of the type, within the limits, as is each authenticated value in it
pub record IsKept (P : Program) (t : Ty) (v : Value) : Type 0 where
  pub ideal : IsIdeal P.types t v
  pub fits : IsWithin P.format.limit P.types t v
  pub deep : AuthWithin P.format.limit P.types t v

abbrev IsKeptEntry : Program → Entry → Type 0
IsKeptEntry P e = IsKept P e.of_type e.value

-- the same before its limits are judged
abbrev IsFound : Program → Entry → Type 0
IsFound P e = IsIdeal P.types e.of_type e.value × AuthWithin P.format.limit P.types e.of_type e.value

-- what holds of all holds of each
of_all : {A : Type 0} (H : A → Type 0) (xs : List A) (i : ℕ) (x : A) → All H xs → slice_get xs i ≡ Some x → H x
of_all H xs i x all there = subst H (get_or_from_slice_get xs i x x there) (all i x (slice_get_within xs i x there))

-- what bytes are read as

-- 64 bits are an int, whatever number they stand for
int_holds : (n : ℕ) → int_fits (cast_signed w64 n) ≡ true
int_holds n = by (nat_lt n (2 ^ 63)) refl
  where
    by : (low : Bool) → nat_lt n (2 ^ 63) ≡ low → int_fits (cond low (pos n) (negsuc (2 ^ 64 - suc n))) ≡ true
    by true low = low
    by false low = let most = ltb-false n (2 ^ 63) low in lt-ltb (2 ^ 64 - suc n) (2 ^ 63) (omega (arith, most))

module _ (P : Program) where
  -- what a record's own bytes have to hold for a value of its type
  abbrev IsRecord : Record → Type 0
  IsRecord (IntRecord z) = int_fits z ≡ true
  IsRecord (TextRecord bytes) = IsUtf8 bytes
  IsRecord (ConRecord number tag fields) = (ts : List Ty) × (fields_at P.types number tag ≡ Some ts)
  IsRecord found = Unit {0}

  abbrev OnRead : RecordRead → Type 0
  OnRead (ReadRecord found rest) = IsRecord found
  OnRead other = Unit {0}

  either_read : (test : Bool) (first other : RecordRead) → OnRead first → OnRead other → OnRead (cond test first other)
  either_read true first other a b = a
  either_read false first other a b = b

  fixed_read : (n : ℕ) (make : List ℕ → Record) (bytes : List ℕ) → ((bytes : List ℕ) → IsRecord (make bytes)) → OnRead (fixed n make bytes)
  fixed_read n make bytes all = either_read (nat_le n (length bytes)) _ CutRecord (all (take n bytes)) tt

  bool_read : (bytes : List ℕ) → OnRead (bool_record bytes)
  bool_read [] = tt
  bool_read (zero ∷ rest) = tt
  bool_read (suc zero ∷ rest) = tt
  bool_read (suc (suc b) ∷ rest) = tt

  utf8_read : (text rest : List ℕ) → OnRead (if is_utf8 text then ReadRecord (TextRecord text) rest else NoRecord)
  utf8_read text rest = by (is_utf8 text) refl
    where
      by : (good : Bool) → is_utf8 text ≡ good → OnRead (cond good (ReadRecord (TextRecord text) rest) NoRecord)
      by true good = IsUtf8-from_is_utf8 text good
      by false good = tt

  text_read : (bytes : List ℕ) → OnRead (text_record bytes)
  text_read bytes =
      let n = from_be_bytes w32 (take 4 bytes) in
      let text = take n (drop 4 bytes) in
      let rest = drop n (drop 4 bytes) in
      let whole : RecordRead = if is_utf8 text then ReadRecord (TextRecord text) rest else NoRecord in
      either_read (nat_le 4 (length bytes)) (if nat_le (4 + n) (length bytes) then whole else CutRecord) CutRecord
      (either_read (nat_le (4 + n) (length bytes)) whole CutRecord (utf8_read text rest) tt) tt

  fields_read : (number tag count : ℕ) (bytes : List ℕ) → IsRecord (ConRecord number tag []) → OnRead (fields_record number tag (Some count) bytes)
  fields_read number tag count bytes there = fixed_read _ (λ bs. ConRecord number tag (numbers_of count bs)) bytes (λ bs. there)

  con_read : (file_size : ℕ) (bytes : List ℕ) → OnRead (con_record (field_count P file_size) bytes)
  con_read file_size bytes =
      let number = from_be_bytes w16 (take 2 bytes) in
      let tag = slice_index_or bytes 2 0 in
      either_read (nat_le 3 (length bytes)) (fields_record number tag (field_count P file_size number tag) (drop 3 bytes)) CutRecord
      (counted number tag (drop 3 bytes)) tt
    where
      in_table : (number tag : ℕ) (bytes : List ℕ) (found : Option (List Ty)) → fields_at P.types number tag ≡ found
          → OnRead (fields_record number tag (option_map length found) bytes)
      in_table number tag bytes None is = tt
      in_table number tag bytes (Some ts) is = fields_read number tag (length ts) bytes (ts, is)

      by : (number tag : ℕ) (bytes : List ℕ) (part : Bool)
          → OnRead (fields_record number tag (if part then option_map length (fields_at P.types number tag) else None) bytes)
      by number tag bytes true = in_table number tag bytes (fields_at P.types number tag) refl
      by number tag bytes false = tt

      counted : (number tag : ℕ) (bytes : List ℕ) → OnRead (fields_record number tag (field_count P file_size number tag) bytes)
      counted number tag bytes = by number tag bytes (is_part P.types (NamedTy number) P.state)

  vec_read : (bytes : List ℕ) → OnRead (vec_record bytes)
  vec_read [] = tt
  vec_read (count ∷ rest) = fixed_read (4 * count) (λ bs. VecRecord (numbers_of count bs)) rest (λ bs. tt)

  record_read : (file_size : ℕ) (bytes : List ℕ) → OnRead (read_record P.format.arrays (field_count P file_size) bytes)
  record_read file_size [] = tt
  record_read file_size (kind ∷ rest) =
      either_read (kind == 0) _ _ tt (either_read (kind == 1) _ _ (bool_read rest)
      (either_read (kind == 2) _ _ (fixed_read 8 (λ bs. IntRecord (cast_signed w64 (from_be_bytes w64 bs))) rest (λ bs. int_holds (from_be_bytes w64 bs)))
      (either_read (kind == 3) _ _ (text_read rest)
      (either_read (kind == 4) _ _ (fixed_read 8 (λ bs. PairRecord (number_of (take 4 bs)) (number_of (drop 4 bs))) rest (λ bs. tt))
      (either_read (kind == 5) _ _ (con_read file_size rest)
      (either_read (kind == 6) _ _ (fixed_read 4 (λ bs. AuthRecord (number_of bs)) rest (λ bs. tt))
      (either_read (kind == 7) _ NoRecord (either_read P.format.arrays _ NoRecord (vec_read rest) tt) tt)))))))

  -- what records stand for

  module _ (entries : List Entry) (kept : All (IsKeptEntry P) entries) where
    at : (i : ℕ) (e : Entry) → slice_get entries i ≡ Some e → IsKeptEntry P e
    at i e there = of_all (IsKeptEntry P) entries i e kept there

    abbrev OnFound : Option Entry → Type 0
    OnFound None = Unit {0}
    OnFound (Some e) = IsFound P e

    abbrev OnValues : List Ty → Option Values → Type 0
    OnValues ts None = Unit {0}
    OnValues ts (Some vs) = AreIdeal P.types ts vs × AuthWithinAll P.format.limit P.types ts vs

    pair_found : (i j : ℕ) → OnFound (stands_for P.types entries (PairRecord i j))
    pair_found i j = by (slice_get entries i) (slice_get entries j) (λ e is. at i e is) (λ e is. at j e is)
      where
        by : (a b : Option Entry) → ((e : Entry) → a ≡ Some e → IsKeptEntry P e) → ((e : Entry) → b ≡ Some e → IsKeptEntry P e)
            → OnFound (option_and_then (λ a. option_map (λ b. pair_from a b) b) a)
        by None b first second = tt
        by (Some a) None first second = tt
        by (Some a) (Some b) first second = let x = first a refl in let y = second b refl in ((x.ideal, y.ideal), (x.deep, y.deep))

    auth_found : (i : ℕ) → OnFound (stands_for P.types entries (AuthRecord i))
    auth_found i = by (slice_get entries i) (λ e is. at i e is)
      where
        by : (a : Option Entry) → ((e : Entry) → a ≡ Some e → IsKeptEntry P e) → OnFound (option_map (λ a. entry (AuthTy a.of_type) a.value) a)
        by None kept = tt
        by (Some a) kept = let x = kept a refl in (x.ideal, (x.fits, x.deep))

    values_found : (fields : List ℕ) (ts : List Ty) → OnValues ts (fields_from entries fields ts)
    values_found [] [] = (tt, tt)
    values_found [] (t ∷ ts) = tt
    values_found (i ∷ is) [] = tt
    values_found (i ∷ is) (t ∷ ts) = by (slice_get entries i) (λ e there. at i e there) (fields_from entries is ts) (values_found is ts)
      where
        typed : (e : Entry) (same : Bool) → same_type e.of_type t ≡ same → IsKeptEntry P e → (rest : Option Values) → OnValues ts rest
            → OnValues (t ∷ ts) (if same then option_map (λ vs. AndV e.value vs) rest else None)
        typed e false same x rest more = tt
        typed e true same x None more = tt
        typed e true same x (Some vs) more =
            let y = subst (λ t. IsKept P t e.value) (same_sound e.of_type t same) x in ((y.ideal, more.0), (y.deep, more.1))

        by : (a : Option Entry) → ((e : Entry) → a ≡ Some e → IsKeptEntry P e) → (rest : Option Values) → OnValues ts rest
            → OnValues (t ∷ ts) (option_and_then (λ e. if same_type e.of_type t then option_map (λ vs. AndV e.value vs) rest else None) a)
        by None kept rest more = tt
        by (Some e) kept rest more = typed e (same_type e.of_type t) refl (kept e refl) rest more

    con_found : (number tag : ℕ) (fields : List ℕ) → IsRecord (ConRecord number tag fields) → OnFound (stands_for P.types entries (ConRecord number tag fields))
    con_found number tag fields (ts, is) =
        by (fields_from entries fields (unwrap_or (fields_at P.types number tag) []))
        (subst (λ o. OnValues (unwrap_or o []) (fields_from entries fields (unwrap_or (fields_at P.types number tag) []))) is
        (values_found fields (unwrap_or (fields_at P.types number tag) [])))
      where
        by : (vs : Option Values) → OnValues ts vs → OnFound (option_map (λ vs. entry (NamedTy number) (ConV tag vs)) vs)
        by None good = tt
        by (Some vs) good = (
          subst (λ o. OnFields o (λ ts. AreIdeal P.types ts vs)) (sym is) good.0,
          subst (λ o. OnFields o (λ ts. AuthWithinAll P.format.limit P.types ts vs)) (sym is) good.1,
        )

    vec_found : (items : List ℕ) → OnFound (stands_for P.types entries (VecRecord items))
    vec_found [] = tt
    vec_found (i ∷ is) = by (slice_get entries i)
      where
        of_type : (t : Ty) (vs : Option Values) → OnValues (item_types (length (i ∷ is)) t) vs → OnFound (option_map (λ vs. entry (VecTy (length (i ∷ is)) t) (ItemsV vs)) vs)
        of_type t None good = tt
        of_type t (Some vs) good = good

        by : (a : Option Entry) → OnFound (option_and_then (λ a. array_from entries (i ∷ is) a.of_type) a)
        by None = tt
        by (Some a) = of_type a.of_type (fields_from entries (i ∷ is) (item_types (length (i ∷ is)) a.of_type)) (values_found (i ∷ is) (item_types (length (i ∷ is)) a.of_type))

    found : (r : Record) → IsRecord r → OnFound (stands_for P.types entries r)
    found UnitRecord good = (tt, tt)
    found (BoolRecord b) good = (tt, tt)
    found (IntRecord z) good = (good, tt)
    found (TextRecord bytes) good = (good, tt)
    found (PairRecord i j) good = pair_found i j
    found (ConRecord number tag fields) good = con_found number tag fields good
    found (AuthRecord i) good = auth_found i
    found (VecRecord items) good = vec_found items

  -- what loading gives

  abbrev OnLoading : Loading → Type 0
  OnLoading (Loaded entries rest) = All (IsKeptEntry P) entries
  OnLoading (FaultyImage fault) = Unit {0}

  module _ (file_size : ℕ) where
    judged : (i : ℕ) (e : Entry) (go : Loading) → IsFound P e → (IsKeptEntry P e → OnLoading go) → OnLoading (within_limits P file_size i e go)
    judged i e go found more =
        by (not (is_part P.types e.of_type P.state)) (nat_lt P.format.limit (size P.types e.of_type e.value)) refl
        (nat_lt depth_limit (depth P.types e.of_type e.value)) refl
      where
        by : (other : Bool) (big : Bool) → nat_lt P.format.limit (size P.types e.of_type e.value) ≡ big → (deep : Bool)
            → nat_lt depth_limit (depth P.types e.of_type e.value) ≡ deep
            → OnLoading (if other then FaultyImage (BadRecord i) else (if big then FaultyImage (TooBig i) else (if deep then FaultyImage (TooDeep i) else go)))
        by true big b deep d = tt
        by false true b deep d = tt
        by false false b true d = tt
        by false false b false d =
            let small = ltb-false P.format.limit (size P.types e.of_type e.value) b in
            let shallow = ltb-false depth_limit (depth P.types e.of_type e.value) d in
            more (record { ideal = found.0; fits = record { size_fits = small; depth_fits = shallow }; deep = found.1 })

    entry_loads : (i : ℕ) (found : Option Entry) (go : Entry → Loading) → ((e : Entry) → found ≡ Some e → IsFound P e)
        → ((e : Entry) → IsKeptEntry P e → OnLoading (go e)) → OnLoading (checked_entry P file_size i found go)
    entry_loads i None go good more = tt
    entry_loads i (Some e) go good more = judged i e (go e) (good e refl) (more e)

    record_loads : (i : ℕ) (entries : List Entry) → All (IsKeptEntry P) entries → (read : RecordRead) → OnRead read → (go : Entry → List ℕ → Loading)
        → ((e : Entry) (rest : List ℕ) → IsKeptEntry P e → OnLoading (go e rest)) → OnLoading (with_record P file_size i entries read go)
    record_loads i entries kept CutRecord good go more = tt
    record_loads i entries kept NoRecord good go more = tt
    record_loads i entries kept (ReadRecord r rest) good go more =
        entry_loads i (stands_for P.types entries r) (λ e. go e rest) (λ e is. subst (OnFound entries kept) is (found entries kept r good))
        (λ e kept. more e rest kept)

    loads : (more : ℕ) (entries : List Entry) (bytes : List ℕ) → All (IsKeptEntry P) entries → OnLoading (load_records P file_size more entries bytes)
    loads zero entries bytes kept = kept
    loads (suc more) entries bytes kept =
        record_loads (length entries) entries kept (read_record P.format.arrays (field_count P file_size) bytes) (record_read file_size bytes)
        (λ e rest. load_records P file_size more (entries ++ e ∷ []) rest)
        (λ e rest good. loads more (entries ++ e ∷ []) rest (All-push (IsKeptEntry P) entries e kept good))

  -- the root

  abbrev OnImage : Image → Type 0
  OnImage (Root v) = IsKept P P.state v
  OnImage (Refused fault) = Unit {0}

  root_kept : (o : Option Entry) → ((e : Entry) → o ≡ Some e → IsKeptEntry P e) → (rest : List ℕ) → OnImage (rooted P.state o rest)
  root_kept None good rest = tt
  root_kept (Some e) good [] = by (same_type e.of_type P.state) refl
    where
      by : (same : Bool) → same_type e.of_type P.state ≡ same → OnImage (if same then Root e.value else Refused RootType)
      by true same = subst (λ t. IsKept P t e.value) (same_sound e.of_type P.state same) (good e refl)
      by false same = tt
  root_kept (Some e) good (b ∷ rest) = by (same_type e.of_type P.state)
    where
      by : (same : Bool) → OnImage (if same then Refused (Leftover (length (b ∷ rest))) else Refused RootType)
      by true = tt
      by false = tt

  image_loaded : (loading : Loading) → OnLoading loading → OnImage (as_image P.state loading)
  image_loaded (Loaded entries rest) kept = root_kept (last entries) (λ e there. of_all (IsKeptEntry P) entries (length entries - 1) e kept there) rest
  image_loaded (FaultyImage fault) kept = tt

  either_image : (test : Bool) (first other : Image) → OnImage first → OnImage other → OnImage (cond test first other)
  either_image true first other a b = a
  either_image false first other a b = b

  image_kept : (digest bytes : List ℕ) → OnImage (image_of P digest bytes)
  image_kept digest bytes =
      let count = from_be_bytes w32 (take 4 (drop 36 bytes)) in
      let loading = load_records P (length bytes) count [] (drop 40 bytes) in
      let own : Image = if not (bytes_eq (take 32 (drop 4 bytes)) digest) then Refused OtherProgram else as_image P.state loading in
      let long : Image = if nat_lt (length bytes) 40 then Refused (Cut (length bytes)) else own in
      either_image (not (bytes_eq (take 4 bytes) P.format.image_magic)) (Refused Magic) long tt
      (either_image (nat_lt (length bytes) 40) (Refused (Cut (length bytes))) own tt
      (either_image (not (bytes_eq (take 32 (drop 4 bytes)) digest)) (Refused OtherProgram) (as_image P.state loading) tt
      (image_loaded loading (loads (length bytes) count [] (drop 40 bytes) (All-nil (IsKeptEntry P))))))

-- the root of an image is a state that is kept
pub root_is_kept : (P : Program) (digest bytes : List ℕ) (v : Value) → image_of P digest bytes ≡ Root v → IsKept P P.state v
root_is_kept P digest bytes v is = subst (OnImage P) is (image_kept P digest bytes)

pub roots_fit : RootsFit
roots_fit P digest bytes v is = let kept = root_is_kept P digest bytes v is in (kept.ideal, kept.fits, kept.deep)
