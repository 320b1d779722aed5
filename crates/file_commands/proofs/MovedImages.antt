-- An image of a program, addressed to one that keeps its states, is an image of that one, and of the same state.
use Rattle.std.proofs.Common.{◌≡◌, ℕ, zero, suc, ◌+◌, ◌-◌, ◌<◌, ◌≤◌, ◌==◌, Bool, true, false, List, [], ◌∷◌, ◌++◌, length, take, drop, Option, Some, None, cond, if◌then◌else◌, nat_lt, not, refl, sym, ap, ap₂, ◌∙◌, subst, arith, append_assoc, le-ltb, ltb-false, length-append, length-drop}
use borrow.Rule.Slice.PartMut.{put_mid}
use Rattle.std.specs.Prelude.{bytes_eq}
use Rattle.std.specs.Int.{w32, from_be_bytes}
use Rattle.std.proofs.Math.Seq.{take-append_seam, drop-append_seam}
use Rattle.std.proofs.lemmas.List.{drop-drop}
use Rattle.std.proofs.lemmas.Slice.Eq.{bytes_eq-Decides}
use Rattle.core_terms.specs.Formats.{Format, depth_limit}
use Rattle.core_terms.specs.Terms.{Function, Program}
use Rattle.core_terms.specs.Instructions.{Instruction}
use Rattle.core_terms.specs.Types.{Ty, Table}
use Rattle.core_terms.specs.Values.{Value, size, depth}
use Rattle.images.specs.Images.{Entry, FaultyImage, Image, ImageFault, Loaded, Loading, Refused, Root, as_image, checked_entry, field_count, headed, image_of, load_records, stands_for, with_record, within_limits}
use Rattle.images.specs.Parts.{is_part}
use Rattle.images.specs.Records.{CutRecord, NoRecord, ReadRecord, Record, RecordRead, auth_record, bool_record, con_record, int_record, pair_record, read_record, text_record, vec_record}
use Rattle.file_commands.specs.MovedStates.{KeepsStates}

-- ---- a record that is read where there are no arrays is read where there may be some

module _ (found : Record) (rest : List ℕ) where
  abbrev IsRead : RecordRead → Type 0
  IsRead read = read ≡ ReadRecord found rest

  -- the first of two ways, or the second, which may be another one
  either : (t : Bool) (first second other : RecordRead) → (IsRead second → IsRead other) → IsRead (if t then first else second) → IsRead (if t then first else other)
  either true first second other later is = is
  either false first second other later is = later is

  none_read : (t : Bool) (other : RecordRead) → IsRead (if t then NoRecord else NoRecord) → IsRead other
  none_read true other is = absurd (cc)
  none_read false other is = absurd (cc)

  read_with : (arrays : Bool) (count : ℕ → ℕ → Option ℕ) (bytes : List ℕ) → IsRead (read_record false count bytes) → IsRead (read_record arrays count bytes)
  read_with arrays count [] is = absurd (cc)
  read_with arrays count (kind ∷ bytes) is =
      either (kind == 0) _ _ _
      (either (kind == 1) _ _ _
      (either (kind == 2) _ _ _
      (either (kind == 3) _ _ _
      (either (kind == 4) _ _ _
      (either (kind == 5) _ _ _
      (either (kind == 6) _ _ _ (none_read (kind == 7) _))))))) is

-- ---- what is loaded by the one is loaded by the other

module _ (P : Program) (format : Format) (functions : List Function) (code : Option (List (List Instruction))) (limit : P.format.limit ≤ format.limit) (arrays : P.format.arrays ≡ false) where
  abbrev Q : Program
  Q = record { format = format; types = P.types; state = P.state; functions = functions; code = code }

  module _ (file_size other_size : ℕ) (entries : List Entry) (rest : List ℕ) where
    abbrev IsLoaded : Loading → Type 0
    IsLoaded loading = loading ≡ Loaded entries rest

    -- a test that passes, and one that passes with it
    past : (t u : Bool) (fault : ImageFault) (go other : Loading) → (t ≡ false → u ≡ false) → (IsLoaded go → IsLoaded other)
        → IsLoaded (if t then FaultyImage fault else go) → IsLoaded (if u then FaultyImage fault else other)
    past true u fault go other with later is = absurd (cc)
    past false u fault go other with later is = let passes : u ≡ false = with refl in rw passes (later is)

    within : (i : ℕ) (e : Entry) (go other : Loading) → (IsLoaded go → IsLoaded other) → IsLoaded (within_limits P file_size i e go) → IsLoaded (within_limits Q other_size i e other)
    within i e go other later =
        past (not (is_part P.types e.of_type P.state)) _ _ _ _ (λ is. is)
        (past (nat_lt P.format.limit (size P.types e.of_type e.value)) _ _ _ _
        (λ is. le-ltb format.limit (size P.types e.of_type e.value) (let small = ltb-false P.format.limit (size P.types e.of_type e.value) is in omega (arith, small, limit)))
        (past (nat_lt depth_limit (depth P.types e.of_type e.value)) _ _ _ _ (λ is. is) later))

    checked_more : (i : ℕ) (o : Option Entry) (go other : Entry → Loading) → ((e : Entry) → IsLoaded (go e) → IsLoaded (other e))
        → IsLoaded (checked_entry P file_size i o go) → IsLoaded (checked_entry Q other_size i o other)
    checked_more i None go other later is = absurd (cc)
    checked_more i (Some e) go other later is = within i e (go e) (other e) (later e) is

    recorded : (i : ℕ) (before : List Entry) (read other_read : RecordRead) (go other : Entry → List ℕ → Loading)
        → ((found : Record) (behind : List ℕ) → read ≡ ReadRecord found behind → other_read ≡ ReadRecord found behind)
        → ((e : Entry) (behind : List ℕ) → IsLoaded (go e behind) → IsLoaded (other e behind))
        → IsLoaded (with_record P file_size i before read go) → IsLoaded (with_record Q other_size i before other_read other)
    recorded i before CutRecord other_read go other reads later is = absurd (cc)
    recorded i before NoRecord other_read go other reads later is = absurd (cc)
    recorded i before (ReadRecord found behind) other_read go other reads later is =
        rw (reads found behind refl) (checked_more i (stands_for P.types before found) (λ e. go e behind) (λ e. other e behind) (λ e. later e behind) is)

    loaded : (count : ℕ) (before : List Entry) (bytes : List ℕ) → IsLoaded (load_records P file_size count before bytes) → IsLoaded (load_records Q other_size count before bytes)
    loaded zero before bytes is = is
    loaded (suc more) before bytes is =
        recorded (length before) before (read_record P.format.arrays (field_count P file_size) bytes) (read_record format.arrays (field_count P file_size) bytes)
        (λ e behind. load_records P file_size more (before ++ e ∷ []) behind) (λ e behind. load_records Q other_size more (before ++ e ∷ []) behind)
        (λ found behind read. read_with found behind format.arrays (field_count P file_size) bytes
        (sym (ap (λ b. read_record b (field_count P file_size) bytes) arrays) ∙ read))
        (λ e behind. loaded more (before ++ e ∷ []) behind) is

  module _ (file_size other_size count : ℕ) (bytes : List ℕ) (v : Value) where
    rooted_too : as_image P.state (load_records P file_size count [] bytes) ≡ Root v → as_image P.state (load_records Q other_size count [] bytes) ≡ Root v
    rooted_too is = by (load_records P file_size count [] bytes) refl is
      where
        by : (loading : Loading) → load_records P file_size count [] bytes ≡ loading → as_image P.state loading ≡ Root v → as_image P.state (load_records Q other_size count [] bytes) ≡ Root v
        by (Loaded entries rest) loads root = ap (as_image P.state) (loaded file_size other_size entries rest count [] bytes loads) ∙ root
        by (FaultyImage fault) loads root = absurd (cc)

-- ---- the header

module _ (v : Value) where
  -- a test that passes
  not_refused : (t : Bool) (fault : ImageFault) (go : Image) → (if t then Refused fault else go) ≡ Root v → (t ≡ false) × (go ≡ Root v)
  not_refused true fault go is = absurd (cc)
  not_refused false fault go is = (refl, is)

  -- behind a header that is read there are the records
  behind_header : (magic digest bytes : List ℕ) (go : ℕ → List ℕ → Image) → headed magic digest bytes go ≡ Root v
      → (40 ≤ length bytes) × (go (from_be_bytes w32 (take 4 (drop 36 bytes))) (drop 40 bytes) ≡ Root v)
  behind_header magic digest bytes go is =
      let first = not_refused (not (bytes_eq (take 4 bytes) magic)) _ _ is in
      let second = not_refused (nat_lt (length bytes) 40) _ _ first.1 in
      let third = not_refused (not (bytes_eq (take 32 (drop 4 bytes)) digest)) _ _ second.1 in
      (ltb-false (length bytes) 40 second.0, third.1)

-- the header that is put in the place of another
other_header : (magic digest bytes : List ℕ) (go : ℕ → List ℕ → Image) → length magic ≡ 4 → length digest ≡ 32 → 40 ≤ length bytes
    → headed magic digest (magic ++ digest ++ drop 36 bytes) go ≡ go (from_be_bytes w32 (take 4 (drop 36 bytes))) (drop 40 bytes)
other_header magic digest bytes go four long enough =
    let rest = drop 36 bytes in
    let image = magic ++ digest ++ rest in
    let parts : image ≡ magic ++ (digest ++ rest) = append_assoc magic digest rest in
    let of_image = length-append (magic ++ digest) rest in
    let of_front = length-append magic digest in
    let of_rest = length-drop 36 bytes in
    let whole = le-ltb (length image) 40 (omega (arith, of_image, of_front, of_rest, four, long, enough)) in
    let first : take 4 image ≡ magic = ap (take 4) parts ∙ subst (λ n. take n (magic ++ (digest ++ rest)) ≡ magic) four (take-append_seam magic (digest ++ rest)) in
    let behind : drop 4 image ≡ digest ++ rest = ap (drop 4) parts ∙ subst (λ n. drop n (magic ++ (digest ++ rest)) ≡ digest ++ rest) four (drop-append_seam magic (digest ++ rest)) in
    let second : take 32 (drop 4 image) ≡ digest = ap (take 32) behind ∙ subst (λ n. take n (digest ++ rest) ≡ digest) long (take-append_seam digest rest) in
    let from_36 : drop 36 image ≡ rest = sym (drop-drop 32 4 image) ∙ ap (drop 32) behind ∙ subst (λ n. drop n (digest ++ rest) ≡ rest) long (drop-append_seam digest rest) in
    let from_40 : drop 40 image ≡ drop 40 bytes = sym (drop-drop 4 36 image) ∙ ap (drop 4) from_36 ∙ drop-drop 4 36 bytes in
    let same : bytes_eq magic magic ≡ true = (bytes_eq-Decides magic magic).1 refl in
    let also : bytes_eq digest digest ≡ true = (bytes_eq-Decides digest digest).1 refl in
    rw (first, same, whole, second, also, from_36, from_40) refl

-- the same header, as it is written over the front of the bytes
pub headed_by : (magic digest bytes : List ℕ) → length magic ≡ 4 → put_mid 4 32 (magic ++ drop 4 bytes) digest ≡ magic ++ digest ++ drop 36 bytes
headed_by magic digest bytes four =
    let image = magic ++ drop 4 bytes in
    let first : take 4 image ≡ magic = subst (λ n. take n image ≡ magic) four (take-append_seam magic (drop 4 bytes)) in
    let behind : drop 4 image ≡ drop 4 bytes = subst (λ n. drop n image ≡ drop 4 bytes) four (drop-append_seam magic (drop 4 bytes)) in
    ap₂ (λ (front left : List ℕ). front ++ (digest ++ drop 32 left)) first behind ∙ ap (λ (left : List ℕ). magic ++ (digest ++ left)) (drop-drop 32 4 bytes)
    ∙ sym (append_assoc magic digest (drop 36 bytes))

-- ---- the image

module _ (P : Program) (format : Format) (functions : List Function) (code : Option (List (List Instruction))) (limit : P.format.limit ≤ format.limit) (arrays : P.format.arrays ≡ false) (four : length format.image_magic ≡ 4) where
  with_types : (digest other bytes : List ℕ) (v : Value) → length other ≡ 32 → image_of P digest bytes ≡ Root v
      → image_of (Q P format functions code limit arrays) other (format.image_magic ++ other ++ drop 36 bytes) ≡ Root v
  with_types digest other bytes v long is =
      let moved = format.image_magic ++ other ++ drop 36 bytes in
      let said = behind_header v P.format.image_magic digest bytes (λ count records. as_image P.state (load_records P (length bytes) count [] records)) is in
      let count = from_be_bytes w32 (take 4 (drop 36 bytes)) in
      other_header format.image_magic other bytes (λ count records. as_image P.state (load_records (Q P format functions code limit arrays) (length moved) count [] records)) four long said.0
      ∙ rooted_too P format functions code limit arrays (length bytes) (length moved) count (drop 40 bytes) v said.1

-- an image is long enough to have another header
pub has_header : (P : Program) (digest bytes : List ℕ) (v : Value) → image_of P digest bytes ≡ Root v → 36 ≤ length bytes
has_header P digest bytes v is =
    let said = behind_header v P.format.image_magic digest bytes (λ count records. as_image P.state (load_records P (length bytes) count [] records)) is in
    let enough = said.0 in
    omega (arith, enough)

pub moved_image : (P Q : Program) → KeepsStates P Q → length Q.format.image_magic ≡ 4 → (digest other bytes : List ℕ) (v : Value) → length other ≡ 32
    → image_of P digest bytes ≡ Root v → image_of Q other (Q.format.image_magic ++ other ++ drop 36 bytes) ≡ Root v
moved_image P Q keeps four digest other bytes v long is =
    let of : Table → Ty → Program = λ types state. record { format = Q.format; types = types; state = state; functions = Q.functions; code = Q.code } in
    subst (λ (R : Program). image_of R other (R.format.image_magic ++ other ++ drop 36 bytes) ≡ Root v) (sym (ap₂ of keeps.types keeps.state))
    (with_types P Q.format Q.functions Q.code keeps.limit keeps.arrays four digest other bytes v long is)
