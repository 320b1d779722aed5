-- What is counted of bytes that begin with a spelling, by the type.
use Rattle.std.proofs.Common.{◌≡◌, ℕ, ◌+◌, ◌<◌, ◌≤◌, ℤ, Bool, true, List, [], ◌∷◌, ◌++◌, length, drop, take, get_or, codes, slice_index_or, sym, ap, subst, ◌∙◌, arith, append_assoc, append-nil, length-append, length-take-le}
use Rattle.std.specs.Prelude.{min}
use Rattle.std.specs.Fmt.{signed_decimal}
use Rattle.std.proofs.lemmas.List.{length-map, length-replicate, take_more, map-append, replicate_more}
use Rattle.hex.specs.Hex.{encode_lower}
use Rattle.core_terms.specs.Types.{Ty, BoolTy, IntTy, VecTy, item_types}
use Rattle.core_terms.specs.Values.{BoolV, DigestV, IntV, ItemsV, int_fits}
use Rattle.core_terms.specs.Spelling.{spelling, spellings}
use Rattle.core_terms.specs.Programs.{types_of}
use Rattle.core_terms.specs.ProgramTrees.{types_at}
use Rattle.core_terms.specs.TypeTables.{type_at}
use Rattle.core_terms.specs.declared.types.TyId.{TyId}
use Rattle.core_terms.specs.declared.program.Program.{Program}
use Rattle.printed_syntax.specs.PrintedValues.{bool_text}
use Rattle.printed_syntax.specs.PrintedParts.{comma_before, text_in, texts_in}
use Rattle.printed_syntax.specs.PrintedLengths.{AreCounted, IsCounted, IsMeasured, counted, next_size, text_limit}
use Rattle.printed_syntax.proofs.CountedLengths.{counted_more, counted_next, least_of_counted, length_of_array}
use Rattle.printed_syntax.proofs.PrintedFronts.{front_is, parted}
use Rattle.printed_syntax.proofs.PrintedTexts.{length_of_digest}

-- where all bytes are spelled ones
pub whole_counted : (spelled printed bytes : List ℕ) (size : ℕ) (left : List ℕ) → IsMeasured spelled printed bytes size left → bytes ≡ spelled → min size (text_limit + 1) ≡ min (length printed) (text_limit + 1)
whole_counted spelled printed bytes size left measured is = ap (λ k. min k (text_limit + 1)) (measured [] (is ∙ sym (append-nil spelled))).0 ∙ least_of_counted (length printed)

-- the digits of a digest
pub digest_counted : (bytes left : List ℕ) → left ≡ drop 32 bytes → (digest : List ℕ) → length digest ≡ 32 → IsMeasured (spelling (DigestV digest)) (codes "#" ++ encode_lower digest) bytes 65 left
digest_counted bytes left is_left digest long behind is = let cut = front_is 32 digest behind bytes long is in (length_of_digest digest long, is_left ∙ cut.1)

-- bools and ints
module _ (p : Program) (bytes : List ℕ) (size : ℕ) (left : List ℕ) where
  pub bool_counted : ((b : Bool) → IsMeasured (spelling (BoolV b)) (bool_text b) bytes size left) → IsCounted p BoolTy bytes size left
  bool_counted measured (BoolV b) shape small behind is = measured b behind is
  bool_counted measured v shape small behind is = elim shape [ ]

  pub int_counted : ((z : ℤ) → int_fits z ≡ true → IsMeasured (spelling (IntV z)) (signed_decimal z) bytes size left) → IsCounted p IntTy bytes size left
  int_counted measured (IntV z) shape small behind is = measured z shape behind is
  int_counted measured v shape small behind is = elim shape [ ]

-- values in a row with one more, behind what stands before it
more_counted : (p : Program) (ts : List Ty) (t : Ty) (i : ℕ) (bytes : List ℕ) (row : ℕ) (left : List ℕ) (value : ℕ) (left' : List ℕ) (next : ℕ) → length ts ≡ i → next ≡ next_size row i value
    → length left ≤ length bytes → AreCounted p ts bytes row left → IsCounted p t left value left' → AreCounted p (ts ++ t ∷ []) bytes next left'
more_counted p ts t i bytes row left value left' next long is shorter so_far here vs shapes small behind spelled =
    let parts = parted p t ts vs shapes in
    let front = so_far parts.before parts.shapes small (spelling parts.last ++ behind)
    (spelled ∙ ap (λ xs. xs ++ behind) parts.spelled ∙ append_assoc (spellings parts.before) (spelling parts.last) behind) in
    let last = here parts.last parts.shape (omega (arith, small, shorter)) behind front.1 in
    let before = texts_in p ts parts.before in
    let text = text_in p t parts.last in
    let comma = comma_before (length ts) in
    let all : length ((before ++ comma) ++ text) ≡ length before + length comma + length text =
    length-append (before ++ comma) text ∙ ap (λ k. k + length text) (length-append before comma) in (
      is ∙ ap (λ n. next_size row n value) (sym long) ∙ ap (λ k. next_size k (length ts) value) front.0 ∙ ap (λ k. next_size (counted (length before)) (length ts) k) last.0
          ∙ counted_next (length before) (length text) (length comma) ∙ ap counted (sym all) ∙ ap (λ xs. counted (length xs)) (sym parts.texts),
      last.1,
    )

-- with a field more, of fields by number
pub field_counted : (p : Program) (fields : List TyId) (i : ℕ) (field : TyId) (bytes : List ℕ) (row : ℕ) (left : List ℕ) (value : ℕ) (left' : List ℕ) (next : ℕ) → i < length fields
    → field ≡ slice_index_or fields i (record { 0 = 0 }) → next ≡ next_size row i value → length left ≤ length bytes
    → AreCounted p (types_at (types_of p) (take i fields)) bytes row left → IsCounted p (type_at (types_of p) field) left value left'
    → AreCounted p (types_at (types_of p) (take (i + 1) fields)) bytes next left'
field_counted p fields i field bytes row left value left' next within is size shorter so_far here =
    let types = types_of p in
    let one_more : types_at types (take (i + 1) fields) ≡ types_at types (take i fields) ++ type_at types field ∷ [] =
    ap (λ ids. types_at types ids) (take_more fields i (record { 0 = 0 }) within) ∙ map-append (type_at types) (take i fields) (get_or fields i (record { 0 = 0 }) ∷ [])
    ∙ ap (λ id. types_at types (take i fields) ++ type_at types id ∷ []) (sym is) in
    let long : length (types_at types (take i fields)) ≡ i = length-map (take i fields) (type_at types) ∙ length-take-le i fields (omega (arith, within)) in
    rw one_more (more_counted p (types_at types (take i fields)) (type_at types field) i bytes row left value left' next long size shorter so_far here)

-- with an element more
pub item_counted : (p : Program) (t : Ty) (i : ℕ) (bytes : List ℕ) (row : ℕ) (left : List ℕ) (value : ℕ) (left' : List ℕ) (next : ℕ) → next ≡ next_size row i value → length left ≤ length bytes
    → AreCounted p (item_types i t) bytes row left → IsCounted p t left value left' → AreCounted p (item_types (i + 1) t) bytes next left'
item_counted p t i bytes row left value left' next size shorter so_far here =
    subst (λ ts. AreCounted p ts bytes next left') (replicate_more i t)
    (more_counted p (item_types i t) t i bytes row left value left' next (length-replicate i t) size shorter so_far here)

-- an array, whose elements stand between brackets
pub items_counted : (p : Program) (n : ℕ) (t : Ty) (bytes : List ℕ) (row : ℕ) (left : List ℕ) (size : ℕ) → size ≡ counted (row + 2) → AreCounted p (item_types n t) bytes row left
    → IsCounted p (VecTy n t) bytes size left
items_counted p n t bytes row left size is elements (ItemsV vs) shape small behind spelled =
    let counts = elements vs shape small behind spelled in
    let text = texts_in p (item_types n t) vs in
    (is ∙ ap (λ k. counted (k + 2)) counts.0 ∙ counted_more (length text) 2 ∙ ap counted (sym (length_of_array text)), counts.1)
items_counted p n t bytes row left size is elements v shape small behind spelled = elim shape [ ]
