-- What is printed of bytes that begin with a spelling, by the type.
use Rattle.std.proofs.Common.{◌≡◌, ℕ, ◌+◌, ◌<◌, ◌≤◌, ℤ, Bool, true, List, [], ◌∷◌, ◌++◌, length, take, drop, get_or, codes, slice_index_or, refl, sym, ap, subst, ◌∙◌, arith, append_assoc, append-nil, length-take-le}
use Rattle.std.proofs.lemmas.List.{length-map, length-replicate, take_more, map-append, replicate_more}
use Rattle.std.proofs.Math.Seq.{take-append_seam, drop-append_seam}
use Rattle.std.specs.Fmt.{signed_decimal}
use Rattle.hex.specs.Hex.{encode_lower}
use Rattle.core_terms.specs.Types.{Ty, BoolTy, IntTy, VecTy, item_types}
use Rattle.core_terms.specs.Values.{Value, BoolV, IntV, DigestV, ItemsV, Values, NoV, AndV, IsShallow, AreShallow, int_fits}
use Rattle.core_terms.specs.Spelling.{spelling, spellings}
use Rattle.core_terms.specs.Programs.{meaning, types_of}
use Rattle.core_terms.specs.ProgramTrees.{types_at}
use Rattle.core_terms.specs.TypeTables.{type_at}
use Rattle.core_terms.specs.declared.types.TyId.{TyId}
use Rattle.core_terms.specs.declared.program.Program.{Program}
use Rattle.printed_syntax.specs.PrintedValues.{bool_text}
use Rattle.printed_syntax.specs.PrintedParts.{text_in, texts_in, IsTaken, IsPrinted, ArePrinted, comma_before}

-- so many bytes at the front, and those behind them
pub front_is : (n : ℕ) (front behind bytes : List ℕ) → length front ≡ n → bytes ≡ front ++ behind → (take n bytes ≡ front) × (drop n bytes ≡ behind)
front_is n front behind bytes long is = (
  ap (λ xs. take n xs) is ∙ ap (λ k. take k (front ++ behind)) (sym long) ∙ take-append_seam front behind,
  ap (λ xs. drop n xs) is ∙ ap (λ k. drop k (front ++ behind)) (sym long) ∙ drop-append_seam front behind,
)

-- the digits of a digest
pub digest_taken : (bytes before text left front : List ℕ) → text ≡ before ++ codes "#" ++ encode_lower front → front ≡ take 32 bytes → left ≡ drop 32 bytes
    → (digest : List ℕ) → length digest ≡ 32 → IsTaken (spelling (DigestV digest)) (codes "#" ++ encode_lower digest) bytes before text left
digest_taken bytes before text left front added is_front is_left digest long behind is =
    let cut = front_is 32 digest behind bytes long is in
    (added ∙ append_assoc before (codes "#") (encode_lower front) ∙ ap (λ digest. before ++ (codes "#" ++ encode_lower digest)) (is_front ∙ cut.0), is_left ∙ cut.1)

-- where all bytes are spelled ones, and no text stands before
pub whole_printed : (spelled printed bytes before text left : List ℕ) → before ≡ [] → IsTaken spelled printed bytes before text left → bytes ≡ spelled → text ≡ printed
whole_printed spelled printed bytes before text left none taken is = (taken [] (is ∙ sym (append-nil spelled))).0 ∙ ap (λ xs. xs ++ printed) none

-- bools and ints
module _ (p : Program) (bytes before text left : List ℕ) where
  pub bool_printed : ((b : Bool) → IsTaken (spelling (BoolV b)) (bool_text b) bytes before text left) → IsPrinted p BoolTy bytes before text left
  bool_printed taken (BoolV b) shape small behind is = taken b behind is
  bool_printed taken v shape small behind is = elim shape [ ]

  pub int_printed : ((z : ℤ) → int_fits z ≡ true → IsTaken (spelling (IntV z)) (signed_decimal z) bytes before text left) → IsPrinted p IntTy bytes before text left
  int_printed taken (IntV z) shape small behind is = taken z shape behind is
  int_printed taken v shape small behind is = elim shape [ ]

-- Values of types in a row with one more: those before, and the last.
module _ (p : Program) (t : Ty) where
  pub record Parted (ts : List Ty) (vs : Values) : Type 0 where
    pub before : Values
    pub last : Value
    pub shapes : AreShallow (meaning p).types ts before
    pub shape : IsShallow (meaning p).types t last
    pub spelled : spellings vs ≡ spellings before ++ spelling last
    pub texts : texts_in p (ts ++ t ∷ []) vs ≡ (texts_in p ts before ++ comma_before (length ts)) ++ text_in p t last

  pub parted : (ts : List Ty) (vs : Values) → AreShallow (meaning p).types (ts ++ t ∷ []) vs → Parted ts vs
  parted [] (AndV v NoV) h = record { before = NoV; last = v; shapes = tt; shape = h.0; spelled = append-nil (spelling v); texts = refl }
  parted [] (AndV v (AndV w ws)) h = elim h.1 [ ]
  parted [] NoV h = elim h [ ]
  parted (first ∷ []) (AndV v vs) h =
      let rest = parted [] vs h.1 in
      record {
        before = AndV v rest.before;
        last = rest.last;
        shapes = (h.0, rest.shapes);
        shape = rest.shape;
        spelled = ap (λ xs. spelling v ++ xs) rest.spelled ∙ sym (append_assoc (spelling v) (spellings rest.before) (spelling rest.last));
        texts = ap (λ xs. text_in p first v ++ codes ", " ++ xs) rest.texts;
      }
  parted (first ∷ next ∷ ts) (AndV v vs) h =
      let rest = parted (next ∷ ts) vs h.1 in
      record {
        before = AndV v rest.before;
        last = rest.last;
        shapes = (h.0, rest.shapes);
        shape = rest.shape;
        spelled = ap (λ xs. spelling v ++ xs) rest.spelled ∙ sym (append_assoc (spelling v) (spellings rest.before) (spelling rest.last));
        texts = rw rest.texts simp append_assoc;
      }
  parted (first ∷ ts) NoV h = elim h [ ]

-- with one more, behind what stands before it
more_printed : (p : Program) (ts : List Ty) (t : Ty) (i : ℕ) (bytes before text left comma text' left' : List ℕ) → length ts ≡ i → comma ≡ text ++ comma_before i
    → length left ≤ length bytes → ArePrinted p ts bytes before text left → IsPrinted p t left comma text' left' → ArePrinted p (ts ++ t ∷ []) bytes before text' left'
more_printed p ts t i bytes before text left comma text' left' long added shorter so_far here vs shapes small behind is =
    let parts = parted p t ts vs shapes in
    let front = so_far parts.before parts.shapes small (spelling parts.last ++ behind)
    (is ∙ ap (λ xs. xs ++ behind) parts.spelled ∙ append_assoc (spellings parts.before) (spelling parts.last) behind) in
    let comma_added = added ∙ ap (λ n. text ++ comma_before n) (sym long) in
    let next = here parts.last parts.shape (omega (arith, small, shorter)) behind front.1 in
    (rw (next.0, comma_added, front.0, parts.texts) simp append_assoc, next.1)

-- with a field more, of fields by number
pub field_more : (p : Program) (fields : List TyId) (i : ℕ) (field : TyId) (bytes before text left text' left' comma : List ℕ) → i < length fields
    → field ≡ slice_index_or fields i (record { 0 = 0 }) → comma ≡ text ++ comma_before i → length left ≤ length bytes
    → ArePrinted p (types_at (types_of p) (take i fields)) bytes before text left → IsPrinted p (type_at (types_of p) field) left comma text' left'
    → ArePrinted p (types_at (types_of p) (take (i + 1) fields)) bytes before text' left'
field_more p fields i field bytes before text left text' left' comma within is added shorter so_far here =
    let types = types_of p in
    let one_more : types_at types (take (i + 1) fields) ≡ types_at types (take i fields) ++ type_at types field ∷ [] =
    ap (λ ids. types_at types ids) (take_more fields i (record { 0 = 0 }) within) ∙ map-append (type_at types) (take i fields) (get_or fields i (record { 0 = 0 }) ∷ [])
    ∙ ap (λ id. types_at types (take i fields) ++ type_at types id ∷ []) (sym is) in
    let long : length (types_at types (take i fields)) ≡ i = length-map (take i fields) (type_at types) ∙ length-take-le i fields (omega (arith, within)) in
    rw one_more (more_printed p (types_at types (take i fields)) (type_at types field) i bytes before text left comma text' left' long added shorter so_far here)

-- with an element more
pub item_more : (p : Program) (t : Ty) (i : ℕ) (bytes before text left text' left' comma : List ℕ) → comma ≡ text ++ comma_before i → length left ≤ length bytes
    → ArePrinted p (item_types i t) bytes before text left → IsPrinted p t left comma text' left' → ArePrinted p (item_types (i + 1) t) bytes before text' left'
item_more p t i bytes before text left text' left' comma added shorter so_far here =
    subst (λ ts. ArePrinted p ts bytes before text' left') (replicate_more i t)
    (more_printed p (item_types i t) t i bytes before text left comma text' left' (length-replicate i t) added shorter so_far here)

-- an array, whose elements stand between brackets
pub items_printed : (p : Program) (n : ℕ) (t : Ty) (bytes before text left closed : List ℕ) → closed ≡ text ++ codes "]"
    → ArePrinted p (item_types n t) bytes (before ++ codes "[") text left → IsPrinted p (VecTy n t) bytes before closed left
items_printed p n t bytes before text left closed ended elements (ItemsV vs) shape small behind is =
    let taken = elements vs shape small behind is in
    (rw (ended, taken.0) simp append_assoc, taken.1)
items_printed p n t bytes before text left closed ended elements v shape small behind is = elim shape [ ]
