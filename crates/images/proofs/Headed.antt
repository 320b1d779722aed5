-- The header of an image, taken apart from the front.
use Rattle.std.proofs.Common.{◌≡◌, ℕ, ◌+◌, ◌<◌, Bool, true, false, List, [], ◌∷◌, ◌++◌, length, take, drop, refl, sym, ap, ◌∙◌, arith, append_assoc, le-ltb, length-append}
use Rattle.std.specs.Prelude.{bytes_eq, not}
use Rattle.std.specs.Int.{w32, from_be_bytes, to_be_bytes}
use Rattle.std.proofs.lemmas.List.{drop-drop}
use Rattle.std.proofs.lemmas.Nat.{from_be_bytes-to_be_bytes_4}
use Rattle.std.proofs.lemmas.Slice.Eq.{bytes_eq-Decides}
use Rattle.images.specs.Images.{Image, headed}
use Rattle.images.proofs.Fronts.{drop_front, take_front}

pub header_is : (first digest bytes magic behind of_text left count records : List ℕ) (n : ℕ)
    → magic ≡ take 4 bytes → behind ≡ drop 4 bytes → length behind + 4 ≡ length bytes → bytes_eq magic first ≡ true
    → of_text ≡ take 32 behind → left ≡ drop 32 behind → length left + 32 ≡ length behind → bytes_eq of_text digest ≡ true
    → count ≡ take 4 left → records ≡ drop 4 left → length records + 4 ≡ length left → n ≡ from_be_bytes w32 count
    → (go : ℕ → List ℕ → Image) → headed first digest bytes go ≡ go n records
header_is first digest bytes magic behind of_text left count records n is_magic is_behind long good is_of_text is_left long_left same is_count is_records long_records is_number go =
    let enough = le-ltb (length bytes) 40 (omega (arith, long, long_left, long_records)) in
    let from_36 : left ≡ drop 36 bytes = is_left ∙ ap (drop 32) is_behind ∙ drop-drop 32 4 bytes in
    let from_40 : records ≡ drop 40 bytes = is_records ∙ ap (drop 4) from_36 ∙ drop-drop 4 36 bytes in
    let digits : n ≡ from_be_bytes w32 (take 4 (drop 36 bytes)) = is_number ∙ ap (from_be_bytes w32) (is_count ∙ ap (take 4) from_36) in
    let begins : bytes_eq (take 4 bytes) first ≡ true = sym (ap (λ m. bytes_eq m first) is_magic) ∙ good in
    let second : bytes_eq (take 32 (drop 4 bytes)) digest ≡ true = sym (ap (λ m. bytes_eq m digest) (is_of_text ∙ ap (take 32) is_behind)) ∙ same in
    rw (begins, enough, second, sym digits, sym from_40) refl

pub not_other : (same differs : Bool) → differs ≡ not same → differs ≡ false → same ≡ true
not_other true differs e h = refl
not_other false differs e h = absurd (cc)

-- a header that is written is read again
again : (a b c d : ℕ) (digest records : List ℕ) (n : ℕ) (go : ℕ → List ℕ → Image) → length digest ≡ 32 → n < 4294967296
    → headed (a ∷ b ∷ c ∷ d ∷ []) digest ((a ∷ b ∷ c ∷ d ∷ []) ++ digest ++ to_be_bytes w32 n ++ records) go ≡ go n records
again a b c d digest records n go long small =
    let magic : List ℕ = a ∷ b ∷ c ∷ d ∷ [] in
    let count = to_be_bytes w32 n in
    let bytes = magic ++ digest ++ count ++ records in
    let front = digest ++ count in
    let of_front = length-append digest count in
    let of_bytes = length-append (magic ++ digest ++ count) records in
    let of_header = length-append (magic ++ digest) count in
    let of_start = length-append magic digest in
    let enough = le-ltb (length bytes) 40 (omega (arith, of_bytes, of_header, of_start, long)) in
    let begins : bytes_eq magic magic ≡ true = (bytes_eq-Decides magic magic).1 refl in
    let said : take 32 (front ++ records) ≡ digest = ap (take 32) (append_assoc digest count records) ∙ take_front 32 digest (count ++ records) long in
    let same : bytes_eq digest digest ≡ true = (bytes_eq-Decides digest digest).1 refl in
    let behind : drop 32 (front ++ records) ≡ count ++ records = ap (drop 32) (append_assoc digest count records) ∙ drop_front 32 digest (count ++ records) long in
    let rest : drop 36 (front ++ records) ≡ records = drop_front 36 front records (omega (arith, of_front, long)) in
    let number : from_be_bytes w32 count ≡ n = from_be_bytes-to_be_bytes_4 n small in
    rw (begins, enough, said, same, behind, rest, number) refl

pub header_again : (magic digest records : List ℕ) (n : ℕ) (go : ℕ → List ℕ → Image) → length magic ≡ 4 → length digest ≡ 32 → n < 4294967296
    → headed magic digest (magic ++ digest ++ to_be_bytes w32 n ++ records) go ≡ go n records
header_again (a ∷ b ∷ c ∷ d ∷ []) digest records n go four long small = again a b c d digest records n go long small
header_again [] digest records n go four long small = absurd (omega (arith, four))
header_again (a ∷ []) digest records n go four long small = absurd (omega (arith, four))
header_again (a ∷ b ∷ []) digest records n go four long small = absurd (omega (arith, four))
header_again (a ∷ b ∷ c ∷ []) digest records n go four long small = absurd (omega (arith, four))
header_again (a ∷ b ∷ c ∷ d ∷ e ∷ rest) digest records n go four long small = absurd (omega (arith, four))
