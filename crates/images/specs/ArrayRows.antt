-- The image of an array, and images that are refused at one. Each equation holds by computing both sides.
use Rattle.std.specs.Prelude.{◌≡◌, ℕ, Bool, true, false, List, [], ◌∷◌, ◌++◌, length, replicate, pos, refl, None}
use Rattle.core_terms.specs.Types.{Ty, UnitTy, BoolTy, IntTy, VecTy}
use Rattle.core_terms.specs.Values.{Value, IntV, BoolV, UnitV, ItemsV, NoV, AndV}
use Rattle.core_terms.specs.Terms.{Program}
use Rattle.core_terms.specs.ArrayRows.{seven_and_nine}
use Rattle.core_terms.specs.Formats.{Format, first_format, second_format}
use Rattle.images.specs.Images.{Image, Root, Refused, BadRecord, Cut, RootType, image_of}
use Rattle.images.specs.SavedImages.{saved_image}

-- the second format, which has arrays; a program of two ints in a format
abbrev pub with_arrays : Format
with_arrays = second_format [] 1024

abbrev pub two_ints : Format → Program
two_ints format = record { format = format; types = []; state = VecTy 2 IntTy; functions = []; code = None }

abbrev pub digest : List ℕ
digest = replicate 32 5

-- a number in 4 bytes, and an int
abbrev pub four : ℕ → List ℕ
four n = 0 ∷ 0 ∷ 0 ∷ n ∷ []

abbrev pub int : ℕ → List ℕ
int n = 2 ∷ four 0 ++ four n

abbrev pub image : ℕ → List ℕ → List ℕ
image count records = 0x4C ∷ 0x41 ∷ 0x49 ∷ 0x32 ∷ digest ++ four count ++ records

abbrev pub loaded : List ℕ → Image
loaded bytes = image_of (two_ints with_arrays) digest bytes

-- the row of the language: 68 bytes
abbrev pub of_two : List ℕ
of_two = image 3 (int 7 ++ int 9 ++ 7 ∷ 2 ∷ four 0 ++ four 1)

pub two_are_saved : saved_image (two_ints with_arrays) digest seven_and_nine ≡ of_two
two_are_saved = refl

pub they_are_68 : length of_two ≡ 68
they_are_68 = refl

pub two_are_loaded : loaded of_two ≡ Root seven_and_nine
two_are_loaded = refl

-- equal elements are one record
pub equal_are_saved_once : saved_image (two_ints with_arrays) digest (ItemsV (AndV (IntV (pos 7)) (AndV (IntV (pos 7)) NoV))) ≡ image 2 (int 7 ++ 7 ∷ 2 ∷ four 0 ++ four 0)
equal_are_saved_once = refl

-- of no elements, of as many as the state has not, of a later one, and of one of another type: no record
pub none : loaded (image 2 (int 7 ++ 7 ∷ 0 ∷ [])) ≡ Refused (BadRecord 1)
none = refl

pub three : loaded (image 2 (int 7 ++ 7 ∷ 3 ∷ four 0 ++ four 0 ++ four 0)) ≡ Refused (BadRecord 1)
three = refl

pub later : loaded (image 2 (int 7 ++ 7 ∷ 2 ∷ four 0 ++ four 1)) ≡ Refused (BadRecord 1)
later = refl

-- its numbers are read first: an array that the end cuts is cut, whatever its length
pub cut : (loaded (image 2 (int 7 ++ 7 ∷ 2 ∷ four 0 ++ 0 ∷ [])) ≡ Refused (Cut 56)) × (loaded (image 2 (int 7 ++ 7 ∷ 65 ∷ [])) ≡ Refused (Cut 51)) × (loaded (image 2 (int 7 ++ 7 ∷ [])) ≡ Refused (Cut 50))
cut = (refl, refl, refl)

-- in a format without arrays the kind is none at once
pub no_arrays : image_of (two_ints (first_format 1024)) digest (0x4C ∷ 0x41 ∷ 0x49 ∷ 0x31 ∷ digest ++ four 2 ++ int 7 ++ 7 ∷ []) ≡ Refused (BadRecord 1)
no_arrays = refl
