-- Images, computed: each fault, the order of faults, and what is saved loaded back.
use Rattle.std.proofs.Common.{◌≡◌, refl, List, ℕ, [], ◌∷◌, ◌++◌, true, take, None, false}
use Rattle.std.specs.Prelude.{replicate, pos, negsuc, zero, suc, nat_lt, if◌then◌else◌}
use Rattle.std.specs.Int.{w32, to_be_bytes}
use Rattle.std.specs.Str.{is_utf8, chars}
use lib.Utf8.{encode}
use Rattle.core_terms.specs.Types.{Ty, UnitTy, BoolTy, IntTy, TextTy, AuthTy, NamedTy, PairTy, Table}
use Rattle.core_terms.specs.Formats.{first_format}
use Rattle.core_terms.specs.Values.{Value, UnitV, BoolV, IntV, PairV, ConV, NoV, AndV}
use Rattle.core_terms.specs.Terms.{Program}
use Rattle.images.specs.Images.{Image, Root, Refused, Magic, Cut, OtherProgram, BadRecord, TooBig, TooDeep, RootType, Leftover, image_of}
use Rattle.images.specs.SavedImages.{saved_image}

-- programs with a state of this type: without named types, and with these
abbrev with_types : Table → Ty → Program
with_types types t = record { format = first_format 1024; types = types; state = t; functions = []; code = None }

abbrev with_state : Ty → Program
with_state = with_types []

abbrev digest : List ℕ
digest = replicate 32 7

abbrev image_magic : List ℕ
image_magic = 0x4C ∷ 0x41 ∷ 0x49 ∷ 0x31 ∷ []

-- an image of so many records
abbrev image : ℕ → List ℕ → List ℕ
image count records = image_magic ++ digest ++ to_be_bytes w32 count ++ records

-- a number of 4 bytes, below 256
abbrev ref : ℕ → List ℕ
ref n = 0 ∷ 0 ∷ 0 ∷ n ∷ []

-- a unit, authenticated
abbrev unit_image : List ℕ
unit_image = image 2 (0 ∷ 6 ∷ ref 0)

abbrev unit_loads : List ℕ → Image
unit_loads bytes = image_of (with_state (AuthTy UnitTy)) digest bytes

unit_is_saved : saved_image (with_state (AuthTy UnitTy)) digest UnitV ≡ unit_image
unit_is_saved = refl

unit_is_loaded : unit_loads unit_image ≡ Root UnitV
unit_is_loaded = refl

-- the header
other_magic : unit_loads (0x4C ∷ 0x41 ∷ 0x49 ∷ 0x32 ∷ digest ++ ref 2 ++ 0 ∷ 6 ∷ ref 0) ≡ Refused Magic
other_magic = refl

other_program : unit_loads (image_magic ++ replicate 32 8 ++ ref 2 ++ 0 ∷ 6 ∷ ref 0) ≡ Refused OtherProgram
other_program = refl

-- a cut before a digest that differs
cut_before_program : unit_loads (image_magic ++ replicate 31 8) ≡ Refused (Cut 35)
cut_before_program = refl

-- the image of a unit, cut at each length
abbrev cuts : ℕ → List Image
cuts zero = []
cuts (suc n) = cuts n ++ unit_loads (take n unit_image) ∷ []

abbrev refusals : ℕ → List Image
refusals zero = []
refusals (suc n) = refusals n ++ (if nat_lt n 4 then Refused Magic else Refused (Cut n)) ∷ []

each_cut : cuts 46 ≡ refusals 46
each_cut = refl

-- records that are refused
unknown_kind : unit_loads (image 1 (7 ∷ [])) ≡ Refused (BadRecord 0)
unknown_kind = refl

bool_byte : image_of (with_state BoolTy) digest (image 1 (1 ∷ 2 ∷ [])) ≡ Refused (BadRecord 0)
bool_byte = refl

no_utf8 : image_of (with_state TextTy) digest (image 1 (3 ∷ ref 1 ++ 0xFF ∷ [])) ≡ Refused (BadRecord 0)
unfolding is_utf8 chars encode
no_utf8 = refl

own_number : unit_loads (image 2 (0 ∷ 6 ∷ ref 1)) ≡ Refused (BadRecord 1)
own_number = refl

later_number : unit_loads (image 2 (6 ∷ ref 1 ++ 0 ∷ [])) ≡ Refused (BadRecord 0)
later_number = refl

no_part_of_state : unit_loads (image 1 (1 ∷ 1 ∷ [])) ≡ Refused (BadRecord 0)
no_part_of_state = refl

no_pair_in_state : unit_loads (image 2 (0 ∷ 4 ∷ ref 0 ++ ref 0)) ≡ Refused (BadRecord 1)
no_pair_in_state = refl

auth_once_too_often : unit_loads (image 3 (0 ∷ 6 ∷ ref 0 ++ 6 ∷ ref 1)) ≡ Refused (BadRecord 2)
auth_once_too_often = refl

-- a cut record is found before what else is wrong with it, and a bad one before a cut behind it
cut_before_number : unit_loads (image 2 (0 ∷ 6 ∷ 0 ∷ 0 ∷ 9 ∷ [])) ≡ Refused (Cut 45)
cut_before_number = refl

cut_before_utf8 : image_of (with_state TextTy) digest (image 1 (3 ∷ ref 2 ++ 0xFF ∷ [])) ≡ Refused (Cut 46)
cut_before_utf8 = refl

bad_before_cut : unit_loads (image 2 (7 ∷ 6 ∷ [])) ≡ Refused (BadRecord 0)
bad_before_cut = refl

-- the root
no_records : unit_loads (image 0 []) ≡ Refused RootType
no_records = refl

no_records_and_more : unit_loads (image 0 (9 ∷ [])) ≡ Refused RootType
no_records_and_more = refl

root_of_a_part : unit_loads (image 1 (0 ∷ 9 ∷ [])) ≡ Refused RootType
root_of_a_part = refl

left_over : unit_loads (unit_image ++ 9 ∷ 9 ∷ []) ≡ Refused (Leftover 2)
left_over = refl

-- records that are referred to twice, and not at all
abbrev two_bools : Program
two_bools = with_state (PairTy (AuthTy BoolTy) (AuthTy BoolTy))

referred_to_twice : image_of two_bools digest (image 3 (1 ∷ 1 ∷ 6 ∷ ref 0 ++ 4 ∷ ref 1 ++ ref 1)) ≡ Root (PairV (BoolV true) (BoolV true))
referred_to_twice = refl

not_referred_to : image_of two_bools digest (image 4 (1 ∷ 0 ∷ 1 ∷ 1 ∷ 6 ∷ ref 1 ++ 4 ∷ ref 2 ++ ref 2)) ≡ Root (PairV (BoolV true) (BoolV true))
not_referred_to = refl

twice_but_one_record : saved_image two_bools digest (PairV (BoolV true) (BoolV true)) ≡ image 3 (1 ∷ 1 ∷ 6 ∷ ref 0 ++ 4 ∷ ref 1 ++ ref 1)
twice_but_one_record = refl

-- `type list = Nil | Cons(int, auth list); type other = Other;`, and a state `auth list`
abbrev lists : Program
lists = with_types (([] ∷ (IntTy ∷ AuthTy (NamedTy 0) ∷ []) ∷ []) ∷ ([] ∷ []) ∷ []) (AuthTy (NamedTy 0))

nil : image_of lists digest (image 2 (5 ∷ 0 ∷ 0 ∷ 0 ∷ 6 ∷ ref 0)) ≡ Root (ConV 0 NoV)
nil = refl

unknown_type : image_of lists digest (image 1 (5 ∷ 0 ∷ 2 ∷ 0 ∷ [])) ≡ Refused (BadRecord 0)
unknown_type = refl

other_type : image_of lists digest (image 1 (5 ∷ 0 ∷ 1 ∷ 0 ∷ [])) ≡ Refused (BadRecord 0)
other_type = refl

unknown_tag : image_of lists digest (image 1 (5 ∷ 0 ∷ 0 ∷ 2 ∷ [])) ≡ Refused (BadRecord 0)
unknown_tag = refl

-- type and tag are read together, and tested before the numbers of the fields
tag_cut : image_of lists digest (image 1 (5 ∷ 0 ∷ 2 ∷ [])) ≡ Refused (Cut 43)
tag_cut = refl

fields_cut : image_of lists digest (image 1 (5 ∷ 0 ∷ 0 ∷ 1 ∷ [])) ≡ Refused (Cut 44)
fields_cut = refl

bad_before_fields : image_of lists digest (image 1 (5 ∷ 0 ∷ 0 ∷ 3 ∷ 0 ∷ [])) ≡ Refused (BadRecord 0)
bad_before_fields = refl

field_of_other_type : image_of lists digest (image 2 (5 ∷ 0 ∷ 0 ∷ 0 ∷ 5 ∷ 0 ∷ 0 ∷ 1 ∷ ref 0 ++ ref 0)) ≡ Refused (BadRecord 1)
field_of_other_type = refl

-- the limits: of 15 bytes, which a pair of ints passes; and a value of depth 513
abbrev small : Program
small = record { format = record { digest = λ hash t bytes. hash bytes; print = λ hash t. None; limit = 15; magic = []; image_magic = image_magic; most_kept = 0; arrays = false }; types = []; state = PairTy IntTy IntTy; functions = []; code = None }

too_big : image_of small digest (image 2 (2 ∷ replicate 8 0 ++ 4 ∷ ref 0 ++ ref 0)) ≡ Refused (TooBig 1)
too_big = refl

-- `type chain = End | Link(chain);`
abbrev chains : Program
chains = with_types (([] ∷ (NamedTy 0 ∷ []) ∷ []) ∷ []) (NamedTy 0)

abbrev links : ℕ → List ℕ
links zero = 5 ∷ 0 ∷ 0 ∷ 0 ∷ []
links (suc n) = links n ++ 5 ∷ 0 ∷ 0 ∷ 1 ∷ to_be_bytes w32 n

too_deep : image_of chains digest (image 513 (links 512)) ≡ Refused (TooDeep 512)
too_deep = refl

-- what is saved is loaded back
abbrev back : Program → Value → Image
back P v = image_of P digest (saved_image P digest v)

pair_back : back (with_state (PairTy (AuthTy BoolTy) (PairTy IntTy (AuthTy BoolTy)))) (PairV (BoolV true) (PairV (IntV (pos 7)) (BoolV true)))
    ≡ Root (PairV (BoolV true) (PairV (IntV (pos 7)) (BoolV true)))
pair_back = refl

sum_back : back lists (ConV 1 (AndV (IntV (pos 1)) (AndV (ConV 1 (AndV (IntV (negsuc 1)) (AndV (ConV 0 NoV) NoV))) NoV)))
    ≡ Root (ConV 1 (AndV (IntV (pos 1)) (AndV (ConV 1 (AndV (IntV (negsuc 1)) (AndV (ConV 0 NoV) NoV))) NoV)))
sum_back = refl

nested_auth_back : back (with_state (AuthTy (AuthTy (PairTy (AuthTy IntTy) IntTy)))) (PairV (IntV (pos 3)) (IntV (pos 3))) ≡ Root (PairV (IntV (pos 3)) (IntV (pos 3)))
nested_auth_back = refl
