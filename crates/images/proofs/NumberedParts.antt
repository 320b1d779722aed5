-- The numbers of the first parts of a node.
use Rattle.std.proofs.Common.{◌≡◌, ℕ, zero, suc, ◌+◌, ◌<◌, List, [], ◌∷◌, ◌++◌, length, take, drop, Option, Some, None, IsSome, slice_get, refl, sym, ap, ◌∙◌, subst, arith, append_assoc}
use Rattle.std.proofs.lemmas.List.{append-nil}
use Rattle.std.specs.Int.{w32, to_be_bytes}
use Rattle.std.specs.Option.{option_map}
use Rattle.value_store.specs.declared.node.Ref.{Ref}
use Rattle.images.specs.FormRecords.{numbered}
use Rattle.images.specs.SavedRecords.{HaveRecords, number_at}
use Rattle.images.specs.declared.save.records.Records.{Records}

pub shown_at : (rs : List ℕ) (i : ℕ) (part : Option Ref) (r : Ref) → option_map (λ (r : Ref). r.0) part ≡ slice_get rs i → part ≡ Some r → slice_get rs i ≡ Some r.0
shown_at rs i part r h e = sym h ∙ ap (option_map (λ (r : Ref). r.0)) e

pub none_at : (rs : List ℕ) (i : ℕ) (part : Option Ref) → option_map (λ (r : Ref). r.0) part ≡ slice_get rs i → part ≡ None → slice_get rs i ≡ None
none_at rs i part h e = sym h ∙ ap (option_map (λ (r : Ref). r.0)) e

pub within_at : {A : Type 0} (rs : List A) (i : ℕ) (r : A) → slice_get rs i ≡ Some r → i < length rs
within_at [] i r h = absurd (cc)
within_at (x ∷ xs) zero r h = omega arith
within_at (x ∷ xs) (suc i) r h = let k = within_at xs i r h in omega (arith, k)

pub take_all : {A : Type 0} (rs : List A) (i : ℕ) → slice_get rs i ≡ None → take i rs ≡ rs
take_all [] zero h = refl
take_all [] (suc i) h = refl
take_all (x ∷ xs) zero h = absurd (cc)
take_all (x ∷ xs) (suc i) h = ap (λ xs. x ∷ xs) (take_all xs i h)

take_suc : {A : Type 0} (rs : List A) (i : ℕ) (r : A) → slice_get rs i ≡ Some r → take (suc i) rs ≡ take i rs ++ r ∷ []
take_suc [] i r h = absurd (cc)
take_suc (x ∷ xs) zero r h = let same : x ≡ r = cc in ap (λ x. x ∷ []) same
take_suc (x ∷ xs) (suc i) r h = ap (λ xs. x ∷ xs) (take_suc xs i r h)

pub take_next : {A : Type 0} (rs : List A) (i j : ℕ) (r : A) → j ≡ i + 1 → slice_get rs i ≡ Some r → take j rs ≡ take i rs ++ r ∷ []
take_next rs i j r e h = ap (λ n. take n rs) (let k : j ≡ suc i = omega arith in k) ∙ take_suc rs i r h

drop_suc : {A : Type 0} (rs : List A) (i : ℕ) (r : A) → slice_get rs i ≡ Some r → drop i rs ≡ r ∷ drop (suc i) rs
drop_suc [] i r h = absurd (cc)
drop_suc (x ∷ xs) zero r h = let same : x ≡ r = cc in ap (λ x. x ∷ xs) same
drop_suc (x ∷ xs) (suc i) r h = drop_suc xs i r h

pub drop_next : {A : Type 0} (rs : List A) (i j : ℕ) (r : A) → j ≡ i + 1 → slice_get rs i ≡ Some r → drop i rs ≡ r ∷ drop j rs
drop_next rs i j r e h = drop_suc rs i r h ∙ ap (λ n. r ∷ drop n rs) (let k : suc i ≡ j = omega arith in k)

pub drop_all : {A : Type 0} (rs : List A) (i : ℕ) → slice_get rs i ≡ None → drop i rs ≡ []
drop_all [] zero h = refl
drop_all [] (suc i) h = refl
drop_all (x ∷ xs) zero h = absurd (cc)
drop_all (x ∷ xs) (suc i) h = drop_all xs i h

numbered-push : (number : ℕ → ℕ) (rs : List ℕ) (r : ℕ) → numbered number (rs ++ r ∷ []) ≡ numbered number rs ++ to_be_bytes w32 (number r)
numbered-push number [] r = append-nil (to_be_bytes w32 (number r))
numbered-push number (x ∷ xs) r =
    ap (λ bytes. to_be_bytes w32 (number x) ++ bytes) (numbered-push number xs r)
    ∙ sym (append_assoc (to_be_bytes w32 (number x)) (numbered number xs) (to_be_bytes w32 (number r)))

-- the numbers of one part more
pub numbered_next : (number : ℕ → ℕ) (head rs bytes : List ℕ) (i j r n : ℕ) → j ≡ i + 1 → slice_get rs i ≡ Some r → number r ≡ n
    → bytes ≡ head ++ numbered number (take i rs) → bytes ++ to_be_bytes w32 n ≡ head ++ numbered number (take j rs)
numbered_next number head rs bytes i j r n e at is before =
    ap (λ bytes. bytes ++ to_be_bytes w32 n) before
    ∙ append_assoc head (numbered number (take i rs)) (to_be_bytes w32 n)
    ∙ ap (λ n. head ++ (numbered number (take i rs) ++ to_be_bytes w32 n)) (sym is)
    ∙ ap (λ bytes. head ++ bytes) (sym (numbered-push number (take i rs) r))
    ∙ ap (λ rs. head ++ numbered number rs) (sym (take_next rs i j r e at))

pub have_at : (records : Records) (rs : List ℕ) (i r : ℕ) → HaveRecords records rs → slice_get rs i ≡ Some r → IsSome (number_at records r)
have_at records [] i r h at = absurd (cc)
have_at records (x ∷ xs) zero r h at = let same : x ≡ r = cc in subst (λ x. IsSome (number_at records x)) same h.0
have_at records (x ∷ xs) (suc i) r h at = have_at records xs i r h.1 at
