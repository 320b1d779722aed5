-- What a read and a write of a file do.
use Rattle.std.specs.Prelude.{◌≡◌, ◌≢◌, ℕ, ◌<◌, List, [], ◌∷◌, ◌++◌, length, take, Option, Some, None, IfSome, option_map, ⊤, Result, MatchResult}
use Rattle.std.specs.Io.KnownBytes.{append_known, prepend_known, IsAtEnd}
use Rattle.lam_outside.specs.Told.{Contents, Names}

-- At `Ok(n)` a read moved n bytes, those that it wrote into the buffer, from the front of what is left to the end of what
-- was given; it moved none only at the end, or where the buffer has no room. At `Err` it moved none.
pub record Reads {E : Type 0} (given left given' left' : Option (List ℕ)) (into : List ℕ) (result : Result ℕ E) : Type 0 where
  pub more_given : MatchResult result (λ n. given' ≡ append_known given (take n into)) (λ _. given' ≡ given)
  pub fewer_left : MatchResult result (λ n. left ≡ prepend_known (take n into) left') (λ _. left' ≡ left)
  pub at_end : MatchResult result (λ n. n ≡ 0 → 0 < length into → IsAtEnd left') (λ _. ⊤)

-- At `Ok(n)` a write added the first n bytes of the piece to what was taken; at `Err` none.
abbrev pub Writes : {E : Type 0} → Option (List ℕ) → Option (List ℕ) → List ℕ → Result ℕ E → Type 0
Writes old new piece result = MatchResult result (λ n. new ≡ append_known old (take n piece)) (λ _. new ≡ old)

-- Some bytes came from the front of what is left, fewer than the buffer has room for, and are its front.
abbrev pub IsReadInto : Option (List ℕ) → Option (List ℕ) → Option (List ℕ) → Option (List ℕ) → List ℕ → Type 0
IsReadInto given left given' left' into =
    (n : ℕ) × (n < length into) × (left ≡ prepend_known (take n into) left') × (given' ≡ append_known given (take n into))

-- This name was added to the list, where it is still told. An object may cease to tell it, and never begins to.
abbrev pub AsksFor : Option Names → Option Names → List ℕ → Type 0
AsksFor old new name = IfSome new (λ now. Some now ≡ option_map (λ before. before ++ name ∷ []) old)

-- the file is there, and all of it is left
abbrev pub StartsAt : Option Contents → List ℕ → Option (List ℕ) → Type 0
StartsAt None name left = ⊤
StartsAt (Some files) name left = (bytes : List ℕ) × (files name ≡ Some bytes) × (left ≡ Some bytes)

-- each other name holds what it held
abbrev pub KeepsOthers : Option Contents → Option Contents → List ℕ → Type 0
KeepsOthers old new name = IfSome new (λ now. IfSome old (λ before. (other : List ℕ) → other ≢ name → now other ≡ before other))

-- the name holds these bytes
abbrev pub HoldsFile : Option Contents → List ℕ → List ℕ → Type 0
HoldsFile contents name bytes = IfSome contents (λ files. files name ≡ Some bytes)
