-- Limits as tests.
use Rattle.std.proofs.Common.{◌≡◌, ◌≤◌, Bool, true, List, [], ◌∷◌, length, nat_le, refl, le-leb}
use Rattle.std.specs.Prelude.{All}
use Rattle.std.specs.List.{list_all}
use Rattle.std.proofs.lemmas.List.Elements.{All-head, All-tail}
use Rattle.core_terms.specs.Types.{Ty, has_tags}
use Rattle.core_terms.specs.Terms.{Program}
use Rattle.core_terms.specs.ProgramLimits.{most_constructors}
use Rattle.core_terms.specs.ProgramSizes.{IsWithinLimits}

-- where each element has a property, and what has it passes the test, all pass it
pub all_pass : {A : Type 0} (P : A → Type 0) (test : A → Bool) → ((x : A) → P x → test x ≡ true) → (xs : List A) → All P xs → list_all test xs ≡ true
all_pass P test passes [] all = refl
all_pass P test passes (x ∷ xs) all = rw (passes x (All-head P x xs all), all_pass P test passes xs (All-tail P x xs all)) refl

-- the tags of constructors fit
pub limited_tags : (P : Program) → IsWithinLimits P → has_tags P.types ≡ true
limited_tags P limits =
    all_pass (λ (constructors : List (List Ty)). length constructors ≤ most_constructors)
    (λ (constructors : List (List Ty)). nat_le (length constructors) 255) (λ constructors few. le-leb (length constructors) 255 few) P.types limits.constructors
