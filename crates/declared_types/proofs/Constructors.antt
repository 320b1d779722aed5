-- Lemmas of the constructors of a type, one by one.
use Rattle.std.proofs.Common.{◌≡◌, ℕ, ◌<◌, ◌≤◌, Bool, true, false, not, List, nat_lt, Result, Ok, Err, ap, ◌∙◌, le-ltb, lt-ltb}
use Rattle.auth_syntax.specs.Syntax.{ConstructorDeclaration}
use Rattle.declared_types.specs.Checking.{Checking, Sound, FaultAt, then_checked, unless_fault, is_among}
use Rattle.declared_types.specs.Declarations.{checked_constructor, checked_fields, most_constructors}
use Rattle.declared_types.specs.Findings.{Finds, TypeFault}
use Rattle.core_terms.specs.declared.fault.Fault.TheVariants.{At, NoMemory}
use Rattle.declared_types.specs.declared.fault.TypeKind.TheVariants.{Twice, Limit}
use Rattle.declared_types.specs.declared.fault.Limited.TheVariants.{Constructors}

module _ {A : Type 0} (before : ℕ) (names : List (List ℕ)) (constructor : ConstructorDeclaration) (rest : Checking A) where
  -- what is found of a constructor whose name is new or not, of which so many are few enough or not, and whose fields are checked
  abbrev of_parts : Bool → Bool → Checking (Unit {0}) → Checking A
  of_parts again few fields =
      unless_fault (not again) Twice constructor.name.at (unless_fault few (Limit Constructors) constructor.name.at (then_checked fields (λ _. rest)))

  -- its name stands before
  pub constructor_again : is_among constructor.name.name names ≡ true
      → checked_constructor before names constructor rest ≡ FaultAt Twice constructor.name.at
  constructor_again again = ap (λ b. of_parts b (nat_lt before most_constructors) (checked_fields 0 constructor.fields)) again

  -- it is one too many
  pub constructor_too_many : is_among constructor.name.name names ≡ false → 255 ≤ before
      → checked_constructor before names constructor rest ≡ FaultAt (Limit Constructors) constructor.name.at
  constructor_too_many new many =
      ap (λ b. of_parts b (nat_lt before most_constructors) (checked_fields 0 constructor.fields)) new
      ∙ ap (λ b. of_parts false b (checked_fields 0 constructor.fields)) (le-ltb before 255 many)

  -- it may stand there, and what is found of its fields follows
  pub constructor_fields : is_among constructor.name.name names ≡ false → before < 255
      → checked_constructor before names constructor rest ≡ then_checked (checked_fields 0 constructor.fields) (λ _. rest)
  constructor_fields new few =
      ap (λ b. of_parts b (nat_lt before most_constructors) (checked_fields 0 constructor.fields)) new
      ∙ ap (λ b. of_parts false b (checked_fields 0 constructor.fields)) (lt-ltb before 255 few)

-- What is found of a constructor alone is found of it before others.
module _ {A : Type 0} (before : ℕ) (names : List (List ℕ)) (constructor : ConstructorDeclaration) (ns : List (List ℕ)) (rest : Checking A) where
  abbrev alone : Bool → Bool → Checking (Unit {0}) → Checking (List (List ℕ))
  alone = of_parts before names constructor (Sound ns)

-- what is answered where one part is left to be found, whose answer is that of the whole
pub finds_then : {B : Type 0} (view : B) (found : Checking (Unit {0})) (whole : Checking B) (r : Result (Unit {0}) TypeFault)
    → whole ≡ then_checked found (λ _. Sound view) → Finds (λ _. tt) found r → Finds (λ _. view) whole r
finds_then view found whole (Ok u) is h = is ∙ ap (λ f. then_checked f (λ _. Sound view)) h
finds_then view found whole (Err (At kind at)) is h = is ∙ ap (λ f. then_checked f (λ _. Sound view)) h
finds_then view found whole (Err NoMemory) is h = tt
