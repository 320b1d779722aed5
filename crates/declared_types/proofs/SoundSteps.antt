-- What holds of each sound answer of a step of a pass.
use Rattle.std.proofs.Common.{◌≡◌, Bool, true, false, refl, subst}
use Rattle.lexemes.specs.declared.place.Place.{Place}
use Rattle.declared_types.specs.Checking.{Checking, Sound, FaultAt, then_checked, unless_fault}
use Rattle.declared_types.specs.declared.fault.TypeKind.{TypeKind}

-- Q holds of what is found, where no fault is
abbrev pub Gives : {A : Type 0} → (A → Type 0) → Checking A → Type 0
Gives Q (Sound value) = Q value
Gives Q (FaultAt kind at) = Unit {0}

-- a step after another
pub gives_then : {A B : Type 0} (Q : A → Type 0) (R : B → Type 0) (found : Checking A) (go : A → Checking B) → Gives Q found
    → ((a : A) → Q a → Gives R (go a)) → Gives R (then_checked found go)
gives_then Q R (Sound a) go first second = second a first
gives_then Q R (FaultAt kind at) go first second = tt

-- a step behind a test
pub gives_unless : {B : Type 0} (R : B → Type 0) (holds : Bool) (kind : TypeKind) (at : Place) (rest : Checking B) → (holds ≡ true → Gives R rest)
    → Gives R (unless_fault holds kind at rest)
gives_unless R true kind at rest h = h refl
gives_unless R false kind at rest h = tt

-- what is known of each answer, of this one
pub given : {A : Type 0} (Q : A → Type 0) (found : Checking A) (a : A) → Gives Q found → found ≡ Sound a → Q a
given Q found a h is = subst (Gives Q) is h

-- what follows from what is known of each answer
pub gives_more : {A : Type 0} (Q R : A → Type 0) (found : Checking A) → ((a : A) → Q a → R a) → Gives Q found → Gives R found
gives_more Q R (Sound a) more h = more a h
gives_more Q R (FaultAt kind at) more h = tt

-- nothing is asked of the answer
pub gives_any : {A : Type 0} (found : Checking A) → Gives (λ a. Unit {0}) found
gives_any (Sound a) = tt
gives_any (FaultAt kind at) = tt

-- the steps of a sound answer are sound
pub then_sound : {A B : Type 0} (found : Checking A) (go : A → Checking B) (b : B) → then_checked found go ≡ Sound b → (a : A) × (found ≡ Sound a)
    × (go a ≡ Sound b)
then_sound (Sound a) go b is = (a, refl, is)
then_sound (FaultAt kind at) go b is = absurd (cc)
