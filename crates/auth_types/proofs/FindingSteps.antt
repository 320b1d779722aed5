-- What is found of a part, and of what goes on with it.
use Rattle.std.proofs.Common.{◌≡◌, List, ◌++◌, Result, Ok, Err, sym, ap, ◌∙◌, subst, append_assoc}
use Rattle.std.specs.Prelude.{IfOk, IsErrAnd, OnOk}
use Rattle.core_terms.specs.Types.{Ty}
use Rattle.declared_types.specs.Checking.{Checking, FaultAt, then_checked}
use Rattle.lexemes.specs.declared.place.Place.{Place}
use Rattle.declared_types.specs.Findings.{Finds, TypeFault}
use Rattle.declared_types.specs.declared.fault.TypeKind.{TypeKind}
use Rattle.declared_types.specs.OverTypes.{FindsOver, Grows, Shows}
use Rattle.core_terms.specs.declared.fault.Fault.TheVariants.{At, NoMemory}
use Rattle.declared_types.proofs.TypeNumbers.{shows_now}

pub grown : (old new : List Ty) → Grows old new → (more : List Ty) → Grows old (new ++ more)
grown old new (m, e) more = (m ++ more, ap (λ l. l ++ more) e ∙ append_assoc old m more)

-- a part that is refused, or for which there is no memory
pub fault_first : {A B C D : Type 0} (types types' : List Ty) (view : List Ty → A → B) (view' : List Ty → C → D) (part : Checking B)
    (rest : B → Checking D) (fault : TypeFault) (r : Result C TypeFault) → r ≡ Err fault
    → FindsOver types view part (Err fault) → FindsOver types' view' (then_checked part rest) r
fault_first {A} {B} {C} {D} types types' view view' part rest fault r is h =
    subst (λ (r : Result C TypeFault). FindsOver types' view' (then_checked part rest) r) (sym is) (by fault h)
  where
    by : (fault : TypeFault) → FindsOver types view part (Err fault) → FindsOver types' view' (then_checked part rest) (Err fault)
    by (At kind at) h = ap (λ part. then_checked part rest) h
    by NoMemory h = tt

-- what is found behind a part
pub behind_shown : {A B C D : Type 0} (types types' : List Ty) (view : List Ty → A → B) (view' : List Ty → C → D) (part : Checking B) (value : A)
    (rest : B → Checking D) (r : Result C TypeFault)
    → Shows types view part value → FindsOver types' view' (rest (view types value)) r → FindsOver types' view' (then_checked part rest) r
behind_shown types types' view view' part value rest r shown h =
    subst (λ part. FindsOver types' view' (then_checked part rest) r) (sym (shows_now types view part value shown)) h

-- what holds holds of an Ok
pub on_ok : {T E P : Type 0} (r : Result T E) → P → OnOk r P
on_ok (Ok value) p = p
on_ok (Err fault) p = tt

pub on_more : {T E P Q : Type 0} (r : Result T E) → (P → Q) → OnOk r P → OnOk r Q
on_more (Ok value) more p = more p
on_more (Err fault) more p = tt

-- an error gives no value of which anything is to hold
pub no_value : {T E : Type 0} (Q : E → Type 0) (P : T → Type 0) (r : Result T E) → IsErrAnd r Q → IfOk r P
no_value Q P (Ok value) h = elim h [ ]
no_value Q P (Err fault) h = tt

-- the same thing found by other means
pub finds_is : {A B : Type 0} (types : List Ty) (view : List Ty → A → B) (found found' : Checking B) (r : Result A TypeFault) → found ≡ found'
    → FindsOver types view found r → FindsOver types view found' r
finds_is types view found found' r same h = subst (λ found. FindsOver types view found r) same h

-- a part behind another one is refused
pub fault_second : {A B C D E F : Type 0} (before types types' : List Ty) (earlier : List Ty → E → F) (view : List Ty → A → B)
    (view' : List Ty → C → D) (x : Checking F) (value : E) (part : Checking B) (rest : F → B → Checking D)
    (fault : TypeFault) (r : Result C TypeFault) → r ≡ Err fault → Shows before earlier x value → FindsOver types view part (Err fault)
    → FindsOver types' view' (then_checked x (λ f. then_checked part (rest f))) r
fault_second before types types' earlier view view' x value part rest fault r is shown h =
    behind_shown before types' earlier view' x value (λ f. then_checked part (rest f)) r shown
    (fault_first types types' view view' part (rest (earlier before value)) fault r is h)

pub shows_is : {A B : Type 0} (types : List Ty) (view : List Ty → A → B) (found found' : Checking B) (value : A) → found ≡ found'
    → Shows types view found value → Shows types view found' value
shows_is types view found found' value same h = λ more. sym same ∙ h more

-- where a part is refused the whole is
pub refused_by : {A B C D : Type 0} (types types' : List Ty) (view : List Ty → A → B) (view' : List Ty → C → D) (part : Checking B)
    (whole : Checking D) (fault : TypeFault) (r : Result C TypeFault) → r ≡ Err fault
    → ((kind : TypeKind) (at : Place) → part ≡ FaultAt kind at → whole ≡ FaultAt kind at) → FindsOver types view part (Err fault)
    → FindsOver types' view' whole r
refused_by {A} {B} {C} {D} types types' view view' part whole fault r is refused h =
    subst (λ (r : Result C TypeFault). FindsOver types' view' whole r) (sym is) (by fault h)
  where
    by : (fault : TypeFault) → FindsOver types view part (Err fault) → FindsOver types' view' whole (Err fault)
    by (At kind at) h = refused kind at h
    by NoMemory h = tt

-- the same of a part that finds no value of its own
pub refused_at : {A B C D : Type 0} (types : List Ty) (view : A → B) (view' : List Ty → C → D) (part : Checking B) (whole : Checking D)
    (fault : TypeFault) (r : Result C TypeFault) → r ≡ Err fault
    → ((kind : TypeKind) (at : Place) → part ≡ FaultAt kind at → whole ≡ FaultAt kind at) → Finds view part (Err fault)
    → FindsOver types view' whole r
refused_at {A} {B} {C} {D} types view view' part whole fault r is refused h =
    subst (λ (r : Result C TypeFault). FindsOver types view' whole r) (sym is) (by fault h)
  where
    by : (fault : TypeFault) → Finds view part (Err fault) → FindsOver types view' whole (Err fault)
    by (At kind at) h = refused kind at h
    by NoMemory h = tt

-- a refusal of one part is that of the whole, where neither finds a value of its own
pub finds_at : {A B C D : Type 0} (view : A → B) (view' : C → D) (part : Checking B) (whole : Checking D) {fault : TypeFault} (r : Result C TypeFault)
    → r ≡ Err fault
    → ((kind : TypeKind) (at : Place) → part ≡ FaultAt kind at → whole ≡ FaultAt kind at) → Finds view part (Err fault) → Finds view' whole r
finds_at {A} {B} {C} {D} view view' part whole {fault} r is refused h = subst (λ (r : Result C TypeFault). Finds view' whole r) (sym is) (by fault h)
  where
    by : (fault : TypeFault) → Finds view part (Err fault) → Finds view' whole (Err fault)
    by (At kind at) h = refused kind at h
    by NoMemory h = tt

-- a refusal of a part over types is that of the whole
pub finds_by : {A B C D : Type 0} (types : List Ty) (view : List Ty → A → B) (view' : C → D) (part : Checking B) (whole : Checking D)
    (fault : TypeFault) (r : Result C TypeFault) → r ≡ Err fault
    → ((kind : TypeKind) (at : Place) → part ≡ FaultAt kind at → whole ≡ FaultAt kind at) → FindsOver types view part (Err fault)
    → Finds view' whole r
finds_by {A} {B} {C} {D} types view view' part whole fault r is refused h =
    subst (λ (r : Result C TypeFault). Finds view' whole r) (sym is) (by fault h)
  where
    by : (fault : TypeFault) → FindsOver types view part (Err fault) → Finds view' whole (Err fault)
    by (At kind at) h = refused kind at h
    by NoMemory h = tt
