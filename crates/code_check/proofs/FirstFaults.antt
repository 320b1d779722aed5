-- The first fault of a function, from one instruction to the next, and of all functions.
use Rattle.std.proofs.Common.{◌≡◌, ◌<◌, ◌≤◌, ◌+◌, ◌-◌, ℕ, zero, suc, Bool, true, false, List, [], ◌∷◌, ◌++◌, length, map, drop, take, reverse, append-nil, replicate, set, Option, Some, None, slice_get, nat_eq, eq-eqb, Result, Ok, Err, IfOk, refl, sym, ap, ◌∙◌, subst, arith}
use Rattle.std.specs.List.{list_all}
use Rattle.std.specs.Option.{option_and_then}
use Rattle.std.specs.declared.alloc.AllocError.{AllocError}
use Rattle.std.proofs.lemmas.List.{drop_all, drop_at, length-drop, length-take-le}
use Rattle.std.proofs.lemmas.Option.{slice_get_within}
use borrow.Rule.Slice.PartMut.{put_mid, post_of}
use Rattle.core_terms.specs.Types.{Ty}
use Rattle.core_terms.specs.CodeShapes.{shape}
use Rattle.core_terms.specs.Bodies.{Body, FunctionCode}
use Rattle.core_terms.specs.Instructions as meant
use Rattle.core_terms.specs.InstructionViews.{instructions_of}
use Rattle.core_terms.specs.Kinds as kinds
use Rattle.core_terms.specs.Kinds.{ways, reach_all, fault_or, first_fault, fault_at, kind_fault_from}
use Rattle.core_terms.specs.ProgramTrees.{types_at}
use Rattle.core_terms.specs.TypeTables.{type_at}
use Rattle.core_terms.specs.declared.instruction.Instruction.{Instruction}
use Rattle.core_terms.specs.declared.term.Function.{Function}
use Rattle.core_terms.proofs.SameTypes.{first_of, second_of}
use Rattle.code_check.specs.declared.known.Frame.{Frame}
use Rattle.code_check.specs.declared.known.Known.{Known}
use Rattle.code_check.specs.declared.known.Known.TheVariants.{Unreached, Reached, Clashing}
use Rattle.code_check.specs.TypeLists.{list_of}
use Rattle.code_check.specs.KnownTypes.{IsFrame, AreKnown, IsReached}
use Rattle.code_check.specs.KindSteps.{IsAt, IsGone}
use Rattle.code_check.specs.ObjectParts.{function_with}

-- what holds of all holds of one
pub all_at : {A : Type 0} (p : A → Bool) (xs : List A) (i : ℕ) (x : A) → list_all p xs ≡ true → slice_get xs i ≡ Some x → p x ≡ true
all_at p [] i x h e = absurd (cc)
all_at p (y ∷ xs) zero x h e =
    let same : y ≡ x = cc in
    subst (λ y. p y ≡ true) same (first_of _ _ h)
all_at p (y ∷ xs) (suc i) x h e = all_at p xs i x (second_of (p y) _ h) e

-- the list from a place on
pub from_place : {A : Type 0} (xs : List A) (i : ℕ) (x : A) → slice_get xs i ≡ Some x → drop i xs ≡ x ∷ drop (i + 1) xs
from_place [] i x e = absurd (cc)
from_place (y ∷ xs) zero x e =
    let same : y ≡ x = cc in
    ap (λ y. y ∷ xs) same
from_place (y ∷ xs) (suc i) x e = from_place xs i x e ∙ ap (λ n. x ∷ drop n (y ∷ xs)) (up i)
  where
    up : (i : ℕ) → suc (i + 1) ≡ suc i + 1
    up i = omega arith

pub from_end : {A : Type 0} (xs : List A) (i : ℕ) → slice_get xs i ≡ None → drop i xs ≡ []
from_end [] zero e = refl
from_end [] (suc i) e = refl
from_end (y ∷ xs) zero e = absurd (cc)
from_end (y ∷ xs) (suc i) e = from_end xs i e

module _ (B : Body) (z : Ty) where
  -- an instruction that is reached, and whose ways were gone
  pub fault_later : (old new : List Ty) (i : meant.Instruction) (is : List meant.Instruction) (place : ℕ) (at : Frame) (rest after : List Known) (ks : List kinds.Known)
      → IsGone old at rest (λ s. ways B z i s.locals s.operands) new after true → AreKnown old (Reached at ∷ rest) ks
      → (later : List kinds.Known) × AreKnown new after later × (first_fault B z (i ∷ is) place ks ≡ first_fault B z is (place + 1) later)
  fault_later old new i is place at rest after [] gone h = elim h [ ]
  fault_later old new i is place at rest after (kinds.Unreached ∷ ks) gone h = elim h.0 [ ]
  fault_later old new i is place at rest after (kinds.Clashing ∷ ks) gone h = elim h.0 [ ]
  fault_later old new i is place at rest after (kinds.Reached s ∷ ks) gone h = by (option_and_then (λ ws. reach_all ws ks) (ways B z i s.locals s.operands)) refl (gone ks s h.1 h.0)
    where
      by : (o : Option (List kinds.Known)) → option_and_then (λ ws. reach_all ws ks) (ways B z i s.locals s.operands) ≡ o → IsReached new o after true
          → (later : List kinds.Known) × AreKnown new after later × (first_fault B z (i ∷ is) place (kinds.Reached s ∷ ks) ≡ first_fault B z is (place + 1) later)
      by None e r = elim r [ ]
      by (Some later) e r = (later, r, ap (λ o. fault_or B z o place (first_fault B z is (suc place))) e ∙ ap (λ n. first_fault B z is n later) (up place))
        where
          up : (n : ℕ) → suc n ≡ n + 1
          up n = omega arith

unreached : (types table : List Ty) (is : List Instruction) → AreKnown types (replicate (length is) Unreached) (map (λ (i : meant.Instruction). kinds.Unreached) (instructions_of table is))
unreached types table [] = tt
unreached types table (i ∷ is) = (tt, unreached types table is)

-- at the start the first instruction alone is reached
pub at_first : (B : Body) (types table : List Ty) (g : Function) (code : List Instruction) (start : Frame) → 0 < length code
    → IsFrame types start (shape (types_at table g.parameters.items) [])
    → (ks : List kinds.Known) × AreKnown types (set (replicate (length code) Unreached) 0 (Reached start)) ks
    × (kinds.function_fault B (function_with table g code) ≡ first_fault B (type_at table g.result) (instructions_of table code) 0 ks)
at_first B types table g [] start l h = absurd (omega (arith, l))
at_first B types table g (i ∷ is) start l h = (kinds.at_start (function_with table g (i ∷ is)) (instructions_of table is), (h, unreached types table is), refl)

-- the fault of the functions from one on
pub spot_here : (B : Body) (f i : ℕ) (g : FunctionCode) (gs : List FunctionCode) → Some i ≡ kinds.function_fault B g
    → kind_fault_from B f (g ∷ gs) ≡ Some (record { function = f; instruction = i })
spot_here B f i g gs e = ap (λ o. fault_at o f (kind_fault_from B (suc f) gs)) (sym e)

pub spot_later : (B : Body) (f : ℕ) (g : FunctionCode) (gs : List FunctionCode) → None ≡ kinds.function_fault B g → kind_fault_from B f (g ∷ gs) ≡ kind_fault_from B (f + 1) gs
spot_later B f g gs e = ap (λ o. fault_at o f (kind_fault_from B (suc f) gs)) (sym e) ∙ ap (λ n. kind_fault_from B n gs) (up f)
  where
    up : (n : ℕ) → suc n ≡ n + 1
    up n = omega arith

-- the part behind a place, once it was written
pub after_part : (xs ys : List Known) (a k : ℕ) → a ≤ length xs → k ≡ length xs - a → drop a (put_mid a k xs ys) ≡ ys
after_part xs ys a k l e =
    let long : length (drop a xs) ≡ length xs - a = length-drop a xs in
    let none : post_of a k xs ≡ [] = drop_all k (drop a xs) (omega (arith, long, e)) in
    drop_at (take a xs) (ys ++ post_of a k xs) a (length-take-le a xs l) ∙ ap (λ zs. ys ++ zs) none ∙ append-nil ys

-- the lists of what is known of an instruction are in the table
pub reached_within : (types : List Ty) (at : Frame) (rest : List Known) (ks : List kinds.Known) → AreKnown types (Reached at ∷ rest) ks → IsAt types at
reached_within types at rest [] h = elim h [ ]
reached_within types at rest (kinds.Unreached ∷ ks) h = elim h.0 [ ]
reached_within types at rest (kinds.Clashing ∷ ks) h = elim h.0 [ ]
reached_within types at rest (kinds.Reached s ∷ ks) h =
    (slice_get_within types at.locals.0 (list_of (reverse s.locals)) h.0.0, slice_get_within types at.operands.0 (list_of s.operands) h.0.1)

-- there is code where as many instructions are known as there are, and these aren't none
pub some_code : (n m : ℕ) → n ≡ m → false ≡ nat_eq n 0 → 0 < m
some_code n zero e f = let t : nat_eq n 0 ≡ true = eq-eqb n 0 e in absurd (cc)
some_code n (suc m) e f = omega arith

pub fault_is : (r : Result (Option ℕ) AllocError) (types : List Ty) (known : List Known) (ks : List kinds.Known) (first : List kinds.Known → Option ℕ) (fault : Option ℕ)
    → IfOk r (λ found. (ks : List kinds.Known) → AreKnown types known ks → found ≡ first ks) → AreKnown types known ks → fault ≡ first ks → IfOk r (λ found. found ≡ fault)
fault_is (Ok found) types known ks first fault h k e = h ks k ∙ sym e
fault_is (Err x) types known ks first fault h k e = tt
