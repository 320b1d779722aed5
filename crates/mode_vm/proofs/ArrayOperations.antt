-- The instructions on arrays.
use Rattle.std.proofs.Common.{◌≡◌, length, ℕ, ◌++◌, List, [], ◌∷◌, Result, Option, true, refl, ap, ◌<◌, reverse, arith}
use Rattle.std.proofs.lemmas.List.{length-reverse}
use Rattle.core_terms.specs.Types.{Ty, IntTy, VecTy, is_length}
use Rattle.core_terms.specs.Values.{Value, ItemsV}
use Rattle.core_terms.specs.Terms.{Program}
use Rattle.core_terms.specs.declared.outcome.Trap.{Trap}
use Rattle.ideal_meaning.specs.Run.{Run, fill_of, get_of, put_of, int_in, items_in}
use Rattle.core_terms.specs.Instructions.{VecFill, VecGet, VecPut}
use Rattle.core_terms.specs.GeneratedCode.{generated}
use Rattle.value_store.specs.Nodes.{Node}
use Rattle.value_store.specs.Standing.{Keeps}
use Rattle.value_store.specs.Markings.{Marking, kind_of}
use Rattle.mode_vm.specs.Meanings.{CauseOf, StateOf, mode_of}
use Rattle.mode_vm.specs.Machines.{ValueFrame, Before}
use Rattle.mode_vm.specs.Calculations.{Makes}
use Rattle.mode_vm.specs.Operands.{IsHeld}
use Rattle.mode_vm.specs.Outcomes.{Acts}
use Rattle.mode_vm.specs.StateParts.{IsAt, Finishes}
use Rattle.mode_vm.specs.declared.frame.Frame.{Frame}
use Rattle.mode_vm.specs.declared.operand.Operand.{Operand}
use Rattle.mode_vm.proofs.Frames.{ToNext, calls, fits_next}
use Rattle.mode_vm.proofs.Made.{ActsOnTwo, ActsOnThree, GivesOfTwo, GivesOfThree, first_operand, operand, one_acts, second_operand, two_acts, three_acts, three_operands}
use Rattle.mode_vm.proofs.Operands.{as_many, TakesOne, TakesTwo, TakesThree, fill_parts, get_parts, put_parts}
use Rattle.mode_vm.proofs.Scalars.{on_int, on_items}

module _ (m : Marking) (P : Program) (nodes : List Node) (frame : Frame) (n : ℕ) (c : ValueFrame) (b : Before m P nodes frame (VecFill n) c)
    (last : List Operand) (r : Operand) (top : frame.operands.items ≡ last ++ r ∷ []) where
  fill_takes : (t : Ty) × (is_length n ≡ true) × TakesOne (generated P) c.result c.local_types (ToNext (generated P) c.result c.shapes) t (VecTy n t) c.operand_types
  fill_takes = fill_parts (generated P) c.result c.local_types (ToNext (generated P) c.result c.shapes) n c.operand_types (fits_next m P nodes frame (VecFill n) c b)

  pub filled_count : is_length n ≡ true
  filled_count = fill_takes.1

  pub filled_with : (t : Ty) × (v : Value) × IsHeld (kind_of m P) P.types nodes r t v
  filled_with = let x = operand m P nodes frame (VecFill n) c b last r top fill_takes.0 (VecTy n fill_takes.0) fill_takes.2 in (fill_takes.0, x.0, x.1)

  pub fill_acts : {E : Type 0} (new : List Node) → Keeps nodes new → (mid after : Frame) → IsAt frame frame.place frame.locals.items last mid → (made : Result Operand Trap)
      → ((t : Ty) (v : Value) → IsHeld (kind_of m P) P.types nodes r t v
      → Makes m (kind_of m P) P.types new (VecTy n t) (fill_of P.format.limit P.types n t v) made)
      → (result : Result (Option Trap) E) → Finishes mid made after result → Acts m P new frame c after result
  fill_acts new keeps mid after at made makes =
      one_acts m P nodes frame (VecFill n) c b last r top fill_takes.0 (VecTy n fill_takes.0) fill_takes.2
      (λ v. fill_of P.format.limit P.types n fill_takes.0 v) (λ x h next env ops k w. refl) new keeps mid after at made (makes fill_takes.0)

module _ (m : Marking) (P : Program) (nodes : List Node) (frame : Frame) (c : ValueFrame) (b : Before m P nodes frame VecGet c)
    (last : List Operand) (first second : Operand) (top : frame.operands.items ≡ last ++ first ∷ second ∷ []) where
  get_takes : (n : ℕ) × (t : Ty) × TakesTwo (generated P) c.result c.local_types (ToNext (generated P) c.result c.shapes) (VecTy n t) IntTy t c.operand_types
  get_takes = get_parts (generated P) c.result c.local_types (ToNext (generated P) c.result c.shapes) c.operand_types (fits_next m P nodes frame VecGet c b)

  pub array_got : (n : ℕ) × (t : Ty) × (v : Value) × IsHeld (kind_of m P) P.types nodes first (VecTy n t) v
  array_got =
      let x = first_operand m P nodes frame VecGet c b last first second top (VecTy get_takes.0 get_takes.1) IntTy get_takes.1 get_takes.2 in
      (get_takes.0, get_takes.1, x.0, x.1)

  pub index_got : (v : Value) × IsHeld (kind_of m P) P.types nodes second IntTy v
  index_got = second_operand m P nodes frame VecGet c b last first second top (VecTy get_takes.0 get_takes.1) IntTy get_takes.1 get_takes.2

  abbrev get_run : Value → Value → ℕ → StateOf m → Run (CauseOf m) (StateOf m) Value
  get_run u v k w = get_of get_takes.0 (items_in u) (int_in v) k w

  abbrev GetGives : Value → Value → Type 0
  GetGives u v = GivesOfTwo (generated P) (mode_of m P) (calls m P c.depth) VecGet (VecTy get_takes.0 get_takes.1) IntTy get_takes.1 get_run u v

  pub get_acts : {E : Type 0} (mid after : Frame) → IsAt frame frame.place frame.locals.items last mid → (made : Result Operand Trap)
      → ((n : ℕ) (t : Ty) (u v : Value) → IsHeld (kind_of m P) P.types nodes first (VecTy n t) u → IsHeld (kind_of m P) P.types nodes second IntTy v
      → Makes m (kind_of m P) P.types nodes t (get_of n (items_in u) (int_in v)) made)
      → (result : Result (Option Trap) E) → Finishes mid made after result → Acts m P nodes frame c after result
  get_acts mid after at made makes =
      two_acts m P nodes frame VecGet c b last first second top (VecTy get_takes.0 get_takes.1) IntTy get_takes.1 get_takes.2 get_run same nodes (λ kind types r t v h. h) mid after at made
      (makes get_takes.0 get_takes.1)
    where
      same : ActsOnTwo m P nodes frame VecGet c b last first second top (VecTy get_takes.0 get_takes.1) IntTy get_takes.1 get_takes.2 get_run
      same u v h j =
          on_items (kind_of m P) P.types nodes (λ u. GetGives u v)
          (λ vs. on_int (kind_of m P) P.types nodes (λ v. GetGives (ItemsV vs) v) (λ z next env ops k w. refl) second v j)
          get_takes.0 get_takes.1 first u h

module _ (m : Marking) (P : Program) (nodes : List Node) (frame : Frame) (c : ValueFrame) (b : Before m P nodes frame VecPut c) where
  pub put_enough : 2 < length frame.operands.items
  put_enough =
      let takes = put_parts (generated P) c.result c.local_types (ToNext (generated P) c.result c.shapes) c.operand_types (fits_next m P nodes frame VecPut c b) in
      let a = as_many (kind_of m P) P.types nodes (reverse frame.operands.items) c.operand_types c.operands b.top.is.operands in
      let r = length-reverse frame.operands.items in
      let p = ap length takes.2.is in
      omega (arith, a, r, p)

module _ (m : Marking) (P : Program) (nodes : List Node) (frame : Frame) (c : ValueFrame) (b : Before m P nodes frame VecPut c)
    (last : List Operand) (first second third : Operand) (top : frame.operands.items ≡ last ++ first ∷ second ∷ third ∷ []) where
  put_takes : (n : ℕ) × (t : Ty)
      × TakesThree (generated P) c.result c.local_types (ToNext (generated P) c.result c.shapes) (VecTy n t) IntTy t (VecTy n t) c.operand_types
  put_takes = put_parts (generated P) c.result c.local_types (ToNext (generated P) c.result c.shapes) c.operand_types (fits_next m P nodes frame VecPut c b)

  put_operands : (u : Value) × (v : Value) × (e : Value) × IsHeld (kind_of m P) P.types nodes first (VecTy put_takes.0 put_takes.1) u
      × IsHeld (kind_of m P) P.types nodes second IntTy v × IsHeld (kind_of m P) P.types nodes third put_takes.1 e
  put_operands = three_operands m P nodes frame VecPut c b last first second third top (VecTy put_takes.0 put_takes.1) IntTy put_takes.1 (VecTy put_takes.0 put_takes.1) put_takes.2

  pub array_put : (n : ℕ) × (t : Ty) × (v : Value) × IsHeld (kind_of m P) P.types nodes first (VecTy n t) v
  array_put = (put_takes.0, put_takes.1, put_operands.0, put_operands.3)

  pub index_put : (v : Value) × IsHeld (kind_of m P) P.types nodes second IntTy v
  index_put = (put_operands.1, put_operands.4)

  pub item_put : (t : Ty) × (v : Value) × IsHeld (kind_of m P) P.types nodes third t v
  item_put = (put_takes.1, put_operands.2, put_operands.5)

  abbrev put_run : Value → Value → Value → ℕ → StateOf m → Run (CauseOf m) (StateOf m) Value
  put_run u v e k w = put_of P.format.limit P.types put_takes.0 put_takes.1 (items_in u) (int_in v) e k w

  abbrev PutGives : Value → Value → Value → Type 0
  PutGives u v e = GivesOfThree (generated P) (mode_of m P) (calls m P c.depth) VecPut (VecTy put_takes.0 put_takes.1) IntTy put_takes.1 (VecTy put_takes.0 put_takes.1) put_run u v e

  pub put_acts : {E : Type 0} (new : List Node) → Keeps nodes new → (mid after : Frame) → IsAt frame frame.place frame.locals.items last mid → (made : Result Operand Trap)
      → ((n : ℕ) (t : Ty) (u v e : Value) → IsHeld (kind_of m P) P.types nodes first (VecTy n t) u → IsHeld (kind_of m P) P.types nodes second IntTy v
      → IsHeld (kind_of m P) P.types nodes third t e
      → Makes m (kind_of m P) P.types new (VecTy n t) (put_of P.format.limit P.types n t (items_in u) (int_in v) e) made)
      → (result : Result (Option Trap) E) → Finishes mid made after result → Acts m P new frame c after result
  put_acts new keeps mid after at made makes =
      three_acts m P nodes frame VecPut c b last first second third top (VecTy put_takes.0 put_takes.1) IntTy put_takes.1 (VecTy put_takes.0 put_takes.1) put_takes.2 put_run same
      new keeps mid after at made (makes put_takes.0 put_takes.1)
    where
      same : ActsOnThree m P nodes frame VecPut c b last first second third top (VecTy put_takes.0 put_takes.1) IntTy put_takes.1 (VecTy put_takes.0 put_takes.1) put_takes.2 put_run
      same u v e h j i =
          on_items (kind_of m P) P.types nodes (λ u. PutGives u v e)
          (λ vs. on_int (kind_of m P) P.types nodes (λ v. PutGives (ItemsV vs) v e) (λ z next env ops k w. refl) second v j)
          put_takes.0 put_takes.1 first u h
