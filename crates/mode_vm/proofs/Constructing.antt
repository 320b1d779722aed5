-- A constructor value is made of the topmost operands.
use Rattle.std.proofs.Common.{◌≡◌, ℕ, ◌≤◌, true, ◌&&◌, List, [], ◌∷◌, ◌++◌, length, reverse, nat_lt, Result, Option, Some, unwrap_or, refl, ap, ◌∙◌, subst, arith, lt-ltb}
use Rattle.std.specs.List.{list_all}
use Rattle.std.proofs.lemmas.List.{reverse-append, length-reverse}
use Rattle.core_terms.specs.ProgramTypes.{named_table}
use Rattle.core_terms.specs.Types.{Ty, Table, NamedTy, fields_at}
use Rattle.core_terms.specs.Values.{Values, NoV, AndV, ConV}
use Rattle.core_terms.specs.Terms.{Program}
use Rattle.core_terms.specs.declared.program_types.Types.{Types}
use Rattle.core_terms.specs.declared.outcome.Trap.{Trap}
use Rattle.ideal_meaning.specs.Run.{limited}
use Rattle.core_terms.specs.Instructions.{Make}
use Rattle.core_terms.specs.GeneratedCode.{generated}
use Rattle.core_terms.specs.Bodies.{field_count}
use Rattle.ideal_meaning.specs.Execution.{Coded as Ends, Held, Next, held, tie, act, popped, then_code}
use Rattle.core_terms.specs.Accepted.{push_types}
use Rattle.ideal_meaning.proofs.Parts.{push_all}
use Rattle.value_store.specs.Nodes.{Node}
use Rattle.value_store.specs.Standing.{Kind, AllStandFor, Keeps}
use Rattle.value_store.specs.declared.node.Ref.{Ref}
use Rattle.value_store.specs.Markings.{Marking, kind_of}
use Rattle.value_store.specs.CodeNodes.{numbers_of}
use Rattle.value_store.proofs.StandingNodes.{there_stands}
use Rattle.mode_vm.specs.Operands.{AllHeld}
use Rattle.mode_vm.specs.declared.operand.Operand.{Operand}
use Rattle.mode_vm.specs.Meanings.{CauseOf, StateOf, mode_of}
use Rattle.mode_vm.specs.Machines.{ValueFrame, Before}
use Rattle.mode_vm.specs.Calculations.{Makes}
use Rattle.mode_vm.specs.Outcomes.{Acts}
use Rattle.mode_vm.specs.StateParts.{IsAt, Finishes}
use Rattle.mode_vm.specs.declared.frame.Frame.{Frame}
use Rattle.mode_vm.proofs.Frames.{ToNext, fits_next, calls}
use Rattle.mode_vm.proofs.Made.{finishes_on, made_acts}
use Rattle.mode_vm.proofs.Calls.{Pushed, length_push, popped_args, pushed}
use Rattle.mode_vm.proofs.Operands.{as_many}

module _ (kind : Kind) (types : Table) (nodes : List Node) where
  all_there : (rs : List ℕ) (ts : List Ty) (vs : Values) → AllStandFor kind types nodes rs ts vs → list_all (λ r. nat_lt r (length nodes)) rs ≡ true
  all_there [] [] NoV h = refl
  all_there (r ∷ rs) (t ∷ ts) (AndV v vs) h =
      ap (λ b. b && list_all (λ r. nat_lt r (length nodes)) rs) (lt-ltb r (length nodes) (there_stands kind types nodes t v r h.0)) ∙ all_there rs ts vs h.1
  all_there [] [] (AndV v vs) h = elim h [ ]
  all_there [] (t ∷ ts) vs h = elim h [ ]
  all_there (r ∷ rs) [] vs h = elim h [ ]
  all_there (r ∷ rs) (t ∷ ts) NoV h = elim h [ ]

module _ (m : Marking) (P : Program) (nodes : List Node) (frame : Frame) (number tag : ℕ) (c : ValueFrame) (b : Before m P nodes frame (Make number tag) c) where
  makes_of : (ts : List Ty) × (under : List Ty) × (fields_at P.types number tag ≡ Some ts) × (c.operand_types ≡ push_types ts under)
      × ToNext (generated P) c.result c.shapes 0 c.local_types (NamedTy number ∷ under)
  makes_of = fits_next m P nodes frame (Make number tag) c b

  counted : field_count P.types number tag ≡ length makes_of.0
  counted = ap (λ o. length (unwrap_or o [])) makes_of.2

  pub make_enough : field_count P.types number tag ≤ length frame.operands.items
  make_enough =
      let a = as_many (kind_of m P) P.types nodes (reverse frame.operands.items) c.operand_types c.operands b.top.is.operands in
      let r = length-reverse frame.operands.items in
      let p = ap length makes_of.3 ∙ length_push makes_of.0 makes_of.1 in
      let n = counted in
      omega (arith, a, r, p, n)

  module _ (fields kept : List Operand) (long : length fields ≡ field_count P.types number tag) (is : frame.operands.items ≡ kept ++ fields) where
    split : Pushed (kind_of m P) P.types nodes makes_of.0 makes_of.1 fields (reverse kept) c.operands
    split =
        let e : reverse frame.operands.items ≡ reverse fields ++ reverse kept = ap reverse is ∙ reverse-append kept fields in
        pushed (kind_of m P) P.types nodes makes_of.0 makes_of.1 fields (reverse kept) c.operands (long ∙ counted)
        (subst (λ l. AllHeld (kind_of m P) P.types nodes l (push_types makes_of.0 makes_of.1) c.operands) e
        (subst (λ os. AllHeld (kind_of m P) P.types nodes (reverse frame.operands.items) os c.operands) makes_of.3 b.top.is.operands))

    -- what they stand for, among any nodes that keep these
    pub fields_there : (refs : List Ref) (new : List Node) → ((ts : List Ty) (vs : Values) → AllHeld (kind_of m P) P.types nodes fields ts vs → AllStandFor (kind_of m P) P.types new (numbers_of refs) ts vs)
        → list_all (λ r. nat_lt r (length new)) (numbers_of refs) ≡ true
    fields_there refs new placed = all_there (kind_of m P) P.types new (numbers_of refs) makes_of.0 split.vs (placed makes_of.0 split.vs split.args_stand)

    pub make_acts : {E : Type 0} (new : List Node) → Keeps nodes new → (mid after : Frame) → IsAt frame frame.place frame.locals.items kept mid → (made : Result Operand Trap)
        → ((ts : List Ty) (vs : Values) → fields_at P.types number tag ≡ Some ts → AllHeld (kind_of m P) P.types nodes fields ts vs
        → Makes m (kind_of m P) P.types new (NamedTy number) (limited P.format.limit P.types (NamedTy number) (ConV tag vs)) made)
        → (result : Result (Option Trap) E) → Finishes mid made after result → Acts m P new frame c after result
    make_acts new keeps mid after at made makes result finishes =
        made_acts m P nodes new keeps frame after (Make number tag) c b kept (NamedTy number) makes_of.1 split.below
        (limited P.format.limit P.types (NamedTy number) (ConV tag split.vs)) acts makes_of.4 split.rest_stand made
        (makes makes_of.0 split.vs makes_of.2 split.args_stand) result (finishes_on frame mid after kept at made result finishes)
      where
        acts : (next : Next (CauseOf m) (StateOf m)) (k : ℕ) (w : StateOf m)
            → act (generated P) (mode_of m P) (calls m P c.depth) (Make number tag) next (tie c.local_types c.locals) (tie c.operand_types c.operands) k w
            ≡ then_code (limited P.format.limit P.types (NamedTy number) (ConV tag split.vs) k w)
            (λ v k w. next 0 (tie c.local_types c.locals) (held (NamedTy number) v ∷ tie makes_of.1 split.below) k w)
        acts next k w =
            let env = tie c.local_types c.locals in
            let go : Values → List Held → Ends (CauseOf m) (StateOf m) =
            λ vs ops. then_code (limited P.format.limit P.types (NamedTy number) (ConV tag vs) k w) (λ v k w. next 0 env (held (NamedTy number) v ∷ ops) k w) in
            ap (λ os. popped (field_count P.types number tag) (tie os c.operands) NoV go) makes_of.3
            ∙ ap (λ ops. popped (field_count P.types number tag) ops NoV go) split.tied
            ∙ ap (λ n. popped n (push_all makes_of.0 split.vs (tie makes_of.1 split.below)) NoV go) counted
            ∙ popped_args (kind_of m P) P.types nodes fields makes_of.0 split.vs split.args_stand (tie makes_of.1 split.below) go

-- the number of fields, as the code counts them
pub fields_counted : (types : Table) (number tag n : ℕ) (o : Option (List Ty)) → o ≡ fields_at types number tag → n ≡ length (unwrap_or o []) → n ≡ field_count types number tag
fields_counted types number tag n o found count = count ∙ ap (λ o. length (unwrap_or o [])) found

-- and as its program has them
pub counted_by : (t u : Types) (number tag n : ℕ) → t ≡ u → n ≡ field_count (named_table t) number tag → n ≡ field_count (named_table u) number tag
counted_by t u number tag n same count = count ∙ ap (λ t. field_count (named_table t) number tag) same
