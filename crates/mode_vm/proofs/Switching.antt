-- A value of a named type is taken apart.
use Rattle.std.proofs.Common.{◌≡◌, ℕ, ◌+◌, ◌<◌, List, [], ◌∷◌, ◌++◌, length, reverse, Option, slice_get, slice_index_or, Some, None, refl, sym, ap, ◌∙◌, subst}
use Rattle.std.specs.Prelude.{unwrap_or}
use Rattle.core_terms.specs.Types.{Ty, Table, NamedTy, fields_at, OnFields}
use Rattle.core_terms.specs.Values.{Value, Values, NoV, AndV, ConV}
use Rattle.core_terms.specs.Terms.{Program}
use Rattle.ideal_meaning.specs.Run.{join}
use Rattle.core_terms.specs.Instructions.{Switch}
use Rattle.core_terms.specs.Bodies.{Body, code_at}
use Rattle.core_terms.specs.GeneratedCode.{generated}
use Rattle.ideal_meaning.specs.Execution.{held, tie, act, where_some}
use Rattle.core_terms.specs.Accepted.{Fits}
use Rattle.value_store.specs.Nodes.{Node, ConNode, form_at}
use Rattle.value_store.specs.Standing.{Kind, StandsFor, AllStandFor}
use Rattle.value_store.specs.Markings.{Marking, kind_of}
use Rattle.value_store.specs.CodeNodes.{numbers_of}
use Rattle.value_store.specs.declared.node.Ref.{Ref}
use Rattle.mode_vm.specs.Operands.{AllHeld, all_at}
use Rattle.mode_vm.specs.declared.operand.Operand.{Operand}
use Rattle.mode_vm.specs.declared.operand.Operand.TheVariants.{At}
use Rattle.mode_vm.specs.Meanings.{mode_of}
use Rattle.mode_vm.specs.Machines.{ValueFrame, Before}
use Rattle.mode_vm.specs.Outcomes.{FrameGoesOn}
use Rattle.mode_vm.specs.StateParts.{IsAt}
use Rattle.mode_vm.specs.declared.frame.Frame.{Frame}
use Rattle.mode_vm.proofs.Frames.{ToNext, fits_next, goes_on, calls, reverse_push}
use Rattle.mode_vm.proofs.Scalars.{named_node}
use Rattle.mode_vm.proofs.Jumps.{skip_within}
use Rattle.mode_vm.proofs.LoadedLocals.{short, some_same, read_there}

module _ (kind : Kind) (types : Table) (nodes : List Node) where
  pub tie_joined : (rs : List Operand) (ts us : List Ty) (vs ws : Values) → AllHeld kind types nodes rs ts vs → tie ts vs ++ tie us ws ≡ tie (ts ++ us) (join vs ws)
  tie_joined [] [] us NoV ws h = refl
  tie_joined (r ∷ rs) (t ∷ ts) us (AndV v vs) ws h = ap (λ l. held t v ∷ l) (tie_joined rs ts us vs ws h.1)
  tie_joined [] [] us (AndV v vs) ws h = elim h [ ]
  tie_joined [] (t ∷ ts) us vs ws h = elim h [ ]
  tie_joined (r ∷ rs) [] us vs ws h = elim h [ ]
  tie_joined (r ∷ rs) (t ∷ ts) us NoV ws h = elim h [ ]

  pub all_joined : (rs qs : List Operand) (ts us : List Ty) (vs ws : Values) → AllHeld kind types nodes rs ts vs → AllHeld kind types nodes qs us ws
      → AllHeld kind types nodes (rs ++ qs) (ts ++ us) (join vs ws)
  all_joined [] qs [] us NoV ws h j = j
  all_joined (r ∷ rs) qs (t ∷ ts) us (AndV v vs) ws h j = (h.0, all_joined rs qs ts us vs ws h.1 j)
  all_joined [] qs [] us (AndV v vs) ws h j = elim h [ ]
  all_joined [] qs (t ∷ ts) us vs ws h j = elim h [ ]
  all_joined (r ∷ rs) qs [] us vs ws h j = elim h [ ]
  all_joined (r ∷ rs) qs (t ∷ ts) us NoV ws h j = elim h [ ]

  pub nodes_held : (rs : List Ref) (ts : List Ty) (vs : Values) → AllStandFor kind types nodes (numbers_of rs) ts vs → AllHeld kind types nodes (all_at rs) ts vs
  nodes_held [] [] NoV h = tt
  nodes_held (r ∷ rs) (t ∷ ts) (AndV v vs) h = (h.0, nodes_held rs ts vs h.1)
  nodes_held [] [] (AndV v vs) h = elim h [ ]
  nodes_held [] (t ∷ ts) vs h = elim h [ ]
  nodes_held (r ∷ rs) [] vs h = elim h [ ]
  nodes_held (r ∷ rs) (t ∷ ts) NoV h = elim h [ ]

  module _ (B : Body) (same : B.types ≡ types) (z : Ty) (number : ℕ) (places : List ℕ) (ls : List Ty) (to : ℕ → List Ty → List Ty → Type 0) where
    pub record Taken (o : Operand) (rs : List Operand) (os : List Ty) (us : Values) : Type 0 where
      pub node : Ref
      pub is : o ≡ At node
      pub tag : ℕ
      pub fields : List ℕ
      pub field_types : List Ty
      pub values : Values
      pub below_types : List Ty
      pub below : Values
      pub skip : ℕ
      pub types_are : os ≡ NamedTy number ∷ below_types
      pub are : us ≡ AndV (ConV tag values) below
      pub form : form_at nodes node.0 ≡ Some (ConNode number tag fields)
      pub found : fields_at types number tag ≡ Some field_types
      pub stand : AllStandFor kind types nodes fields field_types values
      pub others : AllHeld kind types nodes rs below_types below
      pub place : slice_get places tag ≡ Some skip
      pub goes : to skip (ls ++ field_types) below_types

    on_some : (o : Option (List Ty)) (Q : List Ty → Type 0) → OnFields o Q → (ts : List Ty) × (o ≡ Some ts) × Q ts
    on_some (Some ts) Q h = (ts, refl, h)
    on_some None Q h = elim h [ ]

    pub taken : (o : Operand) (rs : List Operand) (os : List Ty) (us : Values) → Fits B z (Switch number places) ls os to → AllHeld kind types nodes (o ∷ rs) os us → Taken o rs os us
    taken o rs (NamedTy n ∷ os) (AndV v us) f h =
        let node = named_node kind types nodes n o v h.0 in
        by node.0 node.1 v (subst (λ n. StandsFor kind types nodes node.0.0 (NamedTy n) v) f.0 node.2)
      where
        by : (r : Ref) → o ≡ At r → (v : Value) → StandsFor kind types nodes r.0 (NamedTy number) v → Taken o rs (NamedTy n ∷ os) (AndV v us)
        by r is (ConV tag vs) s =
            let q = on_some (fields_at types number tag) (λ ts. AllStandFor kind types nodes s.0 ts vs) s.2 in
            let j = f.1 tag q.0 (subst (λ types. fields_at types number tag ≡ Some q.0) (sym same) q.1) in
            record {
              node = r;
              is = is;
              tag = tag;
              fields = s.0;
              field_types = q.0;
              values = vs;
              below_types = os;
              below = us;
              skip = j.0;
              types_are = ap (λ n. NamedTy n ∷ os) f.0;
              are = refl;
              form = s.1;
              found = q.1;
              stand = q.2;
              others = h.1;
              place = j.1;
              goes = j.2;
            }
        by r is v s = elim s [ ]
    taken o rs (NamedTy n ∷ os) NoV f h = elim h [ ]
    taken o rs os us f h = elim f [ ]

module _ (m : Marking) (P : Program) (nodes : List Node) (frame : Frame) (number : ℕ) (places : List ℕ) (c : ValueFrame) (b : Before m P nodes frame (Switch number places) c)
    (kept : List Operand) (r : Operand) (top : frame.operands.items ≡ kept ++ r ∷ []) where
  pub apart : Taken (kind_of m P) P.types nodes (generated P) refl c.result number places c.local_types (ToNext (generated P) c.result c.shapes) r
      (reverse kept) c.operand_types c.operands
  apart = taken (kind_of m P) P.types nodes (generated P) refl c.result number places c.local_types (ToNext (generated P) c.result c.shapes) r (reverse kept) c.operand_types c.operands
      (fits_next m P nodes frame (Switch number places) c b)
      (subst (λ l. AllHeld (kind_of m P) P.types nodes l c.operand_types c.operands) (ap reverse top ∙ reverse_push kept r) b.top.is.operands)

  pub switch_within : frame.place + 1 + apart.skip < length (code_at (generated P) frame.function.0).code
  switch_within = skip_within m P nodes frame (Switch number places) c b apart.skip _ apart.goes

  pub switched : (after : Frame) (fields : List Ref) → numbers_of fields ≡ apart.fields → IsAt frame (frame.place + 1 + apart.skip) (frame.locals.items ++ all_at fields) kept after
      → FrameGoesOn m P nodes frame c after
  switched after fields same at =
      let ops = λ (os : List Ty) (us : Values). tie os us in
      goes_on m P nodes nodes frame after (Switch number places) c b apart.skip (frame.locals.items ++ all_at fields) kept (c.local_types ++ apart.field_types) apart.below_types
      (join c.locals apart.values) apart.below at
      apart.goes
      (all_joined (kind_of m P) P.types nodes frame.locals.items (all_at fields) c.local_types apart.field_types c.locals apart.values b.top.is.locals
      (nodes_held (kind_of m P) P.types nodes fields apart.field_types apart.values
      (subst (λ l. AllStandFor (kind_of m P) P.types nodes l apart.field_types apart.values) (sym same) apart.stand)))
      apart.others
      (λ next k w.
      ap (λ os. act (generated P) (mode_of m P) (calls m P c.depth) (Switch number places) next (tie c.local_types c.locals) (tie os c.operands) k w) apart.types_are
      ∙ ap (λ us. act (generated P) (mode_of m P) (calls m P c.depth) (Switch number places) next (tie c.local_types c.locals) (tie (NamedTy number ∷ apart.below_types) us) k w) apart.are
      ∙ ap (λ o. where_some o (λ n. next n (tie c.local_types c.locals ++ tie (unwrap_or (fields_at P.types number apart.tag) []) apart.values) (tie apart.below_types apart.below) k w)) apart.place
      ∙ ap (λ o. next apart.skip (tie c.local_types c.locals ++ tie (unwrap_or o []) apart.values) (tie apart.below_types apart.below) k w) apart.found
      ∙ ap (λ l. next apart.skip l (tie apart.below_types apart.below) k w)
      (tie_joined (kind_of m P) P.types nodes frame.locals.items c.local_types apart.field_types c.locals apart.values b.top.is.locals))

con_same : (a b d e : ℕ) (fs gs : List ℕ) → Some (ConNode a b fs) ≡ Some (ConNode d e gs) → (b ≡ e) × (fs ≡ gs)
con_same a b d e fs gs h = (cc, cc)

-- the node that is seen is the one that was taken apart
module _ (m : Marking) (P : Program) (nodes : List Node) (frame : Frame) (number : ℕ) (places : List ℕ) (c : ValueFrame) (b : Before m P nodes frame (Switch number places) c)
    (kept : List Operand) (r : Operand) (top : frame.operands.items ≡ kept ++ r ∷ [])
    (node : Ref) (is : r ≡ At node) where
  same_node : (apart m P nodes frame number places c b kept r top).node.0 ≡ node.0
  same_node = at_same _ node (sym (apart m P nodes frame number places c b kept r top).is ∙ is)
    where
      at_same : (x y : Ref) → At x ≡ At y → x.0 ≡ y.0
      at_same x y e = let s : x ≡ y = cc in ap (λ (r : Ref). r.0) s

  pub seen_form : form_at nodes node.0 ≡ Some (ConNode number (apart m P nodes frame number places c b kept r top).tag (apart m P nodes frame number places c b kept r top).fields)
  seen_form = ap (form_at nodes) (sym same_node) ∙ (apart m P nodes frame number places c b kept r top).form

  module _ (other tag : ℕ) (fields : List ℕ) (seen : form_at nodes node.0 ≡ Some (ConNode other tag fields)) where
    pub seen_fields : fields ≡ (apart m P nodes frame number places c b kept r top).fields
    seen_fields = (con_same other tag number _ fields _ (sym seen ∙ seen_form)).1

    pub seen_skip : slice_get places tag ≡ Some (apart m P nodes frame number places c b kept r top).skip
    seen_skip = ap (slice_get places) (con_same other tag number _ fields _ (sym seen ∙ seen_form)).0
        ∙ (apart m P nodes frame number places c b kept r top).place

pub skip_read : (skips : List ℕ) (tag i skip : ℕ) → i ≡ tag → slice_get skips tag ≡ Some skip → slice_index_or skips i 0 ≡ skip
skip_read skips tag i skip same e =
    let there = subst (λ i. slice_get skips i ≡ Some skip) (sym same) e in
    some_same _ skip (sym (read_there skips i 0 (short skips i skip there)) ∙ there)
