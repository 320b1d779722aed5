-- What a mode does by the types of a program alone, and by the program: the same, whatever the marking.
use Rattle.std.proofs.Common.{◌≡◌, ℕ, suc, List, bytes_eq, if◌then◌else◌, Option, Result, Ok, Err, Vec, refl, sym, ap, ◌∙◌, subst}
use Rattle.std.specs.declared.alloc.Global.{Global}
use Rattle.core_terms.specs.Formats.{Hash}
use Rattle.core_terms.specs.Programs.{meaning}
use Rattle.core_terms.specs.ProgramTypes.{named_table, types_by_number, types_meaning}
use Rattle.core_terms.specs.ProgramParts.{program_of_parts}
use Rattle.core_terms.specs.Reading.{Read, Good, BadAt}
use Rattle.core_terms.specs.Types.{AuthTy, Ty}
use Rattle.core_terms.specs.TypeTables.{type_at}
use Rattle.core_terms.specs.Values.{Value}
use Rattle.core_terms.specs.declared.instruction.Instruction.{Instruction}
use Rattle.core_terms.specs.declared.types.TyId.{TyId}
use Rattle.core_terms.specs.declared.term.Function.{Function}
use Rattle.core_terms.specs.declared.program.Program.{Program}
use Rattle.core_terms.specs.declared.program_types.Types.{Types}
use Rattle.ideal_meaning.specs.Run.{Refuses}
use Rattle.ideal_meaning.specs.PieceForms.{PieceForm, as_spelled, as_whole}
use Rattle.ideal_meaning.specs.Frames.{Offer, NoMore, Offers}
use Rattle.ideal_meaning.specs.Checked.{Taking, WrongPiece, digest_in, opened, take_as, take_piece}
use Rattle.value_store.specs.Nodes.{Node}
use Rattle.value_store.specs.Standing.{StandsFor}
use Rattle.value_store.specs.Markings.{Marking, IdealMarking, ProverMarking, VerifierMarking, FetcherMarking, kind_of}
use Rattle.value_store.specs.declared.node.Ref.{Ref}
use Rattle.mode_vm.specs.Meanings.{CauseOf, StateOf, mode_of}
use Rattle.mode_vm.specs.Openings.{OpensAs, OpensSome, Stands}
use Rattle.mode_vm.specs.declared.mode.Stop.{Stop}
use Rattle.mode_vm.specs.declared.mode.Stop.TheVariants.{Mode as ModeStops, NoMemory}

abbrev Codes : Type 0
Codes = Option (Vec (Vec Instruction Global) Global)

-- the piece that a verifier takes
module _ (hash : Hash) (t : Types) (fs : List Function) (code : Codes) where
  same_opened : (r : Read Value) (place : ℕ) (w : Taking) → opened hash (types_meaning t) r place w ≡ opened hash (program_of_parts t fs code) r place w
  same_opened (Good v rest end) place w = refl
  same_opened (BadAt offset) place w = refl

  -- one form of pieces, by the types alone and by the program
  module _ (form : PieceForm) where
    same_taken : (ty : Ty) (want : List ℕ) (place : ℕ) (o : Offer) (w : Taking)
        → take_as hash (types_meaning t) form ty want place o w ≡ take_as hash (program_of_parts t fs code) form ty want place o w
    same_taken ty want place (NoMore e) w = refl
    same_taken ty want place (Offers bytes left more) w =
        ap (λ o. if bytes_eq (form.digest ty bytes) want then o else Refuses (WrongPiece place want (form.digest ty bytes)) w)
        (same_opened (form.reading ty bytes) place (record { place = suc place; left = left; more = more }))

  same_piece : (ty : Ty) (want : List ℕ) (place : ℕ) (o : Offer) (w : Taking)
      → take_piece hash (types_meaning t) ty want place o w ≡ take_piece hash (program_of_parts t fs code) ty want place o w
  same_piece ty want place o w = same_taken (as_spelled hash (types_meaning t)) ty want place o w

  same_whole : (ty : Ty) (want : List ℕ) (place : ℕ) (o : Offer) (w : Taking)
      → take_as hash (types_meaning t) (as_whole hash (types_meaning t)) ty want place o w ≡ take_as hash (program_of_parts t fs code) (as_whole hash (program_of_parts t fs code)) ty want place o w
  same_whole ty want place o w = same_taken (as_whole hash (types_meaning t)) ty want place o w

same_kind : (m : Marking) (t : Types) (fs : List Function) (code : Codes) → kind_of m (types_meaning t) ≡ kind_of m (program_of_parts t fs code)
same_kind IdealMarking t fs code = refl
same_kind (ProverMarking hash) t fs code = refl
same_kind (VerifierMarking hash) t fs code = refl
same_kind (FetcherMarking hash) t fs code = refl

same_auth : (m : Marking) (t : Types) (fs : List Function) (code : Codes) (ty : Ty) (x : Value) → (mode_of m (types_meaning t)).auth ty x ≡ (mode_of m (program_of_parts t fs code)).auth ty x
same_auth IdealMarking t fs code ty x = refl
same_auth (ProverMarking hash) t fs code ty x = refl
same_auth (VerifierMarking hash) t fs code ty x = refl
same_auth (FetcherMarking hash) t fs code ty x = refl

same_unauth : (m : Marking) (t : Types) (fs : List Function) (code : Codes) (ty : Ty) (x : Value) (w : StateOf m)
    → (mode_of m (types_meaning t)).unauth ty x w ≡ (mode_of m (program_of_parts t fs code)).unauth ty x w
same_unauth IdealMarking t fs code ty x w = refl
same_unauth (ProverMarking hash) t fs code ty x w = refl
same_unauth (VerifierMarking hash) t fs code ty x w = same_piece hash t fs code ty (digest_in x) w.place w.more w
same_unauth (FetcherMarking hash) t fs code ty x w = same_whole hash t fs code ty (digest_in x) w.place w.more w

module _ (m : Marking) (t : Types) (fs : List Function) (code : Codes) (nodes : List Node) where
  pub stands_in : (r : ℕ) (ty : Ty) (v : Value) → Stands m (types_meaning t) nodes r ty v → Stands m (program_of_parts t fs code) nodes r ty v
  stands_in r ty v = subst (λ kind. StandsFor kind (named_table t) nodes r ty v) (same_kind m t fs code)

  pub stands_back : (r : ℕ) (ty : Ty) (v : Value) → Stands m (program_of_parts t fs code) nodes r ty v → Stands m (types_meaning t) nodes r ty v
  stands_back r ty v = subst (λ kind. StandsFor kind (named_table t) nodes r ty v) (sym (same_kind m t fs code))

  pub made_in : (r : ℕ) (ty : Ty) (x : Value) → Stands m (types_meaning t) nodes r (AuthTy ty) ((mode_of m (types_meaning t)).auth ty x)
      → Stands m (program_of_parts t fs code) nodes r (AuthTy ty) ((mode_of m (program_of_parts t fs code)).auth ty x)
  made_in r ty x h = stands_in r (AuthTy ty) _ (subst (λ v. Stands m (types_meaning t) nodes r (AuthTy ty) v) (same_auth m t fs code ty x) h)

  pub some_in : {F : Type 0} (ty : Ty) (result : Result Ref (Stop F)) → OpensSome m (types_meaning t) nodes ty result → OpensSome m (program_of_parts t fs code) nodes ty result
  some_in ty (Ok r) h = (h.0, stands_in r.0 ty h.0 h.1)
  some_in ty (Err stop) h = tt

  pub as_in : {F : Type 0} (cause : F → Option (CauseOf m)) (Then : StateOf m → Type 0) (ty : Ty) (x : Value) (w : StateOf m) (result : Result Ref (Stop F))
      → OpensAs m (types_meaning t) cause Then nodes ty x w result → OpensAs m (program_of_parts t fs code) cause Then nodes ty x w result
  as_in cause Then ty x w (Ok r) h = (h.0, h.1, sym (same_unauth m t fs code ty x w) ∙ h.2, stands_in r.0 ty h.0 h.3, h.4)
  as_in cause Then ty x w (Err (ModeStops f)) h = λ c e. let a = h c e in (a.0, sym (same_unauth m t fs code ty x w) ∙ a.1)
  as_in cause Then ty x w (Err NoMemory) h = tt

-- A mode is given the types of the code's program. What it says by them, by the program:
module _ (m : Marking) (p : Program) (given : Types) (is : given ≡ p.types) (id : TyId) where
  abbrev at : Types → Ty
  at t = type_at (types_by_number t) id

  abbrev fs : List Function
  fs = p.functions.items

  pub operand_by : (nodes : List Node) (r : ℕ) (under : Ty → Ty) (x : Value) → Stands m (meaning p) nodes r (under (at p.types)) x
      → (x : Value) × Stands m (types_meaning given) nodes r (under (at given)) x
  operand_by nodes r under x h =
      subst (λ t. (x : Value) × Stands m (types_meaning t) nodes r (under (at t)) x) (sym is) (x, stands_back m p.types fs p.code nodes r (under (at p.types)) x h)

  pub made_by : (old new : List Node) (v r : ℕ)
      → ((x : Value) → Stands m (types_meaning given) old v (at given) x → Stands m (types_meaning given) new r (AuthTy (at given)) ((mode_of m (types_meaning given)).auth (at given) x))
      → (x : Value) → Stands m (meaning p) old v (at p.types) x → Stands m (meaning p) new r (AuthTy (at p.types)) ((mode_of m (meaning p)).auth (at p.types) x)
  made_by old new v r made x h = made_in m p.types fs p.code new r (at p.types) x
      (subst (λ t. (x : Value) → Stands m (types_meaning t) old v (at t) x → Stands m (types_meaning t) new r (AuthTy (at t)) ((mode_of m (types_meaning t)).auth (at t) x)) is made x
      (stands_back m p.types fs p.code old v (at p.types) x h))

  pub some_by : {F : Type 0} (nodes : List Node) (result : Result Ref (Stop F)) → OpensSome m (types_meaning given) nodes (at given) result
      → OpensSome m (meaning p) nodes (at p.types) result
  some_by {F = F} nodes result h = some_in m p.types fs p.code nodes (at p.types) result (subst (λ t. OpensSome m (types_meaning t) {F = F} nodes (at t) result) is h)

  pub opens_by : {F : Type 0} (cause : F → Option (CauseOf m)) (From Then : Types → StateOf m → Type 0) (old new : List Node) (v : ℕ) (result : Result Ref (Stop F))
      → ((x : Value) (w : StateOf m) → Stands m (types_meaning given) old v (AuthTy (at given)) x → From given w
      → OpensAs m (types_meaning given) cause (Then given) new (at given) x w result)
      → (x : Value) (w : StateOf m) → Stands m (meaning p) old v (AuthTy (at p.types)) x → From p.types w → OpensAs m (meaning p) cause (Then p.types) new (at p.types) x w result
  opens_by cause From Then old new v result opens x w h from = as_in m p.types fs p.code new cause (Then p.types) (at p.types) x w result
      (subst (λ t. (x : Value) (w : StateOf m) → Stands m (types_meaning t) old v (AuthTy (at t)) x → From t w → OpensAs m (types_meaning t) cause (Then t) new (at t) x w result) is opens x w
      (stands_back m p.types fs p.code old v (AuthTy (at p.types)) x h) from)

  -- the same from one state
  pub opens_at : {F : Type 0} (cause : F → Option (CauseOf m)) (Then : StateOf m → Type 0) (old new : List Node) (v : ℕ) (result : Result Ref (Stop F)) (w : StateOf m)
      → ((x : Value) → Stands m (types_meaning given) old v (AuthTy (at given)) x → OpensAs m (types_meaning given) cause Then new (at given) x w result)
      → (x : Value) → Stands m (meaning p) old v (AuthTy (at p.types)) x → OpensAs m (meaning p) cause Then new (at p.types) x w result
  opens_at cause Then old new v result w opens x h = as_in m p.types fs p.code new cause Then (at p.types) x w result
      (subst (λ t. (x : Value) → Stands m (types_meaning t) old v (AuthTy (at t)) x → OpensAs m (types_meaning t) cause Then new (at t) x w result) is opens x
      (stands_back m p.types fs p.code old v (AuthTy (at p.types)) x h))
