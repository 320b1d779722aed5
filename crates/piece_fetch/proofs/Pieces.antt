-- What `unauth` of the definitions gives where an answer comes.
use Rattle.std.proofs.Common.{◌≡◌, ℕ, List, [], ◌∷◌, Bool, true, false, bytes_eq, Some, Result, Ok, Err, refl, sym, ap, ap₂, ◌∙◌, subst, if◌then◌else◌}
use Rattle.core_terms.specs.Types.{Ty}
use Rattle.core_terms.specs.Formats.{Hash}
use Rattle.core_terms.specs.Values.{Value, DigestV}
use Rattle.core_terms.specs.Reading.{Good, BadAt}
use Rattle.core_terms.specs.Terms.{Program}
use Rattle.core_terms.specs.Projection.{read_at}
use Rattle.ideal_meaning.specs.Run.{Opening, Opens, Refuses}
use Rattle.ideal_meaning.specs.Frames.{Offer, Offers}
use Rattle.ideal_meaning.specs.PieceForms.{as_whole, front_at, read_behind}
use Rattle.ideal_meaning.specs.Checked as meant
use Rattle.ideal_meaning.specs.Checked.{Cause, Taking, opened, take_as, checked_mode_as}
use Rattle.ideal_meaning.specs.Fetched.{Got, IsPiece, answered}
use Rattle.value_store.specs.Nodes.{Node}
use Rattle.value_store.specs.Markings.{FetcherMarking}
use Rattle.value_store.specs.declared.node.Ref.{Ref}
use Rattle.mode_vm.specs.Openings.{Came, OpensAs}
use Rattle.mode_vm.specs.declared.mode.Stop.{Stop}
use Rattle.mode_vm.specs.declared.mode.Stop.TheVariants as stop
use Rattle.verifier_mode.specs.Takings.{behind_piece}
use Rattle.verifier_mode.proofs.Pieces.{some_same}
use Rattle.piece_fetch.specs.declared.fetcher.FetcherFault.{FetcherFault}
use Rattle.piece_fetch.specs.declared.fetcher.FetcherFault.TheVariants.{Missing, Broken, WrongPiece, BadPiece, Failed}
use Rattle.piece_fetch.specs.Answerings.{IsTo, MayGive, MayStop}
use Rattle.piece_fetch.specs.Faults.{fault_cause}
use Rattle.piece_fetch.specs.Openings.{PieceOpens, RefusesPiece}

-- a piece, by what its digest and its reading are
module _ (hash : Hash) (P : Program) (t : Ty) (want : List ℕ) (place : ℕ) (piece : List ℕ) (more : Offer) (w : Taking) where
  abbrev gives : Bool → Opening Cause Taking
  gives b = if b
      then opened hash P (read_behind (front_at hash P t) (read_at P t) piece) place (behind_piece place 0 more)
      else Refuses (meant.WrongPiece place want (hash piece)) w

  chosen : (b : Bool) → bytes_eq (hash piece) want ≡ b → take_as hash P (as_whole hash P) t want place (Offers piece 0 more) w ≡ gives b
  chosen b e = ap gives e

  pub is_wrong : bytes_eq (hash piece) want ≡ false → take_as hash P (as_whole hash P) t want place (Offers piece 0 more) w ≡ Refuses (meant.WrongPiece place want (hash piece)) w
  is_wrong e = chosen false e

  pub is_bad : bytes_eq (hash piece) want ≡ true → (offset : ℕ) → read_behind (front_at hash P t) (read_at P t) piece ≡ BadAt offset
      → take_as hash P (as_whole hash P) t want place (Offers piece 0 more) w ≡ Refuses (meant.BadPiece place offset) (behind_piece place 0 more)
  is_bad e offset r = chosen true e ∙ ap (λ r. opened hash P r place (behind_piece place 0 more)) r

  pub is_good : bytes_eq (hash piece) want ≡ true → (v : Value) (end : ℕ) → read_behind (front_at hash P t) (read_at P t) piece ≡ Good v [] end
      → take_as hash P (as_whole hash P) t want place (Offers piece 0 more) w ≡ Opens v (behind_piece place 0 more)
  is_good e v end r = chosen true e ∙ ap (λ r. opened hash P r place (behind_piece place 0 more)) r

-- the verifier before the piece with this number, to which these answers are still to come
module _ (hash : Hash) (P : Program) (t : Ty) (want : List ℕ) (place : ℕ) (x : Value) (w : Taking) (held : x ≡ DigestV want) (answers : List Got) (to : IsTo place answers w) where
  abbrev pub OpenedAs : (Taking → Type 0) → List Node → Result Ref (Stop FetcherFault) → Type 0
  OpenedAs Then nodes result = OpensAs (FetcherMarking hash) P fault_cause Then nodes t x w result

  -- what `unauth` does, by the next answer
  unauth_as : (o : Offer) → answered answers ≡ o → (checked_mode_as hash P (as_whole hash P)).unauth t x w ≡ take_as hash P (as_whole hash P) t want place o w
  unauth_as o e =
      ap (λ x. (checked_mode_as hash P (as_whole hash P)).unauth t x w) held
      ∙ ap₂ (λ p o. take_as hash P (as_whole hash P) t want p o w) to.at (to.more ∙ e)

  pub opens : (Then : Taking → Type 0) (nodes : List Node) (o : Offer) (behind : Taking) (r : Ref) → answered answers ≡ o → Then behind
      → PieceOpens P nodes t (take_as hash P (as_whole hash P) t want place o w) behind (Ok r) → OpenedAs Then nodes (Ok r)
  opens Then nodes o behind r e new h = (h.0, behind, unauth_as o e ∙ h.1, h.2, new)

  pub stops : (Then : Taking → Type 0) (nodes : List Node) (o : Offer) (behind : Taking) (s : Stop FetcherFault) → answered answers ≡ o
      → PieceOpens P nodes t (take_as hash P (as_whole hash P) t want place o w) behind (Err s) → OpenedAs Then nodes (Err s)
  stops Then nodes o behind (stop.Mode f) e h = λ c i. (let a = h c i in (a.0, unauth_as o e ∙ a.1))
  stops Then nodes o behind stop.NoMemory e h = tt

  -- no piece is answered
  pub ends : (Then : Taking → Type 0) (nodes : List Node) (o : Offer) (f : FetcherFault) (c : Cause) → answered answers ≡ o
      → take_as hash P (as_whole hash P) t want place o w ≡ Refuses c w → fault_cause f ≡ Some c → OpenedAs Then nodes (Err (stop.Mode f))
  ends Then nodes o f c e h is = λ d i. (w, unauth_as o e ∙ h ∙ ap (λ c. Refuses c w) (some_same c d (sym is ∙ i)))

-- a piece that is refused was given to the digest that was held
module _ {U : Type 0} (hash : Hash) (May : U → List ℕ → Got → U → Type 0) (old new : U) (want found b : List ℕ) (is : found ≡ hash b) (given : May old want (IsPiece b) new) where
  pub piece_stops : (s : Stop FetcherFault) (Q : List Got → Type 0) → RefusesPiece want found {R = Ref} (Err s) → Q (IsPiece b ∷ [])
      → Came {R = Ref} (λ v a w. MayGive hash May v a w) (λ v a f w. MayStop hash May v a (fault_cause f) w) fault_cause old new (Err s) Q
  piece_stops (stop.Mode (WrongPiece place held got)) Q r q = λ c e. (
    [],
    IsPiece b,
    old,
    refl,
    (sym is ∙ sym r.1, subst (λ d. May old d (IsPiece b) new) (sym r.0) given),
    q,
  )
  piece_stops (stop.Mode (BadPiece place offset)) Q r q = λ c e. (
    [],
    IsPiece b,
    old,
    refl,
    subst (λ d. May old d (IsPiece b) new) (sym r ∙ is) given,
    q,
  )
  piece_stops (stop.Mode (Missing place held)) Q r q = elim r [ ]
  piece_stops (stop.Mode (Broken place held wire)) Q r q = elim r [ ]
  piece_stops (stop.Mode Failed) Q r q = elim r [ ]
  piece_stops stop.NoMemory Q r q = tt
