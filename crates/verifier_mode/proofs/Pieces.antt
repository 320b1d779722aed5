-- What `unauth` of the definitions gives where the verifier stands, and how the verifier goes on.
use Rattle.std.proofs.Common.{◌≡◌, ℕ, suc, List, [], ◌∷◌, Bool, true, false, bytes_eq, length, Option, Some, None, option_map, slice_get, Result, Ok, Err, IsErrAnd, refl, sym, ap, ap₂, ◌∙◌, subst, if◌then◌else◌}
use Rattle.core_terms.specs.Types.{Ty}
use Rattle.core_terms.specs.Formats.{Hash}
use Rattle.core_terms.specs.Values.{Value, DigestV}
use Rattle.core_terms.specs.Reading.{Good, BadAt}
use Rattle.core_terms.specs.Terms.{Program}
use Rattle.core_terms.specs.Projection.{digest_at, read_at}
use Rattle.ideal_meaning.specs.Run.{Opening, Opens, Refuses}
use Rattle.ideal_meaning.specs.Frames.{Offer, NoMore, Offers, offered, used_piece}
use Rattle.ideal_meaning.specs.Frames as meant
use Rattle.ideal_meaning.specs.Following.{after_bytes, after_used}
use Rattle.ideal_meaning.specs.Checked.{Cause, Taking, WrongPiece, BadPiece, BadUse, cause_of, opened, take_piece, checked_mode}
use Rattle.proof_stream.specs.declared.frame.FrameEnd.{FrameEnd}
use Rattle.proof_stream.specs.declared.frame.FrameEnd.TheVariants.{End, BadKind, Cut, PieceLong, ReadFault, NoMemory}
use Rattle.proof_stream.specs.declared.frame.Frame.{Frame}
use Rattle.proof_stream.specs.declared.frame.Frame.TheVariants.{New, Back}
use Rattle.proof_stream.specs.TakenFrames.{EndsBy, OffersBack, OffersNew, TakesFrame}
use Rattle.value_store.specs.Nodes.{Node}
use Rattle.value_store.specs.Markings.{VerifierMarking}
use Rattle.value_store.specs.declared.node.Ref.{Ref}
use Rattle.reuse_buffer.specs.Kept.{Kept, kept}
use Rattle.mode_vm.specs.Openings.{OpensAs}
use Rattle.mode_vm.specs.declared.mode.Stop.{Stop}
use Rattle.mode_vm.specs.declared.mode.Stop.TheVariants as stop
use Rattle.verifier_mode.specs.declared.verifier.VerifierFault.{VerifierFault}
use Rattle.verifier_mode.specs.Faults.{end_told, fault_cause, stop_cause}
use Rattle.verifier_mode.specs.Takings.{FollowsFrames, MovesOn, PieceOpens, behind_piece, taking}

pub some_same : {A : Type 0} (x y : A) → Some x ≡ Some y → x ≡ y
some_same x y e = cc

-- a result that is the stop that came
pub ends_with : {T : Type 0} (Q : Result T (Stop VerifierFault) → Type 0) (e : Stop VerifierFault) (result : Result T (Stop VerifierFault)) → IsErrAnd result (λ x. x ≡ e) → Q (Err e) → Q result
ends_with Q e (Ok v) same q = absurd same
ends_with Q e (Err x) same q = subst (λ x. Q (Err x)) (sym same) q

-- a piece, by what its digest and its reading are
module _ (hash : Hash) (P : Program) (t : Ty) (want : List ℕ) (place : ℕ) (piece : List ℕ) (left : ℕ) (more : Offer) (w : Taking) where
  abbrev pub gives : Bool → Opening Cause Taking
  gives b = if b then opened hash P (read_at P t piece) place (behind_piece place left more) else Refuses (WrongPiece place want (digest_at hash P t piece)) w

  chosen : (b : Bool) → bytes_eq (digest_at hash P t piece) want ≡ b → take_piece hash P t want place (Offers piece left more) w ≡ gives b
  chosen b e = ap gives e

  pub is_wrong : bytes_eq (digest_at hash P t piece) want ≡ false
      → take_piece hash P t want place (Offers piece left more) w ≡ Refuses (WrongPiece place want (digest_at hash P t piece)) w
  is_wrong e = chosen false e

  pub is_bad : bytes_eq (digest_at hash P t piece) want ≡ true → (offset : ℕ) → read_at P t piece ≡ BadAt offset
      → take_piece hash P t want place (Offers piece left more) w ≡ Refuses (BadPiece place offset) (behind_piece place left more)
  is_bad e offset r = chosen true e ∙ ap (λ r. opened hash P r place (behind_piece place left more)) r

  pub is_good : bytes_eq (digest_at hash P t piece) want ≡ true → (v : Value) (p : ℕ) → read_at P t piece ≡ Good v [] p
      → take_piece hash P t want place (Offers piece left more) w ≡ Opens v (behind_piece place left more)
  is_good e v p r = chosen true e ∙ ap (λ r. opened hash P r place (behind_piece place left more)) r

-- the frame that was taken, by its kind
module _ (limit : ℕ) (bytes : List ℕ) (left : Option (List ℕ)) (frame : Frame) (in_hand : List ℕ) (takes : TakesFrame limit bytes in_hand left (Ok frame)) where
  pub new_taken : (piece : List ℕ) → frame ≡ New → in_hand ≡ piece → (rest : List ℕ) × OffersNew limit bytes piece rest × (left ≡ Some rest)
  new_taken piece is same =
      let r = subst (λ f. TakesFrame limit bytes in_hand left (Ok f)) is takes in
      (r.0, subst (λ p. OffersNew limit bytes p r.0) same r.1, r.2)

  pub back_taken : (k : ℕ) → frame ≡ Back k → (rest : List ℕ) × OffersBack limit bytes k rest × (left ≡ Some rest)
  back_taken k is = subst (λ f. TakesFrame limit bytes in_hand left (Ok f)) is takes

-- a ring that holds the last of these pieces holds them whatever its size is called
pub holds_last : (ring : Kept) (n : ℕ) (recent : List (List ℕ)) → ring ≡ kept n recent → ring ≡ kept ring.size recent
holds_last ring n recent e = e ∙ ap (λ m. kept m recent) (sym (ap (λ (r : Kept). r.size) e))

-- the verifier, where it stands
module _ (hash : Hash) (P : Program) (t : Ty) (want : List ℕ) (place : ℕ) (x : Value) (w : Taking) (held : x ≡ DigestV want) (limit : ℕ) (ring : Kept) (left : Option (List ℕ))
    (follows : FollowsFrames P limit ring place left w) where
  abbrev pub bytes : List ℕ
  bytes = follows.bytes

  abbrev pub recent : List (List ℕ)
  recent = follows.recent

  abbrev pub here : Taking
  here = taking P ring.size recent bytes place

  abbrev pub OpenedAs : (Taking → Type 0) → List Node → Result Ref (Stop VerifierFault) → Type 0
  OpenedAs Then nodes result = OpensAs (VerifierMarking hash) P fault_cause Then nodes t x w result

  -- what `unauth` does, by what is offered
  unauth_as : (o : Offer) → offered limit bytes ring.size recent ≡ o → (checked_mode hash P).unauth t x w ≡ take_piece hash P t want place o here
  unauth_as o e =
      ap₂ (λ x w. (checked_mode hash P).unauth t x w) held follows.is
      ∙ ap (λ o. take_piece hash P t want place o here) (subst (λ limit. offered limit bytes ring.size recent ≡ o) follows.within e)

  -- a piece that is opened, and one that is refused
  pub opens : (Then : Taking → Type 0) (nodes : List Node) (o : Offer) (behind : Taking) (r : Ref) → offered limit bytes ring.size recent ≡ o → Then behind
      → PieceOpens P nodes t (take_piece hash P t want place o here) behind (Ok r) → OpenedAs Then nodes (Ok r)
  opens Then nodes o behind r e new h = (h.0, behind, unauth_as o e ∙ h.1, h.2, new)

  pub stops : (Then : Taking → Type 0) (nodes : List Node) (o : Offer) (behind : Taking) (s : Stop VerifierFault) → offered limit bytes ring.size recent ≡ o
      → PieceOpens P nodes t (take_piece hash P t want place o here) behind (Err s) → OpenedAs Then nodes (Err s)
  stops Then nodes o behind (stop.Mode f) e h = λ c i. (let a = h c i in (a.0, unauth_as o e ∙ a.1))
  stops Then nodes o behind stop.NoMemory e h = tt

  -- no further frame
  nothing : (end : FrameEnd) (left' : Option (List ℕ)) (m : meant.End) → EndsBy limit bytes left' end → end_told end ≡ Some m → offered limit bytes ring.size recent ≡ NoMore m
  nothing End left' m h e = (h.0 ring.size recent).0 ∙ ap NoMore (some_same _ m e)
  nothing Cut left' m h e = (h.0 ring.size recent).0 ∙ ap NoMore (some_same _ m e)
  nothing (BadKind kind) left' m h e = (h.0 ring.size recent).0 ∙ ap NoMore (some_same _ m e)
  nothing (PieceLong len) left' m h e = (h.0 ring.size recent).0 ∙ ap NoMore (some_same _ m e)
  nothing ReadFault left' m h e = absurd cc
  nothing NoMemory left' m h e = absurd cc

  pub ended : (Then : Taking → Type 0) (nodes : List Node) (end : FrameEnd) (left' : Option (List ℕ)) (s : Stop VerifierFault) → EndsBy limit bytes left' end
      → stop_cause s ≡ option_map (λ e. cause_of e place want) (end_told end) → OpenedAs Then nodes (Err s)
  ended Then nodes end left' stop.NoMemory ends tells = tt
  ended Then nodes end left' (stop.Mode f) ends tells = λ c e. found (end_told end) refl c (sym e ∙ tells)
    where
      found : (o : Option meant.End) → end_told end ≡ o → (c : Cause) → Some c ≡ option_map (λ e. cause_of e place want) o
          → (after : Taking) × ((checked_mode hash P).unauth t x w ≡ Refuses c after)
      found (Some m) e c s = (here, unauth_as (NoMore m) (nothing end left' m ends e) ∙ ap (λ c. Refuses c here) (sym (some_same c (cause_of m place want) s)))
      found None e c s = absurd cc

  behind_is : (n n' place' : ℕ) (recent : List (List ℕ)) (rest : List ℕ) → n' ≡ n → place' ≡ suc place
      → behind_piece place (length rest) (offered limit rest n recent) ≡ taking P n' recent rest place'
  behind_is n n' place' recent rest size one =
      ap (λ limit. behind_piece place (length rest) (offered limit rest n recent)) follows.within ∙ ap₂ (λ m p. taking P m recent rest p) (sym size) (sym one)

  module _ (piece rest : List ℕ) (new : OffersNew limit bytes piece rest) where
    abbrev pub new_more : Offer
    new_more = offered limit rest ring.size (piece ∷ recent)

    pub new_offer : offered limit bytes ring.size recent ≡ Offers piece (length rest) new_more
    new_offer = (new ring.size recent).0

    pub follows_new : (limit' : ℕ) (ring' : Kept) (place' : ℕ) (left' : Option (List ℕ)) → limit' ≡ limit → ring' ≡ kept ring.size (piece ∷ recent) → place' ≡ suc place
        → left' ≡ Some rest → FollowsFrames P limit' ring' place' left' (behind_piece place (length rest) new_more)
    follows_new limit' ring' place' left' same holds one told = record {
      bytes = rest;
      recent = piece ∷ recent;
      within = same ∙ follows.within;
      told = told;
      holds = holds_last ring' ring.size (piece ∷ recent) holds;
      is = behind_is ring.size ring'.size place' (piece ∷ recent) rest (ap (λ (r : Kept). r.size) holds) one;
    }

  module _ (k : ℕ) (rest : List ℕ) (back : OffersBack limit bytes k rest) where
    abbrev pub back_more : Offer
    back_more = offered limit rest ring.size recent

    at_kept : (o : Option (List ℕ)) → o ≡ slice_get ring.pieces k
        → offered limit bytes ring.size recent ≡ used_piece o k (length ring.pieces) rest (λ rest. offered limit rest ring.size recent)
    at_kept o e =
        (back ring.size recent).0
        ∙ ap (λ (pieces : List (List ℕ)). used_piece (slice_get pieces k) k (length pieces) rest (λ rest. offered limit rest ring.size recent)) (sym (ap (λ (r : Kept). r.pieces) follows.holds))
        ∙ ap (λ o. used_piece o k (length ring.pieces) rest (λ rest. offered limit rest ring.size recent)) (sym e)

    pub back_offer : (piece : List ℕ) → Some piece ≡ slice_get ring.pieces k → offered limit bytes ring.size recent ≡ Offers piece (length rest) back_more
    back_offer piece e = at_kept (Some piece) e

    pub follows_back : (limit' place' : ℕ) (left' : Option (List ℕ)) → limit' ≡ limit → place' ≡ suc place → left' ≡ Some rest
        → FollowsFrames P limit' ring place' left' (behind_piece place (length rest) back_more)
    follows_back limit' place' left' same one told = record {
      bytes = rest;
      recent = recent;
      within = same ∙ follows.within;
      told = told;
      holds = follows.holds;
      is = behind_is ring.size ring.size place' recent rest refl one;
    }

    pub bad_use : (count : ℕ) → count ≡ length ring.pieces → None ≡ slice_get ring.pieces k → (c : Cause) → Some (BadUse place k count) ≡ Some c
        → (after : Taking) × ((checked_mode hash P).unauth t x w ≡ Refuses c after)
    bad_use count is e c s = (here, unauth_as _ (at_kept None e) ∙ ap (λ h. Refuses (BadUse place k h) here) (sym is) ∙ ap (λ c. Refuses c here) (some_same _ c s))

-- how a verifier goes on
module _ (limit limit' : ℕ) (ring : Kept) (left left' : Option (List ℕ)) (same : limit' ≡ limit) where
  pub moves_new : (ring' : Kept) (piece : List ℕ) → ((bytes : List ℕ) → left ≡ Some bytes → (rest : List ℕ) × OffersNew limit bytes piece rest × (left' ≡ Some rest))
      → ((recent : List (List ℕ)) → ring ≡ kept ring.size recent → ring' ≡ kept ring.size (piece ∷ recent)) → ring'.size ≡ ring.size → MovesOn limit ring left limit' ring' left'
  moves_new ring' piece takes push size = record {
    within = same;
    size = size;
    come = λ bytes recent told holds. (
        let t = takes bytes told in
        record {
          bytes = t.0;
          recent = piece ∷ recent;
          told = t.2;
          holds = holds_last ring' ring.size (piece ∷ recent) (push recent holds);
          same = ap (λ n. after_bytes limit t.0 n (piece ∷ recent)) size ∙ sym (t.1 ring.size recent).1;
        });
  }

  pub moves_back : (k : ℕ) → ((bytes : List ℕ) → left ≡ Some bytes → (rest : List ℕ) × OffersBack limit bytes k rest × (left' ≡ Some rest))
      → (piece : List ℕ) → Some piece ≡ slice_get ring.pieces k → MovesOn limit ring left limit' ring left'
  moves_back k takes piece e = record {
    within = same;
    size = refl;
    come = λ bytes recent told holds. (
        let t = takes bytes told in
        let at : slice_get (kept ring.size recent).pieces k ≡ Some piece = ap (λ (r : Kept). slice_get r.pieces k) (sym holds) ∙ sym e in
        record {
          bytes = t.0;
          recent = recent;
          told = t.2;
          holds = holds;
          same = sym ((t.1 ring.size recent).1 ∙ ap (λ o. after_used o recent t.0 (λ recent rest. after_bytes limit rest ring.size recent)) at);
        });
  }
