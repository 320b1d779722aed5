-- Where a store gave the answers, each to the digest then held, up to the end of the run, the verdict over them is that over the store.
use Rattle.std.proofs.Common.{◌≡◌, ℕ, suc, Bool, true, false, List, [], ◌∷◌, ◌++◌, map, if◌then◌else◌, bytes_eq, refl, sym, ap, ◌∙◌, subst}
use Rattle.std.proofs.lemmas.Slice.Eq.{bytes_eq-Decides}
use Rattle.core_terms.specs.Types.{Ty}
use Rattle.core_terms.specs.Formats.{Hash}
use Rattle.core_terms.specs.Projection.{read_at}
use Rattle.core_terms.specs.Reading.{Read, Good, BadAt}
use Rattle.core_terms.specs.Terms.{Program}
use Rattle.core_terms.specs.Values.{Value, Values, NoV, AndV}
use Rattle.ideal_meaning.specs.Run.{Stop, Traps, IsOut, Rejects, Gives, Ends, then_run, with_fuel, Refuses}
use Rattle.ideal_meaning.specs.Execution.{Ran, Stuck, then_code, then_coded}
use Rattle.ideal_meaning.specs.Called.{ran}
use Rattle.ideal_meaning.specs.Checked.{Cause, Taking, Verdict, BadState, BadArgument, Rejected, Accepted, WrongPiece, BadPiece, Missing, Broken, cause_of, checked_mode_as, digest_in, opened, take_as}
use Rattle.ideal_meaning.specs.Fetched.{Got, IsPiece, IsLack, IsBroken, Answered, Gave, GaveLast, answered, asking, ended, fetched, from_argument, from_state, verdict_from}
use Rattle.ideal_meaning.specs.FetchLaws.{HasDigest, IsStore}
use Rattle.ideal_meaning.specs.Frames.{End, Lacks, Breaks, NoByte, IsCut, KindIs, LongBy, UseIs, Offer, NoMore, Offers}
use Rattle.ideal_meaning.specs.PieceForms.{as_whole}
use Rattle.ideal_meaning.specs.Wire.{Wire}
use Rattle.fetched_verdicts.specs.Verdicts.{mode_over, over_argument, over_state, run_over, verdict_over}
use Rattle.fetched_verdicts.proofs.SameRuns.{RunOf, CodeOf, same_calls_from}

not_both : {b : Bool} → b ≡ true → b ≡ false → ⊥
not_both on off = absurd (cc)

-- The verdict that the whole run comes to
module _ (hash : Hash) (P : Program) (get : List ℕ → Got) (store : IsStore hash get) (verdict : Verdict) where
  -- Where the run is rejected because the answers have ended so, the store answers so; and no piece has another digest than the one held.
  abbrev EndsAsGiven : End → Type 0
  EndsAsGiven e = (place : ℕ) (want : List ℕ) → verdict ≡ Rejected (cause_of e place want) → answered (get want ∷ []) ≡ NoMore e

  abbrev NoneWrong : Type 0
  NoneWrong = (place : ℕ) (want found : List ℕ) → verdict ≡ Rejected (WrongPiece place want found) → found ≡ want

  -- each piece that is offered is given to its own digest
  abbrev AreGiven : Offer → Type 0
  AreGiven (NoMore e) = EndsAsGiven e
  AreGiven (Offers bytes left more) = (get (hash bytes) ≡ IsPiece bytes) × AreGiven more

  -- the verifier over the answers fits the one over the store
  abbrev Fits : Taking → Taking → Type 0
  Fits w s = (w.place ≡ s.place) × AreGiven w.more

  -- the run ends so, as its verdict says
  abbrev IsSo : Stop Cause → Type 0
  IsSo (Rejects c) = verdict ≡ Rejected c
  IsSo (Traps trap) = Unit {0}
  IsSo IsOut = Unit {0}

  abbrev Follows : (A : Type 0) → RunOf A → RunOf A → Type 0
  Follows A (Gives a k w) other = (s : Taking) × (other ≡ Gives a k s) × Fits w s
  Follows A (Ends stop k w) other = IsSo stop → (k' : ℕ) × (s : Taking) × (other ≡ Ends stop k' s)

  abbrev Claim : (A : Type 0) → Taking → (Taking → RunOf A) → RunOf A → Type 0
  Claim A s first other = (w : Taking) → Fits w s → Follows A (first w) other

  then_follows : (A B : Type 0) (first other : RunOf A) (next next' : A → ℕ → Taking → RunOf B) → Follows A first other
      → ((a : A) (k : ℕ) (w s : Taking) → Fits w s → Follows B (next a k w) (next' a k s)) → Follows B (then_run first next) (then_run other next')
  then_follows A B (Gives a k w) other next next' (s, is, fits) h = subst (λ o. Follows B (next a k w) (then_run o next')) (sym is) (h a k w s fits)
  then_follows A B (Ends stop k w) other next next' f h = λ so. let e = f so in (e.0, e.1, ap (λ o. then_run o next') e.2)

  -- the same of code, which may be stuck in both
  abbrev FollowsCode : CodeOf → CodeOf → Type 0
  FollowsCode (Ran (Gives v k w)) other = (s : Taking) × (other ≡ Ran (Gives v k s)) × Fits w s
  FollowsCode (Ran (Ends stop k w)) other = IsSo stop → (k' : ℕ) × (s : Taking) × (other ≡ Ran (Ends stop k' s))
  FollowsCode Stuck other = other ≡ Stuck

  abbrev ClaimCode : Taking → (Taking → CodeOf) → CodeOf → Type 0
  ClaimCode s first other = (w : Taking) → Fits w s → FollowsCode (first w) other

  code_follows : (first other : RunOf Value) (next next' : Value → ℕ → Taking → CodeOf) → Follows Value first other
      → ((v : Value) (k : ℕ) (w s : Taking) → Fits w s → FollowsCode (next v k w) (next' v k s)) → FollowsCode (then_code first next) (then_code other next')
  code_follows (Gives v k w) other next next' (s, is, fits) h = subst (λ o. FollowsCode (next v k w) (then_code o next')) (sym is) (h v k w s fits)
  code_follows (Ends stop k w) other next next' f h = λ so. let e = f so in (e.0, e.1, ap (λ o. then_code o next') e.2)

  coded_follows : (first other : CodeOf) (next next' : Value → ℕ → Taking → CodeOf) → FollowsCode first other
      → ((v : Value) (k : ℕ) (w s : Taking) → Fits w s → FollowsCode (next v k w) (next' v k s)) → FollowsCode (then_coded first next) (then_coded other next')
  coded_follows (Ran (Gives v k w)) other next next' (s, is, fits) h = subst (λ o. FollowsCode (next v k w) (then_coded o next')) (sym is) (h v k w s fits)
  coded_follows (Ran (Ends stop k w)) other next next' f h = λ so. let e = f so in (e.0, e.1, ap (λ o. then_coded o next') e.2)
  coded_follows Stuck other next next' is h = ap (λ o. then_coded o next') is

  run_follows : (k : ℕ) (w s : Taking) (first other : CodeOf) → FollowsCode first other → Fits w s → Follows Value (ran k w first) (ran k s other)
  run_follows k w s (Ran (Gives v l u)) other (t, is, fits) h = (t, ap (ran k s) is, fits)
  run_follows k w s (Ran (Ends stop l u)) other f h = λ so. let e = f so in (e.0, e.1, ap (ran k s) e.2)
  run_follows k w s Stuck other is h = λ so. (k, s, ap (ran k s) is)

  -- pieces that are offered
  module _ (wrong : NoneWrong) (t : Ty) (v : Value) (k : ℕ) where
    abbrev held : List ℕ
    held = digest_in v

    taken : ℕ → Offer → Taking → RunOf Value
    taken place offer w = with_fuel k (take_as hash P (as_whole hash P) t held place offer w)

    by_reading : (r : Read Value) (place : ℕ) (w s : Taking) → Fits w s → Follows Value (with_fuel k (opened hash P r place w)) (with_fuel k (opened hash P r place s))
    by_reading (Good u rest end) place w s fits = (s, refl, fits)
    by_reading (BadAt offset) place w s fits = λ so. (k, s, refl)

    next_piece : (bytes : List ℕ) (left : ℕ) (more : Offer) (place : ℕ) (w s : Taking) → get (hash bytes) ≡ IsPiece bytes → AreGiven more
        → Follows Value (taken place (Offers bytes left more) w) (taken place (answered (get held ∷ [])) s)
    unfolding taken
    next_piece bytes left more place w s given rest = by (bytes_eq (hash bytes) held) refl
      where
        by : (b : Bool) → bytes_eq (hash bytes) held ≡ b → Follows Value
            (with_fuel k (if b then opened hash P ((as_whole hash P).reading t bytes) place (record { place = suc place; left = left; more = more }) else Refuses (WrongPiece place held (hash bytes)) w))
            (with_fuel k (take_as hash P (as_whole hash P) t held place (answered (get held ∷ [])) s))
        by true is =
            let same : get held ≡ IsPiece bytes = ap get (sym ((bytes_eq-Decides (hash bytes) held).0 is)) ∙ given in
            subst (λ g. Follows Value (with_fuel k (opened hash P ((as_whole hash P).reading t bytes) place (record { place = suc place; left = left; more = more })))
            (with_fuel k (take_as hash P (as_whole hash P) t held place (answered (g ∷ [])) s))) (sym same)
            (subst (λ b. Follows Value (with_fuel k (opened hash P ((as_whole hash P).reading t bytes) place (record { place = suc place; left = left; more = more })))
            (with_fuel k (if b then opened hash P ((as_whole hash P).reading t bytes) place (record { place = suc place; left = 0; more = NoMore Lacks }) else Refuses (WrongPiece place held (hash bytes)) s))) (sym is)
            (by_reading ((as_whole hash P).reading t bytes) place (record { place = suc place; left = left; more = more }) (record { place = suc place; left = 0; more = NoMore Lacks }) (refl, rest)))
        by false is = λ so. absurd (not_both ((bytes_eq-Decides (hash bytes) held).1 (wrong place held (hash bytes) so)) is)

    next_offer : (offer : Offer) (place : ℕ) (w s : Taking) → AreGiven offer → Follows Value (taken place offer w) (taken place (answered (get held ∷ [])) s)
    unfolding taken
    next_offer (NoMore e) place w s given = λ so. (k, s, ap (λ o. with_fuel k (take_as hash P (as_whole hash P) t held place o s)) (given place held so))
    next_offer (Offers bytes left more) place w s given = next_piece bytes left more place w s given.0 given.1

    opens : (s : Taking) → Claim Value s (λ w. with_fuel k ((checked_mode_as hash P (as_whole hash P)).unauth t v w)) (with_fuel k ((mode_over hash P get).unauth t v s))
    unfolding taken
    opens s w fits = subst (λ place. Follows Value (taken w.place w.more w) (taken place (answered (get held ∷ [])) s)) fits.0 (next_offer w.more w.place w s fits.1)

  follows_calls : NoneWrong → (f : ℕ) (args : Values) (k : ℕ) (w : Taking) → Fits w (asking []) → Follows Value (fetched hash P f args k w) (run_over hash P get f args k)
  follows_calls wrong f args k w fits =
      same_calls_from hash P get Claim (λ A a k s w fits. (s, refl, fits)) (λ A trap k s w fits so. (k, s, refl)) (λ A k s w fits so. (k, s, refl))
      (λ A B s first other next next' h j w fits. then_follows A B (first w) other next next' (h w fits) (λ a k w s fits. j a k s w fits)) (λ t v k s. opens wrong t v k s)
      ClaimCode (λ s w fits. refl) (λ v k s w fits. (s, refl, fits)) (λ k s w fits so. (k, s, refl))
      (λ s first other next next' h j w fits. code_follows (first w) other next next' (h w fits) (λ v k w s fits. j v k s w fits))
      (λ s first other next next' h j w fits. coded_follows (first w) other next next' (h w fits) (λ v k w s fits. j v k s w fits))
      f args k (λ codes is s h w fits. run_follows k w s _ _ (h w fits) fits) (asking []) w fits

  -- what ended so has the verdict
  same_end : (first other : RunOf Value) → Follows Value first other → ended first ≡ verdict → ended other ≡ verdict
  same_end (Gives v k w) other (s, is, fits) e = ap ended is ∙ e
  same_end (Ends (Traps trap) k w) other f e = let o = f tt in ap ended o.2 ∙ e
  same_end (Ends IsOut k w) other f e = let o = f tt in ap ended o.2 ∙ e
  same_end (Ends (Rejects c) k w) other f e = let o = f (sym e) in ap ended o.2 ∙ e

-- answers that a store gave
module _ (hash : Hash) (get : List ℕ → Got) (store : IsStore hash get) where
  abbrev May : Unit {0} → List ℕ → Got → Unit {0} → Type 0
  May old d a new = a ≡ get d

  abbrev GivenLast : Got → Cause → Type 0
  GivenLast a c = GaveLast {A = Unit {0}} hash May tt a c tt

  -- a piece that is given has its digest
  own : (d b : List ℕ) → IsPiece b ≡ get d → hash b ≡ d
  own d b is = subst (λ g. HasDigest hash g d) (sym is) (store d)

  -- what a cause says of the last answer
  last_wrong : (a : Got) (place : ℕ) (want found : List ℕ) → GivenLast a (WrongPiece place want found) → found ≡ want
  last_wrong (IsPiece b) place want found given = sym given.0 ∙ own want b given.1
  last_wrong IsLack place want found given = elim given [ ]
  last_wrong (IsBroken wire) place want found given = elim given [ ]

  last_missing : (a : Got) (place : ℕ) (want : List ℕ) → GivenLast a (Missing place want) → answered (get want ∷ []) ≡ NoMore Lacks
  last_missing IsLack place want given = ap (λ g. answered (g ∷ [])) (sym given)
  last_missing (IsPiece b) place want given = elim given [ ]
  last_missing (IsBroken wire) place want given = elim given [ ]

  last_broken : (a : Got) (place : ℕ) (want : List ℕ) (wire : Wire) → GivenLast a (Broken place want wire) → answered (get want ∷ []) ≡ NoMore (Breaks wire)
  last_broken (IsBroken other) place want wire given = ap (λ g. answered (g ∷ [])) (sym given.1) ∙ ap (λ w. NoMore (Breaks w)) given.0
  last_broken IsLack place want wire given = elim given [ ]
  last_broken (IsPiece b) place want wire given = elim given [ ]

  given_piece : (b : List ℕ) (c : Cause) → GivenLast (IsPiece b) c → get (hash b) ≡ IsPiece b
  given_piece b (WrongPiece place want found) given = ap get (own want b given.1) ∙ sym given.1
  given_piece b (BadPiece place offset) given = sym given
  given_piece b c given = elim given [ ]

  module _ (P : Program) where
    -- before the last one
    pieces_given : (v : Verdict) → EndsAsGiven hash P get store v Lacks → (bs : List (List ℕ)) (new : Unit {0}) → Gave {A = Unit {0}} hash May tt bs new → AreGiven hash P get store v (answered (map IsPiece bs))
    pieces_given v lacks [] new given = lacks
    pieces_given v lacks (b ∷ bs) new (mid, is, given) = (sym is, pieces_given v lacks bs new given)

    no_cause : (v : Verdict) (c d : Cause) → v ≡ Rejected c → v ≡ Rejected d → c ≡ d
    no_cause v c d is so = cc

    of_cause : (a : Got) (c : Cause) (e : End) → GivenLast a c → (place : ℕ) (want : List ℕ) → c ≡ cause_of e place want → answered (get want ∷ []) ≡ NoMore e
    of_cause a c Lacks given place want is = last_missing a place want (subst (GivenLast a) is given)
    of_cause a c (Breaks wire) given place want is = last_broken a place want wire (subst (GivenLast a) is given)
    of_cause a c NoByte given place want is = absurd (none a (subst (GivenLast a) is given))
      where
        none : (a : Got) → GivenLast a (cause_of NoByte place want) → ⊥
        none IsLack given = given
        none (IsPiece b) given = given
        none (IsBroken wire) given = given
    of_cause a c IsCut given place want is = absurd (none a (subst (GivenLast a) is given))
      where
        none : (a : Got) → GivenLast a (cause_of IsCut place want) → ⊥
        none IsLack given = given
        none (IsPiece b) given = given
        none (IsBroken wire) given = given
    of_cause a c (KindIs n) given place want is = absurd (none a (subst (GivenLast a) is given))
      where
        none : (a : Got) → GivenLast a (cause_of (KindIs n) place want) → ⊥
        none IsLack given = given
        none (IsPiece b) given = given
        none (IsBroken wire) given = given
    of_cause a c (LongBy n) given place want is = absurd (none a (subst (GivenLast a) is given))
      where
        none : (a : Got) → GivenLast a (cause_of (LongBy n) place want) → ⊥
        none IsLack given = given
        none (IsPiece b) given = given
        none (IsBroken wire) given = given
    of_cause a c (UseIs n held) given place want is = absurd (none a (subst (GivenLast a) is given))
      where
        none : (a : Got) → GivenLast a (cause_of (UseIs n held) place want) → ⊥
        none IsLack given = given
        none (IsPiece b) given = given
        none (IsBroken wire) given = given

    last_given : (v : Verdict) (c : Cause) → v ≡ Rejected c → (a : Got) → GivenLast a c → AreGiven hash P get store v (answered (a ∷ []))
    last_given v c is IsLack given = λ place want so. of_cause IsLack c Lacks given place want (no_cause v c _ is so)
    last_given v c is (IsBroken wire) given = λ place want so. of_cause (IsBroken wire) c (Breaks wire) given place want (no_cause v c _ is so)
    last_given v c is (IsPiece b) given = (given_piece b c given, λ place want so. of_cause (IsPiece b) c Lacks given place want (no_cause v c _ is so))

    with_last : (v : Verdict) (c : Cause) → v ≡ Rejected c → (a : Got) → GivenLast a c → (bs : List (List ℕ)) (new : Unit {0}) → Gave {A = Unit {0}} hash May tt bs new
        → AreGiven hash P get store v (answered (map IsPiece bs ++ a ∷ []))
    with_last v c is a last [] new given = last_given v c is a last
    with_last v c is a last (b ∷ bs) new (mid, piece, given) = (sym piece, with_last v c is a last bs new given)

    all_given : (answers : List Got) (v : Verdict) → Answered {A = Unit {0}} hash May tt answers v tt → AreGiven hash P get store v (answered answers) × NoneWrong hash P get store v
    all_given answers (Accepted o) (bs, is, given) =
        (subst (λ xs. AreGiven hash P get store (Accepted o) (answered xs)) (sym is) (pieces_given (Accepted o) (λ place want so. absurd (cc)) bs tt given), λ place want found so. absurd (cc))
    all_given answers (Rejected c) (bs, a, mid, is, given, last) = (
      subst (λ xs. AreGiven hash P get store (Rejected c) (answered xs)) (sym is) (with_last (Rejected c) c refl a last bs tt given),
      λ place want found so. last_wrong a place want found (subst (GivenLast a) (no_cause (Rejected c) c _ refl so) last),
    )
    all_given answers (BadState offset) (is, same) =
        (subst (λ xs. AreGiven hash P get store (BadState offset) (answered xs)) (sym is) (λ place want so. absurd (cc)), λ place want found so. absurd (cc))
    all_given answers (BadArgument offset) (is, same) =
        (subst (λ xs. AreGiven hash P get store (BadArgument offset) (answered xs)) (sym is) (λ place want so. absurd (cc)), λ place want found so. absurd (cc))

    module _ (f : ℕ) (k : ℕ) (answers : List Got) where
      at_argument : (s : Value) (read : Read Value) → Answered {A = Unit {0}} hash May tt answers (from_argument hash P s read f k answers) tt
          → over_argument hash P get s read f k ≡ from_argument hash P s read f k answers
      at_argument s (BadAt offset) given = refl
      at_argument s (Good a rest end) given =
          let run = fetched hash P f (AndV s (AndV a NoV)) k (asking answers) in
          let all = all_given answers (ended run) given in
          same_end hash P get store (ended run) run (run_over hash P get f (AndV s (AndV a NoV)) k)
          (follows_calls hash P get store (ended run) all.1 f (AndV s (AndV a NoV)) k (asking answers) (refl, all.0)) refl

      at_state : (t : Ty) (read : Read Value) (argument : List ℕ) → Answered {A = Unit {0}} hash May tt answers (from_state hash P t read argument f k answers) tt
          → over_state hash P get t read argument f k ≡ from_state hash P t read argument f k answers
      at_state t (BadAt offset) argument given = refl
      at_state t (Good s rest end) argument given = at_argument s (read_at P t argument) given

      pub verdict_given : (t : Ty) (state argument : List ℕ) → Answered {A = Unit {0}} hash May tt answers (verdict_from hash P t f state argument k answers) tt
          → verdict_over hash P get t f state argument k ≡ verdict_from hash P t f state argument k answers
      verdict_given t state argument given = at_state t (read_at P P.state state) argument given
