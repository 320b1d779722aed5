-- A store's run is the checked one over the answers that the store gives in it, each to the digest then held, and takes all of them.
use Rattle.std.proofs.Common.{◌≡◌, ◌∙◌, ℕ, suc, Bool, true, false, List, [], ◌∷◌, ◌++◌, map, Option, Some, None, if◌then◌else◌, bytes_eq, refl, sym, ap, ap₂, subst, append_assoc, append-nil}
use Rattle.std.proofs.lemmas.Slice.Eq.{bytes_eq-Decides}
use Rattle.core_terms.specs.Types.{Ty}
use Rattle.core_terms.specs.Formats.{Hash}
use Rattle.core_terms.specs.Projection.{read_at}
use Rattle.core_terms.specs.Reading.{Read, Good, BadAt}
use Rattle.core_terms.specs.Instructions.{Instruction}
use Rattle.core_terms.specs.Terms.{Program, body_of}
use Rattle.core_terms.specs.Values.{Value, Values, NoV, AndV}
use Rattle.ideal_meaning.specs.Run.{Stop, Trap, Traps, IsOut, Rejects, Gives, Ends, then_run, with_fuel, Refuses}
use Rattle.ideal_meaning.specs.Execution.{Ran, Stuck, then_code, then_coded, call_code}
use Rattle.ideal_meaning.specs.Called.{ran}
use Rattle.ideal_meaning.specs.Checked.{Cause, Taking, Verdict, BadState, BadArgument, WrongPiece, BadPiece, checked_mode_as, digest_in, opened, take_as}
use Rattle.ideal_meaning.specs.Fetched.{Got, IsPiece, IsLack, IsBroken, Answered, Gave, GaveLast, answered, asking, ended, fetched, from_argument, from_state, verdict_from}
use Rattle.ideal_meaning.specs.Frames.{Lacks, Breaks, Offer, NoMore, Offers}
use Rattle.ideal_meaning.specs.PieceForms.{as_whole}
use Rattle.fetched_verdicts.specs.Verdicts.{mode_over, over_argument, over_state, run_over, verdict_over}
use Rattle.fetched_verdicts.proofs.SameRuns.{RunOf, CodeOf, same_calls_from}

good : (s u : Value) (rest rest' : List ℕ) (end end' : ℕ) → Good s rest end ≡ Good u rest' end' → s ≡ u
good s u rest rest' end end' is = cc

-- pieces as answers
both : (bs cs : List (List ℕ)) → map IsPiece (bs ++ cs) ≡ map IsPiece bs ++ map IsPiece cs
both [] cs = refl
both (b ∷ bs) cs = ap (λ xs. IsPiece b ∷ xs) (both bs cs)

joined : (bs cs : List (List ℕ)) (xs : List Got) → map IsPiece (bs ++ cs) ++ xs ≡ map IsPiece bs ++ (map IsPiece cs ++ xs)
joined bs cs xs = ap (λ ys. ys ++ xs) (both bs cs) ∙ append_assoc (map IsPiece bs) (map IsPiece cs) xs

module _ (hash : Hash) (P : Program) (get : List ℕ → Got) where
  abbrev May : Unit {0} → List ℕ → Got → Unit {0} → Type 0
  May old d a new = a ≡ get d

  -- these pieces are given, each to its own digest, and this answer to the digest that the cause tells
  abbrev AreGiven : List (List ℕ) → Type 0
  AreGiven bs = Gave {A = Unit {0}} hash May tt bs tt

  abbrev IsGivenLast : Got → Cause → Type 0
  IsGivenLast a c = GaveLast {A = Unit {0}} hash May tt a c tt

  both_given : (bs cs : List (List ℕ)) → AreGiven bs → AreGiven cs → AreGiven (bs ++ cs)
  both_given [] cs h j = j
  both_given (b ∷ bs) cs h j = (h.0, h.1, both_given bs cs h.2 j)

  -- the answers of a run that was stopped so
  record EndsWith (c : Cause) (xs : List Got) : Type 0 where
    before : List (List ℕ)
    last : Got
    are : xs ≡ map IsPiece before ++ last ∷ []
    given : AreGiven before
    to_cause : IsGivenLast last c

  record HasAll (xs : List Got) : Type 0 where
    pieces : List (List ℕ)
    are : xs ≡ map IsPiece pieces
    given : AreGiven pieces

  abbrev StopsWith : Stop Cause → List Got → Type 0
  StopsWith (Rejects c) xs = EndsWith c xs
  StopsWith (Traps trap) xs = HasAll xs
  StopsWith IsOut xs = HasAll xs

  more_before : (stop : Stop Cause) (bs : List (List ℕ)) (xs : List Got) → AreGiven bs → StopsWith stop xs → StopsWith stop (map IsPiece bs ++ xs)
  more_before (Rejects c) bs xs given h = record {
    before = bs ++ h.before;
    last = h.last;
    are = ap (λ ys. map IsPiece bs ++ ys) h.are ∙ sym (joined bs h.before (h.last ∷ []));
    given = both_given bs h.before given h.given;
    to_cause = h.to_cause;
  }
  more_before (Traps trap) bs xs given h =
      record { pieces = bs ++ h.pieces; are = ap (λ ys. map IsPiece bs ++ ys) h.are ∙ sym (both bs h.pieces); given = both_given bs h.pieces given h.given }
  more_before IsOut bs xs given h =
      record { pieces = bs ++ h.pieces; are = ap (λ ys. map IsPiece bs ++ ys) h.are ∙ sym (both bs h.pieces); given = both_given bs h.pieces given h.given }

  -- The checked run over these answers does the same, whatever is behind them. What runs is a run or code, and where it goes on or
  -- stops, so does the other.
  record GoesOver (X : Type 0) (s t : Taking) (first : Taking → X) (at : Taking → X) : Type 0 where
    pieces : List (List ℕ)
    given : AreGiven pieces
    replays : (w : Taking) (rest : List Got) → w.place ≡ s.place → w.more ≡ answered (map IsPiece pieces ++ rest)
        → (w' : Taking) × (first w ≡ at w') × (w'.place ≡ t.place) × (w'.more ≡ answered rest)

  record IsStuckOver (s : Taking) (first : Taking → CodeOf) : Type 0 where
    pieces : List (List ℕ)
    given : AreGiven pieces
    replays : (w : Taking) (rest : List Got) → w.place ≡ s.place → w.more ≡ answered (map IsPiece pieces ++ rest) → first w ≡ Stuck

  -- What is told of the answers that are left behind a run that is out of fuel holds where no code is stuck: what is stuck counts as out of
  -- fuel, in the state in which it began.
  module _ (Whole : Type 0) where
    -- what is left of the answers behind a run that was not rejected
    abbrev IsLeft : Stop Cause → Taking → List Got → Type 0
    IsLeft (Rejects c) w rest = Unit {0}
    IsLeft (Traps trap) w rest = w.more ≡ answered rest
    IsLeft IsOut w rest = Whole → w.more ≡ answered rest

    record StopsOver (X : Type 0) (s : Taking) (first : Taking → X) (stop : Stop Cause) (at : Taking → X) : Type 0 where
      answers : List Got
      given : StopsWith stop answers
      replays : (w : Taking) (rest : List Got) → w.place ≡ s.place → w.more ≡ answered (answers ++ rest) → (w' : Taking) × (first w ≡ at w') × IsLeft stop w' rest

    abbrev Claim : (A : Type 0) → Taking → (Taking → RunOf A) → RunOf A → Type 0
    Claim A s first (Gives a k t) = GoesOver (RunOf A) s t first (λ w. Gives a k w)
    Claim A s first (Ends stop k t) = StopsOver (RunOf A) s first stop (λ w. Ends stop k w)

    abbrev ClaimCode : Taking → (Taking → CodeOf) → CodeOf → Type 0
    ClaimCode s first (Ran (Gives v k t)) = GoesOver CodeOf s t first (λ w. Ran (Gives v k w))
    ClaimCode s first (Ran (Ends stop k t)) = StopsOver CodeOf s first stop (λ w. Ran (Ends stop k w))
    ClaimCode s first Stuck = IsStuckOver s first

    gives_over : (X : Type 0) (s : Taking) (at : Taking → X) → GoesOver X s s at at
    gives_over X s at = record { pieces = []; given = refl; replays = λ w rest place more. (w, refl, place, more) }

    traps_over : (A : Type 0) (trap : Trap) (k : ℕ) (s : Taking) → StopsOver (RunOf A) s (λ w. Ends (Traps trap) k w) (Traps trap) (λ w. Ends (Traps trap) k w)
    traps_over A trap k s = record { answers = []; given = record { pieces = []; are = refl; given = refl }; replays = λ w rest place more. (w, refl, more) }

    out_over : (X : Type 0) (s : Taking) (at : Taking → X) → StopsOver X s at IsOut at
    out_over X s at = record { answers = []; given = record { pieces = []; are = refl; given = refl }; replays = λ w rest place more. (w, refl, λ whole. more) }

    stuck_over : (s : Taking) → IsStuckOver s (λ w. Stuck)
    stuck_over s = record { pieces = []; given = refl; replays = λ w rest place more. refl }

    -- behind what goes on
    module _ (X Y : Type 0) (s t : Taking) (first : Taking → X) (at : Taking → X) (go : X → Y) (h : GoesOver X s t first at) where
      goes_behind : (u : Taking) (end : Taking → Y) → GoesOver Y t u (λ w. go (at w)) end → GoesOver Y s u (λ w. go (first w)) end
      goes_behind u end g = record {
        pieces = h.pieces ++ g.pieces;
        given = both_given h.pieces g.pieces h.given g.given;
        replays = λ w rest place more.
            let x = h.replays w (map IsPiece g.pieces ++ rest) place (more ∙ ap answered (joined h.pieces g.pieces rest)) in
            let y = g.replays x.0 rest x.2 x.3 in
            (y.0, ap go x.1 ∙ y.1, y.2, y.3);
      }

      stops_behind : (stop : Stop Cause) (end : Taking → Y) → StopsOver Y t (λ w. go (at w)) stop end → StopsOver Y s (λ w. go (first w)) stop end
      stops_behind stop end g = record {
        answers = map IsPiece h.pieces ++ g.answers;
        given = more_before stop h.pieces g.answers h.given g.given;
        replays = λ w rest place more.
            let x = h.replays w (g.answers ++ rest) place (more ∙ ap answered (append_assoc (map IsPiece h.pieces) g.answers rest)) in
            let y = g.replays x.0 rest x.2 x.3 in
            (y.0, ap go x.1 ∙ y.1, y.2);
      }

    stuck_behind : (X : Type 0) (s t : Taking) (first : Taking → X) (at : Taking → X) (go : X → CodeOf) → GoesOver X s t first at → IsStuckOver t (λ w. go (at w)) → IsStuckOver s (λ w. go (first w))
    stuck_behind X s t first at go h g = record {
      pieces = h.pieces ++ g.pieces;
      given = both_given h.pieces g.pieces h.given g.given;
      replays = λ w rest place more.
          let x = h.replays w (map IsPiece g.pieces ++ rest) place (more ∙ ap answered (joined h.pieces g.pieces rest)) in
          ap go x.1 ∙ g.replays x.0 rest x.2 x.3;
    }

    -- what has stopped
    stopped : (X Y : Type 0) (s : Taking) (first : Taking → X) (stop : Stop Cause) (at : Taking → X) (go : X → Y) → StopsOver X s first stop at → StopsOver Y s (λ w. go (first w)) stop (λ w. go (at w))
    stopped X Y s first stop at go h = record {
      answers = h.answers;
      given = h.given;
      replays = λ w rest place more. let x = h.replays w rest place more in (x.0, ap go x.1, x.2);
    }

    behind_run : (X B : Type 0) (s t : Taking) (first : Taking → X) (at : Taking → X) (go : X → RunOf B) → GoesOver X s t first at
        → (o : RunOf B) → Claim B t (λ w. go (at w)) o → Claim B s (λ w. go (first w)) o
    behind_run X B s t first at go h (Gives b l u) g = goes_behind X (RunOf B) s t first at go h u (λ w. Gives b l w) g
    behind_run X B s t first at go h (Ends stop l u) g = stops_behind X (RunOf B) s t first at go h stop (λ w. Ends stop l w) g

    behind_code : (X : Type 0) (s t : Taking) (first : Taking → X) (at : Taking → X) (go : X → CodeOf) → GoesOver X s t first at
        → (o : CodeOf) → ClaimCode t (λ w. go (at w)) o → ClaimCode s (λ w. go (first w)) o
    behind_code X s t first at go h (Ran (Gives b l u)) g = goes_behind X CodeOf s t first at go h u (λ w. Ran (Gives b l w)) g
    behind_code X s t first at go h (Ran (Ends stop l u)) g = stops_behind X CodeOf s t first at go h stop (λ w. Ran (Ends stop l w)) g
    behind_code X s t first at go h Stuck g = stuck_behind X s t first at go h g

    goes_on : (A B : Type 0) (s : Taking) (first : Taking → RunOf A) (other : RunOf A) (next next' : A → ℕ → Taking → RunOf B)
        → Claim A s first other → ((a : A) (k : ℕ) (t : Taking) → Claim B t (next a k) (next' a k t)) → Claim B s (λ w. then_run (first w) next) (then_run other next')
    goes_on A B s first (Gives a k t) next next' h j = behind_run (RunOf A) B s t first (λ w. Gives a k w) (λ r. then_run r next) h (next' a k t) (j a k t)
    goes_on A B s first (Ends stop k t) next next' h j = stopped (RunOf A) (RunOf B) s first stop (λ w. Ends stop k w) (λ r. then_run r next) h

    code_goes_on : (s : Taking) (first : Taking → RunOf Value) (other : RunOf Value) (next next' : Value → ℕ → Taking → CodeOf)
        → Claim Value s first other → ((v : Value) (k : ℕ) (t : Taking) → ClaimCode t (next v k) (next' v k t)) → ClaimCode s (λ w. then_code (first w) next) (then_code other next')
    code_goes_on s first (Gives v k t) next next' h j = behind_code (RunOf Value) s t first (λ w. Gives v k w) (λ r. then_code r next) h (next' v k t) (j v k t)
    code_goes_on s first (Ends stop k t) next next' h j = stopped (RunOf Value) CodeOf s first stop (λ w. Ends stop k w) (λ r. then_code r next) h

    coded_goes_on : (s : Taking) (first : Taking → CodeOf) (other : CodeOf) (next next' : Value → ℕ → Taking → CodeOf)
        → ClaimCode s first other → ((v : Value) (k : ℕ) (t : Taking) → ClaimCode t (next v k) (next' v k t)) → ClaimCode s (λ w. then_coded (first w) next) (then_coded other next')
    coded_goes_on s first (Ran (Gives v k t)) next next' h j = behind_code CodeOf s t first (λ w. Ran (Gives v k w)) (λ c. then_coded c next) h (next' v k t) (j v k t)
    coded_goes_on s first (Ran (Ends stop k t)) next next' h j = stopped CodeOf CodeOf s first stop (λ w. Ran (Ends stop k w)) (λ c. then_coded c next) h
    coded_goes_on s first Stuck next next' h j =
        record { pieces = h.pieces; given = h.given; replays = λ w rest place more. ap (λ c. then_coded c next) (h.replays w rest place more) }

    -- code as a run: what is stuck is out of fuel
    code_as_run : (k : ℕ) (s : Taking) (first : Taking → CodeOf) → (Whole → (w : Taking) → first w ≡ Stuck → ⊥) → (other : CodeOf) → ClaimCode s first other
        → Claim Value s (λ w. ran k w (first w)) (ran k s other)
    code_as_run k s first never (Ran (Gives v l t)) h = record {
      pieces = h.pieces;
      given = h.given;
      replays = λ w rest place more. let x = h.replays w rest place more in (x.0, ap (ran k w) x.1, x.2, x.3);
    }
    code_as_run k s first never (Ran (Ends stop l t)) h = record {
      answers = h.answers;
      given = h.given;
      replays = λ w rest place more. let x = h.replays w rest place more in (x.0, ap (ran k w) x.1, x.2);
    }
    code_as_run k s first never Stuck h = record {
      answers = map IsPiece h.pieces;
      given = record { pieces = h.pieces; are = refl; given = h.given };
      replays = λ w rest place more. let x = h.replays w rest place more in (w, ap (ran k w) x, λ whole. absurd (never whole w x));
    }

    -- a piece that is opened
    module _ (t : Ty) (v : Value) (k : ℕ) (s : Taking) where
      abbrev held : List ℕ
      held = digest_in v

      abbrev taken : ℕ → Offer → Taking → RunOf Value
      taken place offer w = with_fuel k (take_as hash P (as_whole hash P) t held place offer w)

      abbrev first : Taking → RunOf Value
      first w = taken w.place w.more w

      at_offer : (w : Taking) (offer : Offer) (other : RunOf Value) → w.place ≡ s.place → w.more ≡ offer → taken s.place offer w ≡ other → first w ≡ other
      at_offer w offer other place more is = ap₂ (λ p o. taken p o w) place more ∙ is

      module _ (b : List ℕ) (given : get held ≡ IsPiece b) where
        abbrev tested : Bool → Read Value → ℕ → Taking → Taking → RunOf Value
        tested test read place after w = with_fuel k (if test then opened hash P read place after else Refuses (WrongPiece place held (hash b)) w)

        rejects : (c : Cause) → IsGivenLast (IsPiece b) c → (after : Taking → Offer → Taking)
            → ((w : Taking) (more : Offer) → taken s.place (Offers b 0 more) w ≡ Ends (Rejects c) k (after w more)) → StopsOver (RunOf Value) s first (Rejects c) (λ w. Ends (Rejects c) k w)
        rejects c last after is = record {
          answers = IsPiece b ∷ [];
          given = record { before = []; last = IsPiece b; are = refl; given = refl; to_cause = last };
          replays = λ w rest place more. (after w (answered rest), at_offer w (Offers b 0 (answered rest)) _ place more (is w (answered rest)), tt);
        }

        by_reading : bytes_eq (hash b) held ≡ true → (read : Read Value) → (as_whole hash P).reading t b ≡ read
            → Claim Value s first (with_fuel k (opened hash P read s.place (record { place = suc s.place; left = 0; more = NoMore Lacks })))
        by_reading same (Good u rest end) is = record {
          pieces = b ∷ [];
          given = (tt, sym (ap get ((bytes_eq-Decides (hash b) held).0 same) ∙ given), refl);
          replays = λ w rest place more. (
            record { place = suc s.place; left = 0; more = answered rest },
            at_offer w (Offers b 0 (answered rest)) _ place more (ap₂ (λ test read. tested test read s.place (record { place = suc s.place; left = 0; more = answered rest }) w) same is),
            refl,
            refl,
          );
        }
        by_reading same (BadAt offset) is =
            rejects (BadPiece s.place offset) (sym (ap get ((bytes_eq-Decides (hash b) held).0 same) ∙ given)) (λ w more. record { place = suc s.place; left = 0; more = more })
            (λ w more. ap₂ (λ test read. tested test read s.place (record { place = suc s.place; left = 0; more = more }) w) same is)

        by_test : (test : Bool) → bytes_eq (hash b) held ≡ test
            → Claim Value s first (tested test ((as_whole hash P).reading t b) s.place (record { place = suc s.place; left = 0; more = NoMore Lacks }) s)
        by_test true same = by_reading same ((as_whole hash P).reading t b) refl
        by_test false other =
            rejects (WrongPiece s.place held (hash b)) (refl, sym given) (λ w more. w)
            (λ w more. ap (λ test. tested test ((as_whole hash P).reading t b) s.place (record { place = suc s.place; left = 0; more = more }) w) other)

      by_answer : (g : Got) → get held ≡ g → Claim Value s first (taken s.place (answered (g ∷ [])) s)
      by_answer (IsPiece b) is = by_test b is (bytes_eq (hash b) held) refl
      by_answer IsLack is = record {
        answers = IsLack ∷ [];
        given = record { before = []; last = IsLack; are = refl; given = refl; to_cause = sym is };
        replays = λ w rest place more. (w, at_offer w (NoMore Lacks) _ place more refl, tt);
      }
      by_answer (IsBroken wire) is = record {
        answers = IsBroken wire ∷ [];
        given = record { before = []; last = IsBroken wire; are = refl; given = refl; to_cause = (refl, sym is) };
        replays = λ w rest place more. (w, at_offer w (NoMore (Breaks wire)) _ place more refl, tt);
      }

      opens : Claim Value s (λ w. with_fuel k ((checked_mode_as hash P (as_whole hash P)).unauth t v w)) (with_fuel k ((mode_over hash P get).unauth t v s))
      opens = by_answer (get held) refl

  -- no code of this call is stuck, whatever is answered
  abbrev pub IsWholeAs : Option (List (List Instruction)) → ℕ → Values → ℕ → Type 0
  IsWholeAs None f args k = Unit {0}
  IsWholeAs (Some codes) f args k = (w : Taking) → call_code (body_of P codes) (checked_mode_as hash P (as_whole hash P)) k f args k w ≡ Stuck → ⊥

  abbrev pub IsWhole : ℕ → Values → ℕ → Type 0
  IsWhole f args k = IsWholeAs P.code f args k

  whole_code : (f : ℕ) (args : Values) (k : ℕ) (codes : List (List Instruction)) → P.code ≡ Some codes → IsWhole f args k → IsWholeAs (Some codes) f args k
  whole_code f args k codes is whole = subst (λ o. IsWholeAs o f args k) is whole

  replayed_calls : (f : ℕ) (args : Values) (k : ℕ) → Claim (IsWhole f args k) Value (asking []) (λ w. fetched hash P f args k w) (run_over hash P get f args k)
  replayed_calls f args k =
      let Whole = IsWhole f args k in
      same_calls_from hash P get (Claim Whole) (λ A a k s. gives_over Whole (RunOf A) s (λ w. Gives a k w)) (traps_over Whole) (λ A k s. out_over Whole (RunOf A) s (λ w. Ends IsOut k w)) (goes_on Whole)
      (λ t v k s. opens Whole t v k s) (ClaimCode Whole) (stuck_over Whole) (λ v k s. gives_over Whole CodeOf s (λ w. Ran (Gives v k w))) (λ k s. out_over Whole CodeOf s (λ w. Ran (Ends IsOut k w)))
      (code_goes_on Whole) (coded_goes_on Whole) f args k (λ codes is s h. code_as_run Whole k s _ (whole_code f args k codes is) _ h) (asking [])

  -- no answer is left where the run was not rejected
  abbrev pub TakesAll : Type 0 → RunOf Value → Type 0
  TakesAll Whole (Gives v k w) = w.more ≡ answered []
  TakesAll Whole (Ends stop k w) = IsLeft Whole stop w []

  -- The answers that the store gives in the run of a call: the verdict over them is that over the store, and where it is no rejection all are taken.
  abbrev AnswersOf : List Got → Verdict → Type 0
  AnswersOf answers v = Answered {A = Unit {0}} hash May tt answers v tt

  record ReplayedTo (f : ℕ) (args : Values) (k : ℕ) (v : Verdict) : Type 0 where
    answers : List Got
    given : AnswersOf answers v
    same : ended (fetched hash P f args k (asking answers)) ≡ v
    all : TakesAll (IsWhole f args k) (fetched hash P f args k (asking answers))

  to_end : (xs : List Got) → answered xs ≡ answered (xs ++ [])
  to_end xs = ap answered (sym (append-nil xs))

  replayed_to : (f : ℕ) (args : Values) (k : ℕ) (other : RunOf Value) → Claim (IsWhole f args k) Value (asking []) (λ w. fetched hash P f args k w) other → ReplayedTo f args k (ended other)
  replayed_to f args k (Gives v l t) h =
      let xs = map IsPiece h.pieces in
      let r = h.replays (asking xs) [] refl (to_end xs) in
      record { answers = xs; given = (h.pieces, refl, h.given); same = ap ended r.1; all = subst (TakesAll (IsWhole f args k)) (sym r.1) r.3 }
  replayed_to f args k (Ends (Traps trap) l t) h =
      let r = h.replays (asking h.answers) [] refl (to_end h.answers) in
      record { answers = h.answers; given = (h.given.pieces, h.given.are, h.given.given); same = ap ended r.1; all = subst (TakesAll (IsWhole f args k)) (sym r.1) r.2 }
  replayed_to f args k (Ends IsOut l t) h =
      let r = h.replays (asking h.answers) [] refl (to_end h.answers) in
      record { answers = h.answers; given = (h.given.pieces, h.given.are, h.given.given); same = ap ended r.1; all = subst (TakesAll (IsWhole f args k)) (sym r.1) r.2 }
  replayed_to f args k (Ends (Rejects c) l t) h =
      let r = h.replays (asking h.answers) [] refl (to_end h.answers) in
      record { answers = h.answers; given = (h.given.before, h.given.last, tt, h.given.are, h.given.given, h.given.to_cause); same = ap ended r.1; all = subst (TakesAll (IsWhole f args k)) (sym r.1) tt }

  replayed : (f : ℕ) (args : Values) (k : ℕ) → ReplayedTo f args k (ended (run_over hash P get f args k))
  replayed f args k = replayed_to f args k (run_over hash P get f args k) (replayed_calls f args k)

  -- the same of the verdict, from the state and the argument on
  pub record IsGiven (t : Ty) (f : ℕ) (state argument : List ℕ) (k : ℕ) : Type 0 where
    pub answers : List Got
    pub given : AnswersOf answers (verdict_over hash P get t f state argument k)
    pub same : verdict_from hash P t f state argument k answers ≡ verdict_over hash P get t f state argument k
    pub all : (s a : Value) (rest rest' : List ℕ) (end end' : ℕ) → read_at P P.state state ≡ Good s rest end → read_at P t argument ≡ Good a rest' end'
        → TakesAll (IsWhole f (AndV s (AndV a NoV)) k) (fetched hash P f (AndV s (AndV a NoV)) k (asking answers))

  module _ (t : Ty) (f : ℕ) (state argument : List ℕ) (k : ℕ) where
    over_argument_given : (s : Value) (rest : List ℕ) (end : ℕ) → read_at P P.state state ≡ Good s rest end → (read : Read Value) → read_at P t argument ≡ read → IsGiven t f state argument k
    over_argument_given s rest end state_is (BadAt offset) is =
        let over : verdict_over hash P get t f state argument k ≡ BadArgument offset =
        ap (λ r. over_state hash P get t r argument f k) state_is ∙ ap (λ r. over_argument hash P get s r f k) is in
        let from : verdict_from hash P t f state argument k [] ≡ BadArgument offset =
        ap (λ r. from_state hash P t r argument f k []) state_is ∙ ap (λ r. from_argument hash P s r f k []) is in
        record {
          answers = [];
          given = subst (AnswersOf []) (sym over) (refl, refl);
          same = from ∙ sym over;
          all = λ u a rest rest' end end' e f. let clash : BadAt offset ≡ Good a rest' end' = sym is ∙ f in absurd (cc clash);
        }
    over_argument_given s rest end state_is (Good a behind stop) is =
        let r = replayed f (AndV s (AndV a NoV)) k in
        let over : verdict_over hash P get t f state argument k ≡ ended (run_over hash P get f (AndV s (AndV a NoV)) k) =
        ap (λ r. over_state hash P get t r argument f k) state_is ∙ ap (λ r. over_argument hash P get s r f k) is in
        let from : verdict_from hash P t f state argument k r.answers ≡ ended (fetched hash P f (AndV s (AndV a NoV)) k (asking r.answers)) =
        ap (λ q. from_state hash P t q argument f k r.answers) state_is ∙ ap (λ q. from_argument hash P s q f k r.answers) is in
        record {
          answers = r.answers;
          given = subst (AnswersOf r.answers) (sym over) r.given;
          same = from ∙ r.same ∙ sym over;
          all = λ u x rest rest' end end' e g.
              let same_state : s ≡ u = good s u _ rest _ end (sym state_is ∙ e) in
              let same_argument : a ≡ x = good a x behind rest' stop end' (sym is ∙ g) in
              subst (λ u. TakesAll (IsWhole f (AndV u (AndV x NoV)) k) (fetched hash P f (AndV u (AndV x NoV)) k (asking r.answers))) same_state
              (subst (λ x. TakesAll (IsWhole f (AndV s (AndV x NoV)) k) (fetched hash P f (AndV s (AndV x NoV)) k (asking r.answers))) same_argument r.all);
        }

    over_state_given : (read : Read Value) → read_at P P.state state ≡ read → IsGiven t f state argument k
    over_state_given (Good s rest end) is = over_argument_given s rest end is (read_at P t argument) refl
    over_state_given (BadAt offset) is =
        let over : verdict_over hash P get t f state argument k ≡ BadState offset = ap (λ r. over_state hash P get t r argument f k) is in
        let from : verdict_from hash P t f state argument k [] ≡ BadState offset = ap (λ r. from_state hash P t r argument f k []) is in
        record {
          answers = [];
          given = subst (AnswersOf []) (sym over) (refl, refl);
          same = from ∙ sym over;
          all = λ u a rest rest' end end' e f. let clash : BadAt offset ≡ Good u rest end = sym is ∙ e in absurd (cc clash);
        }

    pub over_given : IsGiven t f state argument k
    over_given = over_state_given (read_at P P.state state) refl
