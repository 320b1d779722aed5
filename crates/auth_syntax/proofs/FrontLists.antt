-- The readers of lists, on tokens that only begin alike.
use Rattle.std.proofs.Common.{◌≡◌, ℕ, zero, suc, ◌+◌, ◌<◌, ◌≤◌, inl, inr, Bool, true, false, cond, List, [], ◌∷◌, ◌++◌, length, refl, sym, ap, subst, ◌∙◌, arith, append_assoc, length-append}
use Rattle.lexemes.specs.declared.place.Place.{Place}
use Rattle.lexemes.specs.declared.fault.SyntaxKind.{SyntaxKind}
use Rattle.lexemes.specs.Tokens.{Token, Tokens, Next, End, Faulty, count}
use Rattle.auth_syntax.specs.Grammar.{Written, IsSome}
use Rattle.lexemes.specs.Readings.{Reading, Found, FaultAt, then_read}
use Rattle.auth_syntax.specs.Parsing.{read_others}
use Rattle.auth_syntax.specs.FirstFaults.{Placed, placed, joined, AreFirst}
use Rattle.auth_syntax.proofs.Readers.{Reader, gone_on, found_thing, found_left}
use Rattle.auth_syntax.proofs.Lists.{IsListed, IsSeparator, sign, read_separated, refused_found, behind_first}
use Rattle.auth_syntax.proofs.Fronts.{joined-append, first-append, first-longer, AlikeHeads, CanBegin, Taken, StuckBy, Fails, IsLocal, stuck_behind_by, IsOneToken, one_taken, one_stuck, kind_is, place_is, front_heads, stuck_on}
use Rattle.auth_syntax.proofs.FrontRows.{one_before}

-- how many tokens a front has
pub first_length : (front : List Placed) (ws : List Written) → AreFirst front ws [] → length front ≡ length ws
first_length [] ws h = ap length (sym h)
first_length (p ∷ front) [] h = absurd h
first_length (p ∷ front) (w ∷ ws) h = let e = first_length front ws h.2 in omega (arith, e)

pub joined_count : (front : List Placed) (rest : Tokens) → count (joined front rest) ≡ length front + count rest
joined_count [] rest = omega arith
joined_count (p ∷ front) rest = let e = joined_count front rest in omega (arith, e)

module _ (limit : ℕ) (one : Reader limit) (between closing : Written) (all : List one.A → List Written) (all_within : ℕ → List one.A → Type 0)
    (listed : (n : ℕ) → IsListed n between one.written one.within all all_within)
    (reads : Tokens → Reading Bool) (separator : IsSeparator reads between closing)
    (local : IsLocal limit one.read one.written one.within) (one_token : IsOneToken reads) where
  abbrev written : List one.A → List Written
  written things = all things ++ closing ∷ []

  abbrev some_within : ℕ → List one.A → Type 0
  some_within at_most things = IsSome things × all_within at_most things

  abbrev behind : List one.A → List Written
  behind = behind_first between closing all

  abbrev read_most : ℕ → ℕ → Tokens → Reading (List one.A)
  read_most most wider = read_separated reads (one.read wider) most

  abbrev read_rest : ℕ → ℕ → Tokens → Reading (List one.A)
  read_rest most wider tokens = read_others (reads tokens) (read_most most wider)

  joined_list : (first : one.A) (others : List one.A) → one.written first ++ behind others ≡ written (first ∷ others)
  joined_list first [] = ap (λ ws. ws ++ closing ∷ []) (sym ((listed limit).single first))
  joined_list first (next ∷ rest) =
      sym (append_assoc (one.written first) (between ∷ all (next ∷ rest)) (closing ∷ []))
      ∙ ap (λ ws. ws ++ closing ∷ []) (sym ((listed limit).several first next rest))

  -- a list that was taken, with any bound that is enough
  pub record ListTaken (reading : ℕ → ℕ → Tokens → Reading (List one.A)) (how : List one.A → List Written) (before : Tokens) (found : List one.A) (left : Tokens) : Type 0 where
    pub front : List Placed
    pub is : before ≡ joined front left
    pub are_all : AreFirst front (how found) []
    pub fits : all_within limit found
    pub again : (wider : ℕ) → limit ≤ wider → (most : ℕ) → length found ≤ most → (other : Tokens) → AlikeHeads left other
        → reading most wider (joined front other) ≡ Found found other

  ends_here : (most : ℕ) (at : Place) (token : Token) (rest left : Tokens) (found : List one.A)
      → AreFirst (placed at token ∷ []) (closing ∷ []) [] → ((other : Tokens) → reads (Next at token other) ≡ Found false other)
      → Found [] rest ≡ Found found left → ListTaken read_rest behind (Next at token rest) found left
  ends_here most at token rest left found f again e =
      subst (λ (things : List one.A). ListTaken read_rest behind (Next at token rest) things left) (found_thing e) (record {
        front = placed at token ∷ [];
        is = ap (Next at token) (found_left e);
        are_all = f;
        fits = (listed limit).none_within;
        again = λ wider h most enough other heads.
            ap (λ (reading : Reading Bool). read_others reading (read_most most wider)) (again other);
      })

  rest_taken : (most : ℕ)
      → ((before : Tokens) (found : List one.A) (left : Tokens) → read_most most limit before ≡ Found found left
      → IsSome found × ListTaken read_most written before found left)
      → (before : Tokens) (found : List one.A) (left : Tokens) → read_rest most limit before ≡ Found found left → ListTaken read_rest behind before found left
  rest_taken most lists before found left e =
      let g = gone_on (reads before) (λ follows rest. cond follows (read_most most limit rest) (Found [] rest)) found left e in
      let t = one_taken reads one_token before g.thing g.middle g.first in
      subst (λ (ts : Tokens). ListTaken read_rest behind ts found left) (sym t.is)
      (by_sign g.thing t.at t.token g.middle found (one_before (separator.found before g.middle g.thing g.first) t) t.again g.others) where
        by_sign : (follows : Bool) (at : Place) (token : Token) (middle : Tokens) (found : List one.A)
            → AreFirst (placed at token ∷ []) (sign between closing follows ∷ []) [] → ((other : Tokens) → reads (Next at token other) ≡ Found follows other)
            → cond follows (read_most most limit middle) (Found [] middle) ≡ Found found left → ListTaken read_rest behind (Next at token middle) found left
        by_sign false at token middle found f again e = ends_here most at token middle left found f again e
        by_sign true at token middle [] f again e = absurd (lists middle [] left e).0
        by_sign true at token middle (next ∷ rest) f again e =
            let r = (lists middle (next ∷ rest) left e).1 in record {
              front = placed at token ∷ r.front;
              is = ap (Next at token) r.is;
              are_all = (f.0, f.1, r.are_all);
              fits = r.fits;
              again = λ wider h most enough other heads.
                  ap (λ (reading : Reading Bool). read_others reading (read_most most wider)) (again (joined r.front other)) ∙ r.again wider h most enough other heads;
            }

  pub list_taken : (most : ℕ) (before : Tokens) (found : List one.A) (left : Tokens) → read_most most limit before ≡ Found found left
      → IsSome found × ListTaken read_most written before found left
  list_taken zero before found left e = absurd (refused_found before found left e)
  list_taken (suc most) before found left e = several most (list_taken most) before found left e where
    several : (most : ℕ)
        → ((before : Tokens) (found : List one.A) (left : Tokens) → read_most most limit before ≡ Found found left
        → IsSome found × ListTaken read_most written before found left)
        → (before : Tokens) (found : List one.A) (left : Tokens) → read_most (suc most) limit before ≡ Found found left
        → IsSome found × ListTaken read_most written before found left
    several most lists before found left e =
        let g = gone_on (one.read limit before) _ found left e in
        let g' = gone_on (read_rest most limit g.middle) _ found left g.others in
        let t = local.taken before g.thing g.middle g.first in
        let r = rest_taken most lists g.middle g'.thing g'.middle g'.first in
        let first : t.thing ≡ g.thing = t.makes in
        let same : g'.middle ≡ left = found_left g'.others in
        subst (λ (things : List one.A). IsSome things × ListTaken read_most written before things left) (found_thing g'.others) (
          tt,
          record {
            front = t.front ++ r.front;
            is = t.is ∙ (ap (joined t.front) (r.is ∙ ap (joined r.front) same) ∙ sym (joined-append t.front r.front left));
            are_all = subst (λ (ws : List Written). AreFirst (t.front ++ r.front) ws []) (joined_list g.thing g'.thing)
                (first-append t.front r.front (one.written g.thing) (behind g'.thing) []
                (subst (λ (a : one.A). AreFirst t.front (one.written a) []) first t.are_all) r.are_all);
            fits = (listed limit).more_within g.thing g'.thing (subst (one.within limit) first t.fits) r.fits;
            again = repeated g.thing g'.thing t.front r.front g.middle g'.middle r.is t.again r.again same;
          },
        ) where
          repeated : (first : one.A) (others : List one.A) (front next : List Placed) (middle last : Tokens) → middle ≡ joined next last
              → ((wider : ℕ) → limit ≤ wider → (other : Tokens) → AlikeHeads middle other → one.read wider (joined front other) ≡ Found first other)
              → ((wider : ℕ) → limit ≤ wider → (most : ℕ) → length others ≤ most → (other : Tokens) → AlikeHeads last other
              → read_rest most wider (joined next other) ≡ Found others other)
              → last ≡ left
              → (wider : ℕ) → limit ≤ wider → (most : ℕ) → length (first ∷ others) ≤ most → (other : Tokens) → AlikeHeads left other
              → read_most most wider (joined (front ++ next) other) ≡ Found (first ∷ others) other
          repeated first others front next middle last is again again' same wider h zero enough other heads = absurd (omega arith)
          repeated first others front next middle last is again again' same wider h (suc most) enough other heads =
              let heads' : AlikeHeads last other = subst (λ (m : Tokens). AlikeHeads m other) (sym same) heads in
              ap (read_most (suc most) wider) (joined-append front next other)
              ∙ (ap (λ reading. then_read reading (λ first tokens. then_read (read_rest most wider tokens) (λ others tokens. Found (first ∷ others) tokens)))
              (again wider h (joined next other) (front_heads next last other middle is heads'))
              ∙ ap (λ reading. then_read reading (λ others tokens. Found (first ∷ others) tokens)) (again' wider h most (omega arith) other heads'))

  -- how reading a list fails, with any bound that is enough
  abbrev pub ListFails : ℕ → Tokens → SyntaxKind → Place → Type 0
  ListFails wider tokens kind at = (most : ℕ) → count tokens ≤ most → read_most most wider tokens ≡ FaultAt kind at

  abbrev RestFails : ℕ → Tokens → SyntaxKind → Place → Type 0
  RestFails wider tokens kind at = (most : ℕ) → count tokens ≤ most → read_rest most wider tokens ≡ FaultAt kind at

  abbrev ListBegins : ℕ → List Placed → Type 0
  ListBegins = CanBegin written some_within

  abbrev RestBegins : ℕ → List Placed → Type 0
  RestBegins = CanBegin behind all_within

  no_list_yet : ListBegins (suc limit) []
  no_list_yet = record {
    thing = local.some ∷ [];
    others = written (local.some ∷ []);
    are_first = refl;
    fits = (tt, (listed (suc limit)).more_within local.some [] (local.some_fits limit) (listed (suc limit)).none_within);
  }

  behind_more : (n : ℕ) (at : Place) (token : Token) (next : List Placed) → AreFirst (placed at token ∷ []) (between ∷ []) [] → ListBegins n next
      → RestBegins n (placed at token ∷ next)
  behind_more n at token next f b = put b.thing b.fits b.are_first where
    put : (things : List one.A) → some_within n things → AreFirst next (written things) b.others → RestBegins n (placed at token ∷ next)
    put [] fits are = absurd fits.0
    put (first ∷ rest) fits are = record { thing = first ∷ rest; others = b.others; are_first = (f.0, f.1, are); fits = fits.1 }

  rest_stuck : (most : ℕ)
      → ((before : Tokens) → count before ≤ most → (kind : SyntaxKind) (at : Place) → read_most most limit before ≡ FaultAt kind at
      → StuckBy limit ListFails ListBegins before kind at)
      → (before : Tokens) → count before ≤ most → (kind : SyntaxKind) (at : Place) → read_rest most limit before ≡ FaultAt kind at
      → StuckBy limit RestFails RestBegins before kind at
  rest_stuck most lists before enough kind at e =
      elim (stuck_on (reads before) (λ follows rest. cond follows (read_most most limit rest) (Found [] rest)) kind at e)
      as (λ _. StuckBy limit RestFails RestBegins before kind at) [
        | inl h ↦
            stuck_behind_by limit (Fails (λ (wider : ℕ). reads)) RestBegins RestFails RestBegins [] before before kind at refl (λ n next h b. b)
            (λ wider kind at other h heads x most enough. ap (λ (reading : Reading Bool). read_others reading (read_most most wider)) x)
            (one_stuck limit reads one_token RestBegins
            (record { thing = []; others = closing ∷ []; are_first = refl; fits = (listed (suc limit)).none_within }) before kind at h)
        | inr g ↦
            let t = one_taken reads one_token before g.thing g.middle g.first in
            by_sign g.thing t.at t.token g.middle t.is (one_before (separator.found before g.middle g.thing g.first) t) t.again g.others
      ] where
        by_sign : (follows : Bool) (place : Place) (token : Token) (middle : Tokens) → before ≡ Next place token middle
            → AreFirst (placed place token ∷ []) (sign between closing follows ∷ []) [] → ((other : Tokens) → reads (Next place token other) ≡ Found follows other)
            → cond follows (read_most most limit middle) (Found [] middle) ≡ FaultAt kind at → StuckBy limit RestFails RestBegins before kind at
        by_sign false place token middle is f again e = absurd (cc)
        by_sign true place token middle is f again e =
            let counted : suc (count middle) ≤ most = subst (λ (ts : Tokens). count ts ≤ most) is enough in
            stuck_behind_by limit ListFails ListBegins RestFails RestBegins (placed place token ∷ []) before middle kind at is
            (λ n next h b. behind_more (suc n) place token next f b)
            (λ wider kind at other h heads x most enough.
            ap (λ (reading : Reading Bool). read_others reading (read_most most wider)) (again other) ∙ x most (omega (arith, enough)))
            (lists middle (omega (arith, counted)) kind at e)

  -- one that is taken has a token
  taken_some : (front : List Placed) (first : one.A) → AreFirst front (one.written first) [] → 0 < length front
  taken_some front first are = omega (arith, first_length front (one.written first) are, (listed limit).some first)

  some_head : (middle other : Tokens) → AlikeHeads middle other → 0 < count other
  some_head middle other h = subst (λ (ts : Tokens). 0 < count ts) (sym h.other_is) (omega arith)

  pub list_stuck : (most : ℕ) (before : Tokens) → count before ≤ most → (kind : SyntaxKind) (at : Place) → read_most most limit before ≡ FaultAt kind at
      → StuckBy limit ListFails ListBegins before kind at
  list_stuck zero (Next place token rest) enough kind at e = absurd (omega arith)
  list_stuck zero (End place) enough kind at e =
      record { front = []; rest = End place; is = refl; can_go_on = no_list_yet; blocked = (sym (kind_is e), place_is e) }
  list_stuck zero (Faulty place fault) enough kind at e =
      record { front = []; rest = Faulty place fault; is = refl; can_go_on = no_list_yet; blocked = (sym (kind_is e), place_is e) }
  list_stuck (suc most) before enough kind at e =
      elim (stuck_on (one.read limit before) (λ first tokens.
      then_read (read_rest most limit tokens) (λ others tokens. Found (first ∷ others) tokens)) kind at e)
      as (λ _. StuckBy limit ListFails ListBegins before kind at) [
        | inl h ↦
            stuck_behind_by limit (Fails one.read) (CanBegin one.written one.within) ListFails ListBegins [] before before kind at refl
            (λ n next h b. record {
              thing = b.thing ∷ [];
              others = b.others ++ closing ∷ [];
              are_first = subst (λ (ws : List Written). AreFirst next (ws ++ closing ∷ []) (b.others ++ closing ∷ [])) (sym ((listed limit).single b.thing))
                  (first-longer next (one.written b.thing) b.others (closing ∷ []) b.are_first);
              fits = (tt, (listed (suc n)).more_within b.thing [] b.fits (listed (suc n)).none_within);
            })
            first_fails (local.stuck before kind at h)
        | inr g ↦
            elim (stuck_on (read_rest most limit g.middle) (λ others tokens. Found (g.thing ∷ others) tokens) kind at g.others)
            as (λ _. StuckBy limit ListFails ListBegins before kind at) [
              | inl h ↦
                  let t = local.taken before g.thing g.middle g.first in
                  let are : AreFirst t.front (one.written g.thing) [] = subst (λ (a : one.A). AreFirst t.front (one.written a) []) t.makes t.are_all in
                  let some = taken_some t.front g.thing are in
                  let counts : count before ≡ length t.front + count g.middle = ap count t.is ∙ joined_count t.front g.middle in
                  stuck_behind_by limit RestFails RestBegins ListFails ListBegins t.front before g.middle kind at t.is
                  (λ n next h b. record {
                    thing = g.thing ∷ b.thing;
                    others = b.others;
                    are_first = subst (λ (ws : List Written). AreFirst (t.front ++ next) ws b.others) (joined_list g.thing b.thing)
                        (first-append t.front next (one.written g.thing) (behind b.thing) b.others are b.are_first);
                    fits = (
                      tt,
                      (listed (suc n)).more_within g.thing b.thing
                          (local.widen limit (suc n) g.thing (omega arith) (subst (one.within limit) t.makes t.fits)) b.fits,
                    );
                  })
                  (rest_fails g.thing g.middle t.front some t.again)
                  (rest_stuck most (list_stuck most) g.middle (omega (arith, enough, counts, some)) kind at h)
              | inr g' ↦ absurd (let e' = g'.others in cc)
            ]
      ] where
        first_fails : (wider : ℕ) (kind : SyntaxKind) (at : Place) (other : Tokens) → limit ≤ wider → AlikeHeads before other → one.read wider other ≡ FaultAt kind at
            → ListFails wider other kind at
        first_fails wider kind at other h heads x zero enough = absurd (omega (arith, some_head before other heads, enough))
        first_fails wider kind at other h heads x (suc most) enough =
            ap (λ reading. then_read reading (λ first tokens. then_read (read_rest most wider tokens) (λ others tokens. Found (first ∷ others) tokens))) x

        rest_fails : (first : one.A) (middle : Tokens) (front : List Placed) → 0 < length front
            → ((wider : ℕ) → limit ≤ wider → (other : Tokens) → AlikeHeads middle other → one.read wider (joined front other) ≡ Found first other)
            → (wider : ℕ) (kind : SyntaxKind) (at : Place) (other : Tokens) → limit ≤ wider → AlikeHeads middle other → RestFails wider other kind at
            → ListFails wider (joined front other) kind at
        rest_fails first middle front some again wider kind at other h heads x zero enough = absurd (omega (arith, joined_count front other, enough, some))
        rest_fails first middle front some again wider kind at other h heads x (suc most) enough =
            ap (λ reading. then_read reading (λ first tokens. then_read (read_rest most wider tokens) (λ others tokens. Found (first ∷ others) tokens)))
            (again wider h other heads)
            ∙ ap (λ reading. then_read reading (λ others tokens. Found (first ∷ others) tokens)) (x most (omega (arith, joined_count front other, enough, some)))

  -- a list of no more things than there are tokens
  abbrev read_counted : ℕ → Tokens → Reading (List one.A)
  read_counted wider tokens = read_most (count tokens) wider tokens

  first_fit : (things : List one.A) → length things ≤ length (all things)
  first_fit [] = omega arith
  first_fit (thing ∷ []) = rw (listed limit).single (omega (arith, (listed limit).some thing))
  first_fit (thing ∷ next ∷ rest) =
      let others = first_fit (next ∷ rest) in
      rw (listed limit).several (omega (arith, others, (listed limit).some thing, length-append (one.written thing) (between ∷ all (next ∷ rest))))

  counted_taken : (before : Tokens) (found : List one.A) (left : Tokens) → read_counted limit before ≡ Found found left
      → Taken limit read_counted (λ things. things) written some_within before found left
  counted_taken before found left e =
      let t = list_taken (count before) before found left e in let r = t.1 in
      let front : List Placed = r.front in
      let long : length front ≡ length (all found ++ closing ∷ []) = first_length front (written found) r.are_all in
      record {
        thing = found;
        makes = refl;
        front = front;
        is = r.is;
        are_all = r.are_all;
        fits = (t.0, r.fits);
        again = λ wider h other heads. r.again wider h (count (joined front other))
            (omega (arith, first_fit found, long, length-append (all found) (closing ∷ []), joined_count front other)) other heads;
      }

  counted_stuck : (before : Tokens) (kind : SyntaxKind) (at : Place) → read_counted limit before ≡ FaultAt kind at
      → StuckBy limit (Fails read_counted) ListBegins before kind at
  counted_stuck before kind at e =
      stuck_behind_by limit ListFails ListBegins (Fails read_counted) ListBegins [] before before kind at refl (λ n next h b. b)
      (λ wider kind at other h heads x. x (count other) (omega arith)) (list_stuck (count before) before (omega arith) kind at e)

  pub counted_local : ((n wider : ℕ) (things : List one.A) → n ≤ wider → all_within n things → all_within wider things)
      → IsLocal limit read_counted written some_within
  counted_local widen = record {
    taken = counted_taken;
    stuck = counted_stuck;
    some = local.some ∷ [];
    some_fits = λ n. (tt, (listed (suc n)).more_within local.some [] (local.some_fits n) (listed (suc n)).none_within);
    widen = λ n wider things h fits. (fits.0, widen n wider things h fits.1);
  }
