-- The readers of arms, on tokens that only begin alike: arms are a list with bars that `end` ends.
use Rattle.std.proofs.Common.{◌≡◌, ℕ, zero, suc, ◌≤◌, Bool, true, false, List, [], ◌∷◌, ◌++◌, refl, sym, ap, subst, ◌∙◌, arith, append_assoc}
use Rattle.lexemes.specs.declared.place.Place.{Place}
use Rattle.lexemes.specs.declared.fault.SyntaxKind.{SyntaxKind}
use Rattle.lexemes.specs.declared.token.Keyword.TheVariants.{End as EndWord}
use Rattle.lexemes.specs.declared.token.Mark.TheVariants.{Arrow, Bar}
use Rattle.lexemes.specs.Tokens.{KeywordToken, MarkToken, Tokens, Next, End, Faulty, count}
use Rattle.auth_syntax.specs.Syntax.{NameSyntax, ExpSyntax, ArmsSyntax, NoArmSyntax, AndArmSyntax}
use Rattle.auth_syntax.specs.Grammar.{Written, mark, word, upper, names_tokens, in_parentheses, expression_tokens, arms_tokens, arms_levels, ArmsHaveParts, IsExpression, IsSome}
use Rattle.lexemes.specs.Readings.{Reading, Found, FaultAt, then_read, read_mark}
use Rattle.auth_syntax.specs.Parsing.{read_upper, read_lower, read_optional_list, read_others, read_arm_separator, read_other_arms, read_arms, read_expression}
use Rattle.auth_syntax.specs.FirstFaults.{joined, AreFirst}
use Rattle.auth_syntax.proofs.Beginnings.{Begin, First, begin-none, begin-next}
use Rattle.auth_syntax.proofs.Readers.{IsClear, IsReader, Reader, Row, ThenMark, ThenUpper, Then, Last, read_row, row_sound, row_complete, found_thing, found_left}
use Rattle.auth_syntax.proofs.Lists.{IsListed, IsSeparator, sign, read_separated}
use Rattle.auth_syntax.proofs.Expressions.{AreExpressionsRead, parts_of, names, names_listed, field_names, arms_read_written, arms_joined, some_arms}
use Rattle.auth_syntax.proofs.Fronts.{CanBegin, IsLocal, stuck_behind, kind_is, place_is}
use Rattle.auth_syntax.proofs.FrontRows.{some_name}
use Rattle.auth_syntax.proofs.Productions.{names_local, IsRead, read_taken, read_stuck}
use Rattle.auth_syntax.proofs.FrontLists.{counted_local}
use Rattle.auth_syntax.proofs.FrontCommas.{arm_one, optional_local}

-- what is made of what was read
abbrev pub remade : {A B : Type 0} → (A → B) → Reading A → Reading B
remade f (Found thing left) = Found (f thing) left
remade f (FaultAt kind at) = FaultAt kind at

record Remade {A B : Type 0} (f : A → B) (reading : Reading A) (found : B) (left : Tokens) : Type 0 where
  pub thing : A
  pub first : reading ≡ Found thing left
  pub makes : f thing ≡ found

remade_found : {A B : Type 0} (f : A → B) (reading : Reading A) (found : B) (left : Tokens) → remade f reading ≡ Found found left
    → Remade f reading found left
remade_found f (Found thing rest) found left e = record { thing = thing; first = ap (λ ts. Found thing ts) (found_left e); makes = found_thing e }
remade_found f (FaultAt kind at) found left e = absurd (cc)

remade_fault : {A B : Type 0} (f : A → B) (reading : Reading A) (kind : SyntaxKind) (at : Place) → remade f reading ≡ FaultAt kind at
    → reading ≡ FaultAt kind at
remade_fault f (Found thing rest) kind at e = absurd (cc)
remade_fault {A} f (FaultAt kind' at') kind at e = again (kind_is e) (place_is e) where
  again : kind' ≡ kind → at' ≡ at → ◌≡◌ {A = Reading A} (FaultAt kind' at') (FaultAt kind at)
  again h h' = cc

-- such a reader is local too
remade_local : {A B : Type 0} (limit : ℕ) (read : ℕ → Tokens → Reading A) (read' : ℕ → Tokens → Reading B) (written : A → List Written) (written' : B → List Written)
    (within : ℕ → A → Type 0) (within' : ℕ → B → Type 0) (f : A → B)
    → ((wider : ℕ) (tokens : Tokens) → read' wider tokens ≡ remade f (read wider tokens))
    → ((n : ℕ) (thing : A) → within n thing → (written' (f thing) ≡ written thing) × within' n (f thing))
    → ((n wider : ℕ) (thing : B) → n ≤ wider → within' n thing → within' wider thing)
    → IsLocal limit read written within → IsLocal limit read' written' within'
remade_local limit read read' written written' within within' f same fits widen l = record {
  taken = λ before found left e.
      let m = remade_found f (read limit before) found left (sym (same limit before) ∙ e) in
      let t = l.taken before m.thing left m.first in
      let k = fits limit t.thing t.fits in record {
        thing = f t.thing;
        makes = ap f t.makes ∙ m.makes;
        front = t.front;
        is = t.is;
        are_all = subst (λ (ws : List Written). AreFirst t.front ws []) (sym k.0) t.are_all;
        fits = k.1;
        again = λ wider h other heads.
            same wider (joined t.front other) ∙ (ap (remade f) (t.again wider h other heads) ∙ ap (λ thing. Found thing other) m.makes);
      };
  stuck = λ before kind at e.
      stuck_behind limit read (CanBegin written within) read' (CanBegin written' within') [] before before kind at refl
      (λ n next h b.
      let k = fits (suc n) b.thing b.fits in record {
        thing = f b.thing;
        others = b.others;
        are_first = subst (λ (ws : List Written). AreFirst next ws b.others) (sym k.0) b.are_first;
        fits = k.1;
      })
      (λ wider kind at other h heads x. same wider other ∙ ap (remade f) x)
      (l.stuck before kind at (remade_fault f (read limit before) kind at (sym (same limit before) ∙ e)));
  some = f l.some;
  some_fits = λ n. (fits (suc n) l.some (l.some_fits n)).1;
  widen = widen;
}

-- an arm
record Arm : Type 0 where
  pub constructor : NameSyntax
  pub fields : List NameSyntax
  pub body : ExpSyntax

abbrev arm_written : Arm → List Written
arm_written arm = upper arm.constructor ∷ (in_parentheses (names_tokens arm.fields) ++ (mark Arrow ∷ expression_tokens arm.body))

abbrev arms_of : List Arm → ArmsSyntax
arms_of [] = NoArmSyntax
arms_of (arm ∷ rest) = AndArmSyntax arm.constructor arm.fields arm.body (arms_of rest)

abbrev all_arms : List Arm → List Written
all_arms [] = []
all_arms (arm ∷ []) = arm_written arm
all_arms (arm ∷ next ∷ rest) = arm_written arm ++ mark Bar ∷ all_arms (next ∷ rest)

-- the sign behind an arm
arm_signs : IsSeparator read_arm_separator (mark Bar) (word EndWord)
arm_signs = record { found = sign_found; read = sign_read; clear = sign_clear } where
  sign_found : (tokens left : Tokens) (follows : Bool) → read_arm_separator tokens ≡ Found follows left
      → Begin tokens (sign (mark Bar) (word EndWord) follows ∷ []) left
  sign_found (Next at (MarkToken Bar) rest) left true e =
      begin-next at (MarkToken Bar) (mark Bar) refl tt (subst (Begin rest []) (found_left e) (begin-none rest))
  sign_found (Next at (KeywordToken EndWord) rest) left false e =
      begin-next at (KeywordToken EndWord) (word EndWord) refl tt (subst (Begin rest []) (found_left e) (begin-none rest))
  sign_found tokens left follows e = absurd (cc)

  sign_read : (follows : Bool) (others : List Written) (tokens left : Tokens) (h : First tokens (sign (mark Bar) (word EndWord) follows) others left)
      → read_arm_separator tokens ≡ Found follows h.rest
  sign_read true others tokens left h = ap read_arm_separator (h.is ∙ ap (λ t. Next h.at t h.rest) h.stands)
  sign_read false others tokens left h = ap read_arm_separator (h.is ∙ ap (λ t. Next h.at t h.rest) h.stands)

  sign_clear : (follows : Bool) (at : Place) (rest : Tokens) → IsClear (Next at (sign (mark Bar) (word EndWord) follows).token rest)
  sign_clear true at rest = tt
  sign_clear false at rest = tt

abbrev arms_all : ℕ → List Arm → Type 0
arms_all at_most [] = Unit {0}
arms_all at_most (arm ∷ rest) = IsExpression at_most arm.body × arms_all at_most rest

abbrev is_arm : ℕ → Arm → Type 0
is_arm at_most arm = IsExpression at_most arm.body

arms_listed : (n : ℕ) → IsListed n (mark Bar) arm_written is_arm all_arms arms_all
arms_listed n = record {
  none = refl;
  single = λ arm. refl;
  several = λ arm next rest. refl;
  some = λ arm. omega arith;
  none_within = tt;
  more_within = λ arm rest h hs. (h, hs);
  first_within = λ arm rest h. h.0;
  others_within = λ arm rest h. h.1;
}

arms_widen : (n wider : ℕ) (arms : List Arm) → n ≤ wider → arms_all n arms → arms_all wider arms
arms_widen n wider [] h fits = tt
arms_widen n wider (arm ∷ rest) h fits = ((fits.0.0, omega (arith, fits.0.1)), arms_widen n wider rest h fits.1)

arms_fit : (n : ℕ) (arms : List Arm) → arms_all n arms → ArmsHaveParts (arms_of arms) × (arms_levels (arms_of arms) ≤ n)
arms_fit n [] fits = (tt, omega arith)
arms_fit n (arm ∷ rest) fits = let others = arms_fit n rest fits.1 in ((fits.0.0, others.0), omega (arith, fits.0.1, others.1))

arms_same : (arms : List Arm) → IsSome arms → arms_read_written (arms_of arms) ≡ all_arms arms ++ word EndWord ∷ []
arms_same [] some = absurd some
arms_same (arm ∷ []) some = simp append_assoc
arms_same (arm ∷ next ∷ rest) some =
    let more : arms_tokens (arms_of (next ∷ rest)) ++ word EndWord ∷ [] ≡ mark Bar ∷ (all_arms (next ∷ rest) ++ word EndWord ∷ []) =
    arms_joined next.constructor next.fields next.body (arms_of rest) ∙ ap (λ ws. mark Bar ∷ ws) (arms_same (next ∷ rest) tt) in
    ap (λ ws. upper arm.constructor ∷ (in_parentheses (names_tokens arm.fields) ++ (mark Arrow ∷ (expression_tokens arm.body ++ ws)))) more ∙ simp append_assoc

module _ (levels : ℕ) (parts : AreExpressionsRead levels) (local : IsLocal levels read_expression expression_tokens IsExpression) where
  abbrev arm_row : Row levels Arm
  arm_row =
      ThenUpper (λ constructor. Then (field_names levels parts) (λ fields. ThenMark Arrow
      (Last (parts_of levels parts) (λ body. record { constructor = constructor; fields = fields; body = body }))))

  pub fields_local : IsLocal levels (λ (wider : ℕ). read_optional_list read_lower) (λ names. in_parentheses (names_tokens names)) (λ at_most names. Unit {0})
  fields_local =
      optional_local levels (names levels) names_tokens (λ at_most names. Unit {0}) names_listed (names_local levels) (λ n wider names h fits. tt)

  arm_sound : (tokens : Tokens) (found : Arm) (left : Tokens) → read_row arm_row levels tokens ≡ Found found left
      → Begin tokens (arm_written found) left × is_arm levels found
  arm_sound tokens found left e =
      let s = row_sound arm_row tokens found left e in
      subst (λ (a : Arm). Begin tokens (arm_written a) left × is_arm levels a) s.is (s.begin, s.fits.1)

  arm_is : IsReader levels (read_row arm_row) arm_written is_arm
  arm_is = record {
    sound = arm_sound;
    complete = λ arm tokens left begin within clear.
        row_complete arm_row (λ constructor fields. (refl, tt)) (arm.constructor, (arm.fields, arm.body)) tokens left begin (tt, within) clear;
  }

  abbrev arm_reader : Reader levels
  arm_reader = record { A = Arm; read = read_row arm_row; written = arm_written; within = is_arm; is = arm_is }

  arm_read : (rest : Tokens) → IsRead levels (read_row arm_row) arm_written is_arm [] [] arm_row rest
  arm_read rest = record {
    local = λ constructor. (fields_local, λ fields. local);
    heads = refl;
    makes = λ n things fits. (refl, fits.1);
    reads = λ wider other heads. refl;
  }

  arm_local : IsLocal levels (read_row arm_row) arm_written is_arm
  arm_local = record {
    taken = λ before found left e. read_taken levels (read_row arm_row) arm_written is_arm [] [] arm_row before (arm_read before) found left e;
    stuck = λ before kind at e. read_stuck levels (read_row arm_row) arm_written is_arm [] [] arm_row before (arm_read before) kind at e;
    some = record { constructor = some_name; fields = []; body = local.some };
    some_fits = local.some_fits;
    widen = λ n wider arm h fits. (fits.0, omega (arith, fits.1));
  }

  -- arms are read as a list of them
  abbrev read_list_of : ℕ → ℕ → Tokens → Reading (List Arm)
  read_list_of most wider = read_separated read_arm_separator (read_row arm_row wider) most

  abbrev rest_of : ℕ → ℕ → Tokens → Reading (List Arm)
  rest_of most wider tokens = read_others (read_arm_separator tokens) (read_list_of most wider)

  module _ (wider most : ℕ) (same : (tokens : Tokens) → read_arms (read_expression wider) most tokens ≡ remade arms_of (read_list_of most wider tokens)) where
    on_list : (arm : Arm) (reading : Reading (List Arm))
        → then_read (remade arms_of reading) (λ rest tokens. Found (AndArmSyntax arm.constructor arm.fields arm.body rest) tokens)
        ≡ remade arms_of (then_read reading (λ others tokens. Found (arm ∷ others) tokens))
    on_list arm (Found arms left) = refl
    on_list arm (FaultAt kind at) = refl

    on_sign : (arm : Arm) (reading : Reading Bool)
        → then_read (read_other_arms reading (read_arms (read_expression wider) most)) (λ rest tokens. Found (AndArmSyntax arm.constructor arm.fields arm.body rest) tokens)
        ≡ remade arms_of (then_read (read_others reading (read_list_of most wider)) (λ others tokens. Found (arm ∷ others) tokens))
    on_sign arm (Found true tokens) =
        ap (λ reading. then_read reading (λ rest tokens. Found (AndArmSyntax arm.constructor arm.fields arm.body rest) tokens)) (same tokens)
        ∙ on_list arm (read_list_of most wider tokens)
    on_sign arm (Found false tokens) = refl
    on_sign arm (FaultAt kind at) = refl

    abbrev behind_body : NameSyntax → List NameSyntax → ExpSyntax → Tokens → Reading ArmsSyntax
    behind_body constructor fields body tokens =
        then_read (read_other_arms (read_arm_separator tokens) (read_arms (read_expression wider) most))
        (λ rest tokens. Found (AndArmSyntax constructor fields body rest) tokens)

    abbrev behind_arm : Arm → Tokens → Reading (List Arm)
    behind_arm arm tokens = then_read (rest_of most wider tokens) (λ others tokens. Found (arm ∷ others) tokens)

    on_body : (constructor : NameSyntax) (fields : List NameSyntax) (reading : Reading ExpSyntax)
        → then_read reading (behind_body constructor fields)
        ≡ remade arms_of (then_read (then_read reading (λ body tokens. Found (record { constructor = constructor; fields = fields; body = body }) tokens)) behind_arm)
    on_body constructor fields (Found body tokens) = on_sign (record { constructor = constructor; fields = fields; body = body }) (read_arm_separator tokens)
    on_body constructor fields (FaultAt kind at) = refl

    abbrev body_row : NameSyntax → List NameSyntax → Tokens → Reading Arm
    body_row constructor fields tokens =
        then_read (read_expression wider tokens) (λ body tokens. Found (record { constructor = constructor; fields = fields; body = body }) tokens)

    on_arrow : (constructor : NameSyntax) (fields : List NameSyntax) (reading : Reading (Unit {0}))
        → then_read reading (λ _ tokens. then_read (read_expression wider tokens) (behind_body constructor fields))
        ≡ remade arms_of (then_read (then_read reading (λ _ tokens. body_row constructor fields tokens)) behind_arm)
    on_arrow constructor fields (Found u tokens) = on_body constructor fields (read_expression wider tokens)
    on_arrow constructor fields (FaultAt kind at) = refl

    on_fields : (constructor : NameSyntax) (reading : Reading (List NameSyntax))
        → then_read reading (λ fields tokens. then_read (read_mark Arrow tokens) (λ _ tokens.
        then_read (read_expression wider tokens) (behind_body constructor fields)))
        ≡ remade arms_of (then_read (then_read reading (λ fields tokens. then_read (read_mark Arrow tokens) (λ _ tokens. body_row constructor fields tokens))) behind_arm)
    on_fields constructor (Found fields tokens) = on_arrow constructor fields (read_mark Arrow tokens)
    on_fields constructor (FaultAt kind at) = refl

    on_upper : (reading : Reading NameSyntax)
        → then_read reading (λ constructor tokens. then_read (read_optional_list read_lower tokens) (λ fields tokens. then_read (read_mark Arrow tokens) (λ _ tokens.
        then_read (read_expression wider tokens) (behind_body constructor fields))))
        ≡ remade arms_of (then_read (then_read reading (λ constructor tokens. then_read (read_optional_list read_lower tokens) (λ fields tokens.
        then_read (read_mark Arrow tokens) (λ _ tokens. body_row constructor fields tokens)))) behind_arm)
    on_upper (Found constructor tokens) = on_fields constructor (read_optional_list read_lower tokens)
    on_upper (FaultAt kind at) = refl

    one_more : (tokens : Tokens) → read_arms (read_expression wider) (suc most) tokens ≡ remade arms_of (read_list_of (suc most) wider tokens)
    one_more tokens = on_upper (read_upper tokens)

  arms_read_so : (wider most : ℕ) (tokens : Tokens) → read_arms (read_expression wider) most tokens ≡ remade arms_of (read_list_of most wider tokens)
  arms_read_so wider zero (Next at token rest) = refl
  arms_read_so wider zero (End at) = refl
  arms_read_so wider zero (Faulty at fault) = refl
  arms_read_so wider (suc most) tokens = one_more wider most (arms_read_so wider most) tokens

  some_arms_fit : (n : ℕ) (arms : List Arm) → IsSome arms × arms_all n arms
      → (arms_read_written (arms_of arms) ≡ all_arms arms ++ word EndWord ∷ []) × some_arms levels parts n (arms_of arms)
  some_arms_fit n [] fits = absurd fits.0
  some_arms_fit n (arm ∷ rest) fits = let f = arms_fit n (arm ∷ rest) fits.1 in (arms_same (arm ∷ rest) tt, (tt, f.0, f.1))

  pub arms_local : IsLocal levels (λ wider tokens. read_arms (read_expression wider) (count tokens) tokens) arms_read_written (some_arms levels parts)
  arms_local =
      remade_local levels (λ wider tokens. read_list_of (count tokens) wider tokens) (λ wider tokens. read_arms (read_expression wider) (count tokens) tokens)
      (λ arms. all_arms arms ++ word EndWord ∷ []) arms_read_written (λ n arms. IsSome arms × arms_all n arms) (some_arms levels parts) arms_of
      (λ wider tokens. arms_read_so wider (count tokens) tokens) some_arms_fit (λ n wider arms h fits. (fits.0, fits.1, omega (arith, fits.2)))
      (counted_local levels arm_reader (mark Bar) (word EndWord) all_arms arms_all arms_listed read_arm_separator arm_signs arm_local arm_one arms_widen)
