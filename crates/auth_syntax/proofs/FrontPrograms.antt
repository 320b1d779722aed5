-- The reader of programs, on tokens that only begin alike; and so the first fault in the words of the grammar.
use Rattle.std.proofs.Common.{◌≡◌, ℕ, zero, suc, ◌+◌, ◌<◌, ◌≤◌, inl, inr, List, [], ◌∷◌, ◌++◌, length, Option, Some, None, refl, sym, ap, subst, ◌∙◌, arith}
use Rattle.core_terms.specs.declared.format.Format.{Format}
use Rattle.lexemes.specs.declared.place.Place.{Place}
use Rattle.lexemes.specs.declared.fault.SyntaxKind.{SyntaxKind}
use Rattle.lexemes.specs.declared.fault.SyntaxKind.TheVariants.{Lexical, Expected, TooNested}
use Rattle.lexemes.specs.declared.fault.LexicalFault.TheVariants.{NumberRange}
use Rattle.lexemes.specs.declared.token.Keyword.TheVariants.{«Type» as TypeWord, State as StateWord, Fun as FunWord, Init as InitWord, Query as QueryWord, Update as UpdateWord}
use Rattle.lexemes.specs.Tokens.{Token, KeywordToken, Tokens, Next, End, Faulty, count}
use Rattle.auth_syntax.specs.Syntax.{DeclarationSyntax, Program}
use Rattle.auth_syntax.specs.ProgramTokens.{read_format, text_tokens}
use Rattle.auth_syntax.specs.Grammar.{Written, IsKept, declaration_tokens, declarations_tokens, format_tokens, program_tokens, IsDeclaration, AreDeclarations, AreWritten}
use Rattle.auth_syntax.specs.Nesting.{nesting_limit}
use Rattle.lexemes.specs.Readings.{Reading, Found, FaultAt, then_read}
use Rattle.auth_syntax.specs.Parsing.{read_declarations, as_program, read_program, Tree, FirstFault, parsed}
use Rattle.auth_syntax.specs.FirstFaults.{Placed, placed, joined, AreFirst, CanGoOn, IsRefused}
use Rattle.auth_syntax.specs.Laws.{FirstFaultIsFirst}
use Rattle.auth_syntax.proofs.Beginnings.{written-parted}
use Rattle.auth_syntax.proofs.Declarations.{read_declaration_at}
use Rattle.auth_syntax.proofs.Exact.{read_declarations_at, read_declarations-is, declarations_clear, declarations_read, declaration_some, declarations_fit, written_fit, written_is_parsed}
use Rattle.auth_syntax.proofs.ToldFormats.{format_read}
use Rattle.auth_syntax.proofs.Fronts.{joined-append, first-append, first-longer, AlikeHeads, CanBegin, a_length, FailsAt, StuckBy, Fails, Blocked, Stuck, stuck_behind_by, stuck_behind, kind_is, place_is, stuck_on}
use Rattle.auth_syntax.proofs.FrontLists.{first_length, joined_count}
use Rattle.auth_syntax.proofs.FrontDeclarations.{declaration_widen, declarations_local}
use Rattle.auth_syntax.proofs.FrontFormats.{formats_local}

-- the readers of rows hang on the limit that they are read within alone
read_same : (limit limit' at_most : ℕ) (before : Tokens) → read_declaration_at limit at_most before ≡ read_declaration_at limit' at_most before
read_same limit limit' at_most (Next at (KeywordToken TypeWord) rest) = refl
read_same limit limit' at_most (Next at (KeywordToken StateWord) rest) = refl
read_same limit limit' at_most (Next at (KeywordToken FunWord) rest) = refl
read_same limit limit' at_most (Next at (KeywordToken InitWord) rest) = refl
read_same limit limit' at_most (Next at (KeywordToken QueryWord) rest) = refl
read_same limit limit' at_most (Next at (KeywordToken UpdateWord) rest) = refl
read_same limit limit' at_most before = refl

declarations_widen : (n wider : ℕ) (ds : List DeclarationSyntax) → n ≤ wider → AreDeclarations n ds → AreDeclarations wider ds
declarations_widen n wider [] h fits = tt
declarations_widen n wider (d ∷ rest) h fits = (declaration_widen n wider d h fits.0, declarations_widen n wider rest h fits.1)

abbrev AllFail : ℕ → Tokens → SyntaxKind → Place → Type 0
AllFail wider before kind at = (most : ℕ) → count before ≤ most → read_declarations_at wider most before ≡ FaultAt kind at

abbrev AllBegin : ℕ → List Placed → Type 0
AllBegin = CanBegin declarations_tokens AreDeclarations

module _ (limit : ℕ) where
  nothing_yet : AllBegin (suc limit) []
  nothing_yet = record { thing = []; others = []; are_first = refl; fits = tt }

  first_fails : (before : Tokens) (wider : ℕ) (kind : SyntaxKind) (at : Place) (other : Tokens) → limit ≤ wider → AlikeHeads before other
      → Fails (read_declaration_at limit) wider other kind at → AllFail wider other kind at
  first_fails before wider kind at (End place) h heads x most enough = absurd (let e = heads.other_is in cc)
  first_fails before wider kind at (Faulty place fault) h heads x most enough = absurd (let e = heads.other_is in cc)
  first_fails before wider kind at (Next place token rest) h heads x zero enough = absurd (omega arith)
  first_fails before wider kind at (Next place token rest) h heads x (suc most) enough =
      ap (λ reading. then_read reading (λ declaration tokens.
      then_read (read_declarations_at wider most tokens) (λ rest tokens. Found (declaration ∷ rest) tokens)))
      (read_same wider limit wider (Next place token rest) ∙ x)

  others_fail : (first : DeclarationSyntax) (middle : Tokens) (front : List Placed) → 0 < length front
      → ((wider : ℕ) → limit ≤ wider → (other : Tokens) → AlikeHeads middle other → read_declaration_at limit wider (joined front other) ≡ Found first other)
      → (wider : ℕ) (kind : SyntaxKind) (at : Place) (other : Tokens) → limit ≤ wider → AlikeHeads middle other → AllFail wider other kind at
      → AllFail wider (joined front other) kind at
  others_fail first middle [] some again wider kind at other h heads x most enough = absurd (omega arith)
  others_fail first middle (p ∷ front) some again wider kind at other h heads x zero enough = absurd (omega arith)
  others_fail first middle (p ∷ front) some again wider kind at other h heads x (suc most) enough =
      ap (λ reading. then_read reading (λ declaration tokens.
      then_read (read_declarations_at wider most tokens) (λ rest tokens. Found (declaration ∷ rest) tokens)))
      (read_same wider limit wider (joined (p ∷ front) other) ∙ again wider h other heads)
      ∙ ap (λ reading. then_read reading (λ rest tokens. Found (first ∷ rest) tokens)) (x most (omega (arith, joined_count front other, enough)))

  pub all_stuck : (most : ℕ) (before : Tokens) → count before ≤ most → (kind : SyntaxKind) (at : Place)
      → read_declarations_at limit most before ≡ FaultAt kind at → StuckBy limit AllFail AllBegin before kind at
  all_stuck most (End place) enough kind at e = absurd (cc)
  all_stuck zero (Next place token rest) enough kind at e = absurd (omega arith)
  all_stuck zero (Faulty place fault) enough kind at e =
      record { front = []; rest = Faulty place fault; is = refl; can_go_on = nothing_yet; blocked = (sym (kind_is e), place_is e) }
  all_stuck (suc most) (Faulty place fault) enough kind at e =
      record { front = []; rest = Faulty place fault; is = refl; can_go_on = nothing_yet; blocked = (sym (kind_is e), place_is e) }
  all_stuck (suc most) (Next place token rest) enough kind at e =
      let before : Tokens = Next place token rest in
      let l = declarations_local limit in
      elim (stuck_on (read_declaration_at limit limit before) (λ declaration tokens.
      then_read (read_declarations_at limit most tokens) (λ rest tokens. Found (declaration ∷ rest) tokens)) kind at e)
      as (λ _. StuckBy limit AllFail AllBegin (Next place token rest) kind at) [
        | inl h ↦
            stuck_behind_by limit (Fails (read_declaration_at limit)) (CanBegin declaration_tokens IsDeclaration) AllFail AllBegin []
            before before kind at refl
            (λ n next h b. record {
              thing = b.thing ∷ [];
              others = b.others ++ [];
              are_first = first-longer next (declaration_tokens b.thing) b.others [] b.are_first;
              fits = (b.fits, tt);
            })
            (first_fails before) (l.stuck before kind at h)
        | inr g ↦
            elim (stuck_on (read_declarations_at limit most g.middle) (λ rest tokens. Found (g.thing ∷ rest) tokens) kind at g.others)
            as (λ _. StuckBy limit AllFail AllBegin (Next place token rest) kind at) [
              | inl h ↦
                  let t = l.taken before g.thing g.middle g.first in
                  let are : AreFirst t.front (declaration_tokens g.thing) [] =
                  subst (λ (d : DeclarationSyntax). AreFirst t.front (declaration_tokens d) []) t.makes t.are_all in
                  let some : 0 < length t.front =
                  omega (arith, first_length t.front (declaration_tokens g.thing) are, declaration_some g.thing) in
                  let counts : count before ≡ length t.front + count g.middle = ap count t.is ∙ joined_count t.front g.middle in
                  stuck_behind_by limit AllFail AllBegin AllFail AllBegin t.front before g.middle kind at t.is
                  (λ n next h b. record {
                    thing = g.thing ∷ b.thing;
                    others = b.others;
                    are_first = first-append t.front next (declaration_tokens g.thing) (declarations_tokens b.thing) b.others are b.are_first;
                    fits = (declaration_widen limit (suc n) g.thing (omega arith) (subst (IsDeclaration limit) t.makes t.fits), b.fits);
                  })
                  (others_fail g.thing g.middle t.front some t.again)
                  (all_stuck most g.middle (omega (arith, enough, counts, some)) kind at h)
              | inr g' ↦ absurd (let e' = g'.others in cc)
            ]
      ]

-- tokens for the others of a tree, at the places that it keeps
abbrev place_or : Option Place → Place
place_or None = record { offset = 0; line = 1; column = 1 }
place_or (Some at) = at

place_kept : (kept : Option Place) → IsKept kept (place_or kept)
place_kept None = tt
place_kept (Some at) = refl

abbrev put_down : List Written → Place → Tokens
put_down [] end = End end
put_down (w ∷ ws) end = Next (place_or w.at) w.token (put_down ws end)

put_down-written : (ws : List Written) (end : Place) → AreWritten (put_down ws end) ws end
put_down-written [] end = refl
put_down-written (w ∷ ws) end = (refl, place_kept w.at, put_down-written ws end)

first_written : (front : List Placed) (ws others : List Written) (rest : Tokens) (end : Place) → AreFirst front ws others → AreWritten rest others end
    → AreWritten (joined front rest) ws end
first_written [] ws others rest end h h' = subst (λ (ws : List Written). AreWritten rest ws end) (sym h) h'
first_written (p ∷ front) [] others rest end h h' = absurd h
first_written (p ∷ front) (w ∷ ws) others rest end h h' = (h.0, h.1, first_written front ws others rest end h.2 h')

-- a program within a limit of nesting, without what it tells of its format
abbrev read_program_at : ℕ → Tokens → Reading (List DeclarationSyntax)
read_program_at wider tokens = then_read (read_format tokens) (λ format rest. read_declarations_at wider (count rest) rest)

module _ (limit : ℕ) where
  with_format : (n : ℕ) (format : Option Format) (front next : List Placed) → AreFirst front (format_tokens format) [] → AllBegin n next
      → CanGoOn n (front ++ next)
  with_format n format front next are b = record {
    format = format;
    declarations = b.thing;
    others = b.others;
    are_first = first-append front next (format_tokens format) (declarations_tokens b.thing) b.others are b.are_first;
    well_formed = b.fits;
  }

  program_stuck : (before : Tokens) (kind : SyntaxKind) (at : Place) → read_program_at limit before ≡ FaultAt kind at
      → Stuck limit read_program_at CanGoOn before kind at
  program_stuck before kind at e =
      let l = formats_local limit in
      elim (stuck_on (read_format before) (λ format rest. read_declarations_at limit (count rest) rest) kind at e)
      as (λ _. Stuck limit read_program_at CanGoOn before kind at) [
        | inl h ↦
            stuck_behind limit (λ (wider : ℕ). read_format) (CanBegin format_tokens (λ (at_most : ℕ) (format : Option Format). Unit {0}))
            read_program_at CanGoOn [] before before kind at refl
            (λ n next h b. record {
              format = b.thing;
              declarations = [];
              others = b.others ++ [];
              are_first = first-longer next (format_tokens b.thing) b.others [] b.are_first;
              well_formed = tt;
            })
            (λ wider kind at other h heads x. ap (λ reading. then_read reading (λ format rest. read_declarations_at wider (count rest) rest)) x)
            (l.stuck before kind at h)
        | inr g ↦
            let t = l.taken before g.thing g.middle g.first in
            let are : AreFirst t.front (format_tokens g.thing) [] =
            subst (λ (format : Option Format). AreFirst t.front (format_tokens format) []) t.makes t.are_all in
            stuck_behind_by limit AllFail AllBegin (Fails read_program_at) CanGoOn t.front before g.middle kind at t.is
            (λ n next h b. with_format (suc n) g.thing t.front next are b)
            (λ wider kind at other h heads x.
            ap (λ reading. then_read reading (λ format rest. read_declarations_at wider (count rest) rest)) (t.again wider h other heads)
            ∙ x (count other) (omega arith))
            (all_stuck limit (count g.middle) g.middle (omega arith) kind at g.others)
      ]

-- a program that is written is read, within each limit
program_read : (wider : ℕ) (format : Option Format) (declarations : List DeclarationSyntax) (before : Tokens) (end : Place)
    → AreWritten before (program_tokens format declarations) end → AreDeclarations wider declarations
    → read_program_at wider before ≡ Found declarations (End end)
program_read wider format declarations before end written fit =
    let p = written-parted (format_tokens format) (declarations_tokens declarations) before end written in
    let behind = p.middle in
    let clear = declarations_clear declarations behind end p.go_on in
    let enough : length declarations ≤ count behind =
    omega (arith, declarations_fit declarations, written_fit behind (declarations_tokens declarations) end p.go_on) in
    ap (λ reading. then_read reading (λ format rest. read_declarations_at wider (count rest) rest)) (format_read format before behind p.begin clear.1 clear.0)
    ∙ declarations_read wider (count behind) declarations behind end p.go_on fit enough

-- where reading fails at a token whatever stands behind it, no program begins so
none_begins : (wider : ℕ) (front : List Placed) (place : Place) (token : Token) (kind : SyntaxKind)
    → ((other : Tokens) → read_program_at wider (joined front (Next place token other)) ≡ FaultAt kind place)
    → CanGoOn wider (front ++ placed place token ∷ []) → ⊥
none_begins wider front place token kind fails c =
    let rest : Tokens = put_down c.others place in
    let ws = program_tokens c.format c.declarations in
    let written : AreWritten (joined (front ++ placed place token ∷ []) rest) ws place =
    first_written (front ++ placed place token ∷ []) ws c.others rest place c.are_first (put_down-written c.others place) in
    let written' : AreWritten (joined front (Next place token rest)) ws place =
    subst (λ (ts : Tokens). AreWritten ts ws place) (joined-append front (placed place token ∷ []) rest) written in
    let found = program_read wider c.format c.declarations (joined front (Next place token rest)) place written' c.well_formed in
    let failed = fails rest in
    cc

widened : (n wider : ℕ) (front : List Placed) → n ≤ wider → CanGoOn n front → CanGoOn wider front
widened n wider front h c = record {
  format = c.format;
  declarations = c.declarations;
  others = c.others;
  are_first = c.are_first;
  well_formed = declarations_widen n wider c.declarations h c.well_formed;
}

-- however nested
never_begins : (front : List Placed) (place : Place) (token : Token) (kind : SyntaxKind) → FailsAt nesting_limit (Fails read_program_at) front place token kind
    → (limit : ℕ) → CanGoOn limit (front ++ placed place token ∷ []) → ⊥
never_begins front place token kind fails limit c =
    none_begins (nesting_limit + limit) front place token kind (fails (nesting_limit + limit) (omega arith))
    (widened limit (nesting_limit + limit) (front ++ placed place token ∷ []) (omega arith) c)

refused_so : (text : List ℕ) (front : List Placed) (rest : Tokens) (kind : SyntaxKind) (at : Place) → text_tokens text ≡ joined front rest
    → parsed text ≡ FirstFault kind at → Blocked nesting_limit read_program_at CanGoOn front rest kind at
    → IsRefused front rest kind at
refused_so text front (Faulty place fault) kind at is e b = b
refused_so text front (End place) kind at is e b = (b.0, b.1, whole) where
  whole : (format : Option Format) (declarations : List DeclarationSyntax) → AreFirst front (program_tokens format declarations) []
      → AreDeclarations nesting_limit declarations → ⊥
  whole format declarations are fit =
      let program : Program = record { format = format; declarations = declarations; end = place } in
      let e' : parsed text ≡ Tree program = written_is_parsed text program (record {
        written = subst (λ (ts : Tokens). AreWritten ts (program_tokens format declarations) place) (sym is)
            (first_written front (program_tokens format declarations) [] (End place) place are refl);
        well_formed = fit;
      }) in cc
refused_so text front (Next place token rest) Expected at is e b =
    (b.0, never_begins front place token Expected b.1, λ int. never_begins front place a_length Expected (b.2 int))
refused_so text front (Next place token rest) (Lexical NumberRange) at is e b =
    (b.0, b.1, b.2, never_begins front place token (Lexical NumberRange) b.3)
refused_so text front (Next place token rest) TooNested at is e b =
    (b.0, b.1, λ c. none_begins nesting_limit front place token TooNested b.2 c)
refused_so text front (Next place token rest) (Lexical fault) at is e b = absurd b

-- what gives a first fault reads it
fault_of : {A : Type 0} (kind' : SyntaxKind) (at' : Place) (kind : SyntaxKind) (at : Place) → FirstFault kind' at' ≡ FirstFault kind at
    → ◌≡◌ {A = Reading A} (FaultAt kind' at') (FaultAt kind at)
fault_of {A} kind' at' kind at e =
    ap (λ (kind : SyntaxKind). FaultAt kind at') (same kind' at' kind at e) ∙ ap (λ (at : Place). FaultAt kind at) (same_place kind' at' kind at e) where
      same : (kind : SyntaxKind) (at : Place) (kind' : SyntaxKind) (at' : Place) → FirstFault kind at ≡ FirstFault kind' at' → kind ≡ kind'
      same kind at kind' at' h = cc

      same_place : (kind : SyntaxKind) (at : Place) (kind' : SyntaxKind) (at' : Place) → FirstFault kind at ≡ FirstFault kind' at' → at ≡ at'
      same_place kind at kind' at' h = cc

declarations_fault : (format : Option Format) (reading : Reading (List DeclarationSyntax)) (kind : SyntaxKind) (at : Place)
    → as_program format reading ≡ FirstFault kind at → reading ≡ FaultAt kind at
declarations_fault format (Found declarations left) kind at e = absurd (cc)
declarations_fault format (FaultAt kind' at') kind at e = fault_of kind' at' kind at e

program_fault : (reading : Reading (Option Format)) (kind : SyntaxKind) (at : Place) → read_program reading ≡ FirstFault kind at
    → then_read reading (λ format rest. read_declarations_at nesting_limit (count rest) rest) ≡ FaultAt kind at
program_fault (Found format rest) kind at e =
    sym (read_declarations-is (count rest) rest) ∙ declarations_fault format (read_declarations (count rest) rest) kind at e
program_fault (FaultAt kind' at') kind at e = fault_of kind' at' kind at e

pub first_fault_is_first : FirstFaultIsFirst
first_fault_is_first text kind at e =
    let ts : Tokens = text_tokens text in
    let s = program_stuck nesting_limit ts kind at (program_fault (read_format ts) kind at e) in
    record {
      front = s.front;
      rest = s.rest;
      begin = s.is;
      can_go_on = s.can_go_on;
      refused = refused_so text s.front s.rest kind at s.is e s.blocked;
    }
