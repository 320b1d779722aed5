-- Parsing finds exactly the program that the grammar gives a text.
use Rattle.std.proofs.Common.{◌≡◌, ℕ, zero, suc, ◌<◌, ◌≤◌, List, [], ◌∷◌, length, Option, refl, sym, ap, ap₂, subst, ◌∙◌, arith, length-append}
use mathlib.Core.Path.{fun_ext}
use Rattle.core_terms.specs.declared.format.Format.{Format}
use Rattle.lexemes.specs.declared.place.Place.{Place}
use Rattle.lexemes.specs.declared.token.Keyword.{Keyword}
use Rattle.lexemes.specs.declared.token.Keyword.TheVariants.{«Type» as TypeWord}
use Rattle.lexemes.specs.Tokens.{Token, KeywordToken, Tokens, Next, End, Faulty, count}
use Rattle.auth_syntax.specs.Syntax.{ConstructorDeclaration, DeclarationSyntax, TypeDeclaration, StateDeclaration, FunctionDeclaration, Program}
use Rattle.auth_syntax.specs.ProgramTokens.{read_format, text_tokens}
use Rattle.auth_syntax.specs.Grammar.{Written, declaration_tokens, declarations_tokens, format_tokens, program_tokens, AreDeclarations, AreWritten, IsProgramText}
use Rattle.auth_syntax.specs.Nesting.{nesting_limit}
use Rattle.lexemes.specs.Readings.{Reading, Found, FaultAt, then_read, refused, read_mark}
use Rattle.auth_syntax.specs.Parsing.{read_bar, read_others, read_lower, read_constructor_declaration, read_constructors, read_type_declaration, read_declaration, read_declarations, Tree, end_of, as_program, read_program, parsed}
use Rattle.lexemes.specs.declared.token.Mark.TheVariants.{EqualsSign}
use Rattle.auth_syntax.specs.Laws.{ParsingIsExact, OneIsWritten}
use Rattle.auth_syntax.proofs.Beginnings.{written-append, written-parted}
use Rattle.auth_syntax.proofs.Readers.{IsClear, found_thing, found_left, gone_on, then_found, read_row}
use Rattle.auth_syntax.proofs.Lists.{read_separated}
use Rattle.auth_syntax.proofs.ToldFormats.{IsNameless, format_found, format_read}
use Rattle.auth_syntax.proofs.Declarations.{constructor_row, type_row, read_declaration_at, declarations_are}

-- declarations, each within a limit
abbrev pub read_declarations_at : ℕ → ℕ → Tokens → Reading (List DeclarationSyntax)
read_declarations_at limit most (End at) = Found [] (End at)
read_declarations_at limit zero tokens = refused tokens
read_declarations_at limit (suc most) tokens =
    then_read (read_declaration_at limit limit tokens) (λ declaration tokens.
    then_read (read_declarations_at limit most tokens) (λ rest tokens. Found (declaration ∷ rest) tokens))

-- at the limit of the language they are read so
pub read_constructors-is : (most : ℕ) → read_constructors most ≡ read_separated read_bar (read_row (constructor_row nesting_limit) nesting_limit) most
read_constructors-is zero = refl
read_constructors-is (suc most) =
    ap (λ (more : Tokens → Reading (List ConstructorDeclaration)). λ (tokens : Tokens).
    then_read (read_constructor_declaration tokens) (λ first tokens.
    then_read (read_others (read_bar tokens) more) (λ others tokens. Found (first ∷ others) tokens)))
    (read_constructors-is most)

read_type_declaration-is : (at : Place) (tokens : Tokens)
    → read_type_declaration at tokens ≡ read_row (type_row nesting_limit at) nesting_limit tokens
read_type_declaration-is at tokens =
    ap (λ (read : ℕ → Tokens → Reading (List ConstructorDeclaration)).
    then_read (read_lower tokens) (λ name tokens.
    then_read (read_mark EqualsSign tokens) (λ _ tokens.
    then_read (read (count tokens) tokens) (λ constructors tokens. Found (TypeDeclaration at name constructors) tokens))))
    (fun_ext read_constructors-is)

pub read_declaration-is : (tokens : Tokens) → read_declaration tokens ≡ read_declaration_at nesting_limit nesting_limit tokens
read_declaration-is (Next at (KeywordToken TypeWord) rest) = read_type_declaration-is at rest
read_declaration-is tokens = refl

pub read_declarations-is : (most : ℕ) (tokens : Tokens) → read_declarations most tokens ≡ read_declarations_at nesting_limit most tokens
read_declarations-is most (End at) = refl
read_declarations-is zero (Next at token rest) = refl
read_declarations-is zero (Faulty at kind) = refl
read_declarations-is (suc most) (Faulty at kind) = refl
read_declarations-is (suc most) (Next at token rest) =
    ap₂ (λ (reading : Reading DeclarationSyntax) (others : Tokens → Reading (List DeclarationSyntax)).
    then_read reading (λ declaration tokens.
    then_read (others tokens) (λ rest tokens. Found (declaration ∷ rest) tokens)))
    (read_declaration-is (Next at token rest)) (fun_ext (read_declarations-is most))

-- declarations begin with a keyword, where there are any: no parenthesis opens there, and no name stands there
keyword_clear : (at : Place) (token : Token) (rest : Tokens) (keyword : Keyword) → token ≡ KeywordToken keyword
    → IsClear (Next at token rest) × IsNameless (Next at token rest)
keyword_clear at token rest keyword h = subst (λ (t : Token). IsClear (Next at t rest) × IsNameless (Next at t rest)) (sym h) (tt, tt)

pub declarations_clear : (declarations : List DeclarationSyntax) (before : Tokens) (end : Place) → AreWritten before (declarations_tokens declarations) end
    → IsClear before × IsNameless before
declarations_clear declarations (End at) end h = (tt, tt)
declarations_clear declarations (Faulty at kind) end h = (tt, tt)
declarations_clear [] (Next at token rest) end h = absurd h
declarations_clear (TypeDeclaration place name constructors ∷ others) (Next at token rest) end h = keyword_clear at token rest _ h.0
declarations_clear (StateDeclaration place of_type ∷ others) (Next at token rest) end h = keyword_clear at token rest _ h.0
declarations_clear (FunctionDeclaration place function ∷ others) (Next at token rest) end h = keyword_clear at token rest _ h.0

module _ (limit : ℕ) where
  -- where the tokens are those of these declarations, to the end
  pub record AreTheWhole (tokens : Tokens) (found : List DeclarationSyntax) (left : Tokens) : Type 0 where
    pub end : Place
    pub ends : left ≡ End end
    pub written : AreWritten tokens (declarations_tokens found) end
    pub fit : AreDeclarations limit found

  one_more : (most : ℕ) (before : Tokens) (found : List DeclarationSyntax) (left : Tokens)
      → ((before : Tokens) (found : List DeclarationSyntax) (left : Tokens) → read_declarations_at limit most before ≡ Found found left
      → AreTheWhole before found left)
      → then_read (read_declaration_at limit limit before) (λ declaration tokens.
      then_read (read_declarations_at limit most tokens) (λ rest tokens. Found (declaration ∷ rest) tokens)) ≡ Found found left
      → AreTheWhole before found left
  one_more most before found left others e =
      let g = gone_on (read_declaration_at limit limit before) _ found left e in
      let g' = gone_on (read_declarations_at limit most g.middle) _ found left g.others in
      let one = (declarations_are limit).sound before g.thing g.middle g.first in
      let o = others g.middle g'.thing g'.middle g'.first in
      subst (λ (d : List DeclarationSyntax). AreTheWhole before d left) (found_thing g'.others)
      (record {
        end = o.end;
        ends = sym (found_left g'.others) ∙ o.ends;
        written = written-append (declaration_tokens g.thing) before g.middle (declarations_tokens g'.thing) o.end one.0.is o.written;
        fit = (one.1, o.fit);
      })

  pub declarations_found : (most : ℕ) (before : Tokens) (found : List DeclarationSyntax) (left : Tokens)
      → read_declarations_at limit most before ≡ Found found left → AreTheWhole before found left
  declarations_found most (End at) found left e =
      let e' : End at ≡ left = found_left e in
      subst (λ (d : List DeclarationSyntax). AreTheWhole (End at) d left) (found_thing e)
      (record { end = at; ends = sym e'; written = refl; fit = tt })
  declarations_found zero (Next at token rest) found left e = absurd (cc)
  declarations_found zero (Faulty at kind) found left e = absurd (cc)
  declarations_found (suc most) (Next at token rest) found left e = one_more most (Next at token rest) found left (declarations_found most) e
  declarations_found (suc most) (Faulty at kind) found left e = absurd (cc)

  -- one more declaration is read
  step : (most : ℕ) (before middle : Tokens) (declaration : DeclarationSyntax) → read_declaration_at limit limit before ≡ Found declaration middle
      → read_declarations_at limit (suc most) before
      ≡ then_read (read_declarations_at limit most middle) (λ rest tokens. Found (declaration ∷ rest) tokens)
  step most (End at) middle declaration e = absurd (cc)
  step most (Faulty at kind) middle declaration e = absurd (cc)
  step most (Next at token rest) middle declaration e =
      ap (λ reading. then_read reading (λ declaration tokens.
      then_read (read_declarations_at limit most tokens) (λ rest tokens. Found (declaration ∷ rest) tokens))) e

  pub declarations_read : (most : ℕ) (declarations : List DeclarationSyntax) (before : Tokens) (end : Place)
      → AreWritten before (declarations_tokens declarations) end → AreDeclarations limit declarations → length declarations ≤ most
      → read_declarations_at limit most before ≡ Found declarations (End end)
  declarations_read most [] (End at) end h fit enough = ap (λ (at : Place). Found [] (End at)) h
  declarations_read most [] (Next at token rest) end h fit enough = absurd h
  declarations_read most [] (Faulty at kind) end h fit enough = absurd h
  declarations_read zero (declaration ∷ others) before end h fit enough = absurd (omega arith)
  declarations_read (suc most) (declaration ∷ others) before end h fit enough =
      let p = written-parted (declaration_tokens declaration) (declarations_tokens others) before end h in
      step most before p.middle declaration
      ((declarations_are limit).complete declaration before p.middle p.begin fit.0 (declarations_clear others p.middle end p.go_on).0)
      ∙ then_found (read_declarations_at limit most p.middle) others (End end) _ _
      (declarations_read most others p.middle end p.go_on fit.1 (omega arith)) refl

-- declarations are no more than their tokens
pub declaration_some : (declaration : DeclarationSyntax) → 0 < length (declaration_tokens declaration)
declaration_some (TypeDeclaration at name constructors) = omega arith
declaration_some (StateDeclaration at of_type) = omega arith
declaration_some (FunctionDeclaration at function) = omega arith

pub declarations_fit : (declarations : List DeclarationSyntax) → length declarations ≤ length (declarations_tokens declarations)
declarations_fit [] = omega arith
declarations_fit (declaration ∷ others) =
    let more = declarations_fit others in
    omega (arith, more, declaration_some declaration, length-append (declaration_tokens declaration) (declarations_tokens others))

pub written_fit : (before : Tokens) (ws : List Written) (end : Place) → AreWritten before ws end → length ws ≤ count before
written_fit (End at) [] end h = omega arith
written_fit (End at) (w ∷ ws) end h = absurd h
written_fit (Faulty at kind) ws end h = absurd h
written_fit (Next at token rest) [] end h = absurd h
written_fit (Next at token rest) (w ∷ ws) end h = let more = written_fit rest ws end h.2 in omega arith

-- a program from what was read
record IsProgramOf (format : Option Format) (reading : Reading (List DeclarationSyntax)) (program : Program) : Type 0 where
  pub left : Tokens
  pub told : format ≡ program.format
  pub found : reading ≡ Found program.declarations left
  pub ends : end_of left ≡ program.end

tree_found : (format : Option Format) (reading : Reading (List DeclarationSyntax)) (program : Program) → as_program format reading ≡ Tree program
    → IsProgramOf format reading program
tree_found format (Found declarations left) program e =
    let p : record { format = format; declarations = declarations; end = end_of left } ≡ program = tree_is e in record {
      left = left;
      told = ap (λ (p : Program). p.format) p;
      found = ap (λ (p : Program). Found p.declarations left) p;
      ends = ap (λ (p : Program). p.end) p;
    } where
      tree_is : {a b : Program} → Tree a ≡ Tree b → a ≡ b
      tree_is h = cc
tree_found format (FaultAt kind at) program e = absurd (cc)

-- what is read behind a format, and the declarations of it
record IsReadBehind (reading : Reading (Option Format)) (program : Program) : Type 0 where
  pub behind : Tokens
  pub left : Tokens
  pub told : reading ≡ Found program.format behind
  pub found : read_declarations (count behind) behind ≡ Found program.declarations left
  pub ends : end_of left ≡ program.end

read_behind : (reading : Reading (Option Format)) (program : Program) → read_program reading ≡ Tree program → IsReadBehind reading program
read_behind (Found format behind) program e =
    let t = tree_found format (read_declarations (count behind) behind) program e in
    record { behind = behind; left = t.left; told = ap (λ (format : Option Format). Found format behind) t.told; found = t.found; ends = t.ends }
read_behind (FaultAt kind at) program e = absurd (cc)

pub parsed_is_written : (text : List ℕ) (program : Program) → parsed text ≡ Tree program → IsProgramText text program
parsed_is_written text program e =
    let ts = text_tokens text in
    let r = read_behind (read_format ts) program e in
    let whole = declarations_found nesting_limit (count r.behind) r.behind program.declarations r.left
    (sym (read_declarations-is (count r.behind) r.behind) ∙ r.found) in
    let begun = format_found ts program.format r.behind r.told in
    record {
      written = subst (AreWritten ts (program_tokens program.format program.declarations)) (sym (ap end_of whole.ends) ∙ r.ends)
          (written-append (format_tokens program.format) ts r.behind (declarations_tokens program.declarations) whole.end begun.is whole.written);
      well_formed = whole.fit;
    }

pub written_is_parsed : (text : List ℕ) (program : Program) → IsProgramText text program → parsed text ≡ Tree program
written_is_parsed text program h =
    let ts = text_tokens text in
    let p = written-parted (format_tokens program.format) (declarations_tokens program.declarations) ts program.end h.written in
    let behind = p.middle in
    let enough : length program.declarations ≤ count behind =
    omega (arith, declarations_fit program.declarations, written_fit behind (declarations_tokens program.declarations) program.end p.go_on) in
    let clear = declarations_clear program.declarations behind program.end p.go_on in
    ap read_program (format_read program.format ts behind p.begin clear.1 clear.0)
    ∙ ap (as_program program.format) (read_declarations-is (count behind) behind
    ∙ declarations_read nesting_limit (count behind) program.declarations behind program.end p.go_on h.well_formed enough)

pub parsing_is_exact : ParsingIsExact
parsing_is_exact text program = (parsed_is_written text program, written_is_parsed text program)

-- so one at most is written
pub one_is_written : OneIsWritten
one_is_written text program other h h' =
    let first = written_is_parsed text program h in let second = written_is_parsed text other h' in cc
