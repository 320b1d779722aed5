-- The names that a text declares are words: those of constructors upper ones, and those of functions lower ones that are no keywords.
use Rattle.std.proofs.Common.{◌≡◌, ℕ, true, List, [], ◌∷◌, ◌++◌, subst}
use Rattle.lexemes.specs.declared.place.Place.{Place}
use Rattle.lexemes.specs.Places.{start}
use Rattle.lexemes.specs.Tokens.{Tokens, Next, End, Faulty}
use Rattle.auth_syntax.specs.Syntax.{ConstructorDeclaration, DeclarationSyntax, FunctionDeclaration, Program, StateDeclaration, TypeDeclaration}
use Rattle.auth_syntax.specs.Grammar.{AreWritten, IsProgramText, Written, constructor_tokens, constructors_tokens, declaration_tokens, declarations_tokens, format_tokens, program_tokens}
use Rattle.auth_syntax.specs.ProgramTokens.{read_format, text_tokens, told_format}
use Rattle.core_terms.specs.declared.format.Format.TheVariants.{First}
use Rattle.lexemes.specs.Tokens as lexed
use Rattle.object_meaning.specs.ReadObjects.{is_lower_name, is_upper_name}
use Rattle.emitted_objects.proofs.TextWords.{AreWords, IsWord, tokens_are_words}

abbrev AllWords : List Written → Type 0
AllWords [] = Unit {0}
AllWords (w ∷ ws) = IsWord w.token × AllWords ws

written_words : (found : Tokens) (ws : List Written) (end : Place) → AreWritten found ws end → AreWords found → AllWords ws
written_words found [] end h words = tt
written_words (Next at token rest) (w ∷ ws) end h words = (subst IsWord h.0 words.0, written_words rest ws end h.2 words.1)
written_words (End at) (w ∷ ws) end h words = absurd h
written_words (Faulty at kind) (w ∷ ws) end h words = absurd h

parts_words : (ws vs : List Written) → AllWords (ws ++ vs) → AllWords ws × AllWords vs
parts_words [] vs h = (tt, h)
parts_words (w ∷ ws) vs h = let (first, second) = parts_words ws vs h.1 in ((h.0, first), second)

-- the names of constructors, and what a declaration declares
abbrev pub HaveUpperNames : List ConstructorDeclaration → Type 0
HaveUpperNames [] = Unit {0}
HaveUpperNames (c ∷ cs) = (is_upper_name c.name.name ≡ true) × HaveUpperNames cs

abbrev pub DeclaresWords : DeclarationSyntax → Type 0
DeclaresWords (TypeDeclaration at name constructors) = HaveUpperNames constructors
DeclaresWords (StateDeclaration at of_type) = Unit {0}
DeclaresWords (FunctionDeclaration at function) = is_lower_name function.name.name ≡ true

abbrev pub DeclareWords : List DeclarationSyntax → Type 0
DeclareWords [] = Unit {0}
DeclareWords (d ∷ ds) = DeclaresWords d × DeclareWords ds

constructors_words : (cs : List ConstructorDeclaration) → AllWords (constructors_tokens cs) → HaveUpperNames cs
constructors_words [] h = tt
constructors_words (c ∷ []) h = (h.0, tt)
constructors_words (c ∷ next ∷ rest) h = let (own, others) = parts_words (constructor_tokens c) _ h in (own.0, constructors_words (next ∷ rest) others.1)

declaration_words : (d : DeclarationSyntax) → AllWords (declaration_tokens d) → DeclaresWords d
declaration_words (TypeDeclaration at name constructors) h = constructors_words constructors (parts_words (constructors_tokens constructors) _ h.1.1.1).0
declaration_words (StateDeclaration at of_type) h = tt
declaration_words (FunctionDeclaration at function) h = h.1.0

declarations_words : (ds : List DeclarationSyntax) → AllWords (declarations_tokens ds) → DeclareWords ds
declarations_words [] h = tt
declarations_words (d ∷ ds) h = let (own, others) = parts_words (declaration_tokens d) (declarations_tokens ds) h in (declaration_words d own, declarations_words ds others)

pub text_declares_words : (text : List ℕ) (program : Program) → IsProgramText text program → DeclareWords program.declarations
text_declares_words text program is =
    declarations_words program.declarations (parts_words (format_tokens program.format) (declarations_tokens program.declarations)
    (written_words (text_tokens text) (program_tokens program.format program.declarations) program.end is.written
    (tokens_are_words (told_format (read_format (lexed.tokens First text))) 0 start text))).1
