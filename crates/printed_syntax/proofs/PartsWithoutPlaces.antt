-- Whether a tree is well-formed hangs on no place in it.
use Rattle.std.proofs.Common.{◌≡◌, ℕ, suc, max, ◌≤◌, true, List, [], ◌∷◌, map, refl, sym, ap, ap₂, subst}
use Rattle.core_terms.specs.Types.{is_length}
use Rattle.auth_syntax.specs.Syntax.{TypeSyntax, AuthTypeSyntax, PairTypeSyntax, VecTypeSyntax, ExpSyntax, PairSyntax, UnarySyntax, BinarySyntax, CallSyntax, ConstructorSyntax, OperateSyntax, LetSyntax, IfSyntax, MatchSyntax, ExpsSyntax, NoExp, AndExp, ArmsSyntax, NoArmSyntax, AndArmSyntax, ParameterSyntax, FunctionSyntax, ConstructorDeclaration, DeclarationSyntax, TypeDeclaration, StateDeclaration, FunctionDeclaration}
use Rattle.auth_syntax.specs.Grammar.{type_levels, expression_levels, expressions_levels, arms_levels, HasLengths, has_length, row_length, HasParts, HaveParts, ArmsHaveParts, IsSome, IsType, IsExpression, AreTypes, AreParameters, AreConstructors, IsFunction, IsDeclaration, AreDeclarations}
use Rattle.auth_syntax.specs.Nesting.{others_of}
use Rattle.printed_syntax.specs.WithoutPlaces.{type_without_places, expression_without_places, expressions_without_places, arms_without_places, parameter_without_places, function_without_places, constructor_without_places, declaration_without_places}

-- levels
type_levels_same : (t : TypeSyntax) → type_levels (type_without_places t) ≡ type_levels t
type_levels_same (AuthTypeSyntax at inner) = ap suc (type_levels_same inner)
type_levels_same (PairTypeSyntax at first second) = ap₂ (λ a b. suc (max a b)) (type_levels_same first) (type_levels_same second)
type_levels_same (VecTypeSyntax at n item) = ap suc (type_levels_same item)
type_levels_same t = refl

mutual
  levels_same : (e : ExpSyntax) → expression_levels (expression_without_places e) ≡ expression_levels e
  levels_same (PairSyntax at first second) = ap₂ (λ a b. suc (max a b)) (levels_same first) (levels_same second)
  levels_same (UnarySyntax at operation operand) = ap suc (levels_same operand)
  levels_same (BinarySyntax at operation first second) = ap₂ (λ a b. suc (max a b)) (levels_same first) (levels_same second)
  levels_same (CallSyntax at name operands) = ap suc (all_levels_same operands)
  levels_same (ConstructorSyntax at name operands) = ap suc (all_levels_same operands)
  levels_same (OperateSyntax at operation operands) = ap suc (all_levels_same operands)
  levels_same (LetSyntax at name bound body) = ap₂ (λ a b. suc (max a b)) (levels_same bound) (levels_same body)
  levels_same (IfSyntax at test first other) =
      ap₂ (λ a b. suc (max a b)) (levels_same test) (ap₂ max (levels_same first) (levels_same other))
  levels_same (MatchSyntax at subject arms) = ap₂ (λ a b. suc (max a b)) (levels_same subject) (arms_levels_same arms)
  levels_same e = refl

  all_levels_same : (es : ExpsSyntax) → expressions_levels (expressions_without_places es) ≡ expressions_levels es
  all_levels_same NoExp = refl
  all_levels_same (AndExp e rest) = ap₂ max (levels_same e) (all_levels_same rest)

  arms_levels_same : (arms : ArmsSyntax) → arms_levels (arms_without_places arms) ≡ arms_levels arms
  arms_levels_same NoArmSyntax = refl
  arms_levels_same (AndArmSyntax constructor fields body rest) = ap₂ max (levels_same body) (arms_levels_same rest)

-- a fact that is the same without places
abbrev IsSame : Type 0 → Type 0 → Type 1
IsSame P Q = ◌≡◌ {A = Type 0} P Q

-- the lengths of arrays
lengths_same : (t : TypeSyntax) → IsSame (HasLengths (type_without_places t)) (HasLengths t)
lengths_same (AuthTypeSyntax at inner) = lengths_same inner
lengths_same (PairTypeSyntax at first second) = ap₂ (λ P Q. P × Q) (lengths_same first) (lengths_same second)
lengths_same (VecTypeSyntax at n item) = ap (λ (P : Type 0). (is_length n ≡ true) × P) (lengths_same item)
lengths_same t = refl

-- the parts that there have to be
row_same : (es : ExpsSyntax) → row_length (expressions_without_places es) ≡ row_length es
row_same NoExp = refl
row_same (AndExp e rest) = ap suc (row_same rest)

mutual
  parts_same : (e : ExpSyntax) → IsSame (HasParts (expression_without_places e)) (HasParts e)
  parts_same (PairSyntax at first second) = ap₂ (λ P Q. P × Q) (parts_same first) (parts_same second)
  parts_same (UnarySyntax at operation operand) = parts_same operand
  parts_same (BinarySyntax at operation first second) = ap₂ (λ P Q. P × Q) (parts_same first) (parts_same second)
  parts_same (CallSyntax at name NoExp) = refl
  parts_same (CallSyntax at name (AndExp e rest)) = all_parts_same (AndExp e rest)
  parts_same (ConstructorSyntax at name operands) = all_parts_same operands
  parts_same (OperateSyntax at operation operands) =
      ap₂ (λ n (P : Type 0). (has_length operation ≡ true) × (n ≡ suc (others_of operation)) × P) (row_same operands) (all_parts_same operands)
  parts_same (LetSyntax at name bound body) = ap₂ (λ P Q. P × Q) (parts_same bound) (parts_same body)
  parts_same (IfSyntax at test first other) =
      ap₂ (λ P (Q : Type 0 × Type 0). P × Q.0 × Q.1) (parts_same test) (ap₂ (λ P Q. (P, Q)) (parts_same first) (parts_same other))
  parts_same (MatchSyntax at subject NoArmSyntax) = refl
  parts_same (MatchSyntax at subject (AndArmSyntax constructor fields body rest)) =
      ap₂ (λ P Q. P × Q) (parts_same subject) (arms_parts_same (AndArmSyntax constructor fields body rest))
  parts_same e = refl

  all_parts_same : (es : ExpsSyntax) → IsSame (HaveParts (expressions_without_places es)) (HaveParts es)
  all_parts_same NoExp = refl
  all_parts_same (AndExp e rest) = ap₂ (λ P Q. P × Q) (parts_same e) (all_parts_same rest)

  arms_parts_same : (arms : ArmsSyntax) → IsSame (ArmsHaveParts (arms_without_places arms)) (ArmsHaveParts arms)
  arms_parts_same NoArmSyntax = refl
  arms_parts_same (AndArmSyntax constructor fields body rest) = ap₂ (λ P Q. P × Q) (parts_same body) (arms_parts_same rest)

module _ (limit : ℕ) where
  type_same : (t : TypeSyntax) → IsSame (IsType limit (type_without_places t)) (IsType limit t)
  type_same t = ap₂ (λ P n. P × (n ≤ limit)) (lengths_same t) (type_levels_same t)

  expression_same : (e : ExpSyntax) → IsSame (IsExpression limit (expression_without_places e)) (IsExpression limit e)
  expression_same e = ap₂ (λ P n. P × (n ≤ limit)) (parts_same e) (levels_same e)

  types_same : (ts : List TypeSyntax) → IsSame (AreTypes limit (map type_without_places ts)) (AreTypes limit ts)
  types_same [] = refl
  types_same (t ∷ rest) = ap₂ (λ P Q. P × Q) (type_same t) (types_same rest)

  parameters_same : (ps : List ParameterSyntax) → IsSame (AreParameters limit (map parameter_without_places ps)) (AreParameters limit ps)
  parameters_same [] = refl
  parameters_same (p ∷ rest) = ap₂ (λ P Q. P × Q) (type_same p.of_type) (parameters_same rest)

  constructors_same : (cs : List ConstructorDeclaration) → IsSame (AreConstructors limit (map constructor_without_places cs)) (AreConstructors limit cs)
  constructors_same [] = refl
  constructors_same (c ∷ rest) = ap₂ (λ P Q. P × Q) (types_same c.fields) (constructors_same rest)

  some_same : {A : Type 0} (plain : A → A) (things : List A) → IsSame (IsSome (map plain things)) (IsSome things)
  some_same plain [] = refl
  some_same plain (thing ∷ rest) = refl

  along : {P Q : Type 0} → IsSame P Q → P → Q
  along e p = subst (λ (P : Type 0). P) e p

  -- a function, and a declaration, with its places and without
  function_to : (f : FunctionSyntax) → IsFunction limit f → IsFunction limit (function_without_places f)
  function_to f h = record {
    has_parameter = along (sym (some_same parameter_without_places f.parameters)) h.has_parameter;
    parameters = along (sym (parameters_same f.parameters)) h.parameters;
    result_type = along (sym (type_same f.result_type)) h.result_type;
    body = along (sym (expression_same f.body)) h.body;
  }

  function_from : (f : FunctionSyntax) → IsFunction limit (function_without_places f) → IsFunction limit f
  function_from f h = record {
    has_parameter = along (some_same parameter_without_places f.parameters) h.has_parameter;
    parameters = along (parameters_same f.parameters) h.parameters;
    result_type = along (type_same f.result_type) h.result_type;
    body = along (expression_same f.body) h.body;
  }

  declaration_to : (d : DeclarationSyntax) → IsDeclaration limit d → IsDeclaration limit (declaration_without_places d)
  declaration_to (TypeDeclaration at name constructors) h =
      (along (sym (some_same constructor_without_places constructors)) h.0, along (sym (constructors_same constructors)) h.1)
  declaration_to (StateDeclaration at of_type) h = along (sym (type_same of_type)) h
  declaration_to (FunctionDeclaration at function) h = function_to function h

  declaration_from : (d : DeclarationSyntax) → IsDeclaration limit (declaration_without_places d) → IsDeclaration limit d
  declaration_from (TypeDeclaration at name constructors) h =
      (along (some_same constructor_without_places constructors) h.0, along (constructors_same constructors) h.1)
  declaration_from (StateDeclaration at of_type) h = along (type_same of_type) h
  declaration_from (FunctionDeclaration at function) h = function_from function h

  declarations_to : (ds : List DeclarationSyntax) → AreDeclarations limit ds → AreDeclarations limit (map declaration_without_places ds)
  declarations_to [] h = tt
  declarations_to (d ∷ rest) h = (declaration_to d h.0, declarations_to rest h.1)

  declarations_from : (ds : List DeclarationSyntax) → AreDeclarations limit (map declaration_without_places ds) → AreDeclarations limit ds
  declarations_from [] h = tt
  declarations_from (d ∷ rest) h = (declaration_from d h.0, declarations_from rest h.1)

  -- declarations that are equal but for places are as well-formed as each other
  pub well_formed_along : (ds others : List DeclarationSyntax) → map declaration_without_places others ≡ map declaration_without_places ds
      → AreDeclarations limit ds → AreDeclarations limit others
  well_formed_along ds others same h = declarations_from others (subst (AreDeclarations limit) (sym same) (declarations_to ds h))
