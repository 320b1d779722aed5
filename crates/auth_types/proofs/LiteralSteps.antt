-- Literals of expressions in a row, of arms and of functions, one by one.
use Rattle.std.proofs.Common.{◌≡◌, ℕ, ◌+◌, List, [], ◌∷◌, drop, sym, subst}
use Rattle.std.specs.Prelude.{All}
use Rattle.std.proofs.lemmas.List.Elements.{All-cons, All-nil}
use Rattle.auth_syntax.specs.Parsing.{in_a_row}
use Rattle.auth_syntax.specs.Syntax.{ExpSyntax, FunctionSyntax}
use Rattle.auth_syntax.specs.Trees.{ArmSyntax, arms_in_a_row}
use Rattle.auth_types.specs.CheckedLaws.{ArmsHaveGoodLiterals, HasGoodLiterals, HaveGoodLiterals}

pub row_good : {A : Type 0} (xs : List ExpSyntax) (i : ℕ) (x : ExpSyntax) → drop i xs ≡ x ∷ drop (i + 1) xs → HasGoodLiterals x
    → (HaveGoodLiterals (in_a_row (drop i xs)) → A) → HaveGoodLiterals (in_a_row (drop (i + 1) xs)) → A
row_good xs i x here good so_far rest = so_far (subst (λ (l : List ExpSyntax). HaveGoodLiterals (in_a_row l)) (sym here) (good, rest))

pub row_good_last : {A : Type 0} (xs : List ExpSyntax) (i : ℕ) → drop i xs ≡ [] → (HaveGoodLiterals (in_a_row (drop i xs)) → A) → A
row_good_last xs i none so_far = so_far (subst (λ (l : List ExpSyntax). HaveGoodLiterals (in_a_row l)) (sym none) tt)

pub arms_good : {A : Type 0} (arms : List ArmSyntax) (i : ℕ) (arm : ArmSyntax) → drop i arms ≡ arm ∷ drop (i + 1) arms → HasGoodLiterals arm.body
    → (ArmsHaveGoodLiterals (arms_in_a_row (drop i arms)) → A)
    → ArmsHaveGoodLiterals (arms_in_a_row (drop (i + 1) arms)) → A
arms_good arms i arm here good so_far rest = so_far (subst (λ (l : List ArmSyntax). ArmsHaveGoodLiterals (arms_in_a_row l)) (sym here) (good, rest))

pub arms_good_last : {A : Type 0} (arms : List ArmSyntax) (i : ℕ) → drop i arms ≡ [] → (ArmsHaveGoodLiterals (arms_in_a_row (drop i arms)) → A) → A
arms_good_last arms i none so_far = so_far (subst (λ (l : List ArmSyntax). ArmsHaveGoodLiterals (arms_in_a_row l)) (sym none) tt)

abbrev HasGoodBody : FunctionSyntax → Type 0
HasGoodBody f = HasGoodLiterals f.body

pub functions_good : {A : Type 0} (fs : List FunctionSyntax) (i : ℕ) (f : FunctionSyntax) → drop i fs ≡ f ∷ drop (i + 1) fs → HasGoodLiterals f.body
    → (All (λ (f : FunctionSyntax). HasGoodLiterals f.body) (drop i fs) → A)
    → All (λ (f : FunctionSyntax). HasGoodLiterals f.body) (drop (i + 1) fs) → A
functions_good fs i f here good so_far rest =
    so_far (subst (λ (l : List FunctionSyntax). All HasGoodBody l) (sym here) (All-cons HasGoodBody f (drop (i + 1) fs) good rest))

pub functions_good_last : {A : Type 0} (fs : List FunctionSyntax) (i : ℕ) → drop i fs ≡ []
    → (All (λ (f : FunctionSyntax). HasGoodLiterals f.body) (drop i fs) → A) → A
functions_good_last fs i none so_far = so_far (subst (λ (l : List FunctionSyntax). All HasGoodBody l) (sym none) (All-nil HasGoodBody))
