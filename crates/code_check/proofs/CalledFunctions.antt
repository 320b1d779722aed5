-- The parameters and the result of the function that a call names.
use Rattle.std.proofs.Common.{◌≡◌, ◌<◌, ◌≤◌, ℕ, zero, suc, List, [], ◌∷◌, length, map, Option, Some, None, slice_get, get_or, unwrap_or, option_map, nat_lt, IfSome, refl, sym, ap, ◌∙◌, subst, ltb-true, ltb-false, arith, Vec}
use Rattle.std.specs.Option.{is_some}
use Rattle.std.specs.declared.alloc.Global.{Global}
use Rattle.std.proofs.lemmas.Option.{slice_get-get_or}
use denote.Bor.{Bor}
use Rattle.core_terms.specs.Types.{Ty}
use Rattle.core_terms.specs.Bodies.{FunctionCode, code_at, no_function_code}
use Rattle.core_terms.specs.InstructionViews.{instructions_of}
use Rattle.core_terms.specs.ProgramTrees.{function_of}
use Rattle.core_terms.specs.Programs.{types_in}
use Rattle.core_terms.specs.Terms.{coded}
use Rattle.core_terms.specs.declared.instruction.Instruction.{Instruction}
use Rattle.core_terms.specs.declared.program.FunctionId.{FunctionId}
use Rattle.core_terms.specs.declared.term.Function.{Function}
use Rattle.code_check.specs.declared.parts.Parts.{Parts}
use Rattle.code_check.specs.KindSteps.{IsCalled}
use Rattle.code_check.specs.ObjectParts.{body_of_parts, function_with}

abbrev pub all_coded : List Ty → List Function → List (Vec Instruction Global) → List FunctionCode
all_coded types gs codes = coded (map (function_of types) gs) (map (λ (code : Vec Instruction Global). instructions_of types code.items) codes)

pub past_code : (types : List Ty) (gs : List Function) (codes : List (Vec Instruction Global)) (f : ℕ) → length codes ≤ f → slice_get (all_coded types gs codes) f ≡ None
past_code types [] codes f l = refl
past_code types (g ∷ gs) [] f l = refl
past_code types (g ∷ gs) (c ∷ codes) zero l = absurd (omega (arith, l))
past_code types (g ∷ gs) (c ∷ codes) (suc f) l = past_code types gs codes f (omega (arith, l))

pub past_functions : (types : List Ty) (gs : List Function) (codes : List (Vec Instruction Global)) (f : ℕ) → length gs ≤ f → slice_get (all_coded types gs codes) f ≡ None
past_functions types [] codes f l = refl
past_functions types (g ∷ gs) [] f l = refl
past_functions types (g ∷ gs) (c ∷ codes) zero l = absurd (omega (arith, l))
past_functions types (g ∷ gs) (c ∷ codes) (suc f) l = past_functions types gs codes f (omega (arith, l))

pub coded_at : (types : List Ty) (gs : List Function) (codes : List (Vec Instruction Global)) (f : ℕ) (g : Function) (code : Vec Instruction Global) → slice_get gs f ≡ Some g
    → slice_get codes f ≡ Some code → slice_get (all_coded types gs codes) f ≡ Some (function_with types g code.items)
coded_at types [] codes f g code e k = absurd (cc)
coded_at types (h ∷ gs) [] f g code e k = absurd (cc)
coded_at types (h ∷ gs) (c ∷ codes) zero g code e k =
    let same : h ≡ g = cc in
    let alike : c ≡ code = cc in
    ap (λ (g : Function). Some (function_with types g c.items)) same ∙ ap (λ (code : Vec Instruction Global). Some (function_with types g code.items)) alike
coded_at types (h ∷ gs) (c ∷ codes) (suc f) g code e k = coded_at types gs codes f g code e k

pub no_code : (parts : Parts) (f : FunctionId) → length parts.code.items ≤ f.0 → code_at (body_of_parts parts) f.0 ≡ no_function_code
no_code parts f l = ap (λ o. unwrap_or o no_function_code) (past_code (types_in parts.types) parts.functions.items parts.code.items f.0 l)

pub called_is : (parts : Parts) (f : FunctionId) (list : List Function) (r : Option (Bor Function)) → list ≡ parts.functions.items → f.0 < length parts.code.items
    → is_some r ≡ nat_lt f.0 (length list) → IfSome r (λ x. x.now ≡ get_or list f.0 x.now) → IsCalled parts f (option_map (λ function. function.now) r)
called_is parts f list None same l e h =
    let past : length list ≤ f.0 = ltb-false f.0 (length list) (sym e) in
    ap (λ o. unwrap_or o no_function_code)
    (past_functions (types_in parts.types) parts.functions.items parts.code.items f.0 (subst (λ gs. length gs ≤ f.0) same past))
called_is parts f list (Some x) same l e h =
    let there : slice_get parts.functions.items f.0 ≡ Some x.now =
    subst (λ gs. slice_get gs f.0 ≡ Some x.now) same (slice_get-get_or list f.0 x.now (ltb-true f.0 (length list) (sym e)) ∙ ap Some (sym h)) in
    by (slice_get parts.code.items f.0) refl there
  where
    by : (o : Option (Vec Instruction Global)) → slice_get parts.code.items f.0 ≡ o → slice_get parts.functions.items f.0 ≡ Some x.now → IsCalled parts f (Some x.now)
    by None k there = absurd (none_within parts.code.items f.0 l k)
      where
        none_within : (cs : List (Vec Instruction Global)) (n : ℕ) → n < length cs → slice_get cs n ≡ None → ⊥
        none_within [] n l k = omega (arith, l)
        none_within (c ∷ cs) zero l k = cc
        none_within (c ∷ cs) (suc n) l k = none_within cs n (omega (arith, l)) k
    by (Some code) k there =
        let is = coded_at (types_in parts.types) parts.functions.items parts.code.items f.0 x.now code there k in
        (ap (λ o. (unwrap_or o no_function_code).parameters) is, ap (λ o. (unwrap_or o no_function_code).result) is)
