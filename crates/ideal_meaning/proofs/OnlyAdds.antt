-- Code in the ideal mode only adds to what was opened.
use Rattle.std.proofs.Common.{◌≡◌, ℕ, List, [], ◌∷◌, ◌++◌, refl, sym, ap, ◌∙◌, append_assoc, append-nil}
use Rattle.core_terms.specs.Types.{Ty}
use Rattle.core_terms.specs.Values.{Value, Values}
use Rattle.core_terms.specs.Instructions.{Instruction}
use Rattle.core_terms.specs.Bodies.{Body}
use Rattle.ideal_meaning.specs.Run.{with_fuel, state_of}
use Rattle.ideal_meaning.specs.Ideal.{Opened, ideal_mode}
use Rattle.ideal_meaning.specs.Execution.{Coded, Held, exec, call_code}
use Rattle.ideal_meaning.proofs.CodeStepping.{Moves, moves_behind, moves_call}

-- what was opened so far, s, stands at the front of what is opened in the end
pub record Grown (s t : List Opened) : Type 0 where
  pub added : List Opened
  pub is : t ≡ s ++ added

pub stays : (s : List Opened) → Grown s s
stays s = record { added = []; is = sym (append-nil s) }

pub goes_on : (a b c : List Opened) → Grown a b → Grown b c → Grown a c
goes_on a b c g h = record { added = g.added ++ h.added; is = h.is ∙ ap (λ l. l ++ h.added) g.is ∙ append_assoc a g.added h.added }

pub opens : (k : ℕ) (t : Ty) (v : Value) (s : List Opened) → Grown s (state_of (with_fuel k (ideal_mode.unauth t v s)))
opens k t v s = record { added = record { ty = t; value = v } ∷ []; is = refl }

abbrev pub Adds : List Opened → Coded ⊥ (List Opened) → Type 0
Adds s c = Moves ⊥ (List Opened) ideal_mode Grown stays goes_on opens s c

pub adds_exec : (B : Body) (called : ℕ → Values → ℕ → List Opened → Coded ⊥ (List Opened)) → ((f : ℕ) (vs : Values) (k : ℕ) (s : List Opened) → Adds s (called f vs k s))
    → (is : List Instruction) (n : ℕ) (env ops : List Held) (k : ℕ) (s : List Opened) → Adds s (exec B ideal_mode called is n env ops k s)
adds_exec B called calls is n env ops k s = moves_behind ⊥ (List Opened) ideal_mode Grown stays goes_on opens B called calls is n env ops k s

pub adds_call : (B : Body) (n f : ℕ) (args : Values) (k : ℕ) (s : List Opened) → Adds s (call_code B ideal_mode n f args k s)
adds_call B n f args k s = moves_call ⊥ (List Opened) ideal_mode Grown stays goes_on opens B n f args k s
