-- What code names is there, and its literals are of the language: as facts, by which the test of kinds says yes.
use Rattle.std.proofs.Common.{◌≡◌, ◌<◌, ◌≤◌, true, List, [], ◌∷◌, length, None, IsUtf8, refl, ap, lt-ltb, le-leb}
use Rattle.std.specs.List.{list_all}
use Rattle.std.specs.Option.{is_none}
use Rattle.std.proofs.lemmas.Str.{is_utf8-from_IsUtf8}
use Rattle.core_terms.specs.Values.{int_fits}
use Rattle.core_terms.specs.Instructions.{Instruction, PushInt, PushText, Call}
use Rattle.core_terms.specs.Bodies.{FunctionCode, Body}
use Rattle.core_terms.specs.Kinds.{is_there, is_there_in, kind_fault, kinds_test}
use Rattle.core_terms.proofs.TypingComplete.{both}

abbrev pub IsThere : Body → Instruction → Type 0
IsThere B (PushInt z) = int_fits z ≡ true
IsThere B (PushText bytes) = IsUtf8 bytes × (length bytes ≤ 65532)
IsThere B (Call f) = f < length B.functions
IsThere B i = Unit {0}

abbrev pub AreThere : Body → List Instruction → Type 0
AreThere B [] = Unit {0}
AreThere B (i ∷ is) = IsThere B i × AreThere B is

abbrev pub AllThere : Body → List FunctionCode → Type 0
AllThere B [] = Unit {0}
AllThere B (g ∷ gs) = AreThere B g.code × AllThere B gs

one_passes : (B : Body) (i : Instruction) → IsThere B i → is_there B i ≡ true
one_passes B (PushInt z) h = h
one_passes B (PushText bytes) h = both _ _ (is_utf8-from_IsUtf8 bytes h.0) (le-leb (length bytes) 65532 h.1)
one_passes B (Call f) h = lt-ltb f (length B.functions) h
one_passes B i h = refl

code_passes : (B : Body) (is : List Instruction) → AreThere B is → list_all (is_there B) is ≡ true
code_passes B [] h = refl
code_passes B (i ∷ is) h = both _ _ (one_passes B i h.0) (code_passes B is h.1)

all_pass : (B : Body) (gs : List FunctionCode) → AllThere B gs → list_all (is_there_in B) gs ≡ true
all_pass B [] h = refl
all_pass B (g ∷ gs) h = both _ _ (code_passes B g.code h.0) (all_pass B gs h.1)

pub kinds_pass : (B : Body) → AllThere B B.functions → kind_fault B ≡ None → kinds_test B ≡ true
kinds_pass B h e = both _ _ (all_pass B B.functions h) (ap is_none e)
