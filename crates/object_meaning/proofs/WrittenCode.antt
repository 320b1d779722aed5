-- The code that is written of a program is well-formed.
use Rattle.std.proofs.Common.{◌≡◌, ◌<◌, ◌≤◌, ℕ, zero, suc, ◌+◌, Bool, true, false, List, [], ◌∷◌, ◌++◌, length, map, nat_eq, Option, Some, None, slice_get, slice_index_or, unwrap_or, refl, sym, ap, ◌∙◌, subst, arith, lt-ltb, if◌then◌else◌}
use Rattle.std.proofs.lemmas.List.{length-map}
use Rattle.std.proofs.lemmas.Option.{option_and_then_some, slice_get_within}
use Rattle.core_terms.specs.Types.{Ty, UnitTy, BoolTy, NamedTy, Table, fields_at}
use Rattle.core_terms.specs.Terms.{Program}
use Rattle.core_terms.specs.Instructions as code
use Rattle.core_terms.specs.Bodies.{Body}
use Rattle.core_terms.specs.GeneratedCode.{function_code, written_body}
use Rattle.core_terms.specs.CodeShapes.{Shape}
use Rattle.object_meaning.specs.Objects.{ListedType, ListedUnit}
use Rattle.object_meaning.specs.ReadObjects.{constructors_in, constructors_of, is_named}
use Rattle.object_meaning.specs.WellFormedObjects.{AllBelow, AllAhead, IsInstruction, AreInstructions}
use Rattle.object_meaning.specs.WrittenObjects.{number_in, types_named, type_written, target_of, instruction_written, code_written, types_written}
use Rattle.object_meaning.specs.ClosedPrograms.{IsClosedAt, CodeIsClosed}
use Rattle.object_meaning.specs.EmittablePrograms.{IsNamedTable}
use Rattle.core_terms.specs.Kinds.{Way, way, ways_by_tag, ways, Known, Unreached, Reached, Clashing, reach, reach_all, behind, fault_or, first_fault}
use Rattle.core_terms.proofs.KindsSound.{mapped, on_ways, length_reach, length_all, in_table}
use Rattle.object_meaning.proofs.There.{IsThere, AreThere}
use Rattle.object_meaning.proofs.ListedTypes.{some_none, none_some, some_is, Listing, AllIn, CodeIn}
use Rattle.object_meaning.proofs.ObjectCode.{named_there}
use Rattle.object_meaning.proofs.WrittenWell.{length_constructors, below}

-- WAYS LEAD TO WHAT IS THERE
reach_below : (n : ℕ) (s : Shape) (ks after : List Known) → reach n s ks ≡ Some after → n < length ks
reach_below n s [] after e = absurd (none_some e)
reach_below zero s (k ∷ ks) after e = omega arith
reach_below (suc n) s (k ∷ ks) after e = mapped _ (λ ks. k ∷ ks) (reach n s ks) after e (λ later r f. let h = reach_below n s ks later r in omega (arith, h))

abbrev AllWays : ℕ → List Way → Type 0
AllWays m [] = Unit {0}
AllWays m (w ∷ ws) = (w.passed < m) × AllWays m ws

ways_below : (ws : List Way) (ks after : List Known) (m : ℕ) → length ks ≡ m → reach_all ws ks ≡ Some after → AllWays m ws
ways_below [] ks after m l e = tt
ways_below (w ∷ ws) ks after m l e =
    on_ways _ w ws ks after e (λ mid a b. let h = reach_below w.passed w.at ks mid a in (omega (arith, h, l), ways_below ws mid after m (length_reach w.passed w.at ks mid a ∙ l) b))

by_tag_below : (ls os : List Ty) (cs : List (List Ty)) (places : List ℕ) (ws : List Way) (m : ℕ) → ways_by_tag ls os cs places ≡ Some ws → AllWays m ws → (length places ≡ length cs) × AllBelow m places
by_tag_below ls os [] [] ws m e h = (refl, tt)
by_tag_below ls os (c ∷ cs) (n ∷ places) ws m e h =
    mapped _ (λ ws. way n (ls ++ c) os ∷ ws) (ways_by_tag ls os cs places) ws e (λ later r g.
    let h = subst (AllWays m) (sym g) h in
    let go = by_tag_below ls os cs places later m r h.1 in
    (ap suc go.0, (h.0, go.1)))
by_tag_below ls os [] (n ∷ places) ws m e h = absurd (none_some e)
by_tag_below ls os (c ∷ cs) [] ws m e h = absurd (none_some e)

all_ahead : (i m n : ℕ) (places : List ℕ) → suc i + m ≡ n → AllBelow m places → AllAhead i n (map (target_of i) places)
all_ahead i m n [] e h = tt
all_ahead i m n (p ∷ places) e h = ((omega arith, omega (arith, e, h.0)), all_ahead i m n places e h.1)

module _ (P : Program) (names : List (List (List ℕ))) (functions : ℕ) (z : Ty) (same : length P.functions ≡ functions) (listing : Listing P.types (types_written P)) (named : IsNamedTable [] P.types names) where
  abbrev B : Body
  B = written_body P

  abbrev types : List Ty
  types = types_written P

  abbrev listed : List ListedType
  listed = map (type_written types P.types names) types

  abbrev table_at : ℕ → List (List Ty)
  table_at n = unwrap_or (slice_get P.types n) []

  length_listed : length listed ≡ length types
  length_listed = length-map types (type_written types P.types names)

  listed_there : (ts : List Ty) (n : ℕ) → slice_index_or (map (type_written types P.types names) ts) n ListedUnit ≡ type_written types P.types names (slice_index_or ts n UnitTy)
  listed_there [] n = refl
  listed_there (t ∷ ts) zero = refl
  listed_there (t ∷ ts) (suc n) = listed_there ts n

  as_many : (n : ℕ) → n < length P.types → length (constructors_of listed n) ≡ length (table_at n)
  as_many n c =
      ap (λ t. length (constructors_in t)) (listed_there types n ∙ ap (type_written types P.types names) (named_there P.types names types listing n c).0)
      ∙ length_constructors P.types names types (table_at n) (unwrap_or (slice_get names n) [])

  some_there : (before : List (List ℕ)) (ts : Table) (ns : List (List (List ℕ))) (n : ℕ) → IsNamedTable before ts ns → n < length ts → 1 ≤ length (unwrap_or (slice_get ts n) [])
  some_there before [] ns n h c = absurd (omega (arith, c))
  some_there before (cs ∷ ts) [] n h c = elim h [ ]
  some_there before (cs ∷ ts) (m ∷ ns) zero h c = h.0.some
  some_there before (cs ∷ ts) (m ∷ ns) (suc n) h c = some_there (before ++ m) ts ns n h.1 (omega (arith, c))

  is_type_there : (n : ℕ) → n < length P.types → (is_named listed n ≡ true) × (n < length listed)
  is_type_there n c =
      let some = some_there [] P.types names n named c in
      let many = as_many n c in
      let low = (named_there P.types names types listing n c).1 in
      (lt-ltb 0 (length (constructors_of listed n)) (omega (arith, some, many)), omega (arith, low, length_listed))

  type_below : (t : Ty) → AllIn P.types types (t ∷ []) → number_in types t < length listed
  type_below t a = let l = below P.types names types t a.0 in omega (arith, l, length_listed)

  -- an instruction that has ways on
  instruction_is : (x : code.Instruction) (i n : ℕ) (ls os : List Ty) (ws : List Way) (m : ℕ) → suc i + m ≡ n → ways B z x ls os ≡ Some ws → AllWays m ws
      → IsThere B x → AllIn P.types types (types_named x) → IsClosedAt (length P.types) x → IsInstruction listed functions i n (instruction_written types i x)
  instruction_is code.PushUnit i n ls os ws m l e r t a c = tt
  instruction_is (code.PushBool b) i n ls os ws m l e r t a c = tt
  instruction_is (code.PushInt z) i n ls os ws m l e r t a c = t
  instruction_is (code.PushText bytes) i n ls os ws m l e r t a c = t
  instruction_is (code.Load j) i n ls os ws m l e r t a c = tt
  instruction_is code.Bind i n ls os ws m l e r t a c = tt
  instruction_is (code.Unbind j) i n ls os ws m l e r t a c = tt
  instruction_is code.Pair i n ls os ws m l e r t a c = tt
  instruction_is code.Fst i n ls os ws m l e r t a c = tt
  instruction_is code.Snd i n ls os ws m l e r t a c = tt
  instruction_is (code.Make number tag) i n ls os ws m l e r t a c =
      let there = is_type_there number c in
      let many = as_many number c in
      option_and_then_some _ (fields_at P.types number tag) ws e (λ ts f b.
      let low = slice_get_within (table_at number) tag ts (in_table B z [] (slice_get P.types number) tag ts f) in
      (there.0, there.1, omega (arith, low, many)))
  instruction_is (code.Switch number places) i n ls [] ws m l e r t a c = absurd (none_some e)
  instruction_is (code.Switch number places) i n ls (NamedTy k ∷ os) ws m l e r t a c = by (nat_eq k number) e
    where
      by : (b : Bool) → (if b then ways_by_tag ls os (table_at number) places else None) ≡ Some ws → IsInstruction listed functions i n (instruction_written types i (code.Switch number places))
      by true e =
          let there = is_type_there number c in
          let many = as_many number c in
          let g = by_tag_below ls os (table_at number) places ws m e r in
          (there.0, there.1, length-map places (target_of i) ∙ g.0 ∙ sym many, all_ahead i m n places l g.1)
      by false e = absurd (none_some e)
  instruction_is (code.Switch number places) i n ls (o ∷ os) ws m l e r t a c = absurd (none_some e)
  instruction_is (code.Branch j) i n ls (BoolTy ∷ os) ws m l e r t a c = let h = subst (AllWays m) (sym (some_is e)) r in (omega arith, omega (arith, l, h.1.0))
  instruction_is (code.Branch j) i n ls os ws m l e r t a c = absurd (none_some e)
  instruction_is (code.Jump j) i n ls os ws m l e r t a c = let h = subst (AllWays m) (sym (some_is e)) r in (omega arith, omega (arith, l, h.0))
  instruction_is (code.Call f) i n ls os ws m l e r t a c = omega (arith, t, same, length-map P.functions (function_code P.types))
  instruction_is code.Return i n ls os ws m l e r t a c = tt
  instruction_is (code.Auth t) i n ls os ws m l e r s a c = type_below t a
  instruction_is (code.Unauth t) i n ls os ws m l e r s a c = type_below t a
  instruction_is (code.ArithOp op) i n ls os ws m l e r t a c = tt
  instruction_is (code.CompareOp op) i n ls os ws m l e r t a c = tt
  instruction_is (code.TextCompareOp op) i n ls os ws m l e r t a c = tt
  instruction_is code.Cat i n ls os ws m l e r t a c = tt
  instruction_is code.Len i n ls os ws m l e r t a c = tt
  instruction_is code.Not i n ls os ws m l e r t a c = tt
  instruction_is (code.VecFill j) i n ls os ws m l e r t a c = elim c [ ]
  instruction_is code.VecGet i n ls os ws m l e r t a c = elim c [ ]
  instruction_is code.VecPut i n ls os ws m l e r t a c = elim c [ ]

  -- code without a fault
  pub code_is : (xs : List code.Instruction) (place n : ℕ) (ks : List Known) → length ks ≡ length xs → place + length xs ≡ n → AreThere B xs → CodeIn P.types types xs → CodeIsClosed (length P.types) xs
      → first_fault B z xs place ks ≡ None → AreInstructions listed functions place n (code_written types place xs)
  code_is [] place n ks l s t a c e = tt
  code_is (x ∷ xs) place n [] l s t a c e = absurd (omega (arith, l))
  code_is (x ∷ xs) place n (k ∷ ks) l s t a c e = by k (behind B z x k ks) refl e (λ after m e. code_is xs (suc place) n after m (omega (arith, s)) t.1 a.1 c.1 e)
    where
      by : (k : Known) (o : Option (List Known)) → behind B z x k ks ≡ o → fault_or B z o place (first_fault B z xs (suc place)) ≡ None
          → ((after : List Known) → length after ≡ length xs → first_fault B z xs (suc place) after ≡ None → AreInstructions listed functions (suc place) n (code_written types (suc place) xs))
          → AreInstructions listed functions place n (code_written types place (x ∷ xs))
      by k None b e go = absurd (some_none e)
      by Unreached (Some after) b e go = absurd (none_some b)
      by Clashing (Some after) b e go = absurd (none_some b)
      by (Reached r) (Some after) b e go =
          option_and_then_some (λ ws. reach_all ws ks) (ways B z x r.locals r.operands) after b (λ ws w g.
          let low = ways_below ws ks after (length xs) (omega (arith, l)) g in (
            instruction_is x place n r.locals r.operands ws (length xs) (omega (arith, s)) w low t.0 a.0 c.0,
            go after (length_all ws ks after g ∙ omega (arith, l)) e,
          ))
