-- Arms that are laid one behind the other: where they begin and end.
use Rattle.std.proofs.Common.{◌≡◌, ℕ, suc, ◌+◌, ◌-◌, ◌≤◌, List, [], ◌∷◌, ◌++◌, length, map, take, slice_index_or, ◌<◌, refl, sym, ap, ap₂, ◌∙◌, arith, length-append, append_assoc}
use Rattle.core_terms.specs.Instructions.{Instruction, Jump}
use Rattle.core_terms.specs.GeneratedCode.{behind, jump_code, laid, places}
use Rattle.code_gen.proofs.Rows.{taken}

-- where the next arm would begin
abbrev pub end_of : List (List Instruction) → ℕ
end_of [] = 0
end_of (arm ∷ later) = length arm + 1 + end_of later

pub places_more : (start : ℕ) (xs : List (List Instruction)) (arm : List Instruction) → places start (xs ++ arm ∷ []) ≡ places start xs ++ (start + end_of xs) ∷ []
places_more start [] arm = let e : start ≡ start + 0 = omega arith in ap (λ n. n ∷ []) e
places_more start (x ∷ xs) arm =
    let e : start + length x + 1 + end_of xs ≡ start + (length x + 1 + end_of xs) = omega arith in
    ap (λ l. start ∷ l) (places_more (start + length x + 1) xs arm ∙ ap (λ n. places (start + length x + 1) xs ++ n ∷ []) e)

pub end_more : (xs : List (List Instruction)) (arm : List Instruction) → end_of (xs ++ arm ∷ []) ≡ end_of xs + (length arm + 1)
end_more [] arm = let e : length arm + 1 + 0 ≡ 0 + (length arm + 1) = omega arith in e
end_more (x ∷ xs) arm = let h = end_more xs arm in omega (arith, h)

pub length_laid : (xs : List (List Instruction)) → length (laid xs) ≡ end_of xs - 1
length_laid [] = refl
length_laid (arm ∷ []) = let l = length-append arm [] in omega (arith, l)
length_laid (arm ∷ (next ∷ later)) =
    let h = length_laid (next ∷ later) in
    let l = length-append arm (Jump (length (laid (next ∷ later))) ∷ laid (next ∷ later)) in
    omega (arith, h, l)

-- behind an arm stand the jump, where there are later ones, and they
behind_jump : (later : List (List Instruction)) → behind later (laid later) ≡ jump_code (length (behind later (laid later))) ++ laid later
behind_jump [] = refl
behind_jump (arm ∷ later) = refl

one_less : (later : List (List Instruction)) → length (behind later (laid later)) - 1 ≡ length (laid later)
one_less [] = refl
one_less (arm ∷ later) = let e : suc (length (laid (arm ∷ later))) - 1 ≡ length (laid (arm ∷ later)) = omega arith in e

-- an arm isn't longer than it and the later ones
pub arm_fits : (arm : List Instruction) (later : List (List Instruction)) → length arm ≤ length (laid (arm ∷ later))
arm_fits arm later = let l = length-append arm (behind later (laid later)) in omega (arith, l)

-- what is left behind an arm
pub left_behind : (arm : List Instruction) (later : List (List Instruction)) (left : ℕ) → left ≡ length (laid (arm ∷ later)) → left - length arm ≡ length (behind later (laid later))
left_behind arm later left h = let l = length-append arm (behind later (laid later)) in omega (arith, l, h)

pub left_later : (arm : List Instruction) (later : List (List Instruction)) (left : ℕ) → left ≡ length (laid (arm ∷ later)) → left - length arm - 1 ≡ length (laid later)
left_later arm later left h = ap (λ n. n - 1) (left_behind arm later left h) ∙ one_less later

-- one more arm was laid
pub one_laid : (start now new arm : List Instruction) (later : List (List Instruction)) (all : List Instruction) (left : ℕ)
    → now ++ laid (arm ∷ later) ≡ start ++ all → left ≡ length (laid (arm ∷ later)) → new ≡ (now ++ arm) ++ jump_code (left - length arm)
    → new ++ laid later ≡ start ++ all
one_laid start now new arm later all left so h is =
    ap (λ l. l ++ laid later) (is ∙ ap (λ n. (now ++ arm) ++ jump_code n) (left_behind arm later left h))
    ∙ append_assoc (now ++ arm) (jump_code (length (behind later (laid later)))) (laid later)
    ∙ ap (λ l. (now ++ arm) ++ l) (sym (behind_jump later))
    ∙ append_assoc now arm (behind later (laid later))
    ∙ so

-- one more arm has its place
pub one_placed : {A : Type 0} (g : A → List Instruction) (xs : List A) (i : ℕ) (d x : A) (now after : List ℕ) (end next count : ℕ) → i < length xs → slice_index_or xs i d ≡ x → length (g x) ≡ count
    → (now ≡ places 0 (map g (take i xs))) × (end ≡ end_of (map g (take i xs))) → after ≡ now ++ end ∷ [] → next ≡ end + (count + 1)
    → (after ≡ places 0 (map g (take (i + 1) xs))) × (next ≡ end_of (map g (take (i + 1) xs)))
one_placed g xs i d x now after end next count h at long so is step =
    let before = map g (take i xs) in
    let one = ap (λ x. before ++ g x ∷ []) (sym at) ∙ sym (taken g xs i d h) in
    let e : end ≡ 0 + end_of before = omega (arith, so.1) in
    let n : next ≡ end_of before + (length (g x) + 1) = omega (arith, so.1, step, long) in
    (is ∙ ap₂ (λ l n. l ++ n ∷ []) so.0 e ∙ sym (places_more 0 before (g x)) ∙ ap (places 0) one, n ∙ sym (end_more before (g x)) ∙ ap end_of one)
