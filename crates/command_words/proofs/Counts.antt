-- clap's verdict on the texts of a command, which don't begin with `-`: it takes them exactly where they are as many as it has arguments.
use Rattle.std.proofs.Common.{◌≡◌, ◌≢◌, ◌⊎◌, inl, inr, ◌<◌, ◌≤◌, ◌==◌, ◌&&◌, ◌||◌, not, ℕ, eq-eqb, ne_eqb, eqb-true, le-leb, leb-true, le-ltb, ltb-false, ltb-true, lt-ltb, append-nil, List, [], ◌∷◌, ◌++◌, length, Some, Bool, true, false, refl, sym, ◌∙◌, ap, ap₂, codes, fold, nat_le, nat_lt, subst, arith, append_assoc}
use Rattle.clap.specs.Words.{Kinds, Text}
use Rattle.clap.specs.Walk.{Held, Walk, finished, nothing_held, settled, walk, walk_from, walked}
use Rattle.clap.specs.Simple.{Shape}
use Rattle.clap.specs.Kinds.{or_else, range_kinds, values_kinds}
use Rattle.clap.specs.Lexer.{usize_max}
use Rattle.clap.specs.Faults.{check_fault, defaults_fault, level_fault, settle_fault, turn_fault, walk_fault}
use Rattle.clap.specs.declared.error.kind.ErrorKind.{ErrorKind}
use Rattle.clap.specs.declared.error.kind.ErrorKind.TheVariants.{MissingRequiredArgument, UnknownArgument}
use Rattle.clap.specs.declared.builder.value_parser.ValueParser.TheVariants as vp
use Rattle.clap.proofs.OnLiterals.{clap_on_literals}
use Rattle.command_words.proofs.Leaves.{leaf}
use Rattle.command_words.proofs.PlainWords.{ArePlain, IsPlainWord, at, turn_plain, walked_plain}

-- the texts are from `least` to `most`
abbrev pub fits : (least most : ℕ) → List Text → Bool
fits least most ws = nat_le least (length ws) && nat_le (length ws) most

-- what clap refuses of the texts of a command of this name, with n names of arguments
abbrev pub refused : Text → (least most n : ℕ) → List Text → Kinds
refused name least most n ws = level_fault (leaf name least most n) [] nothing_held ws false []

-- they are so many, and taken; or they are not, and refused
abbrev pub IsCounted : Text → (least most n : ℕ) → List Text → Type 0
IsCounted name least most n ws = ((fits least most ws ≡ true) × (refused name least most n ws ≡ [])) ⊎ ((fits least most ws ≡ false) × (refused name least most n ws ≢ []))

not_none : (k : ErrorKind) (ks kinds : Kinds) → kinds ≡ k ∷ ks → kinds ≡ [] → ⊥
not_none k ks kinds is none = absurd (cc)

or_nothing : (k : Kinds) → or_else k [] ≡ k
or_nothing [] = refl
or_nothing (x ∷ xs) = refl

all_accepted : (ws : List Text) → values_kinds false vp.String ws ≡ []
all_accepted [] = refl
all_accepted (w ∷ ws) = all_accepted ws

abbrev reading : List Text → Held
reading seen = record { rows = []; pending = Some (codes "ARGUMENTS", seen); skip = 0 }

-- what is refused behind the walk over the words
abbrev behind : Shape → Held → Kinds
behind s h = or_else (settle_fault s.rules s.args_override_self h) (or_else (defaults_fault (settled s.rules h).rows s.rules) (check_fault s (finished s.rules h) false))

abbrev level : Shape → Kinds → Held → Kinds
level s f h = or_else f (behind s h)

-- the count is in the range
pub both_parts : (a b : Bool) → (a && b) ≡ true → (a ≡ true) × (b ≡ true)
both_parts true b e = (refl, e)
both_parts false b e = absurd (cc)

no_part : (a b : Bool) → a ≡ true → b ≡ true → (a && b) ≡ false → ⊥
no_part true true p q e = absurd (cc)
no_part true false p q e = absurd (cc)
no_part false b p q e = absurd (cc)

pub not_within : (a b : ℕ) → b < a → nat_le a b ≡ false
not_within a b above = by (nat_le a b) refl
  where
    by : (t : Bool) → nat_le a b ≡ t → t ≡ false
    by true is = let within = leb-true a b is in absurd (omega (arith, above, within))
    by false is = refl

pub no_negation : (t : Bool) → not t ≡ true → t ≡ false
no_negation true e = sym e
no_negation false e = refl

module _ (least most k : ℕ) (positive : nat_lt 0 least ≡ true) (filled : (k == 0) ≡ false) where
  in_range : (nat_le least k && nat_le k most) ≡ true → range_kinds least most k ≡ []
  in_range inside = by (least == most) refl
    where
      from : least ≤ k
      from = leb-true least k (both_parts (nat_le least k) (nat_le k most) inside).0

      to : k ≤ most
      to = leb-true k most (both_parts (nat_le least k) (nat_le k most) inside).1

      by : (b : Bool) → (least == most) ≡ b → range_kinds least most k ≡ []
      by true is = let same : least ≡ most = eqb-true least most is in rw (positive, filled, is, eq-eqb least k (omega (arith, same, from, to))) refl
      by false is = rw (positive, filled, is, le-ltb k least from, le-ltb most k to) refl

  out_of_range : (nat_le least k && nat_le k most) ≡ false → range_kinds least most k ≢ []
  out_of_range outside none = by (least == most) refl
    where
      inside : least ≤ k → k ≤ most → ⊥
      inside from to = no_part (nat_le least k) (nat_le k most) (le-leb least k from) (le-leb k most to) outside

      exact : (b : Bool) → (least == most) ≡ true → (least == k) ≡ b → ⊥
      exact true is other = let same : least ≡ most = eqb-true least most is in let count : least ≡ k = eqb-true least k other in inside (omega (arith, count)) (omega (arith, same, count))
      exact false is other = absurd (cc (rw (positive, filled, is, other) at none))

      above : (b : Bool) → (least == most) ≡ false → nat_lt k least ≡ false → nat_lt most k ≡ b → ⊥
      above true is low high = absurd (cc (rw (positive, filled, is, low, high) at none))
      above false is low high = inside (ltb-false k least low) (ltb-false most k high)

      below : (b : Bool) → (least == most) ≡ false → nat_lt k least ≡ b → ⊥
      below true is low = absurd (cc (rw (positive, filled, is, low) at none))
      below false is low = above (nat_lt most k) is low refl

      by : (b : Bool) → (least == most) ≡ b → ⊥
      by true is = exact (least == k) is refl
      by false is = below (nat_lt k least) is refl

-- a command that may take more than one text
module _ (name : Text) (least most n : ℕ) (b : Bool) (exact : (least == most) ≡ b) (several : (not b || nat_lt 1 least) ≡ true)
    (positive : nat_lt 0 least ≡ true) (some : (least == 0) ≡ false) (bounded : (most == usize_max) ≡ false) where
  abbrev s : Shape
  s = leaf name least most n

  first : (w : Text) → IsPlainWord w → walked s.rules [] (walk_from nothing_held) w ≡ at (reading (w ∷ [])) true 1
  first w p = walked_plain s.rules false 1 w nothing_held p ∙ rw (some, bounded, exact, several) refl

  next : (seen : List Text) (w : Text) → IsPlainWord w → walked s.rules [] (at (reading seen) true 1) w ≡ at (reading (seen ++ w ∷ [])) true 1
  next seen w p = walked_plain s.rules true 1 w (reading seen) p ∙ rw (some, bounded, exact, several) refl

  held : (seen ws : List Text) → ArePlain ws → fold (walked s.rules []) (at (reading seen) true 1) ws ≡ at (reading (seen ++ ws)) true 1
  held seen [] p = ap (λ xs. at (reading xs) true 1) (sym (append-nil seen))
  held seen (w ∷ ws) p =
      ap (λ (v : Walk). fold (walked s.rules []) v ws) (next seen w p.0) ∙ held (seen ++ w ∷ []) ws p.1
      ∙ ap (λ xs. at (reading xs) true 1) (append_assoc seen (w ∷ []) ws)

  more : (seen : List Text) (w : Text) → IsPlainWord w → turn_fault s [] (at (reading seen) true 1) w ≡ []
  more seen w p = turn_plain s true 1 w (reading seen) p ∙ rw (some, bounded, exact, several) refl

  passes : (seen ws : List Text) → ArePlain ws → walk_fault s [] (at (reading seen) true 1) ws ≡ []
  unfolding walk_fault
  passes seen [] p = refl
  passes seen (w ∷ ws) p =
      let rest : walk_fault s [] (walked s.rules [] (at (reading seen) true 1) w) ws ≡ [] =
      ap (λ (v : Walk). walk_fault s [] v ws) (next seen w p.0) ∙ passes (seen ++ w ∷ []) ws p.1 in
      ap₂ or_else (more seen w p.0) rest

  turns : (w : Text) → IsPlainWord w → turn_fault s [] (walk_from nothing_held) w ≡ []
  turns w p = turn_plain s false 1 w nothing_held p

  -- at least one text
  whole : (w : Text) (ws : List Text) → IsPlainWord w → ArePlain ws → refused name least most n (w ∷ ws) ≡ behind s (reading (w ∷ ws))
  unfolding walk_fault
  whole w ws p ps =
      let rest : walk_fault s [] (walked s.rules [] (walk_from nothing_held) w) ws ≡ [] = ap (λ (v : Walk). walk_fault s [] v ws) (first w p) ∙ passes (w ∷ []) ws ps in
      let faults : walk_fault s [] (walk_from nothing_held) (w ∷ ws) ≡ [] = ap₂ or_else (turns w p) rest in
      let ends : (walk s.rules [] nothing_held (w ∷ ws)).held ≡ reading (w ∷ ws) =
      ap (λ (v : Walk). v.held) (ap (λ (v : Walk). fold (walked s.rules []) v ws) (first w p) ∙ held (w ∷ []) ws ps) in
      ap₂ (level s) faults ends

  filled_up : (w : Text) (ws : List Text) → (length (w ∷ ws) == 0) ≡ false
  filled_up w ws = ne_eqb (length (w ∷ ws)) 0 (λ none. omega arith)

  -- what the range says of the count
  ranged : (w : Text) (ws : List Text) → behind s (reading (w ∷ ws)) ≡ range_kinds least most (length (w ∷ ws))
  unfolding clap_on_literals
  ranged w ws =
      let k = range_kinds least most (length (w ∷ ws)) in
      rw (some, bounded, all_accepted ws) (ap (λ (k : Kinds). or_else k []) (or_nothing k) ∙ or_nothing k)

  lacking : refused name least most n [] ≡ MissingRequiredArgument ∷ []
  unfolding clap_on_literals
  lacking = rw (some, bounded) refl

  none_given : refused name least most n [] ≢ []
  none_given none = not_none MissingRequiredArgument [] (refused name least most n []) lacking none

  no_texts : fits least most [] ≡ false
  no_texts = rw (not_within least 0 (ltb-true 0 least positive)) refl

  pub several_counted : (ws : List Text) → ArePlain ws → IsCounted name least most n ws
  several_counted [] p = inr (no_texts, none_given)
  several_counted (w ∷ ws) p = by (fits least most (w ∷ ws)) refl
    where
      by : (t : Bool) → fits least most (w ∷ ws) ≡ t → IsCounted name least most n (w ∷ ws)
      by true inside = inl (inside, whole w ws p.0 p.1 ∙ ranged w ws ∙ in_range least most (length (w ∷ ws)) positive (filled_up w ws) inside)
      by false outside =
          inr (outside, λ none. out_of_range least most (length (w ∷ ws)) positive (filled_up w ws) outside (sym (ranged w ws) ∙ (sym (whole w ws p.0 p.1) ∙ none)))

-- a command that takes one text
module _ (name : Text) (n : ℕ) where
  abbrev single : Shape
  single = leaf name 1 1 n

  one : (w : Text) → IsPlainWord w → walked single.rules [] (walk_from nothing_held) w ≡ at (reading (w ∷ [])) false 2
  one w p = walked_plain single.rules false 1 w nothing_held p

  one_turns : (w : Text) → IsPlainWord w → turn_fault single [] (walk_from nothing_held) w ≡ []
  one_turns w p = turn_plain single false 1 w nothing_held p

  one_ends : (w : Text) → behind single (reading (w ∷ [])) ≡ []
  unfolding clap_on_literals
  one_ends w = refl

  one_taken : (w : Text) → IsPlainWord w → refused name 1 1 n (w ∷ []) ≡ []
  unfolding clap_on_literals
  one_taken w p =
      let faults : walk_fault single [] (walk_from nothing_held) (w ∷ []) ≡ [] = ap (λ (k : Kinds). or_else k []) (one_turns w p) in
      let held : (walk single.rules [] nothing_held (w ∷ [])).held ≡ reading (w ∷ []) = ap (λ (v : Walk). v.held) (one w p) in
      ap₂ (level single) faults held ∙ one_ends w

  -- a second text finds no argument
  strays : (w v : Text) (ws : List Text) → IsPlainWord w → IsPlainWord v → refused name 1 1 n (w ∷ v ∷ ws) ≢ []
  unfolding walk_fault
  strays w v ws p q none = cc (sym refuses ∙ none)
    where
      second : turn_fault single [] (at (reading (w ∷ [])) false 2) v ≡ UnknownArgument ∷ []
      second = turn_plain single false 2 v (reading (w ∷ [])) q ∙ refl

      rest : Kinds
      rest = walk_fault single [] (walked single.rules [] (walked single.rules [] (walk_from nothing_held) w) v) ws

      refuses : refused name 1 1 n (w ∷ v ∷ ws) ≡ UnknownArgument ∷ []
      refuses =
          ap₂ (λ (j k : Kinds). or_else (or_else j (or_else k rest)) (behind single (walk single.rules [] nothing_held (w ∷ v ∷ ws)).held)) (one_turns w p)
          (ap (λ (u : Walk). turn_fault single [] u v) (one w p) ∙ second)

  no_text : refused name 1 1 n [] ≢ []
  unfolding clap_on_literals
  no_text h = cc h

  too_many : (v w : Text) (ws : List Text) → fits 1 1 (v ∷ w ∷ ws) ≡ false
  too_many v w ws = ap₂ (λ a b. a && b) (le-leb 1 (length (v ∷ w ∷ ws)) (omega arith)) (not_within (length (v ∷ w ∷ ws)) 1 (omega arith))

  pub one_counted : (ws : List Text) → ArePlain ws → IsCounted name 1 1 n ws
  one_counted [] p = inr (refl, no_text)
  one_counted (w ∷ []) p = inl (refl, one_taken w p.0)
  one_counted (w ∷ v ∷ ws) p = inr (too_many w v ws, strays w v ws p.0 p.1.0)

-- by the range, from at least one on
pub counted : (name : Text) (least most n : ℕ) → 1 ≤ least → (most == usize_max) ≡ false → (ws : List Text) → ArePlain ws → IsCounted name least most n ws
counted name least most n some bounded ws p = by (least == most) refl (nat_lt 1 least) refl
  where
    positive : nat_lt 0 least ≡ true
    positive = lt-ltb 0 least (omega (arith, some))

    nonzero : (least == 0) ≡ false
    nonzero = ne_eqb least 0 (λ none. omega (arith, some, none))

    by : (b : Bool) → (least == most) ≡ b → (c : Bool) → nat_lt 1 least ≡ c → IsCounted name least most n ws
    by false exact c several = several_counted name least most n false exact refl positive nonzero bounded ws p
    by true exact true several = several_counted name least most n true exact several positive nonzero bounded ws p
    by true exact false several =
        let same : least ≡ most = eqb-true least most exact in
        let few : least ≤ 1 = ltb-false 1 least several in
        let one : 1 ≡ least = omega (arith, some, few) in
        subst (λ (k : ℕ). IsCounted name least k n ws) same (subst (λ (k : ℕ). IsCounted name k k n ws) one (one_counted name n ws p))
