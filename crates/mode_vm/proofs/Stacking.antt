-- The parts of a stack, as a frame begins, goes on and ends.
use Rattle.std.proofs.Common.{◌≡◌, ℕ, ◌+◌, ◌-◌, ◌≤◌, List, ◌++◌, length, take, drop, sym, ap, ◌∙◌, arith, length-drop}
use Rattle.std.proofs.lemmas.List.{drop-drop, drop-take, drop_at, take-take, take_at, length-append, length-take-le}

-- of the operands held, the running frame has those from a place on
module _ {A : Type 0} (all items : List A) (base held count : ℕ) (within : base ≤ held) (room : held ≤ length all) (own : drop base (take held all) ≡ items) (enough : count ≤ length items) where
  -- it has so many
  many : length items ≡ held - base
  many = let l = length-drop base (take held all) in let h = length-take-le held all room in let o = ap length own in omega (arith, l, h, o)

  -- so many are held without the topmost
  kept : held - count ≡ base + (length items - count)
  kept = omega (arith, many, within, enough)

  -- they are the first of those from its place on
  own_is : items ≡ take (held - base) (drop base all)
  own_is = sym own ∙ ap (λ n. drop base (take n all)) (omega (arith, within)) ∙ drop-take base (held - base) all

  -- it keeps those below the topmost
  pub fewer_above : drop base (take (held - count) all) ≡ take (length items - count) items
  fewer_above =
      let few = length items - count in
      ap (λ n. drop base (take n all)) kept ∙ drop-take base few all ∙ sym (take-take few (held - base) (drop base all) (omega (arith, many))) ∙ ap (take few) (sym own_is)

  -- the topmost stand at the end of those held
  pub top_above : take (held - (held - count)) (drop (held - count) all) ≡ drop (length items - count) items
  top_above =
      let few = length items - count in
      let top : held - (held - count) ≡ count = omega (arith, many, enough) in
      let parts : held - base ≡ few + count = omega (arith, many, enough) in
      ap (λ n. take n (drop (held - count) all)) top ∙ ap (λ n. take count (drop n all)) kept ∙ ap (take count) (sym (drop-drop few base all)) ∙ sym (drop-take few count (drop base all))
      ∙ ap (λ n. drop few (take n (drop base all))) (sym parts) ∙ ap (drop few) (sym own_is)

-- all that a frame has comes to lie below a further one
module _ {A : Type 0} (below items all : List A) (base : ℕ) (begins : base ≡ length below) (is : all ≡ below ++ items) where
  pub all_within : base ≤ length all
  all_within = let l = ap length is ∙ length-append below items in omega (arith, begins, l)

  pub below_is : take base all ≡ below
  below_is = ap (take base) is ∙ take_at below items base (sym begins)

  pub above_is : drop base all ≡ items
  above_is = ap (drop base) is ∙ drop_at below items base (sym begins)
