-- The rows of `specs/RingRows` hold.
use Rattle.std.proofs.Common.{◌≡◌, ◌≤◌, ◌<◌, ◌+◌, ℕ, suc, [], ◌∷◌, length, refl, ap, ◌∙◌, arith, lit<}
use Rattle.std.proofs.lemmas.List.{length-append}
use Rattle.ideal_meaning.specs.Frames.{NoByte, NoMore, Offers, UseIs, New, Use}
use Rattle.ideal_meaning.specs.Ring.{IsKthLast, OffersFrames}
use Rattle.ideal_meaning.specs.RingRows.{a, b}
use Rattle.definition_rows.specs.RingRows.{RingRows}

not_the_last : IsKthLast 0 (a ∷ b ∷ []) a → ⊥
not_the_last ([], later, is, count) = let k : length (b ∷ []) ≡ length later = cc is in absurd (omega (arith, k, count))
not_the_last (x ∷ [], later, is, count) = let k : length b ≡ length a = cc is in absurd (omega (arith, k))
not_the_last (x ∷ y ∷ earlier, later, is, count) =
    let k : 2 ≡ suc (suc (length earlier + suc (length later))) = ap length is ∙ ap (λ n. suc (suc n)) (length-append earlier (a ∷ later)) in
    absurd (omega (arith, k))

none_last : (j : ℕ) → IsKthLast j [] a → ⊥
none_last j ([], later, is, count) = absurd (cc)
none_last j (x ∷ earlier, later, is, count) = absurd (cc)

no_new : OffersFrames 1 [] (New a ∷ []) (NoMore NoByte) → ⊥
no_new (left, more, is, behind) = absurd (cc)

no_use : OffersFrames 1 (a ∷ []) (Use 0 ∷ []) (NoMore NoByte) → ⊥
no_use (within, beyond) =
    let used = within (lit< tt) in
    let e : NoMore NoByte ≡ Offers used.0 used.1 used.2 = used.4 in
    absurd (cc)

not_used : OffersFrames 1 [] (New a ∷ Use 0 ∷ []) (Offers a 3 (NoMore (UseIs 0 0))) → ⊥
not_used (left, more, is, behind) =
    let used = behind.0 (lit< tt) in
    let e : more ≡ Offers used.0 used.1 used.2 = used.4 in
    absurd (cc)

pub ring_rows : RingRows
ring_rows = record {
  last_is_0 = (a ∷ [], [], refl, refl);
  first_of_two_is_1 = ([], b ∷ [], refl, refl);
  first_of_two_is_not_0 = not_the_last;
  can_be_written = (omega arith, (lit< tt, tt));
  no_piece_beyond_the_limit = λ h. let k : 2 ≤ 1 = h.0 in absurd (omega (arith, k));
  no_later_piece_beyond_the_limit = λ h. let k : 2 ≤ 1 = h.1.1.0 in absurd (omega (arith, k));
  no_number_of_three_bytes = λ h. let k : 65536 < 65536 = h.0 in absurd (omega (arith, k));
  no_frame_can_be_written = tt;
  new_piece_and_used_again = (3, Offers a 0 (NoMore NoByte), refl, ((λ below. (a, 0, NoMore NoByte, ([], [], refl, refl), refl, tt)), (λ beyond. let k : 1 ≤ 0 = beyond in absurd (omega (arith, k)))));
  another_piece_is_not_used = not_used;
  new_piece_is_offered = no_new;
  used_piece_is_offered = no_use;
  use_of_none_is_refused = λ h. let e : NoMore NoByte ≡ NoMore (UseIs 0 0) = h.1 (omega arith) in absurd (cc);
  use_beyond_the_ring_is_refused = λ h. let e : NoMore NoByte ≡ NoMore (UseIs 1 1) = h.1 (omega arith) in absurd (cc);
  least_number_is_its_frame = (lit< tt, ([], [], refl, refl), (λ j below. absurd (omega (arith, below))));
  no_new_frame_of_a_kept_piece = λ h. h.1 0 (lit< tt) ([], [], refl, refl);
  no_greater_number = λ h. h.2 0 (lit< tt) (a ∷ [], [], refl, refl);
  no_number_beyond_the_ring = λ h. let k : 1 < 1 = h.0 in absurd (omega (arith, k));
  no_number_of_another = λ h. not_the_last h.1;
  no_new_frame_of_another = λ h. let k : 1 ≡ 2 = ap length h.0 in absurd (omega (arith, k));
  new_piece_of_a_frame = (refl, refl);
  one_frame_of_one_piece = ((refl, (λ j below kth. none_last j kth)), ((lit< tt, ([], [], refl, refl), (λ j below. absurd (omega (arith, below)))), tt));
  no_piece_without_a_frame = λ h. h;
  no_frame_without_a_piece = λ h. h;
}
