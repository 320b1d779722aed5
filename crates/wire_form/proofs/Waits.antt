-- When a message is waited for: for read_body and read_whole.
use Rattle.std.proofs.Common.{◌≡◌, ◌∙◌, ◌<◌, ◌≤◌, ℕ, zero, suc, List, [], ◌∷◌, length, drop, Option, Some, inl, inr, refl, subst, arith}
use Rattle.std.proofs.lemmas.Grind.{common_steps}
use Rattle.lam_outside.specs.Moments.{Moment}
use Rattle.lam_outside.specs.LinkSteps.{AtEachRead, WaitsWithin}
use Rattle.lam_outside.proofs.Waiting.{reads_on, reads_weaken}
use Rattle.session_meaning.specs.Messages.{message_limit}
use Rattle.wire_form.specs.Incoming.{TookUnfinished, length_field}
use Rattle.wire_form.specs.Waits.{WaitsInside}
use Rattle.wire_form.proofs.Coming.{body_unfinished}

field_unfinished : (bytes : List ℕ) (taken : ℕ) (left : Option (List ℕ)) → taken < 4 → left ≡ Some (drop taken bytes) → TookUnfinished bytes left
field_unfinished bytes zero left few is = record { taken = 0; left = is; unfinished = inl refl }
field_unfinished [] (suc n) left few is = record { taken = suc n; left = is; unfinished = inl refl }
field_unfinished (b ∷ bytes) (suc n) left few is = record {
  taken = suc n;
  left = is;
  unfinished = inr (grind (arith, common_steps), inl (grind (arith, common_steps)));
}

-- as its length field is read, and as its body is
pub field_waits : (bytes : List ℕ) (sent : Option (List ℕ)) (reads reads' : Option (List Moment)) → AtEachRead (WaitsWithin 4 bytes sent) reads reads' → AtEachRead (WaitsInside bytes sent) reads reads'
field_waits bytes sent reads reads' waits =
    reads_weaken _ _ (λ m stood. (stood.0, field_unfinished bytes stood.1.0 m.left stood.1.1 stood.1.2)) reads reads' waits

pub whole_waits : (bytes : List ℕ) (len : ℕ) (sent sent1 : Option (List ℕ)) (reads reads1 reads2 : Option (List Moment)) → 4 ≤ length bytes → len ≡ length_field bytes → len ≤ message_limit
    → sent1 ≡ sent → AtEachRead (WaitsWithin 4 bytes sent) reads reads1 → AtEachRead (WaitsWithin len (drop 4 bytes) sent1) reads1 reads2
    → AtEachRead (WaitsInside bytes sent) reads reads2
whole_waits bytes len sent sent1 reads reads1 reads2 four is fits same first more =
    let Q = WaitsInside bytes sent in
    let later : AtEachRead Q reads1 reads2 = reads_weaken _ _ (λ m stood. (
      stood.0 ∙ same,
      body_unfinished bytes m.left four (subst (λ k. k ≤ message_limit) is fits) (stood.1.0, subst (λ k. stood.1.0 < k) is stood.1.1, stood.1.2),
    )) reads1 reads2 more in
    reads_on Q reads reads1 reads2 (field_waits bytes sent reads reads1 first) later
