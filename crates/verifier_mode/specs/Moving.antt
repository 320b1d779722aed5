-- A verifier goes on in steps.
use Rattle.std.specs.Prelude.{ℕ, List, Option, refl}
use Rattle.std.proofs.Common.{◌∙◌, subst}
use Rattle.ideal_meaning.specs.Following.{after_bytes}
use Rattle.reuse_buffer.specs.Kept.{Kept}
use Rattle.verifier_mode.specs.Takings.{HasCome, MovesOn}

abbrev pub moves_not : (limit : ℕ) (ring : Kept) (left : Option (List ℕ)) → MovesOn limit ring left limit ring left
moves_not limit ring left = record {
  within = refl;
  size = refl;
  come = λ bytes recent told holds. record { bytes = bytes; recent = recent; told = told; holds = holds; same = refl };
}

abbrev pub moves_on : (limit : ℕ) (ring : Kept) (left : Option (List ℕ)) (limit' : ℕ) (ring' : Kept) (left' : Option (List ℕ)) (limit'' : ℕ) (ring'' : Kept) (left'' : Option (List ℕ))
    → MovesOn limit ring left limit' ring' left' → MovesOn limit' ring' left' limit'' ring'' left'' → MovesOn limit ring left limit'' ring'' left''
moves_on limit ring left limit' ring' left' limit'' ring'' left'' h k = record {
  within = k.within ∙ h.within;
  size = k.size ∙ h.size;
  come = λ bytes recent told holds.
      let a = h.come bytes recent told holds in
      let b = subst (λ limit. HasCome limit ring'' left'' (after_bytes limit a.bytes ring'.size a.recent)) h.within (k.come a.bytes a.recent a.told a.holds) in
      record { bytes = b.bytes; recent = b.recent; told = b.told; holds = b.holds; same = b.same ∙ a.same };
}
