-- A verifier goes on piece by piece.
use Rattle.std.proofs.Common.{◌≡◌, ℕ, zero, suc, ◌+◌, Bool, true, false, List, bytes_eq, if◌then◌else◌, refl, sym, ap, ◌∙◌, subst, arith}
use Rattle.core_terms.specs.Types.{Ty}
use Rattle.core_terms.specs.Formats.{Hash}
use Rattle.core_terms.specs.Projection.{digest_at, read_at}
use Rattle.core_terms.specs.Reading.{Read, Good, BadAt}
use Rattle.core_terms.specs.Terms.{Program}
use Rattle.core_terms.specs.Values.{Value, Values}
use Rattle.ideal_meaning.specs.Checked.{Cause, Taking, WrongPiece, checked, checked_mode, digest_in, opened, take_piece}
use Rattle.ideal_meaning.specs.Frames.{NoMore, Offer, Offers}
use Rattle.ideal_meaning.specs.Run.{Refuses, state_of, with_fuel}
use Rattle.ideal_meaning.proofs.CodeStepping.{call_moves}

-- behind j pieces a verifier at `a` is at `b`
abbrev pub ReachesIn : ℕ → Taking → Taking → Type 0
ReachesIn zero a b = a ≡ b
ReachesIn (suc j) a b = (bytes : List ℕ) × (left : ℕ) × (more : Offer) × (a.more ≡ Offers bytes left more) × ReachesIn j (record { place = suc a.place; left = left; more = more }) b

abbrev pub Reaches : Taking → Taking → Type 0
Reaches a b = (j : ℕ) × ReachesIn j a b

reaches_more : (j : ℕ) (a b c : Taking) → ReachesIn j a b → Reaches b c → Reaches a c
reaches_more zero a b c h k = subst (λ b. Reaches b c) (sym h) k
reaches_more (suc j) a b c h k =
    let later = reaches_more j _ b c h.4 k in
    (suc later.0, (h.0, h.1, h.2, h.3, later.1))

pub place_behind : (j : ℕ) (a b : Taking) → ReachesIn j a b → b.place ≡ a.place + j
place_behind zero a b h = omega (arith, ap (λ (w : Taking). w.place) (sym h))
place_behind (suc j) a b h = omega (arith, place_behind j _ b h.4)

-- behind so many pieces it is at one place
pub reaches_one : (j : ℕ) (a b c : Taking) → ReachesIn j a b → ReachesIn j a c → b ≡ c
reaches_one zero a b c h k = sym h ∙ k
reaches_one (suc j) a b c h k =
    let same = sym h.3 ∙ k.3 in
    let left : k.1 ≡ h.1 = cc in
    let more : k.2 ≡ h.2 = cc in
    let moved : ReachesIn j (record { place = suc a.place; left = h.1; more = h.2 }) c =
    subst (λ l. ReachesIn j (record { place = suc a.place; left = l; more = h.2 }) c) left (subst (λ m. ReachesIn j (record { place = suc a.place; left = k.1; more = m }) c) more k.4) in
    reaches_one j _ b c h.4 moved

module _ (hash : Hash) (P : Program) where
  -- where the next piece is opened or refused
  takes : (k : ℕ) (t : Ty) (want : List ℕ) (place left : ℕ) (more : Offer)
      → Reaches (record { place = place; left = left; more = more }) (state_of (with_fuel k (take_piece hash P t want place more (record { place = place; left = left; more = more }))))
  takes k t want place left (NoMore e) = (0, refl)
  takes k t want place left (Offers bytes l more) = by (bytes_eq (digest_at hash P t bytes) want)
    where
      behind : Taking
      behind = record { place = suc place; left = l; more = more }

      here : Taking
      here = record { place = place; left = left; more = Offers bytes l more }

      read : (r : Read Value) → Reaches here (state_of (with_fuel k (opened hash P r place behind)))
      read (Good v rest end) = (1, (bytes, l, more, refl, refl))
      read (BadAt offset) = (1, (bytes, l, more, refl, refl))

      by : (b : Bool) → Reaches here (state_of (with_fuel k (if b then opened hash P (read_at P t bytes) place behind else Refuses (WrongPiece place want (digest_at hash P t bytes)) here)))
      by true = read (read_at P t bytes)
      by false = (0, refl)

  -- and so where a checked run ends
  pub run_reaches : (f : ℕ) (args : Values) (k : ℕ) (began : Taking) → Reaches began (state_of (checked hash P f args k began))
  run_reaches f args k began =
      call_moves Cause Taking (checked_mode hash P) Reaches (λ w. (0, refl)) (λ a b c h j. reaches_more h.0 a b c h.1 j)
      (λ k t v w. takes k t (digest_in v) w.place w.left w.more) P f args k began
