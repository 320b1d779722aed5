-- What is told of faults behind links, and behind one more: for what serves links one after another.
use Rattle.std.proofs.Common.{◌≡◌, ℕ, Bool, true, false, ◌||◌, Ok, Err, refl, subst, ◌∙◌, arith}
use Rattle.lam_outside.specs.Causes.{Rose}
use Rattle.link_ends.specs.EndCauses.{LinkCause}
use Rattle.link_ends.specs.LinkStops.{LinkStopCause}
use Rattle.link_ends.specs.declared.link_stop.LinkStop.{LinkStop}
use Rattle.link_ends.specs.declared.link_stop.LinkStop.TheVariants as link_stop

-- a count that rose, or that stayed
abbrev pub IsFaultTold : (link_fault : Bool) → (before now : ℕ) → Type 0
IsFaultTold true before now = Rose before now
IsFaultTold false before now = now ≡ before

pub fault_told : (link_fault fault : Bool) (before between now : ℕ) → IsFaultTold link_fault before between → LinkCause between now (Ok fault)
    → IsFaultTold (link_fault || fault) before now
fault_told true true before between now first next = omega (arith, first, next)
fault_told true false before between now first next = omega (arith, first, next)
fault_told false true before between now first next = omega (arith, first, next)
fault_told false false before between now first next = next ∙ first

pub or_none : (b : Bool) → b ≡ (b || false)
or_none true = refl
or_none false = refl

pub or_one : (b : Bool) → true ≡ (b || true)
or_one true = refl
or_one false = refl

pub or_others : (a b c : Bool) → ((a || b) || c) ≡ (a || (b || c))
or_others true b c = refl
or_others false b c = refl

pub rose_at : (T : Type 0) (before now : ℕ) (stop : LinkStop) → stop ≡ link_stop.LinkFault → LinkStopCause {T = T} before now (Err stop) → Rose before now
rose_at T before now stop is cause = let Of : LinkStop → Type 0 = λ stop. LinkStopCause {T = T} before now (Err stop) in subst Of is cause
