-- Rows for how links end, and for links that are told: what each word takes, and what it refuses.
use Rattle.std.specs.Prelude.{◌≡◌, ℕ, Bool, true, false, [], ◌∷◌, map, Some, None, Ok, Err, refl}
use Rattle.std.proofs.Common.{inl, inr}
use Rattle.lam_outside.specs.Causes.{Rose}
use Rattle.lam_outside.specs.Links.{Linked}
use Rattle.wire_form.specs.declared.message.WriteStop.TheVariants as write
use Rattle.link_ends.specs.Ends.{is_fault}
use Rattle.link_ends.specs.EndCauses.{EndCause, LinkCause, ServingCause}
use Rattle.link_ends.specs.LinkStops.{LinkStopCause, link_stop_of}
use Rattle.link_ends.specs.MoreLinks.{AreMore, TakesBytes, bytes_on}
use Rattle.link_ends.specs.declared.end.ConnectionEnd.TheVariants as connection
use Rattle.link_ends.specs.declared.end.ServingEnd.TheVariants.{Served, Stopped}
use Rattle.link_ends.specs.declared.link_stop.LinkStop.TheVariants as link_stop

-- BYTES
-- a front of the bytes was taken, and what is behind it is left
pub takes : TakesBytes (1 ∷ 2 ∷ 3 ∷ []) (1 ∷ 2 ∷ []) (Some (3 ∷ []))
takes = (3 ∷ [], refl, refl)

pub takes_no_others : TakesBytes [] (1 ∷ []) (Some []) → ⊥
takes_no_others (rest, all, left) = let e : [] ≡ 1 ∷ rest = all in cc (e)

pub takes_none_untold : TakesBytes (1 ∷ []) (1 ∷ []) None → ⊥
takes_none_untold (rest, all, left) = let e : None ≡ Some rest = left in cc (e)

-- CAUSES
pub stops : (link_stop_of write.LinkFault ≡ link_stop.LinkFault) × (link_stop_of write.NoMemory ≡ link_stop.Stopped)
stops = (refl, refl)

pub faults : map is_fault (connection.Over ∷ connection.LinkFault ∷ connection.Stopped ∷ []) ≡ false ∷ true ∷ false ∷ []
faults = refl

-- the count rose at a link fault, and nowhere else
pub causes : (before now : ℕ) → Rose before now → LinkStopCause {T = Bool} before before (Ok true) × LinkStopCause {T = Bool} before now (Err link_stop.LinkFault)
    × LinkStopCause {T = Bool} before before (Err link_stop.Stopped)
causes before now rose = (refl, rose, refl)

pub stop_causes : (before now : ℕ) → (LinkStopCause {T = Bool} before now (Err link_stop.LinkFault) → Rose before now) × (LinkStopCause {T = Bool} before now (Err link_stop.Stopped) → now ≡ before)
stop_causes before now = ((λ c. c), (λ c. c))

-- and may have risen where a connection was stopped
pub end_causes : (before now : ℕ) → Rose before now
    → EndCause before before connection.Over × EndCause before now connection.LinkFault × EndCause before before connection.Stopped × EndCause before now connection.Stopped
end_causes before now rose = (refl, rose, inl refl, inr rose)

pub link_causes : (before now : ℕ) → (LinkCause before now (Ok true) → Rose before now) × (LinkCause before now (Ok false) → now ≡ before) × (LinkCause before now (Err link_stop.LinkFault) → now ≡ before)
link_causes before now = ((λ c. c), (λ c. c), (λ c. c))

pub lack_causes : (before now : ℕ) → Rose before now → LinkCause before before (Err link_stop.Stopped) × LinkCause before now (Err link_stop.Stopped)
lack_causes before now rose = (inl refl, inr rose)

-- a fault that is told is of a link or of an accept
pub fault_causes : (before now : ℕ) → Rose before now → ServingCause before now 0 0 (Served true) × ServingCause 0 0 before now (Served true)
fault_causes before now rose = (inl rose, inr rose)

pub serving_causes : (f f' a a' : ℕ) → (ServingCause f f' a a' (Served false) → (f' ≡ f) × (a' ≡ a)) × (ServingCause f f' a a' Stopped → a' ≡ a)
serving_causes f f' a a' = ((λ c. c), (λ c. c))

-- LINKS
-- two links, of which the second was read in part
abbrev read_whole : Linked
read_whole = record { port = 4711; given = 1 ∷ 2 ∷ []; left = []; sent = []; reads = [] }

abbrev read_in_part : Linked
read_in_part = record { port = 4711; given = 1 ∷ []; left = 2 ∷ []; sent = []; reads = [] }

pub all_bytes : map bytes_on (read_whole ∷ read_in_part ∷ []) ≡ (1 ∷ 2 ∷ []) ∷ (1 ∷ 2 ∷ []) ∷ []
all_bytes = refl

-- more links are told where those before them were, all to the port
pub more_links : AreMore 4711 (Some (read_whole ∷ [])) (read_whole ∷ read_in_part ∷ []) (read_in_part ∷ [])
more_links = record { before = read_whole ∷ []; told = refl; all = refl; at_port = (refl, tt) }

pub none_more_untold : AreMore 4711 None (read_whole ∷ []) (read_whole ∷ []) → ⊥
none_more_untold more = let told : None ≡ Some more.before = more.told in cc (told)
