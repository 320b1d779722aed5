-- The links that a net made, and the bytes that come on one.
use Rattle.std.specs.Prelude.{◌≡◌, ℕ, List, [], ◌∷◌, ◌++◌, Option, Some}
use Rattle.std.specs.List.{AllByRecursion}
use Rattle.lam_outside.specs.Links.{Linked}

-- the bytes that come on a link: those that were read from it, and those that are left
abbrev pub bytes_on : Linked → List ℕ
bytes_on link = link.given ++ link.left

-- of the bytes that come these were taken, and those behind them are left
abbrev pub TakesBytes : (bytes taken : List ℕ) (left' : Option (List ℕ)) → Type 0
TakesBytes bytes taken left' = (rest : List ℕ) × (bytes ≡ taken ++ rest) × (left' ≡ Some rest)

-- Where the links are told, there are some more, all to this port.
pub record AreMore (port : ℕ) (links : Option (List Linked)) (after : List Linked) (more : List Linked) : Type 0 where
  pub before : List Linked
  pub told : links ≡ Some before
  pub all : after ≡ before ++ more
  pub at_port : AllByRecursion (λ (link : Linked). link.port ≡ port) more

-- a list without its last item: of what came on a link, all but that which may be answered in part
abbrev pub but_last : {A : Type 0} → List A → List A
but_last [] = []
but_last (a ∷ []) = []
but_last (a ∷ next ∷ more) = a ∷ but_last (next ∷ more)
