-- Links on which a mirror answers, one after another.
use Rattle.std.specs.Prelude.{◌≡◌, ◌⊎◌, ℕ, ◌<◌, ◌≤◌, Bool, true, false, ◌||◌, List, [], ◌∷◌, ◌++◌, length, Option, Some}
use Rattle.std.specs.List.{AllByRecursion}
use Rattle.lam_outside.specs.Causes.{Rose}
use Rattle.lam_outside.specs.Links.{Linked}
use Rattle.ideal_meaning.specs.Fetched.{Got}
use Rattle.link_ends.specs.Ends.{is_fault}
use Rattle.link_ends.specs.MoreLinks.{AreMore, bytes_on}
use Rattle.link_ends.specs.declared.end.ConnectionEnd.{ConnectionEnd}
use Rattle.link_ends.specs.declared.end.ConnectionEnd.TheVariants as connection
use Rattle.link_ends.specs.declared.end.ServingEnd.{ServingEnd}
use Rattle.link_ends.specs.declared.end.ServingEnd.TheVariants.{Served, Stopped}
use Rattle.mirror_links.specs.Answered.{IsAnswered}
use Rattle.mirror_links.specs.Prompt.{IsPrompt}

module _ (get : List ℕ → Got) where
  -- On this link a mirror answered, and the connection ended so; and at each read all that is answered to what is asked for in the bytes that
  -- were taken by then had been sent, and no more.
  pub record IsAnsweredOn (link : Linked) (end : ConnectionEnd) : Type 0 where
    pub answered : IsAnswered get (bytes_on link) link.given link.sent end
    pub prompt : AllByRecursion (IsPrompt get (bytes_on link) (Some [])) link.reads

  -- the same without want of memory, and whether the connection ended in a link fault
  pub record IsAnsweredWhole (link : Linked) (faulted : Bool) : Type 0 where
    pub end : ConnectionEnd
    pub answered : IsAnsweredOn link end
    pub unstopped : end ≡ connection.Stopped → ⊥
    pub fault : faulted ≡ is_fault end

  -- so it is on each of these links; whether one of their connections ended in a link fault
  abbrev pub AreAnswered : List Linked → (faulted : Bool) → Type 0
  AreAnswered [] faulted = faulted ≡ false
  AreAnswered (link ∷ links) faulted = (first others : Bool) × IsAnsweredWhole link first × AreAnswered links others × (faulted ≡ first || others)

  -- the same of these links, but that answering was stopped on the last one
  pub record AreAnsweredInPart (links : List Linked) : Type 0 where
    pub before : List Linked
    pub last : Linked
    pub all : links ≡ before ++ last ∷ []
    pub faulted : Bool
    pub answered : AreAnswered before faulted
    pub broken : IsAnsweredOn last connection.Stopped

  -- On a net that listens to a port, where the links are told: there are so many more, and a mirror answered on them.
  pub record AreMoreAnswered (port : ℕ) (links : Option (List Linked)) (after : List Linked) (faulted : Bool) (count : ℕ) : Type 0 where
    pub more : List Linked
    pub are : AreMore port links after more
    pub number : length more ≡ count
    pub answered : AreAnswered more faulted

  -- there are at most so many more, and answering was stopped on the last one
  pub record AreMoreInPart (port : ℕ) (links : Option (List Linked)) (after : List Linked) (most : ℕ) : Type 0 where
    pub more : List Linked
    pub are : AreMore port links after more
    pub number : length more ≤ most
    pub answered : AreAnsweredInPart more

  -- As many links were made as there were to be, and a fault is told where one of their connections ended in one; or fewer, since an accept
  -- failed, which is told as a fault.
  pub record AreCounted (port : ℕ) (links : Option (List Linked)) (after : List Linked) (connections : ℕ) (link_fault : Bool) (accepts accepts' : ℕ) : Type 0 where
    pub faulted : Bool
    pub count : ℕ
    pub answered : AreMoreAnswered port links after faulted count
    pub number : ((count ≡ connections) × (link_fault ≡ faulted)) ⊎ ((count < connections) × (link_fault ≡ true) × Rose accepts accepts')

  -- Where the links behind the serving are told, those before it are, and there are so many more.
  abbrev pub AnswersLinks : (port : ℕ) → (links links' : Option (List Linked)) → (connections accepts accepts' : ℕ) → ServingEnd → Type 0
  AnswersLinks port links links' connections accepts accepts' (Served link_fault) =
      (after : List Linked) → links' ≡ Some after → AreCounted port links after connections link_fault accepts accepts'
  AnswersLinks port links links' connections accepts accepts' Stopped = (after : List Linked) → links' ≡ Some after → AreMoreInPart port links after connections
