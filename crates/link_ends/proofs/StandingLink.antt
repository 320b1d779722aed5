-- What is told of the link that stands, where the links are told: for what serves one link.
use Rattle.std.proofs.Common.{◌≡◌, ℕ, List, [], ◌∷◌, ◌++◌, Option, Some, None, refl, sym, ap, subst, ◌∙◌}
use Rattle.std.specs.List.{AllByRecursion}
use Rattle.std.specs.Option.{ForSome}
use Rattle.std.specs.Io.KnownBytes.{append_known}
use Rattle.lam_outside.specs.Links.{Linked, links_so_far, nothing_yet}
use Rattle.lam_outside.specs.Moments.{Moment}
use Rattle.lam_outside.specs.LinkSteps.{AtEachRead}

-- The links are those that ended and the one that stands, and all that it tells is known.
pub record IsTold (ended : Option (List Linked)) (port : ℕ) (given left sent : Option (List ℕ)) (reads : Option (List Moment)) (after : List Linked) : Type 0 where
  pub before : List Linked
  pub read : List ℕ
  pub rest : List ℕ
  pub out : List ℕ
  pub begun : List Moment
  pub ended_is : ended ≡ Some before
  pub given_is : given ≡ Some read
  pub left_is : left ≡ Some rest
  pub sent_is : sent ≡ Some out
  pub reads_are : reads ≡ Some begun
  pub all : after ≡ before ++ record { port = port; given = read; left = rest; sent = out; reads = begun } ∷ []

pub told : (ended : Option (List Linked)) (port : ℕ) (given left sent : Option (List ℕ)) (reads : Option (List Moment)) (after : List Linked)
    → links_so_far ended (Some port) given left sent reads ≡ Some after → IsTold ended port given left sent reads after
told (Some before) port (Some read) (Some rest) (Some out) (Some begun) after is = record {
  before = before;
  read = read;
  rest = rest;
  out = out;
  begun = begun;
  ended_is = refl;
  given_is = refl;
  left_is = refl;
  sent_is = refl;
  reads_are = refl;
  all = sym (cc (is));
}
told None port given left sent reads after is = absurd (let clash : None ≡ Some after = is in cc)
told (Some before) port None left sent reads after is = absurd (let clash : None ≡ Some after = is in cc)
told (Some before) port (Some read) None sent reads after is = absurd (let clash : None ≡ Some after = is in cc)
told (Some before) port (Some read) (Some rest) None reads after is = absurd (let clash : None ≡ Some after = is in cc)
told (Some before) port (Some read) (Some rest) (Some out) None after is = absurd (let clash : None ≡ Some after = is in cc)

-- bytes behind nothing are these bytes, where they are told
pub from_nothing : (first given : Option (List ℕ)) (more all : List ℕ) → first ≡ nothing_yet given → Some all ≡ append_known first more → all ≡ more
from_nothing first (Some bytes) more all none is =
    let e : Some all ≡ Some more = is ∙ ap (λ w. append_known w more) none in cc
from_nothing first None more all none is = absurd (let clash : Some all ≡ None = is ∙ ap (λ w. append_known w more) none in cc)

-- nothing was sent by now on a link that tells what is sent later
pub nothing_sent : (first sent : Option (List ℕ)) (out more : List ℕ) → first ≡ nothing_yet sent → Some out ≡ append_known first more → first ≡ Some []
nothing_sent first (Some bytes) out more none is = none
nothing_sent first None out more none is = absurd (let clash : Some out ≡ None = is ∙ ap (λ w. append_known w more) none in cc)

-- what stood at each read since the link was made stood at all of its reads
pub all_stood : (Q : Moment → Type 0) (reads reads' : Option (List Moment)) (begun : List Moment) → ForSome reads (λ moments. moments ≡ []) → reads' ≡ Some begun
    → AtEachRead Q reads reads' → AllByRecursion Q begun
all_stood Q reads reads' begun none are stood =
    let each = stood begun are in
    let same : begun ≡ each.more = each.all ∙ ap (λ moments. moments ++ each.more) (none each.before each.told) in
    subst (AllByRecursion Q) (sym same) each.stood
