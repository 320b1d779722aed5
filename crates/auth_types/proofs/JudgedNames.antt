-- The names of a pattern pass exactly where each may be bound, and a fault is told exactly where one may not.
use Rattle.std.proofs.Common.{◌≡◌, ℕ, suc, ◌+◌, ◌<◌, ◌≤◌, Bool, true, false, List, [], ◌∷◌, ◌++◌, length, map, reverse, nat_lt, if◌then◌else◌, refl, sym, ap, ◌∙◌, subst, add-zero, lt-ltb, arith}
use Rattle.std.specs.Bool.{Decides}
use Rattle.std.specs.List.{Contains}
use Rattle.std.proofs.lemmas.Bool.Decides.{Decides-at}
use Rattle.std.proofs.lemmas.List.{reverse-append, map-append}
use Rattle.core_terms.specs.Types.{Ty}
use Rattle.lexemes.specs.declared.place.Place.{Place}
use Rattle.auth_syntax.specs.Syntax.{NameSyntax}
use Rattle.declared_types.specs.Checking.{Checking, Sound, FaultAt, is_among, unless_fault}
use Rattle.auth_types.specs.Bodies.{Local, bound_names, most_locals}
use Rattle.auth_types.specs.InOrder.{EachMeets, NoMore, AndMore, OneBreaks, ThisBreaks, LaterBreaks}
use Rattle.auth_types.specs.TypingRules.{MayBind, MayBindAll, with_fields, with_local}
use Rattle.auth_types.specs.BrokenRules.{BreaksName, BreaksNames, NameTwice, LocalTooMany}
use Rattle.declared_types.specs.declared.fault.TypeKind.{TypeKind}
use Rattle.declared_types.specs.declared.fault.TypeKind.TheVariants.{Twice, Limit}
use Rattle.declared_types.specs.declared.fault.Limited.TheVariants.{Locals}
use Rattle.declared_types.proofs.NamesBefore.{among_reverse}
use Rattle.auth_types.proofs.NamedParts.{among_decides}
use Rattle.auth_types.proofs.Judging.{Judges, below_decides, fails, judges_more, judges_unless}

abbrev pub names_written : List NameSyntax → List (List ℕ)
names_written names = map (λ (n : NameSyntax). n.name) names

-- a name among those before it, the last of which comes first
pub before_decides : (front : List NameSyntax) (before : List (List ℕ)) (name : List ℕ) → before ≡ reverse (names_written front)
    → Decides (is_among name before) (Contains (names_written front) name)
before_decides front before name is =
    Decides-at (is_among name before) (is_among name (names_written front)) (ap (is_among name) is ∙ among_reverse name (names_written front)) (among_decides name (names_written front))

pub before_more : (front : List NameSyntax) (before : List (List ℕ)) (name : NameSyntax) → before ≡ reverse (names_written front)
    → name.name ∷ before ≡ reverse (names_written (front ++ name ∷ []))
before_more front before name is =
    ap (λ b. name.name ∷ b) is
    ∙ sym (ap reverse (map-append (λ (n : NameSyntax). n.name) front (name ∷ [])) ∙ reverse-append (names_written front) (name.name ∷ []))

pub one_longer : {A : Type 0} (front : List A) (x : A) → length (front ++ x ∷ []) ≡ suc (length front)
one_longer [] x = refl
one_longer (y ∷ front) x = ap suc (one_longer front x)

module _ (first : List Local) where
  -- these names may be bound behind those in front, and what breaks that
  abbrev Binds : List NameSyntax → List NameSyntax → List Local → List Ty → List Local → Type 0
  Binds front names locals ts inner = EachMeets (MayBind first) front names × (inner ≡ with_fields locals names ts)

  abbrev Misnames : List NameSyntax → List NameSyntax → TypeKind → Place → Type 0
  Misnames front names = OneBreaks (MayBind first) (BreaksName first) front names

  -- where so many locals stand before the pattern, and these names of it
  names_judged : (front : List NameSyntax) (before : List (List ℕ)) (locals : List Local) (names : List NameSyntax) (ts : List Ty)
      → before ≡ reverse (names_written front) → length locals ≡ length first + length front → length names ≡ length ts
      → Judges (Binds front names locals ts) (Misnames front names) (bound_names before locals names ts)
  names_judged front before locals [] [] is many same = (NoMore, refl)
  names_judged front before locals [] (t ∷ ts) is many same = absurd (cc)
  names_judged front before locals (name ∷ names) [] is many same = absurd (cc)
  names_judged front before locals (name ∷ names) (t ∷ ts) is many same =
      let inner = with_local locals name.name t in
      let fuller : length inner ≡ length first + length (front ++ name ∷ []) = omega (arith, one_longer locals (record { name = name.name; of_type = t }), one_longer front name, many) in
      by (is_among name.name before) (bound_names (name.name ∷ before) inner names ts) (before_decides front before name.name is)
      (names_judged (front ++ name ∷ []) (name.name ∷ before) inner names ts (before_more front before name is) fuller (cc))
    where
      by : (b : Bool) (found : Checking (List Local)) → Decides b (Contains (names_written front) name.name)
          → Judges (Binds (front ++ name ∷ []) names (with_local locals name.name t) ts) (Misnames (front ++ name ∷ []) names) found
          → Judges (Binds front (name ∷ names) locals (t ∷ ts)) (Misnames front (name ∷ names))
          (if b then FaultAt Twice name.at else unless_fault (nat_lt (length locals) most_locals) (Limit Locals) name.at found)
      by true found d h = ThisBreaks (NameTwice (d.0 refl))
      by false found d h =
          let new : Contains (names_written front) name.name → ⊥ = λ has. let e : false ≡ true = d.1 has in absurd (cc) in
          judges_unless (length locals < most_locals) (Binds front (name ∷ names) locals (t ∷ ts)) (Misnames front (name ∷ names))
          (nat_lt (length locals) most_locals) (Limit Locals) name.at found (below_decides (length locals) most_locals)
          (λ never. ThisBreaks (LocalTooMany new (full never)))
          (λ room. let may : MayBind first front name = record { is_new = new; has_room = subst (λ n. n < most_locals) many room } in
          judges_more (Binds (front ++ name ∷ []) names (with_local locals name.name t) ts) (Binds front (name ∷ names) locals (t ∷ ts))
          (Misnames (front ++ name ∷ []) names) (Misnames front (name ∷ names)) found
          (λ inner h. (AndMore may h.0, h.1)) (λ kind at h. LaterBreaks may h) h)
        where
          full : (length locals < most_locals → ⊥) → most_locals ≤ length first + length front
          full never = grind (arith, many, never)

  -- names that may be bound are, and one that may not is told
  names_bind : {front names : List NameSyntax} → EachMeets (MayBind first) front names → (before : List (List ℕ)) (locals : List Local) (ts : List Ty)
      → before ≡ reverse (names_written front) → length locals ≡ length first + length front → length names ≡ length ts
      → bound_names before locals names ts ≡ Sound (with_fields locals names ts)
  names_bind NoMore before locals [] is many same = refl
  names_bind NoMore before locals (t ∷ ts) is many same = absurd (cc)
  names_bind (AndMore may more) before locals [] is many same = absurd (cc)
  names_bind (AndMore {before = front} {x = name} {rest = names} may more) before locals (t ∷ ts) is many same =
      let inner = with_local locals name.name t in
      let fuller : length inner ≡ length first + length (front ++ name ∷ []) = omega (arith, one_longer locals (record { name = name.name; of_type = t }), one_longer front name, many) in
      let new : is_among name.name before ≡ false = fails (is_among name.name before) (before_decides front before name.name is) may.is_new in
      let room : nat_lt (length locals) most_locals ≡ true = lt-ltb (length locals) most_locals (omega (arith, many, may.has_room)) in
      ap (λ b. if b then FaultAt Twice name.at else unless_fault (nat_lt (length locals) most_locals) (Limit Locals) name.at (bound_names (name.name ∷ before) inner names ts)) new
      ∙ ap (λ b. unless_fault b (Limit Locals) name.at (bound_names (name.name ∷ before) inner names ts)) room
      ∙ names_bind more (name.name ∷ before) inner ts (before_more front before name is) fuller (cc)

  names_break : {front names : List NameSyntax} {kind : TypeKind} {at : Place} → OneBreaks (MayBind first) (BreaksName first) front names kind at
      → (before : List (List ℕ)) (locals : List Local) (ts : List Ty)
      → before ≡ reverse (names_written front) → length locals ≡ length first + length front → length names ≡ length ts → bound_names before locals names ts ≡ FaultAt kind at
  names_break (ThisBreaks broken) before locals [] is many same = absurd (cc)
  names_break (LaterBreaks may later) before locals [] is many same = absurd (cc)
  names_break (ThisBreaks {before = front} {x = name} {rest = names} (NameTwice has)) before locals (t ∷ ts) is many same =
      ap (λ b. if b then FaultAt Twice name.at else unless_fault (nat_lt (length locals) most_locals) (Limit Locals) name.at
      (bound_names (name.name ∷ before) (with_local locals name.name t) names ts))
      ((before_decides front before name.name is).1 has)
  names_break (ThisBreaks {before = front} {x = name} {rest = names} (LocalTooMany new full)) before locals (t ∷ ts) is many same =
      ap (λ b. if b then FaultAt Twice name.at else unless_fault (nat_lt (length locals) most_locals) (Limit Locals) name.at
      (bound_names (name.name ∷ before) (with_local locals name.name t) names ts))
      (fails (is_among name.name before) (before_decides front before name.name is) new)
      ∙ ap (λ b. unless_fault b (Limit Locals) name.at (bound_names (name.name ∷ before) (with_local locals name.name t) names ts))
      (fails (nat_lt (length locals) most_locals) (below_decides (length locals) most_locals) (λ room. absurd (omega (arith, many, full, room))))
  names_break (LaterBreaks {before = front} {x = name} {rest = names} may later) before locals (t ∷ ts) is many same =
      let inner = with_local locals name.name t in
      let fuller : length inner ≡ length first + length (front ++ name ∷ []) = omega (arith, one_longer locals (record { name = name.name; of_type = t }), one_longer front name, many) in
      let new : is_among name.name before ≡ false = fails (is_among name.name before) (before_decides front before name.name is) may.is_new in
      let room : nat_lt (length locals) most_locals ≡ true = lt-ltb (length locals) most_locals (omega (arith, many, may.has_room)) in
      ap (λ b. if b then FaultAt Twice name.at else unless_fault (nat_lt (length locals) most_locals) (Limit Locals) name.at (bound_names (name.name ∷ before) inner names ts)) new
      ∙ ap (λ b. unless_fault b (Limit Locals) name.at (bound_names (name.name ∷ before) inner names ts)) room
      ∙ names_break later (name.name ∷ before) inner ts (before_more front before name is) fuller (cc)

  pub pattern_judged : (names : List NameSyntax) (ts : List Ty) → length names ≡ length ts
      → Judges (λ inner. MayBindAll first names × (inner ≡ with_fields first names ts)) (BreaksNames first names) (bound_names [] first names ts)
  pattern_judged names ts same = names_judged [] [] first names ts refl (sym (add-zero (length first))) same

  pub pattern_binds : (names : List NameSyntax) (ts : List Ty) → MayBindAll first names → length names ≡ length ts → bound_names [] first names ts ≡ Sound (with_fields first names ts)
  pattern_binds names ts may same = names_bind may [] first ts refl (sym (add-zero (length first))) same

  pub pattern_breaks : (names : List NameSyntax) (ts : List Ty) (kind : TypeKind) (at : Place) → BreaksNames first names kind at
      → length names ≡ length ts → bound_names [] first names ts ≡ FaultAt kind at
  pattern_breaks names ts kind at broken same = names_break broken [] first ts refl (sym (add-zero (length first))) same
