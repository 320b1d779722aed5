-- The first split of two lists of pieces, which is found exactly where they split.
use Rattle.std.proofs.Common.{◌≡◌, ◌≢◌, ℕ, zero, suc, ◌+◌, Bool, true, false, List, [], ◌∷◌, Option, Some, None, option_map, slice_get, bytes_eq, if◌then◌else◌, refl, sym, ap, ◌∙◌, subst, arith, true≢false}
use Rattle.std.proofs.lemmas.Slice.Eq.{bytes_eq-Decides}
use Rattle.core_terms.specs.Formats.{Format, Hash}
use Rattle.core_terms.specs.Types.{Ty}
use Rattle.ideal_meaning.specs.SplitPieces.{IsSplitAt}
use Rattle.ideal_meaning.specs.Ideal.{Piece, bytes_of}
use Rattle.collision_audit.specs.AuditLaws.{SplitIsFound, NoSplitIsFound}
use Rattle.collision_audit.specs.Splits.{Split, IsSplit, first_split, split_from, split_with}

-- bytes that differ are told apart
pub not_same : (x y : List ℕ) → x ≢ y → bytes_eq x y ≡ false
not_same x y differs = by (bytes_eq x y) refl
  where
    by : (b : Bool) → bytes_eq x y ≡ b → b ≡ false
    by true e = absurd (differs ((bytes_eq-Decides x y).0 e))
    by false e = refl

module _ (hash : Hash) (format : Format) where
  abbrev digest : Ty → List ℕ → List ℕ
  digest = format.digest hash

  -- the fingerprint of the type at which a piece is opened
  abbrev print : Piece → Option (List ℕ)
  print b = format.print hash b.ty

  -- the lists split at place i, where pieces are numbered from `place`, and s is that split
  record Stands (place : ℕ) (offered : List (List ℕ)) (honest : List Piece) (s : Split) : Type 0 where
    i : ℕ
    numbered : s.place ≡ place + i
    at : IsSplitAt digest offered honest i
    offered_there : slice_get offered i ≡ Some s.offered
    honest_there : slice_get (bytes_of honest) i ≡ Some s.honest
    print_there : option_map print (slice_get honest i) ≡ Some s.print

  found : (place : ℕ) (offered : List (List ℕ)) (honest : List Piece) (s : Split) → split_from hash format place offered honest ≡ Some s → Stands place offered honest s
  found place [] [] s e = absurd (cc)
  found place [] (b ∷ honest) s e = absurd (cc)
  found place (a ∷ offered) [] s e = absurd (cc)
  found place (a ∷ offered) (b ∷ honest) s e = by (found (suc place) offered honest s) (bytes_eq a b.bytes) (bytes_eq (digest b.ty a) (digest b.ty b.bytes)) refl refl e
    where
      by : (split_from hash format (suc place) offered honest ≡ Some s → Stands (suc place) offered honest s) → (same one : Bool) → bytes_eq a b.bytes ≡ same → bytes_eq (digest b.ty a) (digest b.ty b.bytes) ≡ one
          → (if same then split_from hash format (suc place) offered honest else (if one then Some (split_with hash format place b a) else None)) ≡ Some s
          → Stands place (a ∷ offered) (b ∷ honest) s
      by behind true one q r e =
          let later = behind e in
          record { i = suc later.i; numbered = omega (arith, later.numbered); at = ((bytes_eq-Decides a b.bytes).0 q, later.at); offered_there = later.offered_there; honest_there = later.honest_there; print_there = later.print_there }
      by behind false true q r e =
          let is : split_with hash format place b a ≡ s = cc in
          record {
            i = 0;
            numbered = omega (arith, sym (ap (λ (s : Split). s.place) is));
            at = (λ same. true≢false (sym ((bytes_eq-Decides a b.bytes).1 same) ∙ q), (bytes_eq-Decides (digest b.ty a) (digest b.ty b.bytes)).0 r);
            offered_there = ap (λ (s : Split). Some s.offered) is;
            honest_there = ap (λ (s : Split). Some s.honest) is;
            print_there = ap (λ (s : Split). Some s.print) is;
          }
      by behind false false q r e = absurd (cc (e))

  -- each split is found
  finds : (place i : ℕ) (offered : List (List ℕ)) (honest : List Piece) (s : Split) → s.place ≡ place + i → IsSplitAt digest offered honest i
      → slice_get offered i ≡ Some s.offered → slice_get (bytes_of honest) i ≡ Some s.honest → option_map print (slice_get honest i) ≡ Some s.print
      → split_from hash format place offered honest ≡ Some s
  finds place i [] honest s numbered at o h p = elim at [ ]
  finds place i (a ∷ offered) [] s numbered at o h p = elim at [ ]
  finds place zero (a ∷ offered) (b ∷ honest) s numbered at o h p = by (bytes_eq a b.bytes) (bytes_eq (digest b.ty a) (digest b.ty b.bytes)) refl refl
    where
      by : (same one : Bool) → bytes_eq a b.bytes ≡ same → bytes_eq (digest b.ty a) (digest b.ty b.bytes) ≡ one
          → (if same then split_from hash format (suc place) offered honest else (if one then Some (split_with hash format place b a) else None)) ≡ Some s
      by true one q r = absurd (at.0 ((bytes_eq-Decides a b.bytes).0 q))
      by false true q r =
          let first : place ≡ s.place = omega (arith, numbered) in
          let is_offered : a ≡ s.offered = cc in
          let is_honest : b.bytes ≡ s.honest = cc in
          let is_print : print b ≡ s.print = cc in
          ap (λ (n : ℕ). Some (split_with hash format n b a)) first
          ∙ (ap (λ (x : List ℕ). Some (record { place = s.place; offered = x; honest = b.bytes; print = print b })) is_offered
          ∙ (ap (λ (x : List ℕ). Some (record { place = s.place; offered = s.offered; honest = x; print = print b })) is_honest
          ∙ ap (λ (x : Option (List ℕ)). Some (record { place = s.place; offered = s.offered; honest = s.honest; print = x })) is_print))
      by false false q r = absurd (true≢false (sym ((bytes_eq-Decides (digest b.ty a) (digest b.ty b.bytes)).1 at.1) ∙ r))
  finds place (suc i) (a ∷ offered) (b ∷ honest) s numbered at o h p =
      ap (λ (same : Bool). if same then split_from hash format (suc place) offered honest else (if bytes_eq (digest b.ty a) (digest b.ty b.bytes) then Some (split_with hash format place b a) else None)) ((bytes_eq-Decides a b.bytes).1 at.0)
      ∙ finds (suc place) i offered honest s (omega (arith, numbered)) at.1 o h p

  -- where the lists split they have two pieces
  pieces_there : (i : ℕ) (offered : List (List ℕ)) (honest : List Piece) → IsSplitAt digest offered honest i
      → (a : List ℕ) × (b : Piece) × (slice_get offered i ≡ Some a) × (slice_get (bytes_of honest) i ≡ Some b.bytes) × (slice_get honest i ≡ Some b)
  pieces_there i [] honest at = elim at [ ]
  pieces_there i (a ∷ offered) [] at = elim at [ ]
  pieces_there zero (a ∷ offered) (b ∷ honest) at = (a, b, refl, refl, refl)
  pieces_there (suc i) (a ∷ offered) (b ∷ honest) at = pieces_there i offered honest at.1

  pub splits_somewhere : (i : ℕ) (offered : List (List ℕ)) (honest : List Piece) → IsSplitAt digest offered honest i
      → (s : Split) × (first_split hash format offered honest ≡ Some s)
  splits_somewhere i offered honest at =
      let there = pieces_there i offered honest at in
      let s = split_with hash format i there.1 there.0 in
      (s, finds 0 i offered honest s (omega arith) at there.2 there.3 (ap (option_map print) there.4))

pub split_is_found : SplitIsFound
split_is_found hash format offered honest s = (forth, λ split. finds hash format 0 s.place offered honest s (omega arith) split.at split.offered_there split.honest_there split.print_there)
  where
    forth : first_split hash format offered honest ≡ Some s → IsSplit hash format offered honest s
    forth e =
        let stands = found hash format 0 offered honest s e in
        let same : stands.i ≡ s.place = omega (arith, stands.numbered) in
        record {
          at = subst (IsSplitAt (format.digest hash) offered honest) same stands.at;
          offered_there = subst (λ (i : ℕ). slice_get offered i ≡ Some s.offered) same stands.offered_there;
          honest_there = subst (λ (i : ℕ). slice_get (bytes_of honest) i ≡ Some s.honest) same stands.honest_there;
          print_there = subst (λ (i : ℕ). option_map (λ (b : Piece). format.print hash b.ty) (slice_get honest i) ≡ Some s.print) same stands.print_there;
        }

pub no_split_is_found : NoSplitIsFound
no_split_is_found hash format offered honest = (forth, back (first_split hash format offered honest) refl)
  where
    forth : first_split hash format offered honest ≡ None → (i : ℕ) → IsSplitAt (format.digest hash) offered honest i → ⊥
    forth e i at = let there = splits_somewhere hash format i offered honest at in absurd (cc (e, there.1))

    back : (o : Option Split) → first_split hash format offered honest ≡ o → ((i : ℕ) → IsSplitAt (format.digest hash) offered honest i → ⊥) → first_split hash format offered honest ≡ None
    back None e none = e
    back (Some s) e none = absurd (none s.place (((split_is_found hash format offered honest s).0 e).at))
