-- What was opened, and its honest pieces.
use Rattle.std.proofs.Common.{◌≡◌, ℕ, zero, suc, ◌+◌, ◌<◌, ◌≤◌, ◌^◌, List, [], ◌∷◌, ◌++◌, length, take, get_or, refl, sym, ap, ◌∙◌, subst, arith}
use Rattle.std.proofs.lemmas.List.{take_all}
use Rattle.core_terms.specs.Formats.{Hash, IsHash}
use Rattle.core_terms.specs.ProgramTypes.{types_by_number, types_meaning}
use Rattle.core_terms.specs.Projection.{digest_at, projection}
use Rattle.core_terms.specs.Spelling.{spelling}
use Rattle.core_terms.specs.TypeTables.{type_at}
use Rattle.core_terms.specs.Types.{Table, Ty}
use Rattle.core_terms.specs.Values.{Value}
use Rattle.core_terms.specs.declared.program_types.Types.{Types}
use Rattle.core_terms.proofs.Spelled.{length_spelling}
use Rattle.ideal_meaning.specs.Ideal as ideal
use Rattle.value_store.specs.Nodes.{AreSound, Node}
use Rattle.value_store.specs.Standing.{ProverNodes, StandsFor, VerifierNodes}
use Rattle.value_store.proofs.ProverNodes.{shown_shallow}
use Rattle.value_store.proofs.StandingNodes.{within_stands}
use Rattle.value_store.proofs.TypedNodes.{shallow_stands}
use Rattle.prover_mode.specs.Seen.{AreSeen, IsSeen, pieces_of}
use Rattle.prover_mode.specs.declared.opened.Opened.{Opened}

-- one frame more
pub one_counted : (frames before i : ℕ) → frames ≡ suc before → before ≡ i → frames ≡ i + 1
one_counted frames before i more is = omega (arith, more, is)

-- the spelling of a shallow value that a node stands for is short
pub short_spelling : {limit : ℕ} → limit ≤ 1048576 → (types : Table) (nodes : List Node) (t : Ty) (v : Value) (r : ℕ) → AreSound limit nodes → StandsFor VerifierNodes types nodes r t v
    → (bytes : List ℕ) → bytes ≡ spelling v → length bytes < 2 ^ 32
short_spelling {limit} most types nodes t v r sound h bytes is =
    let same : length bytes ≡ length (spelling v) = ap length is in
    let long = length_spelling types t v (shallow_stands types nodes t v r h) in
    let fits = (within_stands VerifierNodes types nodes t v r sound h).size_fits in
    omega (arith, same, long, fits, most)

module _ (hash : Hash) (types : Types) (nodes : List Node) where
  -- none
  pub no_piece : (seen : List ideal.Opened) → AreSeen hash types nodes [] seen → pieces_of hash types seen ≡ []
  no_piece [] h = refl
  no_piece (s ∷ seen) h = elim h [ ]

  -- one of them, at its place
  pub seen_at : (os : List Opened) (seen : List ideal.Opened) (i : ℕ) (d : Opened) → AreSeen hash types nodes os seen → i < length os
      → (s : ideal.Opened) × IsSeen hash types nodes (get_or os i d) s
  seen_at [] seen i d h inside = absurd (omega arith)
  seen_at (o ∷ os) [] i d h inside = elim h [ ]
  seen_at (o ∷ os) (s ∷ seen) zero d h inside = (s, h.0)
  seen_at (o ∷ os) (s ∷ seen) (suc i) d h inside = seen_at os seen i d h.1 (omega arith)

  -- the last of them, and those before it
  pub record EndsSeen (os : List Opened) (i : ℕ) (d : Opened) (seen : List ideal.Opened) : Type 0 where
    pub front : List ideal.Opened
    pub last : ideal.Opened
    pub before : AreSeen hash types nodes (take i os) front
    pub is_seen : IsSeen hash types nodes (get_or os i d) last
    pub pieces : pieces_of hash types seen ≡ pieces_of hash types front ++ ideal.honest_bytes hash (types_meaning types) last ∷ []

  ends_at : (os : List Opened) (i : ℕ) (d : Opened) (seen : List ideal.Opened) → AreSeen hash types nodes (take (suc i) os) seen → i < length os → EndsSeen os i d seen
  ends_at [] i d seen h inside = absurd (omega arith)
  ends_at (o ∷ os) i d [] h inside = elim h [ ]
  ends_at (o ∷ os) zero d (s ∷ []) h inside = record { front = []; last = s; before = tt; is_seen = h.0; pieces = refl }
  ends_at (o ∷ os) zero d (s ∷ u ∷ seen) h inside = elim h.1 [ ]
  ends_at (o ∷ os) (suc i) d (s ∷ seen) h inside =
      let later = ends_at os i d seen h.1 (omega arith) in record {
        front = s ∷ later.front;
        last = later.last;
        before = (h.0, later.before);
        is_seen = later.is_seen;
        pieces = ap (λ ps. ideal.honest_bytes hash (types_meaning types) s ∷ ps) later.pieces;
      }

  pub seen_ends : (os : List Opened) (i : ℕ) (d : Opened) (seen : List ideal.Opened) → AreSeen hash types nodes (take (i + 1) os) seen → i < length os → EndsSeen os i d seen
  seen_ends os i d seen h inside =
      let next : i + 1 ≡ suc i = omega arith in
      ends_at os i d seen (subst (λ n. AreSeen hash types nodes (take n os) seen) next h) inside

  module _ (is_hash : IsHash hash) (o : Opened) (s : ideal.Opened) (h : IsSeen hash types nodes o s) where
    -- the value stands at the type with the number
    pub stands_at : StandsFor (ProverNodes (digest_at hash (types_meaning types))) (types_meaning types).types nodes o.value.0 (type_at (types_by_number types) o.ty) s.value
    stands_at = subst (λ (t : Ty). StandsFor (ProverNodes (digest_at hash (types_meaning types))) (types_meaning types).types nodes o.value.0 t s.value) h.at h.stands

    -- its projection stands over the verifier's nodes
    pub shows : StandsFor VerifierNodes (types_meaning types).types nodes o.value.0 (type_at (types_by_number types) o.ty)
        (projection hash (types_meaning types) (type_at (types_by_number types) o.ty) s.value)
    shows = shown_shallow (digest_at hash (types_meaning types)) (types_meaning types).types (λ t bytes. is_hash _) nodes (type_at (types_by_number types) o.ty) s.value o.value.0 stands_at

    -- the spelling of its projection is the honest piece
    pub is_honest : (bytes : List ℕ) → bytes ≡ spelling (projection hash (types_meaning types) (type_at (types_by_number types) o.ty) s.value)
        → bytes ≡ ideal.honest_bytes hash (types_meaning types) s
    is_honest bytes is = is ∙ ap (λ (t : Ty). spelling (projection hash (types_meaning types) t s.value)) (sym h.at)

-- all of them
pub seen_whole : (hash : Hash) (types : Types) (nodes : List Node) (os : List Opened) (n : ℕ) (seen : List ideal.Opened) → length os ≤ n → AreSeen hash types nodes os seen
    → AreSeen hash types nodes (take n os) seen
seen_whole hash types nodes os n seen whole h = subst (λ (os : List Opened). AreSeen hash types nodes os seen) (sym (take_all n os whole)) h
