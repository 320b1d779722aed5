-- The pieces that are put so far, where these nodes wait: for fill.
use Rattle.std.proofs.Common.{◌≡◌, OnErr, Result, Ok, Err, ℕ, zero, suc, ◌+◌, ◌<◌, ◌≤◌, List, [], ◌∷◌, ◌++◌, length, drop, take, slice_index_or, refl, sym, ap, ◌∙◌, subst, append_assoc, length-append, arith}
use Rattle.std.proofs.lemmas.List.{append-nil}
use Rattle.core_terms.specs.Formats.{Hash, IsHash, fingerprint}
use Rattle.core_terms.specs.ProgramFormats.{front}
use Rattle.core_terms.specs.declared.format.Format.{Format}
use Rattle.core_terms.specs.declared.format.Format.TheVariants.{First, Second}
use Rattle.core_terms.specs.Projection.{digest_at, projection}
use Rattle.core_terms.specs.ProgramTypes.{text_of, types_by_number, types_meaning}
use Rattle.core_terms.specs.Spelling.{spelling}
use Rattle.core_terms.specs.TypeTables.{type_at}
use Rattle.core_terms.specs.Values.{Value, size}
use Rattle.core_terms.specs.declared.program_types.Types.{Types}
use Rattle.core_terms.specs.declared.types.TyId.{TyId}
use Rattle.value_store.specs.Nodes.{AreSound, Node, greatest_limit}
use Rattle.value_store.specs.Standing.{ProverNodes, StandsFor}
use Rattle.value_store.specs.declared.node.Ref.{Ref}
use Rattle.core_terms.specs.Types.{Ty, UnitTy, BoolTy, IntTy, TextTy, PairTy, NamedTy, AuthTy, VecTy}
use Rattle.core_terms.proofs.ReadBack.{length_piece}
use Rattle.value_store.proofs.StandingNodes.{within_stands}
use Rattle.value_store.proofs.TypedNodes.{ideal_stands, prover_refers}
use Rattle.images.specs.AuthOrdersInCode.{AreInOrder}
use Rattle.images.specs.Images.{Entry}
use Rattle.images.specs.Reached.{OrderReached}
use Rattle.images.proofs.ReachedOver.{met_over}
use Rattle.piece_mirror.specs.Filled.{all_added, piece_of, pieces_of}
use Rattle.piece_mirror.specs.FilledInCode.{IsProverState, IsProverValue}
use Rattle.piece_mirror.specs.Mirrors.{added, piece_limit}

module _ (hash : Hash) (p : Types) (nodes : List Node) (root : ℕ) (v : Value) (state : IsProverState hash (types_meaning p) nodes root v) where
  pub record Filling (old : List (List ℕ)) (entries : List Entry) (now : List (List ℕ)) (waiting : List (TyId × Ref)) : Type 0 where
    pub done : List Entry
    pub rest : List Entry
    pub all : done ++ rest ≡ entries
    pub order : AreInOrder p nodes rest waiting
    pub reached : OrderReached nodes root waiting
    pub put : now ≡ all_added old (pieces_of hash (types_meaning p) done)

  all_push : (old ps : List (List ℕ)) (q : List ℕ) → all_added old (ps ++ q ∷ []) ≡ added (all_added old ps) q
  all_push old [] q = refl
  all_push old (r ∷ ps) q = all_push (added old r) ps q

  map_push : (es : List Entry) (e : Entry) → pieces_of hash (types_meaning p) (es ++ e ∷ []) ≡ pieces_of hash (types_meaning p) es ++ piece_of hash (types_meaning p) e.of_type e.value ∷ []
  map_push [] e = refl
  map_push (x ∷ es) e = ap (λ ps. piece_of hash (types_meaning p) x.of_type x.value ∷ ps) (map_push es e)

  -- the node that waits first
  pub record Next (old : List (List ℕ)) (entries : List Entry) (now : List (List ℕ)) (o : TyId × Ref) (waiting : List (TyId × Ref)) : Type 0 where
    pub value : Value
    pub stands : StandsFor (ProverNodes (digest_at hash (types_meaning p))) (types_meaning p).types nodes o.1.0 (type_at (types_by_number p) o.0) value
    pub go : Filling old entries (added now (piece_of hash (types_meaning p) (type_at (types_by_number p) o.0) value)) waiting

  pub next : (old : List (List ℕ)) (entries : List Entry) (now : List (List ℕ)) (o : TyId × Ref) (waiting : List (TyId × Ref)) → Filling old entries now (o ∷ waiting) → Next old entries now o waiting
  next old entries now o waiting f = by f.rest f.order f.all
    where
      by : (rest : List Entry) → AreInOrder p nodes rest (o ∷ waiting) → f.done ++ rest ≡ entries → Next old entries now o waiting
      by [] h all = elim h [ ]
      by (e ∷ rest) h all =
          let over = met_over (digest_at hash (types_meaning p)) (types_meaning p).types nodes root (types_meaning p).state v state o.1.0 e f.reached.0 h.1 in
          let S : Ty → Type 0 = λ t. StandsFor (ProverNodes (digest_at hash (types_meaning p))) (types_meaning p).types nodes o.1.0 t e.value in
          record {
            value = e.value;
            stands = subst S (sym h.0) over;
            go = record {
              done = f.done ++ e ∷ [];
              rest = rest;
              all = append_assoc f.done (e ∷ []) rest ∙ all;
              order = h.2;
              reached = f.reached.1;
              put = ap (λ t. added now (piece_of hash (types_meaning p) t e.value)) h.0
                  ∙ ap (λ ps. added ps (piece_of hash (types_meaning p) e.of_type e.value)) f.put
                  ∙ sym (ap (all_added old) (map_push f.done e) ∙ all_push old (pieces_of hash (types_meaning p) f.done) (piece_of hash (types_meaning p) e.of_type e.value));
            };
          }

  pub ends : (old : List (List ℕ)) (entries : List Entry) (now : List (List ℕ)) → Filling old entries now [] → now ≡ all_added old (pieces_of hash (types_meaning p) entries)
  ends old entries now f = by f.rest f.order f.all
    where
      by : (rest : List Entry) → AreInOrder p nodes rest [] → f.done ++ rest ≡ entries → now ≡ all_added old (pieces_of hash (types_meaning p) entries)
      by [] h all = f.put ∙ ap (λ es. all_added old (pieces_of hash (types_meaning p) es)) (sym (append-nil f.done) ∙ all)
      by (e ∷ rest) h all = elim h [ ]

  -- a refusal on the way: the first so many were put
  take_map : (es fs : List Entry) → take (length es) (pieces_of hash (types_meaning p) (es ++ fs)) ≡ pieces_of hash (types_meaning p) es
  take_map [] fs = refl
  take_map (e ∷ es) fs = ap (λ ps. piece_of hash (types_meaning p) e.of_type e.value ∷ ps) (take_map es fs)

  pub part : (old : List (List ℕ)) (entries : List Entry) (now : List (List ℕ)) (waiting : List (TyId × Ref)) → Filling old entries now waiting
      → (n : ℕ) × (now ≡ all_added old (take n (pieces_of hash (types_meaning p) entries)))
  part old entries now waiting f =
      (length f.done, f.put ∙ ap (all_added old) (sym (take_map f.done f.rest)) ∙ ap (λ es. all_added old (take (length f.done) (pieces_of hash (types_meaning p) es))) f.all)

  drop_suc : (xs : List (TyId × Ref)) (i : ℕ) (d : TyId × Ref) → i < length xs → drop i xs ≡ slice_index_or xs i d ∷ drop (suc i) xs
  drop_suc [] i d h = absurd (omega (arith, h))
  drop_suc (x ∷ []) zero d h = refl
  drop_suc (x ∷ y ∷ xs) zero d h = refl
  drop_suc (x ∷ xs) (suc i) d h = drop_suc xs i d (omega (arith, h))

  pub next_at : (old : List (List ℕ)) (entries : List Entry) (now : List (List ℕ)) (items : List (TyId × Ref)) (i : ℕ) (d : TyId × Ref) → i < length items
      → Filling old entries now (drop i items) → Next old entries now (slice_index_or items i d) (drop (i + 1) items)
  next_at old entries now items i d inside f =
      let split : drop i items ≡ slice_index_or items i d ∷ drop (i + 1) items =
      drop_suc items i d inside ∙ ap (λ n. slice_index_or items i d ∷ drop n items) (let k : suc i ≡ i + 1 = omega arith in k) in
      next old entries now (slice_index_or items i d) (drop (i + 1) items) (subst (Filling old entries now) split f)

  pub ends_at : (old : List (List ℕ)) (entries : List Entry) (now : List (List ℕ)) (items : List (TyId × Ref)) (i : ℕ) → length items ≤ i
      → Filling old entries now (drop i items) → now ≡ all_added old (pieces_of hash (types_meaning p) entries)
  ends_at old entries now items i over f = ends old entries now (subst (Filling old entries now) (drop_over items i over) f)
    where
      drop_over : (xs : List (TyId × Ref)) (i : ℕ) → length xs ≤ i → drop i xs ≡ []
      drop_over [] zero h = refl
      drop_over [] (suc i) h = refl
      drop_over (x ∷ xs) zero h = absurd (omega (arith, h))
      drop_over (x ∷ xs) (suc i) h = drop_over xs i (omega (arith, h))

  first_of : (xs : List (TyId × Ref)) → drop 0 xs ≡ xs
  first_of [] = refl
  first_of (x ∷ xs) = refl

  pub begins : (old : List (List ℕ)) (entries : List Entry) (order : List (TyId × Ref)) → AreInOrder p nodes entries order → OrderReached nodes root order
      → Filling old entries old (drop 0 order)
  begins old entries order h met =
      subst (Filling old entries old) (sym (first_of order)) (record { done = []; rest = entries; all = refl; order = h; reached = met; put = refl })

-- what is so is so where a result is an error
pub on_err : {A E : Type 0} (result : Result A E) (C : Type 0) → C → OnErr result C
on_err (Ok a) C c = tt
on_err (Err e) C c = c

-- what stands before a spelling is as long as a digest, if there is anything
short_front : (hash : Hash) → IsHash hash → (format : Format) (text : List ℕ) (t : Ty) → length (front format hash text t) ≤ 32
short_front hash is_hash First text t = omega arith
short_front hash is_hash Second text t = let long = length-fingerprint hash is_hash (hash text) t in omega (arith, long)
  where
    length-fingerprint : (hash : Hash) → IsHash hash → (declared : List ℕ) (t : Ty) → length (fingerprint hash declared t) ≡ 32
    length-fingerprint hash is_hash declared UnitTy = is_hash _
    length-fingerprint hash is_hash declared BoolTy = is_hash _
    length-fingerprint hash is_hash declared IntTy = is_hash _
    length-fingerprint hash is_hash declared TextTy = is_hash _
    length-fingerprint hash is_hash declared (PairTy a b) = is_hash _
    length-fingerprint hash is_hash declared (NamedTy number) = is_hash _
    length-fingerprint hash is_hash declared (AuthTy t) = is_hash _
    length-fingerprint hash is_hash declared (VecTy n t) = is_hash _

-- a piece is short
pub short_piece : (hash : Hash) (p : Types) (nodes : List Node) {limit : ℕ} → IsHash hash → AreSound limit nodes → limit ≤ greatest_limit → (r : ℕ) (t : Ty) (v : Value)
    → IsProverValue hash (types_meaning p) nodes r t v → length (piece_of hash (types_meaning p) t v) ≤ piece_limit
short_piece hash p nodes {limit = limit} is_hash sound greatest r t v stands =
    let P = types_meaning p in
    let K = ProverNodes (digest_at hash P) in
    let ideal = ideal_stands K P.types (prover_refers (digest_at hash P) P.types) nodes t v r stands in
    let short = (within_stands K P.types nodes {limit = limit} t v r sound stands).size_fits in
    let long : length (spelling (projection hash P t v)) ≡ size P.types t v =
    length_piece (digest_at hash P) (λ t bytes. is_hash _) P.types t v ideal in
    let before = short_front hash is_hash p.table.format (text_of p) t in
    let all = length-append (front p.table.format hash (text_of p) t) (spelling (projection hash P t v)) in
    omega (arith, all, before, long, short, greatest)
