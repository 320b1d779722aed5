-- What is shared, as its store grows.
use Rattle.std.proofs.Common.{◌≡◌, ℕ, ◌-◌, ◌<◌, ◌≤◌, List, [], ◌∷◌, ◌++◌, length, take, drop, get_or, refl, sym, ap, ◌∙◌, subst, arith, length-append}
use Rattle.std.proofs.Math.Seq.{take-length}
use Rattle.std.proofs.lemmas.List.{append-nil, take-take, take-append-drop}
use Rattle.core_terms.specs.Formats.{Hash}
use Rattle.core_terms.specs.Projection.{digest_at}
use Rattle.core_terms.specs.Terms.{Program}
use Rattle.core_terms.specs.Values.{Value, UnitV}
use Rattle.session_meaning.specs.Calls.{RoleCall}
use Rattle.session_meaning.specs.Server as meant
use Rattle.value_store.specs.Nodes.{Node}
use Rattle.value_store.specs.Standing.{Grows, Keeps, ProverNodes}
use Rattle.value_store.specs.Stores.{nodes_in}
use Rattle.value_store.specs.declared.node.Ref.{Ref}
use Rattle.value_store.proofs.Moved.{kept_before}
use Rattle.session_meaning.proofs.Turns.{extends_at}
use Rattle.session_turns.specs.Marks.{AreMarks, mark_of}
use Rattle.session_turns.specs.Rows.{AreAlike}
use Rattle.session_turns.specs.Sharing.{IsCommit, Shares}
use Rattle.session_turns.specs.Versions.{AreVersions, IsVersion}
use Rattle.session_turns.specs.declared.commit.Commit.{Commit}
use Rattle.session_turns.specs.declared.shared.Shared.{Shared}
use Rattle.session_turns.proofs.Rows.{alike_get, alike_kept, alike_length, alike_more}

-- the first nodes of a base, with a call's own behind them, are the same when the base has grown
pub first_stay : (n : ℕ) (old new own : List Node) → n ≤ length old → Grows old new → take n new ++ own ≡ take n old ++ own
first_stay n old new own within grows = ap (λ ns. ns ++ own) (sym (take-take n (length old) new within) ∙ ap (take n) grows)

-- all nodes of a base, with none behind them
pub all_first : (base : List Node) (n : ℕ) → n ≡ length base → (own : List Node) → own ≡ [] → take n base ++ own ≡ base
all_first base n all own none = ap (λ ns. take n base ++ ns) none ∙ append-nil (take n base) ∙ ap (λ n. take n base) all ∙ take-length base

-- what has grown keeps what its nodes stood for
grown_keeps : (old new : List Node) → Grows old new → Keeps old new
grown_keeps old new grows = subst (Keeps old) (ap (λ ns. ns ++ drop (length old) new) (sym grows) ∙ take-append-drop (length old) new) (kept_before old (drop (length old) new))

module _ (hash : Hash) (P : Program) where
  pub versions_kept : (old new : List Node) (rs : List Ref) (vs : List Value) → Keeps old new → AreVersions hash P old rs vs → AreVersions hash P new rs vs
  versions_kept old new rs vs keeps h =
      alike_kept (IsVersion hash P old) (IsVersion hash P new) (λ r v i. keeps (ProverNodes (digest_at hash P)) P.types r.0 P.state v i) rs vs h

  pub versions_stay : (old new : List Node) (rs : List Ref) (vs : List Value) → Grows old new → AreVersions hash P old rs vs → AreVersions hash P new rs vs
  versions_stay old new rs vs grows h = versions_kept old new rs vs (grown_keeps old new grows) h

  -- one version more, and its commit
  pub committed : (old new : Shared) (same : meant.Shared) (call : RoleCall) (v : Value) (r : Ref) (commit : Commit)
      → Keeps (nodes_in old.store) (nodes_in new.store) → new.versions.items ≡ old.versions.items ++ r ∷ [] → new.commits.items ≡ old.commits.items ++ commit ∷ []
      → new.marks ≡ old.marks → new.store.limit ≡ old.store.limit
      → Shares hash P old same → IsCommit commit call → IsVersion hash P (nodes_in new.store) r v → Shares hash P new (meant.with_commit call v same)
  committed old new same call v r commit keeps versions commits marks kept h is stands = record {
    limit = record { is = kept ∙ h.limit.is };
    versions =
        subst (λ rs. AreVersions hash P (nodes_in new.store) rs (same.versions ++ v ∷ [])) (sym versions)
        (alike_more (IsVersion hash P (nodes_in new.store)) old.versions.items (r ∷ []) same.versions (v ∷ [])
        (versions_kept (nodes_in old.store) (nodes_in new.store) old.versions.items same.versions keeps h.versions) (stands, tt));
    commits =
        subst (λ cs. AreAlike IsCommit cs (same.commits ++ call ∷ [])) (sym commits)
        (alike_more IsCommit old.commits.items (commit ∷ []) same.commits (call ∷ []) h.commits (is, tt));
    marks =
        subst (λ ds. AreMarks hash P ds (same.versions ++ v ∷ [])) (sym marks)
        (λ n d known. let before = h.marks n d known in (
          (let more = length-append same.versions (v ∷ []) in let there = before.0 in omega (arith, more, there)),
          before.1 ∙ ap (λ v. mark_of (meant.state_spelling hash P v)) (sym (extends_at same.versions (same.versions ++ v ∷ []) n (v ∷ [], refl) before.0)),
        ));
  }

  -- the same versions and commits over a store that has grown
  pub unchanged : (old new : Shared) (same : meant.Shared) → Keeps (nodes_in old.store) (nodes_in new.store) → new.versions.items ≡ old.versions.items
      → new.commits.items ≡ old.commits.items → new.marks ≡ old.marks → new.store.limit ≡ old.store.limit → Shares hash P old same → Shares hash P new same
  unchanged old new same keeps versions commits marks kept h = record {
    limit = record { is = kept ∙ h.limit.is };
    versions =
        subst (λ rs. AreVersions hash P (nodes_in new.store) rs same.versions) (sym versions)
        (versions_kept (nodes_in old.store) (nodes_in new.store) old.versions.items same.versions keeps h.versions);
    commits = subst (λ cs. AreAlike IsCommit cs same.commits) (sym commits) h.commits;
    marks = subst (λ ds. AreMarks hash P ds same.versions) (sym marks) h.marks;
  }

  -- the last of the nodes stands for the last version
  pub last_stands : (nodes : List Node) (rs : List Ref) (vs : List Value) → AreVersions hash P nodes rs vs → (n : ℕ) → n ≡ length rs → 0 < length rs
      → (r : Ref) → r ≡ get_or rs (n - 1) r → IsVersion hash P nodes r (meant.version_at vs (length vs - 1))
  last_stands nodes rs vs are n count some r is =
      let there : n - 1 < length rs = omega (arith, count, some) in
      let last : n - 1 ≡ length vs - 1 = ap (λ m. m - 1) (count ∙ alike_length (IsVersion hash P nodes) rs vs are) in
      subst (λ i. IsVersion hash P nodes r (meant.version_at vs i)) last
      (subst (λ q. IsVersion hash P nodes q (meant.version_at vs (n - 1))) (sym is) (alike_get (IsVersion hash P nodes) (n - 1) rs vs r UnitV are there))

  -- the node with this number stands for the version with it
  pub version_stands : (shared : Shared) (same : meant.Shared) → Shares hash P shared same → (n : ℕ) → n < length shared.versions.items → (r : Ref)
      → r ≡ get_or shared.versions.items n r → IsVersion hash P (nodes_in shared.store) r (meant.version_at same.versions n)
  version_stands shared same h n there r is =
      subst (λ (q : Ref). IsVersion hash P (nodes_in shared.store) q (meant.version_at same.versions n)) (sym is)
      (alike_get (IsVersion hash P (nodes_in shared.store)) n shared.versions.items same.versions r UnitV h.versions there)

  pub versions_counted : (shared : Shared) (same : meant.Shared) → Shares hash P shared same → length shared.versions.items ≡ length same.versions
  versions_counted shared same h = alike_length (IsVersion hash P (nodes_in shared.store)) shared.versions.items same.versions h.versions
