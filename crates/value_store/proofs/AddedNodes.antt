-- Nodes behind which one is put, or none where memory was wanting.
use Rattle.std.proofs.Common.{◌≡◌, ◌⊎◌, inl, inr, ℕ, true, List, [], ◌∷◌, ◌++◌, length, Result, Ok, Err, sym, ◌∙◌, ap, ap₂, subst, append_assoc}
use Rattle.value_store.specs.Nodes.{AreSound, Form, FormFits, Node, form_depth, form_size, node_with, refers_below}
use Rattle.value_store.specs.Placing.{Adds, with_parts}
use Rattle.value_store.specs.Standing.{Keeps}
use Rattle.value_store.proofs.Moved.{kept_before}
use Rattle.value_store.proofs.SoundNodes.{sound_behind}

abbrev pub Either : (old new : List Node) → Node → Type 0
Either old new node = (new ≡ old) ⊎ (new ≡ old ++ node ∷ [])

pub adds_either : {X E : Type 0} (old new : List Node) (node : Node) (result : Result X E) → Adds old node result new → Either old new node
adds_either old new node (Ok x) h = inr h
adds_either old new node (Err e) h = inl h

-- behind others that are lent
pub over_either : (lent old new : List Node) (node : Node) → Either old new node → Either (lent ++ old) (lent ++ new) node
over_either lent old new node (inl same) = inl (ap (λ (xs : List Node). lent ++ xs) same)
over_either lent old new node (inr more) = inr (ap (λ (xs : List Node). lent ++ xs) more ∙ sym (append_assoc lent old (node ∷ [])))

module _ (old new : List Node) (form : Form) (size depth : ℕ) (size_is : size ≡ form_size old form) (depth_is : depth ≡ form_depth old form) where
  is_with : with_parts form size depth ≡ node_with old form
  is_with = ap₂ (with_parts form) size_is depth_is

  pub added_is : new ≡ old ++ with_parts form size depth ∷ [] → new ≡ old ++ node_with old form ∷ []
  added_is more = more ∙ ap (λ n. old ++ n ∷ []) is_with

  module _ (either : Either old new (with_parts form size depth)) where
    pub added_keeps : Keeps old new
    added_keeps = by either
      where
        by : Either old new (with_parts form size depth) → Keeps old new
        by (inl same) = subst (Keeps old) (sym same) (λ kind types r t v h. h)
        by (inr more) = subst (Keeps old) (sym more) (kept_before old (with_parts form size depth ∷ []))

    pub added_sound : {limit : ℕ} → refers_below (length old) form ≡ true → FormFits limit old form → AreSound limit old → AreSound limit new
    added_sound {limit = limit} refers fits sound = by either
      where
        by : Either old new (with_parts form size depth) → AreSound limit new
        by (inl same) = subst (AreSound limit) (sym same) sound
        by (inr more) = subst (AreSound limit) (sym (added_is more)) (sound_behind old form sound refers fits)
