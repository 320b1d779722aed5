-- The type of a node, by its form and the types of its parts.
use Rattle.std.specs.Prelude.{ℕ, ◌%◌, List, [], ◌∷◌, length, slice_index_or}
use Rattle.core_terms.specs.declared.types.TyId.{TyId}
use Rattle.core_terms.specs.declared.types.TyForm.{TyForm}
use Rattle.core_terms.specs.declared.types.TyForm.TheVariants.{UnitForm, BoolForm, IntForm, TextForm, AuthForm, PairForm, NamedForm, VecForm}
use Rattle.value_store.specs.Nodes.{Held, InnerHeld, BothHeld, OnlyHeld, Form, UnitNode, BoolNode, IntNode, TextNode, PairNode, ConNode, AuthNode, VecNode}
use Rattle.value_store.specs.declared.node.Ref.{Ref}
use Rattle.images.specs.SavedRecords.{number_or_first}
use Rattle.images.specs.declared.save.records.Records.{Records}

-- the first number of a type, which stands for one that isn't known
abbrev pub no_type : TyId
no_type = record { 0 = 0 }

-- the type of a node, by the types of the records
abbrev pub id_in : List TyId → Records → ℕ → TyId
id_in known records r = slice_index_or known (number_or_first records r) no_type

abbrev pub held_told : (ℕ → TyId) → Held → TyForm
held_told id (InnerHeld inner) = AuthForm (id inner)
held_told id (BothHeld digest inner) = AuthForm (id inner)
held_told id (OnlyHeld digest) = UnitForm

-- of an array, by its first element
abbrev pub items_told : (ℕ → TyId) → List ℕ → TyForm
items_told id [] = UnitForm
items_told id (r ∷ rs) = VecForm (length (r ∷ rs) % 256) (id r)

-- the form of the type of a node
abbrev pub form_told : (ℕ → TyId) → Form → TyForm
form_told id UnitNode = UnitForm
form_told id (BoolNode b) = BoolForm
form_told id (IntNode z) = IntForm
form_told id (TextNode bytes) = TextForm
form_told id (PairNode first second) = PairForm (id first) (id second)
form_told id (ConNode number tag fields) = NamedForm (record { 0 = number })
form_told id (AuthNode held) = held_told id held
form_told id (VecNode items) = items_told id items

abbrev pub held_inner : TyId → Held → List (TyId × Ref)
held_inner ty (InnerHeld inner) = (ty, record { 0 = inner }) ∷ []
held_inner ty (BothHeld digest inner) = (ty, record { 0 = inner }) ∷ []
held_inner ty (OnlyHeld digest) = []

abbrev pub of_form : TyId → Form → List (TyId × Ref)
of_form ty (AuthNode held) = held_inner ty held
of_form ty form = []

-- the type and the node of what is authenticated
abbrev pub inner_told : TyForm → Form → List (TyId × Ref)
inner_told (AuthForm ty) form = of_form ty form
inner_told told form = []
