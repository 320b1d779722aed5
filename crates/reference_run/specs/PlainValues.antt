-- The values that the code holds, as ideal values of the definitions.
use Rattle.std.specs.Prelude.{List, [], ◌∷◌, map}
use Rattle.std.specs.String.{string_bytes}
use Rattle.core_terms.specs.Values.{Value, UnitV, BoolV, IntV, TextV, PairV, ConV, ItemsV, Values, NoV, AndV}
use Rattle.reference_run.specs.declared.values.Plain.{Plain}
use Rattle.reference_run.specs.declared.values.Plain.TheOpen.{Plain-F}
use Rattle.reference_run.specs.declared.values.Plain.TheFolds.{fold-Plain}

-- values in a row, from a list of them
abbrev pub row_of : List Value → Values
row_of [] = NoV
row_of (v ∷ vs) = AndV v (row_of vs)

-- the value, where its parts stand for these values already
abbrev pub value_from_parts : Plain-F Value → Value
value_from_parts Plain-F.UnitValue = UnitV
value_from_parts (Plain-F.BoolValue b) = BoolV b
value_from_parts (Plain-F.IntValue z) = IntV z
value_from_parts (Plain-F.TextValue text) = TextV (string_bytes text)
value_from_parts (Plain-F.PairValue x y) = PairV x.value y.value
value_from_parts (Plain-F.ConstructorValue tag fields) = ConV tag.0 (row_of fields.items)
value_from_parts (Plain-F.ItemsValue items) = ItemsV (row_of items.items)

abbrev pub plain_of : Plain → Value
plain_of = fold-Plain Value value_from_parts

abbrev pub plains_of : List Plain → Values
plains_of vs = row_of (map plain_of vs)
