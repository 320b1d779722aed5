-- What values stand for, by their forms.
use Rattle.std.proofs.Common.{◌≡◌, ℤ, Bool, ap, sym, ◌∙◌, Vec}
use Rattle.std.specs.declared.alloc.Global.{Global}
use Rattle.std.specs.declared.boxed.Box.{Box}
use Rattle.std.specs.declared.string.String.{String}
use Rattle.std.specs.String.{string_bytes}
use Rattle.core_terms.specs.Values.{UnitV, BoolV, IntV, PairV, ConV, TextV, ItemsV}
use Rattle.core_terms.specs.declared.types.Tag.{Tag}
use Rattle.reference_run.specs.PlainValues.{plain_of, plains_of}
use Rattle.reference_run.specs.declared.values.Plain as plain
use Rattle.reference_run.specs.declared.values.Plain.{Plain}
use Rattle.reference_run.specs.declared.values.Plain.TheVariants.{rolls-UnitValue, rolls-BoolValue, rolls-IntValue, rolls-TextValue, rolls-PairValue, rolls-ConstructorValue, rolls-ItemsValue}
use Rattle.reference_run.specs.declared.values.Plain.TheFolds.{fold-roll-Plain}

pub plain-UnitValue : plain_of plain.UnitValue ≡ UnitV
plain-UnitValue = ap plain_of (sym rolls-UnitValue) ∙ fold-roll-Plain _ _ _

pub plain-BoolValue : (b : Bool) → plain_of (plain.BoolValue b) ≡ BoolV b
plain-BoolValue b = ap plain_of (sym (rolls-BoolValue b)) ∙ fold-roll-Plain _ _ _

pub plain-IntValue : (z : ℤ) → plain_of (plain.IntValue z) ≡ IntV z
plain-IntValue z = ap plain_of (sym (rolls-IntValue z)) ∙ fold-roll-Plain _ _ _

pub plain-TextValue : (text : String Global) → plain_of (plain.TextValue text) ≡ TextV (string_bytes text)
plain-TextValue text = ap plain_of (sym (rolls-TextValue text)) ∙ fold-roll-Plain _ _ _

pub plain-PairValue : (x y : Box Plain Global) → plain_of (plain.PairValue x y) ≡ PairV (plain_of x.value) (plain_of y.value)
plain-PairValue x y = ap plain_of (sym (rolls-PairValue x y)) ∙ fold-roll-Plain _ _ _

pub plain-ConstructorValue : (tag : Tag) (fields : Vec Plain Global) → plain_of (plain.ConstructorValue tag fields) ≡ ConV tag.0 (plains_of fields.items)
plain-ConstructorValue tag fields = ap plain_of (sym (rolls-ConstructorValue tag fields)) ∙ fold-roll-Plain _ _ _

pub plain-ItemsValue : (items : Vec Plain Global) → plain_of (plain.ItemsValue items) ≡ ItemsV (plains_of items.items)
plain-ItemsValue items = ap plain_of (sym (rolls-ItemsValue items)) ∙ fold-roll-Plain _ _ _
