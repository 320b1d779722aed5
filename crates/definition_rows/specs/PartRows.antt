-- What stands for the parts of a value of another form, for a local and for an arm that isn't there (`Run`, `Checked`): they have no meaning, as no
-- typed program asks for them. Each equation holds by computing both sides.
use Rattle.std.specs.Prelude.{◌≡◌, [], pos, true, false}
use Rattle.core_terms.specs.Values.{UnitV, BoolV, NoV}
use Rattle.core_terms.specs.Terms.{BoolE, MatchE, NoArm}
use Rattle.ideal_meaning.specs.Run.{Gives, bool_in, fields_in, first_in, int_in, local, second_in, tag_in, text_in}
use Rattle.ideal_meaning.specs.Checked.{digest_in}
use Rattle.ideal_meaning.specs.ExampleRuns.{alone}

pub record PartRows : Type 0 where
  pub parts_of_no_pair : (first_in (BoolV true) ≡ UnitV) × (second_in (BoolV true) ≡ UnitV)
  pub bool_of_no_bool : bool_in UnitV ≡ false
  pub int_of_no_int : int_in UnitV ≡ pos 0
  pub text_of_no_text : text_in UnitV ≡ []
  pub tag_and_fields_of_no_constructor : (tag_in UnitV ≡ 0) × (fields_in UnitV ≡ NoV)
  pub digest_of_no_digest : digest_in UnitV ≡ []
  pub local_that_is_not_there : local NoV 0 ≡ UnitV
  pub arm_that_is_not_there : alone (MatchE 0 (BoolE true) NoArm) ≡ Gives UnitV 0 []
