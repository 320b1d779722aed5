-- Rows for the laws: runs of the four programs with fuel at the edge, and words of the laws on short lists. Each holds by computing both
-- sides.
use Rattle.std.specs.Prelude.{◌≡◌, ℕ, List, [], ◌∷◌, ℤ, pos, negsuc, Some, None, refl}
use Rattle.core_terms.specs.Values.{Value, UnitV, IntV, NoV, AndV}
use Rattle.core_terms.specs.Terms.{Program}
use Rattle.ideal_meaning.specs.Run.{Run, Gives, Ends, first_in}
use Rattle.ideal_meaning.specs.Ideal.{Opened, Outcome, Done, Out, ideal, outcome}
use Rattle.ideal_meaning.specs.Headline.{call_values}
use Rattle.ideal_meaning.specs.Library.{bst, merkle}
use Rattle.ads_library.specs.Entries.{Entry, entry}
use Rattle.ads_library.specs.Maps.{argument_of, answer, last_value, distinct_keys}
use Rattle.ads_library.specs.SearchTree as search_tree
use Rattle.ads_library.specs.PlaceTree as place_tree
use Rattle.ads_library.specs.PlaceTree.{make_argument, element, list_after}
use Rattle.ads_library.specs.RedBlackTree as red_black
use Rattle.ads_library.specs.RedBlackProgram.{redblack}
use Rattle.ads_library.specs.SkipList as skip_list
use Rattle.ads_library.specs.SkipList.{level}
use Rattle.ads_library.specs.SkipListProgram.{skiplist}
use Rattle.ads_library.specs.ThousandPuts.{counted}

-- the value that a run gives; unit where it ends before
abbrev pub given : Run ⊥ (List Opened) Value → Value
given (Gives v k seen) = v
given (Ends stop k seen) = UnitV

-- the state of a map at first
abbrev pub emptied : Program → (empty_role fuel : ℕ) → Value
emptied P empty_role fuel = given (ideal P empty_role (AndV UnitV NoV) fuel)

-- the state after these puts, the newest first, each with so much fuel
abbrev pub state_after : Program → (put_role fuel : ℕ) → (start : Value) → (puts : List Entry) → Value
state_after P put_role fuel start [] = start
state_after P put_role fuel start (newest ∷ earlier) =
    first_in (given (ideal P put_role (call_values (state_after P put_role fuel start earlier) (argument_of newest)) fuel))

-- how a get of a key or a place ends
abbrev pub asked : Program → (get_role : ℕ) → (state : Value) → ℤ → (fuel : ℕ) → Outcome
asked P get_role state key fuel = outcome (ideal P get_role (call_values state (IntV key)) fuel)

-- `bst`: three keys, one below another
abbrev pub three : List Entry
three = entry (pos 3) (pos 30) ∷ entry (pos 2) (pos 20) ∷ entry (pos 1) (pos 10) ∷ []

abbrev pub after_three : Value
after_three = state_after bst search_tree.put_role 4 (emptied bst search_tree.empty_role 1) three

pub fourth_key_is_missing : asked bst search_tree.get_role after_three (pos 4) 5 ≡ Done (answer None)
fourth_key_is_missing = refl

pub fourth_key_wants_five : asked bst search_tree.get_role after_three (pos 4) 4 ≡ Out
fourth_key_wants_five = refl

pub third_key_is_found_with_four : asked bst search_tree.get_role after_three (pos 3) 4 ≡ Done (answer (Some (pos 30)))
third_key_is_found_with_four = refl

pub empty_wants_one : outcome (ideal bst search_tree.empty_role (AndV UnitV NoV) 0) ≡ Out
empty_wants_one = refl

pub keys_are_distinct : distinct_keys three ≡ 3
keys_are_distinct = refl

pub key_put_again_counts_once : distinct_keys (entry (pos 2) (pos 21) ∷ three) ≡ 3
key_put_again_counts_once = refl

pub newest_value_is_last : last_value (entry (pos 2) (pos 21) ∷ three) (pos 2) ≡ Some (pos 21)
newest_value_is_last = refl

pub other_value_stays : last_value (entry (pos 2) (pos 21) ∷ three) (pos 1) ≡ Some (pos 10)
other_value_stays = refl

pub no_value_was_put : last_value three (pos 4) ≡ None
no_value_was_put = refl

-- `merkle`: four places that hold 5
abbrev pub four_fives : Value
four_fives = given (ideal merkle place_tree.make_role (AndV (make_argument (pos 2) (pos 5)) NoV) 7)

pub four_places_want_seven : outcome (ideal merkle place_tree.make_role (AndV (make_argument (pos 2) (pos 5)) NoV) 6) ≡ Out
four_places_want_seven = refl

pub four_places_are_made_with_seven : outcome (ideal merkle place_tree.make_role (AndV (make_argument (pos 2) (pos 5)) NoV) 7) ≡ Done four_fives
four_places_are_made_with_seven = refl

pub last_place_is_found_with_four : asked merkle place_tree.get_role four_fives (pos 3) 4 ≡ Done (answer (Some (pos 5)))
last_place_is_found_with_four = refl

pub last_place_wants_four : asked merkle place_tree.get_role four_fives (pos 3) 3 ≡ Out
last_place_wants_four = refl

pub place_behind_is_missing_with_four : asked merkle place_tree.get_role four_fives (pos 4) 4 ≡ Done (answer None)
place_behind_is_missing_with_four = refl

pub list_has_the_newest :
    list_after (pos 2) (pos 5) (entry (pos 1) (pos 8) ∷ entry (pos 9) (pos 0) ∷ entry (pos 1) (pos 7) ∷ []) ≡ pos 5 ∷ pos 8 ∷ pos 5 ∷ pos 5 ∷ []
list_has_the_newest = refl

pub element_before_the_first_is_none : element (pos 5 ∷ []) (negsuc 0) ≡ None
element_before_the_first_is_none = refl

pub negative_exponent_is_none : list_after (negsuc 3) (pos 5) [] ≡ pos 5 ∷ []
negative_exponent_is_none = refl

-- `redblack`: the numbers from 1 to 100
abbrev pub red_black_100 : Value
red_black_100 = state_after redblack red_black.put_role 1000 (emptied redblack red_black.empty_role 100) (counted 100)

pub red_black_finds_77 : asked redblack red_black.get_role red_black_100 (pos 77) 1000 ≡ Done (answer (Some (pos 77)))
red_black_finds_77 = refl

pub red_black_lacks_101 : asked redblack red_black.get_role red_black_100 (pos 101) 1000 ≡ Done (answer None)
red_black_lacks_101 = refl

-- `skiplist`: the numbers from 1 to 40
abbrev pub skip_list_40 : Value
skip_list_40 = state_after skiplist skip_list.put_role 6000 (emptied skiplist skip_list.empty_role 100) (counted 40)

pub skip_list_finds_32 : asked skiplist skip_list.get_role skip_list_40 (pos 32) 6000 ≡ Done (answer (Some (pos 32)))
skip_list_finds_32 = refl

pub skip_list_lacks_41 : asked skiplist skip_list.get_role skip_list_40 (pos 41) 6000 ≡ Done (answer None)
skip_list_lacks_41 = refl

-- levels, by the plain function and by the program's own functions 2 and 3
pub level_of_0 : level (pos 0) ≡ 17
level_of_0 = refl

pub level_of_12 : level (pos 12) ≡ 3
level_of_12 = refl

pub level_of_minus_1 : level (negsuc 0) ≡ 1
level_of_minus_1 = refl

pub level_of_65536 : level (pos 65536) ≡ 17
level_of_65536 = refl

abbrev pub level_by_program : ℤ → Value
level_by_program key = given (ideal skiplist 3 (AndV (given (ideal skiplist 2 (AndV (IntV key) NoV) 1)) (AndV (IntV (pos 1)) NoV)) 17)

pub program_level_of_0 : level_by_program (pos 0) ≡ IntV (pos 17)
program_level_of_0 = refl

pub program_level_of_12 : level_by_program (pos 12) ≡ IntV (pos 3)
program_level_of_12 = refl

pub program_level_of_minus_1 : level_by_program (negsuc 0) ≡ IntV (pos 1)
program_level_of_minus_1 = refl

pub program_level_of_65536 : level_by_program (pos 65536) ≡ IntV (pos 17)
program_level_of_65536 = refl
