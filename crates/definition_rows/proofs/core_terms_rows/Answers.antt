use Rattle.definition_rows.proofs.TypeRows.{type_rows}
use Rattle.definition_rows.proofs.FormatRows.{format_rows}
use Rattle.definition_rows.proofs.ValueRows.{value_rows}
use Rattle.definition_rows.proofs.SpellingRows.{spelling_rows}
use Rattle.definition_rows.proofs.TreeRows.{tree_rows}
use Rattle.definition_rows.proofs.MarkRows.{mark_rows}
use Rattle.definition_rows.proofs.RoleRows.{role_rows}
use Rattle.definition_rows.proofs.TermRows.{term_rows}
use Rattle.definition_rows.proofs.RuleRows.{rule_rows}
use Rattle.definition_rows.proofs.FaultRows.{fault_rows}
use Rattle.definition_rows.proofs.ArrayRows.{array_rows}
use Rattle.definition_rows.proofs.FrontRows.{front_rows}
use Rattle.definition_rows.proofs.core_terms_rows.Goals as goal

pub returns : goal.returns
returns c = record { types = type_rows; formats = format_rows; values = value_rows; spellings = spelling_rows; trees = tree_rows; marks = mark_rows; roles = role_rows; terms = term_rows; rules = rule_rows; faults = fault_rows; arrays = array_rows; fronts = front_rows }
