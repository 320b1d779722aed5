-- print::print and its functions
pub mod LineLemmas
pub mod TreeTokens
pub mod PrintedForms
-- the lengths of texts in printing::leaf_lengths
pub mod PrintedTexts
-- printing::leaves and printing; Composites has the measure of its cycle, and of that of printing::counts
pub mod PrintedFronts
pub mod Composites
-- printing::lengths: BareTypes has the types whose values are spelled by nothing
pub mod CountedLengths
pub mod BareTypes
-- printing::leaf_lengths and printing::counts
pub mod CountedFronts
-- the laws printed_is_read_back and parsed_is_read_back of programs
mod PrintedTokens
mod BeginAnywhere
mod TokensOfTexts
mod TokensOfBothFormats
mod PrintedLines
mod PrintedFormats
mod MovedTrees
mod PartsWithoutPlaces
mod PrintedProgramsRead
-- the law printing::reading_back of printed values
mod PrintedValuesRead
-- literal::value
pub mod LiteralSpellings
-- literal::whole and parse_literal
pub mod LiteralReadings
-- the law literals_are_read_back
pub mod TokenValues
pub mod LiteralsReadBack
-- the definitions, computed on values and texts
mod LiteralRows
mod PrintedRows
mod PrintedProgramRows
-- the law literals_are_by_their_tokens
mod RuledReadings
mod LiteralsByTokens
