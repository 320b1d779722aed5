-- the text of written types, of both laws
mod WrittenTexts
mod KnownTypes
mod TextsOfTables
-- the law types_text_is_printed
mod LinesOfTypes
mod TypesPrinted
-- the law equal_texts_are_equal_tables
mod SpelledTypes
mod WordsApart
mod TypesApart
mod DeclarationsApart
mod TablesOfTexts
-- the definitions, computed on declarations
mod TypeTextRows
