-- The kinds of roles, by the words that declare them.
use Rattle.core_terms.specs.Terms.{Kind, Inner, Init, Query, Update}
use Rattle.auth_syntax.specs.Syntax.{KindSyntax, InnerSyntax, InitSyntax, QuerySyntax, UpdateSyntax}

abbrev pub kind_meant : KindSyntax → Kind
kind_meant InnerSyntax = Inner
kind_meant InitSyntax = Init
kind_meant QuerySyntax = Query
kind_meant UpdateSyntax = Update
