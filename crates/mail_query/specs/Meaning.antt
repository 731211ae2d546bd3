-- The query that a value of the program's type `Query` means.
use Rattle.mail_query.specs.declared.query.Query as program
use Rattle.mail_query.specs.Query.{Query, query_of}

-- the query of its tree
abbrev pub meaning : program.Query → Query
meaning query = query_of query.root
