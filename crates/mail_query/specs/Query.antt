-- Queries as plain values, without the memory that the program keeps them in.
use Rattle.std.specs.Prelude.{ℕ, suc, max, Bool, List, [], ◌∷◌, ◌++◌, map, Option}
use Rattle.std.specs.List.{list_any}
use Rattle.mail_words.specs.declared.flags.Flag.{Flag}
use Rattle.mail_dates.specs.declared.range.Range.{Range}
use Rattle.mail_query.specs.declared.kinds.Kinds.{Kinds}
use Rattle.mail_query.specs.declared.node.Node.{Node, fold-Node}
use Rattle.mail_query.specs.declared.node.Node.TheOpen.{Node-F}

mutual
  -- a condition that a message satisfies or doesn't; `Truth` says when it does
  pub data Query : Type 0 where
    Any : Query
    Word : Kinds → List ℕ → Query
    Part : Kinds → List ℕ → Query
    Prefix : Kinds → List ℕ → Query
    Date : Range → Query
    Size : ℕ → Option ℕ → Query
    HasFlag : Flag → Bool → Query
    Not : Query → Query
    All : Queries → Query
    Either : Queries → Query

  -- the members of All and Either
  pub data Queries : Type 0 where
    End : Queries
    More : Query → Queries → Queries

-- the queries of a list, as members
abbrev pub members_of : List Query → Queries
members_of [] = End
members_of (q ∷ qs) = More q (members_of qs)

-- all of the queries; a single one is taken as it is
abbrev pub all_of : List Query → Query
all_of [] = All End
all_of (q ∷ []) = q
all_of (q ∷ r ∷ qs) = All (More q (More r (members_of qs)))

-- any of the queries; a single one is taken as it is
abbrev pub either_of : List Query → Query
either_of [] = Either End
either_of (q ∷ []) = q
either_of (q ∷ r ∷ qs) = Either (More q (More r (members_of qs)))

-- how many levels a query has, and the deepest of its members
abbrev mutual
  pub depth : Query → ℕ
  depth (Not q) = suc (depth q)
  depth (All qs) = suc (deepest qs)
  depth (Either qs) = suc (deepest qs)
  depth _ = 1

  pub deepest : Queries → ℕ
  deepest End = 0
  deepest (More q qs) = max (depth q) (deepest qs)

-- the set of kinds of each node that looks for a text
abbrev mutual
  pub kinds_sought : Query → List Kinds
  kinds_sought (Word kinds text) = kinds ∷ []
  kinds_sought (Part kinds text) = kinds ∷ []
  kinds_sought (Prefix kinds text) = kinds ∷ []
  kinds_sought (Not q) = kinds_sought q
  kinds_sought (All qs) = kinds_inside qs
  kinds_sought (Either qs) = kinds_inside qs
  kinds_sought _ = []

  pub kinds_inside : Queries → List Kinds
  kinds_inside End = []
  kinds_inside (More q qs) = kinds_sought q ++ kinds_inside qs

-- whether one of the sets includes the names of attachments
abbrev pub have_names : List Kinds → Bool
have_names sets = list_any (λ kinds. kinds.name) sets

-- whether a query searches the names of attachments
abbrev pub uses_names : Query → Bool
uses_names q = have_names (kinds_sought q)

-- ---- the query of a node

-- the query of one level, given the queries of the nodes inside it
abbrev pub query_step : Node-F Query → Query
query_step Node-F.Any = Any
query_step (Node-F.Word kinds text) = Word kinds text
query_step (Node-F.Part kinds text) = Part kinds text
query_step (Node-F.Prefix kinds text) = Prefix kinds text
query_step (Node-F.Date range) = Date range
query_step (Node-F.Size low high) = Size low high
query_step (Node-F.Flag flag wanted) = HasFlag flag wanted
query_step (Node-F.Not inner) = Not inner.value
query_step (Node-F.All members) = All (members_of members.items)
query_step (Node-F.Either members) = Either (members_of members.items)

-- the query that a node of the program means
abbrev pub query_of : Node → Query
query_of = fold-Node Query query_step

-- the queries of nodes
abbrev pub queries_of : List Node → List Query
queries_of nodes = map query_of nodes
