-- The query of a node, by its kind.
use Rattle.mail_answer.proofs.Words.{◌≡◌, ℕ, List, Vec, Global, rules, Kinds, Node, the_lemmas, Any, Word, Part, Prefix, Either, query_of, queries_of, members_of}
use Rattle.mail_query.specs.declared.node.Node as node

pub query_of-Any : query_of node.Any ≡ Any
query_of-Any = search (rules, the_lemmas)

pub query_of-Word : (kinds : Kinds) (text : List ℕ) → query_of (node.Word kinds text) ≡ Word kinds text
query_of-Word = search (rules, the_lemmas)

pub query_of-Part : (kinds : Kinds) (text : List ℕ) → query_of (node.Part kinds text) ≡ Part kinds text
query_of-Part = search (rules, the_lemmas)

pub query_of-Prefix : (kinds : Kinds) (text : List ℕ) → query_of (node.Prefix kinds text) ≡ Prefix kinds text
query_of-Prefix = search (rules, the_lemmas)

pub query_of-Either : (members : Vec Node Global) → query_of (node.Either members)
    ≡ Either (members_of (queries_of members.items))
query_of-Either = search (rules, the_lemmas)
