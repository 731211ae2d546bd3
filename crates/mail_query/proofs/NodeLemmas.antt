-- The query of a node, for each kind of node.
use Rattle.mail_query.proofs.Words.{◌≡◌, Bool, Box, Global, List, [], ◌∷◌, ◌++◌, refl, rules, Flag, HasFlag, Not, query_of, queries_of}
use Rattle.mail_query.specs.declared.node.Node as node
use Rattle.mail_query.specs.declared.node.Node.{Node, the_lemmas}

pub query_of-Flag : (flag : Flag) (wanted : Bool) → query_of (node.Flag flag wanted) ≡ HasFlag flag wanted
query_of-Flag flag wanted = search (rules, the_lemmas)

pub query_of-Not : (inner : Box Node Global) → query_of (node.Not inner) ≡ Not (query_of inner.value)
query_of-Not inner = search (rules, the_lemmas)

pub queries_of-push : (nodes : List Node) (node : Node) → queries_of (nodes ++ node ∷ [])
    ≡ queries_of nodes ++ query_of node ∷ []
queries_of-push [] node = refl
queries_of-push (n ∷ nodes) node = cc (queries_of-push nodes node)
