-- The grammar of boolean queries: the trees that can be written, the tokens of each tree, and the query that it means.
use Rattle.std.specs.Prelude.{◌≡◌, ℕ, ◌+◌, Bool, not, ◌&&◌, nat_lt, IsTrue, is_ok, List, [], ◌∷◌, ◌++◌, map, Option}
use Rattle.std.specs.Prelude.{None, Result, Ok, Err, option_and_then}
use Rattle.mail_query.specs.declared.boolean.field.Field.{Field}
use Rattle.mail_query.specs.declared.boolean.field.Fields.{Fields}
use Rattle.mail_query.specs.declared.fault.QueryFaultKind.{QueryFaultKind}
use Rattle.mail_query.specs.Lexicon.{Lexicon}
use Rattle.mail_query.specs.Query.{Query, Any, Not, all_of, either_of}
use Rattle.mail_query.specs.Tokens.{Token, Open, Close, AndSign, OrSign, NotSign, Term}
use Rattle.mail_query.specs.BooleanTerms.{parts_of, TermParts, no_fields, has_field, with_field, boolean_term_query}

-- what joins an operand to the next one: nothing, `and`, or `or`
pub data Link : Type 0 where
  Beside ByAnd ByOr : Link

mutual
  -- an operand: `not` with an operand, a group in parentheses, or a term
  pub data Item : Type 0 where
    NotOf : Item → Item
    Group : Chain → Item
    Leaf : List ℕ → Item

  -- one or more operands, each with what joins it to the next
  pub data Chain : Type 0 where
    Last : Item → Chain
    Then : Item → Link → Chain → Chain

-- ---- the tokens of a tree

-- the tokens between two operands
abbrev pub link_tokens : Link → List Token
link_tokens Beside = []
link_tokens ByAnd = AndSign ∷ []
link_tokens ByOr = OrSign ∷ []

-- The tokens of an operand, and of a chain of operands:
-- some = "not" some | "(" either ")" | term
-- either = each *("or" each), each = some *(["and"] some)
abbrev mutual
  pub item_tokens : Item → List Token
  item_tokens (NotOf i) = NotSign ∷ item_tokens i
  item_tokens (Group c) = Open ∷ (chain_tokens c ++ Close ∷ [])
  item_tokens (Leaf t) = Term t ∷ []

  pub chain_tokens : Chain → List Token
  chain_tokens (Last i) = item_tokens i
  chain_tokens (Then i l c) = item_tokens i ++ (link_tokens l ++ chain_tokens c)

-- ---- the query of a tree

-- alternatives, each as a list of its members, with q before the members of the first
abbrev pub into_first : Query → List (List Query) → List (List Query)
into_first q [] = (q ∷ []) ∷ []
into_first q (qs ∷ qss) = (q ∷ qs) ∷ qss

-- alternatives with q joined before them; `or` makes it one of its own, because it binds weaker than `and` or nothing
abbrev pub with_link : Link → Query → List (List Query) → List (List Query)
with_link Beside q qss = into_first q qss
with_link ByAnd q qss = into_first q qss
with_link ByOr q qss = (q ∷ []) ∷ qss

-- the query of a result; if it is an error, Any
abbrev pub query_or_any : Result Query QueryFaultKind → Query
query_or_any (Ok q) = q
query_or_any (Err e) = Any

-- the prefix of a term, if it has one
abbrev pub term_prefix : List ℕ → Option Field
term_prefix t = option_and_then (λ (p : TermParts). p.prefix) (parts_of t)

-- the prefix of an operand that is a term; any other operand has none
abbrev pub plain_prefix : Item → Option Field
plain_prefix (Leaf t) = term_prefix t
plain_prefix _ = None

-- the prefixes of the plain terms since the last operator, after one more operand and what joins it to the next
abbrev pub seen_after : Item → Link → Fields → Fields
seen_after i Beside seen = with_field (plain_prefix i) seen
seen_after i _ seen = no_fields

module _ (lexicon : Lexicon) where
  abbrev mutual
    -- the query of an operand
    pub item_query : Item → Query
    item_query (NotOf i) = Not (item_query i)
    item_query (Group c) = either_of (map all_of (chain_queries c))
    item_query (Leaf t) = query_or_any (boolean_term_query lexicon t)

    -- the alternatives of a chain, each as a list of its members
    pub chain_queries : Chain → List (List Query)
    chain_queries (Last i) = (item_query i ∷ []) ∷ []
    chain_queries (Then i l c) = with_link l (item_query i) (chain_queries c)

  -- the query of a chain: any of its alternatives
  abbrev pub tree_query : Chain → Query
  tree_query c = either_of (map all_of (chain_queries c))

  -- ---- which trees are allowed

  -- Whether an operand, or a chain, inside n open `(` and `not` is allowed. At most 30 may be open, and each term must
  -- mean a query. No plain term may have the prefix of another one since the last operator. `seen` has the prefixes
  -- before it.
  abbrev mutual
    pub is_fine_item : Item → ℕ → Fields → Bool
    is_fine_item (NotOf i) n seen = nat_lt n 30 && is_fine_item i (n + 1) no_fields
    is_fine_item (Group c) n seen = nat_lt n 30 && is_fine_chain c (n + 1) no_fields
    is_fine_item (Leaf t) n seen = not (has_field seen (term_prefix t)) && is_ok (boolean_term_query lexicon t)

    pub is_fine_chain : Chain → ℕ → Fields → Bool
    is_fine_chain (Last i) n seen = is_fine_item i n seen
    is_fine_chain (Then i l c) n seen = is_fine_item i n seen && is_fine_chain c n (seen_after i l seen)

  -- the tokens are those of an allowed tree whose query is q
  pub record Reads (ts : List Token) (q : Query) : Type 0 where
    pub tree : Chain
    pub spelled : chain_tokens tree ≡ ts
    pub fine : IsTrue (is_fine_chain tree 0 no_fields)
    pub asked : tree_query tree ≡ q
