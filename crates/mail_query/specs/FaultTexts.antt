-- The text that reports each fault of a query.
use Rattle.std.specs.Prelude.{ℕ, List, ◌∷◌, ◌++◌, codes}
use Rattle.std.specs.Fmt.{decimal}
use Rattle.mail_query.specs.declared.fault.QueryFault.{QueryFault}
use Rattle.mail_query.specs.declared.fault.QueryFaultKind.{QueryFaultKind}
use Rattle.mail_query.specs.declared.fault.QueryFaultKind.TheVariants.{NoPattern, BadPrefix, BadWord, Approximate}
use Rattle.mail_query.specs.declared.fault.QueryFaultKind.TheVariants.{BadDate, BadSize, BadFlag, NeedsOperator}
use Rattle.mail_query.specs.declared.fault.QueryFaultKind.TheVariants.{BadParenthesis, MissingTerm, TooDeep, Phrase}

-- the text of a kind of fault
abbrev pub text_of_kind : QueryFaultKind → List ℕ
text_of_kind NoPattern = codes "no pattern"
text_of_kind BadPrefix = codes "bad prefix"
text_of_kind BadWord = codes "bad word"
text_of_kind Approximate = codes "approximate match not supported"
text_of_kind BadDate = codes "bad date"
text_of_kind BadSize = codes "bad size"
text_of_kind BadFlag = codes "bad flag"
text_of_kind NeedsOperator = codes "operator needed"
text_of_kind BadParenthesis = codes "bad parenthesis"
text_of_kind MissingTerm = codes "term missing"
text_of_kind TooDeep = codes "too deep"
text_of_kind Phrase = codes "phrase not supported"

-- the text of a fault, such as `query item 2: bad word`; numbers count from 1
abbrev pub text_of_query : QueryFault → List ℕ
text_of_query fault = codes "query item " ++ decimal fault.number ++ 58 ∷ 32 ∷ text_of_kind fault.kind
