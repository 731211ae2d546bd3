-- A header that is read line by line has the fields of the message, because lines after the empty line don't count.
use Rattle.mail_answer.proofs.Words.{◌≡◌, ℕ, zero, suc, ◌<◌, ◌≤◌, true, List, [], ◌∷◌, ◌++◌, Option, None, Some, IfSome, length, drop, refl, ap, sym, ◌∙◌, subst, append_assoc, append-nil, arith, lines, length-drop, first_length, first_length-le, first_length-positive, lines-cons, lines-nil, HeaderField, fields_of, lines_before_empty, HasFields, WillHaveFields, HasFieldsAfter, Record, TakesFirstLine, Table, excerpt, excerpt_lines, known_message, path_at, span, IsIfKnown, record_at, Excerpt}
use Rattle.std.specs.Io.KnownBytes.{prepend_known}
use Rattle.contract_words.specs.Knowledge.{still_known}
use Rattle.header_text.specs.HeldLines.{HasLines, taken_of}
use Rattle.header_text.specs.Stages.{has_empty}
use Rattle.header_text.specs.declared.header.Header.{Header}
use Rattle.header_text.specs.declared.header.Taken.{Taken}
use Rattle.header_text.specs.declared.header.Taken.TheVariants.{More, Ended}

-- lines after an empty one don't count
before_empty-more : (ls more : List (List ℕ)) → has_empty ls ≡ true → lines_before_empty (ls ++ more)
    ≡ lines_before_empty ls
before_empty-more [] more h = absurd (cc)
before_empty-more (k ∷ ks) more h = grind (arith, before_empty-more ks more)

fields_ended : (ls more : List (List ℕ)) → has_empty ls ≡ true → fields_of (ls ++ more) ≡ fields_of ls
unfolding fields_of
fields_ended = grind (arith, before_empty-more)

-- in this call the first line was taken, and this many bytes before it
abbrev TakesFrom : Option (List ℕ) → ℕ → List ℕ → Option (List ℕ) → Type 0
TakesFrom old n line new = IfSome new (λ after. (bytes : List ℕ) × (old ≡ Some bytes)
    × TakesFirstLine bytes n line after)

nothing : (b : List ℕ) → 0 ≡ first_length b → b ≡ []
nothing [] e = refl
nothing (x ∷ xs) e = grind (arith, first_length-positive)

-- the first line, and those after it
next_line : (bytes line after : List ℕ) (n : ℕ) → 0 < n → TakesFirstLine bytes n line after
    → lines bytes ≡ line ∷ lines after
next_line = grind (arith, lines-cons, first_length-le)

-- no line came any more
pub none_comes : (old new : Option (List ℕ)) (line : List ℕ) (h : Header) → TakesFrom old 0 line new
    → (fields : List HeaderField) → WillHaveFields old h fields → HasFieldsAfter Ended new h fields
none_comes old None line h t fields w = tt
none_comes old (Some after) line h t fields w = grind (arith, nothing, append-nil, lines-nil)

ended_is : (ls : List (List ℕ)) → Ended ≡ taken_of ls → has_empty ls ≡ true
ended_is = grind arith

-- the header was given the next line
pub line_given : (old new : Option (List ℕ)) (n : ℕ) (line : List ℕ) (h h' : Header) (taken : Taken)
    → TakesFrom old n line new → 0 < n → ((ls : List (List ℕ)) → HasLines h ls → HasLines h' (ls ++ line ∷ []))
    → ((ls : List (List ℕ)) → HasLines h ls → taken ≡ taken_of (ls ++ line ∷ []))
    → (fields : List HeaderField) → WillHaveFields old h fields → HasFieldsAfter taken new h' fields
line_given old None n line h h' More t some push told fields w = tt
line_given old None n line h h' Ended t some push told fields w = tt
line_given old (Some after) n line h h' taken t some push told fields w = given _ (told before.0 before.1)
  where
    before : (ls : List (List ℕ)) × HasLines h ls × (fields_of (ls ++ lines t.0) ≡ fields)
    before = subst (λ o. WillHaveFields o h fields) t.1 w

    whole : fields_of ((before.0 ++ line ∷ []) ++ lines after) ≡ fields
    whole = ap fields_of (append_assoc before.0 (line ∷ []) (lines after)
        ∙ ap (λ ls. before.0 ++ ls) (sym (next_line _ _ _ n some t.2))) ∙ before.2

    given : (t : Taken) → t ≡ taken_of (before.0 ++ line ∷ []) → HasFieldsAfter t (Some after) h' fields
    given More e = (before.0 ++ line ∷ [], push before.0 before.1, whole)
    given Ended e = (
      before.0 ++ line ∷ [],
      push before.0 before.1,
      sym (fields_ended _ _ (ended_is (before.0 ++ line ∷ []) e)) ∙ whole,
    )

-- the first line was passed, and the header has no line yet
pub first_passed : (old new : Option (List ℕ)) (n : ℕ) (line : List ℕ) (h : Header) → TakesFrom old n line new
    → HasLines h [] → IfSome old (λ bytes. WillHaveFields new h (fields_of (drop 1 (lines bytes))))
first_passed None new n line h t none = tt
first_passed (Some bytes) None n line h t none = tt
first_passed (Some bytes) (Some after) zero line h t none = ([], none, grind (arith, nothing, lines-nil))
first_passed (Some bytes) (Some after) (suc n) line h t none =
    ([], none, grind (arith, next_line _ _ _ _ (omega arith) t.2))

-- no more bytes come after a line than before it
pub fewer_come : (old new : Option (List ℕ)) (n : ℕ) (line : List ℕ) (most : ℕ) → TakesFrom old n line new
    → IfSome old (λ bytes. length bytes ≤ most) → IfSome new (λ bytes. length bytes ≤ most)
fewer_come old None n line most t few = tt
fewer_come old (Some after) n line most t few = grind (arith, length-drop)

-- a header that will have the fields has them once no byte is left
pub has_all : (known new : Option (List ℕ)) (h : Header) (fields : List ℕ → List HeaderField) (most : ℕ) → most ≤ 0
    → IfSome new (λ bytes. length bytes ≤ most) → IfSome known (λ bytes. WillHaveFields new h (fields bytes))
    → IfSome known (λ bytes. HasFieldsAfter Ended new h (fields bytes))
has_all None new h fields most none few w = tt
has_all (Some b) None h fields most none few w = tt
has_all (Some b) (Some []) h fields most none few w = grind (arith, append-nil, lines-nil)
has_all (Some b) (Some (x ∷ xs)) h fields most none few w = absurd (omega arith)

-- the header has the fields, if something is still known
pub has_fields : (known now : Option (List ℕ)) (unread : List ℕ) (h : Header) (fields : List ℕ → List HeaderField)
    → IfSome known (λ bytes. HasFieldsAfter Ended (prepend_known unread now) h (fields bytes))
    → IfSome (still_known known now) (λ bytes. HasFields h (fields bytes))
has_fields known None unread h fields ended = tt
has_fields None (Some now) unread h fields ended = tt
has_fields (Some bytes) (Some now) unread h fields ended = ended

-- the excerpt of a message, from a header that has its fields
pub excerpt_told : (t : Table) (held : Option (List (List ℕ))) (n : ℕ) (m : Record) (path text : List ℕ) (h : Header)
    → m ≡ record_at t.messages n → path ≡ path_at t.archives m.archive
    → IfSome held (λ archives. HasFields h (fields_of (drop 1 (lines (span archives m)))))
    → ((ls : List (List ℕ)) → HasLines h ls → text ≡ path ++ 10 ∷ excerpt_lines (fields_of ls))
    → IsIfKnown (known_message Excerpt t held n) text
unfolding excerpt
excerpt_told t None n m path text h e p f w = tt
excerpt_told t (Some archives) n m path text h e p f w = grind arith
