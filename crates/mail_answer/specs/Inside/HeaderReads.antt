-- The fields of a header while its lines are read into it.
use Rattle.std.specs.Prelude.{◌≡◌, ◌<◌, ℕ, List, ◌++◌, Option, IfSome, length}
use Rattle.mbox_cutter.specs.Lines.{lines}
use Rattle.header_text.specs.Headers.{HeaderField, fields_of}
use Rattle.header_text.specs.HeldLines.{HasLines}
use Rattle.header_text.specs.declared.header.Header.{Header}
use Rattle.header_text.specs.declared.header.Taken.{Taken}
use Rattle.header_text.specs.declared.header.Taken.TheVariants.{More, Ended}

-- the header was given lines with these fields
abbrev pub HasFields : Header → List HeaderField → Type 0
HasFields header fields = (ls : List (List ℕ)) × HasLines header ls × (fields_of ls ≡ fields)

-- the header will have these fields once it is given the lines that are still to come
abbrev pub WillHaveFields : Option (List ℕ) → Header → List HeaderField → Type 0
WillHaveFields coming header fields = IfSome coming
    (λ bytes. (ls : List (List ℕ)) × HasLines header ls × (fields_of (ls ++ lines bytes) ≡ fields))

-- The header will have these fields; if it has ended, it has them already.
abbrev pub HasFieldsAfter : Taken → Option (List ℕ) → Header → List HeaderField → Type 0
HasFieldsAfter More coming header fields = WillHaveFields coming header fields
HasFieldsAfter Ended coming header fields = IfSome coming (λ _. HasFields header fields)

-- fewer bytes are still to come, if they are known
abbrev pub IsShorter : Option (List ℕ) → Option (List ℕ) → Type 0
IsShorter old new = IfSome new (λ bytes. IfSome old (λ before. length bytes < length before))
