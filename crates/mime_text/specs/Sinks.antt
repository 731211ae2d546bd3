-- What a sink is given: texts, each with its kind, one after another.
use Rattle.std.specs.Prelude.{◌≡◌, ℕ, List, [], ◌∷◌, ◌++◌, Result}
use Rattle.std.specs.Result.{MatchResult}
use Rattle.mail_words.specs.declared.kind.TextKind.{TextKind}
use Rattle.mail_words.specs.declared.kind.TextKind.TheVariants as kind
use Rattle.mime_text.specs.Limits.{most_in_line_text, most_in_header_text}
use Rattle.mime_text.specs.declared.fault.SinkFault.{SinkFault}
use Rattle.mime_text.specs.declared.fault.TextFault.{TextFault}
use Rattle.mime_text.specs.declared.fault.TextFault.TheVariants.{OutOfMemory, Sink, Failed}

-- the most bytes of a text of this kind: three for each byte that is kept of a header, or for each byte of a line
abbrev pub most_in_text : TextKind → ℕ
most_in_text kind.Body = most_in_line_text
most_in_text _ = most_in_header_text

-- a text after its kind
abbrev pub Pair : Type 0
Pair = TextKind × List ℕ

-- the pairs that come, for the lines to come
abbrev pub ComingPairs : Type 0
ComingPairs = List (List ℕ) → List Pair

module _ {S : Type 0} (takes : S → TextKind → List ℕ → S → Type 0)
    (refuses : S → TextKind → List ℕ → SinkFault → S → Type 0) where
  -- the sink takes these pairs, one after another
  abbrev pub TakesAll : List Pair → S → S → Type 0
  TakesAll [] old new = new ≡ old
  TakesAll (p ∷ ps) old new = (next : S) × takes old p.0 p.1 next × TakesAll ps next new

  -- the sink takes these pairs, and then a fault comes: memory runs out after them, or the sink refuses the last of
  -- them
  abbrev pub Breaks : TextFault → List Pair → S → S → Type 0
  Breaks OutOfMemory ps old new = TakesAll ps old new
  Breaks (Sink fault) ps old new =
      (front : List Pair) × (last : Pair) × (reached : S) × (ps ≡ front ++ last ∷ []) × TakesAll front old reached
      × refuses reached last.0 last.1 fault new
  Breaks Failed ps old new = ⊥

  -- the sink takes the first of the pairs to come; the others come after the call
  pub record Gave (before after : ComingPairs) (old new : S) : Type 0 where
    pub pairs : List Pair
    pub taken : TakesAll pairs old new
    pub rest : (ms : List (List ℕ)) → before ms ≡ pairs ++ after ms

  -- the sink is given the first of the pairs to come, and then a fault comes
  pub record Broke (before : ComingPairs) (fault : TextFault) (old new : S) : Type 0 where
    pub pairs : List Pair
    pub broken : Breaks fault pairs old new
    pub front : (ms : List (List ℕ)) → (later : List Pair) × (before ms ≡ pairs ++ later)

  -- a call gives the sink what comes, except what still comes after the call; at a fault it has given some of it
  abbrev pub Hands : {T : Type 0} → ComingPairs → ComingPairs → Result T TextFault → S → S → Type 0
  Hands before after result old new = MatchResult result (λ _. Gave before after old new)
      (λ fault. Broke before fault old new)
