-- How the lines that a MessageText has read relate to the texts that it gives.
use Rattle.std.specs.Prelude.{◌≡◌, ℕ, Bool, false, List, [], ◌∷◌, ◌++◌}
use Rattle.mail_words.specs.declared.kind.TextKind.{TextKind}
use Rattle.mime_text.specs.declared.fault.SinkFault.{SinkFault}
use Rattle.mime_text.specs.declared.fault.TextFault.{TextFault}
use Rattle.mime_text.specs.declared.message_text.MessageText.{MessageText}
use Rattle.mime_text.specs.Sinks.{Pair, ComingPairs, TakesAll, Breaks}
use Rattle.mime_text.specs.Texts.{texts_of_message}
use Rattle.mime_text.specs.Feeding.{Comes, KnowsFacts}

-- whether an earlier call has failed, or the message has ended
abbrev pub has_ended : MessageText → Bool
has_ended m = m.ended

-- It has read these lines and given these pairs: whatever lines come, the message's texts are these pairs, and then
-- those that it still gives. Its facts are right too, if they are known already.
pub record Fed (m : MessageText) (ls : List (List ℕ)) (ps : List Pair) : Type 0 where
  pub live : m.ended ≡ false
  pub coming : ComingPairs
  pub comes : Comes m.reader coming
  pub texts : (ms : List (List ℕ)) → texts_of_message (ls ++ ms) ≡ ps ++ coming ms
  pub facts : KnowsFacts m.reader ls

module _ {S : Type 0} (takes : S → TextKind → List ℕ → S → Type 0)
    (refuses : S → TextKind → List ℕ → SinkFault → S → Type 0) where
  -- the sink took some pairs; whatever lines m was fed before, n was fed this line too, and gave these pairs too
  pub record Feeds (m n : MessageText) (l : List ℕ) (old new : S) : Type 0 where
    pub pairs : List Pair
    pub taken : TakesAll takes refuses pairs old new
    pub fed : (ls : List (List ℕ)) (ps : List Pair) → Fed m ls ps → Fed n (ls ++ l ∷ []) (ps ++ pairs)

  -- the sink was given some pairs, and then a fault came: after the pairs given before, the message's texts go on with
  -- these, whatever was fed before and whatever lines come after this one
  pub record FeedsPart (m : MessageText) (l : List ℕ) (fault : TextFault) (old new : S) : Type 0 where
    pub pairs : List Pair
    pub broken : Breaks takes refuses fault pairs old new
    pub front : (ls : List (List ℕ)) (ps : List Pair) → Fed m ls ps → (ms : List (List ℕ)) → (later : List Pair)
        × (texts_of_message (ls ++ l ∷ ms) ≡ (ps ++ pairs) ++ later)

  -- the sink took the pairs that were left: with those given before, they are the texts of the whole message
  pub record FinishesTexts (m : MessageText) (old new : S) : Type 0 where
    pub pairs : List Pair
    pub taken : TakesAll takes refuses pairs old new
    pub whole : (ls : List (List ℕ)) (ps : List Pair) → Fed m ls ps → texts_of_message ls ≡ ps ++ pairs

  -- the sink was given some of the pairs that were left, and then a fault came
  pub record FinishesPart (m : MessageText) (fault : TextFault) (old new : S) : Type 0 where
    pub pairs : List Pair
    pub broken : Breaks takes refuses fault pairs old new
    pub front : (ls : List (List ℕ)) (ps : List Pair) → Fed m ls ps → (later : List Pair)
        × (texts_of_message ls ≡ (ps ++ pairs) ++ later)
