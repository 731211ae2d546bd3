-- How a sink changes when a text is given to it.
use Rattle.std.specs.Prelude.{◌≡◌, ℕ, List, Result}
use Rattle.std.specs.Result.{MatchResult}
use Rattle.mail_words.specs.declared.kind.TextKind.{TextKind}
use Rattle.mime_text.specs.declared.fault.SinkFault.{SinkFault}
use Rattle.mime_text.specs.declared.fault.TextFault.{TextFault}
use Rattle.mime_text.specs.declared.fault.TextFault.TheVariants.{OutOfMemory, Sink, Failed}

module _ {S : Type 0} (takes : S → TextKind → List ℕ → S → Type 0)
    (refuses : S → TextKind → List ℕ → SinkFault → S → Type 0) where
  -- no text was taken: memory ran out before it was given and the sink is as before, or the sink refused it
  abbrev pub Stops : TextFault → TextKind → List ℕ → S → S → Type 0
  Stops OutOfMemory kind text old new = new ≡ old
  Stops (Sink fault) kind text old new = refuses old kind text fault new
  Stops Failed kind text old new = ⊥

  -- the sink is given one text, which it takes if the call succeeds
  abbrev pub Shows : {T : Type 0} → TextKind → List ℕ → Result T TextFault → S → S → Type 0
  Shows kind text result old new = MatchResult result (λ _. takes old kind text new)
      (λ fault. Stops fault kind text old new)
