-- What a call that gives pairs to a sink does to the pairs to come, if more than one list of pairs may come.
use Rattle.std.specs.Prelude.{◌≡◌, ℕ, List, [], ◌++◌, Result}
use Rattle.std.specs.Result.{MatchResult}
use Rattle.mail_words.specs.declared.kind.TextKind.{TextKind}
use Rattle.mime_text.specs.declared.fault.SinkFault.{SinkFault}
use Rattle.mime_text.specs.declared.fault.TextFault.{TextFault}
use Rattle.mime_text.specs.Sinks.{Pair, ComingPairs, TakesAll, Breaks}

-- no pairs come
abbrev pub IsOver : ComingPairs → Type 0
IsOver c = (ms : List (List ℕ)) → c ms ≡ []

module _ {S : Type 0} (takes : S → TextKind → List ℕ → S → Type 0)
    (refuses : S → TextKind → List ℕ → SinkFault → S → Type 0) where
  -- the sink takes some pairs: whatever could come before the call, it is these pairs and then what can come after the
  -- call; `seen` says what the call has learned of the lines to come
  pub record PassedPairs (before after : ComingPairs → Type 0) (seen : ComingPairs → ComingPairs) (old new : S) : Type 0
    where
      pub pairs : List Pair
      pub taken : TakesAll takes refuses pairs old new
      pub rest : (c : ComingPairs) → before c → (d : ComingPairs) × after d
          × ((ms : List (List ℕ)) → seen c ms ≡ pairs ++ d ms)

  -- the sink is given some pairs, and then a fault comes: whatever could come begins with these pairs
  pub record Stopped (before : ComingPairs → Type 0) (seen : ComingPairs → ComingPairs) (fault : TextFault)
      (old new : S) : Type 0
    where
      pub pairs : List Pair
      pub broken : Breaks takes refuses fault pairs old new
      pub front : (c : ComingPairs) → before c → (ms : List (List ℕ)) → (later : List Pair)
          × (seen c ms ≡ pairs ++ later)

  -- a call passes some of what comes to the sink, as PassedPairs says; at a fault as Stopped says
  abbrev pub PassesPairs : {T : Type 0} → (ComingPairs → Type 0) → (ComingPairs → Type 0) → (ComingPairs → ComingPairs)
      → Result T TextFault → S
      → S → Type 0
  PassesPairs before after seen result old new =
      MatchResult result (λ _. PassedPairs before after seen old new) (λ fault. Stopped before seen fault old new)
