-- The loop of a caller that counts the messages that start, and the bytes of the texts that end.
use Rattle.std.proofs.Common.{◌≡◌, ℕ, suc, ◌+◌, ◌≤◌, List, [], ◌∷◌, ◌++◌, Option, Some, None, IfSome, length, map, refl, ap, sym, ◌∙◌, arith}
use Rattle.std.specs.List.{sum_by}
use Rattle.std.proofs.lemmas.List.Sums.{sum_by-cons}
use Rattle.std.specs.Option.{option_map}
use Rattle.mbox_cutter.specs.declared.scan.Phase.{Phase}
use Rattle.mbox_cutter.specs.declared.scan.Phase.TheVariants.{Between, Inside, Ended, Failed}
use Rattle.mbox_cutter.specs.Archives.{Message, messages, text, size, span_length}
use Rattle.mbox_cutter.specs.Events.{ArchiveEvent, Start, Line, End, Done, events_of, events, ComingEvents, coming_of}
use Rattle.mbox_cutter.specs.Coming.{TakesKnown}
use Rattle.mbox_cutter.proofs.KnownSteps.{each_some}
use Rattle.contract_words.specs.Knowledge.{still_known}
use Rattle.std.specs.Prelude.{IsSome}

abbrev pub starts : List ArchiveEvent → ℕ
starts [] = 0
starts (Start at line ∷ es) = suc (starts es)
starts (Line line ∷ es) = starts es
starts (End span size ∷ es) = starts es
starts (Done all ∷ es) = starts es

abbrev pub sizes : List ArchiveEvent → ℕ
sizes [] = 0
sizes (Start at line ∷ es) = sizes es
sizes (Line line ∷ es) = sizes es
sizes (End span size ∷ es) = size + sizes es
sizes (Done all ∷ es) = sizes es

-- this many messages and bytes have been counted since
abbrev pub Tallied : Option ComingEvents → ℕ → ℕ → Option ComingEvents → Type 0
Tallied before count bytes after =
    IfSome before (λ k. (m : ComingEvents) × (after ≡ Some m) × (starts k.events ≡ count + starts m.events)
    × (sizes k.events ≡ bytes + sizes m.events))

-- what has been counted, if something is known after one more call
pub tallied_on : {M N : Type 0} (before now : Option ComingEvents) (mid : Option M) (new : Option N) (count bytes : ℕ)
    → (IsSome new → IsSome mid) → Tallied (still_known before mid) count bytes now
    → Tallied (still_known before new) count bytes (still_known now new)
tallied_on before now mid None count bytes h t = tt
tallied_on before now None (Some x) count bytes h t = absurd (cc (h refl))
tallied_on before now (Some y) (Some x) count bytes h t = t

-- the texts that have ended come before the bytes taken, and before an open message
abbrev pub IsAfter : ℕ → Phase → ℕ → Type 0
IsAfter bytes Between at = bytes ≤ at
IsAfter bytes (Inside start size) at = bytes ≤ start
IsAfter bytes Ended at = bytes ≤ at
IsAfter bytes Failed at = Unit {0}

starts-lines : (ls : List (List ℕ)) (es : List ArchiveEvent) → starts (map Line ls ++ es) ≡ starts es
starts-lines [] es = refl
starts-lines (l ∷ ls) es = starts-lines ls es

sizes-lines : (ls : List (List ℕ)) (es : List ArchiveEvent) → sizes (map Line ls ++ es) ≡ sizes es
sizes-lines [] es = refl
sizes-lines (l ∷ ls) es = sizes-lines ls es

starts-reported : (all : ℕ) (ms : List Message) → starts (events_of all ms) ≡ length ms
starts-reported all [] = refl
starts-reported all (m ∷ ms) = ap suc (starts-lines (text m) (End (span_length m) (size m) ∷ events_of all ms)
    ∙ starts-reported all ms)

sizes-reported : (all : ℕ) (ms : List Message) → sizes (events_of all ms) ≡ sum_by size ms
sizes-reported all [] = refl
sizes-reported all (m ∷ ms) =
    sizes-lines (text m) (End (span_length m) (size m) ∷ events_of all ms)
    ∙ ap (λ (n : ℕ). size m + n) (sizes-reported all ms)
    ∙ sym (sum_by-cons size m ms)

events-accepted : (b : List ℕ) (ms : List Message) → messages b ≡ Some ms → events b ≡ events_of (length b) ms
unfolding events
events-accepted b ms e = rw e refl

counted-at : (most : ℕ) (b : List ℕ) (ms : List Message) (before now after : Option ComingEvents) (count bytes all : ℕ)
    → messages b ≡ Some ms → before ≡ Some (coming_of most b) →
    Tallied before count bytes now → TakesKnown (Done all) now after → (count ≡ length ms) × (bytes ≡ sum_by size ms)
counted-at most b ms None now after count bytes all m e t d = cc
counted-at most b ms (Some k) None after count bytes all m e t d = let no : None ≡ Some t.0 = t.1 in cc
counted-at most b ms (Some k) (Some n) after count bytes all m e t d =
    let is : n ≡ t.0 = cc (t.1) in
    let last : t.0.events ≡ Done all ∷ [] = ap (λ (c : ComingEvents). c.events) (sym is) ∙ d.2.0 in
    let first : k.events ≡ events_of (length b) ms =
    ap (λ (c : ComingEvents). c.events) (let same : k ≡ coming_of most b = cc in same) ∙ events-accepted b ms m in
    let all_starts : starts k.events ≡ length ms = ap starts first ∙ starts-reported (length b) ms in
    let all_sizes : sizes k.events ≡ sum_by size ms = ap sizes first ∙ sizes-reported (length b) ms in
    let no_starts : starts t.0.events ≡ 0 = ap starts last in
    let no_sizes : sizes t.0.events ≡ 0 = ap sizes last in
    (omega (arith, t.2), omega (arith, t.3))

pub counted : (most : ℕ) (known : Option (List ℕ)) (before now after : Option ComingEvents) (count bytes all : ℕ)
    → before
    ≡ option_map (coming_of most) known →
    Tallied before count bytes now → TakesKnown (Done all) now after
    → IfSome known (λ b. IfSome (messages b) (λ ms. (count ≡ length ms) × (bytes ≡ sum_by size ms)))
counted most known before now after count bytes all e t d =
    each_some known _ (λ b is. each_some (messages b) _
    (λ ms m. counted-at most b ms before now after count bytes all m (e ∙ ap (option_map (coming_of most)) is) t d))

-- the same, if something is still known at the end
pub still-counted : {N : Type 0} (most : ℕ) (known : Option (List ℕ)) (begun : Option ComingEvents) (last : Option N)
    (now after : Option ComingEvents) (count bytes all : ℕ)
    → begun ≡ option_map (coming_of most) known → Tallied (still_known begun last) count bytes now
    → TakesKnown (Done all) now after
    → IfSome (still_known known last) (λ b. IfSome (messages b) (λ ms. (count ≡ length ms) × (bytes ≡ sum_by size ms)))
still-counted most known begun None now after count bytes all e t d = tt
still-counted most known begun (Some x) now after count bytes all e t d =
    counted most known begun now after count bytes all e t d
