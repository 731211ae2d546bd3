-- A span that is copied piece by piece is copied whole and closed, because its last line decides what closes it.
use Rattle.mail_answer.proofs.Words.{◌≡◌, ◌∙◌, ℕ, zero, suc, ◌+◌, ◌-◌, ◌<◌, ◌≤◌, Bool, true, false, cond, List, [], ◌∷◌, ◌++◌, Option, None, Some, Result, IsErr, length, take, drop, refl, ap, sym, append_assoc, append-nil, arith, inl, inr, option_map, cases_lt, drop-append-le, drop_all, take-append-drop, take_rest, lines, first_length, first_length-le, first_length-positive, archive_at, feed, feeds_after, after_next, ending_of_bytes, feeds_of, Reading, bytes_left, IsInsideArchive, AppendsRead, closed_text, last_line_of, IsIfKnown, JoinsFront, Ending, AnswerFaultKind, Sheet, Table, reading, span_reading, record_at, known_message, Mbox}
use Rattle.std.proofs.lemmas.List.{length-drop}
use Rattle.mail_answer.specs.Inside.Copies.{Copies}
use Rattle.mail_answer.proofs.OutputLaws.ClosedLemmas.{closed_more, next_front, last_after, one_line}
use Rattle.mail_answer.proofs.OutputLaws.ReadingLemmas.{count_known, piece_first}
use Rattle.mail_answer.proofs.OutputLaws.Endings.{lines_single, feeds_told}

-- ---- calls that fail

pub copies_err : (t u : Option (List ℕ)) (a b : Sheet) (coming rest : Option (List ℕ)) (count left : ℕ)
    (before : Ending) (r : Result Ending AnswerFaultKind) → IsErr r
    → ((text : List ℕ) × IsIfKnown coming text × JoinsFront t u a b text × (length text ≡ count))
    → Copies t u a b coming rest count left before r
copies_err = grind arith

-- there are bytes of this length
pub some_bytes : (count : ℕ) → (bytes : List ℕ) × (length bytes ≡ count)
some_bytes zero = ([], refl)
some_bytes (suc count) = let bytes = some_bytes count in (0 ∷ bytes.0, omega (arith, bytes.1))

-- the bytes that still come; if they aren't known, other bytes of the same length
pub some_coming : (held : Option (List (List ℕ))) (number : ℕ) (r : Reading) → IsInsideArchive number held r
    → (text : List ℕ)
    × IsIfKnown (bytes_left held r) text × (length text ≡ r.left)
some_coming None number r inside = let bytes = some_bytes _ in (bytes.0, tt, bytes.1)
some_coming (Some archives) number r inside = search (arith, count_known)

-- the part after a piece
pub inside_after : (number : ℕ) (held : Option (List (List ℕ))) (archive next left n : ℕ) → n ≤ left
    → IsInsideArchive number held (reading archive next left)
    → IsInsideArchive number held (reading archive (next + n) (left - n))
inside_after = grind arith

-- ---- bytes are closed as their last line is

closed_by_last-from : (most : ℕ) (b : List ℕ) → length b ≤ most → 0 < length b → closed_text b
    ≡ b ++ feeds_after (last_line_of (lines b))
closed_by_last-from zero b le some = absurd (omega (arith, le, some))
closed_by_last-from (suc most) b le some =
    let positive = first_length-positive b some in
    let within = first_length-le b in
    let rest = after_next b in
    let front = take (first_length b) b in
    elim (cases_lt (first_length b) (length b)) [
      | inl more ↦
          let after = length-drop (first_length b) b in
          let same =
          ap (λ l. last_line_of (lines l)) (sym (append-nil b)) ∙ last_after b _ more
          ∙ ap (λ l. last_line_of (lines l)) (append-nil rest) in
          closed_more b (omega (arith, after, more)) ∙ ap (λ l. l ++ closed_text rest) (next_front b more)
          ∙ ap (λ l. front ++ l) (closed_by_last-from most _ (omega (arith, after, positive, le))
          (omega (arith, after, more)))
          ∙ sym (append_assoc front rest (feeds_after (last_line_of (lines rest))))
          ∙ ap (λ l. l ++ feeds_after (last_line_of (lines rest))) (take-append-drop (first_length b) b)
          ∙ ap (λ l. b ++ feeds_after l) (sym same)
      | inr last ↦
          let whole : first_length b ≡ length b = omega (arith, last, within) in
          one_line b some whole ∙ ap (λ ls. b ++ feeds_after (last_line_of ls))
          (sym (lines_single b some whole))
    ]

pub closed_by_last : (b : List ℕ) → 0 < length b → closed_text b ≡ b ++ feeds_of (ending_of_bytes b)
closed_by_last = grind (arith, closed_by_last-from, feeds_told)

-- bytes are a front of the closed bytes
pub closed_begins : (b : List ℕ) → (feeds : List ℕ) × (closed_text b ≡ b ++ feeds)
unfolding closed_text
closed_begins b = go _ _
  where
    go : (v w : Bool) → (feeds : List ℕ) × (cond v b (cond w (b ++ feed) (b ++ feed ++ feed)) ≡ b ++ feeds)
    go true w = ([], sym (append-nil b))
    go false true = (feed, refl)
    go false false = (feed ++ feed, append_assoc b feed feed)

-- ---- pieces

-- what comes is the piece that was read, and what comes after it
pub piece_read : (archive next left n : ℕ) (held : Option (List (List ℕ))) (old new : List ℕ)
    (r : AppendsRead archive next n held old new) → n ≤ left
    → bytes_left held (reading archive next left)
    ≡ option_map (λ bytes. r.bytes ++ bytes) (bytes_left held (reading archive (next + n) (left - n)))
piece_read archive next left n None old new r le = refl
piece_read archive next left n (Some archives) old new r le = grind (arith, piece_first)

-- the bytes after those that were there
pub after_gathered : (old piece items : List ℕ) (at : ℕ) → items ≡ old ++ piece → at ≡ length old
    → take (length items - at) (drop at items) ≡ piece
after_gathered old piece items at is long = grind (arith, take_rest, drop-append-le, drop_all)

-- a piece and what comes after it
pub tells_after : (known : Option (List ℕ)) (piece rest : List ℕ) → IsIfKnown known rest
    → IsIfKnown (option_map (λ bytes. piece ++ bytes) known) (piece ++ rest)
tells_after = grind arith

-- two pieces, one after the other
pub pieces_more : (known : Option (List ℕ)) (text piece : List ℕ)
    → option_map (λ bytes. text ++ bytes) (option_map (λ bytes. piece ++ bytes) known)
    ≡ option_map (λ bytes. (text ++ piece) ++ bytes) known
pieces_more = grind (arith, append_assoc)

-- only a front of a closed span was copied
pub front_told : (span part : Option (List ℕ)) (text rest : List ℕ) → span ≡ option_map (λ bytes. text ++ bytes) part
    → IsIfKnown part rest
    → (feeds : List ℕ) × IsIfKnown (option_map closed_text span) ((text ++ rest) ++ feeds)
front_told span None text rest is told = ([], rw is tt)
front_told span (Some k) text rest is told =
    let begins = closed_begins (text ++ rest) in
    grind arith

-- the whole span was copied
pub closed_told : (held : Option (List (List ℕ))) (number : ℕ) (span part : Reading) (text : List ℕ)
    → IsInsideArchive number held span → 0 < span.left
    → bytes_left held span ≡ option_map (λ bytes. text ++ bytes) (bytes_left held part) → part.left ≡ 0
    → IsInsideArchive number held part → IsIfKnown (option_map closed_text (bytes_left held span))
    (text ++ feeds_of (ending_of_bytes text))
closed_told None number span part text inside some is none within = tt
closed_told (Some archives) number span part text inside some is none within =
    let all : List ℕ = take span.left (drop span.next (archive_at archives span.archive)) in
    let rest : List ℕ = take part.left (drop part.next (archive_at archives part.archive)) in
    let long : length all ≡ span.left = count_known archives number span inside in
    let short : length rest ≡ part.left = count_known archives number part within in
    let joined : all ≡ text ++ rest = cc is in
    let same : all ≡ text = joined ∙ ap (λ (l : List ℕ). text ++ l) (empty rest (omega (arith, short, none)))
    ∙ append-nil text in
    ap closed_text same ∙ closed_by_last text (omega (arith, ap length same, long, some))
  where
    empty : (l : List ℕ) → length l ≡ 0 → l ≡ []
    empty [] long = refl
    empty (x ∷ xs) long = absurd (omega (arith, long))

-- what is known of a message is its span, closed, if this is known
pub known_closed : (t : Table) (held : Option (List (List ℕ))) (n : ℕ)
    → option_map closed_text (bytes_left held (span_reading (record_at t.messages n)))
    ≡ known_message Mbox t held n
known_closed t None n = refl
known_closed t (Some archives) n = refl
