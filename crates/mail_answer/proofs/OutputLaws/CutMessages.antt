-- Each text that is cut out of an archive is a message: its first line starts a message, and no other line does.
use Rattle.mail_answer.proofs.Words.{◌≡◌, ◌∙◌, ℕ, ◌+◌, Bool, true, ◌&&◌, List, [], ◌∷◌, ◌++◌, Option, None, Some, length, take, drop, map, refl, ap, sym, subst, arith, concat, option_map, take-append_seam, drop-append_seam, drop-drop, concat-append, Message, messages, messages_from, marked_lines, grouped_lines, total, span_length, lines, is_empty, AreCut, IsCutOut}
use Rattle.mbox_cutter.proofs.LinesAreCut.{lines-AreLines}
use Rattle.mail_answer.proofs.OutputLaws.MessageLines.{Each, StartsNowhere, Group, IsMessage, lines_of, all_lines, text_of, span_of, total-length}

-- the text is that of a message
pub record IsText (g : Group) (text : List ℕ) : Type 0 where
  pub message : IsMessage g
  pub each_line : AreCut (lines_of g)
  pub is_text : text ≡ text_of g

-- the lines before the first message, and those of the groups, are all lines; each group is a message
record IsGrouped (may : Bool) (ls : List (List ℕ)) (r : List (List ℕ) × List Group) : Type 0 where
  pub joined : r.0 ++ all_lines r.1 ≡ ls
  pub front : StartsNowhere may r.0
  pub each : Each IsMessage r.1

and-second : (a b : Bool) → (a && b) ≡ true → b ≡ true
and-second = grind arith

grouped-is : (may : Bool) (ls : List (List ℕ)) → IsGrouped may ls (grouped_lines (marked_lines may ls))
grouped-is may [] = record { joined = refl; front = tt; each = tt }
grouped-is may (l ∷ ls) = grind (arith, and-second, grouped-is (is_empty l) ls)

-- ---- lines of a part

rest-cut : (l : List ℕ) (ls : List (List ℕ)) → AreCut (l ∷ ls) → AreCut ls
rest-cut = grind arith

cut-front : (l : List ℕ) (ls ms : List (List ℕ)) → AreCut (l ∷ (ls ++ ms)) → AreCut (l ∷ ls)
cut-front l [] [] c = c
cut-front l [] (m ∷ ms) c = c.0
cut-front l (k ∷ ls) ms c = (c.0, c.1, cut-front k ls ms c.2)

cut-after : (ls ms : List (List ℕ)) → AreCut (ls ++ ms) → AreCut ms
cut-after [] ms c = c
cut-after (l ∷ ls) ms c = cut-after ls _ (rest-cut l _ c)

-- ---- messages

-- the message's span in the archive is its text
abbrev pub IsIn : List ℕ → Message → Type 0
IsIn archive m = IsText (m.separator, m.after) (take (span_length m) (drop m.offset archive))

messages-are : (archive : List ℕ) (offset : ℕ) (gs : List Group) → Each IsMessage gs → AreCut (all_lines gs)
    → drop offset archive ≡ concat (all_lines gs)
    → Each (IsIn archive) (messages_from offset gs)
messages-are archive offset [] is c e = tt
messages-are archive offset (g ∷ gs) is c e =
    let n = length g.0 + total g.1 in
    let long = total-length (lines_of g) in
    let whole = e ∙ concat-append (lines_of g) (all_lines gs)
    in
    let here =
    ap (take n) whole ∙ ap (λ k. take k (text_of g ++ concat (all_lines gs))) long
    ∙ take-append_seam (text_of g) (concat (all_lines gs)) in
    let next =
    sym (drop-drop n offset archive) ∙ ap (drop n) whole
    ∙ ap (λ k. drop k (text_of g ++ concat (all_lines gs))) long
    ∙ drop-append_seam (text_of g) (concat (all_lines gs)) in (
      record { message = is.0; each_line = cut-front _ _ _ c; is_text = here },
      messages-are _ (offset + n) gs is.1 (cut-after (lines_of g) _ c) next,
    )

-- the messages of an archive
pub messages-in : (archive : List ℕ) (ms : List Message) → messages archive ≡ Some ms → Each (IsIn archive) ms
unfolding messages
messages-in archive ms e =
    let groups = grouped_lines (marked_lines true (lines archive)) in
    let h = grouped-is _ _ in
    let are = lines-AreLines _ in
    let whole =
    sym are.joined ∙ ap concat (sym h.joined) ∙ concat-append groups.0 (all_lines groups.1) in
    let after =
    ap (λ k. drop k archive) (total-length groups.0) ∙ ap (drop (length (concat groups.0))) whole
    ∙ drop-append_seam (concat groups.0) (concat (all_lines groups.1)) in
    grind (arith, cut-after, messages-are)

found : (archive : List ℕ) (ms : List Message) (before : List (ℕ × ℕ)) (here : ℕ × ℕ) (after : List (ℕ × ℕ))
    → Each (IsIn archive) ms → map span_of ms ≡ before ++ here ∷ after
    → (g : Group) × IsText g (take here.1 (drop here.0 archive))
found archive [] [] here after each e = absurd (cc e)
found archive [] (b ∷ before) here after each e = absurd (cc e)
found archive (m ∷ ms) [] here after each e = grind (arith, span_of)
found archive (m ∷ ms) (b ∷ before) here after each e = found archive ms before here after each.1 (cc e)

-- a text that is cut out is a message
pub cut-out : (text : List ℕ) → IsCutOut text → (g : Group) × IsText g text
cut-out text h = go _ refl h.is_cut
  where
    go : (o : Option (List Message)) → messages h.archive ≡ o → option_map (map span_of) o
        ≡ Some (h.before ++ h.here ∷ h.after) → (g : Group) × IsText g text
    go None e c = absurd (cc c)
    go (Some ms) e c =
        let here =
        found h.archive ms h.before h.here h.after (messages-in _ _ e) (cc c) in
        (here.0, subst (IsText here.0) (sym h.is_text) here.1)
