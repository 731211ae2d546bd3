-- The decoded bytes of a leaf, line by line: each call gives the first lines and keeps the rest.
use Rattle.mime_text.proofs.Words.{◌≡◌, ◌∙◌, ◌+◌, ◌-◌, ◌<◌, ◌≤◌, ◌==◌, ◌++◌, ℕ, true, false, List, [], ◌∷◌, Some, None, length, take, drop, refl, sym, ap, arith, length-append, append-nil, Result, Ok, Err, OnOk, concat, length-drop, drop-drop, take-append-le, drop-append-le, take_all, drop_all, take-append-drop, length_before_feed, line_end_of, lines, line_end-more, line_end-positive, line_end-within, line_end-whole, TextKind, SinkFault, TextFault, OutOfMemory, Sink, Failed, LineTexts, Pair, Gave, Broke, Hands, ends_in, line_text, is_tag_open_after_line, texts_after, body_pairs, pairs_of_lines, pairs_of_bytes}
use Rattle.std.proofs.lemmas.Slice.Eq.{bytes_eq-Decides}
use Rattle.mbox_cutter.proofs.LineLists.{lines-cons, lines-nil}
use Rattle.mail_words.specs.declared.kind.TextKind.TheVariants as kind
use Rattle.mime_text.specs.Inside.Showing.{Shows}
use Rattle.mime_text.proofs.Handing.{gave-along, broke-along}

-- ---- lines

pub concat-one : (bytes : List ℕ) → concat (bytes ∷ []) ≡ bytes
concat-one bytes = append-nil bytes

-- the first line of some bytes, if no bytes to come can change it
pub lines-first : (b more : List ℕ) (n : ℕ) → Some n ≡ line_end_of b → lines (b ++ more)
    ≡ take n b ∷ lines (drop n b ++ more)
lines-first b more n e = grind (
  arith,
  line_end-more,
  line_end-within,
  line_end-positive,
  length-append,
  lines-cons,
  take-append-le,
  drop-append-le,
)

pub lines-parts : (b line later more : List ℕ) (n : ℕ) → Some n ≡ line_end_of b → line ≡ take n b → later ≡ drop n b
    → lines (b ++ more) ≡ line ∷ lines (later ++ more)
lines-parts b line later more n e f g = grind (arith, lines-first)

-- the last line
pub lines-last : (b : List ℕ) → None ≡ line_end_of b → 0 < length b → lines b ≡ b ∷ []
lines-last b e some = grind (arith, line_end-whole, lines-cons, take_all, drop_all, lines-nil)

before_feed-last : (front : List ℕ) → length_before_feed (front ++ 10 ∷ []) ≤ length front
before_feed-last [] = omega arith
before_feed-last (x ∷ xs) = grind (arith, before_feed-last xs)

-- a line that ends with its only line feed
pub feed-end : (line : List ℕ) → ends_in 0x0A line ≡ true → length line ≤ length_before_feed line + 1
    → length line ≤ 65537 → Some (length line) ≡ line_end_of line
unfolding line_end_of
feed-end line feed last short =
    let tail : drop (length line - 1) line ≡ 10 ∷ [] = grind (arith, bytes_eq-Decides)
    in
    let front : List ℕ = take (length line - 1) line in
    let whole : line ≡ front ++ 10 ∷ [] = grind (arith, take-append-drop) in
    grind (arith, length-append, before_feed-last)

pub lines-whole : (line more : List ℕ) → Some (length line) ≡ line_end_of line → lines (line ++ more)
    ≡ line ∷ lines more
lines-whole line more e =
    cc (
      lines-first line more (length line) e,
      take_all (length line) line (omega arith),
      drop_all (length line) line (omega arith),
    )

-- ---- the texts of lines

pub no_bytes : (b : List ℕ) → (length b == 0) ≡ true → b ≡ []
no_bytes [] e = refl
no_bytes (x ∷ xs) e = grind arith

pub some_bytes : (b : List ℕ) → (length b == 0) ≡ false → 0 < length b
some_bytes b h = grind arith

-- ---- what is left is the end of the bytes

pub rest-step : (b rest later : List ℕ) (n : ℕ) → length rest ≤ length b → rest ≡ drop (length b - length rest) b
    → later ≡ drop n rest → n ≤ length rest
    → later ≡ drop (length b - length later) b
rest-step b rest later n fits is next within = grind (arith, length-drop, drop-drop)

module _ {S : Type 0} (takes : S → TextKind → List ℕ → S → Type 0)
    (refuses : S → TextKind → List ℕ → SinkFault → S → Type 0) where
  -- the text of a line is given
  pub hands_line : {T : Type 0} (old new : LineTexts) (line : List ℕ) (result : Result T TextFault) (s t : S)
      → Shows takes refuses kind.Body (line_text old.charset old.is_html old.is_open line) result s t
      → new.charset ≡ old.charset → new.is_html ≡ old.is_html
      → OnOk result (new.is_open ≡ is_tag_open_after_line old.charset old.is_html old.is_open line)
      → Hands takes refuses (λ ls. pairs_of_lines old (line ∷ ls)) (λ ls. pairs_of_lines new ls) result s t
  hands_line old new line (Ok x) s t h e f g =
      let p : Pair = (kind.Body, line_text old.charset old.is_html old.is_open line) in
      record { pairs = p ∷ []; taken = (t, h, refl); rest = grind arith }
  hands_line old new line (Err OutOfMemory) s t h e f g = grind arith
  hands_line old new line (Err (Sink fault)) s t h e f g =
      let p : Pair = (kind.Body, line_text old.charset old.is_html old.is_open line) in
      record {
        pairs = p ∷ [];
        broken = ([], p, s, refl, refl, h);
        front = λ ls. (
          body_pairs (texts_after old.charset old.is_html
              (is_tag_open_after_line old.charset old.is_html old.is_open line) ls),
          refl,
        );
      }
  hands_line old new line (Err Failed) s t h e f g = absurd h

  pub gave-line : (old new : LineTexts) (b line later : List ℕ) (n : ℕ) (s t : S) → Some n ≡ line_end_of b → line
      ≡ take n b → later ≡ drop n b
      → Gave takes refuses (λ ls. pairs_of_lines old (line ∷ ls)) (λ ls. pairs_of_lines new ls) s t
      → Gave takes refuses (λ ms. pairs_of_bytes old (b ++ concat ms)) (λ ms. pairs_of_bytes new (later ++ concat ms)) s
      t
  gave-line old new b line later n s t e f g h =
      gave-along takes refuses (λ ls. pairs_of_lines old (line ∷ ls)) (λ ls. pairs_of_lines new ls)
      (λ ms. pairs_of_bytes old (b ++ concat ms)) (λ ms. pairs_of_bytes new (later ++ concat ms))
      (λ ms. lines (later ++ concat ms)) s t
      (λ ms. ap (pairs_of_lines old) (lines-parts b line later (concat ms) n e f g)) (λ ms. refl) h

  pub broke-line : (old : LineTexts) (b line : List ℕ) (n : ℕ) (fault : TextFault) (s t : S) → Some n ≡ line_end_of b
      → line ≡ take n b
      → Broke takes refuses (λ ls. pairs_of_lines old (line ∷ ls)) fault s t
      → Broke takes refuses (λ ms. pairs_of_bytes old (b ++ concat ms)) fault s t
  broke-line old b line n fault s t e f h =
      broke-along takes refuses (λ ls. pairs_of_lines old (line ∷ ls)) (λ ms. pairs_of_bytes old (b ++ concat ms))
      (λ ms. lines (drop n b ++ concat ms)) fault s t
      (λ ms. ap (pairs_of_lines old) (lines-parts b line (drop n b) (concat ms) n e f refl)) h

  -- the first lines were given, and nothing is left
  pub gave-all : (old new : LineTexts) (b rest : List ℕ) (s t : S) → rest ≡ []
      → Gave takes refuses (λ ms. pairs_of_bytes old (b ++ concat ms)) (λ ms. pairs_of_bytes new (rest ++ concat ms)) s
      t
      → Gave takes refuses (λ _. pairs_of_bytes old b) (λ _. []) s t
  gave-all old new b rest s t e h =
      gave-along takes refuses (λ ms. pairs_of_bytes old (b ++ concat ms))
      (λ ms. pairs_of_bytes new (rest ++ concat ms)) (λ _. pairs_of_bytes old b) (λ _. []) (λ _. []) s t
      (λ ms. ap (pairs_of_bytes old) (sym (append-nil b)))
      (λ ms. sym (cc (append-nil rest, lines-nil))) h

  -- the first lines were given, and the last line is left
  pub gave-front : (old new : LineTexts) (b rest : List ℕ) (s t : S) → None ≡ line_end_of rest → 0 < length rest
      → Gave takes refuses (λ ms. pairs_of_bytes old (b ++ concat ms)) (λ ms. pairs_of_bytes new (rest ++ concat ms)) s
      t
      → Gave takes refuses (λ _. pairs_of_bytes old b) (λ _. pairs_of_lines new (rest ∷ [])) s t
  gave-front old new b rest s t e some h =
      gave-along takes refuses (λ ms. pairs_of_bytes old (b ++ concat ms))
      (λ ms. pairs_of_bytes new (rest ++ concat ms)) (λ _. pairs_of_bytes old b)
      (λ _. pairs_of_lines new (rest ∷ [])) (λ _. []) s t
      (λ ms. ap (pairs_of_bytes old) (sym (append-nil b)))
      (λ ms. sym (cc (append-nil rest, lines-last rest e some))) h

  pub broke-front : (old : LineTexts) (b : List ℕ) (fault : TextFault) (s t : S)
      → Broke takes refuses (λ ms. pairs_of_bytes old (b ++ concat ms)) fault s t
      → Broke takes refuses (λ _. pairs_of_bytes old b) fault s t
  broke-front old b fault s t h =
      broke-along takes refuses (λ ms. pairs_of_bytes old (b ++ concat ms)) (λ _. pairs_of_bytes old b) (λ _. []) fault
      s t (λ ms. ap (pairs_of_bytes old) (sym (append-nil b))) h
