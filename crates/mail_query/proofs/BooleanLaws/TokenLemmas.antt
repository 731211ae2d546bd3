-- Taking one token after another from the front of a text gives its tokens.
use Rattle.std.proofs.Common.{◌≡◌, ℕ, zero, suc, ◌<◌, ◌≤◌, Bool, true, false, not, ◌||◌, cond, List, [], ◌∷◌, length, take, drop, get_or, None, Some, refl, ◌∙◌, arith, add-one}
use Rattle.std.proofs.lemmas.Bool.Decides.{nat_tests}
use Rattle.std.specs.List.{prefix_len}
use Rattle.std.specs.Str.{IsUtf8, IsCharBoundary}
use Rattle.std.proofs.lemmas.Str.{IsCharBoundary-start, IsCharBoundary-after_ascii}
use Rattle.mail_query.specs.Tokens.{Open, Close, token_of, is_blank_or_feed, cut_tokens, query_tokens}
use Rattle.mail_query.specs.Pieces.{without_first}
use Rattle.mail_query.specs.Inside.Shown.{blank_count, ends_run, run_length}

-- ---- blanks at the front

pub blanks_counted : (text : List ℕ) → prefix_len is_blank_or_feed text ≡ blank_count text
blanks_counted [] = refl
blanks_counted (b ∷ bs) = grind (arith, blanks_counted bs)

pub tokens-blank : (b : ℕ) (bs : List ℕ) → is_blank_or_feed b ≡ true → query_tokens (b ∷ bs) ≡ query_tokens bs
unfolding query_tokens
tokens-blank b bs e = rw e refl

pub tokens-blanks : (text : List ℕ) → query_tokens (drop (blank_count text) text) ≡ query_tokens text
tokens-blanks [] = refl
tokens-blanks (b ∷ bs) = grind (arith, tokens-blank, tokens-blanks bs)

pub no_blank_left : (text : List ℕ) → blank_count (drop (blank_count text) text) ≡ 0
no_blank_left [] = refl
no_blank_left (b ∷ bs) = grind (arith, no_blank_left bs)

blank_is_ascii : (b : ℕ) → is_blank_or_feed b ≡ true → b < 128
blank_is_ascii b e = grind (arith, nat_tests)

-- the last of the blanks is an ASCII byte
last_blank : (text : List ℕ) (n : ℕ) → blank_count text ≡ suc n → (n < length text) × (get_or text n 0 < 128)
last_blank [] n e = absurd (omega (arith, e))
last_blank (b ∷ bs) n e = go (is_blank_or_feed b) refl e n refl (λ m h. last_blank bs m h)
  where
    go : (t : Bool) → is_blank_or_feed b ≡ t → cond t (suc (blank_count bs)) 0 ≡ suc n → (m : ℕ) → m ≡ n
        → ((k : ℕ) → blank_count bs ≡ suc k → (k < length bs) × (get_or bs k 0 < 128)) → (m < length (b ∷ bs))
        × (get_or (b ∷ bs) m 0 < 128)
    go false f e m i h = absurd (omega (arith, e))
    go true f e zero i h = (omega arith, blank_is_ascii b f)
    go true f e (suc m) i h =
        let below : blank_count bs ≡ suc m = omega (arith, e, i) in
        let rest = h m below in
        (omega (arith, rest.0), rest.1)

pub blanks_end : (text : List ℕ) → IsUtf8 text → IsCharBoundary text (blank_count text)
blanks_end text utf8 = go (blank_count text) refl
  where
    go : (n : ℕ) → blank_count text ≡ n → IsCharBoundary text n
    go zero e = IsCharBoundary-start text utf8
    go (suc n) e =
        let last = last_blank text n e in
        rw (add-one n) at (IsCharBoundary-after_ascii text n utf8 last.0 last.1)

-- ---- a run

pub run_counted : (text : List ℕ) → prefix_len (λ b. not (ends_run b)) text ≡ run_length text
run_counted [] = refl
run_counted (b ∷ bs) = grind (arith, run_counted bs)

pub cut-run : (text : List ℕ) → cut_tokens text
    ≡ record { run = take (run_length text) text; after = query_tokens (drop (run_length text) text) }
unfolding query_tokens
cut-run [] = refl
cut-run (b ∷ bs) = grind (arith, cut-run bs)

pub tokens-run : (text : List ℕ) → 0 < run_length text → 0 < length text → query_tokens text
    ≡ token_of (take (run_length text) text) ∷ query_tokens (drop (run_length text) text)
unfolding query_tokens
tokens-run text some nonempty = grind (arith, cut-run)

-- a run ends at a boundary of characters
pub run_end : (text : List ℕ) → IsCharBoundary text (run_length text)
run_end text = go (run_place text)
  where
    run_place : (t : List ℕ) → (run_length t ≤ length t) × (run_length t < length t → get_or t (run_length t) 0 < 128)
    run_place [] = grind arith
    run_place (b ∷ bs) = grind (arith, run_place bs)

    go : (run_length text ≤ length text) × (run_length text < length text → get_or text (run_length text) 0 < 128)
        → IsCharBoundary text (run_length text)
    go h = grind arith

-- a text that begins with no blank and no parenthesis begins with a run
pub begins_run : (text : List ℕ) → 0 < length text → blank_count text ≡ 0 → without_first 0x28 text ≡ None
    → without_first 0x29 text ≡ None → 0 < run_length text
begins_run text h h2 h3 h4 = grind arith

-- ---- parentheses at the front

pub tokens-open : (text rest : List ℕ) → without_first 0x28 text ≡ Some rest → query_tokens text
    ≡ Open ∷ query_tokens rest
unfolding query_tokens
tokens-open text rest h = grind arith

pub tokens-close : (text rest : List ℕ) → without_first 0x29 text ≡ Some rest → query_tokens text
    ≡ Close ∷ query_tokens rest
unfolding query_tokens
tokens-close text rest h = grind (arith, nat_tests)

pub tokens-nothing : (text : List ℕ) → length text ≡ 0 → query_tokens text ≡ []
unfolding query_tokens
tokens-nothing [] e = refl
tokens-nothing (b ∷ bs) e = absurd (omega (arith, e))
