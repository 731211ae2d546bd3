-- `read_date` reads the tokens as the definition does, because a missing token is read as an empty one, which says
-- nothing.
use Rattle.mail_dates.proofs.Words.{◌≡◌, ◌∙◌, ℕ, pos, List, [], ◌∷◌, Option, None, w32, FitsSigned, to_z-of_z, rules, refl, date_tokens, with_first, number_in, ◌>>=◌, day_number, month_of, year_of, time_of, offset_of, hours_west, date_of_parts_by, date_of_tokens_by, date_of, arith}
use Rattle.mail_dates.specs.HeaderDates.{without_comments}
use Rattle.mail_dates.proofs.header_date.read_date.Goals as goal

nothing : {A B : Type 0} (o : Option A) (f : A → Option B) → ((x : A) → f x ≡ None) → (o >>= f) ≡ None
nothing o f h = grind arith

-- the date if a token is missing
read : (day month year time zone r s t u v : List ℕ) → date_tokens r ≡ with_first month s → date_tokens s
    ≡ with_first year t
    → date_tokens t ≡ with_first time u → date_tokens u ≡ with_first zone v
    → date_of_parts_by day_number day month year time (offset_of zone) ≡ date_of_tokens_by day_number (with_first day r)
unfolding month_of time_of offset_of hours_west
read [] month year time zone r s t u v e f g h = refl
read (x ∷ xs) [] year time zone r s t u v e f g h = rw e (nothing (number_in 1 2 (x ∷ xs)) _ (λ d. refl))
read (x ∷ xs) (y ∷ ys) [] time zone r s t u v e f g h =
    rw (e, f) (nothing (number_in 1 2 (x ∷ xs)) _ (λ d. nothing (month_of (y ∷ ys)) _ (λ m. refl)))
read (x ∷ xs) (y ∷ ys) (z ∷ zs) [] zone r s t u v e f g h =
    rw (e, f, g) (nothing (number_in 1 2 (x ∷ xs)) _
    (λ d. nothing (month_of (y ∷ ys)) _ (λ m. nothing (year_of (z ∷ zs)) _
    (λ n. nothing (day_number (pos n) m d) _ (λ date. refl)))))
read (x ∷ xs) (y ∷ ys) (z ∷ zs) (a ∷ cs) [] r s t u v e f g h = rw (e, f, g, h) refl
read (x ∷ xs) (y ∷ ys) (z ∷ zs) (a ∷ cs) (b ∷ bs) r s t u v e f g h = rw (e, f, g, h) refl

pub returns : goal.returns
unfolding date_of
returns c =
    let day = c.day_token.result in
    let month = c.next_token.result in
    let year = c.next_token-2.result in
    let time = c.next_token-3.result in
    let zone = c.next_token-4.result in
    let fits : FitsSigned w32 c.offset_of.result = search rules in
    cc (
      c.date_of_parts.ensures,
      to_z-of_z w32 c.offset_of.result fits,
      c.offset_of.ensures,
      read day.0.now month.0.now year.0.now time.0.now zone.0.now day.1.now month.1.now year.1.now time.1.now
          zone.1.now c.next_token.ensures.tokens c.next_token-2.ensures.tokens c.next_token-3.ensures.tokens
          c.next_token-4.ensures.tokens,
      c.day_token.ensures,
      c.without_comments.ensures,
      c.as_bytes.ensures.value,
    )
