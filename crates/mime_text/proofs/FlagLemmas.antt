-- The letters of the Status and X-Status fields, collected field by field.
use Rattle.mime_text.proofs.Words.{◌≡◌, ◌∙◌, ◌<◌, ◌==◌, ℕ, Bool, true, List, [], ◌∷◌, refl, arith, ◌||◌, reverse, reverse-append, list_any, HeaderField, after_blanks, before_blanks, unfolded_body, is_status, has_letter}
use Rattle.std.proofs.lemmas.List.Folds.{list_any-append}
use Rattle.header_text.specs.Unfolding.{without_breaks}

-- laws of a letter, which is neither a blank nor part of a line break
module _ (letter : ℕ) (high : 0x20 < letter) where
  abbrev is_in : List ℕ → Bool
  is_in bs = list_any (λ b. b == letter) bs

  in-after_blanks : (bs : List ℕ) → is_in (after_blanks bs) ≡ is_in bs
  in-after_blanks [] = refl
  in-after_blanks (b ∷ bs) = grind (arith, in-after_blanks bs)

  in-reverse : (bs : List ℕ) → is_in (reverse bs) ≡ is_in bs
  in-reverse [] = refl
  in-reverse (b ∷ bs) = grind (arith, reverse-append (b ∷ []) bs, list_any-append, in-reverse bs)

  in-without_breaks : (bs : List ℕ) → is_in (without_breaks bs) ≡ is_in bs
  in-without_breaks [] = refl
  in-without_breaks (b ∷ []) = grind arith
  in-without_breaks (b ∷ c ∷ bs) = grind (arith, in-without_breaks (c ∷ bs))

  in-unfolded : (body : List ℕ) → is_in (unfolded_body body) ≡ is_in body
  unfolding unfolded_body before_blanks
  in-unfolded body = grind (arith, in-reverse, in-after_blanks, in-without_breaks)

  -- the flag with one more such field
  pub letter-step : (f : HeaderField) (rest fields : List HeaderField) (all seen found : Bool) → fields ≡ f ∷ rest → all
      ≡ (seen || has_letter letter fields)
      → is_status f.name ≡ true → found ≡ is_in f.body → all ≡ ((seen || found) || has_letter letter rest)
  letter-step f rest fields all seen found h h2 h3 h4 = grind (arith, in-unfolded)
