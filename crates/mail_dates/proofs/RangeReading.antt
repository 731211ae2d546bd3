-- Ranges of days are read as their grammar says.
use Rattle.mail_dates.proofs.Words.{◌≡◌, ℕ, Bool, true, false, cond, List, [], ◌∷◌, ◌++◌, Some, None, Result, Ok, Err, refl, sym, ◌∙◌, subst, arith, ℤ, pos, ◌↔◌, list_all, nat_tests, day_number, number_in, month_of, period_of, slice_split, onto_first, is_dash, range_at, range_of_parts_by, DateFault, BadDate, BadNumber, Range, start_of_day, end_of_day, Option}
use Rattle.contract_words.specs.Answers.{◌>>=◌ as ◌>>=ᵣ◌}
use Rattle.std.specs.List.{list_any}
use Rattle.std.specs.Char.{is_ascii_digit, is_ascii_alphabetic}
use Rattle.std.proofs.lemmas.List.Folds.{list_any-append}
use Rattle.std.proofs.lemmas.List.Splits.{join_with_byte-slice_split}
use Rattle.mail_dates.specs.declared.days.Days.{Days}
use Rattle.mail_dates.specs.declared.period.Unit.{Unit}
use Rattle.mail_dates.specs.Ranges.{named_days_by, range_of_days, range_of_period_by, range_between_by, range_from_by}
use Rattle.mail_dates.specs.PeriodGrammar.{NamesDays, Form, IsPeriod, CountOfUnits, YearMonthDay, Year, Month, DayMonth, MonthDay, IsLongCount, DigitsAndUnit}
use Rattle.mail_dates.specs.RangeGrammar.{day_at, IsRange, InPeriod, Between, Until, Since, IsEnd, NoEnd, NamedEnd, HasLongCount, AsPeriod, AsEnd, AsStart, IsFault, TooLong, NoRange}
use Rattle.mail_dates.proofs.Cuts.{split_front}
use Rattle.mail_dates.proofs.PeriodForms.{name_is}
use Rattle.mail_dates.proofs.PeriodReading.{names_read, read_names, long_read, read_long}

-- ---- texts without a dash

abbrev Free : List ℕ → Type 0
Free text = list_any is_dash text ≡ false

split_none : (text : List ℕ) → Free text → slice_split is_dash text ≡ text ∷ []
split_none [] h = refl
split_none (b ∷ bs) h =
    grind (arith, split_none bs)

split_at : (text rest : List ℕ) → Free text
    → slice_split is_dash (text ++ 0x2D ∷ rest) ≡ text ∷ slice_split is_dash rest
split_at [] rest h = refl
split_at (b ∷ bs) rest h =
    grind (arith, split_at bs rest)

alone : (text part : List ℕ) → slice_split is_dash text ≡ part ∷ [] → text ≡ part
alone text part e = cc (join_with_byte-slice_split 0x2D text)

joined : (text first second : List ℕ) → slice_split is_dash text ≡ first ∷ second ∷ [] → text ≡ first ++ 0x2D ∷ second
joined text first second e = cc (join_with_byte-slice_split 0x2D text)

first_free : (text first : List ℕ) (rest : List (List ℕ)) → slice_split is_dash text ≡ first ∷ rest → Free first
first_free [] first rest e = grind arith
first_free (b ∷ bs) first rest e = go (is_dash b) refl (split_front _ bs) (first_free bs) e
  where
    go : (t : Bool) → is_dash b ≡ t
        → (part : List ℕ) × (parts : List (List ℕ)) × (slice_split is_dash bs ≡ part ∷ parts)
        → ((part : List ℕ) (parts : List (List ℕ)) → slice_split is_dash bs ≡ part ∷ parts → Free part)
        → cond t ([] ∷ slice_split is_dash bs) (onto_first b (slice_split is_dash bs)) ≡ first ∷ rest → Free first
    go t h f r k = grind arith

append_free : (xs ys : List ℕ) → Free xs → Free ys → Free (xs ++ ys)
append_free xs ys h k = grind (arith, list_any-append)

digits_free : (xs : List ℕ) → list_all is_ascii_digit xs ≡ true → Free xs
digits_free [] h = refl
digits_free (x ∷ xs) h = grind (arith, nat_tests, digits_free xs)

letters_free : (xs : List ℕ) → list_all is_ascii_alphabetic xs ≡ true → Free xs
letters_free [] h = refl
letters_free (x ∷ xs) h = grind (arith, nat_tests, letters_free xs)

number_free : (least most : ℕ) (text : List ℕ) (n : ℕ) → number_in least most text ≡ Some n → Free text
number_free least most text n e = grind (arith, digits_free)

name_free : (text : List ℕ) (month : ℕ) → month_of text ≡ Some month → Free text
name_free text month e = grind (arith, name_is, letters_free)

period_free : (today by : ℤ) (text : List ℕ) (form : Form) (said : Option Days) → IsPeriod today by text form said
    → Free text
period_free today by text form said (CountOfUnits digits count letter unit e u) =
    grind (arith, append_free, number_free)
period_free today by text form said (YearMonthDay yyyy mm dd year month day e f g) =
    grind (arith, append_free, number_free)
period_free today by text form said (Year yyyy year e) = number_free 4 4 yyyy year e
period_free today by text form said (Month name month e) = name_free name month e
period_free today by text form said (DayMonth digits name day month d e) =
    grind (arith, append_free, digits_free, name_free)
period_free today by text form said (MonthDay name digits month day e d) =
    grind (arith, append_free, name_free, digits_free)

names_free : (today by : ℤ) (text : List ℕ) (days : Days) → NamesDays today by text days → Free text
names_free today by text days n = grind (arith, period_free)

long_free : (text : List ℕ) → IsLongCount text → Free text
long_free text (DigitsAndUnit digits letter unit many h u) =
    grind (arith, append_free, digits_free)

-- ---- each range is read

abbrev named : ℤ → ℤ → List ℕ → Result Days DateFault
named today by text = named_days_by day_number today by text

-- an empty text isn't a period
none_named : (today by : ℤ) → named today by [] ≡ Err BadDate
unfolding period_of month_of
none_named today by = refl

none_names : {P : Type 0} (today by : ℤ) (days : Days) → named today by [] ≡ Ok days → P
none_names today by days e = grind (arith, none_named)

none_long : {P : Type 0} → IsLongCount [] → P
none_long long =
    let wrong : Err BadDate ≡ Err BadNumber = sym (none_named (pos 0) (pos 0)) ∙ long_read (pos 0) (pos 0) [] long
    in absurd cc

module _ (now : ℕ) where
  abbrev days_of : List ℕ → Result Days DateFault
  days_of text = named (day_at now) (day_at now) text

  between_read : (start end : List ℕ) (first last : Days) → days_of end ≡ Ok last
      → named (day_at now) last.last start ≡ Ok first
      → range_between_by day_number now start end
      ≡ Ok (record { from = Some (start_of_day first.first); until = Some (end_of_day last.last) })
  between_read start [] first last e f = none_names (day_at now) (day_at now) _ e
  between_read [] (b ∷ bs) first last e f = none_names (day_at now) last.last _ f
  between_read (a ∷ more) (b ∷ bs) first last e f = rw (e, f) refl

  until_read : (end : List ℕ) (last : Days) → days_of end ≡ Ok last → range_between_by day_number now [] end
      ≡ Ok (record { from = None; until = Some (end_of_day last.last) })
  until_read [] last e = none_names (day_at now) (day_at now) _ e
  until_read (b ∷ bs) last e = rw e refl

  since_read : (start : List ℕ) (first : Days) → days_of start ≡ Ok first → range_between_by day_number now start []
      ≡ Ok (record { from = Some (start_of_day first.first); until = Some (pos now) })
  since_read [] first e = none_names (day_at now) (day_at now) _ e
  since_read (a ∷ more) first e = rw e refl

  -- a text of one part, and one of two
  one_part : (text : List ℕ) → Free text → range_at text now ≡ range_of_period_by day_number now text
  unfolding range_at
  one_part text h = grind (arith, split_none)

  two_parts : (start end : List ℕ) → Free start → Free end
      → range_at (start ++ 0x2D ∷ end) now ≡ range_between_by day_number now start end
  unfolding range_at
  two_parts start end h k =
      grind (arith, split_at, split_none)

  pub range_read : (text : List ℕ) (range : Range) → IsRange now text range → range_at text now ≡ Ok range
  range_read text range (InPeriod period days n) =
      one_part _ (names_free _ _ _ _ n)
      ∙ rw (names_read (day_at now) (day_at now) period days n) refl
  range_read text range (Between start end first last l f) =
      two_parts _ _ (names_free _ _ _ _ f)
      (names_free _ _ _ _ l)
      ∙ between_read _ _ _ _ (names_read _ _ end last l)
      (names_read _ _ start first f)
  range_read text range (Until end last l) =
      two_parts [] _ refl (names_free _ _ _ _ l)
      ∙ until_read _ _ (names_read _ _ end last l)
  range_read text range (Since start first f) =
      two_parts _ [] (names_free _ _ _ _ f) refl
      ∙ since_read _ _ (names_read _ _ start first f)

  -- ---- the range of days

  abbrev after_period : Result Days DateFault → Result Range DateFault
  after_period period = period >>=ᵣ (λ days. Ok (range_of_days days))

  abbrev after_start : ℤ → Result Days DateFault → Result Range DateFault
  after_start until start =
      (start >>=ᵣ (λ days. Ok (Some (start_of_day days.first)))) >>=ᵣ
      (λ from. Ok (record { from = from; until = Some until }))

  abbrev after_end : List ℕ → Result Days DateFault → Result Range DateFault
  after_end start end = end >>=ᵣ (λ last. range_from_by day_number now last.last start (end_of_day last.last))

  -- the last day of an end, and its last second
  abbrev day_and_second : Days → ℤ × ℤ
  day_and_second last = (last.last, end_of_day last.last)

  ended : (start : List ℕ) (r : Result Days DateFault)
      → ((r >>=ᵣ (λ days. Ok (day_and_second days))) >>=ᵣ (λ end. range_from_by day_number now end.0 start end.1))
      ≡ after_end start r
  ended start r = grind arith

  with_end : (start : List ℕ) (b : ℕ) (bs : List ℕ)
      → range_between_by day_number now start (b ∷ bs) ≡ after_end start (days_of (b ∷ bs))
  with_end [] b bs = ended [] _
  with_end (a ∷ more) b bs = ended (a ∷ more) _

  -- ---- each text that is read is a range

  record IsStart (end : ℤ) (start : List ℕ) (until : ℤ) (range : Range) : Type 0 where
    first : Days
    names : NamesDays (day_at now) end start first
    is : record { from = Some (start_of_day first.first); until = Some until } ≡ range

  read_start : (end : ℤ) (a : ℕ) (more : List ℕ) (until : ℤ) (range : Range)
      → range_from_by day_number now end (a ∷ more) until ≡ Ok range → IsStart end (a ∷ more) until range
  read_start end a more until range e = go (named (day_at now) end (a ∷ more)) refl e
    where
      go : (r : Result Days DateFault) → named (day_at now) end (a ∷ more) ≡ r → after_start until r ≡ Ok range
          → IsStart end (a ∷ more) until range
      go r h h2 = grind (arith, read_names)

  read_period : (period : List ℕ) (range : Range) → range_of_period_by day_number now period ≡ Ok range
      → IsRange now period range
  read_period period range e = go (days_of period) refl e
    where
      go : (r : Result Days DateFault) → days_of period ≡ r → after_period r ≡ Ok range → IsRange now period range
      go (Ok days) h k =
          let same : range_of_days days ≡ range = cc
          in rw same at (InPeriod period days (read_names _ _ period days h))
      go (Err fault) h k = absurd cc

  read_between : (start end : List ℕ) (range : Range) → range_between_by day_number now start end ≡ Ok range
      → IsRange now (start ++ 0x2D ∷ end) range
  read_between [] [] range e = absurd cc
  read_between (a ∷ more) [] range e =
      let s = read_start (day_at now) a more (pos now) range e
      in rw s.is at (Since (a ∷ more) s.first s.names)
  read_between [] (b ∷ bs) range e = go (days_of (b ∷ bs)) refl (sym (with_end [] b bs) ∙ e)
    where
      go : (r : Result Days DateFault) → days_of (b ∷ bs) ≡ r → after_end [] r ≡ Ok range
          → IsRange now (0x2D ∷ b ∷ bs) range
      go (Ok last) h k =
          let same : record { from = None; until = Some (end_of_day last.last) } ≡ range = cc in
          rw same at (Until (b ∷ bs) last (read_names (day_at now) (day_at now) (b ∷ bs) last h))
      go (Err fault) h k = absurd cc
  read_between (a ∷ more) (b ∷ bs) range e = go (days_of (b ∷ bs)) refl (sym (with_end (a ∷ more) b bs) ∙ e)
    where
      go : (r : Result Days DateFault) → days_of (b ∷ bs) ≡ r → after_end (a ∷ more) r ≡ Ok range
          → IsRange now ((a ∷ more) ++ 0x2D ∷ b ∷ bs) range
      go (Ok last) h k =
          let s = read_start last.last a more (end_of_day last.last) range k in
          rw s.is at (Between (a ∷ more) (b ∷ bs) s.first last (read_names (day_at now) (day_at now) (b ∷ bs) last h)
          s.names)
      go (Err fault) h k = absurd cc

  pub read_range : (text : List ℕ) (range : Range) → range_at text now ≡ Ok range → IsRange now text range
  unfolding range_at
  read_range text range e = go (slice_split is_dash text) refl e
    where
      go : (parts : List (List ℕ)) → slice_split is_dash text ≡ parts
          → range_of_parts_by day_number now parts ≡ Ok range → IsRange now text range
      go [] h k = absurd cc
      go (period ∷ []) h k =
          subst (λ (t : List ℕ). IsRange now t range) (sym (alone _ _ h)) (read_period _ _ k)
      go (start ∷ end ∷ []) h k =
          subst (λ (t : List ℕ). IsRange now t range) (sym (joined _ _ _ h)) (read_between _ _ _ k)
      go (a ∷ b ∷ c ∷ rest) h k = absurd cc

  -- ---- counts that are too long

  abbrev TooLongBetween : List ℕ → List ℕ → Type 0
  TooLongBetween start end = range_between_by day_number now start end ≡ Err BadNumber

  long_end : (start end : List ℕ) → IsLongCount end → TooLongBetween start end
  long_end start [] long = none_long long
  long_end start (b ∷ bs) long = grind (arith, long_read)

  long_start : (start end : List ℕ) → IsLongCount start → IsEnd now end → TooLongBetween start end
  long_start [] end long h = none_long long
  long_start (a ∷ more) end long NoEnd = grind (arith, long_read)
  long_start (a ∷ more) end long (NamedEnd end' last l) =
      after end' last (names_read (day_at now) (day_at now) end' last l)
    where
      after : (end : List ℕ) (last : Days) → days_of end ≡ Ok last → TooLongBetween (a ∷ more) end
      after end last h = grind (arith, long_read)

  end_free : (end : List ℕ) → IsEnd now end → Free end
  end_free end NoEnd = refl
  end_free end (NamedEnd end' last l) = names_free _ _ _ _ l

  pub too_long : (text : List ℕ) → HasLongCount now text → range_at text now ≡ Err BadNumber
  too_long text (AsPeriod period long) =
      grind (arith, one_part, long_free, long_read)
  too_long text (AsEnd start end h long) = grind (arith, two_parts, long_free, long_end)
  too_long text (AsStart start end long h) =
      grind (arith, two_parts, long_free, end_free, long_start)

  was_long : (end : ℤ) (a : ℕ) (more : List ℕ) (until : ℤ)
      → range_from_by day_number now end (a ∷ more) until ≡ Err BadNumber → IsLongCount (a ∷ more)
  was_long end a more until e = grind (arith, read_long)

  was_long_period : (period : List ℕ) → range_of_period_by day_number now period ≡ Err BadNumber
      → HasLongCount now period
  was_long_period period e = go (days_of period) refl e
    where
      go : (r : Result Days DateFault) → days_of period ≡ r → after_period r ≡ Err BadNumber → HasLongCount now period
      go (Ok days) h k = absurd cc
      go (Err BadNumber) h k = AsPeriod period (read_long (day_at now) (day_at now) period h)
      go (Err BadDate) h k = absurd cc

  was_long_between : (start end : List ℕ) → Free start → TooLongBetween start end
      → HasLongCount now (start ++ 0x2D ∷ end)
  was_long_between [] [] f e = absurd cc
  was_long_between (a ∷ more) [] f e = AsStart (a ∷ more) [] (was_long (day_at now) a more (pos now) e) NoEnd
  was_long_between [] (b ∷ bs) f e = go (days_of (b ∷ bs)) refl (sym (with_end [] b bs) ∙ e)
    where
      go : (r : Result Days DateFault) → days_of (b ∷ bs) ≡ r → after_end [] r ≡ Err BadNumber
          → HasLongCount now (0x2D ∷ b ∷ bs)
      go (Ok last) h k = absurd cc
      go (Err BadNumber) h k = AsEnd [] (b ∷ bs) f (read_long (day_at now) (day_at now) (b ∷ bs) h)
      go (Err BadDate) h k = absurd cc
  was_long_between (a ∷ more) (b ∷ bs) f e = go (days_of (b ∷ bs)) refl (sym (with_end (a ∷ more) b bs) ∙ e)
    where
      go : (r : Result Days DateFault) → days_of (b ∷ bs) ≡ r → after_end (a ∷ more) r ≡ Err BadNumber
          → HasLongCount now ((a ∷ more) ++ 0x2D ∷ b ∷ bs)
      go (Ok last) h k =
          AsStart (a ∷ more) (b ∷ bs) (was_long last.last a more (end_of_day last.last) k)
          (NamedEnd (b ∷ bs) last (read_names (day_at now) (day_at now) (b ∷ bs) last h))
      go (Err BadNumber) h k = AsEnd (a ∷ more) (b ∷ bs) f (read_long (day_at now) (day_at now) (b ∷ bs) h)
      go (Err BadDate) h k = absurd cc

  pub was_too_long : (text : List ℕ) → range_at text now ≡ Err BadNumber → HasLongCount now text
  unfolding range_at
  was_too_long text e = go (slice_split is_dash text) refl e
    where
      go : (parts : List (List ℕ)) → slice_split is_dash text ≡ parts
          → range_of_parts_by day_number now parts ≡ Err BadNumber → HasLongCount now text
      go [] h k = absurd cc
      go (period ∷ []) h k = subst (HasLongCount now) (sym (alone _ _ h)) (was_long_period _ k)
      go (start ∷ end ∷ []) h k =
          subst (HasLongCount now) (sym (joined _ _ _ h))
          (was_long_between _ _ (first_free text _ _ h) k)
      go (a ∷ b ∷ c ∷ rest) h k = absurd cc

  -- ---- the laws

  pub range_law : (text : List ℕ) (range : Range) → (range_at text now ≡ Ok range) ↔ IsRange now text range
  range_law text range = (read_range _ _, range_read _ _)

  pub fault_law : (text : List ℕ) (fault : DateFault) → (range_at text now ≡ Err fault) ↔ IsFault now text fault
  fault_law text fault = (refused fault, is_refused fault)
    where
      refused : (fault : DateFault) → range_at text now ≡ Err fault → IsFault now text fault
      refused BadNumber e = TooLong (was_too_long _ e)
      refused BadDate e =
          NoRange (λ range is. let ok : Ok range ≡ Err BadDate = sym (range_read _ _ is) ∙ e in cc)
          (λ long. let other : Err BadNumber ≡ Err BadDate = sym (too_long _ long) ∙ e in cc)

      go : (r : Result Range DateFault) → range_at text now ≡ r → ((range : Range) → IsRange now text range → ⊥)
          → (HasLongCount now text → ⊥) → range_at text now ≡ Err BadDate
      go (Ok range) e h k = absurd (h range (read_range _ _ e))
      go (Err BadDate) e h k = e
      go (Err BadNumber) e h k = absurd (k (was_too_long _ e))

      is_refused : (fault : DateFault) → IsFault now text fault → range_at text now ≡ Err fault
      is_refused fault (TooLong long) = too_long _ long
      is_refused fault (NoRange h k) = go (range_at text now) refl h k

  -- the same for the result of a call
  pub range_answered : (text : List ℕ) (r : Result Range DateFault) → r ≡ range_at text now → (range : Range)
      → (r ≡ Ok range) ↔ IsRange now text range
  range_answered text r e range = rw e (range_law _ _)

  pub fault_answered : (text : List ℕ) (r : Result Range DateFault) → r ≡ range_at text now → (fault : DateFault)
      → (r ≡ Err fault) ↔ IsFault now text fault
  fault_answered text r e fault = rw e (fault_law _ _)
