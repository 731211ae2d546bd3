-- Periods are read as their grammar says.
use Rattle.mail_dates.proofs.Words.{◌≡◌, ℕ, ◌-◌, ◌<◌, Bool, true, false, ◌&&◌, ◌==◌, List, [], ◌∷◌, ◌++◌, length, take, drop, Option, Some, None, Result, Ok, Err, refl, sym, ap, ◌∙◌, subst, arith, ℤ, pos, list_all, if◌then◌else◌, option_map, number_in, month_of, day_number, period_of, ◌>>=◌, DateFault, BadDate, BadNumber, ◌↔◌}
use Rattle.std.specs.Prelude.{slice_range, is_some, nat_lt, ok_or}
use Rattle.contract_words.specs.Answers.{◌>>=◌ as ◌>>=ᵣ◌}
use Rattle.std.specs.Char.{is_ascii_digit}
use Rattle.std.specs.Option.{option_or}
use Rattle.std.proofs.Common.{length-append}
use Rattle.std.proofs.Math.Seq.{take-append_seam, drop-append_seam, get_or-append_seam}
use Rattle.std.proofs.lemmas.List.{take-append-drop}
use Rattle.std.proofs.lemmas.Option.{slice_get-get_or, option_and_then_some}
use Rattle.mail_dates.specs.declared.days.Days.{Days}
use Rattle.mail_dates.specs.declared.days.DaysOfYear.TheVariants as days
use Rattle.mail_dates.specs.declared.period.Unit.{Unit}
use Rattle.mail_dates.specs.declared.period.Period.{Period}
use Rattle.mail_dates.specs.declared.period.Period.TheVariants.{Ago, InYear, Yearly}
use Rattle.mail_dates.specs.Periods as periods
use Rattle.mail_dates.specs.Periods.{unit_of, last_unit, before_last_letter, day_of, yearly_day, has_long_count, period_days_by}
use Rattle.mail_dates.specs.Ranges.{named_days_by}
use Rattle.mail_dates.specs.PeriodGrammar.{NamesDays, Form, DaysAgo, FullDate, WholeYear, NamedMonth, DayThenMonth, MonthThenDay, IsPeriod, CountOfUnits, YearMonthDay, Year, Month, DayMonth, MonthDay, IsLongCount, DigitsAndUnit, IsRefusedPeriod, LongCount, NoPeriod}
use Rattle.mail_dates.proofs.PeriodForms.{number_is, name_is, formed, no_form, same_form}

-- the period that is read from a text of this form
abbrev read : Form → List ℕ → Option Period
read DaysAgo text = periods.ago text
read FullDate text = periods.full_date text
read WholeYear text = periods.whole_year text
read NamedMonth text = periods.yearly_month text
read DayThenMonth text = periods.day_and_month text
read MonthThenDay text = periods.month_and_day text

-- ---- the parts of a text

record IsCutAt (n : ℕ) (xs ys : List ℕ) : Type 0 where
  front : take n (xs ++ ys) ≡ xs
  back : drop n (xs ++ ys) ≡ ys

cut_at : (n : ℕ) (xs ys : List ℕ) → length xs ≡ n → IsCutAt n xs ys
cut_at n xs ys e = grind (arith, take-append_seam, drop-append_seam)

last_place : (front : List ℕ) (letter : ℕ) → length (front ++ letter ∷ []) - 1 ≡ length front
last_place front letter = omega (arith, length-append front (letter ∷ []))

last_unit-last : (front : List ℕ) (letter : ℕ) → last_unit (front ++ letter ∷ []) ≡ unit_of letter
last_unit-last front letter =
    let below : length front < length (front ++ letter ∷ []) = omega (arith, length-append front (letter ∷ [])) in
    cc (
      last_place _ _,
      slice_get-get_or (front ++ letter ∷ []) (length front) 0 below,
      get_or-append_seam front letter [] 0,
    )

before_last : (front : List ℕ) (letter : ℕ) → before_last_letter (front ++ letter ∷ []) ≡ front
before_last front letter =
    grind (arith, last_place, take-append_seam)

-- a text that isn't empty has a last byte
last_of : (b : ℕ) (bs : List ℕ) → (front : List ℕ) × (last : ℕ) × (b ∷ bs ≡ front ++ last ∷ [])
last_of b [] = ([], b, refl)
last_of b (c ∷ bs) = let l = last_of c bs in (b ∷ l.0, l.1, ap (λ (xs : List ℕ). b ∷ xs) l.2)

-- ---- each form is read

day_first : (digits name : List ℕ) (day month : ℕ) → day_of digits ≡ Some day → month_of name ≡ Some month
    → periods.day_and_month (digits ++ name) ≡ Some (Yearly (days.Day month day))
day_first digits name day month d e =
    let n = name_is name month e in
    let place : length (digits ++ name) - 3 ≡ length digits = omega (arith, length-append digits name, n.three) in
    let cut = cut_at (length digits) digits name refl in
    rw (place, cut.front, cut.back, e, d) refl

month_first : (name digits : List ℕ) (month day : ℕ) → month_of name ≡ Some month → day_of digits ≡ Some day
    → periods.month_and_day (name ++ digits) ≡ Some (Yearly (days.Day month day))
month_first name digits month day e d =
    let n = name_is name month e in
    let cut = cut_at 3 name digits n.three in
    rw (cut.front, cut.back, e, d) refl

either : {P : Type 0} (a b : Option Period) (period : Period) → option_or a b ≡ Some period → (a ≡ Some period → P)
    → (b ≡ Some period → P) → P
either a b period h h2 h3 = grind arith

-- ---- counts that are too long

is_long : (text : List ℕ) → has_long_count text ≡ true → IsLongCount text
is_long [] e = absurd cc
is_long (b ∷ bs) e = let l = last_of b bs in grind (arith, go)
  where
    at : (digits : List ℕ) (letter : ℕ) (unit : Option Unit) → unit_of letter ≡ unit
        → (is_some unit && nat_lt 4 (length digits) && list_all is_ascii_digit digits) ≡ true
        → IsLongCount (digits ++ letter ∷ [])
    at digits letter None u e = absurd cc
    at digits letter (Some unit) u e =
        DigitsAndUnit digits letter unit (grind arith) (grind arith) u

    go : (digits : List ℕ) (letter : ℕ) → has_long_count (digits ++ letter ∷ []) ≡ true
        → IsLongCount (digits ++ letter ∷ [])
    go digits letter e =
        grind (arith, at, last_unit-last, before_last)

long_is : (text : List ℕ) → IsLongCount text → has_long_count text ≡ true
long_is text (DigitsAndUnit digits letter unit many h u) =
    grind (arith, last_unit-last, before_last)

-- ---- the parts of periods that are read

same_some : {A : Type 0} (x y : A) → Some x ≡ Some y → x ≡ y
same_some x y e = cc

map_some : {A B : Type 0} (f : A → B) (o : Option A) (y : B) → option_map f o ≡ Some y
    → (x : A) × (o ≡ Some x) × (f x ≡ y)
map_some f o y e = grind arith

record DateParts (text : List ℕ) (period : Period) : Type 0 where
  year : ℕ
  month : ℕ
  day : ℕ
  yyyy : number_in 4 4 (take 4 text) ≡ Some year
  mm : number_in 2 2 (slice_range text 4 6) ≡ Some month
  dd : number_in 2 2 (drop 6 text) ≡ Some day
  is : period ≡ InYear (pos year) (days.Day month day)

date_parts : (text : List ℕ) (period : Period) → periods.full_date text ≡ Some period → DateParts text period
date_parts text period e =
    go (length text == 8) (number_in 4 4 (take 4 text)) (number_in 2 2 (slice_range text 4 6))
    (number_in 2 2 (drop 6 text)) refl refl refl e
  where
    go : (long : Bool) (y m d : Option ℕ) → number_in 4 4 (take 4 text) ≡ y
        → number_in 2 2 (slice_range text 4 6) ≡ m → number_in 2 2 (drop 6 text) ≡ d
        → (if long then (y >>= (λ year. m >>= (λ month. d >>= (λ day. Some (InYear (pos year) (days.Day month day))))))
        else None) ≡ Some period → DateParts text period
    go long y m d h h2 h3 h4 = grind arith

date_text : (text : List ℕ) → take 4 text ++ (slice_range text 4 6 ++ drop 6 text) ≡ text
date_text text =
    grind arith

record YearlyParts (name digits : Option ℕ) (period : Period) : Type 0 where
  month : ℕ
  day : ℕ
  named_month : name ≡ Some month
  named_day : digits ≡ Some day
  is : period ≡ Yearly (days.Day month day)

yearly_parts : (name digits : Option ℕ) (period : Period) → yearly_day name digits ≡ Some period
    → YearlyParts name digits period
yearly_parts name digits period e = grind arith

module _ (today by : ℤ) where
  -- a period of these days is read
  record Reads (form : Form) (text : List ℕ) (said : Option Days) : Type 0 where
    period : Period
    is : read form text ≡ Some period
    has : period_days_by day_number today by period ≡ said

  ago_of : (front : List ℕ) (letter : ℕ)
      → periods.ago (front ++ letter ∷ []) ≡
      (unit_of letter >>= (λ unit. number_in 1 4 front >>= (λ count. Some (Ago count unit))))
  ago_of front letter = grind (arith, last_unit-last, before_last)

  ago_read : (digits : List ℕ) (count letter : ℕ) (unit : Unit) → number_in 1 4 digits ≡ Some count
      → unit_of letter ≡ Some unit → periods.ago (digits ++ letter ∷ []) ≡ Some (Ago count unit)
  ago_read digits count letter unit e u = ago_of digits letter ∙ rw (u, e) refl

  date_read : (yyyy mm dd : List ℕ) (year month day : ℕ) → number_in 4 4 yyyy ≡ Some year
      → number_in 2 2 mm ≡ Some month → number_in 2 2 dd ≡ Some day
      → periods.full_date (yyyy ++ (mm ++ dd)) ≡ Some (InYear (pos year) (days.Day month day))
  date_read yyyy mm dd year month day e f g =
      let y = number_is 4 4 yyyy year e in
      let m = number_is 2 2 mm month f in
      let d = number_is 2 2 dd day g in
      let first = cut_at 4 yyyy (mm ++ dd) (omega arith) in
      let second = cut_at 2 mm dd (omega arith) in
      let long : length (yyyy ++ (mm ++ dd)) ≡ 8 =
      omega (arith, length-append yyyy (mm ++ dd), length-append mm dd)
      in
      grind arith

  reads : (text : List ℕ) (form : Form) (said : Option Days) → IsPeriod today by text form said → Reads form text said
  reads text form said (CountOfUnits digits count letter unit e u) =
      grind (arith, ago_read)
  reads text form said (YearMonthDay yyyy mm dd year month day e f g) =
      record {
        period = InYear (pos year) (days.Day month day);
        is = date_read yyyy mm dd year month day e f g;
        has =
            refl;
      }
  reads text form said (Year yyyy year e) = record { period = InYear (pos year) days.All; is = rw e refl; has = refl }
  reads text form said (Month name month e) = record { period = Yearly (days.Month month); is = rw e refl; has = refl }
  reads text form said (DayMonth digits name day month d e) =
      record { period = Yearly (days.Day month day); is = day_first digits name day month d e; has = refl }
  reads text form said (MonthDay name digits month day e d) =
      grind (arith, month_first)

  -- ---- a text that is read has the form

  -- the text has this form, with the days of this period
  abbrev Is : Form → List ℕ → Period → Type 0
  Is form text period = IsPeriod today by text form (period_days_by day_number today by period)

  ago_is : (front : List ℕ) (letter : ℕ) (period : Period) → periods.ago (front ++ letter ∷ []) ≡ Some period
      → Is DaysAgo (front ++ letter ∷ []) period
  ago_is front letter period e =
      option_and_then_some (λ unit. number_in 1 4 front >>= (λ count. Some (Ago count unit))) (unit_of letter) period
      (sym (ago_of front letter) ∙ e) (λ unit u h.
      option_and_then_some (λ count. Some (Ago count unit)) (number_in 1 4 front) period h (λ count n k.
      subst (Is DaysAgo (front ++ letter ∷ [])) (same_some _ _ k) (CountOfUnits front count letter unit n u)))

  date_is : (text : List ℕ) (period : Period) → periods.full_date text ≡ Some period → Is FullDate text period
  date_is text period e =
      let d = date_parts text _ e in
      subst (λ (t : List ℕ). Is FullDate t period) (date_text _)
      (rw d.is (YearMonthDay (take 4 text) (slice_range text 4 6) (drop 6 text) d.year d.month d.day d.yyyy d.mm d.dd))

  year_is : (text : List ℕ) (period : Period) → periods.whole_year text ≡ Some period → Is WholeYear text period
  year_is text period e =
      let m = map_some _ _ _ e
      in subst (Is WholeYear text) m.2 (Year text m.0 m.1)

  month_is : (text : List ℕ) (period : Period) → periods.yearly_month text ≡ Some period → Is NamedMonth text period
  month_is text period e =
      let m = map_some _ _ _ e
      in subst (Is NamedMonth text) m.2 (Month text m.0 m.1)

  day_first_is : (n : ℕ) (text : List ℕ) (period : Period)
      → yearly_day (month_of (drop n text)) (day_of (take n text)) ≡ Some period → Is DayThenMonth text period
  day_first_is n text period e =
      let p = yearly_parts _ _ _ e in
      subst (λ (t : List ℕ). Is DayThenMonth t period) (take-append-drop n text)
      (rw p.is (DayMonth (take n text) (drop n text) p.day p.month p.named_day p.named_month))

  month_first_is : (n : ℕ) (text : List ℕ) (period : Period)
      → yearly_day (month_of (take n text)) (day_of (drop n text)) ≡ Some period → Is MonthThenDay text period
  month_first_is n text period e =
      let p = yearly_parts _ _ _ e in
      subst (λ (t : List ℕ). Is MonthThenDay t period) (take-append-drop n text)
      (rw p.is (MonthDay (take n text) (drop n text) p.month p.day p.named_month p.named_day))

  is_read : (form : Form) (text : List ℕ) (period : Period) → read form text ≡ Some period → Is form text period
  is_read DaysAgo [] period e = absurd cc
  is_read DaysAgo (b ∷ bs) period e =
      let l = last_of b bs in grind (arith, ago_is)
  is_read FullDate text period e = date_is _ _ e
  is_read WholeYear text period e = year_is _ _ e
  is_read NamedMonth text period e = month_is _ _ e
  is_read DayThenMonth text period e = day_first_is _ _ _ e
  is_read MonthThenDay text period e = month_first_is 3 _ _ e

  -- ---- the forms are tried in turn

  chosen : List ℕ → Option Period
  chosen text = option_or (periods.ago text) (option_or (periods.full_date text) (option_or (periods.whole_year text)
      (option_or (periods.yearly_month text) (option_or (periods.day_and_month text) (periods.month_and_day text)))))

  -- a period that is read for another form is the same
  later : (g f : Form) (text : List ℕ) (period : Period) (rest : Option Period) → read f text ≡ Some period
      → rest ≡ Some period → option_or (read g text) rest ≡ Some period
  later g f text period rest e h = go (read g text) refl
    where
      go : (o : Option Period) → read g text ≡ o → option_or o rest ≡ Some period
      go None k = h
      go (Some other) k =
          cc (same_form _ by _ g f _ _ (is_read g _ _ k) (is_read f _ _ e))

  chosen_is : (form : Form) (text : List ℕ) (period : Period) → read form text ≡ Some period → chosen text ≡ Some period
  unfolding chosen
  chosen_is form text period e = go form e
    where
      before : (g : Form) (rest : Option Period) → rest ≡ Some period → option_or (read g text) rest ≡ Some period
      before g rest h = later g form text period rest e h

      go : (f : Form) → read f text ≡ Some period → chosen text ≡ Some period
      go DaysAgo h = rw h refl
      go FullDate h = before DaysAgo _ (rw h refl)
      go WholeYear h = before DaysAgo _ (before FullDate _ (rw h refl))
      go NamedMonth h = before DaysAgo _ (before FullDate _ (before WholeYear _ (rw h refl)))
      go DayThenMonth h = before DaysAgo _ (before FullDate _ (before WholeYear _ (before NamedMonth _ (rw h refl))))
      go MonthThenDay h =
          before DaysAgo _ (before FullDate _ (before WholeYear _ (before NamedMonth _ (before DayThenMonth _ h))))

  record HasForm (text : List ℕ) (period : Period) : Type 0 where
    form : Form
    is : read form text ≡ Some period

  is_chosen : (text : List ℕ) (period : Period) → chosen text ≡ Some period → HasForm text period
  unfolding chosen
  is_chosen text period e =
      let at : (form : Form) → read form text ≡ Some period → HasForm text period =
      λ form h. record { form = form; is = h } in
      either _ _ _ e (at DaysAgo)
      (λ e. either _ _ _ e (at FullDate)
      (λ e. either _ _ _ e (at WholeYear)
      (λ e. either _ _ _ e (at NamedMonth)
      (λ e. either _ _ _ e (at DayThenMonth) (at MonthThenDay)))))

  -- ---- the days that a text names

  abbrev named : List ℕ → Result Days DateFault
  named text = named_days_by day_number today by text

  not_long : (text : List ℕ) (form : Form) (said : Option Days) → IsPeriod today by text form said
      → has_long_count text ≡ false
  not_long text form said h = grind (arith, no_form, is_long, formed)

  pub names_read : (text : List ℕ) (days : Days) → NamesDays today by text days → named text ≡ Ok days
  unfolding period_of chosen
  names_read text days n =
      let r = reads _ _ _ n.period in
      rw (not_long text n.form (Some days) n.period, chosen_is n.form text r.period r.is, r.has) refl

  pub long_read : (text : List ℕ) → IsLongCount text → named text ≡ Err BadNumber
  unfolding period_of
  long_read text h = rw (long_is text h) refl

  record HasRead (text : List ℕ) (days : Days) : Type 0 where
    period : Period
    is : chosen text ≡ Some period
    has : period_days_by day_number today by period ≡ Some days

  was_read : (long : Bool) (text : List ℕ) (days : Days)
      → ((if long then Err BadNumber else ok_or (chosen text) BadDate) >>=ᵣ
      (λ period. ok_or (period_days_by day_number today by period) BadDate)) ≡ Ok days → HasRead text days
  was_read long text days e = grind arith

  pub read_names : (text : List ℕ) (days : Days) → named text ≡ Ok days → NamesDays today by text days
  unfolding period_of chosen
  read_names text days e =
      let h = was_read (has_long_count text) text days e in
      let f = is_chosen text h.period h.is in
      record { form = f.form; period = rw h.has at (is_read f.form text h.period f.is) }

  other_fault : (o : Option Period)
      → (ok_or o BadDate >>=ᵣ (λ period. ok_or (period_days_by day_number today by period) BadDate)) ≡ Err BadNumber
      → ⊥
  other_fault o e = grind arith

  pub read_long : (text : List ℕ) → named text ≡ Err BadNumber → IsLongCount text
  unfolding period_of chosen
  read_long text e = go (has_long_count text) refl e
    where
      go : (t : Bool) → has_long_count text ≡ t
          → ((if t then Err BadNumber else ok_or (chosen text) BadDate) >>=ᵣ
          (λ period. ok_or (period_days_by day_number today by period) BadDate)) ≡ Err BadNumber → IsLongCount text
      go t h h2 = grind (arith, is_long, other_fault)

  -- ---- the laws

  pub one_form : (text : List ℕ) (f g : Form) (d e : Option Days) → IsPeriod today by text f d
      → IsPeriod today by text g e → (f ≡ g) × (d ≡ e)
  one_form text f g d e h k =
      grind (arith, same_form, reads)

  pub named_law : (text : List ℕ) (days : Days) → (named text ≡ Ok days) ↔ NamesDays today by text days
  named_law text days = (read_names _ _, names_read _ _)

  pub refused_law : (text : List ℕ) (fault : DateFault) → (named text ≡ Err fault) ↔ IsRefusedPeriod today by text fault
  refused_law text fault = (refused fault, is_refused fault)
    where
      refused : (fault : DateFault) → named text ≡ Err fault → IsRefusedPeriod today by text fault
      refused BadNumber e = LongCount (read_long _ e)
      refused BadDate e =
          NoPeriod (λ days n. let ok : Ok days ≡ Err BadDate = sym (names_read _ _ n) ∙ e in cc)
          (λ long. let other : Err BadNumber ≡ Err BadDate = sym (long_read _ long) ∙ e in cc)

      go : (r : Result Days DateFault) → named text ≡ r → ((days : Days) → NamesDays today by text days → ⊥)
          → (IsLongCount text → ⊥) → named text ≡ Err BadDate
      go (Ok days) e h k = absurd (h days (read_names _ _ e))
      go (Err BadDate) e h k = e
      go (Err BadNumber) e h k = absurd (k (read_long _ e))

      is_refused : (fault : DateFault) → IsRefusedPeriod today by text fault → named text ≡ Err fault
      is_refused fault (LongCount long) = long_read _ long
      is_refused fault (NoPeriod h k) = go (named text) refl h k
