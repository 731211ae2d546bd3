-- The forms of periods exclude one another, because they differ in the number of digits and of other bytes, and in
-- whether a digit comes first.
use Rattle.mail_dates.proofs.Words.{◌≡◌, ℕ, zero, suc, ◌+◌, ◌≤◌, ◌<◌, Bool, true, false, cond, ◌&&◌, ◌==◌, nat_le, List, [], ◌∷◌, ◌++◌, length, get_or, Option, Some, None, refl, ap, ◌∙◌, arith, ℤ, list_all, nat_tests, if◌then◌else◌, number_in, month_of, option_map}
use Rattle.std.specs.Char.{is_ascii_digit, is_ascii_alphabetic}
use Rattle.std.specs.Str.{str_to_ascii_lowercase, str_eq_ignore_ascii_case}
use Rattle.std.proofs.Common.{length-append}
use Rattle.std.proofs.lemmas.List.Quantifiers.{position-Some}
use Rattle.std.proofs.lemmas.Slice.Eq.{bytes_eq-Decides}
use Rattle.mail_dates.specs.declared.days.Days.{Days}
use Rattle.mail_dates.specs.declared.period.Unit.{Unit}
use Rattle.mail_dates.specs.Calendar.{month_names}
use Rattle.mail_dates.specs.Periods.{unit_of, day_of}
use Rattle.mail_dates.specs.PeriodGrammar.{Form, DaysAgo, FullDate, WholeYear, NamedMonth, DayThenMonth, MonthThenDay, IsPeriod, CountOfUnits, YearMonthDay, Year, Month, DayMonth, MonthDay, IsLongCount, DigitsAndUnit}

-- ---- digits

abbrev pub digits_in : List ℕ → ℕ
digits_in [] = 0
digits_in (b ∷ bs) = cond (is_ascii_digit b) (suc (digits_in bs)) (digits_in bs)

abbrev pub begins_with_digit : List ℕ → Bool
begins_with_digit [] = false
begins_with_digit (b ∷ bs) = is_ascii_digit b

digits_in-append : (xs ys : List ℕ) → digits_in (xs ++ ys) ≡ digits_in xs + digits_in ys
digits_in-append [] ys = omega arith
digits_in-append (x ∷ xs) ys = grind (arith, digits_in-append xs ys)

all_digits : (xs : List ℕ) → list_all is_ascii_digit xs ≡ true → digits_in xs ≡ length xs
all_digits [] h = refl
all_digits (x ∷ xs) h = grind (arith, all_digits xs)

no_digits : (xs : List ℕ) → list_all is_ascii_alphabetic xs ≡ true → digits_in xs ≡ 0
no_digits [] h = refl
no_digits (x ∷ xs) h = grind (arith, nat_tests, no_digits xs)

begins-append : (xs ys : List ℕ) → 1 ≤ length xs → begins_with_digit (xs ++ ys) ≡ begins_with_digit xs
begins-append xs ys h = grind arith

-- ---- the parts of periods

pub record IsNumber (least most : ℕ) (text : List ℕ) : Type 0 where
  pub low : least ≤ length text
  pub high : length text ≤ most
  pub digits : list_all is_ascii_digit text ≡ true

pub number_is : (least most : ℕ) (text : List ℕ) (n : ℕ) → number_in least most text ≡ Some n → IsNumber least most text
number_is least most text n e = grind (arith, nat_tests)

pub day_is : (text : List ℕ) (day : ℕ) → day_of text ≡ Some day → IsNumber 1 2 text
day_is text day e = grind (arith, number_is)

pub unit_letter : (letter : ℕ) (unit : Unit) → unit_of letter ≡ Some unit → is_ascii_alphabetic letter ≡ true
unit_letter letter unit e = grind (arith, nat_tests)

pub record IsName (text : List ℕ) : Type 0 where
  pub three : length text ≡ 3
  pub letters : list_all is_ascii_alphabetic text ≡ true

same_letters : (text : List ℕ)
    → list_all is_ascii_alphabetic (str_to_ascii_lowercase text) ≡ list_all is_ascii_alphabetic text
same_letters [] = refl
same_letters (b ∷ bs) = grind (arith, nat_tests, same_letters bs)

same_length : (text : List ℕ) → length (str_to_ascii_lowercase text) ≡ length text
same_length [] = refl
same_length (b ∷ bs) = ap suc (same_length bs)

-- each element passes
passes_at : (p : List ℕ → Bool) (xs : List (List ℕ)) (i : ℕ) → list_all p xs ≡ true → i < length xs
    → p (get_or xs i []) ≡ true
passes_at p [] i e h = absurd (omega (arith, h))
passes_at p (x ∷ xs) zero e h = grind arith
passes_at p (x ∷ xs) (suc i) e h = grind (arith, passes_at p xs i)

-- whether a name has three letters
is_lower_name : List ℕ → Bool
is_lower_name lower = (length lower == 3) && list_all is_ascii_alphabetic lower

found : (o : Option ℕ) (n : ℕ) → option_map suc o ≡ Some n → (i : ℕ) × (o ≡ Some i)
found o n e = grind arith

lower_name : (text : List ℕ) → is_lower_name (str_to_ascii_lowercase text) ≡ true → IsName text
unfolding is_lower_name
lower_name text e =
    grind (arith, same_length, same_letters)

pub name_is : (text : List ℕ) (month : ℕ) → month_of text ≡ Some month → IsName text
unfolding month_of is_lower_name
name_is text month e =
    let f = found _ _ e in
    let at = position-Some (str_eq_ignore_ascii_case text) month_names f.0 [] f.1 in
    let name : List ℕ = get_or month_names f.0 [] in
    let same : str_to_ascii_lowercase text ≡ str_to_ascii_lowercase name =
    grind (arith, bytes_eq-Decides) in
    lower_name _ (cc (same, passes_at (λ m. is_lower_name (str_to_ascii_lowercase m)) month_names _ refl at.0))

-- ---- the form, by the number of digits and of other bytes, and by whether a digit comes first

abbrev form_of : List ℕ → Option Form
form_of text =
    if length text == digits_in text then (if digits_in text == 8 then Some FullDate else Some WholeYear)
    else (if length text == digits_in text + 1 then (if nat_le (digits_in text) 4 then Some DaysAgo else None)
    else (if digits_in text == 0 then Some NamedMonth
    else (if begins_with_digit text then Some DayThenMonth else Some MonthThenDay)))

days_ago : (text : List ℕ) → length text ≡ digits_in text + 1 → digits_in text ≤ 4 → form_of text ≡ Some DaysAgo
days_ago text e h = grind (arith, nat_tests)

too_long : (text : List ℕ) → length text ≡ digits_in text + 1 → 5 ≤ digits_in text → form_of text ≡ None
too_long text e h = grind (arith, nat_tests)

named_month : (text : List ℕ) → length text ≡ 3 → digits_in text ≡ 0 → form_of text ≡ Some NamedMonth
named_month text e f = rw (e, f) refl

with_month : (text : List ℕ) → length text ≡ digits_in text + 3 → 1 ≤ digits_in text
    → form_of text ≡ (if begins_with_digit text then Some DayThenMonth else Some MonthThenDay)
with_month text e h = grind (arith, nat_tests)

-- a letter after digits
record IsCount (text : List ℕ) (digits : ℕ) : Type 0 where
  count : digits_in text ≡ digits
  whole : length text ≡ digits + 1

count_is : (digits : List ℕ) (letter : ℕ) → list_all is_ascii_digit digits ≡ true
    → is_ascii_alphabetic letter ≡ true → IsCount (digits ++ letter ∷ []) (length digits)
count_is digits letter h e = grind (arith, digits_in-append, all_digits, length-append)

pub formed : (today by : ℤ) (text : List ℕ) (form : Form) (days : Option Days) → IsPeriod today by text form days
    → form_of text ≡ Some form
formed today by text form days (CountOfUnits digits count letter unit e u) =
    let n = number_is 1 4 digits count e in
    let c = count_is digits letter n.digits (unit_letter letter unit u) in
    grind (arith, days_ago)
formed today by text form days (YearMonthDay yyyy mm dd year month day e f g) =
    let y = number_is 4 4 yyyy year e in
    let m = number_is 2 2 mm month f in
    let d = number_is 2 2 dd day g in
    grind (arith, length-append, digits_in-append, all_digits)
formed today by text form days (Year yyyy year e) =
    grind (arith, number_is, all_digits)
formed today by text form days (Month name month e) =
    let n = name_is name month e in named_month name n.three (no_digits name n.letters)
formed today by text form days (DayMonth digits name day month d e) =
    let n = name_is name month e in
    let k = day_is digits day d in
    grind (arith, begins-append, digits_in-append, all_digits, no_digits, with_month, length-append)
formed today by text form days (MonthDay name digits month day e d) =
    let n = name_is name month e in
    let k = day_is digits day d in
    grind (arith, begins-append, digits_in-append, all_digits, no_digits, with_month, length-append)

pub same_form : (today by : ℤ) (text : List ℕ) (f g : Form) (d e : Option Days) → IsPeriod today by text f d
    → IsPeriod today by text g e → f ≡ g
same_form today by text f g d e h k =
    grind (arith, formed)

-- a count that is too long has none of the forms
pub no_form : (text : List ℕ) → IsLongCount text → form_of text ≡ None
no_form text (DigitsAndUnit digits letter unit many h u) =
    let c = count_is digits letter h (unit_letter letter unit u) in
    grind (arith, too_long)
