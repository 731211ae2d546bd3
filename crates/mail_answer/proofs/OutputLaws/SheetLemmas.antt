-- Texts that are added to an answer one after another are added as one text, whether they are gathered or sent.
use Rattle.mail_answer.proofs.Words.{◌≡◌, ℕ, ◌+◌, ◌-◌, ◌^◌, min, List, [], ◌++◌, length, Option, None, Some, Result, Ok, Err, IsErr, refl, ap, sym, ◌∙◌, append_assoc, append-nil, length-append, take, drop, ◌≤◌, arith, take-append-drop, take_rest, Appends, Keeps, appends_join, appends-nil, Sheet, count_after, AddsBytes, JoinsFront, joined_texts, IsIfKnown, WritesText}
use Rattle.std.proofs.lemmas.List.{length-take}
use Rattle.std.proofs.Math.Seq.{take-add}

counted-append : (n : ℕ) (a b : List ℕ) → count_after (count_after n a) b ≡ count_after n (a ++ b)
counted-append n a b = omega (arith, length-append a b)

-- one text and then another
pub joins_more : {t u v : Option (List ℕ)} {a b c : Sheet} {x y : List ℕ} → AddsBytes t u a b x → AddsBytes u v b c y
    → AddsBytes t v a c (x ++ y)
joins_more {t} {u} {v} {a} {b} {c} {x} {y} = grind (arith, append_assoc, appends_join, counted-append)

-- one text and then a front of another
pub joins_front : {t u v : Option (List ℕ)} {a b c : Sheet} {x y : List ℕ} → AddsBytes t u a b x → JoinsFront u v b c y
    → JoinsFront t v a c (x ++ y)
joins_front {t} {u} {v} {a} {b} {c} {x} {y} = grind (arith, append_assoc, appends_join, counted-append)

-- a front of a text is a front of a longer text
pub front_more : {t u : Option (List ℕ)} {a b : Sheet} {x : List ℕ} (y : List ℕ) → JoinsFront t u a b x
    → JoinsFront t u a b (x ++ y)
front_more {t} {u} {a} {b} {x} y h = record {
  went = h.went;
  unsent = h.unsent ++ y;
  front = sym (append_assoc a.text x y) ∙ ap (λ l. l ++ y) h.front ∙ append_assoc h.went h.unsent y;
  appends = h.appends;
  count = h.count;
}

-- ---- while a sheet is sent, with `at` bytes sent so far

take_step : (items : List ℕ) (at n : ℕ) → at + n ≤ length items
    → take at items ++ take n (take (length items - at) (drop at items)) ≡ take (at + n) items
take_step items at n h = grind (arith, take_rest, take-add)

pub appends_step : (t u v : Option (List ℕ)) (items : List ℕ) (at n : ℕ) → at + n ≤ length items
    → Appends t u (take at items)
    → Appends u v (take n (take (length items - at) (drop at items))) → Appends t v (take (at + n) items)
appends_step t u v items at n h p q = rw (← take_step _ at n h) (appends_join t u v _ _ p q)

pub counted_step : (before : ℕ) (items : List ℕ) (sent at n sent' : ℕ) → at + n ≤ length items → sent
    ≡ count_after before (take at items) → sent' ≡ min (sent + n) (2 ^ 64 - 1)
    → sent' ≡ count_after before (take (at + n) items)
counted_step before items sent at n sent' h p q = omega (arith, length-take at items, length-take (at + n) items)

pub front_went : (t u v : Option (List ℕ)) (old new : Sheet) (at : ℕ) → Appends t u (take at old.text) → new.sent
    ≡ count_after old.sent (take at old.text)
    → Keeps u v → JoinsFront t v old new []
front_went t u v old new at p q e = record {
  went = take at old.text;
  unsent = drop at old.text;
  front = append-nil old.text ∙ sym (take-append-drop at old.text);
  appends = grind arith;
  count = q;
}

-- ---- while bytes are pushed

-- the bytes are gathered, and nothing is sent
pub joins_gathered : (t : Option (List ℕ)) (old new : Sheet) (bytes : List ℕ) → new.text ≡ old.text ++ bytes → new.sent
    ≡ old.sent → AddsBytes t t old new bytes
joins_gathered = grind (arith, appends-nil)

-- nothing changes
pub nothing_went : (t : Option (List ℕ)) (old new : Sheet) (bytes : List ℕ) → new.sent ≡ old.sent
    → JoinsFront t t old new bytes
nothing_went = grind (arith, appends-nil)

-- the gathered bytes are sent
pub gathered_went : {T E : Type 0} (t u : Option (List ℕ)) (old mid new : Sheet) (bytes : List ℕ) (r : Result T E)
    → mid.text ≡ old.text ++ bytes → mid.sent ≡ old.sent
    → WritesText t u mid new (Some []) r → WritesText t u old new (Some bytes) r
gathered_went = grind (arith, append-nil)

-- ---- calls one after another

pub tells-joined : (j k : Option (List ℕ)) (x y : List ℕ) → IsIfKnown j x → IsIfKnown k y
    → IsIfKnown (joined_texts j k) (x ++ y)
tells-joined = grind arith

-- there is a text, even if it isn't known
pub some_text : (k : Option (List ℕ)) → (y : List ℕ) × IsIfKnown k y
some_text None = ([], tt)
some_text (Some y) = (y, refl)

-- a call after one that succeeded
pub writes_next : {T E : Type 0} (t u v : Option (List ℕ)) (a b c : Sheet) (j k : Option (List ℕ)) (r : Result T E)
    → ((x : List ℕ) × IsIfKnown j x × AddsBytes t u a b x) → WritesText u v b c k r
    → WritesText t v a c (joined_texts j k) r
writes_next t u v a b c j k (Ok y) h w = (h.0 ++ w.0, tells-joined j k _ _ h.1 w.1, joins_more h.2 w.2)
writes_next t u v a b c j k (Err e) h w = (h.0 ++ w.0, tells-joined j k _ _ h.1 w.1, joins_front h.2 w.2)

-- a call that failed, before another
pub writes_stop : {T E : Type 0} (t u : Option (List ℕ)) (a b : Sheet) (j k : Option (List ℕ)) (r : Result T E)
    → IsErr r → ((x : List ℕ) × IsIfKnown j x × JoinsFront t u a b x) → WritesText t u a b (joined_texts j k) r
writes_stop t u a b j k (Ok y) err w = absurd (cc err)
writes_stop t u a b j k (Err f) err w = let y = some_text k
    in (w.0 ++ y.0, tells-joined j k _ _ w.1 y.1, front_more _ w.2)

-- a call that failed and wrote nothing
pub writes_nothing : {T F : Type 0} (t : Option (List ℕ)) (a b : Sheet) (k : Option (List ℕ)) (r : Result T F) → IsErr r
    → b.sent ≡ a.sent → WritesText t t a b k r
writes_nothing t a b k (Ok y) err s = absurd (cc err)
writes_nothing t a b k (Err f) err s = let y = some_text k in (y.0, y.1, nothing_went t a b _ s)

-- a call that failed
pub writes_err : {T E : Type 0} (t u : Option (List ℕ)) (a b : Sheet) (k : Option (List ℕ)) (r : Result T E) → IsErr r
    → ((x : List ℕ) × IsIfKnown k x × JoinsFront t u a b x) → WritesText t u a b k r
writes_err = grind arith

-- less is known of the text
pub writes_less : {T E : Type 0} (t u : Option (List ℕ)) (a b : Sheet) (k : Option (List ℕ)) (text : List ℕ)
    (r : Result T E) → IsIfKnown k text → WritesText t u a b (Some text) r → WritesText t u a b k r
writes_less = grind arith

-- ---- if no byte was sent, none had been sent before

pub unsent_before : {t u : Option (List ℕ)} {a b : Sheet} {x : List ℕ} → AddsBytes t u a b x → b.sent ≡ 0 → a.sent ≡ 0
unsent_before {t} {u} {a} {b} {x} h unsent = omega (arith, h.count, unsent)

pub unsent_before_front : {t u : Option (List ℕ)} {a b : Sheet} {x : List ℕ} → JoinsFront t u a b x → b.sent ≡ 0
    → a.sent ≡ 0
unsent_before_front {t} {u} {a} {b} {x} h unsent = omega (arith, h.count, unsent)

pub unsent_before_writes : {T E : Type 0} (t u : Option (List ℕ)) (a b : Sheet) (k : Option (List ℕ)) (r : Result T E)
    → WritesText t u a b k r → b.sent ≡ 0 → a.sent ≡ 0
unsent_before_writes = grind (arith, unsent_before, unsent_before_front)

pub joined-nothing : (k : Option (List ℕ)) → k ≡ joined_texts (Some []) k
joined-nothing = grind arith

pub joined-assoc : (a b c : Option (List ℕ)) → joined_texts a (joined_texts b c) ≡ joined_texts (joined_texts a b) c
joined-assoc = grind (arith, append_assoc)
