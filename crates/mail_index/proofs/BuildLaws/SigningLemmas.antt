-- Bytes that are written in steps are written as a whole: what was sent and what is still gathered are all bytes so
-- far.
use Rattle.std.proofs.Common.{arith}
use Rattle.mail_index.proofs.Words.{◌≡◌, ℕ, ◌+◌, ◌<◌, List, [], ◌∷◌, ◌++◌, length, flat_map, drop, get_or, Option, Result, IsErr, OnErr, ap, sym, subst, ◌∙◌, append_assoc, append-nil, add-one, drop-cons, Appends}
use Rattle.contract_words.specs.Devices.{Sends}
use Rattle.contract_words.proofs.Sending.{appends-nil, appends_join, sends_more}
use Rattle.mail_index.specs.Files.{digest_or_zeros}
use Rattle.mail_index.specs.declared.build.file_out.Signer.{Signer}
use Rattle.mail_index.specs.declared.build.seal.Seal.{Seal}
use Rattle.mail_index.specs.declared.digests.Digests.{Digests}
use Rattle.mail_index.specs.Inside.Signing.{Absorbs, Seals, StopsSigning, Signs, WritesSigned, IsSigning}

absorbs-nothing : (s : Seal) → Absorbs s s []
absorbs-nothing s digests m held = rw (append-nil m) held

absorbs-join : (h j k : Seal) (x y : List ℕ) → Absorbs h j x → Absorbs j k y → Absorbs h k (x ++ y)
absorbs-join h j k x y first second digests m held = grind (arith, append_assoc)

-- bytes that were only gathered
pub signs-gathered : {k : Signer} (t : Option (List ℕ)) (s : Signer) (bytes : List ℕ) → k.seal ≡ s.seal → k.pending
    ≡ s.pending ++ bytes → Signs t t s k bytes
signs-gathered {k} t s _ same gathered = grind (arith, appends-nil, absorbs-nothing)

-- all gathered bytes were sent
pub signs-flushed : {t u : Option (List ℕ)} {s k : Signer} → Appends t u s.pending → Absorbs s.seal k.seal s.pending
    → k.pending ≡ [] → Signs t u s k []
signs-flushed {t} {u} {s} {k} out digest none = grind arith

-- bytes that were sent at once, with nothing gathered before
pub signs-at-once : {t u : Option (List ℕ)} {s k : Signer} {bytes : List ℕ} → s.pending ≡ [] → Appends t u bytes
    → Absorbs s.seal k.seal bytes → k.pending ≡ [] → Signs t u s k bytes
signs-at-once {t} {u} {s} {k} {bytes} before out digest none = grind (arith, append-nil)

-- two writes, one after the other
pub signs-join : {t u v : Option (List ℕ)} {h j k : Signer} (x y : List ℕ) → Signs t u h j x → Signs u v j k y
    → Signs t v h k (x ++ y)
signs-join {t} {u} {v} {h} {j} {k} x y first second = grind (arith, append_assoc, appends_join, absorbs-join)

-- two writes, of which the second fails
pub breaks-off-later : {t u : Option (List ℕ)} {h j : Signer} (v : Option (List ℕ)) (x y : List ℕ) → Signs t u h j x
    → StopsSigning u v j y → StopsSigning t v h (x ++ y)
breaks-off-later {t} {u} {h} {j} v x y first second =
    sends_more t u v _ _ _ [] (sym (append_assoc _ x y) ∙ ap (λ l. l ++ y) first.split ∙ append_assoc _ _ y
    ∙ ap (λ l. first.sent ++ l) (sym (append-nil _))) first.out second

-- a front of some bytes is a front of more bytes
pub sends-longer : (t u : Option (List ℕ)) (bytes more : List ℕ) → Sends t u bytes → Sends t u (bytes ++ more)
sends-longer t u _ more s = (s.0, s.1 ++ more, ap (λ l. l ++ more) s.2 ∙ append_assoc s.0 s.1 more, s.3)

breaks-off-longer : (t u : Option (List ℕ)) (s : Signer) (bytes more : List ℕ) → StopsSigning t u s bytes
    → StopsSigning t u s (bytes ++ more)
breaks-off-longer t u s bytes more fault = rw (← (append_assoc _ _ _)) (sends-longer t u _ _ fault)

-- a call that failed
pub on-failure : {T E : Type 0} {A : Type 0} (r : Result T E) → A → OnErr r A
on-failure r h = grind arith

pub writes-failed : {T E : Type 0} (r : Result T E) (t u : Option (List ℕ)) (s k : Signer) (bytes : List ℕ) → IsErr r
    → StopsSigning t u s bytes → WritesSigned r t u s k bytes
writes-failed r t u s k _ h h2 = grind arith

-- ---- all that was gathered is sent, if nothing was gathered at first

pub all-sent : {t u : Option (List ℕ)} {s k : Signer} {whole : List ℕ} → s.pending ≡ [] → (signs : Signs t u s k whole)
    → whole ≡ signs.sent ++ k.pending
all-sent {t} {u} {s} {k} {whole} none signs = cc

pub appends-all : {t u : Option (List ℕ)} {s k : Signer} {whole : List ℕ} (v : Option (List ℕ)) → s.pending ≡ []
    → Signs t u s k whole → Appends u v k.pending → Appends t v whole
appends-all {t} {u} {s} {k} {whole} v none signs rest = grind (arith, all-sent, appends_join)

pub sends-all : {t u : Option (List ℕ)} {s k : Signer} {whole : List ℕ} (v : Option (List ℕ)) → s.pending ≡ []
    → Signs t u s k whole → Sends u v k.pending → Sends t v whole
sends-all {t} {u} {s} {k} {whole} v none signs rest =
    sends_more t u v _ _ k.pending [] (all-sent none signs ∙ ap (λ l. signs.sent ++ l) (sym (append-nil _))) signs.out
    rest

pub digests-all : {t u : Option (List ℕ)} {s k : Signer} {whole : List ℕ} (digests : Digests) (digest : List ℕ)
    → s.pending ≡ [] → Seals digests s.seal [] → Signs t u s k whole
    → ((by : Digests) (m : List ℕ) → Seals by k.seal m → digest ≡ digest_or_zeros by (m ++ k.pending))
    → digest ≡ digest_or_zeros digests whole
digests-all {t} {u} {s} {k} {whole} digests _ none held signs told = grind (arith, digest_or_zeros, all-sent)

-- ---- the parts of a whole

-- nothing yet
pub signing-start : (t : Option (List ℕ)) (s : Signer) (whole : List ℕ) → IsSigning t t s s whole whole
signing-start t s _ = grind (arith, signs-gathered, append-nil)

-- the next part
pub signing-step : {t u v : Option (List ℕ)} {h j k : Signer} {whole : List ℕ} (part rest : List ℕ)
    → IsSigning t u h j whole (part ++ rest) → Signs u v j k part → IsSigning t v h k whole rest
signing-step {t} {u} {v} {h} {j} {k} part rest so_far next = record {
  front = so_far.front ++ part;
  split = so_far.split ∙ sym (append_assoc so_far.front part rest);
  signs = signs-join _ _ so_far.signs next;
}

-- only a front of the next part was sent
signing-fail : {t u : Option (List ℕ)} {h j : Signer} {whole : List ℕ} (v : Option (List ℕ)) (part rest : List ℕ)
    → IsSigning t u h j whole (part ++ rest) → StopsSigning u v j part → StopsSigning t v h whole
signing-fail {t} {u} {h} {j} {whole} v part rest so_far fault =
    subst (λ x. StopsSigning t v h x) (append_assoc so_far.front part rest ∙ sym so_far.split)
    (breaks-off-longer t v h _ rest (breaks-off-later v _ _ so_far.signs fault))

-- the same, where what is left is a part and what follows it
pub signing-next : {t u v : Option (List ℕ)} {h j k : Signer} {whole rest : List ℕ} (part after : List ℕ)
    → IsSigning t u h j whole rest → rest ≡ part ++ after → Signs u v j k part → IsSigning t v h k whole after
signing-next {t} {u} {v} {h} {j} {k} {whole} {rest} part after so_far e next = grind (arith, signing-step)

pub signing-stop : {T E : Type 0} {t u : Option (List ℕ)} {h j : Signer} {whole rest : List ℕ} (r : Result T E)
    (v : Option (List ℕ)) (k : Signer) (part after : List ℕ)
    → IsErr r → IsSigning t u h j whole rest → rest ≡ part ++ after → StopsSigning u v j part
    → WritesSigned r t v h k whole
signing-stop {T} {E} {t} {u} {h} {j} {whole} {rest} r v k part after failed so_far e fault =
    writes-failed r t v h k _ failed (signing-fail v _ after (subst (λ x. IsSigning t u h j whole x) e so_far) fault)

-- the item at an index, and what follows it
pub from-item : {A : Type 0} (xs : List A) (i : ℕ) (x : A) → x ≡ get_or xs i x → i < length xs → drop i xs
    ≡ x ∷ drop (i + 1) xs
from-item xs i x is low = grind (arith, drop-cons, drop, add-one)

pub from-place : {A : Type 0} (xs : List A) (i : ℕ) (d : A) → i < length xs → drop i xs
    ≡ get_or xs i d ∷ drop (i + 1) xs
from-place xs i d low = drop-cons _ i d low ∙ ap (λ n. get_or xs i d ∷ drop n xs) (sym (add-one i))

-- the bytes of the items from an index on
pub bytes-from : {A : Type 0} (f : A → List ℕ) (xs : List A) (i : ℕ) (d : A) → i < length xs → flat_map f (drop i xs)
    ≡ f (get_or xs i d) ++ flat_map f (drop (i + 1) xs)
bytes-from f xs i d low = ap (flat_map f) (from-place _ i d low)
