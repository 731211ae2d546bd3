-- Flags are read as their grammar says, by induction over the letters.
use Rattle.mail_query.proofs.Words.{◌≡◌, ℕ, ◌+◌, ◌<◌, Bool, true, false, eqb, List, [], ◌∷◌, ◌++◌, length, get_or, drop, Option, None, Some, Ok, Err, option_map, refl, sym, ◌∙◌, append_assoc, append-nil, arith, drop-cons, inl, inr, not, cond, subst, option_and_then, ◌⊎◌, drop_all, Flag, BadFlag, Query, HasFlag, all_of, flag_of, with_flag, flags_after, flags_of_text, some_of, flags_query, option_and_then_some, AreFlags, NoFlag, IsFlags, EachFlag}
use Rattle.mail_query.proofs.MairixLaws.SignLemmas.{map_some}
use Rattle.mail_query.specs.FlagGrammar.{Wanted, Unwanted}

-- these flags, before those that follow
abbrev pub with_flags : List Query → Option (List Query) → Option (List Query)
with_flags front rest = option_map (λ qs. front ++ qs) rest

-- the flags so far, with those of the letters from place i on, are those of the whole text
pub record HasRead (text : List ℕ) (qs : List Query) (wanted : Bool) (i : ℕ) : Type 0 where
  pub whole : with_flags qs (flags_after wanted (drop i text)) ≡ flags_after true text

next : (text : List ℕ) (i : ℕ) → i < length text → drop i text ≡ get_or text i 0 ∷ drop (i + 1) text
next text i h = grind (arith, drop-cons)

pub reads_none : (text : List ℕ) (qs : List Query) → qs ≡ [] → HasRead text qs true 0
reads_none text qs e = grind arith

-- a dash comes next
at_dash : (text : List ℕ) (qs : List Query) (wanted w : Bool) (i : ℕ) → HasRead text qs wanted i → wanted ≡ w
    → i < length text → get_or text i 0 ≡ 0x2D
    → with_flags qs (flags_after w (0x2D ∷ drop (i + 1) text)) ≡ flags_after true text
at_dash text qs wanted w i h e below is = grind (arith, next)

pub dash_read : (text : List ℕ) (qs : List Query) (wanted : Bool) (i : ℕ) → HasRead text qs wanted i → wanted ≡ true
    → i < length text → get_or text i 0 ≡ 0x2D → HasRead text qs false (i + 1)
dash_read text qs wanted i h e below is = record { whole = at_dash text qs wanted true i h e below is }

at_letter : (wanted : Bool) (b : ℕ) (bs : List ℕ) → eqb b 0x2D ≡ false → flags_after wanted (b ∷ bs)
    ≡ with_flag wanted b (flags_after true bs)
at_letter wanted b bs e = rw e refl

pub reads_letter : (text : List ℕ) (qs : List Query) (wanted : Bool) (i : ℕ) (flag : Flag) → HasRead text qs wanted i
    → i < length text
    → eqb (get_or text i 0) 0x2D ≡ false → flag_of (get_or text i 0) ≡ Some flag
    → HasRead text (qs ++ HasFlag flag wanted ∷ []) true (i + 1)
reads_letter text qs wanted i flag h below other is = grind (arith, option_map, at_letter, next, append_assoc)

pub no_letter : (text : List ℕ) (qs : List Query) (wanted : Bool) (i : ℕ) → HasRead text qs wanted i → i < length text
    → eqb (get_or text i 0) 0x2D ≡ false → flag_of (get_or text i 0) ≡ None → flags_after true text ≡ None
no_letter text qs wanted i h below other is = grind (arith, next, at_letter, option_map)

at_end : (text : List ℕ) (i : ℕ) → length text ≡ i → drop i text ≡ []
at_end text i e = drop_all i text (omega (arith, e))

pub reads_all : (text : List ℕ) (qs : List Query) (i : ℕ) → HasRead text qs true i → length text ≡ i
    → flags_after true text ≡ Some qs
reads_all text qs i h e = grind (arith, at_end, append-nil)

pub no_last_letter : (text : List ℕ) (qs : List Query) (i : ℕ) → HasRead text qs false i → length text ≡ i
    → flags_after true text ≡ None
no_last_letter text qs i h e = grind (arith, at_end)

-- ---- the whole text

pub refused : (text : List ℕ) → flags_after true text ≡ None → flags_query text ≡ Err BadFlag
unfolding flags_of_text
refused text e = rw e refl

pub none_refused : (text : List ℕ) → flags_after true text ≡ Some [] → flags_query text ≡ Err BadFlag
unfolding flags_of_text
none_refused text e = rw e refl

pub asked : (text : List ℕ) (q : Query) (qs : List Query) → flags_after true text ≡ Some (q ∷ qs) → flags_query text
    ≡ Ok (all_of (q ∷ qs))
unfolding flags_of_text
asked text q qs e = rw e refl

pub asked_all : (text : List ℕ) (qs : List Query) (i : ℕ) → HasRead text qs true i → length text ≡ i → 0 < length qs
    → flags_query text ≡ Ok (all_of qs)
asked_all text qs i h h2 h3 = grind (arith, asked, reads_all)

pub refused_at_end : (text : List ℕ) (qs : List Query) (wanted : Bool) (i : ℕ) → HasRead text qs wanted i → length text
    ≡ i → (wanted ≡ false) ⊎ (length qs ≡ 0) → flags_query text ≡ Err BadFlag
refused_at_end text qs false i h e why = refused text (no_last_letter text qs i h e)
refused_at_end text qs true i h e (inl unwanted) = absurd cc
refused_at_end text [] true i h e (inr none) = none_refused text (reads_all text [] i h e)
refused_at_end text (q ∷ qs) true i h e (inr none) = absurd (omega (arith, none))

pub dash_refused : (text : List ℕ) (qs : List Query) (wanted : Bool) (i : ℕ) → HasRead text qs wanted i → wanted ≡ false
    → i < length text → get_or text i 0 ≡ 0x2D → flags_query text ≡ Err BadFlag
dash_refused text qs wanted i h e below is = refused text (sym (at_dash text qs wanted false i h e below is))

-- ---- the grammar

-- a letter of a flag isn't a dash
no_dash : (letter : ℕ) (flag : Flag) → flag_of letter ≡ Some flag → eqb letter 0x2D ≡ false
no_dash letter flag e = grind arith

are_read : (text : List ℕ) (qs : List Query) → AreFlags text qs → flags_after true text ≡ Some qs
are_read text qs NoFlag = refl
are_read text qs (Wanted letter flag rest more e f) = rw (no_dash letter flag e, e, are_read rest more f) refl
are_read text qs (Unwanted letter flag rest more e f) = rw (no_dash letter flag e, e, are_read rest more f) refl

pub flags_read : (text : List ℕ) (q : Query) → IsFlags text q → flags_of_text text ≡ Some q
unfolding flags_of_text
flags_read text q (EachFlag t first qs f) = grind (arith, are_read)

-- the letter after a dash, and what follows it
record After (text : List ℕ) (qs : List Query) : Type 0 where
  letter : ℕ
  flag : Flag
  rest : List ℕ
  more : List Query
  named : flag_of letter ≡ Some flag
  text_is : text ≡ letter ∷ rest
  queries : qs ≡ HasFlag flag false ∷ more
  flags : AreFlags rest more

record Named (wanted : Bool) (letter : ℕ) (rest : Option (List Query)) (qs : List Query) : Type 0 where
  flag : Flag
  more : List Query
  named : flag_of letter ≡ Some flag
  after : rest ≡ Some more
  queries : qs ≡ HasFlag flag wanted ∷ more

with_flag_is : (wanted : Bool) (letter : ℕ) (rest : Option (List Query)) (qs : List Query)
    → with_flag wanted letter rest ≡ Some qs → Named wanted letter rest qs
with_flag_is wanted letter rest qs e = grind (arith, option_and_then_some, option_map, map_some)

record Read (text : List ℕ) : Type 0 where
  wanted : (qs : List Query) → flags_after true text ≡ Some qs → AreFlags text qs
  unwanted : (qs : List Query) → flags_after false text ≡ Some qs → After text qs

read_are : (text : List ℕ) → Read text
read_are [] = record {
  wanted = λ qs e. let none : [] ≡ qs = cc in subst (AreFlags []) none NoFlag;
  unwanted =
      λ qs e. absurd cc;
}
read_are (b ∷ bs) = record {
  wanted = grind (arith, first, read_are bs);
  unwanted =
      grind (arith, read_are bs);
}
  where
    first : (qs : List Query) (t : Bool) → eqb b 0x2D ≡ t
        → cond t (flags_after (not t) bs) (with_flag true b (flags_after (not t) bs)) ≡ Some qs → Read bs
        → AreFlags (b ∷ bs) qs
    first qs true h e r =
        let d = r.unwanted qs e in
        let text : 0x2D ∷ d.letter ∷ d.rest ≡ b ∷ bs = grind arith in
        rw text at (subst (AreFlags (0x2D ∷ d.letter ∷ d.rest)) (sym d.queries)
        (Unwanted d.letter d.flag d.rest d.more d.named d.flags))
    first qs false h e r =
        let n = with_flag_is true b (flags_after true bs) qs e in
        rw n.queries (Wanted b n.flag bs n.more n.named (r.wanted n.more n.after))

    after : (qs : List Query) (t : Bool) → eqb b 0x2D ≡ t
        → cond {A = Option (List Query)} t None (with_flag false b (flags_after (not t) bs)) ≡ Some qs → Read bs
        → After (b ∷ bs) qs
    after qs t h h2 h3 = grind arith

pub read_flags : (text : List ℕ) (q : Query) → flags_of_text text ≡ Some q → IsFlags text q
unfolding flags_of_text
read_flags text q e = go (flags_after true text) refl e
  where
    go : (o : Option (List Query)) → flags_after true text ≡ o → option_and_then some_of o ≡ Some q → IsFlags text q
    go None h e = absurd cc
    go (Some []) h e = absurd cc
    go (Some (first ∷ qs)) h e =
        let same : all_of (first ∷ qs) ≡ q = cc in let r = read_are text
        in rw same at (EachFlag text first qs (r.wanted (first ∷ qs) h))
