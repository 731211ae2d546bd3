-- Either all archives are sound, or there is a first one that is refused, by induction over the archives.
use Rattle.index_run.proofs.Words.{◌≡◌, ◌∙◌, ◌+◌, ◌<◌, ◌≤◌, ◌++◌, ℕ, List, [], ◌∷◌, length, None, Some, refl, sym, subst, arith, append-nil, append_assoc, ⊎_elim, inl, inr, ◌⊎◌, leb_tells, length-append, length-map, All-append, All-cons, All-nil, CutFault, archive_refusal, Fault, most_in_archive, most_in_index, AreSound, IsTooMuch, IsWithinLimit, Mbox, table, entry_of_archive, Parted, RefusesArchives}
use Rattle.std.proofs.Common.{Option}
use Rattle.run_faults.specs.declared.fault.Fault.TheVariants.{Archive, TooMany}

-- ---- one archive more

within-or-over : (n : ℕ) → (n ≤ most_in_index) ⊎ (most_in_index < n)
within-or-over n = ⊎_elim (λ h. inl h.1) (λ h. inr h.1) (leb_tells n most_in_index)

-- the archives are within the limits, or too much
within-or-too-much : (archives : List Mbox) → IsWithinLimit (table archives) ⊎ IsTooMuch (table archives)
within-or-too-much archives =
    ⊎_elim
    (λ few. ⊎_elim
    (λ messages. ⊎_elim
    (λ keys. inl (record { archives = few; messages = messages; keys = keys }))
    (λ over. inr (inr (inr over)))
    (within-or-over (length (table archives).keys)))
    (λ over. inr (inr (inl over)))
    (within-or-over (length (table archives).messages)))
    (λ over. inr (inl over))
    (within-or-over (length (table archives).archives))

pub none-sound : AreSound []
none-sound = record {
  each = All-nil (λ (b : Mbox). archive_refusal most_in_archive b.bytes ≡ None);
  few = record { archives = omega arith; messages = omega arith; keys = omega arith };
}

-- ---- all of them

-- all archives are sound, or they are refused
abbrev pub IsDecided : List Mbox → Type 0
IsDecided archives = AreSound archives ⊎ ((fault : Fault) × RefusesArchives archives fault)

module _ (archives before rest : List Mbox) (a : Mbox) (whole : archives ≡ before ++ a ∷ rest) (sound : AreSound before)
  where
    parted : Parted archives before a
    parted = record { after = rest; whole = whole }

    too-many : IsTooMuch (table (before ++ a ∷ [])) → IsDecided archives
    too-many much = inr (TooMany, (before, a, parted, record { sound = sound; much = much }))

    no-room : most_in_index < length before + 1 → IsDecided archives
    no-room full = too-many (inl (omega (
      arith,
      full,
      length-map (before ++ a ∷ []) entry_of_archive,
      length-append before (a ∷ []),
    )))

    sound-with : archive_refusal most_in_archive a.bytes ≡ None → IsWithinLimit (table (before ++ a ∷ []))
        → AreSound (before ++ a ∷ [])
    sound-with taken few = record {
      each = All-append (λ (b : Mbox). archive_refusal most_in_archive b.bytes ≡ None) before (a ∷ []) sound.each
          (All-cons (λ (b : Mbox). archive_refusal most_in_archive b.bytes ≡ None) a [] taken
          (All-nil (λ (b : Mbox). archive_refusal most_in_archive b.bytes ≡ None)));
      few = few;
    }

    -- if there is room for this archive: it is refused, or the archives after it decide
    by-bytes : length before + 1 ≤ most_in_index → (AreSound (before ++ a ∷ []) → IsDecided archives)
        → (o : Option CutFault) → archive_refusal most_in_archive a.bytes ≡ o → IsDecided archives
    by-bytes room onward (Some fault) is = inr (
      Archive (length before) fault,
      (
        before,
        a,
        parted,
        refl,
        record { sound = sound; few = omega (arith, room); refused = is },
      ),
    )
    by-bytes room onward None is = ⊎_elim (λ few. onward (sound-with is few)) too-many
        (within-or-too-much (before ++ a ∷ []))

    step : (AreSound (before ++ a ∷ []) → IsDecided archives) → IsDecided archives
    step onward =
        ⊎_elim
        (λ room. by-bytes room onward (archive_refusal most_in_archive a.bytes) refl)
        no-room
        (within-or-over (length before + 1))

pub decided : (archives before rest : List Mbox) → archives ≡ before ++ rest → AreSound before → IsDecided archives
decided archives before [] whole sound = inl (subst AreSound (sym (whole ∙ append-nil before)) sound)
decided archives before (a ∷ rest) whole sound =
    step archives before rest a whole sound
    (λ more. decided archives (before ++ a ∷ []) rest (whole ∙ sym (append_assoc before (a ∷ []) rest)) more)
