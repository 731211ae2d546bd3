-- Bytes have only one first fault, because all rules before a first fault are kept and its own is broken.
use Rattle.mairix_tool.proofs.Words.{◌≡◌, ◌∙◌, ℕ, zero, suc, ◌<◌, ◌≤◌, ◌^◌, ◌+◌, List, length, take, flat_map, sym, ap, subst, arith, inl, inr, ◌⊎◌, ⊤, leb_tells, eqb_tells, IndexFault, TooShort, BadMagic, BadVersion, BadDigest, BadLayout, Record, IsFirstFaultOfFile, HasDigest, IsSigned, HasCounts, HasArchives, HasRecords, HasDirectory, digest_start, version_told, IsVersion, magic, DirectoryEntry, Archive, AreBytes}
use Rattle.mail_index.specs.declared.view.fault.Section.TheVariants.{Counts, Archives, Records, Directory, Postings}
use Rattle.mail_index.specs.Records.{read_records}
use Rattle.mail_index.proofs.ViewLaws.ArchiveReads.{archives_back}
use Rattle.mail_index.proofs.ViewLaws.DirectorySections.{u32_small}
use Rattle.mail_index.proofs.ViewLaws.Opening.{length_records}
use Rattle.mail_index.proofs.ViewLaws.RecordSections.{records_back}

-- the fault's place in their order
abbrev rank : IndexFault → ℕ
rank TooShort = 0
rank BadMagic = 1
rank BadVersion = 2
rank BadDigest = 3
rank (BadLayout Counts) = 4
rank (BadLayout Archives) = 5
rank (BadLayout Records) = 6
rank (BadLayout Directory) = 7
rank (BadLayout Postings) = 8

abbrev at-rank : ℕ → IndexFault
at-rank zero = TooShort
at-rank (suc zero) = BadMagic
at-rank (suc (suc zero)) = BadVersion
at-rank (suc (suc (suc zero))) = BadDigest
at-rank (suc (suc (suc (suc zero)))) = BadLayout Counts
at-rank (suc (suc (suc (suc (suc zero))))) = BadLayout Archives
at-rank (suc (suc (suc (suc (suc (suc zero)))))) = BadLayout Records
at-rank (suc (suc (suc (suc (suc (suc (suc zero))))))) = BadLayout Directory
at-rank _ = BadLayout Postings

at-its-rank : (f : IndexFault) → at-rank (rank f) ≡ f
at-its-rank = grind arith

module _ (bytes : List ℕ) (are : AreBytes bytes) where
  -- ---- the contents of the sections are determined

  same-archives : (as' bs : List Archive) → HasArchives bytes as' → HasArchives bytes bs → as' ≡ bs
  same-archives = grind (arith, flat_map, archives_back)

  same-records : (archives : List Archive) (ms ns : List Record) → HasRecords bytes archives ms
      → HasRecords bytes archives ns → ms ≡ ns
  same-records archives ms ns a b =
      let few : length archives < 2 ^ 32 = omega (arith, a.before.counted, u32_small bytes 12 are) in
      let e = sym a.spelled ∙ b.spelled in
      let l : length ms ≡ length ns = omega (arith, ap length e, length_records ms, length_records ns) in
      sym (records_back _ _ _ few a.before.each a.each) ∙ (λ i. read_records (l i) (e i))
      ∙ records_back _ _ _ few b.before.each b.each

  -- ---- each rule, as kept

  abbrev IsKept : ℕ → Type 0
  IsKept zero = 80 ≤ length bytes
  IsKept (suc zero) = take 8 bytes ≡ magic
  IsKept (suc (suc zero)) = IsVersion (version_told bytes)
  IsKept (suc (suc (suc zero))) = HasDigest bytes
  IsKept (suc (suc (suc (suc zero)))) = digest_start bytes + 32 ≡ length bytes
  IsKept (suc (suc (suc (suc (suc zero))))) = (archives : List Archive) × HasArchives bytes archives
  IsKept (suc (suc (suc (suc (suc (suc zero)))))) = (archives : List Archive) × (ms : List Record)
      × HasRecords bytes archives ms
  IsKept (suc (suc (suc (suc (suc (suc (suc zero))))))) = (archives : List Archive) × (ms : List Record)
      × (es : List DirectoryEntry) × HasDirectory bytes archives ms es
  IsKept _ = ⊤

  -- all rules before this number are kept
  abbrev AreKept : ℕ → Type 0
  AreKept zero = ⊤
  AreKept (suc n) = AreKept n × IsKept n

  kept-below : (n m : ℕ) → n < m → AreKept m → IsKept n
  kept-below n zero below kept = absurd (omega (arith, below))
  kept-below n (suc m) below kept = go (λ less. kept-below n m less kept.0) nearer
    where
      nearer : (n < m) ⊎ (n ≡ m)
      nearer = elim (eqb_tells n m) [ inl p ↦ inr p.1 | inr p ↦ inl (omega (arith, below, p.1)) ]

      go : (n < m → IsKept n) → (n < m) ⊎ (n ≡ m) → IsKept n
      go h h2 = grind arith

  signed : IsSigned bytes → AreKept 4
  signed s = ((((tt, s.long), s.marked), s.known), s.digest)

  counted : HasCounts bytes → AreKept 5
  counted c = (signed c.0, c.1)

  listed : (archives : List Archive) → HasArchives bytes archives → AreKept 6
  listed archives h = (counted h.before, (archives, h))

  recorded : (archives : List Archive) (ms : List Record) → HasRecords bytes archives ms → AreKept 7
  recorded archives ms h = (listed _ h.before, (archives, ms, h))

  filed : (archives : List Archive) (ms : List Record) (es : List DirectoryEntry) → HasDirectory bytes archives ms es
      → AreKept 8
  filed archives ms es h = (recorded _ _ h.before, (archives, ms, es, h))

  -- all rules before a first fault are kept
  kept-before : (f : IndexFault) → IsFirstFaultOfFile bytes f → AreKept (rank f)
  kept-before = grind (arith, signed, counted, listed, recorded, filed)

  -- the rule of a first fault isn't kept, unless it is the last
  not-kept : (f : IndexFault) → rank f < 8 → IsFirstFaultOfFile bytes f → IsKept (rank f) → ⊥
  not-kept TooShort last h k = omega (arith, h, k)
  not-kept BadMagic last h k = h.1 k
  not-kept BadVersion last h k = h.2 k
  not-kept BadDigest last h k = h.3 k
  not-kept (BadLayout Counts) last h k = h.1 k
  not-kept (BadLayout Archives) last h k = h.1 k.0 k.1
  not-kept (BadLayout Records) last h k =
      h.2 k.1 (subst (λ archives. HasRecords bytes archives k.1) (same-archives _ _ k.2.before h.1)
      k.2)
  not-kept (BadLayout Directory) last h k = grind (arith, same-archives, same-records)
  not-kept (BadLayout Postings) last h k = absurd (omega (arith, last))

  never-before : (f g : IndexFault) → rank f < rank g → IsFirstFaultOfFile bytes f → IsFirstFaultOfFile bytes g → ⊥
  never-before = grind (arith, not-kept, kept-below, kept-before)

  pub one-first-fault : (f g : IndexFault) → IsFirstFaultOfFile bytes f → IsFirstFaultOfFile bytes g → f ≡ g
  one-first-fault f g h k = go by-rank
    where
      by-rank : (rank f < rank g) ⊎ ((rank g < rank f) ⊎ (rank f ≡ rank g))
      by-rank = grind (arith, eqb_tells, leb_tells)

      go : (rank f < rank g) ⊎ ((rank g < rank f) ⊎ (rank f ≡ rank g)) → f ≡ g
      go (inl less) = absurd (never-before f g less h k)
      go (inr (inl more)) = absurd (never-before g f more k h)
      go (inr (inr same)) = sym (at-its-rank f) ∙ ap at-rank same ∙ at-its-rank g
