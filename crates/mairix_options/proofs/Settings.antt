-- One more setting changes what its option says, and no other option.
use Rattle.mairix_options.proofs.Words.{◌≡◌, ℕ, List, [], ◌∷◌, ◌++◌, Option, Some, None, refl, ap, ◌∙◌, arith, filter_map, last_or, filter_map-append, base_in, archives_in, database_in, mfolder_in, format_in, last_value_of, ArchivesLine, MailFormat, MfolderLine, Setting}

last_or-append : {X : Type 0} (o : Option X) (xs ys : List X) → last_or o (xs ++ ys) ≡ last_or (last_or o xs) ys
last_or-append o [] ys = refl
last_or-append o (x ∷ xs) ys = last_or-append (Some x) xs ys

-- the value that counts after more settings
last_of-append : {X : Type 0} (value : Setting → Option X) (before said : List Setting)
    → last_value_of value (before ++ said) ≡ last_or (last_value_of value before) (filter_map value said)
last_of-append value before said = ap (last_or None) (filter_map-append value before said)
    ∙ last_or-append None (filter_map value before) (filter_map value said)

-- what some settings say of each option
abbrev Say : List Setting → Option (List ℕ) → List ArchivesLine → Option (List ℕ) → Option MfolderLine
    → Option MailFormat → Type 0
Say settings base archives database mfolder format =
    (base ≡ last_value_of base_in settings)
    × (archives ≡ filter_map archives_in settings)
    × (database ≡ last_value_of database_in settings)
    × (mfolder ≡ last_value_of mfolder_in settings)
    × (format ≡ last_value_of format_in settings)

-- one more setting says what it sets, and the other options stay as they are
pub says-next : (before : List Setting) (s t : Setting) {base : Option (List ℕ)} {archives more : List ArchivesLine}
    {database : Option (List ℕ)}
    {mfolder : Option MfolderLine} {format : Option MailFormat}
    → Say before base archives database mfolder format → s ≡ t → more ≡ archives ++ filter_map archives_in (t ∷ [])
    → Say (before ++ s ∷ []) (last_or base (filter_map base_in (t ∷ []))) more
    (last_or database (filter_map database_in (t ∷ [])))
    (last_or mfolder (filter_map mfolder_in (t ∷ []))) (last_or format (filter_map format_in (t ∷ [])))
says-next before s t says is grows = grind (arith, filter_map-append, last_of-append)
