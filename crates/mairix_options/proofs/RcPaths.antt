-- All paths that an accepted rcfile names can be paths in an index, line by line and then under the base that counts.
use Rattle.mairix_options.proofs.Words.{◌≡◌, ℕ, zero, suc, ◌+◌, ◌-◌, ◌<◌, ◌==◌, Bool, true, false, not, nat_eq, nat_lt, ◌||◌, ◌&&◌, if◌then◌else◌, lit<, List, [], ◌∷◌, ◌++◌, length, map, drop, get_or, codes, Option, None, Some, unwrap_or, Result, Ok, Err, IfOk, IfSome, refl, sym, ap, ◌∙◌, subst, arith, ⊎_elim, All, list_all, filter_map, cons_option, last_or, slice_index, starts_with, prefix_len, suffix_len, position_or_len, before_first, after_first, slice_split, option_and_then, IsUtf8, is_utf8, cases_lt, and_parts, or_parts, not-false, nat_tests, drop_all, length-drop, All-nil, All-cons, All-head, All-tail, All-append, All-filter, passes_at_first, IsUtf8-nil, IsUtf8-append, IsUtf8-take, IsUtf8-drop, IsUtf8-from_is_utf8, IsUtf8-from_ascii, IsCharBoundary-before_ascii, IsCharBoundary-after_ascii, Gives, ◌>>=◌, IsPath, is_blank, text_without_blanks, is_path, under, archive_path, mfolder_path, keyword_of, archives_of, names_in_value, paths_in, format_of, setting_of, supported_setting, assignment, entry, is_skipped, text_settings, line_settings, base_in, archives_in, database_in, mfolder_in, format_in, last_value_of, lines_in, settings_from, archives_misfit, mfolder_misfit, earlier, first_misfit, all_fit, required_value, paths_if_any, all_paths, rc_fitting, rc_with, rc_from, rc_of, refusal, ArchivesLine, MailFormat, MfolderLine, OrMemory, Rc, RcFault, BadLine, NotSupported, BadFormat, Setting, Base, Archives, Database, Mfolder, Format}
use Rattle.std.specs.List.{slice_get}
use Rattle.std.proofs.lemmas.List.Splits.{slice_split_first}
use Rattle.mail_dates.proofs.Cuts.{split_none}
use Rattle.mairix_options.specs.declared.setting.Keyword.{Keyword}
use Rattle.mairix_options.specs.declared.setting.Keyword.TheVariants as keyword
use Rattle.mairix_options.specs.declared.mail_format.MailFormat.TheVariants as mail
use Rattle.mairix_options.specs.declared.rcfile.Name.{Name}
use Rattle.mairix_options.specs.declared.rcfile.Name.TheVariants as name
use Rattle.mairix_options.proofs.Paths.{path-from}
use Rattle.mairix_options.proofs.Trimming.{IsCharBoundary-blanks, IsCharBoundary-end_blanks}

-- ---- pieces of a text are texts

trimmed-utf8 : (text : List ℕ) → IsUtf8 text → IsUtf8 (text_without_blanks text)
unfolding text_without_blanks
trimmed-utf8 text utf8 =
    let front : ℕ = prefix_len is_blank text in
    let rest : List ℕ = drop front text in
    let end : ℕ = suffix_len is_blank rest in
    IsUtf8-take rest (length rest - end) (IsUtf8-drop text front utf8 (IsCharBoundary-blanks text front utf8 refl))
    (IsCharBoundary-end_blanks rest end refl)

module _ (c : ℕ) (ascii : c < 128) where
  -- the byte at which a text is cut
  first-is : (text : List ℕ) → position_or_len (λ b. b == c) text < length text
      → get_or text (position_or_len (λ b. b == c) text) 0 < 128
  first-is text here = grind (arith, passes_at_first, nat_tests)

  before-utf8 : (text : List ℕ) → position_or_len (λ b. b == c) text < length text → IsUtf8 text
      → IsUtf8 (before_first (λ b. b == c) text)
  before-utf8 text here utf8 = grind (arith, IsUtf8-take, IsCharBoundary-before_ascii, first-is)

  after-utf8 : (text : List ℕ) → IsUtf8 text → IsUtf8 (after_first (λ b. b == c) text)
  after-utf8 text utf8 =
      let at : ℕ = position_or_len (λ b. b == c) text in
      ⊎_elim
      (λ here. IsUtf8-drop text (at + 1) utf8 (IsCharBoundary-after_ascii text at utf8 here (first-is text here)))
      (λ none. subst IsUtf8 (sym (drop_all (at + 1) text (omega arith))) IsUtf8-nil)
      (cases_lt at (length text))

  parts-utf8 : (most : ℕ) (text : List ℕ) → length text < most → IsUtf8 text
      → All IsUtf8 (slice_split (λ b. b == c) text)
  parts-utf8 zero text short utf8 = absurd (omega arith)
  parts-utf8 (suc most) text short utf8 =
      let at : ℕ = position_or_len (λ b. b == c) text in
      let later : List ℕ = after_first (λ b. b == c) text in
      ⊎_elim
      (λ here.
      let less : length later < most = omega (arith, length-drop (at + 1) text) in
      subst (All IsUtf8) (sym (slice_split_first (λ b. b == c) text 0 here))
      (All-cons IsUtf8 (before_first (λ b. b == c) text) (slice_split (λ b. b == c) later) (before-utf8 text here utf8)
      (parts-utf8 most later less (after-utf8 text utf8))))
      (λ none.
      let missing : nat_lt at (length text) ≡ false = grind (arith, nat_tests) in
      let whole : slice_split (λ b. b == c) text ≡ text ∷ [] = split_none (λ b. b == c) text (rw missing refl) in
      subst (All IsUtf8) (sym whole) (All-cons IsUtf8 text [] utf8 (All-nil IsUtf8)))
      (cases_lt at (length text))

names-utf8 : (value : List ℕ) → IsUtf8 value → All IsUtf8 (archives_of value)
names-utf8 value utf8 =
    All-filter (λ text. nat_lt 0 (length text)) IsUtf8 (slice_split (λ b. b == 58) value)
    (parts-utf8 58 (lit< tt) (suc (length value)) value (omega arith) utf8)

-- ---- texts that pass the test are paths

paths-from : (texts : List (List ℕ)) → All IsUtf8 texts → list_all is_path texts ≡ true → All IsPath texts
paths-from [] utf8 pass = All-nil IsPath
paths-from (text ∷ texts) utf8 pass =
    let parts = and_parts (is_path text) (list_all is_path texts) pass in
    All-cons IsPath text texts (path-from text (All-head IsUtf8 text texts utf8) parts.0)
    (paths-from texts (All-tail IsUtf8 text texts utf8) parts.1)

-- ---- a line

-- a setting names a path, if no base is put before it, and else a text
abbrev NamesTexts : Setting → Type 0
NamesTexts (Base path) = IsPath path
NamesTexts (Archives line) = All IsUtf8 line.names
NamesTexts (Database path) = IsPath path
NamesTexts (Mfolder line) = IsUtf8 line.name
NamesTexts (Format _) = Unit {0}

module _ {A F : Type 0} where
  -- a result that isn't the test's fault has passed the test
  passed : (bad : Bool) (fault : F) (r : Result A F) (a : A) → (if bad then Err fault else r) ≡ Ok a → (bad ≡ false)
      × (r ≡ Ok a)
  passed bad fault r a h = grind arith

  given : {B : Type 0} (r : Result A F) (f : A → Result B F) (b : B) → (r >>= f) ≡ Ok b → (a : A) × (r ≡ Ok a)
      × (f a ≡ Ok b)
  given r f b h = grind arith

format-names : (n : ℕ) (o : Option MailFormat) (s : Setting)
    → ◌≡◌ {A = Result Setting RcFault} (elim o [ Some format ↦ Ok (Format format) | None ↦ Err (BadFormat n) ]) (Ok s)
    → NamesTexts s
format-names n o s h = grind arith

set-names : (n : ℕ) (k : Keyword) (value : List ℕ) (s : Setting) → IsUtf8 value
    → list_all is_path (names_in_value (Some k) value) ≡ true
    → setting_of n k value ≡ Ok s → NamesTexts s
set-names n keyword.Base value s utf8 pass is = grind (arith, path-from, and_parts)
set-names n keyword.Mbox value s utf8 pass is = grind (arith, names-utf8)
set-names n keyword.Database value s utf8 pass is = grind (arith, path-from, and_parts)
set-names n keyword.Mfolder value s utf8 pass is = grind arith
set-names n keyword.Mformat value s utf8 pass is = format-names n (format_of value) s is

keyword-names : (n : ℕ) (o : Option Keyword) (value : List ℕ) (s : Setting) → IsUtf8 value
    → list_all is_path (names_in_value o value) ≡ true
    → ◌≡◌ {A = Result Setting RcFault} (elim o [ None ↦ Err (NotSupported n) | Some k ↦ supported_setting n k value ])
    (Ok s)
    → NamesTexts s
keyword-names n o value s h h2 h3 = grind (arith, passed, set-names)

assigned-names : (base : Option (List ℕ)) (n : ℕ) (option value : List ℕ) (s : Setting) → IsUtf8 value
    → assignment base n option value ≡ Ok s → NamesTexts s
assigned-names base n option value s utf8 is =
    let k : Option Keyword = keyword_of option in
    let all : Bool = list_all is_path (names_in_value k value) && list_all is_path (paths_in base k value) in
    let sound = passed (nat_eq (length option) 0 || (nat_eq (length value) 0 || not all)) (BadLine n) _ s is in
    let bad = or_parts (nat_eq (length value) 0) (not all)
    (or_parts (nat_eq (length option) 0) (nat_eq (length value) 0 || not all) sound.0).1 in
    let pass = and_parts (list_all is_path (names_in_value k value)) (list_all is_path (paths_in base k value))
    (not-false all bad.1) in
    keyword-names n k value s utf8 pass.0 sound.1

entry-names : (base : Option (List ℕ)) (n : ℕ) (text : List ℕ) (s : Setting) → entry base n text ≡ Ok s → NamesTexts s
entry-names base n text s is =
    let sound = passed (not (is_utf8 text)) (BadLine n)
    (assignment base n (text_without_blanks (before_first (λ b. b == 61) text))
    (text_without_blanks (after_first (λ b. b == 61) text))) s is
    in
    let utf8 : IsUtf8 text = IsUtf8-from_is_utf8 text (not-false (is_utf8 text) sound.0) in
    assigned-names base n (text_without_blanks (before_first (λ b. b == 61) text))
    (text_without_blanks (after_first (λ b. b == 61) text)) s
    (trimmed-utf8 (after_first (λ b. b == 61) text) (after-utf8 61 (lit< tt) text utf8)) sound.1

text-names : (base : Option (List ℕ)) (n : ℕ) (text : List ℕ) (ss : List Setting) → text_settings base n text ≡ Ok ss
    → All NamesTexts ss
text-names base n text ss is =
    (elim (is_skipped text) as (λ skipped. (if skipped then Ok [] else (entry base n text >>= (λ s. Ok (s ∷ []))))
    ≡ Ok ss → All NamesTexts ss) [
      | true ↦ λ none. let same : [] ≡ ss = cc in subst (All NamesTexts) same (All-nil NamesTexts)
      | false ↦ λ one.
          let s = given (entry base n text) (λ s. Ok (s ∷ [])) ss one in
          let same : s.0 ∷ [] ≡ ss = let e : Ok (s.0 ∷ []) ≡ Ok ss = s.2 in cc in
          subst (All NamesTexts) same (All-cons NamesTexts s.0 [] (entry-names base n text s.0 s.1)
          (All-nil NamesTexts))
    ]) is

-- ---- all lines

settings-names : (before : List Setting) (n : ℕ) (lines : List (List ℕ)) (ss : List Setting) → All NamesTexts before
    → settings_from before n lines ≡ Ok ss → All NamesTexts ss
settings-names before n [] ss all is = let same : before ≡ ss = cc in subst (All NamesTexts) same all
settings-names before n (line ∷ lines) ss all is =
    let said = given (line_settings (last_value_of base_in before) n line)
    (λ s. settings_from (before ++ s) (n + 1) lines) ss
    is in
    settings-names (before ++ said.0) (n + 1) lines ss
    (All-append NamesTexts before said.0 all
    (text-names (last_value_of base_in before) n (text_without_blanks line) said.0 said.1))
    said.2

-- all values of one option in some settings
module _ {X : Type 0} (P : X → Type 0) (value : Setting → Option X)
    (names : (s : Setting) → NamesTexts s → IfSome (value s) P) where
  all-values : (ss : List Setting) → All NamesTexts ss → All P (filter_map value ss)
  all-values [] all = All-nil P
  all-values (s ∷ ss) all = grind (arith, All-tail, All-cons, All-head, all-values ss (All-tail NamesTexts s ss all))

  last-of : (o : Option X) (xs : List X) → IfSome o P → All P xs → IfSome (last_or o xs) P
  last-of o [] before all = before
  last-of o (x ∷ xs) before all = last-of (Some x) xs (All-head P x xs all) (All-tail P x xs all)

  last-value : (ss : List Setting) → All NamesTexts ss → IfSome (last_value_of value ss) P
  last-value ss all = last-of None (filter_map value ss) tt (all-values ss all)

base-names : (s : Setting) → NamesTexts s → IfSome (base_in s) IsPath
base-names s h = grind arith

abbrev HasTexts : ArchivesLine → Type 0
HasTexts line = All IsUtf8 line.names

archives-names : (s : Setting) → NamesTexts s → IfSome (archives_in s) HasTexts
archives-names s h = grind arith

database-names : (s : Setting) → NamesTexts s → IfSome (database_in s) IsPath
database-names s h = grind arith

mfolder-names : (s : Setting) → NamesTexts s → IfSome (mfolder_in s) (λ line. IsUtf8 line.name)
mfolder-names s h = grind arith

-- ---- under the base that counts

slash-ascii : (i : ℕ) → slice_index (codes "/") i < 128
slash-ascii i = grind arith

under-utf8 : (base : Option (List ℕ)) (as_written : Bool) (name : List ℕ) → IfSome base IsPath → IsUtf8 name
    → IsUtf8 (under base as_written name)
under-utf8 None as_written name is utf8 = utf8
under-utf8 (Some folder) true name is utf8 = utf8
under-utf8 (Some folder) false name is utf8 =
    let slash : IsUtf8 (codes "/") = IsUtf8-from_ascii (codes "/") slash-ascii in
    IsUtf8-append folder (codes "/" ++ name) is.text (IsUtf8-append (codes "/") name slash utf8)

module _ (base : Option (List ℕ)) (is_base : IfSome base IsPath) where
  archive-utf8 : (names : List (List ℕ)) → All IsUtf8 names → All IsUtf8 (map (archive_path base) names)
  archive-utf8 [] all = All-nil IsUtf8
  archive-utf8 (name ∷ names) all =
      All-cons IsUtf8 (archive_path base name) (map (archive_path base) names)
      (under-utf8 base (starts_with nat_eq name (codes "/")) name is_base (All-head IsUtf8 name names all))
      (archive-utf8 names (All-tail IsUtf8 name names all))

  fitting-archives : (archives : List ArchivesLine) → All HasTexts archives
      → slice_get (filter_map (archives_misfit base) archives) 0 ≡ None
      → All IsPath (all_paths base archives)
  fitting-archives [] all none = All-nil IsPath
  fitting-archives (line ∷ archives) all none =
      let here : List (List ℕ) = map (archive_path base) line.names in
      let texts : All IsUtf8 here = archive-utf8 line.names (All-head HasTexts line archives all) in
      (elim (list_all is_path here) as (λ fit. list_all is_path here ≡ fit
      → slice_get (cons_option (if fit then None else Some line.number) (filter_map (archives_misfit base) archives)) 0
      ≡ None
      → All IsPath (here ++ all_paths base archives)) [
        | true ↦ λ fit none. All-append IsPath here (all_paths base archives) (paths-from here texts fit)
            (fitting-archives archives (All-tail HasTexts line archives all) none)
        | false ↦ λ _ none. absurd cc
      ]) refl none

  fitting-mfolder : (line : MfolderLine) → IsUtf8 line.name → mfolder_misfit base line ≡ None
      → IsPath (mfolder_path base line.name)
  fitting-mfolder line utf8 none = grind (arith, path-from, under-utf8)

-- ---- the whole

neither : (a b : Option ℕ) → earlier a b ≡ None → (a ≡ None) × (b ≡ None)
neither a b h = grind arith

all-fit : (o : Option ℕ) → all_fit o ≡ Ok tt → o ≡ None
all-fit o h = grind arith

required-is : {A : Type 0} (option : Name) (o : Option A) (a : A) → required_value option o ≡ Ok a → o ≡ Some a
required-is option o a h = grind arith

any-is : (paths some : List (List ℕ)) → paths_if_any paths ≡ Some some → paths ≡ some
any-is paths some h = grind arith

-- all that an rcfile names can be paths
record AllPaths (r : Rc) : Type 0 where
  base : IfSome r.base IsPath
  paths : All IsPath r.paths
  database : IsPath r.database
  mfolder : IsPath r.mfolder

-- what the options say
module _ (base : Option (List ℕ)) (archives : List ArchivesLine) (database : Option (List ℕ))
    (mfolder : Option MfolderLine) (format : Option MailFormat)
    (is_base : IfSome base IsPath) (are_archives : All HasTexts archives) (is_database : IfSome database IsPath)
    (is_mfolder : IfSome mfolder (λ line. IsUtf8 line.name)) where
  rc-paths : (r : Rc) → rc_with base archives database mfolder format ≡ Ok r → AllPaths r
  rc-paths r is =
      let fit = given (all_fit (first_misfit base archives mfolder))
      (λ _. rc_fitting base archives database mfolder format) r is in
      let paths = given (required_value name.Mbox (paths_if_any (all_paths base archives))) _ r fit.2 in
      let index = given (required_value name.Database database) _ r paths.2 in
      let line = given (required_value name.Mfolder mfolder) _ r index.2 in
      let none = neither (slice_get (filter_map (archives_misfit base) archives) 0)
      (option_and_then (mfolder_misfit base) mfolder) (all-fit (first_misfit base archives mfolder) fit.1) in
      let same_paths : all_paths base archives ≡ paths.0 =
      any-is (all_paths base archives) paths.0
      (required-is name.Mbox (paths_if_any (all_paths base archives)) paths.0 paths.1) in
      let is_line : mfolder ≡ Some line.0 = required-is name.Mfolder mfolder line.0 line.1 in
      let built : Rc = record {
        base = base;
        paths = paths.0;
        database = index.0;
        mfolder =
            mfolder_path base (line.0).name;
        format = unwrap_or format mail.Mbox;
      } in
      let same : built ≡ r = cc in
      subst AllPaths same (record {
        base = is_base;
        paths = subst (All IsPath) same_paths (fitting-archives base is_base archives are_archives none.0);
        database = subst (λ (o : Option (List ℕ)). IfSome o IsPath) (required-is name.Database database index.0 index.1)
            is_database;
        mfolder = fitting-mfolder base is_base line.0
            (subst (λ (o : Option MfolderLine). IfSome o (λ line. IsUtf8 line.name)) is_line is_mfolder)
            (ap (option_and_then (mfolder_misfit base)) (sym is_line) ∙ none.1);
      })

settings-paths : (ss : List Setting) (r : Rc) → All NamesTexts ss → rc_from ss ≡ Ok r → AllPaths r
settings-paths ss r all is =
    rc-paths (last_value_of base_in ss) (filter_map archives_in ss) (last_value_of database_in ss)
    (last_value_of mfolder_in ss)
    (last_value_of format_in ss)
    (last-value IsPath base_in base-names ss all) (all-values HasTexts archives_in archives-names ss all)
    (last-value IsPath database_in database-names ss all)
    (last-value (λ line. IsUtf8 line.name) mfolder_in mfolder-names ss all) r is

-- all that an accepted rcfile names can be paths
rc-all-paths : (rc : List ℕ) (r : Rc) → rc_of rc ≡ Ok r → AllPaths r
rc-all-paths rc r is =
    let settings = given (settings_from [] 1 (lines_in rc)) rc_from r is in
    settings-paths settings.0 r (settings-names [] 1 (lines_in rc) settings.0 (All-nil NamesTexts) settings.1)
    settings.2

pub paths-are-paths : (rc : List ℕ) (r : Rc) → rc_of rc ≡ Ok r → All IsPath r.paths
paths-are-paths rc r is = let all = rc-all-paths rc r is in all.paths

-- the same of what the reader returns
module _ (rc : List ℕ) where
  read-all : (result : Result Rc (OrMemory RcFault)) → Gives (λ r. r) refusal result (rc_of rc) → IfOk result AllPaths
  read-all (Ok r) gives = rc-all-paths rc r gives
  read-all (Err fault) gives = tt

  read-each : (P : Rc → Type 0) → ((r : Rc) → AllPaths r → P r) → (result : Result Rc (OrMemory RcFault))
      → Gives (λ r. r) refusal result (rc_of rc) → IfOk result P
  read-each P h result h2 = grind (arith, read-all)

  pub read-base : (result : Result Rc (OrMemory RcFault)) → Gives (λ r. r) refusal result (rc_of rc)
      → IfOk result (λ r. IfSome r.base IsPath)
  read-base result gives = read-each (λ r. IfSome r.base IsPath) (λ r all. all.base) result gives

  pub read-paths : (result : Result Rc (OrMemory RcFault)) → Gives (λ r. r) refusal result (rc_of rc)
      → IfOk result (λ r. All IsPath r.paths)
  read-paths result gives = read-each (λ r. All IsPath r.paths) (λ r all. all.paths) result gives

  pub read-database : (result : Result Rc (OrMemory RcFault)) → Gives (λ r. r) refusal result (rc_of rc)
      → IfOk result (λ r. IsPath r.database)
  read-database result gives = read-each (λ r. IsPath r.database) (λ r all. all.database) result gives

  pub read-mfolder : (result : Result Rc (OrMemory RcFault)) → Gives (λ r. r) refusal result (rc_of rc)
      → IfOk result (λ r. IsPath r.mfolder)
  read-mfolder result gives = read-each (λ r. IsPath r.mfolder) (λ r all. all.mfolder) result gives
