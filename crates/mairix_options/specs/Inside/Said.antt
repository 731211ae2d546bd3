-- What the settings so far say of each option.
use Rattle.std.specs.Prelude.{◌≡◌, ℕ, List, Result}
use Rattle.std.specs.List.{filter_map}
use Rattle.mairix_options.specs.Rcfile.{base_in, archives_in, database_in, mfolder_in, format_in, last_value_of}
use Rattle.mairix_options.specs.Rcfile.{lines_in}
use Rattle.mairix_options.specs.Rcfile.{settings_from, rc_from}
use Rattle.contract_words.specs.Answers.{◌>>=◌}
use Rattle.mairix_options.specs.declared.rcfile.Rc.{Rc}
use Rattle.mairix_options.specs.declared.rcfile.RcFault.{RcFault}
use Rattle.mairix_options.specs.declared.rcfile.Said.{Said}
use Rattle.mairix_options.specs.declared.setting.Setting.{Setting}

-- a record has what these settings say: all lines of `mbox`, and the last of each other option
abbrev pub Says : List Setting → Said → Type 0
Says settings said =
    (said.base ≡ last_value_of base_in settings)
    × (said.archives.items ≡ filter_map archives_in settings)
    × (said.database ≡ last_value_of database_in settings)
    × (said.mfolder ≡ last_value_of mfolder_in settings)
    × (said.format ≡ last_value_of format_in settings)

-- what some settings say together with all lines of an rcfile after them
abbrev pub rc_after : List Setting → List ℕ → Result Rc RcFault
rc_after before rc = settings_from before 1 (lines_in rc) >>= rc_from
