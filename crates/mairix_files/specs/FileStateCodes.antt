-- How the logic stores the state of a file.
use Rattle.std.specs.Prelude.{ℕ, ℤ, refl}
use Rattle.std.specs.Coded.{Coded, code_by, coded×, coded_ℕ, coded_ℤ}
use Rattle.mairix_files.specs.declared.file_state.FileState.{FileState}

-- what is stored of a state: the file's device, inode and length, and its two times
abbrev FileStateParts : Type 0
FileStateParts = ℕ × (ℕ × (ℕ × ((ℤ × ℤ) × (ℤ × ℤ))))

-- the parts of a state
abbrev parts_of_file_state : FileState → FileStateParts
parts_of_file_state s = (s.device, (s.inode, (s.length, (s.written, s.changed))))

-- the state of these parts
abbrev file_state_of_parts : FileStateParts → FileState
file_state_of_parts p = record {
  device = p.0;
  inode = p.1.0;
  length = p.1.1.0;
  written = p.1.1.1.0;
  changed = p.1.1.1.1;
}

-- how the logic stores a state, by its parts
abbrev pub file_state_code : Coded FileState
file_state_code =
    code_by FileStateParts (coded× coded_ℕ (coded× coded_ℕ (coded× coded_ℕ
    (coded× (coded× coded_ℤ coded_ℤ) (coded× coded_ℤ coded_ℤ))))) parts_of_file_state file_state_of_parts (λ _. refl)
