-- States of files.
use Rattle.system.specs.declared.found.Found.{Found}
use Rattle.mairix_files.specs.declared.file_state.FileState.{FileState}

-- the state in which a file was found
abbrev pub state_by_look : Found → FileState
state_by_look found = record {
  device = found.device;
  inode = found.inode;
  length = found.length;
  written = (found.written.seconds, found.written.nanoseconds);
  changed = (found.changed.seconds, found.changed.nanoseconds);
}
