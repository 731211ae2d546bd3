-- An open file supposes the bytes to which its name leads by what is supposed and by the calls so far.
use Rattle.mairix_files.specs.KitFiles.{only}
use Rattle.named_files.specs.Entries.{bytes_of}
use Rattle.mairix_files.specs.NameCalls.{supposed_now}
use Rattle.mairix_files.proofs.kit_folder.KitFolder.file_of.Given as goal

-- what is supposed of an open file is what its name leads to
abbrev pub ghost-supposing : goal.ghost-supposing
ghost-supposing g a = only (bytes_of (supposed_now a._supposed.now a._calls.now.done a._name.now))
