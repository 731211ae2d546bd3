-- The texts that describe what is wrong with bytes that aren't an index file.
use Rattle.std.specs.Prelude.{ℕ, List, ◌++◌, codes}
use Rattle.mail_index.specs.declared.view.fault.IndexFault.{IndexFault}
use Rattle.mail_index.specs.declared.view.fault.IndexFault.TheVariants.{TooShort, BadMagic, BadVersion, BadDigest}
use Rattle.mail_index.specs.declared.view.fault.IndexFault.TheVariants.{BadLayout}
use Rattle.mail_index.specs.declared.view.fault.Section.{Section}
use Rattle.mail_index.specs.declared.view.fault.Section.TheVariants.{Counts, Archives, Records, Directory, Postings}

-- the name of a section
abbrev pub text_of_section : Section → List ℕ
text_of_section Counts = codes "counts"
text_of_section Archives = codes "archives"
text_of_section Records = codes "records"
text_of_section Directory = codes "directory"
text_of_section Postings = codes "postings"

-- the text of a fault
abbrev pub text_of_index : IndexFault → List ℕ
text_of_index TooShort = codes "too short"
text_of_index BadMagic = codes "bad magic"
text_of_index BadVersion = codes "unknown version"
text_of_index BadDigest = codes "bad digest"
text_of_index (BadLayout section) = codes "bad layout in " ++ text_of_section section
