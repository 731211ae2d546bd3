-- The other tables of sound archives are well-formed, because they differ only in digests and in keys of names.
use Rattle.mairix_tool.proofs.TableLaws.Formed.{old-formed, otherwise-formed}
use Rattle.mairix_tool.proofs.laws.other_tables_of_sound_archives_are_well_formed.Goals as goal

pub returns-clause-before : goal.returns-clause-before
returns-clause-before c = λ archives paths sound. old-formed archives paths sound

pub returns-clause-otherwise : goal.returns-clause-otherwise
returns-clause-otherwise c = λ archives t paths sound same digests. otherwise-formed archives paths sound t same digests
