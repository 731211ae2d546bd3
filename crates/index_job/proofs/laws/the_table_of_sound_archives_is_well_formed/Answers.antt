-- The table of sound archives is well-formed, because its records and its keys are: `sound-table`.
use Rattle.index_job.proofs.SoundTables.Whole.{sound-table}
use Rattle.index_job.proofs.laws.the_table_of_sound_archives_is_well_formed.Goals as goal

pub returns : goal.returns
returns c = sound-table
