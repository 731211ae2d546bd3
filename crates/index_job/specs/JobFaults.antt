-- The faults of adding an archive to a job: what causes each, and whether the source has failed.
use Rattle.std.specs.Prelude.{Bool, true, false, Result, Err}
use Rattle.mail_index.specs.declared.build.build_fault.BuildFault.{BuildFault}
use Rattle.mail_index.specs.declared.build.build_fault.BuildFault.TheVariants as build
use Rattle.mbox_cutter.specs.declared.event.CutFault.TheVariants.{Device}
use Rattle.mime_text.specs.declared.fault.SinkFault.{SinkFault}
use Rattle.mime_text.specs.declared.fault.SinkFault.TheVariants as sink
use Rattle.mime_text.specs.declared.fault.TextFault.{TextFault}
use Rattle.mime_text.specs.declared.fault.TextFault.TheVariants as text
use Rattle.index_job.specs.declared.job_fault.JobFault.{JobFault}
use Rattle.index_job.specs.declared.job_fault.JobFault.TheVariants.{Cut, OutOfMemory, TooMany, Failed}

-- the fault of a job for a fault of its builder
abbrev pub of_build : BuildFault → JobFault
of_build build.OutOfMemory = OutOfMemory
of_build build.TooMany = TooMany
of_build build.Failed = Failed

-- the fault of a job for a refusal of the sink that gathers terms
abbrev pub of_sink : SinkFault → JobFault
of_sink sink.OutOfMemory = OutOfMemory
of_sink sink.Refused = TooMany

-- the fault of a job for a fault of the reader of a message's text
abbrev pub of_text : TextFault → JobFault
of_text text.OutOfMemory = OutOfMemory
of_text (text.Sink fault) = of_sink fault
of_text text.Failed = Failed

-- whether the call failed because the source did
abbrev pub is_source_failure : {T : Type 0} → Result T JobFault → Bool
is_source_failure (Err (Cut Device)) = true
is_source_failure _ = false
