-- The names of std and of the definitions that proofs use, all from one place.
pub use Rattle.contract_words.specs.Knowledge.{AreStillKnown}
pub use Rattle.index_job.specs.ArchiveRefusals.{AreSound, IsTooMuch, IsWithinLimit}
pub use Rattle.index_job.specs.ArchiveTables.{Mbox, all_messages, entry_of_archive, messages_in, table, with_messages}
pub use Rattle.index_job.specs.IndexJobs.{IsAddFault, IsAdded, IsIndexOf, Job}
pub use Rattle.index_run.specs.ArchivesIndexed.{IsArchivesFault, Parted, RefusesArchives, run_fault_of_job, mboxes}
pub use Rattle.mail_index.specs.Limits.{most_in_archive, most_in_index}
pub use Rattle.mail_index.specs.Tables.{IsPath}
pub use Rattle.mbox_cutter.specs.Events.{archive_refusal}
pub use Rattle.mbox_cutter.specs.declared.event.CutFault.{CutFault}
pub use Rattle.run_faults.specs.Faults.{is_failed_source}
pub use Rattle.run_faults.specs.declared.fault.Fault.{Fault}
pub use Rattle.std.proofs.Common.{All, List, None, Some, [], ap, append-nil, append_assoc, arith, drop, drop-cons, false, get_or, inl, inr, length, map, refl, string_bytes, subst, suc, sym, take, zero, ℕ, ⊎_elim, ◌++◌, ◌+◌, ◌<◌, ◌∙◌, ◌∷◌, ◌≡◌, ◌≤◌}
pub use Rattle.std.proofs.Math.Seq.{get_or-append_seam, map-set_same}
pub use Rattle.std.proofs.lemmas.Bool.Decides.{eqb_tells, leb_tells}
pub use Rattle.std.proofs.lemmas.List.{get_or-map, length-append, length-map, length-take-le, take-append-drop, take_all, take_more}
pub use Rattle.std.proofs.lemmas.List.Elements.{All-append, All-cons, All-get_or, All-nil}
pub use Rattle.std.specs.Prelude.{Err, Ok, ◌≢◌, ◌⊎◌}
