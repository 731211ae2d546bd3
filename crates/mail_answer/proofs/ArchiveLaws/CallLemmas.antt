-- What two calls do to archives and to an output, one after the other, is what one call may do.
use Rattle.mail_answer.proofs.Words.{◌∙◌, refl, HoldsArchives, KeepsArchives, Ghosts}
use Rattle.mail_answer.proofs.ArchiveLaws.KnowledgeLemmas.{was_known_self, was_known_join}

pub keeps_self : {A : Type 0} (g : Ghosts A) (a : A) → KeepsArchives g a a
keeps_self g a = record { held = was_known_self _; was = λ first w. w; number = refl; asked = refl }

pub keeps_join : {A : Type 0} (g : Ghosts A) (a b c : A) → KeepsArchives g a b → KeepsArchives g b c
    → KeepsArchives g a c
keeps_join g a b c h k = record {
  held = was_known_join _ _ _ h.held k.held;
  was = λ first w. k.was first (h.was first w);
  number = k.number ∙ h.number;
  asked = k.asked ∙ h.asked;
}

pub holds_self : {A : Type 0} (g : Ghosts A) (a : A) → HoldsArchives g a a
holds_self g a = record { held = was_known_self _; was = λ first w. w; number = refl }

pub holds_join : {A : Type 0} (g : Ghosts A) (a b c : A) → HoldsArchives g a b → HoldsArchives g b c
    → HoldsArchives g a c
holds_join g a b c h k = record {
  held = was_known_join _ _ _ h.held k.held;
  was = λ first w. k.was first (h.was first w);
  number = k.number ∙ h.number;
}
