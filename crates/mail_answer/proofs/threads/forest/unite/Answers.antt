-- `unite` joins two trees, because it hangs the later root at the earlier one.
use Rattle.mail_answer.proofs.Words.{◌∙◌, sym, arith}
use Rattle.mail_answer.proofs.ThreadLaws.ThreadLemmas.{back_again}
use Rattle.mail_answer.proofs.ThreadLaws.ForestLemmas.{shorter_still}
use Rattle.mail_answer.proofs.ThreadLaws.JoinLemmas.{hung, roots_linked}
use Rattle.mail_answer.proofs.threads.forest.unite.Goals as goal

pub returns-then-first-second : goal.returns-then-first-second
returns-then-first-second c =
    hung _ _ _ _ _
    _
    (shorter_still _ _ _
    c.root_of-first.ensures.shortened c.root_of-second.ensures.shortened)
    (omega arith) (omega arith) c.root_of-second.ensures.root
    (λ label labels same. c.root_of-first.ensures.same label (c.root_of-second.ensures.shortened.labels label labels)
    ∙ sym same ∙ sym (c.root_of-second.ensures.same label labels))
    (λ t stays linked.
    back_again t _ _
    (roots_linked t _ _ _ _
    (c.root_of-first.ensures.thread t stays)
    (c.root_of-second.ensures.thread t (c.root_of-first.ensures.shortened.threads t stays)) linked))

pub returns-else-first-second : goal.returns-else-first-second
returns-else-first-second c =
    hung _ _ _ _ _
    _
    (shorter_still _ _ _
    c.root_of-first.ensures.shortened c.root_of-second.ensures.shortened)
    (omega arith) (omega arith) (c.root_of-second.ensures.shortened.roots c.root_of-first.result (omega arith)
    c.root_of-first.ensures.root)
    (λ label labels same. c.root_of-first.ensures.same label (c.root_of-second.ensures.shortened.labels label labels)
    ∙ same ∙ sym (c.root_of-second.ensures.same label labels))
    (λ t stays linked.
    roots_linked t _ _ _ _
    (c.root_of-first.ensures.thread t stays)
    (c.root_of-second.ensures.thread t (c.root_of-first.ensures.shortened.threads t stays)) linked)
